use Prim.Native.Nat.{ℕ, ◌-◌}
use mathlib.Core.Path.{◌≡◌, sym, ◌∙◌}
use mathlib.Core.List.{List}
use native.Mathlib.Omega.{arith}
use borrow.Author.Rules.{rules}
use Rattle.slots.specs.Form.{TableEntry}
use Rattle.slots.proofs.NameLaws.{Searched, searched_none}
use Rattle.book_replay.specs.Judging.{Kept, head_of}
use Rattle.book_replay.proofs.HeadLaws.{kept_within, found_here, found_later, found_nowhere}
use Rattle.book_replay.proofs.judge.index_of.Goals as goal

pub loop-j-init : goal.loop-j-init
loop-j-init c = λ t k n own. searched_none n t

pub overflow_cast-numbers : goal.overflow_cast-numbers
overflow_cast-numbers c = omega (arith, kept_within _ _ _ _ c.requires.2.0 c.requires.1 c.requires.2.1 _ c.loop-j-test.true c.requires.0)

pub is_head-requires : goal.is_head-requires
is_head-requires c = kept_within _ _ _ _ c.requires.2.0 c.requires.1 c.requires.2.1 _ c.loop-j-test.true c.requires.0

pub returns-then-is_head : goal.returns-then-is_head
returns-then-is_head c = λ t k n own. found_here _ _ _ _ t c.requires.1 k n _ own _ (c.loop-j.invariant t k n own) c.loop-j-test.true (sym c.is_head.ensures ∙ c.if-is_head.true)

pub loop-j-preserved : goal.loop-j-preserved
loop-j-preserved c = λ t k n own. found_later _ _ _ _ t c.requires.1 k n _ own _ (c.loop-j.invariant t k n own) c.loop-j-test.true (sym c.is_head.ensures ∙ c.if-is_head.false)

pub returns : goal.returns
returns c = λ t k n own. found_nowhere _ _ _ _ t c.requires.1 k n _ (c.loop-j.invariant t k n own) c.loop-j-test.false
