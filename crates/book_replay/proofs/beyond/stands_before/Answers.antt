use Prim.Native.Nat.{ℕ, ◌*◌, ◌≤◌}
use mathlib.Core.Path.{◌≡◌, sym, ◌∙◌}
use mathlib.Core.List.{List}
use mathlib.Core.Option.{none}
use native.Mathlib.Omega.{arith}
use lib.ListN.{take}
use Rattle.book.specs.Notes.{Note}
use Rattle.book.specs.LastNote.{last_said}
use Rattle.book.specs.Books.{Right}
use Rattle.book_replay.specs.Judging.{head_of}
use Rattle.book_replay.proofs.SoughtLaws.{sought_none, sought_end, down_later, down_here, down_within}
use Rattle.book_replay.proofs.beyond.stands_before.Goals as goal

pub loop-j-init : goal.loop-j-init
loop-j-init c = (omega arith, λ cs right n own. sought_none c.args.book.now c.args.i c.requires.0 cs right n)

pub overflow_sub-j : goal.overflow_sub-j
overflow_sub-j c = omega (arith, c.loop-j-test.true)

pub is_head-requires : goal.is_head-requires
is_head-requires c = down_within c.args.book.now c.args.i c.loop-j.j c.requires.0 c.loop-j-test.true c.loop-j.invariant.0

pub overflow_mul-result : goal.overflow_mul-result
overflow_mul-result c = omega (arith, down_within c.args.book.now c.args.i c.loop-j.j c.requires.0 c.loop-j-test.true c.loop-j.invariant.0)

pub overflow_add-result : goal.overflow_add-result
overflow_add-result c = omega (arith, down_within c.args.book.now c.args.i c.loop-j.j c.requires.0 c.loop-j-test.true c.loop-j.invariant.0)

pub bounds-book-j : goal.bounds-book-j
bounds-book-j c = omega (arith, down_within c.args.book.now c.args.i c.loop-j.j c.requires.0 c.loop-j-test.true c.loop-j.invariant.0)

pub returns-then-is_head : goal.returns-then-is_head
returns-then-is_head c = λ cs right n own. down_here c.args.book.now c.args.i c.requires.0 cs right n c.args.head.now own c.loop-j.j c.loop-j-test.true c.loop-j.invariant.0 (c.loop-j.invariant.1 cs right n own) (sym c.is_head.ensures ∙ c.if-is_head.true)

pub loop-j-smaller : goal.loop-j-smaller
loop-j-smaller c = omega (arith, c.loop-j-test.true)

pub loop-j-preserved : goal.loop-j-preserved
loop-j-preserved c = (omega (arith, c.loop-j.invariant.0), λ cs right n own. down_later c.args.book.now c.args.i c.requires.0 cs right n c.args.head.now own c.loop-j.j c.loop-j-test.true c.loop-j.invariant.0 (c.loop-j.invariant.1 cs right n own) (sym c.is_head.ensures ∙ c.if-is_head.false))

pub returns : goal.returns
returns c = λ cs right n own. sought_end c.args.book.now c.args.i c.requires.0 cs right n c.loop-j.j c.loop-j-test.false (c.loop-j.invariant.1 cs right n own)
