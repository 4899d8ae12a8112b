use mathlib.Core.Path.{◌≡◌, sym, ap₂, ◌∙◌}
use native.Mathlib.Omega.{arith}
use Rattle.base.specs.Bytes.{eq_bytes}
use Rattle.base.proofs.Tests.{yes_by, no_by}
use Rattle.slots.specs.Sizes.{most_names}
use Rattle.slots.proofs.FirstLaws.{first_there, stands_before, not_there}
use Rattle.slots.proofs.TableLaws.{length_table}
use Rattle.slot_row.proofs.is_first.Goals as goal

pub name_at-name-requires : goal.name_at-name-requires
name_at-name-requires c = let p = c.requires in (length_table most_names p.0.0 _ p.0.1, p.1)

pub name_at-requires : goal.name_at-requires
name_at-requires c =
    let p = c.requires in
    (length_table most_names p.0.0 _ p.0.1, omega (arith, p.1, c.loop-j-test.true))

pub returns-then-same : goal.returns-then-same
returns-then-same c = λ t h e r cut.
    let names = ap₂ eq_bytes c.name_at.ensures c.name_at-name.ensures in
    no_by (stands_before most_names t _ h _ e r cut c.loop-j.j c.loop-j-test.true (c.loop-j.invariant t h e r cut) (sym (c.same.ensures ∙ names) ∙ c.if-same.true))

pub loop-j-preserved : goal.loop-j-preserved
loop-j-preserved c = λ t h e r cut.
    let names = ap₂ eq_bytes c.name_at.ensures c.name_at-name.ensures in
    not_there most_names t _ h _ e r cut c.loop-j.j c.loop-j-test.true (c.loop-j.invariant t h e r cut) (sym (c.same.ensures ∙ names) ∙ c.if-same.false)

pub returns : goal.returns
returns c = λ t h e r cut.
    let all : c.loop-j.j ≡ c.args.i = omega arith in
    yes_by (first_there most_names t _ h _ e r cut (rw (sym all) (c.loop-j.invariant t h e r cut)))
