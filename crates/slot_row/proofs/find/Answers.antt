use mathlib.Core.Path.{◌≡◌, sym, ◌∙◌, ap}
use native.Mathlib.Omega.{arith}
use lib.ListN.{length}
use borrow.Author.Tests.{eqb-true, eqb-false}
use Rattle.slots.specs.Sizes.{most_names}
use Rattle.slots.proofs.NameLaws.{searched_end, searched_here, searched_more}
use Rattle.slots.proofs.TableLaws.{length_table, no_more, held_none, held_some}
use Rattle.slot_row.proofs.find.Goals.{then-is_empty-via-then-is_empty, then-is_empty-via-else-is_empty+then-matches}
use Rattle.slot_row.proofs.find.Goals as goal

pub name_at-held-requires : goal.name_at-held-requires
name_at-held-requires c = let e = c.requires in (length_table most_names e.0 _ e.1, c.loop-i-test.true)

pub returns-then-is_empty : goal.returns-then-is_empty
returns-then-is_empty c = λ t h.
    let s = c.loop-i.invariant t h in
    let i = c.loop-i.i in
    let held = c.name_at-held in
    elim c.then-is_empty.branch [
      | then-is_empty-via-then-is_empty w ↦
          searched_end _ t i s (held_none most_names t _ h i s.low c.loop-i-test.true (ap length (sym held.ensures) ∙ eqb-true _ 0 (sym c.is_empty.ensures ∙ w.if-is_empty.true)))
      | then-is_empty-via-else-is_empty+then-matches w ↦
          let e = held_some most_names t _ h i s.low c.loop-i-test.true (λ none. eqb-false _ 0 (sym c.is_empty.ensures ∙ w.if-is_empty.false) (ap length held.ensures ∙ none)) in
          searched_here _ t i s e.entry e.later e.at (sym (w.matches.ensures.if_true w.if-matches.true ∙ held.ensures ∙ e.name))
    ]

pub loop-i-preserved : goal.loop-i-preserved
loop-i-preserved c = λ t h.
    let s = c.loop-i.invariant t h in
    let held = c.name_at-held in
    let e = held_some most_names t _ h c.loop-i.i s.low c.loop-i-test.true (λ none. eqb-false _ 0 (sym c.is_empty.ensures ∙ c.if-is_empty.false) (ap length held.ensures ∙ none)) in
    searched_more _ t c.loop-i.i s e.entry e.later e.at (λ same. c.matches.ensures.if_false c.if-matches.false (sym (held.ensures ∙ e.name ∙ same)))

pub returns : goal.returns
returns c = λ t h.
    let s = c.loop-i.invariant t h in
    let all : c.loop-i.i ≡ 64 = omega arith in
    sym all ∙ searched_end _ t c.loop-i.i s (no_more most_names t _ h c.loop-i.i s.low c.loop-i-test.false)
