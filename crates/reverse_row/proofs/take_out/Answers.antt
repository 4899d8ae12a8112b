use Prim.Native.Nat.{◌+◌, ◌*◌, ◌≤◌, ◌<◌}
use mathlib.Core.Path.{◌≡◌, sym, ap, ◌∙◌}
use native.Mathlib.Omega.{arith}
use lib.ListN.{length}
use borrow.Author.Rules.{rules}
use borrow.Author.Tests.{not-true, not-false}
use Rattle.base.proofs.Tests.{by_ltb, eq_eq_bytes, ne_eq_bytes}
use Rattle.name.proofs.NameLaws.{length_canonical}
use Rattle.name.proofs.WireLaws.{proper_some}
use Rattle.reverse.specs.Sizes.{most_addresses, reverse_slot_size}
use Rattle.reverse.proofs.SideLaws.{length_side, in_slot, unused_slot, taken_nowhere, taken_other, taken_this, place_low}
use Rattle.reverse_row.proofs.HeldLaws.{held_name, no_name}
use Rattle.reverse_row.proofs.take_out.Goals.{Else-i-eq-SLOTS}
use Rattle.reverse_row.proofs.take_out.Goals as goal

pub returns-then-i-eq-SLOTS : goal.returns-then-i-eq-SLOTS
returns-then-i-eq-SLOTS c = λ rs h.
    let a = c.args in
    let f = a.family in
    let x = a.address.now in
    taken_nowhere most_addresses rs a.reverse.now h f x _ (omega (arith, c.if-i-eq-SLOTS.true, c.find-i.ensures rs h, place_low f x rs, h.room))

-- there is a slot at the index that was found
below : (f : Else-i-eq-SLOTS) → f.find-i.result < most_addresses
below f =
    let p = f.requires.0 in
    omega (arith, f.if-i-eq-SLOTS.false, f.find-i.ensures p.0 p.1, place_low f.args.family f.args.address.now p.0, p.1.room)

-- and all of it
within : (f : Else-i-eq-SLOTS) → reverse_slot_size * f.find-i.result + reverse_slot_size ≤ length f.args.reverse.now
within f = let p = f.requires.0 in omega (arith, below f, length_side most_addresses p.0 _ p.1)

pub overflow_mul-at : goal.overflow_mul-at
overflow_mul-at c = omega (arith, below c)

pub overflow_add-start : goal.overflow_add-start
overflow_add-start c = omega (arith, below c)

pub overflow_add-end : goal.overflow_add-end
overflow_add-end c = omega (arith, below c)

pub bounds-reverse-at : goal.bounds-reverse-at
bounds-reverse-at c = omega (arith, within (goal.at.bounds-reverse-at c).Else-i-eq-SLOTS)

pub overflow_cast-end : goal.overflow_cast-end
overflow_cast-end c = omega (arith, c.slice_known-2-1.given (reverse_slot_size * c.find-i.result + 17))

pub overflow_add-end-2 : goal.overflow_add-end-2
overflow_add-end-2 c = omega (arith, below (goal.at.overflow_add-end-2 c).Else-i-eq-SLOTS, c.slice_known-2-1.given (reverse_slot_size * c.find-i.result + 17))

pub slice_bounds-matches-end : goal.slice_bounds-matches-end
slice_bounds-matches-end c = omega (arith, within (goal.at.slice_bounds-matches-end c).Else-i-eq-SLOTS, c.slice_known-2-1.given (reverse_slot_size * c.find-i.result + 17))

pub returns-then-not-matches : goal.returns-then-not-matches
returns-then-not-matches c = λ rs h.
    let differs = c.matches.ensures.if_false c.if-not-matches.true in
    let a = c.args in
    let b = a.reverse.now in
    let i = c.find-i.result in
    let is = c.find-i.ensures rs h in
    let f = a.family in
    let x = a.address.now in
    by_ltb i (length rs)
    (λ used.
    let s = in_slot most_addresses rs b h i used in
    taken_other most_addresses rs b h f x i is used _ (ne_eq_bytes _ _ (λ same. differs (sym (held_name b (reverse_slot_size * i) s.entry s.well_formed s.slot ∙ same)))))
    (λ last. taken_nowhere most_addresses rs b h f x _ (omega (arith, is, last, place_low f x rs)))

pub close_up-requires : goal.close_up-requires
close_up-requires c = omega (arith, within (goal.at.close_up-requires c).Else-i-eq-SLOTS)

pub returns : goal.returns
returns c = λ rs h.
    let same = c.matches.ensures.if_true c.if-not-matches.false in
    let a = c.args in
    let b = a.reverse.now in
    let i = c.find-i.result in
    let is = c.find-i.ensures rs h in
    let f = a.family in
    let x = a.address.now in
    let n = a.name.now in
    by_ltb i (length rs)
    (λ used.
    let s = in_slot most_addresses rs b h i used in
    c.close_up.ensures
    ∙ taken_this most_addresses rs b h f x i is used _ (eq_eq_bytes _ _ (sym (same ∙ held_name b (reverse_slot_size * i) s.entry s.well_formed s.slot))))
    (λ last.
    let here : i ≡ length rs = omega (arith, is, last, place_low f x rs) in
    let unused = unused_slot most_addresses rs b h (omega (arith, here, below (goal.at.returns c).Else-i-eq-SLOTS)) in
    absurd (omega (arith, proper_some n c.requires.2, length_canonical n, ap length (same ∙ no_name b (reverse_slot_size * i) (rw here unused)))))
