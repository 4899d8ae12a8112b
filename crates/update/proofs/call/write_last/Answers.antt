use Prim.Native.Nat.{ℕ, ◌≤◌}
use mathlib.Core.Bool.{true, false, false≢true}
use mathlib.Core.Path.{◌≡◌, refl, sym, ap, ◌∙◌}
use mathlib.Core.Logic.{inl, inr}
use mathlib.Core.List.{List}
use Rattle.base.specs.Bytes.{overlay}
use native.Mathlib.Omega.{arith}
use borrow.Author.Tests.{not-true, not-false}
use lib.ListN.{length, take}
use Rattle.base.specs.Dhcid.{well_formed}
use Rattle.base.specs.declared.Answer.TheVariants.{Accepted}
use Rattle.base.proofs.DhcidLaws.{dhcid_length}
use Rattle.name.specs.Name.{canonical}
use Rattle.name.proofs.NameLaws.{length_canonical}
use Rattle.name.proofs.WireLaws.{proper_short}
use Rattle.update.specs.Calls.{InZone, Written, called_last}
use Rattle.update.specs.Message.{message_bytes}
use Rattle.update.specs.Promise.{last_length}
use Rattle.update.proofs.LengthLaws.{last_long}
use Rattle.update.specs.Updates.{remove_second}
use Rattle.update.proofs.RestLaws.{owner_is}
use borrow.Author.Rules.{rules}
use Rattle.update.proofs.call.write_last.Goals.{Else-not-is_in_zone, Else-not-is_well_formed}
use Rattle.update.proofs.call.write_last.Goals as goal

-- behind the first test and the second
placed : (c : Else-not-is_in_zone) → let a = c.args in InZone a.name.now a.zone.now
placed c = c.is_in_zone.ensures.decides.if_true c.if-not-is_in_zone.false

formed : (c : Else-not-is_well_formed) → well_formed c.args.dhcid.now ≡ true
formed c = let w = c.is_well_formed in sym w.ensures ∙ c.if-not-is_well_formed.false

-- the owner that is lent
owner : (c : Else-not-is_in_zone) → let n = c.args.name.now in
    (take (length n) c.is_in_zone.new.room ≡ canonical n) × (length n ≡ length (take (length n) c.is_in_zone.new.room))
owner c =
    let n = c.args.name.now in
    let e = owner_is _ _ n (c.is_in_zone.ensures.room_after c.if-not-is_in_zone.false) in
    (e, sym (ap length e ∙ length_canonical n))

-- none of what is lent is longer than it may be
short : (c : Else-not-is_well_formed) → let a = c.args in (length a.zone.now ≤ 255) × (length a.name.now ≤ 255) × (length a.dhcid.now ≡ 35)
short c =
    let a = c.args in
    let p = placed (goal.at.Else-not-is_well_formed c).Else-not-is_in_zone in
    (proper_short a.zone.now p.zone, proper_short a.name.now p.name, dhcid_length a.dhcid.now (formed c))

-- the length that is tested is the message's
long : (c : Else-not-is_well_formed) → let a = c.args in
    last_length (length a.zone.now) (length a.name.now) ≡ length (message_bytes (called_last a.id a.zone.now a.name.now a.dhcid.now))
long c = let a = c.args in sym (last_long a.id a.zone.now a.name.now a.dhcid.now (short c).2)

pub returns-then-not-is_in_zone : goal.returns-then-not-is_in_zone
returns-then-not-is_in_zone c =
    let z = c.is_in_zone in
    Written.faulty (inl (z.ensures.decides.if_false c.if-not-is_in_zone.true, refl)) c.refused.ensures refl

pub returns-then-not-is_well_formed : goal.returns-then-not-is_well_formed
returns-then-not-is_well_formed c =
    let w = c.is_well_formed in
    Written.faulty (inr (placed (goal.at.returns-then-not-is_well_formed c).Else-not-is_in_zone, inl (λ good. false≢true (sym (sym w.ensures ∙ c.if-not-is_well_formed.true) ∙ good), refl))) c.refused-then-not-is_well_formed.ensures refl

pub overflow_mul-len : goal.overflow_mul-len
overflow_mul-len c = let h = short c in omega (arith, h.1)

pub overflow_add-len-2 : goal.overflow_add-len-2
overflow_add-len-2 c = let h = short c in omega (arith, h.0, h.1)

pub returns-then-out-len : goal.returns-then-out-len
returns-then-out-len c =
    Written.faulty (inr (placed (goal.at.returns-then-out-len c).Else-not-is_in_zone, inr (formed (goal.at.returns-then-out-len c).Else-not-is_well_formed, inl (λ room. omega (arith, room, long (goal.at.returns-then-out-len c).Else-not-is_well_formed, c.if-out-len.true), refl)))) c.refused-then-out-len.ensures refl

pub slice_bounds-room-end : goal.slice_bounds-room-end
slice_bounds-room-end c = let h = short (goal.at.slice_bounds-room-end c).Else-not-is_well_formed in omega (arith, h.1, c.is_in_zone.auto.room)

pub slice_bounds-put_remove_second-end : goal.slice_bounds-put_remove_second-end
slice_bounds-put_remove_second-end c = (owner (goal.at.slice_bounds-put_remove_second-end c).Else-not-is_in_zone).1

pub put_remove_second-requires : goal.put_remove_second-requires
put_remove_second-requires c =
    let h = short (goal.at.put_remove_second-requires c).Else-not-is_well_formed in
    let o = (owner (goal.at.put_remove_second-requires c).Else-not-is_in_zone).1 in
    record {
      zone_len_bound = h.0;
      owner_len_bound = omega (arith, o, h.1);
      dhcid_len = h.2;
      owner_in_bounds = omega (arith, o, c.if-out-len.false);
    }

pub overflow_cast-result : goal.overflow_cast-result
overflow_cast-result c = let h = short (goal.at.overflow_cast-result c).Else-not-is_well_formed in omega (arith, h.0, h.1)

pub returns : goal.returns
returns c =
    let a = c.args in
    let m : List ℕ → List ℕ = λ n. overlay a.out.now 0 (message_bytes (remove_second a.id (canonical a.zone.now) n a.dhcid.now)) in
    Written.written (placed (goal.at.returns c).Else-not-is_in_zone, (formed (goal.at.returns c).Else-not-is_well_formed, (omega (arith, long (goal.at.returns c).Else-not-is_well_formed, c.if-out-len.false), tt))) (ap Accepted (long (goal.at.returns c).Else-not-is_well_formed)) (c.put_remove_second.ensures.out_after ∙ ap m (owner (goal.at.returns c).Else-not-is_in_zone).0)
