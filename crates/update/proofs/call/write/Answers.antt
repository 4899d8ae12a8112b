use Prim.Native.Nat.{ℕ, ◌≤◌}
use mathlib.Core.Bool.{true, false, false≢true}
use mathlib.Core.Path.{◌≡◌, refl, sym, ap, ap₂, ◌∙◌}
use mathlib.Core.Logic.{inl, inr}
use mathlib.Core.List.{List}
use native.Mathlib.Omega.{arith}
use borrow.Author.Tests.{not-true, not-false}
use lib.ListN.{length, take}
use Rattle.base.specs.Bytes.{overlay}
use Rattle.base.specs.Dhcid.{well_formed}
use Rattle.base.specs.Family.{KnownFamily}
use Rattle.base.specs.declared.Answer.TheVariants.{Accepted}
use Rattle.base.proofs.DhcidLaws.{dhcid_length}
use Rattle.name.specs.Name.{canonical}
use Rattle.name.proofs.NameLaws.{length_canonical}
use Rattle.name.proofs.WireLaws.{proper_short}
use Rattle.slots.specs.Entry.{family_of, address_size}
use Rattle.update.specs.Calls.{InZone, Written, called}
use Rattle.update.specs.Message.{message_bytes}
use Rattle.update.specs.Updates.{address_record, of_kind}
use Rattle.update.proofs.LengthLaws.{called_long, some_length, address_short}
use Rattle.update.proofs.RestLaws.{owner_is}
use borrow.Author.Rules.{rules}
use Rattle.update.proofs.call.write.Goals.{After-address_size, After-message_length-len, Else-address-address_size, Else-not-is_family, Else-not-is_in_zone, Else-not-is_well_formed}
use Rattle.update.proofs.call.write.Goals as goal

-- behind the first test, the second, the third and the fourth
known : (c : Else-not-is_family) → KnownFamily c.args.family
known c = c.is_family.ensures.if_true c.if-not-is_family.false

placed : (c : Else-not-is_in_zone) → let a = c.args in InZone a.name.now a.zone.now
placed c = c.is_in_zone.ensures.decides.if_true c.if-not-is_in_zone.false

formed : (c : Else-not-is_well_formed) → well_formed c.args.dhcid.now ≡ true
formed c = let w = c.is_well_formed in sym w.ensures ∙ c.if-not-is_well_formed.false

size : (c : After-address_size) → c.address_size.result ≡ address_size (family_of c.args.family)
size c = c.address_size.ensures ∙ ap address_size c.family_of-version.ensures

sized : (c : Else-address-address_size) → let a = c.args in length a.address.now ≡ address_size (family_of a.family)
sized c = c.if-address-address_size.false ∙ size (goal.at.Else-address-address_size c).After-address_size

-- the owner that is lent
owner : (c : Else-not-is_in_zone) → let n = c.args.name.now in
    (take (length n) c.is_in_zone.new.room ≡ canonical n) × (length n ≡ length (take (length n) c.is_in_zone.new.room))
owner c =
    let n = c.args.name.now in
    let e = owner_is _ _ n (c.is_in_zone.ensures.room_after c.if-not-is_in_zone.false) in
    (e, sym (ap length e ∙ length_canonical n))

-- none of what is lent is longer than it may be
short : (c : Else-address-address_size) → let a = c.args in (length a.zone.now ≤ 255) × (length a.name.now ≤ 255) × (length a.address.now ≤ 16) × (length a.dhcid.now ≡ 35)
short c =
    let a = c.args in
    let p = placed (goal.at.Else-address-address_size c).Else-not-is_in_zone in
    (proper_short a.zone.now p.zone, proper_short a.name.now p.name, omega (arith, sized c, address_short (family_of a.family)), dhcid_length a.dhcid.now (formed (goal.at.Else-address-address_size c).Else-not-is_well_formed))

-- the length that is tested is the message's
long : (c : After-message_length-len) → let a = c.args in
    c.message_length-len.result ≡ length (message_bytes (called a.kind a.id a.zone.now a.name.now a.dhcid.now a.family a.address.now))
long c =
    let a = c.args in
    c.message_length-len.ensures
    ∙ sym (called_long a.id a.zone.now a.name.now a.dhcid.now (short (goal.at.After-message_length-len c).Else-address-address_size).3 a.kind (address_record (family_of a.family)) a.address.now)

pub returns-then-not-is_family : goal.returns-then-not-is_family
returns-then-not-is_family c =
    let f = c.is_family in
    Written.faulty (inl (f.ensures.if_false c.if-not-is_family.true, refl)) c.refused.ensures refl

pub returns-then-not-is_in_zone : goal.returns-then-not-is_in_zone
returns-then-not-is_in_zone c =
    let z = c.is_in_zone in
    Written.faulty (inr (known (goal.at.returns-then-not-is_in_zone c).Else-not-is_family, inl (z.ensures.decides.if_false c.if-not-is_in_zone.true, refl))) c.refused-then-not-is_in_zone.ensures refl

pub returns-then-not-is_well_formed : goal.returns-then-not-is_well_formed
returns-then-not-is_well_formed c =
    let w = c.is_well_formed in
    Written.faulty
    (inr (known (goal.at.returns-then-not-is_well_formed c).Else-not-is_family, inr (placed (goal.at.returns-then-not-is_well_formed c).Else-not-is_in_zone, inl (λ good. false≢true (sym (sym w.ensures ∙ c.if-not-is_well_formed.true) ∙ good), refl)))) c.refused-then-not-is_well_formed.ensures refl

pub returns-then-address-address_size : goal.returns-then-address-address_size
returns-then-address-address_size c =
    Written.faulty
    (inr (known (goal.at.returns-then-address-address_size c).Else-not-is_family, inr (placed (goal.at.returns-then-address-address_size c).Else-not-is_in_zone, inr (formed (goal.at.returns-then-address-address_size c).Else-not-is_well_formed, inl (λ e. c.if-address-address_size.true (e ∙ sym (size (goal.at.returns-then-address-address_size c).After-address_size)), refl))))) c.refused-then-address-address_size.ensures refl

pub message_length-len-requires : goal.message_length-len-requires
message_length-len-requires c = let h = short c in record { zone_bound = h.0; name_bound = h.1; address_bound = h.2 }

pub returns-then-out-len : goal.returns-then-out-len
returns-then-out-len c =
    Written.faulty
    (inr (known (goal.at.returns-then-out-len c).Else-not-is_family, inr (placed (goal.at.returns-then-out-len c).Else-not-is_in_zone, inr (formed (goal.at.returns-then-out-len c).Else-not-is_well_formed, inr (sized (goal.at.returns-then-out-len c).Else-address-address_size, inl (λ room. omega (arith, room, long (goal.at.returns-then-out-len c).After-message_length-len, c.if-out-len.true), refl)))))) c.refused-then-out-len.ensures refl

pub slice_bounds-room-end : goal.slice_bounds-room-end
slice_bounds-room-end c = let h = short (goal.at.slice_bounds-room-end c).Else-address-address_size in omega (arith, h.1, c.is_in_zone.auto.room)

pub slice_bounds-put_message-end : goal.slice_bounds-put_message-end
slice_bounds-put_message-end c = (owner (goal.at.slice_bounds-put_message-end c).Else-not-is_in_zone).1

pub put_message-requires : goal.put_message-requires
put_message-requires c =
    let h = short (goal.at.put_message-requires c).Else-address-address_size in
    let o = (owner (goal.at.put_message-requires c).Else-not-is_in_zone).1 in
    record {
      zone_len_bound = h.0;
      owner_len_bound = omega (arith, o, h.1);
      dhcid_len = h.3;
      address_len_bound = h.2;
      address_in_bounds = rw (sym o) (omega (arith, c.if-out-len.false, c.message_length-len.ensures));
    }

pub overflow_cast-result : goal.overflow_cast-result
overflow_cast-result c =
    let a = c.args in
    let h = short (goal.at.overflow_cast-result c).Else-address-address_size in
    omega (arith, c.message_length-len.ensures, some_length a.kind (length a.zone.now) (length a.name.now) (length a.address.now) h.0 h.1 h.2)

pub returns : goal.returns
returns c =
    let a = c.args in
    let e = long (goal.at.returns c).After-message_length-len in
    let t = c.address_record.ensures ∙ ap address_record c.family_of-version.ensures in
    let m : List ℕ → ℕ → List ℕ = λ n t. overlay a.out.now 0 (message_bytes (of_kind a.kind a.id (canonical a.zone.now) n a.dhcid.now t a.address.now)) in
    Written.written (known (goal.at.returns c).Else-not-is_family, (placed (goal.at.returns c).Else-not-is_in_zone, (formed (goal.at.returns c).Else-not-is_well_formed, (sized (goal.at.returns c).Else-address-address_size, (omega (arith, e, c.if-out-len.false), tt))))) (ap Accepted e) (c.put_message.ensures ∙ ap₂ m (owner (goal.at.returns c).Else-not-is_in_zone).0 t)
