use mathlib.Core.Path.{◌≡◌, refl, sym, ap, ◌∙◌}
use mathlib.Core.Logic.{inl, inr}
use native.Mathlib.Omega.{arith}
use lib.ListN.{length}
use Rattle.base.specs.Family.{KnownFamily}
use Rattle.slots.specs.Entry.{family_of, address_size}
use Rattle.slots.specs.declared.Family.{Family}
use Rattle.ptr.specs.Ptr.{ptr_name, PtrWritten}
use Rattle.ptr.proofs.NameLaws.{short}
use Rattle.ptr.proofs.write.Goals.{After-address_size, After-name_length-len}
use Rattle.ptr.proofs.write.Goals as goal

pub returns-then-not-is_family : goal.returns-then-not-is_family
returns-then-not-is_family c =
    PtrWritten.faulty (inl (c.is_family.ensures.if_false c.if-not-is_family.true, refl)) c.refused.ensures refl

-- behind the first test: the family is known, and this is the size of its addresses
known : (c : After-address_size)
    → let n = c.args.family in
    KnownFamily n × (c.address_size.result ≡ address_size (family_of n))
known c = (
  c.is_family.ensures.if_true c.if-not-is_family.false,
  c.address_size.ensures ∙ ap address_size c.family_of-version.ensures,
)

pub returns-then-address-address_size : goal.returns-then-address-address_size
returns-then-address-address_size c =
    let k = known (goal.at.returns-then-address-address_size c).After-address_size in
    PtrWritten.faulty (inr (k.0, inl (λ e. c.if-address-address_size.true (e ∙ sym k.1), refl))) c.refused-then-address-address_size.ensures refl

-- behind the second: the address has it, and this is the length of its name
sized : (c : After-name_length-len)
    → let a = c.args in
    let f = family_of a.family in
    let x = a.address.now in
    (length x ≡ address_size f) × (c.name_length-len.result ≡ length (ptr_name f x))
sized c =
    let x = c.args.address.now in (
      c.if-address-address_size.false ∙ (known (goal.at.After-name_length-len c).After-address_size).1,
      c.name_length-len.ensures ∙ ap (λ (f : Family). length (ptr_name f x)) c.family_of-version.ensures,
    )

pub returns-then-out-len : goal.returns-then-out-len
returns-then-out-len c =
    let s = sized (goal.at.returns-then-out-len c).After-name_length-len in
    PtrWritten.faulty (inr ((known (goal.at.returns-then-out-len c).After-address_size).0, inr (s.0, inl (λ room. omega arith, refl)))) c.refused-then-out-len.ensures refl

pub overflow_cast-result : goal.overflow_cast-result
overflow_cast-result c =
    let s = sized (goal.at.overflow_cast-result c).After-name_length-len in
    let a = c.args in
    omega (arith, s.1, short (family_of a.family) a.address.now s.0)
