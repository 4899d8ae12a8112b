-- The entries of the table of names. Document 01, "The table" (docs/RULES.md, 7.1): a name, with at most one A, one AAAA and one DHCID.
use Rattle.std.specs.Prelude.{ℕ, suc, cond, ◌≡◌, List, [], ◌∷◌, Result, Ok, Err, map, eqb}
use Rattle.std.proofs.Math.Option.{Option, some}
use Rattle.base.specs.Bytes.{eq_bytes}
use Rattle.base.specs.Family.{KnownFamily}
use Rattle.base.specs.Logic.{Every}
use Rattle.slots.specs.Sizes.{field_size, address_type}
use Rattle.slots.specs.declared.Family.{Family}
use Rattle.slots.specs.declared.Family.TheVariants.{V4, V6}
use Rattle.slots.specs.declared.UnknownFamily.{UnknownFamily}

-- What stands under one name, which is in canonical wire form: its addresses, and who holds it. In the table a holder is a client's DHCID; the type H is left
-- open for a ledger that keeps something else of a client. A name without a holder is kept by hand.
pub record Entry (H : Type 0) : Type 0 where
  pub name : List ℕ
  pub a : Option (List ℕ)
  pub aaaa : Option (List ℕ)
  pub holder : Option H

-- ---- one of the two addresses

-- the number of a family, 4 or 6, as a call gives it
abbrev pub family_of : ℕ → Family
family_of n = cond (eqb n 4) V4 V6

-- what asking for the family of a number gives: that of a known one, and of another that it is unknown
abbrev pub FamilyNumbered : ℕ → Result Family UnknownFamily → Type 0
FamilyNumbered n (Ok f) = KnownFamily n × (f ≡ family_of n)
FamilyNumbered n (Err e) = KnownFamily n → ⊥

abbrev pub other : Family → Family
other V4 = V6
other V6 = V4

-- the bytes of an address
abbrev pub address_size : Family → ℕ
address_size f = field_size (address_type f)

module _ {H : Type 0} where
  -- an entry's address of a family
  abbrev pub address_of : Family → Entry H → Option (List ℕ)
  address_of V4 e = e.a
  address_of V6 e = e.aaaa

  -- the entry with another address of a family, or with none
  abbrev pub with_address : Family → Option (List ℕ) → Entry H → Entry H
  with_address V4 x e = record { name = e.name; a = x; aaaa = e.aaaa; holder = e.holder }
  with_address V6 x e = record { name = e.name; a = e.a; aaaa = x; holder = e.holder }

  -- the entry with another holder
  abbrev pub with_holder : H → Entry H → Entry H
  with_holder h e = record { name = e.name; a = e.a; aaaa = e.aaaa; holder = some h }

  -- ---- where a name stands

  abbrev pub names : List (Entry H) → List (List ℕ)
  names t = map (λ e. e.name) t

  -- how many entries stand before the first with that name; all of them where there is none
  unfoldable pub position : List ℕ → List (Entry H) → ℕ
  position n [] = 0
  position n (e ∷ t) = cond (eq_bytes e.name n) 0 (suc (position n t))

-- no name stands twice
pub data Distinct : List (List ℕ) → Type 0 where
  none : Distinct []
  more : {n : List ℕ} {ns : List (List ℕ)} → Every (λ m. m ≡ n → ⊥) ns → Distinct ns → Distinct (n ∷ ns)
