-- The flags of a slot: each says whether its field is there. Assumes nothing.
use Prim.Native.Nat.{ℕ, ◌+◌, ◌≤◌}
use mathlib.Core.Path.{◌≡◌, refl}
use mathlib.Core.List.{List}
use mathlib.Core.Option.{Option, none, some}
use native.Mathlib.Omega.{arith}
use Rattle.slots.specs.Fields.{there}
use Rattle.slots.specs.Form.{TableEntry, flag, flags}
use Rattle.slots.specs.Promise.{is_set}

abbrev sum : Option (List ℕ) → Option (List ℕ) → Option (List ℕ) → ℕ
sum a b d = flag 1 a + flag 2 b + flag 4 d

-- each flag of a sum, by what is there
record Said (a b d : Option (List ℕ)) : Type 0 where
  a_said : is_set 1 (sum a b d) ≡ there a
  aaaa_said : is_set 2 (sum a b d) ≡ there b
  dhcid_said : is_set 4 (sum a b d) ≡ there d

said : (a b d : Option (List ℕ)) → Said a b d
said none none none = record { a_said = refl; aaaa_said = refl; dhcid_said = refl }
said none none (some d) = record { a_said = refl; aaaa_said = refl; dhcid_said = refl }
said none (some b) none = record { a_said = refl; aaaa_said = refl; dhcid_said = refl }
said none (some b) (some d) = record { a_said = refl; aaaa_said = refl; dhcid_said = refl }
said (some a) none none = record { a_said = refl; aaaa_said = refl; dhcid_said = refl }
said (some a) none (some d) = record { a_said = refl; aaaa_said = refl; dhcid_said = refl }
said (some a) (some b) none = record { a_said = refl; aaaa_said = refl; dhcid_said = refl }
said (some a) (some b) (some d) = record { a_said = refl; aaaa_said = refl; dhcid_said = refl }

module _ (e : TableEntry) where
  pub flag_a : is_set 1 (flags e) ≡ there e.a
  unfolding flags
  flag_a = (said e.a e.aaaa e.holder).a_said

  pub flag_aaaa : is_set 2 (flags e) ≡ there e.aaaa
  unfolding flags
  flag_aaaa = (said e.a e.aaaa e.holder).aaaa_said

  pub flag_dhcid : is_set 4 (flags e) ≡ there e.holder
  unfolding flags
  flag_dhcid = (said e.a e.aaaa e.holder).dhcid_said

flag_most : (bit : ℕ) (o : Option (List ℕ)) → flag bit o ≤ bit
flag_most bit none = omega arith
flag_most bit (some x) = omega arith

pub flags_most : (e : TableEntry) → flags e ≤ 7
unfolding flags
flags_most e = omega (arith, flag_most 1 e.a, flag_most 2 e.aaaa, flag_most 4 e.holder)
