-- What the functions that test a slot promise of its parts. Together they are Form.antt's IsSlot: proofs/SlotLaws.antt.
use Rattle.std.specs.Prelude.{ℕ, ◌≤◌, true, false, ◌≡◌, List, ◌∷◌, length, take, drop, get_or, replicate}
use Rattle.base.specs.Bytes.{padded}
use Rattle.base.specs.Dhcid.{well_formed}
use Rattle.name.specs.Name.{Proper, canonical}
use Rattle.slots.specs.Promise.{is_set}
use Rattle.slots.specs.Sizes.{flags_at, field_size, field_at, field_bit, all_flags}
use Rattle.slots.specs.declared.Rtype.{Rtype}
use Rattle.slots.specs.declared.Rtype.TheVariants.{A, Aaaa, Dhcid}

-- a name as a sound table has it
pub record HeldName (n : List ℕ) : Type 0 where
  pub proper : Proper n
  pub lower : canonical n ≡ n

-- the bytes s are a name's as a slot has it: its wire length, the name in 255 bytes, zeros after it
unfoldable pub NameField : List ℕ → Type 0
NameField s = (n : List ℕ) × HeldName n × (s ≡ length n ∷ padded n)

-- the field x is zeros where the flag of that value is not set
abbrev pub ZeroUnlessSet : ℕ → ℕ → List ℕ → Type 0
ZeroUnlessSet bit v x = is_set bit v ≡ false → x ≡ replicate (length x) 0

-- the flags v and the fields A, AAAA and DHCID agree: one flag at least and none but the three, what is absent is zeros, a DHCID passes refusal 15's test
pub record Fields (v : ℕ) (x y z : List ℕ) : Type 0 where
  pub some : 1 ≤ v
  pub known : v ≤ all_flags
  pub a : ZeroUnlessSet (field_bit A) v x
  pub aaaa : ZeroUnlessSet (field_bit Aaaa) v y
  pub dhcid : ZeroUnlessSet (field_bit Dhcid) v z
  pub holder : is_set (field_bit Dhcid) v ≡ true → well_formed z ≡ true

-- the bytes that the slot s has in the field of a type
abbrev pub field_in : Rtype → List ℕ → List ℕ
field_in k s = take (field_size k) (drop (field_at k) s)

-- the flags and the fields of the slot s agree
abbrev pub FieldsIn : List ℕ → Type 0
FieldsIn s = Fields (get_or s flags_at 0) (field_in A s) (field_in Aaaa s) (field_in Dhcid s)
