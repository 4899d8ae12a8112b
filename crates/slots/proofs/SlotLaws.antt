-- Which bytes are a slot's, part by part. Assumes nothing.
use Prim.Native.Nat.{ℕ, suc, ◌+◌, ◌≤◌}
use mathlib.Core.Bool.{Bool, true, false, cond, true≢false}
use mathlib.Core.Path.{◌≡◌, refl, sym, ap, ◌∙◌}
use mathlib.Core.List.{List, [], ◌∷◌, ◌++◌, append_assoc}
use mathlib.Core.Option.{Option, none, some}
use native.Mathlib.Omega.{arith}
use lib.Dec.{eqb}
use lib.ListN.{length, take, drop, get_or, replicate, length-drop}
use lib.Seq.{take_at, get_or-take, length-take-le}
use borrow.Author.Tests.{eqb-true}
use Rattle.base.specs.Bytes.{padded}
use Rattle.base.specs.Dhcid.{well_formed}
use Rattle.base.specs.Logic.{IfSome}
use Rattle.base.proofs.Lists.{drop_take}
use Rattle.base.proofs.Tests.{below, at_each}
use Rattle.slots.specs.Fields.{there}
use Rattle.slots.specs.Form.{TableEntry, field, flag, flags, slot_bytes, WellFormed, IsSlot}
use Rattle.slots.specs.Promise.{is_set}
use Rattle.slots.specs.SlotTests.{HeldName, NameField, Fields, FieldsIn}
use Rattle.slots.specs.Sizes.{body_size}
use Rattle.slots.proofs.FlagLaws.{flag_a, flag_aaaa, flag_dhcid, flags_most}
use Rattle.slots.proofs.NameFieldLaws.{zeros_of}
use Rattle.slots.proofs.LaidLaws.{laid, cut_flags, as_laid, slot_laid, slot_sizes, flags_of, a_of, aaaa_of, dhcid_of}

-- ---- a field and its flag

-- what the flag says is there
abbrev given : Bool → List ℕ → Option (List ℕ)
given true x = some x
given false x = none

field_given : (size : ℕ) (t : Bool) (x : List ℕ) → length x ≡ size → (t ≡ false → x ≡ replicate (length x) 0) → x ≡ field size (given t x)
field_given size true x e h = refl
field_given size false x e h = h refl ∙ ap (λ (k : ℕ). replicate k 0) e

size_given : (size : ℕ) (t : Bool) (x : List ℕ) → length x ≡ size → IfSome (λ y. length y ≡ size) (given t x)
size_given size true x e = e
size_given size false x e = tt

holder_given : (t : Bool) (x : List ℕ) → (t ≡ true → well_formed x ≡ true) → IfSome (λ y. well_formed y ≡ true) (given t x)
holder_given true x h = h refl
holder_given false x h = tt

-- the other way: what there may be, and its flag
absent_zeros : (size : ℕ) (o : Option (List ℕ)) → there o ≡ false → field size o ≡ replicate (length (field size o)) 0
absent_zeros size none e = zeros_of (replicate size 0) size refl
absent_zeros size (some x) e = absurd (true≢false e)

there_well_formed : (o : Option (List ℕ)) → IfSome (λ x. well_formed x ≡ true) o → there o ≡ true → well_formed (field 35 o) ≡ true
there_well_formed none h e = absurd (true≢false (sym e))
there_well_formed (some x) h e = h

-- flags up to 7 are the sum of those that are set
sum_of_set : ℕ → ℕ
sum_of_set v = cond (is_set 1 v) 1 0 + cond (is_set 2 v) 2 0 + cond (is_set 4 v) 4 0

known_flags : (v : ℕ) → v ≤ 7 → sum_of_set v ≡ v
unfolding below sum_of_set
known_flags v h = eqb-true (sum_of_set v) v (at_each (λ k. eqb (sum_of_set k) k) 8 refl v (omega arith))

flag_given : (bit : ℕ) (t : Bool) (x : List ℕ) → flag bit (given t x) ≡ cond t bit 0
flag_given bit true x = refl
flag_given bit false x = refl

sum_given : (v : ℕ) (x y z : List ℕ) → v ≤ 7 → v ≡ flag 1 (given (is_set 1 v) x) + flag 2 (given (is_set 2 v) y) + flag 4 (given (is_set 4 v) z)
unfolding sum_of_set
sum_given v x y z known = sym ((λ i. flag_given 1 (is_set 1 v) x i + flag_given 2 (is_set 2 v) y i + flag_given 4 (is_set 4 v) z i) ∙ known_flags v known)

-- ---- fields that agree

-- an entry's do
entry_fields : (e : TableEntry) → WellFormed e → Fields (flags e) (field 4 e.a) (field 16 e.aaaa) (field 35 e.holder)
entry_fields e w =
    record {
      some = w.some;
      known = flags_most e;
      a = λ t. absent_zeros 4 e.a (sym (flag_a e) ∙ t);
      aaaa = λ t. absent_zeros 16 e.aaaa (sym (flag_aaaa e) ∙ t);
      dhcid = λ t. absent_zeros 35 e.holder (sym (flag_dhcid e) ∙ t);
      holder = λ t. there_well_formed e.holder w.dhcid (sym (flag_dhcid e) ∙ t);
    }

-- ---- the parts of 312 bytes

abbrev flags_in : List ℕ → ℕ
flags_in s = get_or s 256 0

abbrev a_in : List ℕ → List ℕ
a_in s = take 4 (drop 257 s)

abbrev aaaa_in : List ℕ → List ℕ
aaaa_in s = take 16 (drop 261 s)

abbrev dhcid_in : List ℕ → List ℕ
dhcid_in s = take 35 (drop 277 s)

-- ---- the bytes of an entry pass every test

module _ (s : List ℕ) (e : TableEntry) (w : WellFormed e) (form : s ≡ slot_bytes e) where
  of_entry : s ≡ laid (length e.name) (padded e.name) (flags e) (field 4 e.a) (field 16 e.aaaa) (field 35 e.holder)
  of_entry = form ∙ slot_laid e

  fields_of : FieldsIn s
  fields_of =
      let sizes = slot_sizes e w in
      let v : flags_in s ≡ flags e = ap flags_in form ∙ flags_of e sizes in
      let x : a_in s ≡ field 4 e.a = ap a_in form ∙ a_of e sizes in
      let y : aaaa_in s ≡ field 16 e.aaaa = ap aaaa_in form ∙ aaaa_of e sizes in
      let z : dhcid_in s ≡ field 35 e.holder = ap dhcid_in form ∙ dhcid_of e sizes in
      rw (v, x, y, z) (entry_fields e w)

  field_of : NameField (take 256 s)
  unfolding NameField
  field_of =
      let x = field 4 e.a in
      let y = field 16 e.aaaa in
      let z = field 35 e.holder in
      let apart = cut_flags (length e.name) (padded e.name) (flags e) x y z ∙ append_assoc (length e.name ∷ padded e.name) (flags e ∷ []) (x ++ y ++ z) in
      let first : take 256 s ≡ length e.name ∷ padded e.name = ap (take 256) (of_entry ∙ apart) ∙ take_at (length e.name ∷ padded e.name) _ 256 (ap suc (slot_sizes e w).name) in
      (e.name, record { proper = w.proper; lower = w.lower }, first)

pub slot_fields : (s : List ℕ) → IsSlot s → FieldsIn s
unfolding IsSlot
slot_fields s (e, w, form) = fields_of s e w form

pub slot_name_field : (s : List ℕ) → IsSlot s → NameField (take 256 s)
unfolding IsSlot
slot_name_field s (e, w, form) = field_of s e w form

-- ---- bytes that pass every test are those of an entry

module _ (s : List ℕ) (size : length s ≡ body_size) (n : List ℕ) (held : HeldName n) (first : take 256 s ≡ length n ∷ padded n) (f : FieldsIn s) where
  found : TableEntry
  found = record { name = n; a = given (is_set 1 (flags_in s)) (a_in s); aaaa = given (is_set 2 (flags_in s)) (aaaa_in s); holder = given (is_set 4 (flags_in s)) (dhcid_in s) }

  length_part : (i k : ℕ) → i + k ≤ body_size → length (take k (drop i s)) ≡ k
  length_part i k h = length-take-le k (drop i s) (simp length-drop (omega arith))

  found_length : get_or s 0 0 ≡ length n
  found_length = sym (get_or-take 256 s 0 0 (omega arith)) ∙ ap (λ (t : List ℕ). get_or t 0 0) first

  found_padded : take 255 (drop 1 s) ≡ padded n
  found_padded = sym (drop_take 1 256 s) ∙ ap (drop 1) first

  found_flags : flags_in s ≡ flags found
  unfolding found flags
  found_flags = sum_given (flags_in s) (a_in s) (aaaa_in s) (dhcid_in s) f.known

  found_a : a_in s ≡ field 4 found.a
  unfolding found
  found_a = field_given 4 (is_set 1 (flags_in s)) (a_in s) (length_part 257 4 (omega arith)) f.a

  found_aaaa : aaaa_in s ≡ field 16 found.aaaa
  unfolding found
  found_aaaa = field_given 16 (is_set 2 (flags_in s)) (aaaa_in s) (length_part 261 16 (omega arith)) f.aaaa

  found_dhcid : dhcid_in s ≡ field 35 found.holder
  unfolding found
  found_dhcid = field_given 35 (is_set 4 (flags_in s)) (dhcid_in s) (length_part 277 35 (omega arith)) f.dhcid

  found_well_formed : WellFormed found
  unfolding found
  found_well_formed =
      record {
        proper = held.proper;
        lower = held.lower;
        a = size_given 4 (is_set 1 (flags_in s)) (a_in s) (length_part 257 4 (omega arith));
        aaaa = size_given 16 (is_set 2 (flags_in s)) (aaaa_in s) (length_part 261 16 (omega arith));
        dhcid = holder_given (is_set 4 (flags_in s)) (dhcid_in s) f.holder;
        some = omega (arith, found_flags, f.some);
      }

  slot_of_found : IsSlot s
  unfolding IsSlot found
  slot_of_found = (
    found,
    found_well_formed,
    as_laid s size ∙ (λ i. laid (found_length i) (found_padded i) (found_flags i) (found_a i) (found_aaaa i) (found_dhcid i)) ∙ sym (slot_laid found),
  )

pub is_slot : (s : List ℕ) → length s ≡ body_size → NameField (take 256 s) → FieldsIn s → IsSlot s
unfolding NameField
is_slot s size (n, held, first) f = slot_of_found s size n held first f
