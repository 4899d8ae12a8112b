-- What the writes of a slot leave, as the slots of entries, and what its fields say. Assumes nothing.
use Prim.Native.Nat.{ℕ, ◌+◌, ◌-◌, ◌%◌, ◌≤◌}
use mathlib.Core.Bool.{Bool, true, false, cond, true≢false, false≢true}
use mathlib.Core.Path.{◌≡◌, refl, sym, ap, ap₂, ◌∙◌}
use mathlib.Core.List.{List, [], ◌∷◌, ◌++◌, append_assoc}
use mathlib.Core.Option.{Option, none, some}
use native.Mathlib.Nat.{div-eq_of_lt}
use native.Mathlib.Omega.{arith}
use lib.Dec.{eqb}
use lib.ListN.{length, take, drop, get_or, set, replicate, length-drop, length-replicate, replicate-append-replicate}
use lib.Seq.{length-take-le, take-take}
use Rattle.base.specs.Bytes.{overlay, eq_bytes, padded}
use Rattle.base.proofs.Bytes.{set_overlay}
use Rattle.base.proofs.Tests.{by_ltb}
use Rattle.slots.specs.Entry.{address_of, address_size, with_address, with_holder}
use Rattle.slots.specs.Fields.{bare, there, in_field, with_field}
use Rattle.slots.specs.Form.{TableEntry, WellFormed, field, flag, flags, slot_bytes, IsSlot}
use Rattle.slots.specs.Promise.{is_set, flag_set, flag_cleared, field_put, field_cleared, holding, is_address}
use Rattle.slots.specs.Sizes.{field_size, field_at, field_bit, address_type, body_size}
use Rattle.slots.specs.declared.Family.{Family}
use Rattle.slots.specs.declared.Family.TheVariants.{V4, V6}
use Rattle.slots.specs.declared.Holding.TheVariants.{ByHand, ByThis, ByAnother}
use Rattle.slots.specs.declared.Rtype.{Rtype}
use Rattle.slots.specs.declared.Rtype.TheVariants.{A, Aaaa, Dhcid}
use Rattle.slots.proofs.FlagLaws.{flag_a, flag_aaaa, flag_dhcid, flags_most}
use Rattle.slots.proofs.LaidLaws.{Sizes, laid, regroup, overlay_at, length_laid, flags_of, a_of, aaaa_of, dhcid_of, write_flags, write_a, write_aaaa, write_dhcid, slot_sizes, slot_length, slot_name, length_padded}

-- ---- flags

-- a flag that is set can be taken away
pub set_reaches : (bit v : ℕ) → is_set bit v ≡ true → bit ≤ v
set_reaches bit v set = by_ltb v bit (λ less. absurd (false≢true (sym (ap (λ (q : ℕ). eqb (q % 2) 1) (div-eq_of_lt less)) ∙ set))) (λ h. h)

-- the flags v are that of o and the rest
module _ (bit rest v : ℕ) where
  flag_set_is : (o : Option (List ℕ)) → is_set bit v ≡ there o → v ≡ flag bit o + rest → flag_set bit v ≡ bit + rest
  flag_set_is none h e = ap (λ (t : Bool). cond t v (v + bit)) h ∙ omega arith
  flag_set_is (some x) h e = ap (λ (t : Bool). cond t v (v + bit)) h ∙ e

  flag_cleared_is : (o : Option (List ℕ)) → is_set bit v ≡ there o → v ≡ flag bit o + rest → flag_cleared bit v ≡ rest
  flag_cleared_is none h e = ap (λ (t : Bool). cond t (v - bit) v) h ∙ omega arith
  flag_cleared_is (some x) h e = ap (λ (t : Bool). cond t (v - bit) v) h ∙ omega arith

pub field_bit_some : (k : Rtype) → 1 ≤ field_bit k
field_bit_some A = omega arith
field_bit_some Aaaa = omega arith
field_bit_some Dhcid = omega arith

pub field_bit_small : (k : Rtype) → field_bit k ≤ 4
field_bit_small A = omega arith
field_bit_small Aaaa = omega arith
field_bit_small Dhcid = omega arith

pub field_fits : (k : Rtype) → field_at k + field_size k ≤ body_size
field_fits A = omega arith
field_fits Aaaa = omega arith
field_fits Dhcid = omega arith

pub field_size_most : (k : Rtype) → field_size k ≤ 35
field_size_most A = omega arith
field_size_most Aaaa = omega arith
field_size_most Dhcid = omega arith

pub field_offset_most : (k : Rtype) → field_at k ≤ 277
field_offset_most A = omega arith
field_offset_most Aaaa = omega arith
field_offset_most Dhcid = omega arith

-- an address is what the field of its type has
pub address_in : (f : Family) (k : Rtype) (e : TableEntry) → k ≡ address_type f → in_field k e ≡ address_of f e
address_in V4 k e is = ap (λ (q : Rtype). in_field q e) is
address_in V6 k e is = ap (λ (q : Rtype). in_field q e) is

-- ---- a slot that is being written: it need not have a flag yet

pub record SlotOf (e : TableEntry) (b : List ℕ) : Type 0 where
  pub sizes : Sizes (padded e.name) (field 4 e.a) (field 16 e.aaaa) (field 35 e.holder)
  pub form : b ≡ slot_bytes e

pub slot_of_lem : {e : TableEntry} {b : List ℕ} → WellFormed e → b ≡ slot_bytes e → SlotOf e b
slot_of_lem {e} w form = record { sizes = slot_sizes e w; form = form }

-- the name, by the length that stands before it
pub held_name : {e : TableEntry} {b : List ℕ} → WellFormed e → b ≡ slot_bytes e → take (1 + get_or b 0 0 - 1) (drop 1 b) ≡ e.name
held_name {e} {b} w form =
    let size : 1 + get_or b 0 0 - 1 ≡ length e.name = omega (arith, ap (λ (t : List ℕ). get_or t 0 0) form ∙ slot_length e w) in
    ap₂ (λ (n : ℕ) (t : List ℕ). take n (drop 1 t)) size form ∙ slot_name e w

pub entry_of_lem : (b : List ℕ) → IsSlot b → TableEntry
unfolding IsSlot
entry_of_lem b (e, w, form) = e

pub of_slot : (b : List ℕ) (h : IsSlot b) → SlotOf (entry_of_lem b h) b
unfolding IsSlot entry_of_lem
of_slot b (e, w, form) = slot_of_lem w form

module _ {e : TableEntry} {b : List ℕ} (s : SlotOf e b) where
  pub long : length b ≡ body_size
  unfolding slot_bytes
  long = ap length s.form ∙ length_laid (length e.name) _ (flags e) _ _ _ s.sizes

  flags_at : get_or b 256 0 ≡ flags e
  flags_at = ap (λ (t : List ℕ). get_or t 256 0) s.form ∙ flags_of e s.sizes

  pub small : get_or b 256 0 ≤ 7
  small = omega (arith, flags_at, flags_most e)

  -- what its fields say
  pub field_flag : (k : Rtype) → is_set (field_bit k) (get_or b 256 0) ≡ there (in_field k e)
  field_flag A = ap (is_set 1) flags_at ∙ flag_a e
  field_flag Aaaa = ap (is_set 2) flags_at ∙ flag_aaaa e
  field_flag Dhcid = ap (is_set 4) flags_at ∙ flag_dhcid e

  pub field_at_lem : (k : Rtype) → take (field_size k) (drop (field_at k) b) ≡ field (field_size k) (in_field k e)
  field_at_lem A = ap (λ (t : List ℕ). take 4 (drop 257 t)) s.form ∙ a_of e s.sizes
  field_at_lem Aaaa = ap (λ (t : List ℕ). take 16 (drop 261 t)) s.form ∙ aaaa_of e s.sizes
  field_at_lem Dhcid = ap (λ (t : List ℕ). take 35 (drop 277 t)) s.form ∙ dhcid_of e s.sizes

  -- the 35 bytes x from a field's first on begin with it
  pub data_first : (k : Rtype) {x : List ℕ} → x ≡ take 35 (drop (field_at k) b) → (length x ≡ 35) × (take (field_size k) x ≡ field (field_size k) (in_field k e))
  data_first k is = (
    ap length is ∙ length-take-le 35 (drop (field_at k) b) (simp length-drop (omega (arith, long, field_offset_most k))),
    ap (take (field_size k)) is ∙ take-take (field_size k) 35 (drop (field_at k) b) (field_size_most k) ∙ field_at_lem k,
  )

  pub held_flag : is_set 4 (get_or b 256 0) ≡ there e.holder
  held_flag = field_flag Dhcid

  pub holder_at : take 35 (drop 277 b) ≡ field 35 e.holder
  holder_at = field_at_lem Dhcid

  -- other flags
  flags_by : (g : ℕ → ℕ) (v : ℕ) → g (flags e) ≡ v
      → set b 256 (g (get_or b 256 0)) ≡ laid (length e.name) (padded e.name) v (field 4 e.a) (field 16 e.aaaa) (field 35 e.holder)
  unfolding slot_bytes
  flags_by g v is =
      ap (λ (x : ℕ). set b 256 x) (ap g flags_at ∙ is) ∙ set_overlay b 256 v (omega (arith, long))
      ∙ ap (λ (t : List ℕ). overlay t 256 (v ∷ [])) s.form
      ∙ write_flags (length e.name) _ (flags e) _ _ _ s.sizes v

  -- b' has one field put, or cleared
  pub field_put_lem : (k : Rtype) (x : List ℕ) {b' : List ℕ} → length x ≡ field_size k → b' ≡ field_put b (field_bit k) (field_at k) x → SlotOf (with_field k x e) b'
  unfolding slot_bytes flags field_put
  field_put_lem A x size is =
      let v = flags (with_field A x e) in
      let sum : flag_set 1 (flags e) ≡ v = flag_set_is 1 (flag 2 e.aaaa + flag 4 e.holder) (flags e) e.a (flag_a e) (omega arith) ∙ omega arith in
      record {
        sizes = record { name = s.sizes.name; a = size; aaaa = s.sizes.aaaa; dhcid = s.sizes.dhcid };
        form = is ∙ ap (λ (t : List ℕ). overlay t 257 x) (flags_by (flag_set 1) v sum) ∙ write_a (length e.name) _ v _ _ _ s.sizes x size;
      }
  field_put_lem Aaaa x size is =
      let v = flags (with_field Aaaa x e) in
      let sum : flag_set 2 (flags e) ≡ v = flag_set_is 2 (flag 1 e.a + flag 4 e.holder) (flags e) e.aaaa (flag_aaaa e) (omega arith) ∙ omega arith in
      record {
        sizes = record { name = s.sizes.name; a = s.sizes.a; aaaa = size; dhcid = s.sizes.dhcid };
        form = is ∙ ap (λ (t : List ℕ). overlay t 261 x) (flags_by (flag_set 2) v sum) ∙ write_aaaa (length e.name) _ v _ _ _ s.sizes x size;
      }
  field_put_lem Dhcid x size is =
      let v = flags (with_field Dhcid x e) in
      let sum : flag_set 4 (flags e) ≡ v = flag_set_is 4 (flag 1 e.a + flag 2 e.aaaa) (flags e) e.holder (flag_dhcid e) (omega arith) ∙ omega arith in
      record {
        sizes = record { name = s.sizes.name; a = s.sizes.a; aaaa = s.sizes.aaaa; dhcid = size };
        form = is ∙ ap (λ (t : List ℕ). overlay t 277 x) (flags_by (flag_set 4) v sum) ∙ write_dhcid (length e.name) _ v _ _ _ s.sizes x size;
      }

  pub address_put : (f : Family) (x : List ℕ) {b' : List ℕ} → length x ≡ address_size f → b' ≡ field_put b (field_bit (address_type f)) (field_at (address_type f)) x → SlotOf (with_address f (some x) e) b'
  address_put V4 x size is = field_put_lem A x size is
  address_put V6 x size is = field_put_lem Aaaa x size is

  pub holder_put : (d : List ℕ) {b' : List ℕ} → length d ≡ 35 → b' ≡ field_put b 4 277 d → SlotOf (with_holder d e) b'
  holder_put d size is = field_put_lem Dhcid d size is

  pub address_cleared : (f : Family) {b' : List ℕ} → b' ≡ field_cleared b (field_bit (address_type f)) (field_at (address_type f)) (address_size f) → SlotOf (with_address f none e) b'
  unfolding slot_bytes flags field_cleared
  address_cleared V4 is =
      let v = flags (with_address V4 none e) in
      let sum : flag_cleared 1 (flags e) ≡ v = flag_cleared_is 1 (flag 2 e.aaaa + flag 4 e.holder) (flags e) e.a (flag_a e) (omega arith) ∙ omega arith in
      record {
        sizes = record { name = s.sizes.name; a = refl; aaaa = s.sizes.aaaa; dhcid = s.sizes.dhcid };
        form = is ∙ ap (λ (t : List ℕ). overlay t 257 (replicate 4 0)) (flags_by (flag_cleared 1) v sum) ∙ write_a (length e.name) _ v _ _ _ s.sizes (replicate 4 0) refl;
      }
  address_cleared V6 is =
      let v = flags (with_address V6 none e) in
      let sum : flag_cleared 2 (flags e) ≡ v = flag_cleared_is 2 (flag 1 e.a + flag 4 e.holder) (flags e) e.aaaa (flag_aaaa e) (omega arith) ∙ omega arith in
      record {
        sizes = record { name = s.sizes.name; a = s.sizes.a; aaaa = refl; dhcid = s.sizes.dhcid };
        form = is ∙ ap (λ (t : List ℕ). overlay t 261 (replicate 16 0)) (flags_by (flag_cleared 2) v sum) ∙ write_aaaa (length e.name) _ v _ _ _ s.sizes (replicate 16 0) refl;
      }

-- ---- a name written over zeros

abbrev zeros : ℕ → List ℕ
zeros k = replicate k 0

zeros_apart : (k : ℕ) → k ≤ 255 → zeros k ++ (zeros (255 - k) ++ zeros 56) ≡ zeros (body_size - 1)
zeros_apart k short =
    let sum : k + (255 - k + 56) ≡ body_size - 1 = omega arith in
    ap (λ (t : List ℕ). zeros k ++ t) (replicate-append-replicate (255 - k) 56 0) ∙ replicate-append-replicate k (255 - k + 56) 0 ∙ ap zeros sum

pub named : (b n : List ℕ) (l : ℕ) {b' : List ℕ} → b ≡ zeros body_size → l ≡ length n → length n ≤ 255 → b' ≡ overlay (set b 0 l) 1 n → SlotOf (bare n) b'
unfolding slot_bytes flags padded
named b n l unused size short is =
    let z = zeros (255 - length n) in
    record {
      sizes = record { name = length_padded n short; a = refl; aaaa = refl; dhcid = refl };
      form =
          is ∙ ap (λ (t : List ℕ). overlay (set t 0 l) 1 n) (unused ∙ ap (λ (t : List ℕ). 0 ∷ t) (sym (zeros_apart (length n) short)))
          ∙ overlay_at (l ∷ []) (zeros (length n)) (z ++ zeros 56) 1 refl n (length-replicate {A = ℕ} (length n) 0)
          ∙ sym (append_assoc (l ∷ n) z (zeros 56))
          ∙ sym (regroup (l ∷ n ++ z) (0 ∷ zeros 4) (zeros 16) (zeros 35))
          ∙ ap (λ (k : ℕ). laid k (n ++ z) 0 (zeros 4) (zeros 16) (zeros 35)) size;
    }

-- ---- answers by the flag and the field

module _ (d : List ℕ) where
  pub by_hand : (o : Option (List ℕ)) → there o ≡ false → ByHand ≡ holding eq_bytes o d
  by_hand none h = refl
  by_hand (some k) h = absurd (true≢false h)

  pub held_by : (o : Option (List ℕ)) (t : Bool) → there o ≡ true → eq_bytes (field 35 o) d ≡ t → cond t ByThis ByAnother ≡ holding eq_bytes o d
  held_by none t h same = absurd (false≢true h)
  held_by (some k) t h same = ap (λ (u : Bool). cond u ByThis ByAnother) (sym same)

module _ (x : List ℕ) where
  pub has_none : (o : Option (List ℕ)) → there o ≡ false → false ≡ is_address o x
  has_none none h = refl
  has_none (some y) h = absurd (true≢false h)

  pub has_some : (size : ℕ) (o : Option (List ℕ)) → there o ≡ true → eq_bytes (field size o) x ≡ is_address o x
  has_some size none h = absurd (false≢true h)
  has_some size (some y) h = refl
