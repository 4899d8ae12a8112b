-- Bytes determine the entry of a slot, and the entries of a table. Assumes nothing.
use Prim.Native.Nat.{ℕ}
use mathlib.Core.Bool.{true≢false}
use mathlib.Core.Path.{◌≡◌, refl, sym, ap, ap₂, ◌∙◌}
use mathlib.Core.List.{List}
use mathlib.Core.Option.{Option, none, some}
use lib.ListN.{length, take, drop, get_or}
use Rattle.base.proofs.RowLaws.{one_row}
use Rattle.slots.specs.Fields.{there}
use Rattle.slots.specs.Form.{TableEntry, field, flags, slot_bytes, WellFormed, IsTable}
use Rattle.slots.specs.Promise.{is_set}
use Rattle.slots.specs.Sizes.{slot_size}
use Rattle.slots.proofs.FlagLaws.{flag_a, flag_aaaa, flag_dhcid}
use Rattle.slots.proofs.LaidLaws.{length_slot, slot_sizes, slot_length, slot_name, flags_of, a_of, aaaa_of, dhcid_of}
use Rattle.slots.proofs.TableLaws.{as_row, one_byte, slot_marked}

-- ---- one slot

same_field : (size : ℕ) (o q : Option (List ℕ)) → there o ≡ there q → field size o ≡ field size q → o ≡ q
same_field size none none t e = refl
same_field size none (some y) t e = absurd (true≢false (sym t))
same_field size (some x) none t e = absurd (true≢false t)
same_field size (some x) (some y) t e = ap some e

pub one_slot : (e f : TableEntry) → WellFormed e → WellFormed f → slot_bytes e ≡ slot_bytes f → e ≡ f
one_slot e f w v s =
    let size : length e.name ≡ length f.name = sym (slot_length e w) ∙ ap (λ (b : List ℕ). get_or b 0 0) s ∙ slot_length f v in
    let name : e.name ≡ f.name = sym (slot_name e w) ∙ ap₂ (λ (n : ℕ) (b : List ℕ). take n (drop 1 b)) size s ∙ slot_name f v in
    let set : flags e ≡ flags f = sym (flags_of e (slot_sizes e w)) ∙ ap (λ (b : List ℕ). get_or b 256 0) s ∙ flags_of f (slot_sizes f v) in
    let a = same_field 4 e.a f.a (sym (flag_a e) ∙ ap (is_set 1) set ∙ flag_a f) (sym (a_of e (slot_sizes e w)) ∙ ap (λ (b : List ℕ). take 4 (drop 257 b)) s ∙ a_of f (slot_sizes f v)) in
    let aaaa = same_field 16 e.aaaa f.aaaa (sym (flag_aaaa e) ∙ ap (is_set 2) set ∙ flag_aaaa f) (sym (aaaa_of e (slot_sizes e w)) ∙ ap (λ (b : List ℕ). take 16 (drop 261 b)) s ∙ aaaa_of f (slot_sizes f v)) in
    let holder = same_field 35 e.holder f.holder (sym (flag_dhcid e) ∙ ap (is_set 4) set ∙ flag_dhcid f) (sym (dhcid_of e (slot_sizes e w)) ∙ ap (λ (b : List ℕ). take 35 (drop 277 b)) s ∙ dhcid_of f (slot_sizes f v)) in
    λ i. record { name = name i; a = a i; aaaa = aaaa i; holder = holder i }

-- ---- the table

pub one_from : (k : ℕ) (t u : List TableEntry) (b : List ℕ) → IsTable k t b → IsTable k u b → t ≡ u
one_from k t u b h g = one_row slot_bytes slot_size WellFormed length_slot one_byte slot_marked one_slot k t u b (as_row h) (as_row g)
