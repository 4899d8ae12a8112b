-- Which types of record a name has, as flags. Assumes nothing.
use Prim.Native.Nat.{ℕ, ◌+◌, ◌*◌, ◌/◌, ◌%◌, ◌≤◌}
use mathlib.Core.Path.{◌≡◌, refl, sym, ap, ◌∙◌}
use mathlib.Core.List.{List, [], ◌∷◌, ◌++◌}
use native.Mathlib.Omega.{arith}
use lib.ListN.{length}
use Rattle.grammar.specs.Listing.{RecordType, ResourceRecord}
use Rattle.entry.specs.Held.{type_number}
use Rattle.records.specs.Gathered.{data_of}
use Rattle.records.proofs.DataLaws.{of_is, other_owner, other_type, length_data_append, data_one, data_not_one}
use Rattle.table_fault.specs.Sweeping.{type_bit}

-- how many records of a type a name has
abbrev pub many : List ℕ → RecordType → List ResourceRecord → ℕ
many n k rs = length (data_of n k rs)

-- among the records seen the name n has at most one of each type, and v has the flags of those
pub record Flagged (n : List ℕ) (seen : List ResourceRecord) (v : ℕ) : Type 0 where
  pub sum : v ≡ many n RecordType.A seen + 2 * many n RecordType.AAAA seen + 4 * many n RecordType.DHCID seen
  pub a : many n RecordType.A seen ≤ 1
  pub aaaa : many n RecordType.AAAA seen ≤ 1
  pub dhcid : many n RecordType.DHCID seen ≤ 1

pub flagged_each : {n : List ℕ} {seen : List ResourceRecord} {v : ℕ} → Flagged n seen v → (k : RecordType) → many n k seen ≤ 1
flagged_each f RecordType.A = f.a
flagged_each f RecordType.AAAA = f.aaaa
flagged_each f RecordType.DHCID = f.dhcid

pub flagged_small : {n : List ℕ} {seen : List ResourceRecord} {v : ℕ} → Flagged n seen v → v ≤ 7
flagged_small f = omega (arith, f.sum, f.a, f.aaaa, f.dhcid)

pub flagged_none : (n : List ℕ) (seen : List ResourceRecord) → ((k : RecordType) → data_of n k seen ≡ []) → Flagged n seen 0
flagged_none n seen none =
    let a = ap length (none RecordType.A) in
    let aaaa = ap length (none RecordType.AAAA) in
    let dhcid = ap length (none RecordType.DHCID) in
    record { sum = omega arith; a = omega arith; aaaa = omega arith; dhcid = omega arith }

pub bit_some : (k : RecordType) → 1 ≤ type_bit (type_number k)
bit_some RecordType.A = omega arith
bit_some RecordType.AAAA = omega arith
bit_some RecordType.DHCID = omega arith

pub bit_small : (k : RecordType) → type_bit (type_number k) ≤ 4
bit_small RecordType.A = omega arith
bit_small RecordType.AAAA = omega arith
bit_small RecordType.DHCID = omega arith

-- one record more: one more of its own name and type, and as many of any other
module _ (n : List ℕ) (seen : List ResourceRecord) (r : ResourceRecord) where
  pub many_own : (k : RecordType) → r.owner ≡ n → r.rtype ≡ k → many n k (seen ++ r ∷ []) ≡ many n k seen + 1
  many_own k own type = length_data_append n k seen (r ∷ []) ∙ ap (λ (m : ℕ). many n k seen + m) (ap length (data_one n k r (of_is n k r own type)))

  same_many : (k : RecordType) → data_of n k (r ∷ []) ≡ [] → many n k (seen ++ r ∷ []) ≡ many n k seen
  same_many k none = length_data_append n k seen (r ∷ []) ∙ omega (arith, ap length none)

  pub many_other : (k : RecordType) → (r.owner ≡ n → ⊥) → many n k (seen ++ r ∷ []) ≡ many n k seen
  many_other k other = same_many k (data_not_one n k r (other_owner n k r other))

  many_type : (k : RecordType) → (r.rtype ≡ k → ⊥) → many n k (seen ++ r ∷ []) ≡ many n k seen
  many_type k other = same_many k (data_not_one n k r (other_type n k r other))

  pub flagged_other : {v : ℕ} → (r.owner ≡ n → ⊥) → Flagged n seen v → Flagged n (seen ++ r ∷ []) v
  flagged_other other f =
      let a = many_other RecordType.A other in
      let aaaa = many_other RecordType.AAAA other in
      let dhcid = many_other RecordType.DHCID other in
      record { sum = omega (arith, f.sum); a = omega (arith, f.a); aaaa = omega (arith, f.aaaa); dhcid = omega (arith, f.dhcid) }

  -- a type whose flag is set stands already
  pub flagged_twice : {v : ℕ} → Flagged n seen v → (k : RecordType) → v / type_bit (type_number k) % 2 ≡ 1 → 1 ≤ many n k seen
  flagged_twice f RecordType.A set = omega (arith, f.sum, f.a, f.aaaa, f.dhcid)
  flagged_twice f RecordType.AAAA set = omega (arith, f.sum, f.a, f.aaaa, f.dhcid)
  flagged_twice f RecordType.DHCID set = omega (arith, f.sum, f.a, f.aaaa, f.dhcid)

  -- and one whose flag is not set is set by it
  module _ (own : r.owner ≡ n) where
    apart : (j k : RecordType) → r.rtype ≡ j → (type_number j ≡ type_number k → ⊥) → many n k (seen ++ r ∷ []) ≡ many n k seen
    apart j k e d = many_type k (λ same. d (ap type_number (sym e ∙ same)))

    flagged_by : {v : ℕ} → Flagged n seen v → (k : RecordType) → r.rtype ≡ k → (v / type_bit (type_number k) % 2 ≡ 1 → ⊥) → Flagged n (seen ++ r ∷ []) (v + type_bit (type_number k))
    flagged_by f RecordType.A e unset =
        let a = many_own RecordType.A own e in
        let aaaa = apart RecordType.A RecordType.AAAA e (λ x. omega arith) in
        let dhcid = apart RecordType.A RecordType.DHCID e (λ x. omega arith) in
        let none : many n RecordType.A seen ≡ 0 = omega (arith, f.sum, f.a, f.aaaa, f.dhcid) in
        record { sum = omega (arith, f.sum); a = omega arith; aaaa = omega (arith, f.aaaa); dhcid = omega (arith, f.dhcid) }
    flagged_by f RecordType.AAAA e unset =
        let a = apart RecordType.AAAA RecordType.A e (λ x. omega arith) in
        let aaaa = many_own RecordType.AAAA own e in
        let dhcid = apart RecordType.AAAA RecordType.DHCID e (λ x. omega arith) in
        let none : many n RecordType.AAAA seen ≡ 0 = omega (arith, f.sum, f.a, f.aaaa, f.dhcid) in
        record { sum = omega (arith, f.sum); a = omega (arith, f.a); aaaa = omega arith; dhcid = omega (arith, f.dhcid) }
    flagged_by f RecordType.DHCID e unset =
        let a = apart RecordType.DHCID RecordType.A e (λ x. omega arith) in
        let aaaa = apart RecordType.DHCID RecordType.AAAA e (λ x. omega arith) in
        let dhcid = many_own RecordType.DHCID own e in
        let none : many n RecordType.DHCID seen ≡ 0 = omega (arith, f.sum, f.a, f.aaaa, f.dhcid) in
        record { sum = omega (arith, f.sum); a = omega (arith, f.a); aaaa = omega (arith, f.aaaa); dhcid = omega arith }

    pub flagged_more : {v : ℕ} → Flagged n seen v → (v / type_bit (type_number r.rtype) % 2 ≡ 1 → ⊥) → Flagged n (seen ++ r ∷ []) (v + type_bit (type_number r.rtype))
    flagged_more f unset = flagged_by f r.rtype refl unset
