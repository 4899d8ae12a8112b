-- The call that loads a table (specs/Calls.antt): one answer and one content of the area, what a refusal leaves, and what stands in the area where it was accepted. Assumes nothing.
use Prim.Native.Nat.{ℕ, ◌*◌, ◌<◌}
use mathlib.Core.Path.{◌≡◌, refl, sym, ap, ap₂, subst, ◌∙◌}
use mathlib.Core.Logic.{◌⊎◌, inl, inr}
use mathlib.Core.List.{List}
use native.Mathlib.Omega.{arith}
use lib.ListN.{take}
use Rattle.base.specs.Answer.{number}
use Rattle.base.specs.Bytes.{overlay}
use Rattle.base.specs.Order.{AllHold, FirstFault}
use Rattle.base.specs.declared.Answer.{Answer}
use Rattle.base.specs.declared.Answer.TheVariants.{Accepted, Refused}
use Rattle.base.proofs.AnswerLaws.{accepted≢refused}
use Rattle.base.proofs.Bytes.{taken_back}
use Rattle.base.proofs.Theorems.{one_fault, no_fault}
use Rattle.grammar.specs.Listing.{ResourceRecord, Spells}
use Rattle.grammar.specs.Faults.{WordFault, Faulty}
use Rattle.grammar.specs.Outcome.{Outcome, accepted, refused, Checked}
use Rattle.grammar.proofs.Theorems.{some_check, one_check}
use Rattle.writer.proofs.Theorems.{spelled_well_formed}
use Rattle.slots.specs.Form.{table_bytes, IsTable, Sound}
use Rattle.slots.specs.Sizes.{slot_size}
use Rattle.slots.proofs.TableLaws.{length_table}
use Rattle.records.specs.Gathered.{Single, table_of}
use Rattle.records.specs.Calls.{load_tests, Loads}
use Rattle.records.proofs.SoundLaws.{table_distinct, table_is}

-- ---- no refusal has the number 0

word_fault_number : {e : List ℕ} {n : ℕ} → WordFault e n → 0 < n
word_fault_number (WordFault.indented w h) = omega arith
word_fault_number (WordFault.no_owner w h) = omega arith
word_fault_number (WordFault.no_type w b o h) = omega arith
word_fault_number (WordFault.no_data w b o k h) = omega arith

pub entry_fault_number : {t : List ℕ} {n : ℕ} → Faulty t n → 0 < n
entry_fault_number (Faulty.shape f) = omega arith
entry_fault_number (Faulty.last_entry f) = word_fault_number f
entry_fault_number (Faulty.ended_entry u q f) = word_fault_number f

checked_number : {limit : ℕ} {t : List ℕ} {n offset : ℕ} → Checked limit t (refused n offset) → 0 < n
checked_number (Checked.too_long h) = omega arith
checked_number (Checked.faulty h f) = entry_fault_number f.faulty

tests_number : (places : ℕ) (rs : List ResourceRecord) (area : List ℕ) {n : ℕ} → FirstFault (load_tests places rs area) n → 0 < n
tests_number places rs area (inl f) = omega (arith, f.1)
tests_number places rs area (inr (h, inl f)) = omega (arith, f.1)
tests_number places rs area (inr (h, inr (k, inl f))) = omega (arith, f.1)
tests_number places rs area (inr (h, inr (k, inr (j, f)))) = absurd f

-- ---- the call

module _ (limit places : ℕ) (t area : List ℕ) where
  -- what is answered and left, by what the listing comes to
  Answers : Outcome → Answer → List ℕ → Type 0
  Answers (refused n offset) r left = (r ≡ Refused n offset) × (left ≡ area)
  Answers (accepted rs) r left =
      ((n : ℕ) × FirstFault (load_tests places rs area) n × (r ≡ Refused n 0) × (left ≡ area))
      ⊎ (AllHold (load_tests places rs area) × (r ≡ Accepted 0) × (left ≡ overlay area 0 (table_bytes places (table_of rs))))

  module _ {r : Answer} {left : List ℕ} where
    by_outcome : {o : Outcome} → Checked limit t o → Loads limit places t area r left → Answers o r left
    unfolding Answers
    by_outcome {o} c (Loads.not_read d a e) = subst (λ (p : Outcome). Answers p r left) (one_check limit t _ o d c) (a, e)
    by_outcome {o} c (Loads.faulty {n = n} d f a e) = subst (λ (p : Outcome). Answers p r left) (one_check limit t _ o d c) (inl (n, f, a, e))
    by_outcome {o} c (Loads.loaded d h a e) = subst (λ (p : Outcome). Answers p r left) (one_check limit t _ o d c) (inr (h, a, e))

    pub unloaded : Loads limit places t area r left → (n at : ℕ) → r ≡ Refused n at → left ≡ area
    unloaded (Loads.not_read d a e) n at h = e
    unloaded (Loads.faulty d f a e) n at h = e
    unloaded (Loads.loaded d k a e) n at h = absurd (accepted≢refused (sym a ∙ h))

    -- records that pass the tests are in the table that was loaded
    pub was_loaded : {rs : List ResourceRecord} → Checked limit t (accepted rs) → AllHold (load_tests places rs area) → Loads limit places t area r left
        → (r ≡ Accepted 0) × (left ≡ overlay area 0 (table_bytes places (table_of rs)))
    unfolding Answers
    was_loaded {rs} c h l = go (by_outcome c l)
      where
        go : Answers (accepted rs) r left → (r ≡ Accepted 0) × (left ≡ overlay area 0 (table_bytes places (table_of rs)))
        go (inl f) = absurd (no_fault (load_tests places rs area) f.0 h f.1)
        go (inr k) = (k.1, k.2)

  one_loaded : {r q : Answer} {left also : List ℕ} (o : Outcome) → Answers o r left → Answers o q also → (r ≡ q) × (left ≡ also)
  unfolding Answers
  one_loaded (refused n offset) (a, e) (c, d) = (a ∙ sym c, e ∙ sym d)
  one_loaded (accepted rs) (inl (n, f, a, e)) (inl (m, g, c, d)) = (
    a ∙ ap (λ (k : ℕ). Refused k 0) (one_fault (load_tests places rs area) n m f g) ∙ sym c,
    e ∙ sym d,
  )
  one_loaded (accepted rs) (inl (n, f, a, e)) (inr (h, c, d)) = absurd (no_fault (load_tests places rs area) n h f)
  one_loaded (accepted rs) (inr (h, a, e)) (inl (m, g, c, d)) = absurd (no_fault (load_tests places rs area) m h g)
  one_loaded (accepted rs) (inr (h, a, e)) (inr (k, c, d)) = (a ∙ sym c, e ∙ sym d)

  pub one_loading : {r q : Answer} {left also : List ℕ} → Loads limit places t area r left → Loads limit places t area q also → (r ≡ q) × (left ≡ also)
  one_loading l k = let c = some_check limit t in one_loaded c.0 (by_outcome c.1 l) (by_outcome c.1 k)

  -- where the number is 0, it was loaded: the listing spells records of which none stands twice, and the area begins with their table
  pub record Filled (r : Answer) (left : List ℕ) : Type 0 where
    pub records : List ResourceRecord
    pub spelled : Spells t records
    pub single : Single records
    pub answered : r ≡ Accepted 0
    pub sound : Sound places (take (slot_size * places) left)
    pub table : sound.table ≡ table_of records

  spelled_by : {rs : List ResourceRecord} → Checked limit t (accepted rs) → Spells t rs
  spelled_by (Checked.whole h s) = s

  pub filled : {r : Answer} {left : List ℕ} → Loads limit places t area r left → number r ≡ 0 → Filled r left
  filled (Loads.not_read d a e) z = absurd (omega (arith, ap number a, checked_number d))
  filled (Loads.faulty {rs} d f a e) z = absurd (omega (arith, ap number a, tests_number places rs area f))
  filled (Loads.loaded {rs} d h a e) z =
      let new = table_is rs (spelled_well_formed t rs (spelled_by d)) places h.1.0 in
      let is = ap₂ take (sym (length_table places (table_of rs) _ new)) e ∙ taken_back area (table_bytes places (table_of rs)) in
      record {
        records = rs;
        spelled = spelled_by d;
        single = h.0;
        answered = a;
        sound = record { table = table_of rs; slots = subst (IsTable places (table_of rs)) (sym is) new; distinct = table_distinct rs };
        table = refl;
      }
