-- What was found of a listing is what a load of it answers; and what that says of the listing. Assumes nothing.
use Prim.Native.Nat.{ℕ, ◌≤◌, ◌<◌}
use mathlib.Core.Path.{◌≡◌, refl, sym, ap, ◌∙◌}
use mathlib.Core.Logic.{inl, inr}
use mathlib.Core.List.{List}
use native.Mathlib.Omega.{arith}
use lib.ListN.{length, replicate, length-replicate}
use Rattle.base.specs.Answer.{number}
use Rattle.base.specs.Bytes.{overlay}
use Rattle.base.specs.Order.{FirstFault}
use Rattle.base.specs.Refusal.{record_repeated}
use Rattle.base.specs.declared.Answer.{Answer}
use Rattle.base.specs.declared.Answer.TheVariants.{Accepted, Refused}
use Rattle.base.proofs.AnswerLaws.{accepted≢refused}
use Rattle.base.proofs.OrderLaws.{fault_before_lem, hold_both}
use Rattle.grammar.specs.Listing.{ResourceRecord}
use Rattle.grammar.specs.Faults.{WordFault, Faulty}
use Rattle.grammar.specs.Outcome.{accepted, refused, Checked}
use Rattle.listing.specs.Reading.{limit}
use Rattle.listing.specs.Giving.{Last, end, refusal, Gives}
use Rattle.listing.proofs.Theorems.{some_giving, gives_accepted, gives_refused}
use Rattle.slots.specs.Form.{table_bytes}
use Rattle.slots.specs.Sizes.{most_names, table_size}
use Rattle.records.specs.Gathered.{Single, table_of}
use Rattle.records.specs.Calls.{record_tests, area_tests, load_tests, Loads}
use Rattle.table_fault.specs.Judging.{without_slots, Judges}
use Rattle.table_fault.specs.declared.Judged.{Judged}
use Rattle.load_check.specs.Loading.{LoadAnswers, Right, Repeated, Explains}

-- ---- the verdict

module _ (t : List ℕ) where
  module _ (j : Judged) where
    answer_is : {r : Answer} → j ≡ without_slots r → j.answer ≡ r
    unfolding without_slots
    answer_is e = ap (λ (x : Judged). x.answer) e

    loads : (rs : List ResourceRecord) (l : Last) → Gives t 0 rs l → Judges rs l j → (area : List ℕ) → table_size ≤ length area
        → (left : List ℕ) × Loads limit most_names t area j.answer left
    loads rs (refusal n p) g w area room = (area, Loads.not_read (gives_refused g) (answer_is w) refl)
    loads rs end g (inl w) area room = (
      overlay area 0 (table_bytes most_names (table_of rs)),
      Loads.loaded (gives_accepted g) (hold_both (record_tests most_names rs) (area_tests most_names area) w.1 (room, tt)) w.0 refl,
    )
    loads rs end g (inr (n, w, f)) area room = (
      area,
      Loads.faulty (gives_accepted g) (fault_before_lem (record_tests most_names rs) (area_tests most_names area) n f) (answer_is w) refl,
    )

    pub verdict_is : ((rs : List ResourceRecord) (l : Last) → Gives t 0 rs l → Judges rs l j) → LoadAnswers t j.answer
    unfolding LoadAnswers
    verdict_is judged = let g = some_giving t 0 in loads g.0 g.1 g.2 (judged g.0 g.1 g.2)

-- ---- what an answer says of the listing

accepted_gives : {t : List ℕ} {rs : List ResourceRecord} → Checked limit t (accepted rs) → Gives t 0 rs end
accepted_gives (Checked.whole fits s) = Gives.whole fits s

-- the faults of reading have lower numbers
word_fault_low : {e : List ℕ} {n : ℕ} → WordFault e n → n < 32
word_fault_low (WordFault.indented w h) = omega arith
word_fault_low (WordFault.no_owner w h) = omega arith
word_fault_low (WordFault.no_type w b o h) = omega arith
word_fault_low (WordFault.no_data w b o k h) = omega arith

entry_fault_low : {t : List ℕ} {n : ℕ} → Faulty t n → n < 32
entry_fault_low (Faulty.shape f) = omega arith
entry_fault_low (Faulty.last_entry f) = word_fault_low f
entry_fault_low (Faulty.ended_entry u q f) = word_fault_low f

checked_low : {t : List ℕ} {n offset : ℕ} → Checked limit t (refused n offset) → n < 32
checked_low (Checked.too_long h) = omega arith
checked_low (Checked.faulty h f) = entry_fault_low f.faulty

module _ (t : List ℕ) (a : Answer) (answers : LoadAnswers t a) where
  -- for some area
  loading : (left : List ℕ) × Loads limit most_names t (replicate table_size 0) a left
  unfolding LoadAnswers
  loading = answers (replicate table_size 0) (omega (arith, length-replicate {A = ℕ} table_size 0))

  pub accepted_right : (n : ℕ) → a ≡ Accepted n → Right t
  unfolding Right
  accepted_right n e = go loading.1
    where
      go : {left : List ℕ} → Loads limit most_names t (replicate table_size 0) a left → (rs : List ResourceRecord) × Gives t 0 rs end
      go (Loads.not_read c q same) = absurd (accepted≢refused (sym e ∙ q))
      go (Loads.faulty c f q same) = absurd (accepted≢refused (sym e ∙ q))
      go (Loads.loaded {rs} c h q same) = (rs, accepted_gives c)

  pub refused_explains : (n p : ℕ) → a ≡ Refused n p → Explains t n
  unfolding Right Repeated
  refused_explains n p e = go loading.1
    where
      go : {left : List ℕ} → Loads limit most_names t (replicate table_size 0) a left → Explains t n
      go (Loads.not_read c q same) =
          let number_is = ap number (sym e ∙ q) in
          record { repeated = λ is. absurd (omega (arith, checked_low c)); full = λ is. absurd (omega (arith, checked_low c)) }
      go (Loads.faulty {rs} {n = m} c f q same) =
          let number_is = ap number (sym e ∙ q) in
          record { repeated = λ is. (rs, accepted_gives c, λ single. not_repeated f single (sym number_is ∙ is)); full = λ is. (rs, accepted_gives c) }
        where
          not_repeated : FirstFault (load_tests most_names rs (replicate table_size 0)) m → Single rs → m ≡ record_repeated → ⊥
          not_repeated (inl g) single is = g.0 single
          not_repeated (inr (h, inl g)) single is = omega (arith, g.1)
          not_repeated (inr (h, inr (k, inl g))) single is = omega (arith, g.1)
          not_repeated (inr (h, inr (k, inr (j, g)))) single is = g
      go (Loads.loaded c h q same) = absurd (accepted≢refused (sym q ∙ e))
