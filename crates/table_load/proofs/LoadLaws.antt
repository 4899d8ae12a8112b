-- What a load answers and leaves, by what was found of the listing, of its records and of the area. Assumes nothing.
use Prim.Native.Nat.{ℕ, ◌+◌, ◌≤◌, ◌<◌}
use mathlib.Core.Path.{◌≡◌, refl, sym, ap, ◌∙◌}
use mathlib.Core.Logic.{inl, inr}
use mathlib.Core.List.{List, ◌++◌}
use native.Mathlib.Omega.{arith}
use lib.ListN.{length, drop}
use Rattle.base.specs.Bytes.{overlay}
use Rattle.base.specs.Order.{AllHold}
use Rattle.base.specs.declared.Answer.{Answer}
use Rattle.base.specs.declared.Answer.TheVariants
use Rattle.base.proofs.OrderLaws.{fault_before_lem, fault_after, hold_both}
use Rattle.grammar.specs.Listing.{ResourceRecord}
use Rattle.listing.specs.Reading.{limit}
use Rattle.listing.specs.Giving.{Last, end, refusal, Gives}
use Rattle.base.proofs.AnswerLaws.{accepted≢refused}
use Rattle.listing.proofs.Theorems.{some_giving, gives_accepted, gives_refused}
use Rattle.slots.specs.Form.{table_bytes}
use Rattle.slots.specs.Sizes.{most_names, table_size}
use Rattle.slots.proofs.TableLaws.{length_table}
use Rattle.records.specs.Gathered.{table_of}
use Rattle.records.specs.Calls.{record_tests, area_tests, Loads}
use Rattle.records.proofs.SoundLaws.{table_is}
use Rattle.table_fault.specs.Judging.{without_slots, Judges}
use Rattle.table_fault.specs.declared.Judged.{Judged}
use Rattle.table_fault.proofs.LookLaws.{given_well_formed}
use Rattle.table_load.specs.Promise.{Loadable}

-- ---- what was found of the listing and of its records

module _ (t : List ℕ) where
  module _ (j : Judged) (judged : (rs : List ResourceRecord) (l : Last) → Gives t 0 rs l → Judges rs l j) where
    answer_is : {r : Answer} → j ≡ without_slots r → j.answer ≡ r
    unfolding without_slots
    answer_is e = ap (λ (x : Judged). x.answer) e

    -- refused: so is the load
    pub loads_refused : (n p : ℕ) → j.answer ≡ TheVariants.Refused n p → (area : List ℕ) → Loads limit most_names t area (TheVariants.Refused n p) area
    loads_refused n p e area = let g = some_giving t 0 in go g.0 g.1 g.2 (judged g.0 g.1 g.2)
      where
        go : (rs : List ResourceRecord) (l : Last) → Gives t 0 rs l → Judges rs l j → Loads limit most_names t area (TheVariants.Refused n p) area
        go rs (refusal m q) g w = Loads.not_read (gives_refused g) (sym e ∙ answer_is w) refl
        go rs end g (inl w) = absurd (accepted≢refused (sym w.0 ∙ e))
        go rs end g (inr (m, w, f)) = Loads.faulty (gives_accepted g) (fault_before_lem (record_tests most_names rs) (area_tests most_names area) m f) (sym e ∙ answer_is w) refl

    -- accepted: the records make a table
    pub loadable : (n : ℕ) → j.answer ≡ TheVariants.Accepted n → (rs : List ResourceRecord) × Loadable t j.slots rs
    loadable n e = let g = some_giving t 0 in go g.0 g.1 g.2 (judged g.0 g.1 g.2)
      where
        go : (rs : List ResourceRecord) (l : Last) → Gives t 0 rs l → Judges rs l j → (rs : List ResourceRecord) × Loadable t j.slots rs
        go rs (refusal m q) g w = absurd (accepted≢refused (sym e ∙ answer_is w))
        go rs end g (inl w) = (rs, record { gives = g; single = w.1.0; room = w.1.1.0; placed = w.2.placed })
        go rs end g (inr (m, w, f)) = absurd (accepted≢refused (sym e ∙ answer_is w))

  -- ---- records that make a table

  module _ (ps : List ℕ) (rs : List ResourceRecord) (h : Loadable t ps rs) where
    all : AllHold (record_tests most_names rs)
    all = (h.single, (h.room, tt))

    pub loads_short : (area : List ℕ) (r : Answer) → length area < table_size → r ≡ TheVariants.Refused 13 0 → Loads limit most_names t area r area
    loads_short area r short e =
        Loads.faulty (gives_accepted h.gives) (fault_after (record_tests most_names rs) (area_tests most_names area) 13 all (inl (λ long. omega arith, refl))) e refl

    -- the table has the bytes that were lent, and what stands behind them stays
    table_size_lem : 0 + length (table_bytes most_names (table_of rs)) ≡ table_size
    table_size_lem = omega (arith, length_table most_names _ _ (table_is rs (given_well_formed h.gives) most_names h.room))

    pub loads_all : (area s : List ℕ) → table_size ≤ length area → s ≡ table_bytes most_names (table_of rs) → Loads limit most_names t area (TheVariants.Accepted 0) (s ++ drop table_size area)
    unfolding overlay
    loads_all area s long filled =
        Loads.loaded (gives_accepted h.gives) (hold_both (record_tests most_names rs) (area_tests most_names area) all (long, tt)) refl (λ i. filled i ++ drop (sym table_size_lem i) area)
