-- What `judge` finds of a listing: whether its records make a table, and the slot of each. Document 01, "The table" (docs/RULES.md, 7.7): loading,
-- the faults of reading (17 and 20 to 24), then 35, then 32. How a sweep over the entries finds it stands apart, in specs/Sweeping.antt.
use Rattle.std.specs.Prelude.{ℕ, ◌≤◌, ◌<◌, ◌≡◌, ◌⊎◌, List, [], ◌∷◌, ◌++◌, length, get_or, replicate}
use Rattle.base.specs.Order.{AllHold, FirstFault}
use Rattle.base.specs.declared.Answer.{Answer}
use Rattle.base.specs.declared.Answer.TheVariants.{Accepted, Refused}
use Rattle.grammar.specs.Listing.{ResourceRecord}
use Rattle.listing.specs.Giving.{Last, end, refusal}
use Rattle.records.specs.Calls.{record_tests}
use Rattle.records.specs.Gathered.{owners}
use Rattle.slots.specs.Sizes.{most_names, most_records}
use Rattle.table_fault.specs.declared.Judged.{Judged}

-- ---- the slot of each record

-- the name n is not one of the first i of ns
unfoldable pub NotBefore : ℕ → List (List ℕ) → List ℕ → Type 0
NotBefore i ns n = (j : ℕ) → j < i → get_or ns j [] ≡ n → ⊥

-- i is where the name n stands among ns, or their number where it does not
unfoldable pub IndexOf : List (List ℕ) → List ℕ → ℕ → Type 0
IndexOf ns n i = ((i < length ns) × (get_or ns i [] ≡ n)) ⊎ ((i ≡ length ns) × NotBefore (length ns) ns n)

-- where the name of each of the records rs stands among the names before it, which is its slot: ps has that in the order of the records
unfoldable pub Placed : List ResourceRecord → List ℕ → Type 0
Placed rs ps = (a b : List ResourceRecord) (r : ResourceRecord) → rs ≡ a ++ r ∷ b → IndexOf (owners a) r.owner (get_or ps (length a) 0)

-- ps has the slots of the records rs, in their order, and zeros behind them
pub record SlotsOf (rs : List ResourceRecord) (ps : List ℕ) : Type 0 where
  pub placed : Placed rs ps
  pub rest : (k : ℕ) → length rs ≤ k → get_or ps k 0 ≡ 0

-- ---- the answer

-- a refusal, with no slots: zeros
unfoldable pub without_slots : Answer → Judged
without_slots r = record { answer = r; slots = replicate most_records 0 }

-- by what comes after the records: a refusal is the answer; else it is the first fault of the records, if they have one; and else they make a table
abbrev pub Judges : List ResourceRecord → Last → Judged → Type 0
Judges rs (refusal n p) j = j ≡ without_slots (Refused n p)
Judges rs end j = ((j.answer ≡ Accepted 0) × AllHold (record_tests most_names rs) × SlotsOf rs j.slots) ⊎ ((n : ℕ) × (j ≡ without_slots (Refused n 0)) × FirstFault (record_tests most_names rs) n)
