-- The power cut between two steps. Document 02, K7 (docs/RULES.md, 12.5): power may fail before, between or after, leaving nothing done, the first step alone, or
-- both; the same again right afterwards must end in the state of an uncut run. What is cut is what the host stores, one side after the other in the order of the
-- call's writes (docs/POWER.md): b and c are the bytes of the two sides that are stored.
use Rattle.std.specs.Prelude.{ℕ, suc, ◌≤◌, ◌<◌, ◌≡◌, List, [], ◌∷◌}
use Rattle.std.proofs.Math.Option.{none, some}
use Rattle.base.specs.Order.{Test, AllHold, FirstFault}
use Rattle.base.specs.Refusal.{name_not_held, address_differs}
use Rattle.base.specs.declared.Answer.{Answer}
use Rattle.base.specs.declared.Answer.TheVariants.{Accepted, Refused}
use Rattle.block.specs.Sealed.{block_size}
use Rattle.name.specs.Name.{canonical}
use Rattle.slots.specs.Entry.{family_of}
use Rattle.slots.specs.Form.{TableEntry, table_bytes, Sound}
use Rattle.table.specs.Steps.{find}
use Rattle.reverse.specs.Form.{reverse_bytes, SoundReverse}
use Rattle.book.specs.Calls.{Replays}
use Rattle.leases.specs.Plan.{Sides, Plan, after, lease_plan, end_plan}
use Rattle.leases.specs.Calls.{sides_of, lease_tests, end_tests}

-- ---- a run that is cut

module _ (limit places : ℕ) (tests : List ℕ → List ℕ → List Test) (plan : Sides → Plan) where
  -- a run on sides that held b and c was cut once the first k of its writes were done, and b' and c' are left. A run that is refused has no writes
  pub data CutOff (k : ℕ) (b c b' c' : List ℕ) : Type 0 where
    faulty : (n : ℕ) → FirstFault (tests b c) n → b' ≡ b → c' ≡ c → CutOff k b c b' c'
    planned : AllHold (tests b c) → (t : Sound limit b) (u : SoundReverse places c) → b' ≡ table_bytes limit (after k (plan (sides_of t u)) (sides_of t u)).table
        → c' ≡ reverse_bytes places (after k (plan (sides_of t u)) (sides_of t u)).names → CutOff k b c b' c'

  -- runs of the same call, one after the other, each cut after so many of its writes: power may fail again in the run that mends
  pub data CutsOff : List ℕ → List ℕ → List ℕ → List ℕ → List ℕ → Type 0 where
    over : {b c b' c' : List ℕ} → b' ≡ b → c' ≡ c → CutsOff [] b c b' c'
    more : {k : ℕ} {ks : List ℕ} {b c b' c' : List ℕ} (b₁ c₁ : List ℕ) → CutOff k b c b₁ c₁ → CutsOff ks b₁ c₁ b' c' → CutsOff (k ∷ ks) b c b' c'

-- ---- of a lease

unfoldable pub LeaseCut : ℕ → ℕ → List ℕ → List ℕ → ℕ → List ℕ → ℕ → ℕ → List ℕ → List ℕ → List ℕ → List ℕ → Type 0
LeaseCut limit places name dhcid family address policy =
    CutOff limit places (λ b c. lease_tests limit places b c name dhcid family address policy) (lease_plan limit places (canonical name) dhcid (family_of family) address policy)

unfoldable pub LeaseCuts : ℕ → ℕ → List ℕ → List ℕ → ℕ → List ℕ → ℕ → List ℕ → List ℕ → List ℕ → List ℕ → List ℕ → Type 0
LeaseCuts limit places name dhcid family address policy =
    CutsOff limit places (λ b c. lease_tests limit places b c name dhcid family address policy) (lease_plan limit places (canonical name) dhcid (family_of family) address policy)

-- what the second run answers, where r is what an uncut one does: the same if it is refused or if nothing was done; else 1, since the client has the name by then
pub data SecondLease (k : ℕ) (r : Answer) : Answer → Type 0 where
  refused : {m o : ℕ} → r ≡ Refused m o → SecondLease k r r
  nothing_done : k ≡ 0 → SecondLease k r r
  held : {v j : ℕ} → r ≡ Accepted v → k ≡ suc j → SecondLease k r (Accepted 1)

-- ---- of an ended lease

unfoldable pub EndCut : ℕ → ℕ → List ℕ → List ℕ → ℕ → List ℕ → ℕ → List ℕ → List ℕ → List ℕ → List ℕ → Type 0
EndCut limit places name dhcid family address =
    CutOff limit places (λ b c. end_tests limit places b c name dhcid family address) (end_plan (canonical name) dhcid (family_of family) address)

unfoldable pub EndCuts : ℕ → ℕ → List ℕ → List ℕ → ℕ → List ℕ → List ℕ → List ℕ → List ℕ → List ℕ → List ℕ → Type 0
EndCuts limit places name dhcid family address =
    CutsOff limit places (λ b c. end_tests limit places b c name dhcid family address) (end_plan (canonical name) dhcid (family_of family) address)

-- what the second run answers: the same if it is refused or if nothing was done; 0 after the first step; after both 33 if the name n is gone from the table b₀ that an
-- uncut run leaves, and 34 if it stands there without the address
pub data SecondEnd (limit : ℕ) (n b₀ : List ℕ) (k : ℕ) (r : Answer) : Answer → Type 0 where
  refused : {m o : ℕ} → r ≡ Refused m o → SecondEnd limit n b₀ k r r
  nothing_done : k ≡ 0 → SecondEnd limit n b₀ k r r
  between : {v : ℕ} → r ≡ Accepted v → k ≡ 1 → SecondEnd limit n b₀ k r (Accepted 0)
  gone : {v j : ℕ} → r ≡ Accepted v → k ≡ suc (suc j) → (s₀ : Sound limit b₀) → find n s₀.table ≡ none → SecondEnd limit n b₀ k r (Refused name_not_held 0)
  stands : {v j : ℕ} {e : TableEntry} → r ≡ Accepted v → k ≡ suc (suc j) → (s₀ : Sound limit b₀) → find n s₀.table ≡ some e → SecondEnd limit n b₀ k r (Refused address_differs 0)

-- ---- the forward step as a block of the book (document 02, K5), of which j bytes are stored

-- what the sound part of the book replays to once j bytes of the block are stored: the old table up to the last of them, and then the new one
pub data Stored (limit : ℕ) (area before after part : List ℕ) (j : ℕ) : Type 0 where
  old : j < block_size → Replays limit part area (Accepted 0) before → Stored limit area before after part j
  new : block_size ≤ j → Replays limit part area (Accepted 0) after → Stored limit area before after part j
