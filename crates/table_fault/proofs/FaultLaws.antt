-- From what sweeps have found to the first fault of a listing and of its records. Assumes nothing.
use Prim.Native.Nat.{ℕ, zero, suc, ◌-◌, ◌≤◌, ◌<◌}
use mathlib.Core.Path.{◌≡◌, refl, sym, ap, subst, ◌∙◌}
use mathlib.Core.Logic.{⊎_elim, inl, inr}
use mathlib.Core.List.{List}
use native.Mathlib.Omega.{arith}
use lib.ListN.{length, get_or, replicate}
use Rattle.base.specs.Refusal.{listing_long, record_repeated, table_full}
use Rattle.base.specs.declared.Answer.{Answer}
use Rattle.base.specs.declared.Answer.TheVariants.{Accepted, Refused}
use Rattle.grammar.specs.Listing.{ResourceRecord}
use Rattle.listing.specs.Reading.{limit}
use Rattle.listing.specs.Giving.{Last, end, refusal, Gives, too_long, whole, faulty}
use Rattle.listing.proofs.GivingLaws.{end≢refusal}
use Rattle.records.specs.Gathered.{Single, owners}
use Rattle.slots.specs.Sizes.{most_names, most_records}
use Rattle.table_fault.specs.Judging.{Placed, without_slots, Judges}
use Rattle.table_fault.specs.Sweeping.{Beyond, SameFrom, Sweeps, RepeatOrFull, fault_or}
use Rattle.table_fault.specs.declared.Judged.{Judged}
use Rattle.table_fault.specs.declared.SweepOutcome.{SweepOutcome}
use Rattle.table_fault.specs.declared.SweepOutcome.TheVariants as outcome

-- of the records rs as much is known as of those that are left from `at` on
pub record Sought (t : List ℕ) (at : ℕ) (rs : List ResourceRecord) : Type 0 where
  pub left : List ResourceRecord
  pub gives : Gives t at left end
  pub forth : Single left → Single rs
  pub back : Single rs → Single left

pub sought_none : (t : List ℕ) (at : ℕ) (rs : List ResourceRecord) → Gives t at rs end → Sought t at rs
sought_none t at rs g = record { left = rs; gives = g; forth = λ h. h; back = λ h. h }

module _ (t : List ℕ) (at : ℕ) (rs : List ResourceRecord) (s : Sought t at rs) (ps₀ ps : List ℕ) (o : SweepOutcome) (sweeps : Sweeps t at most_names s.left end ps₀ ps o) where
  pub sought_repeat : (next : ℕ) → o ≡ outcome.Repeat next → RepeatOrFull rs record_repeated
  unfolding RepeatOrFull
  sought_repeat next e = let h = subst (Sweeps t at most_names s.left end ps₀ ps) e sweeps in inl (refl, λ single. h.0 (s.back single))

  pub sought_whole : o ≡ outcome.Whole → RepeatOrFull rs table_full
  unfolding RepeatOrFull
  sought_whole e = let h = subst (Sweeps t at most_names s.left end ps₀ ps) e sweeps in inr (refl, s.forth h.1)

  -- no entry is faulty
  pub sought_fault : (n p : ℕ) → o ≡ outcome.Fault n p → ⊥
  sought_fault n p e = end≢refusal (subst (Sweeps t at most_names s.left end ps₀ ps) e sweeps)

  module _ (next : ℕ) (e : o ≡ outcome.Beyond next) where
    beyond : Beyond t at most_names s.left next
    beyond = (subst (Sweeps t at most_names s.left end ps₀ ps) e sweeps).1

    pub sought_on : length t - next < length t - at
    sought_on = omega (arith, beyond.on, beyond.within)

    pub sought_more : Sought t next rs
    sought_more = record { left = beyond.left; gives = beyond.gives; forth = λ h. s.forth (beyond.forth h); back = λ h. beyond.back (s.back h) }

-- ---- the whole listing

module _ (rs : List ResourceRecord) (j : Judged) where
  -- a refusal
  pub judges_refused : (l : Last) (n p : ℕ) → l ≡ refusal n p → j ≡ without_slots (Refused n p) → Judges rs l j
  judges_refused l n p e h = subst (λ (x : Last). Judges rs x j) (sym e) h

  pub judges_repeat : (l : Last) (r : Answer) → (Single rs → ⊥) → r ≡ fault_or record_repeated l → j ≡ without_slots r → Judges rs l j
  judges_repeat end r h e k = inr (record_repeated, k ∙ ap without_slots e, inl (h, refl))
  judges_repeat (refusal n p) r h e k = k ∙ ap without_slots e

  -- of those that are left as much is to be asked as of all
  pub judges_beyond : (t : List ℕ) (l : Last) (at n : ℕ) (r : Answer) → l ≡ end → (b : Beyond t 0 most_names rs at) → RepeatOrFull b.left n → r ≡ Refused n 0 → j ≡ without_slots r
      → Judges rs l j
  unfolding RepeatOrFull
  judges_beyond t l at n r e b h answered k =
      let told = k ∙ ap without_slots answered in
      subst (λ (x : Last). Judges rs x j) (sym e)
      (⊎_elim (λ w. inr (n, told, inl (λ single. w.1 (b.back single), w.0))) (λ w. inr (n, told, inr (b.forth w.1, inl (λ few. omega (arith, b.many), w.0)))) h)

pub judges_long : (t : List ℕ) (rs : List ResourceRecord) (j : Judged) (l : Last) (r : Answer) → limit < length t → Gives t 0 rs l → r ≡ Refused listing_long 0 → j ≡ without_slots r → Judges rs l j
judges_long t rs j l r over (too_long h) e k = k ∙ ap without_slots e
judges_long t rs j l r over (whole fits s) e k = absurd (omega arith)
judges_long t rs j l r over (faulty fits f p) e k = absurd (omega arith)

zero_at : (n k : ℕ) → get_or {A = ℕ} (replicate n 0) k 0 ≡ 0
zero_at zero k = refl
zero_at (suc n) zero = refl
zero_at (suc n) (suc k) = zero_at n k

-- the records make a table: their slots stand where zeros stood
pub judges_whole : (rs : List ResourceRecord) (ps : List ℕ) (l : Last) → (l ≡ end) × Single rs × (length (owners rs) ≤ most_names) × Placed rs ps × SameFrom (length rs) (replicate most_records 0) ps
    → Judges rs l (record { answer = Accepted 0; slots = ps })
unfolding SameFrom
judges_whole rs ps l (e, single, few, placed, behind) =
    subst (λ (x : Last). Judges rs x (record { answer = Accepted 0; slots = ps })) (sym e)
    (inl (refl, (single, (few, tt)), record { placed = placed; rest = λ k le. behind k le ∙ zero_at most_records k }))
