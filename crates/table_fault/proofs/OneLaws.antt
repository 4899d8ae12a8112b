-- What `judge` promises of a listing is one answer, with one list of slots. Assumes nothing.
use Prim.Native.Nat.{ℕ, zero, suc, ◌<◌}
use mathlib.Core.Path.{◌≡◌, refl, sym, ap, subst, ◌∙◌}
use mathlib.Core.Logic.{inl, inr}
use mathlib.Core.List.{List, [], ◌∷◌, ◌++◌}
use native.Mathlib.Omega.{arith}
use lib.ListN.{length, get_or}
use lib.Seq.{ext_get_or}
use Rattle.base.specs.declared.Answer.TheVariants.{Refused}
use Rattle.base.proofs.Tests.{by_ltb}
use Rattle.base.proofs.Theorems.{one_fault, no_fault}
use Rattle.grammar.specs.Listing.{ResourceRecord}
use Rattle.listing.specs.Giving.{Last, end, refusal}
use Rattle.records.specs.Calls.{record_tests}
use Rattle.records.specs.Gathered.{owners}
use Rattle.records.proofs.OwnerLaws.{owners_distinct}
use Rattle.slots.specs.Entry.{Distinct}
use Rattle.slots.specs.Sizes.{most_names}
use Rattle.table_fault.specs.Judging.{NotBefore, IndexOf, Placed, SlotsOf, without_slots, Judges}
use Rattle.table_fault.specs.declared.Judged.{Judged}
use Rattle.table_fault.proofs.IndexLaws.{distinct_at}

-- of distinct names each has one index
index_one : (ns : List (List ℕ)) (n : List ℕ) (i j : ℕ) → Distinct ns → IndexOf ns n i → IndexOf ns n j → i ≡ j
unfolding IndexOf NotBefore
index_one ns n i j d (inl a) (inl b) = distinct_at ns d i j a.0 b.0 (a.1 ∙ sym b.1)
index_one ns n i j d (inl a) (inr b) = absurd (b.1 i a.0 a.1)
index_one ns n i j d (inr a) (inl b) = absurd (a.1 j b.0 b.1)
index_one ns n i j d (inr a) (inr b) = a.0 ∙ sym b.0

-- records cut at one of them
record Cut (rs : List ResourceRecord) (i : ℕ) : Type 0 where
  before : List ResourceRecord
  here : ResourceRecord
  after : List ResourceRecord
  is : rs ≡ before ++ here ∷ after
  long : length before ≡ i

cut_at : (rs : List ResourceRecord) (i : ℕ) → i < length rs → Cut rs i
cut_at [] i lt = absurd (omega arith)
cut_at (r ∷ rs) zero lt = record { before = []; here = r; after = rs; is = refl; long = refl }
cut_at (r ∷ rs) (suc i) lt =
    let c = cut_at rs i (omega arith) in
    record { before = r ∷ c.before; here = c.here; after = c.after; is = ap (λ (l : List ResourceRecord). r ∷ l) c.is; long = ap suc c.long }

module _ (rs : List ResourceRecord) (ps qs : List ℕ) (p : SlotsOf rs ps) (q : SlotsOf rs qs) where
  same_slot : (i : ℕ) → Cut rs i → get_or ps i 0 ≡ get_or qs i 0
  unfolding Placed
  same_slot i c =
      let one = index_one (owners c.before) c.here.owner _ _ (owners_distinct c.before) (p.placed c.before c.after c.here c.is) (q.placed c.before c.after c.here c.is) in
      subst (λ (k : ℕ). get_or ps k 0 ≡ get_or qs k 0) c.long one

  slots_one : length ps ≡ length qs → ps ≡ qs
  slots_one same = ext_get_or 0 ps qs same (λ i lt. by_ltb i (length rs) (λ low. same_slot i (cut_at rs i low)) (λ high. p.rest i (omega arith) ∙ sym (q.rest i (omega arith))))

pub judges_one : (rs : List ResourceRecord) (l : Last) (j k : Judged) → length j.slots ≡ length k.slots → Judges rs l j → Judges rs l k → j ≡ k
judges_one rs (refusal n p) j k same a b = a ∙ sym b
judges_one rs end j k same (inl a) (inl b) = λ i. record { answer = (a.0 ∙ sym b.0) i; slots = slots_one rs j.slots k.slots a.2 b.2 same i }
judges_one rs end j k same (inl a) (inr (n, e, f)) = absurd (no_fault (record_tests most_names rs) n a.1 f)
judges_one rs end j k same (inr (n, e, f)) (inl b) = absurd (no_fault (record_tests most_names rs) n b.1 f)
judges_one rs end j k same (inr (m, e, f)) (inr (n, d, g)) = e ∙ ap (λ (x : ℕ). without_slots (Refused x 0)) (one_fault (record_tests most_names rs) m n f g) ∙ sym d
