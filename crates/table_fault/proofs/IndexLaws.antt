-- Names by their index, and names among names. Assumes nothing.
use Prim.Native.Nat.{ℕ, zero, suc, ◌<◌}
use mathlib.Core.Bool.{Bool, true, false, true≢false}
use mathlib.Core.Path.{◌≡◌, refl, sym, ap, ◌∙◌}
use mathlib.Core.List.{List, [], ◌∷◌}
use native.Mathlib.Omega.{arith}
use lib.ListN.{length, get_or}
use Rattle.base.specs.Logic.{Every}
use Rattle.slots.specs.Entry.{Distinct}
use Rattle.records.proofs.OwnerLaws.{by_name, among, among_none, among_same, among_other}
use Rattle.table_fault.specs.Judging.{NotBefore}

-- a name that stands at an index is among the names
pub at_among : (n : List ℕ) (ns : List (List ℕ)) (i : ℕ) → i < length ns → get_or ns i [] ≡ n → among n ns ≡ true
at_among n [] i lt e = absurd (omega arith)
at_among n (m ∷ ns) zero lt e = among_same n m ns e
at_among n (m ∷ ns) (suc i) lt e =
    by_name m n (λ same. among_same n m ns same) (λ other. among_other n m ns other ∙ at_among n ns i (omega arith) e)

-- where it stands
pub record Stands (n : List ℕ) (ns : List (List ℕ)) : Type 0 where
  pub index : ℕ
  pub within : index < length ns
  pub is : get_or ns index [] ≡ n

pub among_at : (n : List ℕ) (ns : List (List ℕ)) → among n ns ≡ true → Stands n ns
among_at n [] h = absurd (true≢false (sym h ∙ among_none n))
among_at n (m ∷ ns) h =
    by_name m n (λ same. record { index = 0; within = omega arith; is = same })
    (λ other. let s = among_at n ns (sym (among_other n m ns other) ∙ h) in record { index = suc s.index; within = omega (arith, s.within); is = s.is })

-- a name that stands nowhere is not among them
pub nowhere_among : (n : List ℕ) (ns : List (List ℕ)) → NotBefore (length ns) ns n → among n ns ≡ false
unfolding NotBefore
nowhere_among n ns none = go (among n ns) refl
  where
    go : (b : Bool) → among n ns ≡ b → b ≡ false
    go true e = let s = among_at n ns e in absurd (none s.index s.within s.is)
    go false e = refl

pub each_at : {P : List ℕ → Type 0} (ns : List (List ℕ)) → Every P ns → (i : ℕ) → i < length ns → P (get_or ns i [])
each_at [] h i lt = absurd (omega arith)
each_at (m ∷ ns) (Every.more p h) zero lt = p
each_at (m ∷ ns) (Every.more p h) (suc i) lt = each_at ns h i (omega arith)

-- of distinct names each stands at one index
pub distinct_at : (ns : List (List ℕ)) → Distinct ns → (i j : ℕ) → i < length ns → j < length ns → get_or ns i [] ≡ get_or ns j [] → i ≡ j
distinct_at [] d i j li lj e = absurd (omega arith)
distinct_at (m ∷ ns) (Distinct.more h d) zero zero li lj e = refl
distinct_at (m ∷ ns) (Distinct.more h d) zero (suc j) li lj e = absurd (each_at ns h j (omega arith) (sym e))
distinct_at (m ∷ ns) (Distinct.more h d) (suc i) zero li lj e = absurd (each_at ns h i (omega arith) e)
distinct_at (m ∷ ns) (Distinct.more h d) (suc i) (suc j) li lj e = ap suc (distinct_at ns d i j (omega arith) (omega arith) e)
