-- What is kept of the options with one code, and what the definitions ask of them. Assumes nothing.
use Prim.Native.Nat.{ℕ}
use mathlib.Core.Bool.{Bool, true, false, cond}
use mathlib.Core.Path.{◌≡◌, refl, sym, ap}
use mathlib.Core.List.{List, [], ◌∷◌, ◌++◌}
use native.Mathlib.Omega.{arith}
use lib.Dec.{eqb, ltb, leb-suc-suc}
use lib.ListN.{length, length-append}
use borrow.Author.Tests.{lt-ltb}
use Rattle.message.specs.Options.{Located, having}
use Rattle.message.specs.Seen.{part_of, seen_of, met}

-- seen again: there is more than one
pub again_is : (ls : List Located) → (seen_of ls).again ≡ ltb 1 (length ls)
again_is [] = refl
again_is (l ∷ ls) = sym (leb-suc-suc 1 (length ls))

-- one more is kept as it stands after those before
pub met_next : (ls : List Located) (l : Located) → met (seen_of ls) (part_of l) ≡ seen_of (ls ++ l ∷ [])
met_next [] l = refl
met_next (x ∷ ls) l =
    ap (λ (b : Bool). record { found = true; again = b; part = part_of x }) (sym (lt-ltb 0 (length (ls ++ l ∷ [])) (omega (arith, length-append ls (l ∷ [])))))

kept_append : (code : ℕ) (l : Located) (ls ks : List Located) (b : Bool) → having code (ls ++ ks) ≡ having code ls ++ having code ks
    → cond b (l ∷ having code (ls ++ ks)) (having code (ls ++ ks)) ≡ cond b (l ∷ having code ls) (having code ls) ++ having code ks
kept_append code l ls ks true e = ap (λ (r : List Located). l ∷ r) e
kept_append code l ls ks false e = e

-- of two lists one after the other: those with a code
pub having_append : (code : ℕ) (ls ks : List Located) → having code (ls ++ ks) ≡ having code ls ++ having code ks
unfolding having
having_append code [] ks = refl
having_append code (l ∷ ls) ks = kept_append code l ls ks (eqb l.code code) (having_append code ls ks)
