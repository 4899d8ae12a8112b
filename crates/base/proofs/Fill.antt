-- Loops that fill a list from the front, and that write one list into another. Assumes nothing.
use Prim.Native.Nat.{ℕ, zero, suc, ◌+◌, ◌≤◌, ◌<◌}
use mathlib.Core.Path.{◌≡◌, refl, sym, ap, ap₂, ◌∙◌}
use mathlib.Core.List.{List, [], ◌∷◌, ◌++◌}
use mathlib.Core.Logic.{⊎_elim}
use native.Mathlib.Nat.{eq-or-lt_of_le}
use native.Mathlib.Omega.{arith}
use native.Mathlib.Numerals.{add-one}
use lib.ListN.{length, get_or, take, set, length-set, length-append, get_or-append}
use lib.Seq.{take-suc-set, take_all, get_or_at, paste, paste-zero, paste-suc}
use Rattle.base.specs.Bytes.{overlay, tabulate}
use Rattle.base.proofs.Bytes.{paste_all}

-- ---- a loop that fills a list from the front, one element a turn

-- d has n elements, of which the first i are f 0, f 1, and so on
pub record Filled (f : ℕ → ℕ) (n : ℕ) (d : List ℕ) (i : ℕ) : Type 0 where
  pub below : i ≤ n
  pub long : length d ≡ n
  pub done : take i d ≡ tabulate f i

pub filled_none : (f : ℕ → ℕ) (n : ℕ) (d : List ℕ) → length d ≡ n → Filled f n d 0
unfolding tabulate
filled_none f n d e = record { below = omega arith; long = e; done = refl }

pub filled_more : (f : ℕ → ℕ) (n : ℕ) (d : List ℕ) (i v : ℕ) → Filled f n d i → i < n → v ≡ f i → Filled f n (set d i v) (i + 1)
unfolding tabulate
filled_more f n d i v h lt e =
    record {
      below = omega arith;
      long = length-set d i v ∙ h.long;
      done = rw add-one (take-suc-set d i v (omega arith) ∙ ap₂ (λ (l : List ℕ) (x : ℕ). l ++ (x ∷ [])) h.done e);
    }

pub filled_all : (f : ℕ → ℕ) (n : ℕ) (d : List ℕ) (i : ℕ) → Filled f n d i → n ≤ i → d ≡ tabulate f n
filled_all f n d i h le =
    let e : i ≡ n = omega arith in
    sym (take_all i d (omega arith)) ∙ h.done ∙ ap (tabulate f) e

pub length_tabulate : (f : ℕ → ℕ) (n : ℕ) → length (tabulate f n) ≡ n
unfolding tabulate
length_tabulate f zero = refl
length_tabulate f (suc n) = length-append (tabulate f n) (f n ∷ []) ∙ ap (λ (k : ℕ). k + 1) (length_tabulate f n) ∙ add-one n

pub get_d_tabulate : (f : ℕ → ℕ) (n i : ℕ) → i < n → get_or (tabulate f n) i 0 ≡ f i
unfolding tabulate
get_d_tabulate f zero i lt = absurd (omega arith)
get_d_tabulate f (suc n) i lt =
    let below_suc : i ≤ n = omega arith in
    ⊎_elim
    (λ e. ap (λ (k : ℕ). get_or (tabulate f n ++ (f n ∷ [])) k 0) e ∙ get_or_at (tabulate f n) (f n) [] 0 n (length_tabulate f n) ∙ ap f (sym e))
    (λ below. get_or-append (tabulate f n) (f n ∷ []) 0 i (omega (arith, length_tabulate f n)) ∙ get_d_tabulate f n i below)
    (eq-or-lt_of_le below_suc)

-- a table that is f 0, f 1 and so on, n of them, looked up at i: that it is this list is `refl`, by computing
pub looked_up : (f : ℕ → ℕ) (n : ℕ) {table : List ℕ} → table ≡ tabulate f n → (i : ℕ) → i < n → get_or table i 0 ≡ f i
looked_up f n e i lt = ap (λ (l : List ℕ). get_or l i 0) e ∙ get_d_tabulate f n i lt

-- ---- a loop that writes the list `from` into `to`, from index `at` on, one element a turn

-- d is `to` with the first i elements of `from` written
pub record Copied (to : List ℕ) (at : ℕ) (from d : List ℕ) (i : ℕ) : Type 0 where
  pub below : i ≤ length from
  pub long : length d ≡ length to
  pub done : d ≡ paste to at from i

module _ (to : List ℕ) (at : ℕ) (from : List ℕ) where
  pub copied_none : Copied to at from to 0
  copied_none = record { below = omega arith; long = refl; done = paste-zero to at from }

  pub copied_more : (d : List ℕ) (i v : ℕ) → Copied to at from d i → v ≡ get_or from i 0 → at + length from ≤ length to → i < length from
      → Copied to at from (set d (at + i) v) (i + 1)
  copied_more d i v h e fits more =
      record {
        below = omega arith;
        long = length-set d (at + i) v ∙ h.long;
        done =
            ap₂ (λ (l : List ℕ) (x : ℕ). set l (at + i) x) h.done e ∙ paste-suc to at from i 0 (omega arith) more
            ∙ ap (paste to at from) (sym (add-one i));
      }

  pub copied_all : (d : List ℕ) (i : ℕ) → Copied to at from d i → length from ≤ i → d ≡ overlay to at from
  copied_all d i h all =
      let e : i ≡ length from = omega (arith, h.below) in
      h.done ∙ ap (paste to at from) e ∙ paste_all to at from
