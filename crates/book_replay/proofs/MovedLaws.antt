-- Numbers moved up. Assumes nothing.
use Prim.Native.Nat.{ℕ, ◌+◌, ◌-◌, ◌≤◌, ◌<◌}
use mathlib.Core.Path.{◌≡◌, refl, sym, ap, ◌∙◌}
use mathlib.Core.List.{List, [], ◌∷◌, ◌++◌, append-nil, append_assoc}
use native.Mathlib.Nat.{add-zero}
use native.Mathlib.Numerals.{add-one}
use native.Mathlib.Omega.{arith}
use lib.ListN.{length, take, drop, get_or, set, length-take, length-set, drop_of_length-le}
use lib.Seq.{take-suc, take-suc-set, drop-append-le, drop-drop, drop-set-lt, get_or-drop, length-take-le}

-- the first j of `left` are those of `numbers` but the one at `at`; what stands behind the next is as it was
pub record Moved (numbers : List ℕ) (at used : ℕ) (left : List ℕ) (j : ℕ) : Type 0 where
  pub long : length left ≡ length numbers
  pub low : at ≤ j
  pub high : j < used
  pub same : take j left ≡ take at numbers ++ drop (at + 1) (take (j + 1) numbers)
  pub rest : drop (j + 1) left ≡ drop (j + 1) numbers

pub moved_none : (numbers : List ℕ) (at used : ℕ) → at < used → Moved numbers at used numbers at
moved_none numbers at used more =
    record {
      long = refl;
      low = omega arith;
      high = more;
      same = sym (append-nil (take at numbers)) ∙ ap (λ (l : List ℕ). take at numbers ++ l) (sym (drop_of_length-le (take (at + 1) numbers) {i = at + 1} (simp length-take (omega arith))));
      rest = refl;
    }

-- the number that is moved next
next_number : (numbers left : List ℕ) (j : ℕ) → drop (j + 1) left ≡ drop (j + 1) numbers → get_or left (j + 1) 0 ≡ get_or numbers (j + 1) 0
next_number numbers left j e =
    ap (λ (k : ℕ). get_or left k 0) (sym (add-zero (j + 1))) ∙ sym (get_or-drop (j + 1) left 0 0) ∙ ap (λ (l : List ℕ). get_or l 0 0) e
    ∙ get_or-drop (j + 1) numbers 0 0 ∙ ap (λ (k : ℕ). get_or numbers k 0) (add-zero (j + 1))

pub moved_more : (numbers : List ℕ) (at used : ℕ) (left : List ℕ) (j : ℕ) → used ≤ length numbers → Moved numbers at used left j → j + 1 < used
    → Moved numbers at used (set left j (get_or left (j + 1) 0)) (j + 1)
moved_more numbers at used left j few m more =
    let a = get_or left (j + 1) 0 in
    let long : length (take (j + 1) numbers) ≡ j + 1 = length-take-le (j + 1) numbers (omega (arith, few)) in
    let next : take (j + 1 + 1) numbers ≡ take (j + 1) numbers ++ a ∷ [] =
    ap (λ (k : ℕ). take k numbers) (add-one (j + 1)) ∙ take-suc numbers (j + 1) 0 (omega (arith, few)) ∙ ap (λ (x : ℕ). take (j + 1) numbers ++ x ∷ []) (sym (next_number numbers left j m.rest)) in
    record {
      long = length-set left j a ∙ m.long;
      low = omega (arith, m.low);
      high = more;
      same =
          ap (λ (k : ℕ). take k (set left j a)) (add-one j)
          ∙ take-suc-set left j a (omega (arith, m.long, few))
          ∙ ap (λ (l : List ℕ). l ++ a ∷ []) m.same
          ∙ append_assoc (take at numbers) (drop (at + 1) (take (j + 1) numbers)) (a ∷ [])
          ∙ ap (λ (l : List ℕ). take at numbers ++ l) (sym (ap (drop (at + 1)) next ∙ drop-append-le (at + 1) (take (j + 1) numbers) (a ∷ []) (omega (arith, long, m.low))));
      rest = drop-set-lt (j + 1 + 1) left j a (omega arith) ∙ sym (drop-drop 1 (j + 1) left) ∙ ap (drop 1) m.rest ∙ drop-drop 1 (j + 1) numbers;
    }

pub moved_all : (numbers : List ℕ) (at used : ℕ) (left : List ℕ) (j : ℕ) → Moved numbers at used left j → used ≤ j + 1
    → take (used - 1) left ≡ take at numbers ++ drop (at + 1) (take used numbers)
moved_all numbers at used left j m last =
    let e : j ≡ used - 1 = omega (arith, m.high) in
    let f : j + 1 ≡ used = omega (arith, m.high) in
    ap (λ (k : ℕ). take k left) (sym e) ∙ m.same ∙ ap (λ (k : ℕ). take at numbers ++ drop (at + 1) (take k numbers)) f
