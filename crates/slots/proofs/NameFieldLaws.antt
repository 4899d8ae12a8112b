-- Which 256 bytes are a name's as a slot has it: its length, the name, which ends at `end`, and zeros after it. Assumes nothing.
use Prim.Native.Nat.{ℕ, ◌+◌, ◌-◌, ◌≤◌}
use mathlib.Core.Path.{◌≡◌, refl, sym, ap, ap₂, subst, ◌∙◌}
use mathlib.Core.List.{List, ◌∷◌, ◌++◌}
use native.Mathlib.Omega.{arith}
use lib.ListN.{length, take, drop, get_or, replicate, length-drop, length-replicate}
use lib.Seq.{take_all, take-add, take_at, drop-cons, drop-drop, length-take-le}
use Rattle.base.specs.Bytes.{padded}
use Rattle.base.proofs.Lists.{append_split}
use Rattle.name.proofs.WireLaws.{proper_short}
use Rattle.slots.specs.SlotTests.{HeldName, NameField}
use Rattle.slots.proofs.LaidLaws.{length_padded}

abbrev name_in : List ℕ → ℕ → List ℕ
name_in s end = take (end - 1) (drop 1 s)

abbrev rest_in : List ℕ → ℕ → List ℕ
rest_in s end = take (256 - end) (drop end s)

-- so many zeros are zeros, whatever their number
pub zeros_of : (x : List ℕ) (k : ℕ) → x ≡ replicate k 0 → x ≡ replicate (length x) 0
zeros_of x k e = e ∙ ap (λ (n : ℕ). replicate n 0) (sym (ap length e ∙ length-replicate {A = ℕ} k 0))

module _ (s : List ℕ) (end : ℕ) (after : end ≡ 1 + get_or s 0 0) (byte : end ≤ 256) where
  -- the bytes behind the length are the name and the rest
  name_and_rest : take 255 (drop 1 s) ≡ name_in s end ++ rest_in s end
  name_and_rest =
      let both : 255 ≡ (end - 1) + (256 - end) = omega arith in
      let here : 1 + (end - 1) ≡ end = omega arith in
      ap (λ (k : ℕ). take k (drop 1 s)) both
      ∙ take-add (end - 1) (256 - end) (drop 1 s)
      ∙ ap (λ (t : List ℕ). name_in s end ++ take (256 - end) t) (drop-drop (end - 1) 1 s ∙ ap (λ (k : ℕ). drop k s) here)

  -- a name's bytes pass both tests
  module _ (n : List ℕ) (held : HeldName n) (form : s ≡ length n ∷ padded n) where
    name_is : name_in s end ≡ n
    unfolding padded
    name_is =
        let long : end - 1 ≡ length n = omega (arith, ap (λ (t : List ℕ). get_or t 0 0) form) in
        ap₂ (λ (k : ℕ) (t : List ℕ). take k (drop 1 t)) long form ∙ take_at n (replicate (255 - length n) 0) (length n) refl

    rest_is : rest_in s end ≡ replicate (255 - length n) 0
    unfolding padded
    rest_is =
        let whole : take 255 (drop 1 s) ≡ n ++ replicate (255 - length n) 0 =
        ap (λ (t : List ℕ). take 255 (drop 1 t)) form ∙ take_all 255 (padded n) (omega (arith, length_padded n (proper_short n held.proper))) in
        (append_split {a = name_in s end} {b = n} (ap length name_is) (sym name_and_rest ∙ whole)).1

  pub field_held : NameField s → HeldName (name_in s end)
  unfolding NameField
  field_held (n, held, form) = subst HeldName (sym (name_is n held form)) held

  pub field_rest : NameField s → rest_in s end ≡ replicate (length (rest_in s end)) 0
  unfolding NameField
  field_rest (n, held, form) = zeros_of (rest_in s end) (255 - length n) (rest_is n held form)

  -- and what passes both is a name's
  pub is_field : length s ≡ 256 → HeldName (name_in s end) → rest_in s end ≡ replicate (length (rest_in s end)) 0 → NameField s
  unfolding NameField padded
  is_field size held rest =
      let part : (i k : ℕ) → i + k ≤ 256 → length (take k (drop i s)) ≡ k = λ i k h. length-take-le k (drop i s) (simp length-drop (omega arith)) in
      let long : get_or s 0 0 ≡ length (name_in s end) = omega (arith, part 1 (end - 1) (omega arith)) in
      let left : length (rest_in s end) ≡ 255 - length (name_in s end) = omega (arith, part end (256 - end) (omega arith), part 1 (end - 1) (omega arith)) in
      let behind : drop 1 s ≡ name_in s end ++ replicate (255 - length (name_in s end)) 0 =
      sym (take_all 255 (drop 1 s) (simp length-drop (omega arith))) ∙ name_and_rest ∙ ap (λ (t : List ℕ). name_in s end ++ t) (rest ∙ ap (λ (k : ℕ). replicate k 0) left) in
      (name_in s end, held, drop-cons s 0 0 (omega arith) ∙ ap₂ ◌∷◌ long behind)
