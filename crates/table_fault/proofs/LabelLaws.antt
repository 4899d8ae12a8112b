-- A word and the text of a name, compared label by label. Assumes nothing.
use Prim.Native.Nat.{ℕ, zero, suc, ◌+◌, ◌≤◌, ◌<◌}
use mathlib.Core.Bool.{Bool, true, false}
use mathlib.Core.Path.{◌≡◌, refl, sym, ap, ap₂, subst₂, ◌∙◌}
use mathlib.Core.List.{List, [], ◌∷◌, head-eq_of_cons-eq, tail-eq_of_cons-eq}
use native.Mathlib.Omega.{arith}
use lib.Dec.{leb}
use lib.ListN.{length, take, drop, get_or, length-drop}
use lib.Seq.{drop-drop, get_or-drop, take_all}
use borrow.Author.Tests.{leb-true}
use Rattle.base.specs.Bytes.{ascii}
use Rattle.base.specs.Logic.{Decides}
use Rattle.base.proofs.Lists.{no_elements}
use Rattle.base.proofs.Tests.{and_left, decides_as}
use Rattle.name.specs.Label.{is_upper, lower}
use Rattle.name.specs.Name.{canonical}
use Rattle.name.specs.Promise.{dotted, text_of}
use Rattle.name.proofs.LabelLaws.{lower_upper, lower_other, lower_length}
use Rattle.name.proofs.DottedLaws.{text_of_some}
use Rattle.name.proofs.NameLaws.{length_canonical, get_or_canonical}

-- ---- the canonical form of a part

take_canonical : (k : ℕ) (w : List ℕ) → take k (canonical w) ≡ canonical (take k w)
unfolding canonical
take_canonical zero w = refl
take_canonical (suc k) [] = refl
take_canonical (suc k) (b ∷ w) = ap (◌∷◌ (lower b)) (take_canonical k w)

drop_canonical : (k : ℕ) (w : List ℕ) → drop k (canonical w) ≡ canonical (drop k w)
unfolding canonical
drop_canonical zero w = refl
drop_canonical (suc k) [] = refl
drop_canonical (suc k) (b ∷ w) = drop_canonical k w

-- a dot is no letter
upper_high : (b : ℕ) → is_upper b ≡ true → b + 32 ≡ 46 → ⊥
unfolding is_upper
upper_high b u e = omega (arith, leb-true 65 b (and_left (leb 65 b) (leb b 90) u))

module _ (b : ℕ) where
  dot_lower : b ≡ 46 → lower b ≡ 46
  dot_lower e = ap lower e ∙ lower_length 46 (omega arith)

  dot_only : lower b ≡ 46 → b ≡ 46
  dot_only e = go (is_upper b) refl
    where
      go : (x : Bool) → is_upper b ≡ x → b ≡ 46
      go true u = absurd (upper_high b u (sym (lower_upper b u) ∙ e))
      go false u = sym (lower_other b u) ∙ e

-- ---- a label of k bytes, and its dot

-- l is the label, its dot and the text of what follows
record Labelled (l r : List ℕ) (k : ℕ) : Type 0 where
  label : take k l ≡ take k r
  dot : get_or l k 0 ≡ 46
  rest : drop (suc k) l ≡ dotted (get_or r k 0) (drop (suc k) r)

labelled : (k : ℕ) (l r : List ℕ) → length l ≡ length r → k < length l → l ≡ dotted k r → Labelled l r k
unfolding dotted ascii
labelled k [] r long within e = absurd (omega arith)
labelled k (a ∷ l) [] long within e = absurd (omega arith)
labelled zero (a ∷ l) (b ∷ r) long within e = record { label = refl; dot = head-eq_of_cons-eq e; rest = tail-eq_of_cons-eq e }
labelled (suc k) (a ∷ l) (b ∷ r) long within e =
    let h = labelled k l r (omega arith) (omega arith) (tail-eq_of_cons-eq e) in
    record { label = ap₂ ◌∷◌ (head-eq_of_cons-eq e) h.label; dot = h.dot; rest = h.rest }

unlabelled : (k : ℕ) (l r : List ℕ) → length l ≡ length r → k < length l → Labelled l r k → l ≡ dotted k r
unfolding dotted ascii
unlabelled k [] r long within h = absurd (omega arith)
unlabelled k (a ∷ l) [] long within h = absurd (omega arith)
unlabelled zero (a ∷ l) (b ∷ r) long within h = ap₂ ◌∷◌ h.dot h.rest
unlabelled (suc k) (a ∷ l) (b ∷ r) long within h =
    ap₂ ◌∷◌ (head-eq_of_cons-eq h.label) (unlabelled k l r (omega arith) (omega arith) (record { label = tail-eq_of_cons-eq h.label; dot = h.dot; rest = h.rest }))

-- a length past the end: no dot is left
no_dot : (k : ℕ) (r : List ℕ) → length r ≤ k → dotted k r ≡ r
unfolding dotted ascii
no_dot k [] past = refl
no_dot zero (b ∷ r) past = absurd (omega arith)
no_dot (suc k) (b ∷ r) past = ap (◌∷◌ b) (no_dot k r (omega arith))

-- ---- the loop

-- the word is the text of the name exactly if it is from `at` on, where a label stands in the word, and its length in the name
abbrev From : List ℕ → List ℕ → ℕ → Type 0
From w n at = canonical (drop at w) ≡ dotted (get_or n at 0) (drop (at + 1) n)

pub record Same (w n : List ℕ) (at : ℕ) : Type 0 where
  pub low : at ≤ length w
  pub forth : canonical w ≡ text_of n → From w n at
  pub back : From w n at → canonical w ≡ text_of n

module _ (w n : List ℕ) (long : length w + 1 ≡ length n) where
  pub same_none : Same w n 0
  same_none = let e = text_of_some n (omega arith) in record { low = omega arith; forth = λ h. h ∙ e; back = λ h. h ∙ sym e }

  module _ (at : ℕ) (s : Same w n at) where
    left_long : length (canonical (drop at w)) ≡ length (drop (at + 1) n)
    left_long = omega (arith, length_canonical (drop at w), length-drop at w, length-drop (at + 1) n)

    -- a label without its dot, where the rest of both is compared
    pub same_last : length w ≤ at + get_or n at 0 → (b : Bool) (i j : ℕ) → length w ≤ at + i → length n ≤ at + 1 + j
        → Decides b (canonical (take i (drop at w)) ≡ take j (drop (at + 1) n)) → Decides b (canonical w ≡ text_of n)
    same_last past b i j all every d =
        let none = no_dot (get_or n at 0) (drop (at + 1) n) (omega (arith, length-drop (at + 1) n)) in
        let word = ap canonical (take_all i (drop at w) (omega (arith, length-drop at w))) in
        let name = take_all j (drop (at + 1) n) (omega (arith, length-drop (at + 1) n)) in
        decides_as (λ h. s.back (sym word ∙ h ∙ name ∙ sym none)) (λ h. word ∙ s.forth h ∙ none ∙ sym name) d

    pub same_all : length w ≤ at → canonical w ≡ text_of n
    same_all done =
        let none = no_dot (get_or n at 0) (drop (at + 1) n) (omega (arith, length-drop (at + 1) n)) in
        s.back (no_elements (canonical (drop at w)) (omega (arith, length_canonical (drop at w), length-drop at w)) ∙ sym (no_elements (drop (at + 1) n) (omega (arith, length-drop (at + 1) n))) ∙ sym none)

    module _ (k : ℕ) (size : k ≡ get_or n at 0) (within : at + k < length w) where
      inside : k < length (canonical (drop at w))
      inside = omega (arith, length_canonical (drop at w), length-drop at w)

      -- where the word goes on, and where the name does
      on_word : drop (suc k) (canonical (drop at w)) ≡ canonical (drop (at + k + 1) w)
      on_word =
          let e : at + suc k ≡ at + k + 1 = omega arith in
          drop_canonical (suc k) (drop at w) ∙ ap canonical (drop-drop (suc k) at w ∙ ap (λ (i : ℕ). drop i w) e)

      on_name : dotted (get_or (drop (at + 1) n) k 0) (drop (suc k) (drop (at + 1) n)) ≡ dotted (get_or n (at + k + 1) 0) (drop (at + k + 1 + 1) n)
      on_name =
          let e : at + 1 + k ≡ at + k + 1 = omega arith in
          let f : at + 1 + suc k ≡ at + k + 1 + 1 = omega arith in
          ap₂ dotted (get_or-drop (at + 1) n k 0 ∙ ap (λ (i : ℕ). get_or n i 0) e) (drop-drop (suc k) (at + 1) n ∙ ap (λ (i : ℕ). drop i n) f)

      there : get_or (canonical (drop at w)) k 0 ≡ lower (get_or w (at + k) 0)
      there = get_or_canonical (drop at w) k ∙ ap lower (get_or-drop at w k 0)

      parts : canonical w ≡ text_of n → Labelled (canonical (drop at w)) (drop (at + 1) n) k
      parts h = labelled k (canonical (drop at w)) (drop (at + 1) n) left_long inside (s.forth h ∙ ap (λ (j : ℕ). dotted j (drop (at + 1) n)) (sym size))

      pub not_dotted : (get_or w (at + k) 0 ≡ 46 → ⊥) → canonical w ≡ text_of n → ⊥
      not_dotted other h = other (dot_only (get_or w (at + k) 0) (sym there ∙ (parts h).dot))

      -- the label was compared
      module _ (i j : ℕ) (iw : i ≡ k) (jn : j ≡ k) (b : Bool) (d : Decides b (canonical (take i (drop at w)) ≡ take j (drop (at + 1) n))) where
        labels : Decides b (canonical (take k (drop at w)) ≡ take k (drop (at + 1) n))
        labels = subst₂ (λ (x y : ℕ). Decides b (canonical (take x (drop at w)) ≡ take y (drop (at + 1) n))) iw jn d

        pub not_labelled : b ≡ false → canonical w ≡ text_of n → ⊥
        not_labelled f h = labels.if_false f (sym (take_canonical k (drop at w)) ∙ (parts h).label)

      same_on : get_or w (at + k) 0 ≡ 46 → canonical (take k (drop at w)) ≡ take k (drop (at + 1) n) → Same w n (at + k + 1)
      same_on dot label =
          record {
            low = omega arith;
            forth = λ h. sym on_word ∙ (parts h).rest ∙ on_name;
            back = λ h.
                s.back
                (unlabelled k (canonical (drop at w)) (drop (at + 1) n) left_long inside
                (record { label = take_canonical k (drop at w) ∙ label; dot = there ∙ dot_lower (get_or w (at + k) 0) dot; rest = on_word ∙ h ∙ sym on_name })
                ∙ ap (λ (j : ℕ). dotted j (drop (at + 1) n)) size);
          }

      pub same_more : get_or w (at + k) 0 ≡ 46 → (i j : ℕ) → i ≡ k → j ≡ k → (b : Bool) → Decides b (canonical (take i (drop at w)) ≡ take j (drop (at + 1) n)) → b ≡ true
          → Same w n (at + k + 1)
      same_more dot i j iw jn b d y = same_on dot ((labels i j iw jn b d).if_true y)
