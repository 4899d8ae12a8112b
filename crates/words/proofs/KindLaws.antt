-- The kind of a byte from what is known of the byte. Assumes nothing.
use Prim.Native.Nat.{ℕ, ◌≤◌, ◌<◌}
use mathlib.Core.Bool.{Bool, true, false, cond, not, ◌&&◌, ◌||◌}
use mathlib.Core.Path.{◌≡◌, refl, sym, ap, ◌∙◌}
use native.Mathlib.Omega.{arith}
use lib.Dec.{leb, eqb}
use borrow.Author.Tests.{ne_eqb, eqb-true, eqb-false, leb-true, leb-false, lt-leb}
use Rattle.base.proofs.SetLaws.{same, same_is}
use Rattle.base.proofs.Tests.{below, at_each, by_ltb, within, under, over}
use Rattle.grammar.specs.Listing.{blank, line_end, opening, closing, semicolon, word_byte, not_allowed, is_visible, kind_of, is_word_kind, is_comment_kind, is_word_byte, is_comment_byte}

-- a byte that none of the single ones is: a word's, or not allowed
other_kind : (b : ℕ) (v : Bool) → (b ≡ 9 → ⊥) → (b ≡ 32 → ⊥) → (b ≡ 10 → ⊥) → (b ≡ 40 → ⊥) → (b ≡ 41 → ⊥) → (b ≡ 59 → ⊥) → is_visible b ≡ v → kind_of b ≡ cond v word_byte not_allowed
unfolding kind_of
other_kind b v tab space line opens closes semi e =
    λ i.
    cond (ne_eqb b 9 tab i || ne_eqb b 32 space i) blank
    (cond (ne_eqb b 10 line i) line_end
    (cond (ne_eqb b 40 opens i) opening
    (cond (ne_eqb b 41 closes i) closing
    (cond (ne_eqb b 59 semi i) semicolon
    (cond (e i) word_byte not_allowed)))))

module _ (b : ℕ) where
  pub word_kind : 32 ≤ b → (b ≡ 32 → ⊥) → b ≤ 126 → (b ≡ 40 → ⊥) → (b ≡ 41 → ⊥) → (b ≡ 59 → ⊥) → kind_of b ≡ word_byte
  unfolding is_visible
  word_kind low space high opens closes semi =
      let visible : 33 ≤ b = omega (arith, space) in other_kind b true (λ e. omega arith) space (λ e. omega arith) opens closes semi (within 33 b 126 visible high)

  pub low_kind : b < 33 → (b ≡ 9 → ⊥) → (b ≡ 32 → ⊥) → (b ≡ 10 → ⊥) → kind_of b ≡ not_allowed
  unfolding is_visible
  low_kind low tab space line = other_kind b false tab space line (λ e. omega arith) (λ e. omega arith) (λ e. omega arith) (under 33 b 126 low)

  pub high_kind : 126 < b → kind_of b ≡ not_allowed
  unfolding is_visible
  high_kind high =
      other_kind b false (λ e. omega arith) (λ e. omega arith) (λ e. omega arith) (λ e. omega arith) (λ e. omega arith) (λ e. omega arith) (over 33 b 126 high)

  -- ---- the tests of a run's bytes

  -- from 33 to 126 it may stand in a comment
  comment_visible : 33 ≤ b → b ≤ 126 → is_comment_byte b ≡ true
  unfolding kind_of is_visible
  comment_visible low high = rw (within 33 b 126 low high, ne_eqb b 10 (λ e. omega arith)) (go (eqb b 9 || eqb b 32) (eqb b 40) (eqb b 41) (eqb b 59))
    where
      go : (c o l s : Bool) → is_comment_kind (cond c blank (cond o opening (cond l closing (cond s semicolon word_byte)))) ≡ true
      go true o l s = refl
      go false true l s = refl
      go false false true s = refl
      go false false false true = refl
      go false false false false = refl

  -- and so may 32 and 9, and no other
  pub comment_test : (leb 32 b && leb b 126 || eqb b 9) ≡ is_comment_byte b
  unfolding kind_of
  comment_test = go (leb 32 b) refl (leb b 126) refl (eqb b 9) refl (eqb b 32) refl (eqb b 10) refl
    where
      go : (l : Bool) → leb 32 b ≡ l → (h : Bool) → leb b 126 ≡ h → (t : Bool) → eqb b 9 ≡ t → (s : Bool) → eqb b 32 ≡ s → (n : Bool) → eqb b 10 ≡ n → (l && h || t) ≡ is_comment_byte b
      go true el true eh t et true es n en = sym (ap is_comment_byte (eqb-true b 32 es))
      go true el true eh t et false es n en = let low : 32 ≤ b = leb-true 32 b el in sym (comment_visible (omega (arith, eqb-false b 32 es)) (leb-true b 126 eh))
      go true el false eh true et s es n en = let low : 32 ≤ b = leb-true 32 b el in absurd (omega (arith, eqb-true b 9 et))
      go true el false eh false et s es n en = sym (ap is_comment_kind (high_kind (leb-false b 126 eh)))
      go false el h eh true et s es n en = sym (ap is_comment_byte (eqb-true b 9 et))
      go false el h eh false et s es true en = sym (ap is_comment_byte (eqb-true b 10 en))
      go false el h eh false et s es false en =
          let low : b < 32 = leb-false 32 b el in sym (ap is_comment_kind (low_kind (omega arith) (eqb-false b 9 et) (λ x. omega arith) (eqb-false b 10 en)))

-- a word's byte by comparisons: computed below 128, and above there is none
abbrev word_test : ℕ → Bool
word_test b = leb 33 b && leb b 126 && not (eqb b 40) && not (eqb b 41) && not (eqb b 59)

each_below : below (λ b. same (word_test b) (is_word_byte b)) 128 ≡ true
unfolding below is_visible kind_of
each_below = refl

pub word_test_lem : (b : ℕ) → word_test b ≡ is_word_byte b
word_test_lem b =
    by_ltb b 128 (λ lt. same_is (word_test b) (is_word_byte b) (at_each (λ k. same (word_test k) (is_word_byte k)) 128 each_below b lt))
    (λ high. go (leb 33 b) (lt-leb b 126 (omega arith)) ∙ sym (ap is_word_kind (high_kind b (omega arith))))
  where
    go : (low : Bool) → leb b 126 ≡ false → (low && leb b 126 && not (eqb b 40) && not (eqb b 41) && not (eqb b 59)) ≡ false
    go true e = rw e refl
    go false e = refl
