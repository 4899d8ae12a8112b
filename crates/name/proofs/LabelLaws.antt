-- Laws of specs/Label.antt: the class of a byte, and its canonical form. Assumes nothing.
use Prim.Native.Nat.{ℕ, ◌+◌, ◌≤◌}
use mathlib.Core.Bool.{Bool, true, false, cond, ◌||◌}
use mathlib.Core.Path.{◌≡◌, refl, sym, ap, ◌∙◌}
use mathlib.Core.List.{List, map}
use native.Mathlib.Omega.{arith}
use lib.Dec.{leb, eqb}
use lib.ListN.{length, length-map}
use borrow.Author.Tests.{leb-true, ne_eqb}
use Rattle.base.specs.Ascii.{is_in}
use Rattle.base.proofs.Lists.{every_map}
use Rattle.base.proofs.SetLaws.{same, set_of}
use Rattle.base.proofs.Tests.{and_left, and_right, below, within, under, over}
use Rattle.name.specs.Label.{is_upper, is_lower, is_digit, is_label_byte, Label, lower}

-- a byte's class, from the five tests
pub label_byte : (b : ℕ) {u l d h s : Bool} → is_upper b ≡ u → is_lower b ≡ l → is_digit b ≡ d → eqb b 45 ≡ h → eqb b 95 ≡ s
    → is_label_byte b ≡ (u || l || d || h || s)
unfolding is_label_byte
label_byte b eu el ed eh es = λ i. eu i || el i || ed i || eh i || es i

pub lower_upper : (b : ℕ) → is_upper b ≡ true → lower b ≡ b + 32
unfolding lower
lower_upper b e = ap (λ (t : Bool). cond t (b + 32) b) e

pub lower_other : (b : ℕ) → is_upper b ≡ false → lower b ≡ b
unfolding lower
lower_other b e = ap (λ (t : Bool). cond t (b + 32) b) e

-- ---- the canonical form of a byte and of a label

-- a length byte is no letter
pub lower_length : (n : ℕ) → n ≤ 63 → lower n ≡ n
unfolding is_upper
lower_length n short = lower_other n (under 65 n 90 (omega arith))

module _ (b : ℕ) where
  -- what is upper case, and what it becomes
  pub upper_range : is_upper b ≡ true → (65 ≤ b) × (b ≤ 90)
  unfolding is_upper
  upper_range e = (leb-true 65 b (and_left (leb 65 b) (leb b 90) e), leb-true b 90 (and_right (leb 65 b) (leb b 90) e))

  pub by_case : {P : Type 0} → (is_upper b ≡ true → P) → (is_upper b ≡ false → P) → P
  by_case {P} f g = go (is_upper b) refl
    where
      go : (t : Bool) → is_upper b ≡ t → P
      go true e = f e
      go false e = g e

  pub lower_lower : lower (lower b) ≡ lower b
  lower_lower =
      by_case
      (λ e.
      let r = upper_range e in
      let not_upper : is_upper (b + 32) ≡ false = unfold is_upper in over 65 (b + 32) 90 (omega arith) in
      ap lower (lower_upper b e) ∙ lower_other (b + 32) not_upper ∙ sym (lower_upper b e))
      (λ e. ap lower (lower_other b e))

  pub label_byte_lower : is_label_byte b ≡ true → is_label_byte (lower b) ≡ true
  label_byte_lower h =
      by_case
      (λ e.
      let r = upper_range e in
      let upper : is_upper (b + 32) ≡ false = unfold is_upper in over 65 (b + 32) 90 (omega arith) in
      let lowercase : is_lower (b + 32) ≡ true = unfold is_lower in within 97 (b + 32) 122 (omega arith) (omega arith) in
      ap is_label_byte (lower_upper b e) ∙ label_byte (b + 32) upper lowercase refl refl refl)
      (λ e. ap is_label_byte (lower_other b e) ∙ h)

-- and a byte that is one in lower case is one as it stands
pub label_byte_raised : (b : ℕ) → is_label_byte (lower b) ≡ true → is_label_byte b ≡ true
unfolding is_label_byte
label_byte_raised b h =
    by_case b (λ e. ap (λ (t : Bool). t || is_lower b || is_digit b || eqb b 45 || eqb b 95) e) (λ e. sym (ap is_label_byte (lower_other b e)) ∙ h)

pub lower_least : (b : ℕ) → b ≤ lower b
lower_least b = by_case b (λ e. omega (arith, lower_upper b e)) (λ e. omega (arith, lower_other b e))

pub label_lower : (l : List ℕ) → Label l → Label (map lower l)
label_lower l h =
    let long : length (map lower l) ≡ length l = length-map l lower in
    record { some = omega (arith, h.some); short = omega (arith, h.short); bytes = every_map lower label_byte_lower l h.bytes }

-- ---- the bytes of labels as a set

each_below : below (λ b. same (is_in 0x3ff200000000000 0x7fffffe87fffffe b) (is_label_byte b)) 128 ≡ true
unfolding below is_in is_label_byte is_upper is_lower is_digit
each_below = refl

none_above : (b : ℕ) → 128 ≤ b → is_label_byte b ≡ false
unfolding is_upper is_lower is_digit
none_above b h =
    label_byte b (over 65 b 90 (omega arith)) (over 97 b 122 (omega arith)) (over 48 b 57 (omega arith)) (ne_eqb b 45 (λ e. omega arith)) (ne_eqb b 95 (λ e. omega arith))

pub label_set : (b : ℕ) → is_in 0x3ff200000000000 0x7fffffe87fffffe b ≡ is_label_byte b
label_set b = set_of 0x3ff200000000000 0x7fffffe87fffffe is_label_byte each_below none_above b
