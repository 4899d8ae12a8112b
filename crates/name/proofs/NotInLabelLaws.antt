-- The test of a name in canonical form, which counts the bytes that no label has: specs/NotInLabel.antt. Assumes nothing.
use Prim.Native.Nat.{ℕ, zero, suc, ◌+◌, ◌-◌, ◌≤◌, ◌<◌}
use mathlib.Core.Bool.{Bool, true, false, cond, ◌&&◌, ◌||◌, and-false, true≢false, false≢true}
use mathlib.Core.Path.{◌≡◌, refl, sym, ap, ap₂, ◌∙◌}
use mathlib.Core.List.{List, [], ◌∷◌, ◌++◌, head-eq_of_cons-eq, tail-eq_of_cons-eq}
use native.Mathlib.Numerals.{add-one}
use native.Mathlib.Omega.{arith}
use lib.Dec.{leb, eqb}
use lib.ListN.{length, get_or, take, drop, length-drop, take-append-drop, drop_of_length-le}
use lib.Seq.{drop-cons, drop-drop}
use borrow.Author.Tests.{eq-eqb, ne_eqb, le-leb, lt-leb, eqb-true, leb-true}
use Rattle.base.specs.Logic.{Decides}
use Rattle.base.proofs.Tests.{and_left, and_right, under, over}
use Rattle.name.specs.Label.{is_upper, is_lower, is_digit, is_label_byte, lower}
use Rattle.name.specs.Name.{Proper, canonical}
use Rattle.name.specs.ProperTest.{is_nil, accepts}
use Rattle.name.specs.NotInLabel.{is_canonical_label_byte, not_in_label, count_not_in_label}
use Rattle.name.proofs.LabelLaws.{lower_length, lower_upper, lower_other, upper_range, by_case}
use Rattle.name.proofs.WireLaws.{proper_first, accepts_proper, decided, at_last}

-- ---- counting

pub canonical_byte_none : (b : ℕ) → is_canonical_label_byte b ≡ true → not_in_label b ≡ 0
unfolding not_in_label
canonical_byte_none b e = ap (λ (t : Bool). cond t 0 1) e

pub other_byte_one : (b : ℕ) → is_canonical_label_byte b ≡ false → not_in_label b ≡ 1
unfolding not_in_label
other_byte_one b e = ap (λ (t : Bool). cond t 0 1) e

-- by which of the two a byte is
pub by_canonical_byte : {P : Type 0} (b : ℕ) → (is_canonical_label_byte b ≡ true → P) → (is_canonical_label_byte b ≡ false → P) → P
by_canonical_byte {P} b f g = go (is_canonical_label_byte b) refl
  where
    go : (t : Bool) → is_canonical_label_byte b ≡ t → P
    go true e = f e
    go false e = g e

pub not_in_label_one : (b : ℕ) → not_in_label b ≤ 1
not_in_label_one b = by_canonical_byte b (λ e. omega (arith, canonical_byte_none b e)) (λ e. omega (arith, other_byte_one b e))

pub count_append : (l m : List ℕ) → count_not_in_label (l ++ m) ≡ count_not_in_label l + count_not_in_label m
unfolding count_not_in_label
count_append [] m = omega arith
count_append (b ∷ l) m = omega (arith, count_append l m)

pub count_length : (l : List ℕ) → count_not_in_label l ≤ length l
unfolding count_not_in_label
count_length [] = omega arith
count_length (b ∷ l) = omega (arith, count_length l, not_in_label_one b)

-- ---- a byte of a label that is canonical

pub canonical_byte_as : (b : ℕ) → lower b ≡ b → is_canonical_label_byte b ≡ is_label_byte b
unfolding is_label_byte is_canonical_label_byte
canonical_byte_as b e =
    by_case b (λ u. absurd (omega (arith, e, lower_upper b u))) (λ o. sym (ap (λ (t : Bool). t || is_lower b || is_digit b || eqb b 45 || eqb b 95) o))

upper_other : (b : ℕ) → is_upper b ≡ true → is_canonical_label_byte b ≡ false
unfolding is_canonical_label_byte is_lower is_digit
upper_other b u =
    let r = upper_range b u in
    λ i. under 97 b 122 (omega arith) i || over 48 b 57 (omega arith) i || ne_eqb b 45 (λ e. omega arith) i || ne_eqb b 95 (λ e. omega arith) i

canonical_byte_lower : (b : ℕ) → is_canonical_label_byte b ≡ true → lower b ≡ b
canonical_byte_lower b e = by_case b (λ u. absurd (true≢false (sym e ∙ upper_other b u))) (lower_other b)

-- ---- the test

-- n is what is left of a proper name in canonical form whose label has k bytes to come
unfoldable pub held : ℕ → List ℕ → Bool
held k [] = false
held zero (b ∷ n) = cond (eqb b 0) (is_nil n) (leb b 63 && held b n)
held (suc k) (b ∷ n) = is_canonical_label_byte b && held k n

held_as : (n : List ℕ) (k : ℕ) → canonical n ≡ n → held k n ≡ accepts k n
unfolding held accepts canonical
held_as [] k c = refl
held_as (b ∷ n) zero c = ap (λ (t : Bool). cond (eqb b 0) (is_nil n) (leb b 63 && t)) (held_as n b (tail-eq_of_cons-eq c))
held_as (b ∷ n) (suc k) c = ap₂ ◌&&◌ (canonical_byte_as b (head-eq_of_cons-eq c)) (held_as n k (tail-eq_of_cons-eq c))

held_last : (b : ℕ) (n : List ℕ) → b ≡ 0 → is_nil n ≡ true → canonical (b ∷ n) ≡ b ∷ n
unfolding canonical
held_last b [] z e = ap (λ (x : ℕ). x ∷ []) (lower_length b (omega arith))
held_last b (a ∷ n) z e = absurd (false≢true e)

held_length : (b : ℕ) (n : List ℕ) → (held b n ≡ true → canonical n ≡ n) → (t : Bool) → eqb b 0 ≡ t → cond t (is_nil n) (leb b 63 && held b n) ≡ true → canonical (b ∷ n) ≡ b ∷ n
unfolding canonical
held_length b n ih true z e = held_last b n (eqb-true b 0 z) e
held_length b n ih false z e = ap₂ ◌∷◌ (lower_length b (leb-true b 63 (and_left (leb b 63) (held b n) e))) (ih (and_right (leb b 63) (held b n) e))

held_byte : (k b : ℕ) (n : List ℕ) → ((j : ℕ) → held j n ≡ true → canonical n ≡ n) → held k (b ∷ n) ≡ true → canonical (b ∷ n) ≡ b ∷ n
unfolding held canonical
held_byte zero b n ih e = held_length b n (ih b) (eqb b 0) refl e
held_byte (suc k) b n ih e = ap₂ ◌∷◌ (canonical_byte_lower b (and_left (is_canonical_label_byte b) (held k n) e)) (ih k (and_right (is_canonical_label_byte b) (held k n) e))

held_canonical : (n : List ℕ) (k : ℕ) → held k n ≡ true → canonical n ≡ n
held_canonical [] k e = absurd (false≢true (unfold held in e))
held_canonical (b ∷ n) k e = held_byte k b n (λ j. held_canonical n j) e

-- a name has a byte before its zero byte
held_first : (n : List ℕ) → held 0 n ≡ true → 2 ≤ length n → get_or n 0 0 ≡ 0 → ⊥
unfolding held
held_first [] e some z = omega arith
held_first (b ∷ []) e some z = omega arith
held_first (b ∷ a ∷ n) e some z = false≢true (sym (ap (λ (t : Bool). cond t false (leb b 63 && held b (a ∷ n))) (eq-eqb b 0 z)) ∙ e)

pub proper_two : (n : List ℕ) → Proper n → 2 ≤ length n
unfolding accepts
proper_two [] p = absurd (proper_first [] p refl)
proper_two (b ∷ []) p =
    absurd
    (false≢true
    (sym (and-false (leb b 63)) ∙ sym (ap (λ (t : Bool). cond t true (leb b 63 && false)) (ne_eqb b 0 (proper_first (b ∷ []) p))) ∙ accepts_proper (b ∷ []) p))
proper_two (b ∷ a ∷ n) p = omega arith

pub held_decides : (n : List ℕ) (b : Bool) → b ≡ held 0 n → 2 ≤ length n → length n ≤ 255 → Decides b (Proper n × (canonical n ≡ n))
held_decides n b e some short =
    record {
      if_true =
          λ t.
          let c = held_canonical n 0 (sym e ∙ t) in
          ((decided n true (sym (sym (held_as n 0 c) ∙ sym e ∙ t)) (held_first n (sym e ∙ t) some) short).if_true refl, c);
      if_false = λ f h. true≢false (sym (accepts_proper n h.0) ∙ sym (held_as n 0 h.1) ∙ sym e ∙ f);
    }

-- ---- a label passed at once, by how many of its bytes no label has

label_clean : (r : List ℕ) (k : ℕ) → count_not_in_label (take k r) ≡ 0 → held k r ≡ held 0 (drop k r)
unfolding held count_not_in_label
label_clean [] zero e = refl
label_clean [] (suc k) e = refl
label_clean (b ∷ r) zero e = refl
label_clean (b ∷ r) (suc k) e =
    by_canonical_byte b (λ s. ap (λ (t : Bool). t && held k r) s ∙ label_clean r k (omega arith)) (λ o. absurd (omega (arith, other_byte_one b o)))

label_dirty : (r : List ℕ) (k : ℕ) → 1 ≤ count_not_in_label (take k r) → held k r ≡ false
unfolding held count_not_in_label
label_dirty [] zero e = absurd (omega arith)
label_dirty [] (suc k) e = refl
label_dirty (b ∷ r) zero e = absurd (omega arith)
label_dirty (b ∷ r) (suc k) e =
    by_canonical_byte b (λ s. ap (λ (t : Bool). t && held k r) s ∙ label_dirty r k (omega (arith, canonical_byte_none b s))) (λ o. ap (λ (t : Bool). t && held k r) o)

-- ---- the walk over the lengths

-- at i stands a length; so many bytes that no label has are left when the lengths before it are taken off: those of the labels passed, and those ahead
pub record Hopped (n : List ℕ) (left i : ℕ) : Type 0 where
  pub passed : ℕ
  pub sum : left ≡ passed + count_not_in_label (drop i n)
  pub clean : passed ≡ 0 → held 0 n ≡ held 0 (drop i n)
  pub dirty : 1 ≤ passed → held 0 n ≡ false

pub by_none : {P : Type 0} (k : ℕ) → (k ≡ 0 → P) → (1 ≤ k → P) → P
by_none zero f g = f refl
by_none (suc k) f g = g (omega arith)

refuse : (n : List ℕ) (left i : ℕ) → Hopped n left i → held 0 (drop i n) ≡ false → false ≡ held 0 n
refuse n left i h e = sym (by_none h.passed (λ z. h.clean z ∙ e) h.dirty)

pub hopped_end : (n : List ℕ) (left i : ℕ) → Hopped n left i → length n ≤ i → false ≡ held 0 n
unfolding held
hopped_end n left i h past = refuse n left i h (ap (held 0) (drop_of_length-le n {i = i} past))

module _ (n : List ℕ) (left i : ℕ) (h : Hopped n left i) (within : i < length n) where
  ahead : drop i n ≡ get_or n i 0 ∷ drop (i + 1) n
  ahead = rw (add-one, drop-cons n i 0)

  counts : count_not_in_label (drop i n) ≡ not_in_label (get_or n i 0) + count_not_in_label (drop (i + 1) n)
  unfolding count_not_in_label
  counts = ap count_not_in_label ahead

  pub hopped_not_in_label : not_in_label (get_or n i 0) ≤ left
  hopped_not_in_label = omega (arith, h.sum, counts)

  at_length : held 0 (drop i n) ≡ cond (eqb (get_or n i 0) 0) (is_nil (drop (i + 1) n)) (leb (get_or n i 0) 63 && held (get_or n i 0) (drop (i + 1) n))
  unfolding held
  at_length = ap (held 0) ahead

  pub hopped_long : 63 < get_or n i 0 → false ≡ held 0 n
  hopped_long long =
      refuse n left i h
      (at_length ∙ (λ j. cond (ne_eqb (get_or n i 0) 0 (λ z. omega arith) j) (is_nil (drop (i + 1) n)) (lt-leb (get_or n i 0) 63 long j && held (get_or n i 0) (drop (i + 1) n))))

  pub hopped_more : (x : ℕ) → x ≡ not_in_label (get_or n i 0) → (get_or n i 0 ≡ 0 → ⊥) → get_or n i 0 ≤ 63 → Hopped n (left - x) (i + (get_or n i 0 + 1))
  hopped_more x e some short =
      let k = get_or n i 0 in
      let r = drop (i + 1) n in
      let next : i + 1 + k ≡ i + (k + 1) = omega arith in
      let rest : drop k r ≡ drop (i + (k + 1)) n = drop-drop k (i + 1) n ∙ ap (λ (j : ℕ). drop j n) next in
      let parts : count_not_in_label r ≡ count_not_in_label (take k r) + count_not_in_label (drop (i + (k + 1)) n) =
      ap count_not_in_label (sym (take-append-drop k r)) ∙ count_append (take k r) (drop k r) ∙ ap (λ (l : List ℕ). count_not_in_label (take k r) + count_not_in_label l) rest in
      let here : held 0 (drop i n) ≡ held k r =
      at_length ∙ (λ j. cond (ne_eqb k 0 some j) (is_nil r) (le-leb k 63 short j && held k r)) in
      record {
        passed = h.passed + count_not_in_label (take k r);
        sum = omega (arith, h.sum, counts, parts, e);
        clean = λ z. h.clean (omega arith) ∙ here ∙ label_clean r k (omega arith) ∙ ap (held 0) rest;
        dirty = λ o. by_none h.passed (λ z. h.clean z ∙ here ∙ label_dirty r k (omega arith)) h.dirty;
      }

  -- the zero byte: the last, and the one left that no label has
  module _ (z : get_or n i 0 ≡ 0) where
    at_zero : held 0 (drop i n) ≡ eqb (i + 1) (length n)
    at_zero =
        let rest : i + 1 + length (drop (i + 1) n) ≡ length n = simp length-drop (omega arith) in
        at_length ∙ ap (λ (t : Bool). cond t (is_nil (drop (i + 1) n)) (leb (get_or n i 0) 63 && held (get_or n i 0) (drop (i + 1) n))) (eq-eqb (get_or n i 0) 0 z)
        ∙ sym (at_last (drop (i + 1) n) (i + 1) (length n) rest)

    one_left : i + 1 ≡ length n → left ≡ h.passed + 1
    unfolding count_not_in_label not_in_label is_canonical_label_byte is_lower is_digit
    one_left last =
        let none_ahead : count_not_in_label (drop (i + 1) n) ≡ 0 = ap count_not_in_label (drop_of_length-le n {i = i + 1} (omega arith)) in
        let one : not_in_label (get_or n i 0) ≡ 1 = ap not_in_label z in
        omega (arith, h.sum, counts, none_ahead, one)

    by_last : (t : Bool) → eqb (i + 1) (length n) ≡ t → (t && eqb left 1) ≡ held 0 n
    by_last true e =
        by_none h.passed (λ p. eq-eqb left 1 (omega (arith, one_left (eqb-true (i + 1) (length n) e))) ∙ sym (h.clean p ∙ at_zero ∙ e))
        (λ p. ne_eqb left 1 (λ o. omega (arith, one_left (eqb-true (i + 1) (length n) e))) ∙ sym (h.dirty p))
    by_last false e = refuse n left i h (at_zero ∙ e)

    pub hopped_last : (eqb (i + 1) (length n) && eqb left 1) ≡ held 0 n
    hopped_last = by_last (eqb (i + 1) (length n)) refl
