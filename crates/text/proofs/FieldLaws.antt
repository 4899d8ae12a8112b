-- What a word of numbers with a separator is, byte by byte, and that this is specs/Field.antt's Fields. Assumes nothing.
use Prim.Native.Nat.{ℕ, zero, suc, ◌+◌, ◌*◌, ◌≤◌, ◌<◌}
use mathlib.Core.Bool.{false}
use mathlib.Core.Path.{◌≡◌, refl, sym, ap, ap₂, subst, ◌∙◌}
use mathlib.Core.List.{List, [], ◌∷◌, ◌++◌}
use native.Mathlib.Nat.{mul-le-mul_left, mul-one}
use native.Mathlib.Omega.{arith}
use lib.ListN.{length, get_or}
use Rattle.base.specs.Logic.{Every, Pairwise}
use Rattle.text.specs.Digits.{digit_value, value, separated}
use Rattle.text.specs.Field.{Field, Fields, Usable, Allowed}
use Rattle.text.specs.declared.field.Form.{Form}
use Rattle.text.proofs.DigitLaws.{digit_zero}

module _ (f : Form) where
  -- the digits p take a field from the number v with n digits to the number m
  data Extends : ℕ → ℕ → List ℕ → ℕ → Type 0 where
    done : {v n : ℕ} → Extends v n [] v
    digit : {v n m x : ℕ} {p : List ℕ} → Allowed f v n (digit_value x) → Extends (v * f.base + digit_value x) (n + 1) p m → Extends v n (x ∷ p) m

  -- from the middle of a field, with the number v of n digits, the text goes on to the numbers ns
  pub data From : ℕ → ℕ → List ℕ → List ℕ → Type 0 where
    last : {v n : ℕ} → 1 ≤ n → From v n [] (v ∷ [])
    next : {v n x : ℕ} {t ns : List ℕ} → x ≡ f.separator → 1 ≤ n → From 0 0 t ns → From v n (x ∷ t) (v ∷ ns)
    digit : {v n x : ℕ} {t ns : List ℕ} → (x ≡ f.separator → ⊥) → Allowed f v n (digit_value x) → From (v * f.base + digit_value x) (n + 1) t ns
        → From v n (x ∷ t) ns

-- ---- what a field's digits come to

module _ (f : Form) (usable : Usable f) where
  pub grows : (v : ℕ) (p : List ℕ) → v ≤ value f.base v p
  unfolding value
  grows v [] = omega arith
  grows v (x ∷ p) =
      let once : v * 1 ≤ v * f.base = mul-le-mul_left v usable.positive in
      let more : v * f.base + digit_value x ≤ value f.base (v * f.base + digit_value x) p = grows (v * f.base + digit_value x) p in
      omega (arith, mul-one v)

  -- a field's conditions, from its middle on
  record Goes (v n : ℕ) (p : List ℕ) (m : ℕ) : Type 0 where
    number : value f.base v p ≡ m
    short : n + length p ≤ f.most
    leading : f.leading_zeros ≡ false → 1 ≤ n → 1 ≤ length p → 1 ≤ v
    zero : f.leading_zeros ≡ false → n ≡ 0 → get_or p 0 0 ≡ 48 → length p ≤ 1
    small : m ≤ f.greatest

  nonzero : (v n : ℕ) (x : ℕ) (p : List ℕ) (d : ℕ) → digit_value x ≡ d → (1 ≤ n → 1 ≤ v) → (n ≡ 0 → x ≡ 48 → length (x ∷ p) ≤ 1) → 1 ≤ length p → 1 ≤ v * f.base + d
  nonzero v n x p (suc d) e lead alone some = omega arith
  nonzero v zero x p zero e lead alone some = absurd (omega (arith, alone refl (digit_zero x e)))
  nonzero v (suc n) x p zero e lead alone some =
      let once : v * 1 ≤ v * f.base = mul-le-mul_left v usable.positive in
      omega (arith, mul-one v, lead (omega arith))

  extends_by : (p : List ℕ) → Every (λ y. digit_value y < f.base) p → (v n m : ℕ) → Goes v n p m → Extends f v n p m
  unfolding value
  extends_by [] h v n m g = subst (Extends f v n []) g.number done
  extends_by (x ∷ p) (Every.more hx h) v n m g =
      let allowed : Allowed f v n (digit_value x) =
      record {
        digit = hx;
        room = omega (arith, g.short);
        leading = λ z some. g.leading z some (omega arith);
        small = omega (arith, grows (v * f.base + digit_value x) p, g.number, g.small);
      } in
      digit allowed
      (extends_by p h (v * f.base + digit_value x) (n + 1) m
      (record {
        number = g.number;
        short = omega (arith, g.short);
        leading = λ z one some. nonzero v n x p (digit_value x) refl (λ k. g.leading z k (omega arith)) (g.zero z) some;
        zero = λ z none. absurd (omega arith);
        small = g.small;
      }))

  field_extends : (p : List ℕ) (m : ℕ) → Field f p m → Extends f 0 0 p m
  field_extends p m h =
      extends_by p h.number.digits 0 0 m
      (record {
        number = h.number.number;
        short = omega (arith, h.short);
        leading = λ z none. absurd (omega arith);
        zero = λ z none first. omega (arith, h.shortest z first);
        small = h.small;
      })

  extends_digits : {v n m : ℕ} {p : List ℕ} → Extends f v n p m → Every (λ x. digit_value x < f.base) p
  extends_digits done = Every.none
  extends_digits (digit a e) = Every.more a.digit (extends_digits e)

  extends_value : {v n m : ℕ} {p : List ℕ} → Extends f v n p m → value f.base v p ≡ m
  unfolding value
  extends_value done = refl
  extends_value (digit a e) = extends_value e

  extends_short : {v n m : ℕ} {p : List ℕ} → Extends f v n p m → n ≤ f.most → n + length p ≤ f.most
  extends_short done h = omega arith
  extends_short (digit a e) h = omega (arith, extends_short e (omega (arith, a.room)))

  extends_small : {v n m : ℕ} {p : List ℕ} → Extends f v n p m → v ≤ f.greatest → m ≤ f.greatest
  extends_small done h = h
  extends_small (digit a e) h = extends_small e a.small

  none_follows : {v n m : ℕ} {p : List ℕ} → Extends f v n p m → v ≡ 0 → 1 ≤ n → f.leading_zeros ≡ false → length p ≡ 0
  none_follows done none some z = refl
  none_follows (digit a e) none some z = absurd (omega (arith, a.leading z some))

  zero_alone : {m : ℕ} {p : List ℕ} → Extends f 0 0 p m → 1 ≤ length p → f.leading_zeros ≡ false → get_or p 0 0 ≡ 48 → length p ≡ 1
  unfolding digit_value
  zero_alone done some z first = absurd (omega arith)
  zero_alone (digit {x} a e) some z first =
      let none : digit_value x ≡ 0 = ap digit_value first in
      omega (arith, none_follows e (omega arith) (omega arith) z)

  extends_field : (p : List ℕ) (m : ℕ) → Extends f 0 0 p m → 1 ≤ length p → Field f p m
  extends_field p m e some =
      record {
        number = record { some = some; digits = extends_digits e; number = extends_value e };
        short = omega (arith, extends_short e (omega arith));
        shortest = λ z first. zero_alone e some z first;
        small = extends_small e (omega arith);
      }

  -- ---- fields one after the other

  not_separator : (x : ℕ) → digit_value x < f.base → x ≡ f.separator → ⊥
  not_separator x h e = omega (arith, ap digit_value e, usable.separates, usable.base)

  from_last : {v n m : ℕ} {p : List ℕ} → Extends f v n p m → 1 ≤ n + length p → From f v n p (m ∷ [])
  from_last {n} done some = last {n = n} (omega arith)
  from_last (digit {x} a e) some = digit (not_separator x a.digit) a (from_last e (omega arith))

  from_next : {v n m : ℕ} {p t ns : List ℕ} → Extends f v n p m → 1 ≤ n + length p → From f 0 0 t ns → From f v n (p ++ f.separator ∷ t) (m ∷ ns)
  from_next {n} done some h = next {n = n} refl (omega arith) h
  from_next (digit {x} a e) some h = digit (not_separator x a.digit) a (from_next e (omega arith) h)

  from_fields : {parts : List (List ℕ)} {ns : List ℕ} → Pairwise (Field f) parts ns → 1 ≤ length ns → From f 0 0 (separated f.separator parts) ns
  unfolding separated
  from_fields Pairwise.none some = absurd (omega arith)
  from_fields (Pairwise.more {a = p} {b = m} h Pairwise.none) some = from_last (field_extends p m h) (omega (arith, h.number.some))
  from_fields (Pairwise.more {a = p} {b = m} h (Pairwise.more k ks)) some =
      from_next (field_extends p m h) (omega (arith, h.number.some)) (from_fields (Pairwise.more k ks) (omega arith))

  pub fields_from : (w ns : List ℕ) → Fields f w ns → From f 0 0 w ns
  fields_from w ns h =
      subst (λ (t : List ℕ). From f 0 0 t ns) (sym h.word) (from_fields h.fields (omega (arith, h.count, usable.some)))

  -- a text that goes on to numbers is cut at its separators: the rest of the field, and fields
  record Cut (v n : ℕ) (t ns : List ℕ) : Type 0 where
    part : List ℕ
    number : ℕ
    parts : List (List ℕ)
    numbers : List ℕ
    all : ns ≡ number ∷ numbers
    text : t ≡ separated f.separator (part ∷ parts)
    extends : Extends f v n part number
    some : 1 ≤ n + length part
    fields : Pairwise (Field f) parts numbers

  separated_cons : (s x : ℕ) (p : List ℕ) (ps : List (List ℕ)) → x ∷ separated s (p ∷ ps) ≡ separated s ((x ∷ p) ∷ ps)
  unfolding separated
  separated_cons s x p [] = refl
  separated_cons s x p (q ∷ ps) = refl

  cut : {v n : ℕ} {t ns : List ℕ} → From f v n t ns → Cut v n t ns
  unfolding separated
  cut {v} {n} (last some) =
      record { part = []; number = v; parts = []; numbers = []; all = refl; text = refl; extends = done; some = omega arith; fields = Pairwise.none }
  cut {v} {n} (next {ns} e some h) =
      let c = cut h in
      let first : Field f c.part c.number = extends_field c.part c.number c.extends (omega (arith, c.some)) in
      record {
        part = [];
        number = v;
        parts = c.part ∷ c.parts;
        numbers = c.number ∷ c.numbers;
        all = ap (λ (l : List ℕ). v ∷ l) c.all;
        text = ap₂ ◌∷◌ e c.text;
        extends = done;
        some = omega arith;
        fields = Pairwise.more first c.fields;
      }
  cut {v} {n} (digit {x} e a h) =
      let c = cut h in
      record {
        part = x ∷ c.part;
        number = c.number;
        parts = c.parts;
        numbers = c.numbers;
        all = c.all;
        text = ap (λ (l : List ℕ). x ∷ l) c.text ∙ separated_cons f.separator x c.part c.parts;
        extends = digit a c.extends;
        some = omega (arith, c.some);
        fields = c.fields;
      }

  pub from_is_fields : (w ns : List ℕ) → From f 0 0 w ns → length ns ≡ f.count → Fields f w ns
  from_is_fields w ns h count =
      let c = cut h in
      let first : Field f c.part c.number = extends_field c.part c.number c.extends (omega (arith, c.some)) in
      record {
        parts = c.part ∷ c.parts;
        word = c.text;
        fields = subst (Pairwise (Field f) (c.part ∷ c.parts)) (sym c.all) (Pairwise.more first c.fields);
        count = count;
      }

  -- ---- one byte of a text that goes on

  pub from_some : {v n : ℕ} {t ns : List ℕ} → From f v n t ns → 1 ≤ length ns
  from_some (last some) = omega arith
  from_some (next e some h) = omega arith
  from_some (digit ne a h) = from_some h

  pub at_separator : {v n x : ℕ} {t ns : List ℕ} → x ≡ f.separator → From f v n (x ∷ t) ns → (1 ≤ n) × ((ms : List ℕ) × (ns ≡ v ∷ ms) × From f 0 0 t ms)
  at_separator e (next {ns} e' some h) = (some, (ns, refl, h))
  at_separator e (digit ne a h) = absurd (ne e)

  pub at_digit : {v n x : ℕ} {t ns : List ℕ} → (x ≡ f.separator → ⊥) → From f v n (x ∷ t) ns → Allowed f v n (digit_value x) × From f (v * f.base + digit_value x) (n + 1) t ns
  at_digit ne (next e some h) = absurd (ne e)
  at_digit ne (digit ne' a h) = (a, h)

  pub at_end : {v n : ℕ} {ns : List ℕ} → From f v n [] ns → (1 ≤ n) × (ns ≡ v ∷ [])
  at_end (last some) = (some, refl)

  -- a text goes on to one list of numbers only
  pub from_one : {v n : ℕ} {t ns ms : List ℕ} → From f v n t ns → From f v n t ms → ns ≡ ms
  from_one (last some) k = sym (at_end k).1
  from_one {v} (next e some h) k =
      let s = (at_separator e k).1 in
      ap (λ (l : List ℕ). v ∷ l) (from_one h s.2) ∙ sym s.1
  from_one (digit ne a h) k = from_one h (at_digit ne k).1

  -- and so a word is one list of numbers only
  pub fields_one : (w ns ms : List ℕ) → Fields f w ns → Fields f w ms → ns ≡ ms
  fields_one w ns ms h k = from_one (fields_from w ns h) (fields_from w ms k)
