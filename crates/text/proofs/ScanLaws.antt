-- The loop that reads numbers with a separator, over FieldLaws.antt. Assumes nothing.
use Prim.Native.Nat.{ℕ, suc, ◌+◌, ◌-◌, ◌≤◌, ◌<◌}
use mathlib.Core.Path.{◌≡◌, refl, sym, ap, subst, ◌∙◌}
use mathlib.Core.Logic.{◌⊎◌, inr, ⊎_elim}
use mathlib.Core.List.{List, [], ◌∷◌, ◌++◌, append_assoc}
use native.Mathlib.Numerals.{add-one}
use native.Mathlib.Omega.{arith}
use lib.ListN.{length, get_or, take, drop, set, replicate, length-set, length-append, drop_of_length-le}
use lib.Seq.{drop-cons, length-take-le, take-suc-set, drop-set-lt, set_split}
use Rattle.base.proofs.Lists.{drop_next}
use Rattle.std.specs.Prelude.{Some, None}
use Rattle.text.specs.Digits.{digit_value}
use Rattle.text.specs.Field.{Fields, Usable, Extended, may, may_not, Numbered, NotNumbered}
use Rattle.text.specs.declared.field.Form.{Form}
use Rattle.text.proofs.FieldLaws.{From, last, next, digit, fields_from, from_is_fields, from_some, at_separator, at_digit, at_end}

-- at index i of w, k numbers stand in values, zeros after them, and the next is v so far, with n digits: what w goes on to is those and what is left of it
pub record Scanning (f : Form) (w values : List ℕ) (k v n i : ℕ) : Type 0 where
  pub within : i ≤ length w
  pub long : length values ≡ 8
  pub few : k < f.count
  pub small : v ≤ 65535
  pub digits : n ≤ f.most
  pub zeros : drop k values ≡ replicate (8 - k) 0
  pub forth : (ns : List ℕ) → From f 0 0 w ns → (ms : List ℕ) × (ns ≡ take k values ++ ms) × From f v n (drop i w) ms
  pub back : (ms : List ℕ) → From f v n (drop i w) ms → From f 0 0 w (take k values ++ ms)

module _ (f : Form) (usable : Usable f) (w : List ℕ) where
  pub refused : ((ns : List ℕ) → Fields f w ns → ⊥) → Numbered f w None ⊎ NotNumbered f w None
  refused none = inr (record { none = none; found = refl })

  module _ (values : List ℕ) (k v n i : ℕ) (h : Scanning f w values k v n i) where
    -- the numbers of the whole word are as many as it wants only if few enough are left
    counted : (ns ms : List ℕ) → ns ≡ take k values ++ ms → length ns ≡ k + length ms
    counted ns ms e = ap length e ∙ length-append (take k values) ms ∙ ap (λ (j : ℕ). j + length ms) (length-take-le k values (omega (arith, h.long, h.few, usable.few)))

    module _ (more : i < length w) where
      ahead : drop i w ≡ get_or w i 0 ∷ drop (i + 1) w
      ahead = rw (add-one, drop-cons w i 0)

      from_here : (ms : List ℕ) → From f v n (drop i w) ms → From f v n (get_or w i 0 ∷ drop (i + 1) w) ms
      from_here ms g = subst (λ (t : List ℕ). From f v n t ms) ahead g

      to_here : (ms : List ℕ) → From f v n (get_or w i 0 ∷ drop (i + 1) w) ms → From f v n (drop i w) ms
      to_here ms g = subst (λ (t : List ℕ). From f v n t ms) (sym ahead) g

      -- what any numbers of the word say of the byte at i
      here : (ns : List ℕ) → Fields f w ns → (ms : List ℕ) × (length ns ≡ k + length ms) × From f v n (get_or w i 0 ∷ drop (i + 1) w) ms
      here ns g =
          let t = h.forth ns (fields_from f usable w ns g) in
          (t.0, counted ns t.0 t.1, from_here t.0 t.2)

      pub no_next : get_or w i 0 ≡ f.separator → (1 ≤ n → f.count - 1 ≤ k) → (ns : List ℕ) → Fields f w ns → ⊥
      no_next e full ns g =
          let t = here ns g in
          let s = at_separator f usable e t.2 in
          omega (arith, full s.0, g.count, t.1, ap length s.1.1, from_some f usable s.1.2, usable.some)

      pub no_digit : (get_or w i 0 ≡ f.separator → ⊥) → Extended f v n (digit_value (get_or w i 0)) None → (ns : List ℕ) → Fields f w ns → ⊥
      no_digit ne (may_not never) ns g = never (at_digit f usable ne (here ns g).2).0

      pub scanning_next : get_or w i 0 ≡ f.separator → 1 ≤ n → k < f.count - 1 → Scanning f w (set values k v) (k + 1) 0 0 (i + 1)
      scanning_next e one room =
          let inside : k < length values = omega (arith, h.long, usable.few) in
          let front : take (k + 1) (set values k v) ≡ take k values ++ (v ∷ []) = rw add-one (take-suc-set values k v inside) in
          let joins : (ms : List ℕ) → take (k + 1) (set values k v) ++ ms ≡ take k values ++ v ∷ ms =
          λ ms. ap (λ (l : List ℕ). l ++ ms) front ∙ append_assoc (take k values) (v ∷ []) ms in
          let rest : 8 - k ≡ suc (8 - (k + 1)) = omega (arith, usable.few) in
          record {
            within = omega arith;
            long = length-set values k v ∙ h.long;
            few = omega arith;
            small = omega arith;
            digits = omega arith;
            zeros =
                drop-set-lt (k + 1) values k v (omega arith)
                ∙ drop_next values k 0 (replicate (8 - (k + 1)) 0) (h.zeros ∙ ap (λ (j : ℕ). replicate j 0) rest);
            forth =
                λ ns g.
                let t = h.forth ns g in
                let s = (at_separator f usable e (from_here t.0 t.2)).1 in
                (s.0, t.1 ∙ ap (λ (l : List ℕ). take k values ++ l) s.1 ∙ sym (joins s.0), s.2);
            back =
                λ ms g.
                subst (From f 0 0 w) (sym (joins ms)) (h.back (v ∷ ms) (to_here (v ∷ ms) (next e one g)));
          }

      pub scanning_digit : {r : ℕ} → (get_or w i 0 ≡ f.separator → ⊥) → Extended f v n (digit_value (get_or w i 0)) (Some r) → Scanning f w values k r (n + 1) (i + 1)
      scanning_digit ne (may a) =
          record {
            within = omega arith;
            long = h.long;
            few = h.few;
            small = omega (arith, a.small, usable.greatest);
            digits = omega (arith, a.room);
            zeros = h.zeros;
            forth =
                λ ns g.
                let t = h.forth ns g in
                (t.0, t.1, (at_digit f usable ne (from_here t.0 t.2)).1);
            back = λ ms g. h.back ms (to_here ms (digit ne a g));
          }

    module _ (end : length w ≤ i) where
      none_left : drop i w ≡ []
      none_left = drop_of_length-le w {i = i} end

      at_last : (ns : List ℕ) → Fields f w ns → (1 ≤ n) × (length ns ≡ k + 1)
      at_last ns g =
          let t = h.forth ns (fields_from f usable w ns g) in
          let s = at_end f usable (subst (λ (l : List ℕ). From f v n l t.0) none_left t.2) in
          (s.0, counted ns t.0 t.1 ∙ ap (λ (j : ℕ). k + j) (ap length s.1))

      pub no_end : (1 ≤ n → k ≡ f.count - 1 → ⊥) → (ns : List ℕ) → Fields f w ns → ⊥
      no_end few ns g = let l = at_last ns g in few l.0 (omega (arith, l.1, g.count))

      pub scanning_all : 1 ≤ n → k ≡ f.count - 1 → Numbered f w (Some (set values k v))
      scanning_all one full =
          let ns : List ℕ = take k values ++ (v ∷ []) in
          let count : length ns ≡ k + 1 = counted ns (v ∷ []) refl in
          let all : From f 0 0 w ns = h.back (v ∷ []) (subst (λ (l : List ℕ). From f v n l (v ∷ [])) (sym none_left) (last one)) in
          let inside : k < length values = omega (arith, h.long, h.few, usable.few) in
          let rest : 8 - k ≡ suc (8 - length ns) = omega (arith, h.few, usable.few) in
          record {
            numbers = ns;
            fields = from_is_fields f usable w ns all (omega (arith, h.few));
            found =
                ap Some
                (set_split values k v inside
                ∙ ap (λ (l : List ℕ). take k values ++ v ∷ l)
                (ap (λ (j : ℕ). drop j values) (sym (add-one k)) ∙ drop_next values k 0 (replicate (8 - length ns) 0) (h.zeros ∙ ap (λ (j : ℕ). replicate j 0) rest))
                ∙ sym (append_assoc (take k values) (v ∷ []) (replicate (8 - length ns) 0)));
          }

-- ---- what the reader answered

module _ {f : Form} {w : List ℕ} where
  pub were_read : {vs : List ℕ} → Numbered f w (Some vs) ⊎ NotNumbered f w (Some vs) → (ns : List ℕ) × Fields f w ns × (vs ≡ ns ++ replicate (8 - length ns) 0)
  were_read answer = ⊎_elim (λ y. (y.numbers, y.fields, cc y.found)) (λ n. cc n.found) answer

  pub none_were_read : Numbered f w None ⊎ NotNumbered f w None → (ns : List ℕ) → Fields f w ns → ⊥
  none_were_read answer = ⊎_elim (λ y. cc y.found) (λ n. n.none) answer
