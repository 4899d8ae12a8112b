-- Parts with a separator between them, written one after the other. Assumes nothing.
use Prim.Native.Nat.{ℕ, zero, suc, ◌+◌, ◌-◌, ◌≤◌, ◌<◌}
use mathlib.Core.Bool.{Bool, true, false}
use mathlib.Core.Path.{◌≡◌, refl, sym, ap, ap₂, subst, ◌∙◌}
use mathlib.Core.List.{List, [], ◌∷◌, ◌++◌, append_assoc}
use native.Mathlib.Nat.{add-zero}
use native.Mathlib.Numerals.{add-one}
use native.Mathlib.Omega.{arith}
use lib.Dec.{eqb}
use lib.ListN.{length, take, length-append}
use lib.Seq.{take_all}
use borrow.Author.Tests.{eqb-true, eqb-false}
use Rattle.base.specs.Bytes.{overlay}
use Rattle.base.proofs.Bytes.{length_overlay, overlay_append, overlay_none}
use Rattle.text.specs.Digits.{separated, preceded}

module _ (s : ℕ) where
  separated_snoc : (x : List ℕ) (xs : List (List ℕ)) (p : List ℕ) → separated s (x ∷ (xs ++ (p ∷ []))) ≡ separated s (x ∷ xs) ++ s ∷ p
  unfolding separated
  separated_snoc x [] p = refl
  separated_snoc x (y ∷ ys) p =
      ap (λ (l : List ℕ). x ++ s ∷ l) (separated_snoc y ys p) ∙ sym (append_assoc x (s ∷ separated s (y ∷ ys)) (s ∷ p))

  -- the first i parts, with one part more
  pub separated_first : (ps : List (List ℕ)) (p : List ℕ) → take 1 ps ≡ p ∷ [] → separated s (take 1 ps) ≡ p
  unfolding separated
  separated_first ps p e = ap (separated s) e

  pub separated_more : (ps : List (List ℕ)) (i : ℕ) (p : List ℕ) → 0 < i → i < length ps → take (suc i) ps ≡ take i ps ++ (p ∷ [])
      → separated s (take (suc i) ps) ≡ separated s (take i ps) ++ s ∷ p
  separated_more [] i p some within e = absurd (omega arith)
  separated_more (q ∷ ps) zero p some within e = absurd (omega arith)
  separated_more (q ∷ ps) (suc i) p some within e = ap (separated s) e ∙ separated_snoc q (take i ps) p

  -- the first parts are the beginning of all
  prefix : (ps : List (List ℕ)) (i : ℕ) → length (separated s (take i ps)) ≤ length (separated s ps)
  unfolding separated
  prefix [] zero = omega arith
  prefix [] (suc i) = omega arith
  prefix (p ∷ ps) zero = omega arith
  prefix (p ∷ []) (suc zero) = omega arith
  prefix (p ∷ []) (suc (suc i)) = omega arith
  prefix (p ∷ q ∷ ps) (suc zero) = omega (arith, length-append p (s ∷ separated s (q ∷ ps)))
  prefix (p ∷ q ∷ ps) (suc (suc i)) =
      omega (arith, length-append p (s ∷ separated s (q ∷ ps)), length-append p (s ∷ separated s (q ∷ take i ps)), prefix (q ∷ ps) (suc i))

-- the first i of the parts ps stand in d, from index at on, and end behind the last of them
pub record Parted (to : List ℕ) (at s : ℕ) (ps : List (List ℕ)) (d : List ℕ) (end i : ℕ) : Type 0 where
  pub within : i ≤ length ps
  pub long : length d ≡ length to
  pub ends : end ≡ at + length (separated s (take i ps))
  pub done : d ≡ overlay to at (separated s (take i ps))

module _ (to : List ℕ) (at s : ℕ) (ps : List (List ℕ)) (fits : at + length (separated s ps) ≤ length to) where
  pub parted_none : Parted to at s ps to at 0
  unfolding separated
  parted_none = record { within = omega arith; long = refl; ends = sym (add-zero at); done = sym (overlay_none to at) }

  module _ (d : List ℕ) (end i : ℕ) (h : Parted to at s ps d end i) (more : i < length ps) where
    -- there is room for the part p that comes next, and for the separator before it
    room : (p q : List ℕ) → separated s (take (suc i) ps) ≡ separated s (take i ps) ++ q → end + length q ≤ length d
    room p q e = omega (arith, h.ends, h.long, ap length e, length-append (separated s (take i ps)) q, prefix s ps (suc i))

    parted_on : (p q d' : List ℕ) → separated s (take (suc i) ps) ≡ separated s (take i ps) ++ q → d' ≡ overlay d end q → Parted to at s ps d' (end + length q) (i + 1)
    parted_on p q d' e w =
        let all : d' ≡ overlay to at (separated s (take (suc i) ps)) =
        w ∙ ap₂ (λ (x : List ℕ) (k : ℕ). overlay x k q) h.done h.ends ∙ overlay_append to at (separated s (take i ps)) q (omega arith) ∙ ap (overlay to at) (sym e) in
        record {
          within = omega arith;
          long = ap length all ∙ length_overlay to at (separated s (take (suc i) ps)) (omega (arith, prefix s ps (suc i)));
          ends =
              omega (arith, h.ends, ap length e, length-append (separated s (take i ps)) q, ap (λ (k : ℕ). length (separated s (take k ps))) (add-one i));
          done = all ∙ ap (λ (k : ℕ). overlay to at (separated s (take k ps))) (sym (add-one i));
        }

    module _ (p : List ℕ) (part : take (suc i) ps ≡ take i ps ++ (p ∷ [])) where
      first : i ≡ 0 → separated s (take (suc i) ps) ≡ separated s (take i ps) ++ p
      unfolding separated
      first e =
          ap (λ (k : ℕ). separated s (take (suc k) ps)) e ∙ separated_first s ps p (ap (λ (k : ℕ). take (suc k) ps) (sym e) ∙ part ∙ ap (λ (k : ℕ). take k ps ++ (p ∷ [])) e)
          ∙ sym (ap (λ (k : ℕ). separated s (take k ps) ++ p) e)

      later : 0 < i → separated s (take (suc i) ps) ≡ separated s (take i ps) ++ s ∷ p
      later some = separated_more s ps i p some more part

      next : (b : Bool) → eqb i 0 ≡ b → separated s (take (suc i) ps) ≡ separated s (take i ps) ++ preceded b s p
      next true e = first (eqb-true i 0 e)
      next false e = let some : i ≡ 0 → ⊥ = eqb-false i 0 e in later (omega arith)

      -- as `put_part` writes the part, where x is the slice that it is handed
      pub part_fits : (x : List ℕ) → x ≡ p → end + length (preceded (eqb i 0) s x) ≤ length d
      part_fits x e = subst (λ (l : List ℕ). end + length (preceded (eqb i 0) s l) ≤ length d) (sym e) (room p (preceded (eqb i 0) s p) (next (eqb i 0) refl))

      pub parted_more : (x d' : List ℕ) (r : ℕ) → x ≡ p → r ≡ end + length (preceded (eqb i 0) s x) → d' ≡ overlay d end (preceded (eqb i 0) s x)
          → Parted to at s ps d' r (i + 1)
      parted_more x d' r e er w =
          subst (λ (k : ℕ). Parted to at s ps d' k (i + 1)) (sym (er ∙ ap (λ (l : List ℕ). end + length (preceded (eqb i 0) s l)) e))
          (parted_on p (preceded (eqb i 0) s p) d' (next (eqb i 0) refl) (w ∙ ap (λ (l : List ℕ). overlay d end (preceded (eqb i 0) s l)) e))

  pub parted_all : (d : List ℕ) (end i : ℕ) → Parted to at s ps d end i → length ps ≤ i → (d ≡ overlay to at (separated s ps)) × (end - at ≡ length (separated s ps))
  parted_all d end i h all =
      let whole : take i ps ≡ ps = take_all i ps all in
      (h.done ∙ ap (λ (l : List (List ℕ)). overlay to at (separated s l)) whole, omega (arith, h.ends, ap (λ (l : List (List ℕ)). length (separated s l)) whole))

-- ---- how long parts are with a byte for each

unfoldable pub total : List (List ℕ) → ℕ
total [] = 0
total (p ∷ ps) = 1 + length p + total ps

pub total_none : total [] ≡ 0
unfolding total
total_none = refl

pub total_snoc : (ps : List (List ℕ)) (p : List ℕ) → total (ps ++ (p ∷ [])) ≡ total ps + (1 + length p)
unfolding total
total_snoc [] p = omega arith
total_snoc (q ∷ ps) p = omega (arith, total_snoc ps p)

pub total_separated : (s : ℕ) (ps : List (List ℕ)) → 1 ≤ length ps → total ps ≡ 1 + length (separated s ps)
unfolding total separated
total_separated s [] some = absurd (omega arith)
total_separated s (p ∷ []) some = omega arith
total_separated s (p ∷ q ∷ ps) some = omega (arith, total_separated s (q ∷ ps) (omega arith), length-append p (s ∷ separated s (q ∷ ps)))
