-- Where the first dot of a text stands: specs/Promise.antt's lead. Assumes nothing.
use Prim.Native.Nat.{ℕ, zero, suc, ◌+◌, ◌-◌, ◌≤◌, ◌<◌}
use mathlib.Core.Bool.{Bool, true, false, not, ◌&&◌, false≢true}
use mathlib.Core.Path.{◌≡◌, refl, sym, ap, ◌∙◌}
use mathlib.Core.List.{List, [], ◌∷◌, ◌++◌}
use native.Mathlib.Omega.{arith}
use lib.Dec.{eqb}
use lib.ListN.{length, get_or, drop, length-drop}
use lib.Seq.{get_or-drop, drop-drop}
use borrow.Author.Tests.{eq-eqb, ne_eqb, eqb-true, eqb-false}
use Rattle.base.specs.Logic.{Every}
use Rattle.base.proofs.Tests.{and_left, and_right, by_ltb}
use Rattle.name.specs.Promise.{lead}
use Rattle.name.proofs.TextLaws.{lead_dot, lead_byte}

-- by whether a byte is a dot
pub by_dot : {P : Type 0} (b : ℕ) → (b ≡ 46 → P) → ((b ≡ 46 → ⊥) → P) → P
by_dot {P} b f g = go (eqb b 46) refl
  where
    go : (t : Bool) → eqb b 46 ≡ t → P
    go true e = f (eqb-true b 46 e)
    go false e = g (eqb-false b 46 e)

lead_none : lead [] ≡ 0
unfolding lead
lead_none = refl

pub lead_drop : (r : List ℕ) (i : ℕ) → i ≤ lead r → lead r ≡ i + lead (drop i r)
lead_drop r zero h = omega arith
lead_drop [] (suc i) h = absurd (omega (arith, lead_none))
lead_drop (b ∷ r) (suc i) h =
    by_dot b (λ e. absurd (omega (arith, lead_dot b r e))) (λ o. let one = lead_byte b r o in let ih = lead_drop r i (omega arith) in omega arith)

-- one byte more that is no dot
pub lead_more : (r : List ℕ) (i : ℕ) → i ≤ lead r → i < length r → (get_or r i 0 ≡ 46 → ⊥) → i + 1 ≤ lead r
lead_more [] i h within other = absurd (omega arith)
lead_more (b ∷ r) zero h within other = omega (arith, lead_byte b r other)
lead_more (b ∷ r) (suc i) h within other =
    by_dot b (λ e. absurd (omega (arith, lead_dot b r e))) (λ o. let one = lead_byte b r o in let ih = lead_more r i (omega arith) (omega arith) other in omega arith)

-- no byte before the first dot is one
pub lead_other : (r : List ℕ) (i : ℕ) → i < lead r → get_or r i 0 ≡ 46 → ⊥
lead_other [] i h e = omega (arith, lead_none)
lead_other (b ∷ r) zero h e = omega (arith, lead_dot b r e)
lead_other (b ∷ r) (suc i) h e =
    by_dot b (λ z. omega (arith, lead_dot b r z)) (λ o. let one = lead_byte b r o in lead_other r i (omega arith) e)

pub lead_before : (r : List ℕ) (i : ℕ) → get_or r i 0 ≡ 46 → lead r ≤ i
lead_before r i e = by_ltb i (lead r) (λ lt. absurd (lead_other r i lt e)) (λ le. le)

-- ---- a text with a dot in it: the bytes before the first, and those after it

pub record Parted (r : List ℕ) : Type 0 where
  pub label : List ℕ
  pub rest : List ℕ
  pub form : r ≡ label ++ 46 ∷ rest
  pub long : length label ≡ lead r
  pub dotless : Every (λ b. b ≡ 46 → ⊥) label

pub parted : (r : List ℕ) → lead r < length r → Parted r
parted [] h = absurd (omega arith)
parted (b ∷ r) h =
    by_dot b
    (λ e. record { label = []; rest = r; form = ap (λ (x : ℕ). x ∷ r) e; long = sym (lead_dot b r e); dotless = Every.none })
    (λ o.
    let one = lead_byte b r o in
    let p = parted r (omega arith) in
    record {
      label = b ∷ p.label;
      rest = p.rest;
      form = ap (λ (l : List ℕ). b ∷ l) p.form;
      long = ap suc p.long ∙ sym one;
      dotless = Every.more o p.dotless;
    })

-- the last byte of a word is a dot
module _ (w : List ℕ) (last : get_or w (length w - 1) 0 ≡ 46) (i : ℕ) (within : i < length w) where
  pub lead_within : i + lead (drop i w) < length w
  lead_within =
      let e : i + (length w - 1 - i) ≡ length w - 1 = omega arith in
      let dot : get_or (drop i w) (length w - 1 - i) 0 ≡ 46 = get_or-drop i w (length w - 1 - i) 0 ∙ ap (λ (k : ℕ). get_or w k 0) e ∙ last in
      omega (arith, lead_before (drop i w) (length w - 1 - i) dot)

-- ---- the loops that look for it

-- the first i bytes from `at` on are no dots exactly if the test says so
pub record Dotless (w : List ℕ) (at : ℕ) (dotless : Bool) (i : ℕ) : Type 0 where
  pub low : i ≤ 16
  pub forth : dotless ≡ true → i ≤ lead (drop at w)
  pub back : i ≤ lead (drop at w) → dotless ≡ true

pub dotless_none : (w : List ℕ) (at : ℕ) → Dotless w at true 0
dotless_none w at = record { low = omega arith; forth = λ e. omega arith; back = λ h. refl }

pub dotless_more : (w : List ℕ) (at : ℕ) (t : Bool) (i : ℕ) → Dotless w at t i → i < 16 → at + 16 ≤ length w → Dotless w at (t && not (eqb (get_or w (at + i) 0) 46)) (i + 1)
dotless_more w at t i d more fits =
    let b = get_or w (at + i) 0 in
    let other = not (eqb b 46) in
    let there : get_or (drop at w) i 0 ≡ b = get_or-drop at w i 0 in
    record {
      low = omega arith;
      forth = λ e.
          lead_more (drop at w) i (d.forth (and_left t other e)) (omega (arith, length-drop at w))
          (λ z. false≢true (sym (ap not (eq-eqb b 46 (sym there ∙ z))) ∙ and_right t other e));
      back = λ h. λ j. d.back (omega arith) j && not (ne_eqb b 46 (λ z. lead_other (drop at w) i (omega arith) (there ∙ z)) j);
    }

-- no dot stands from `at` on before i
pub record Passing (w : List ℕ) (at i : ℕ) : Type 0 where
  pub from : at ≤ i
  pub within : i ≤ length w
  pub low : i ≤ at + lead (drop at w)

pub passing_none : (w : List ℕ) (at : ℕ) → at ≤ length w → Passing w at at
passing_none w at h = record { from = omega arith; within = h; low = omega arith }

pub passing_more : (w : List ℕ) (at i k : ℕ) → Passing w at i → i + k ≤ length w → k ≤ lead (drop i w) → Passing w at (i + k)
passing_more w at i k h fits more =
    let e : at + (i - at) ≡ i = omega (arith, h.from) in
    let rest : drop (i - at) (drop at w) ≡ drop i w = drop-drop (i - at) at w ∙ ap (λ (j : ℕ). drop j w) e in
    record { from = omega (arith, h.from); within = fits; low = omega (arith, h.from, h.low, lead_drop (drop at w) (i - at) (omega (arith, h.low)), ap lead rest) }

module _ (w : List ℕ) (at i : ℕ) (h : Passing w at i) where
  there : get_or (drop at w) (i - at) 0 ≡ get_or w i 0
  there = let e : at + (i - at) ≡ i = omega (arith, h.from) in get_or-drop at w (i - at) 0 ∙ ap (λ (k : ℕ). get_or w k 0) e

  pub passing_byte : i < length w → (get_or w i 0 ≡ 46 → ⊥) → Passing w at (i + 1)
  passing_byte within other =
      let more = lead_more (drop at w) (i - at) (omega (arith, h.low)) (omega (arith, h.from, length-drop at w)) (λ z. other (sym there ∙ z)) in
      record { from = omega (arith, h.from); within = omega arith; low = omega (arith, h.from, more) }

  pub passing_dot : get_or w i 0 ≡ 46 → i ≡ at + lead (drop at w)
  passing_dot e = omega (arith, h.from, h.low, lead_before (drop at w) (i - at) (there ∙ e))
