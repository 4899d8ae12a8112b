-- Bytes compared a chunk at a time. Assumes nothing.
use Prim.Native.Nat.{ℕ, ◌+◌, ◌≤◌, ◌<◌}
use mathlib.Core.Bool.{false}
use mathlib.Core.Path.{◌≡◌, sym, ap, ap₂, ◌∙◌}
use mathlib.Core.List.{List, ◌++◌}
use native.Mathlib.Omega.{arith}
use lib.Bits.{bit_or, bit_xor, xor_add_and, and_le_l, and_le_r, xor_self}
use lib.ListN.{length, get_or, take, drop, length-drop}
use lib.Seq.{get_or-drop, get_or-take, length-take-le, take-add, take_all}
use Rattle.base.specs.Bytes.{eq_bytes}
use Rattle.base.proofs.Lists.{take_more}
use Rattle.base.proofs.Tests.{ne_eq_bytes}
use Rattle.octets.proofs.ZeroLaws.{or_none}

xor_none : (x y : ℕ) → bit_xor x y ≡ 0 → x ≡ y
xor_none x y e = omega (arith, xor_add_and x y, and_le_l x y, and_le_r x y)

module _ (a b : List ℕ) (at : ℕ) where
  abbrev pub chunk : List ℕ → List ℕ
  chunk l = take 16 (drop at l)

  -- the bits in which the first i bytes differ are none exactly if they are the same
  pub record Passed (bits i : ℕ) : Type 0 where
    pub low : i ≤ 16
    pub forth : bits ≡ 0 → take i (chunk a) ≡ take i (chunk b)
    pub back : chunk a ≡ chunk b → bits ≡ 0

  module _ (fits : at + 16 ≤ length a) (fits' : at + 16 ≤ length b) where
    long : (l : List ℕ) → at + 16 ≤ length l → length (chunk l) ≡ 16
    long l h = length-take-le 16 (drop at l) (omega (arith, length-drop at l))

    there : (l : List ℕ) (i : ℕ) → i < 16 → get_or (chunk l) i 0 ≡ get_or l (at + i) 0
    there l i lt = get_or-take 16 (drop at l) i 0 lt ∙ get_or-drop at l i 0

    pub passed_more : (bits i : ℕ) → Passed bits i → i < 16 → Passed (bit_or bits (bit_xor (get_or a (at + i) 0) (get_or b (at + i) 0))) (i + 1)
    passed_more bits i p lt =
        let x = get_or a (at + i) 0 in
        let y = get_or b (at + i) 0 in
        record {
          low = omega arith;
          forth = λ z.
              let none_set = or_none bits (bit_xor x y) z in
              take_more (chunk a) (chunk b) i (p.forth none_set.0) (there a i lt ∙ xor_none x y none_set.1 ∙ sym (there b i lt)) (omega (arith, long a fits)) (omega (arith, long b fits'));
          back = λ e.
              let same : x ≡ y = sym (there a i lt) ∙ ap (λ (l : List ℕ). get_or l i 0) e ∙ there b i lt in
              ap₂ bit_or (p.back e) (ap (λ (v : ℕ). bit_xor v y) same ∙ xor_self y);
        }

    pub passed_all : (bits i : ℕ) → Passed bits i → 16 ≤ i → bits ≡ 0 → chunk a ≡ chunk b
    passed_all bits i p all z = sym (take_all i (chunk a) (omega (arith, long a fits))) ∙ p.forth z ∙ take_all i (chunk b) (omega (arith, long b fits'))

  -- a chunk more
  pub chunk_more : take at a ≡ take at b → chunk a ≡ chunk b → take (at + 16) a ≡ take (at + 16) b
  chunk_more done here = take-add at 16 a ∙ ap₂ ◌++◌ done here ∙ sym (take-add at 16 b)

  -- a chunk that differs
  pub chunk_differs : (chunk a ≡ chunk b → ⊥) → false ≡ eq_bytes a b
  chunk_differs d = sym (ne_eq_bytes a b (λ e. d (ap chunk e)))
