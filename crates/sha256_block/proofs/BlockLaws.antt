-- Laws of specs/Block.antt: the schedule that a loop fills, and rounds one after the other. Assumes nothing.
use Prim.Native.Nat.{ℕ, suc, ◌+◌, ◌-◌, ◌≤◌, ◌<◌}
use mathlib.Core.Path.{◌≡◌, sym, ap, ap₂, ◌∙◌}
use mathlib.Core.List.{List, [], ◌∷◌, ◌++◌}
use native.Mathlib.Omega.{arith}
use native.Mathlib.Numerals.{add-one}
use lib.ListN.{length, get_or, take, set, length-set}
use lib.Seq.{take-suc-set, get_or-take}
use Rattle.sha256_block.specs.Block.{◌⊞◌, σ₀, σ₁, W, schedule, rounds}

-- w has 64 words, of which the first t are those of the schedule that begins with m
pub record Scheduled (m w : List ℕ) (t : ℕ) : Type 0 where
  pub above : 16 ≤ t
  pub below : t ≤ 64
  pub long : length w ≡ 64
  pub done : take t w ≡ schedule (t - 16) m

-- W looks at no word from its own on
W-take : (w : List ℕ) (t : ℕ) → 16 ≤ t → W (take t w) t ≡ W w t
unfolding W
W-take w t h =
    let e2 : get_or (take t w) (t - 2) 0 ≡ get_or w (t - 2) 0 = get_or-take t w (t - 2) 0 (omega arith) in
    let e7 : get_or (take t w) (t - 7) 0 ≡ get_or w (t - 7) 0 = get_or-take t w (t - 7) 0 (omega arith) in
    let e15 : get_or (take t w) (t - 15) 0 ≡ get_or w (t - 15) 0 = get_or-take t w (t - 15) 0 (omega arith) in
    let e16 : get_or (take t w) (t - 16) 0 ≡ get_or w (t - 16) 0 = get_or-take t w (t - 16) 0 (omega arith) in
    λ i. σ₁ (e2 i) ⊞ e7 i ⊞ σ₀ (e15 i) ⊞ e16 i

pub scheduled_more : (m w : List ℕ) (t v : ℕ) → Scheduled m w t → t < 64 → v ≡ W w t → Scheduled m (set w t v) (t + 1)
unfolding schedule
scheduled_more m w t v h lt e =
    let k : t + 1 - 16 ≡ suc (t - 16) = omega arith in
    let at : t ≡ 16 + (t - 16) = omega arith in
    record {
      above = omega arith;
      below = omega arith;
      long = length-set w t v ∙ h.long;
      done =
          rw add-one (take-suc-set w t v (omega arith))
          ∙ ap₂ (λ (l : List ℕ) (x : ℕ). l ++ (x ∷ [])) h.done (e ∙ sym (W-take w t h.above) ∙ ap₂ W h.done at)
          ∙ ap (λ (n : ℕ). schedule n m) (sym k);
    }

-- one round more, counted from t
pub on : (w h v : List ℕ) (t n : ℕ) → v ≡ rounds (t + n + 1) w h → v ≡ rounds (t + suc n) w h
on w h v t n e = let k : t + n + 1 ≡ t + suc n = omega arith in e ∙ ap (λ (x : ℕ). rounds x w h) k
