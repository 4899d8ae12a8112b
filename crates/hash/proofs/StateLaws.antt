-- What a message's blocks leave, where it comes in two parts; and what one call of `take` does to a state. Assumes nothing.
use Rattle.std.proofs.Common.{◌≡◌, ℕ, zero, suc, ◌+◌, ◌-◌, ◌*◌, ◌/◌, ◌%◌, ◌^◌, ◌<◌, ◌≤◌, List, [], ◌++◌, length, take, drop, sym, refl, ap, ◌∙◌, ap₂, append_assoc, add-zero, add-suc, arith, length-append, length-drop, drop_of_length-le, length-take-le, take_all, drop-drop}
use lib.Seq.{drop-append-le, take-append-le}
use Rattle.base.specs.Bytes.{overlay}
use Rattle.base.proofs.Bytes.{length_overlay, take_overlay, overlay_to_end}
use Rattle.sha256_block.specs.Block.{compress}
use Rattle.hash.specs.Sha256.{block, hash_value}
use Rattle.hash.specs.State.{waiting, blocks, remainder, Takes}
use Rattle.hash.specs.declared.Sha256.{Sha256}

-- ---- the hash value after the blocks of a message in two parts

value_append : (h m x : List ℕ) (n : ℕ) → n * 64 ≤ length m → hash_value h (m ++ x) n ≡ hash_value h m n
unfolding hash_value block
value_append h m x zero le = refl
value_append h m x (suc n) le =
    let whole : n * 64 + 64 ≤ length m = omega arith in
    ap₂ compress (value_append h m x n (omega arith))
    (ap (take 64) (drop-append-le (n * 64) m x (omega arith)) ∙ take-append-le 64 (drop (n * 64) m) x (simp length-drop (omega arith)))

value_add : (h m : List ℕ) (i j : ℕ) → hash_value h m (i + j) ≡ hash_value (hash_value h m i) (drop (i * 64) m) j
unfolding hash_value block
value_add h m i zero = ap (hash_value h m) (add-zero i)
value_add h m i (suc j) =
    let e : (i + j) * 64 ≡ i * 64 + j * 64 = omega arith in
    ap (hash_value h m) (add-suc i j)
    ∙ ap₂ compress (value_add h m i j) (ap (take 64) (ap (λ (n : ℕ). drop n m) e ∙ sym (drop-drop (j * 64) (i * 64) m)))

module _ (m x : List ℕ) where
  -- m's whole blocks, and those of what they leave followed by x, are the whole blocks of m followed by x
  blocks_append : blocks m + blocks (remainder m ++ x) ≡ blocks (m ++ x)
  unfolding blocks remainder
  blocks_append = simp (length-append, length-drop) (omega arith)

  onward : drop (blocks m * 64) (m ++ x) ≡ remainder m ++ x
  unfolding blocks remainder
  onward = drop-append-le (length m / 64 * 64) m x (omega arith)

  pub value_on : (h : List ℕ) → hash_value h (m ++ x) (blocks (m ++ x)) ≡ hash_value (hash_value h m (blocks m)) (remainder m ++ x) (blocks (remainder m ++ x))
  value_on h =
      let whole : blocks m * 64 ≤ length m = unfold blocks in omega arith in
      ap (hash_value h (m ++ x)) (sym blocks_append)
      ∙ value_add h (m ++ x) (blocks m) (blocks (remainder m ++ x))
      ∙ ap₂ (λ (a b : List ℕ). hash_value a b (blocks (remainder m ++ x))) (value_append h m x (blocks m) whole) onward

  pub remainder_on : remainder (m ++ x) ≡ remainder (remainder m ++ x)
  unfolding remainder
  remainder_on =
      let e : blocks (m ++ x) * 64 ≡ blocks m * 64 + blocks (remainder m ++ x) * 64 = omega (arith, blocks_append) in
      ap (λ (n : ℕ). drop n (m ++ x)) e
      ∙ sym (drop-drop (blocks (remainder m ++ x) * 64) (blocks m * 64) (m ++ x))
      ∙ ap (drop (blocks (remainder m ++ x) * 64)) onward

pub length_remainder : (x : List ℕ) → length (remainder x) ≡ length x % 64
unfolding blocks remainder
length_remainder x = length-drop (length x / 64 * 64) x ∙ omega arith

-- ---- a first block b, and what follows it

module _ (b z : List ℕ) (one : length b ≡ 64) where
  remainder_none : remainder b ≡ []
  unfolding blocks remainder
  remainder_none = drop_of_length-le b {i = length b / 64 * 64} (omega arith)

  value_one : (h : List ℕ) → hash_value h b (blocks b) ≡ compress h b
  unfolding hash_value block blocks
  value_one h =
      let e : length b / 64 ≡ 1 = omega arith in
      ap (hash_value h b) e ∙ ap (compress h) (take_all 64 b (omega arith))

  value_first : (h : List ℕ) → hash_value h (b ++ z) (blocks (b ++ z)) ≡ hash_value (compress h b) z (blocks z)
  value_first h = value_on b z h ∙ ap₂ (λ (v r : List ℕ). hash_value v (r ++ z) (blocks (r ++ z))) (value_one h) remainder_none

  remainder_first : remainder (b ++ z) ≡ remainder z
  remainder_first = remainder_on b z ∙ ap (λ (r : List ℕ). remainder (r ++ z)) remainder_none

-- ---- one call of `take`, for a state s and the bytes x

module _ (s : Sha256) (whole : length s.block ≡ 64) where
  length_waiting : length (waiting s) ≡ s.len % 64
  unfolding waiting
  length_waiting = length-take-le (s.len % 64) s.block (omega arith)

  -- where x does not fill the block
  pub takes_short : (x b : List ℕ) (n : ℕ) → b ≡ overlay s.block (s.len % 64) x → n ≡ (s.len + length x) % 2 ^ 64 → length x < 64 - s.len % 64
      → Takes s x (record { words = s.words; block = b; len = n })
  unfolding waiting blocks remainder hash_value
  takes_short x b n eb en fits =
      let long : length (waiting s ++ x) ≡ s.len % 64 + length x = length-append (waiting s) x ∙ ap (λ (k : ℕ). k + length x) length_waiting in
      let none : length (waiting s ++ x) / 64 ≡ 0 = omega arith in
      let at : n % 64 ≡ s.len % 64 + length x = omega arith in
      record {
        words = ap (hash_value s.words (waiting s ++ x)) (sym none);
        waits =
            ap₂ take at eb ∙ take_overlay s.block (s.len % 64) x (omega arith)
            ∙ ap (λ (k : ℕ). drop (k * 64) (waiting s ++ x)) (sym none);
        len = en;
      }

  -- where x is y, which fills the block, and then z
  pub takes_full : (x y z p b₁ w₁ w₂ b₂ : List ℕ) (n : ℕ) → b₁ ≡ overlay s.block (s.len % 64) y → w₁ ≡ compress s.words b₁ → w₂ ≡ hash_value w₁ z (blocks z)
      → b₂ ≡ overlay b₁ 0 p → n ≡ (s.len + length x) % 2 ^ 64 → y ++ z ≡ x → p ≡ remainder z → s.len % 64 + length y ≡ 64
      → Takes s x (record { words = w₂; block = b₂; len = n })
  unfolding waiting
  takes_full x y z p b₁ w₁ w₂ b₂ n e₁ e₂ e₃ e₄ en yz ep fills =
      let first : b₁ ≡ waiting s ++ y = e₁ ∙ overlay_to_end s.block (s.len % 64) y (omega arith) in
      let one : length b₁ ≡ 64 = ap length e₁ ∙ length_overlay s.block (s.len % 64) y (omega arith) ∙ whole in
      let joined : b₁ ++ z ≡ waiting s ++ x =
      ap (λ (l : List ℕ). l ++ z) first ∙ append_assoc (waiting s) y z ∙ ap (λ (l : List ℕ). waiting s ++ l) yz in
      let left : length p ≡ length z % 64 = ap length ep ∙ length_remainder z in
      let long : length x ≡ length y + length z = ap length (sym yz) ∙ length-append y z in
      let at : n % 64 ≡ 0 + length p = omega arith in
      record {
        words =
            e₃ ∙ ap (λ (w : List ℕ). hash_value w z (blocks z)) e₂ ∙ sym (value_first b₁ z one s.words)
            ∙ ap (λ (l : List ℕ). hash_value s.words l (blocks l)) joined;
        waits = ap₂ take at e₄ ∙ take_overlay b₁ 0 p (omega arith) ∙ ep ∙ sym (remainder_first b₁ z one) ∙ ap remainder joined;
        len = en;
      }
