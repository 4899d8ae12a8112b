-- A book with bytes behind it: what a write that was cut leaves. Assumes nothing.
use Prim.Native.Nat.{ℕ, suc, ◌+◌, ◌*◌, ◌^◌, ◌≤◌, ◌<◌}
use mathlib.Core.Path.{◌≡◌, sym, ap, subst, ◌∙◌}
use mathlib.Core.Logic.{◌⊎◌, inl, inr}
use mathlib.Core.List.{List, ◌++◌}
use native.Mathlib.Omega.{arith}
use lib.ListN.{length, take, length-append}
use lib.Seq.{take_at, take_all}
use Rattle.base.proofs.Tests.{by_ltb}
use Rattle.block.specs.Sealed.{block_size}
use Rattle.book.specs.Notes.{Note, after}
use Rattle.book.specs.Blocks.{Says}
use Rattle.book.specs.Books.{Right, Replayable, SoundBlocks}
use Rattle.book.proofs.BookLaws.{right_length, right_last}

module _ (limit : ℕ) (b : List ℕ) (n : ℕ) (h : Replayable limit b) (long : length b ≡ block_size * n) where
  -- as many blocks as notes
  pub blocks_count : length h.notes ≡ n
  blocks_count = omega (arith, right_length h.right, long)

  with_rest : (w : List ℕ) → length (b ++ w) ≡ block_size * n + length w
  with_rest w = length-append b w ∙ ap (λ (k : ℕ). k + length w) long

  front : (w : List ℕ) → Replayable limit (take (block_size * n) (b ++ w))
  front w = subst (Replayable limit) (sym (take_at b w (block_size * n) long)) h

  -- less than a block behind the book: the sound blocks are the book's
  pub cut_short : (w : List ℕ) → n < 2 ^ 32 → length w < block_size → SoundBlocks limit (b ++ w) n
  cut_short w below short =
      let size = with_rest w in
      record { fits = omega (arith, size); below = below; replays = front w; most = λ m fits small again. omega (arith, size, fits, short) }

  -- at most a block: the sound blocks are the book's, or the bytes are a whole block and right behind it
  pub cut_block : (w : List ℕ) (m : ℕ) → n < 2 ^ 32 → length w ≤ block_size → SoundBlocks limit (b ++ w) m
      → (m ≡ n) ⊎ ((m ≡ suc n) × (length w ≡ block_size) × ((c : Note) × Says n (after h.notes) w c))
  cut_block w m below short s =
      by_ltb n m
      (λ more.
      let full : length w ≡ block_size = omega (arith, size, s.fits, more, short) in
      let next : m ≡ suc n = omega (arith, size, s.fits, more, short) in
      let all : take (block_size * m) (b ++ w) ≡ b ++ w = take_all (block_size * m) (b ++ w) (omega (arith, size, next, full)) in
      let last = right_last w h.right (subst (λ (z : List ℕ). Right z s.replays.notes) all s.replays.right) full in
      let number : 0 + length h.notes ≡ n = omega (arith, blocks_count) in
      inr (next, full, (last.0, subst (λ (j : ℕ). Says j (after h.notes) w last.0) number last.2)))
      (λ most. inl (omega (arith, most, low)))
    where
      size : length (b ++ w) ≡ block_size * n + length w
      size = with_rest w

      low : n ≤ m
      low = s.most n (omega (arith, size)) below (front w)
