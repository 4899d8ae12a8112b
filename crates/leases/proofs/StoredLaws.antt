-- The forward step of a lease as the host stores it: a block behind the book, of which a part or all is there after a power cut. Assumes nothing.
use Prim.Native.Nat.{ℕ, suc, ◌+◌, ◌*◌, ◌^◌, ◌≤◌, ◌<◌}
use mathlib.Core.Path.{◌≡◌, refl, sym, ap, ap₂, subst, ◌∙◌}
use mathlib.Core.Logic.{◌⊎◌, inl, inr}
use mathlib.Core.List.{List, ◌++◌}
use native.Mathlib.Omega.{arith}
use lib.ListN.{length, take, length-append, length-take}
use lib.Seq.{take_all, take_at}
use Rattle.base.specs.Answer.{number, value}
use Rattle.base.specs.Bytes.{overlay}
use Rattle.base.specs.Refusal.{reverse_full}
use Rattle.base.specs.declared.Answer.{Answer}
use Rattle.base.specs.declared.Answer.TheVariants.{Accepted, Refused}
use Rattle.base.proofs.AnswerLaws.{accepted≢refused}
use Rattle.base.proofs.Bytes.{taken_back}
use Rattle.base.proofs.Tests.{by_ltb}
use Rattle.block.specs.Sealed.{block_size}
use Rattle.name.specs.Name.{canonical}
use Rattle.table.specs.Calls.{Adds, Removes}
use Rattle.book.specs.Notes.{note_of}
use Rattle.book.specs.Blocks.{block_bytes}
use Rattle.book.specs.Books.{Replayable, SoundBlocks}
use Rattle.book.specs.Calls.{BlockWritten, Replays}
use Rattle.book.proofs.BlockLaws.{length_block}
use Rattle.book.proofs.CallLaws.{replayed, wrote}
use Rattle.book.proofs.StepLaws.{fit_note, held_canonical}
use Rattle.book.proofs.Theorems.{one_sound, replays_add, replays_remove}
use Rattle.book.proofs.TornLaws.{cut_short}
use Rattle.leases.specs.Cuts.{Stored}

-- a book of k blocks replays to b, and with the block x behind it to b'
module _ (limit : ℕ) (book area : List ℕ) (q : Answer) (b : List ℕ) (k : ℕ) (blocks : length book ≡ block_size * k) (below : suc k < 2 ^ 32) (old : Replays limit book area q b) (done : number q ≡ 0)
    (x b' : List ℕ) (long : length x ≡ block_size) (new : Replays limit (book ++ x) area (Accepted 0) b') where
  pub stored_in_part : (j m : ℕ) → SoundBlocks limit (book ++ take j x) m → Stored limit area b b' (take (block_size * m) (book ++ take j x)) j
  stored_in_part j m sound = by_ltb j block_size cut_off whole
    where
      cut_off : j < block_size → Stored limit area b b' (take (block_size * m) (book ++ take j x)) j
      cut_off part =
          let h = replayed limit book area old done in
          let short : length (take j x) ≤ j = simp length-take (omega arith) in
          let is : m ≡ k = one_sound limit (book ++ take j x) m k sound (cut_short limit book k h.book blocks (take j x) (omega arith) (omega (arith, short))) in
          let front : take (block_size * m) (book ++ take j x) ≡ book = ap (λ (n : ℕ). take (block_size * n) (book ++ take j x)) is ∙ take_at book (take j x) (block_size * k) blocks in
          Stored.old part (subst (λ (y : List ℕ). Replays limit y area (Accepted 0) b) (sym front) (subst (λ (a : Answer). Replays limit book area a b) h.answered old))

      whole : block_size ≤ j → Stored limit area b b' (take (block_size * m) (book ++ take j x)) j
      whole all =
          let h = replayed limit (book ++ x) area new refl in
          let size : length (book ++ x) ≡ block_size * suc k = length-append book x ∙ omega (arith, blocks, long) in
          let same : book ++ take j x ≡ book ++ x = ap (λ (y : List ℕ). book ++ y) (take_all j x (omega (arith, long))) in
          let every : take (block_size * suc k) (book ++ x) ≡ book ++ x = take_all (block_size * suc k) (book ++ x) (omega (arith, size)) in
          let full : SoundBlocks limit (book ++ x) (suc k) =
          record { fits = omega (arith, size); below = below; replays = subst (Replayable limit) (sym every) h.book; most = λ n fits small again. omega (arith, size, fits) } in
          let is : m ≡ suc k = one_sound limit (book ++ x) m (suc k) (subst (λ (y : List ℕ). SoundBlocks limit y m) same sound) full in
          let part : take (block_size * m) (book ++ take j x) ≡ book ++ x = ap₂ (λ (n : ℕ) (y : List ℕ). take (block_size * n) y) is same ∙ every in
          Stored.new all (subst (λ (y : List ℕ). Replays limit y area (Accepted 0) b') (sym part) new)

-- the block that was written after an accepted step, by K5's theorem on that step
module _ (limit : ℕ) (book area : List ℕ) (q : Answer) (b : List ℕ) (k : ℕ) (blocks : length book ≡ block_size * k) (below : suc k < 2 ^ 32) (old : Replays limit book area q b) (done : number q ≡ 0)
    (name b' out : List ℕ) (w : Answer) (left : List ℕ) (written : BlockWritten limit b' name k out w left) (stored : number w ≡ 0) (r : Answer) (v : ℕ) (accepted : r ≡ Accepted v)
    (dhcid : List ℕ) (family : ℕ) (address : List ℕ) (j m : ℕ) (sound : SoundBlocks limit (book ++ take j (take (value w) left)) m) where
  block_long : length (take (value w) left) ≡ block_size
  block_long =
      let h = wrote limit b' name k out written stored in
      let note = note_of (canonical name) h.sound.table in
      let size = length_block k note (fit_note (canonical name) h.sound.table (held_canonical name h.proper) h.sound.slots.each) in
      ap length (ap₂ (λ (a : Answer) (l : List ℕ). take (value a) l) h.answered h.bytes ∙ ap (λ (n : ℕ). take n (overlay out 0 (block_bytes k note))) (sym size) ∙ taken_back out (block_bytes k note)) ∙ size

  pub stored_add : (policy : ℕ) {P Q : Type 0} → (P × Q × (r ≡ Refused reverse_full 0)) ⊎ Adds limit b name dhcid family address policy r b' → Stored limit area b b' (take (block_size * m) (book ++ take j (take (value w) left))) j
  stored_add policy (inl full) = absurd (accepted≢refused (sym accepted ∙ full.2))
  stored_add policy (inr step) =
      stored_in_part limit book area q b k blocks below old done (take (value w) left) b' block_long
      (replays_add limit book area q b k blocks (omega arith) old done name b' out w left written stored r v accepted dhcid family address policy step) j m sound

  pub stored_remove : Removes limit b name dhcid family address r b' → Stored limit area b b' (take (block_size * m) (book ++ take j (take (value w) left))) j
  stored_remove step =
      stored_in_part limit book area q b k blocks below old done (take (value w) left) b' block_long
      (replays_remove limit book area q b k blocks (omega arith) old done name b' out w left written stored r v accepted dhcid family address step) j m sound
