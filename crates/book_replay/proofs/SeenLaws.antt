-- What a look at a block finds. Assumes nothing.
use Prim.Native.Nat.{ℕ, ◌+◌, ◌*◌, ◌-◌, ◌≤◌}
use mathlib.Core.Path.{◌≡◌, refl, sym, ap, subst, ◌∙◌}
use mathlib.Core.List.{List, ◌++◌}
use mathlib.Core.Option.{some, none-ne-some}
use native.Mathlib.Nat.{suc-ne-zero}
use native.Mathlib.Omega.{arith}
use lib.ListN.{length, take, drop, get_or, length-drop}
use lib.Seq.{take-take, length-take-le}
use Rattle.block.specs.Sealed.{IsSealed}
use Rattle.slots.specs.Entry.{position}
use Rattle.slots.specs.Form.{TableEntry}
use Rattle.table.specs.Steps.{find}
use Rattle.table.proofs.FoundLaws.{Standing, standing}
use Rattle.book.specs.Notes.{Note}
use Rattle.book.specs.LastNote.{about}
use Rattle.book.specs.Blocks.{kind, Follows, Says}
use Rattle.book.specs.Books.{BadFrom}
use Rattle.book.proofs.BlockLaws.{block_sealed, one_note}
use Rattle.book.proofs.DecideLaws.{block_kind, block_slot}
use Rattle.book_block.specs.Promise.{SaysAlone, BlockIs}
use Rattle.book_replay.specs.Judging.{Kept, LookIs, head_of, block_at}
use Rattle.book_replay.specs.declared.judge.Turn.{Turn}
use Rattle.book_replay.proofs.HeadLaws.{note_head}
use Rattle.book_replay.proofs.KeptLaws.{kept_length, not_found}

-- the block as the code cuts it
pub block_cut : (book : List ℕ) (i : ℕ) → take (512 * i + 512 - 512 * i) (drop (512 * i) book) ≡ block_at book i
block_cut book i = let e : 512 * i + 512 - 512 * i ≡ 512 = omega arith in ap (λ (k : ℕ). take k (drop (512 * i) book)) e

pub block_long : (book : List ℕ) (i : ℕ) → 512 * i + 512 ≤ length book → length (take (512 * i + 512 - 512 * i) (drop (512 * i) book)) ≡ 512
block_long book i more = ap length (block_cut book i) ∙ length-take-le 512 (drop (512 * i) book) (let l : length (drop (512 * i) book) ≡ length book - 512 * i = length-drop (512 * i) book in omega (arith, l, more))

pub look_as : {i : ℕ} {y x : List ℕ} {t : List TableEntry} {r : Turn} → y ≡ x → LookIs i y t r → LookIs i x t r
look_as {i} {y} {x} {t} {r} e h = subst (λ (z : List ℕ). LookIs i z t r) e h

pub told : {i : ℕ} {y : List ℕ} {n : ℕ} → BlockIs i y n → n ≡ 0 → (c : Note) × SaysAlone i y c
told (BlockIs.fine c k) z = (c, k)
told (BlockIs.check h) z = absurd (omega (arith, z))
told (BlockIs.field g h) z = absurd (omega (arith, z))

pub said_alone : (i : ℕ) (t : List TableEntry) (y : List ℕ) (c : Note) → Says i t y c → SaysAlone i y c
said_alone i t y c s = record { number = s.number; fit = s.fit; bytes = s.bytes }

pub one_told : (i : ℕ) (y : List ℕ) (c d : Note) → SaysAlone i y c → SaysAlone i y d → c ≡ d
one_told i y c d k l = one_note i c d k.fit l.fit (sym k.bytes ∙ l.bytes)

module _ (i : ℕ) (t : List TableEntry) (y : List ℕ) (long : length y ≡ 512) where
  pub fault_bad : {n : ℕ} → BlockIs i y n → (n ≡ 0 → ⊥) → (rest : List ℕ) → BadFrom i t (y ++ rest) n
  fault_bad (BlockIs.fine c k) z rest = absurd (z refl)
  fault_bad (BlockIs.check h) z rest = BadFrom.check y rest refl long h
  fault_bad (BlockIs.field g h) z rest = BadFrom.field y rest refl long g (λ c s. h c (said_alone i t y c s))

  -- a fault
  pub seen_fault : (n used : ℕ) → BlockIs i y n → (n ≡ 0 → ⊥) → LookIs i y t (record { fault = n; kind = 0; index = used })
  seen_fault n used b z = record { right = λ e. absurd (z e); wrong = λ _ rest. fault_bad b z rest }

  pub kind_of : (c : Note) → SaysAlone i y c → get_or y 4 0 ≡ kind c
  kind_of c k = ap (λ (z : List ℕ). get_or z 4 0) k.bytes ∙ block_kind i c k.fit

  pub head_of_lem : (c : Note) → SaysAlone i y c → take 256 (drop 5 y) ≡ head_of (about c)
  head_of_lem c k =
      sym (take-take 256 312 (drop 5 y) (omega arith)) ∙ ap (λ (z : List ℕ). take 256 (take 312 (drop 5 z))) k.bytes ∙ ap (take 256) (block_slot i c k.fit) ∙ note_head c k.fit

  module _ (n : ℕ) (b : BlockIs i y n) (fine : n ≡ 0) (r : ℕ) (index : (m : List ℕ) → take 256 (drop 5 y) ≡ head_of m → r ≡ position m t) where
    right_by : (c : Note) → SaysAlone i y c → Follows c t → LookIs i y t (record { fault = 0; kind = get_or y 4 0; index = r })
    right_by c k f =
        record {
          right = λ _. (c, record { number = k.number; fit = k.fit; bytes = k.bytes; follows = f }, kind_of c k, index (about c) (head_of_lem c k));
          wrong = λ z rest. absurd (z refl);
        }

    -- kind 1
    pub seen_stands : (get_or y 4 0 ≡ 0 → ⊥) → LookIs i y t (record { fault = 0; kind = get_or y 4 0; index = r })
    seen_stands some_kind = go (told b fine).0 (told b fine).1
      where
        go : (c : Note) → SaysAlone i y c → LookIs i y t (record { fault = 0; kind = get_or y 4 0; index = r })
        go (Note.gone m) k = absurd (some_kind (kind_of (Note.gone m) k))
        go (Note.stands e) k = right_by (Note.stands e) k tt

    module _ (book : List ℕ) (numbers : List ℕ) (used : ℕ) (low : used ≤ length numbers) (kept : Kept book i numbers used t) (zero_kind : get_or y 4 0 ≡ 0) where
      -- kind 0 of a name that does not stand
      pub seen_missing : r ≡ used → LookIs i y t (record { fault = 43; kind = 0; index = used })
      seen_missing last = record { right = λ e. absurd (omega (arith, e)); wrong = λ _ rest. BadFrom.field y rest refl long good nothing }
        where
          known : (c : Note) × SaysAlone i y c
          known = told b fine

          good : IsSealed y
          good = subst IsSealed (sym known.1.bytes) (block_sealed i known.0 known.1.fit)

          nothing : (c : Note) → Says i t y c → ⊥
          nothing (Note.stands e) s = suc-ne-zero 0 (sym (kind_of (Note.stands e) (said_alone i t y (Note.stands e) s)) ∙ zero_kind)
          nothing (Note.gone m) s =
              none-ne-some s.follows.0
              (sym (not_found book i numbers used t kept low m r (index m (head_of_lem (Note.gone m) (said_alone i t y (Note.gone m) s))) (omega (arith, last))) ∙ s.follows.1)

      -- and of one that does
      pub seen_gone : (r ≡ used → ⊥) → LookIs i y t (record { fault = 0; kind = get_or y 4 0; index = r })
      seen_gone other = go (told b fine).0 (told b fine).1
        where
          many : used ≡ length t
          many = kept_length book i numbers used t low kept

          there : (m : List ℕ) → r ≡ position m t → Standing m t → (e : TableEntry) × (find m t ≡ some e)
          there m own (Standing.nowhere p f) = absurd (other (own ∙ p ∙ sym many))
          there m own (Standing.at p e q cut here found change gone) = (e, found)

          go : (c : Note) → SaysAlone i y c → LookIs i y t (record { fault = 0; kind = get_or y 4 0; index = r })
          go (Note.gone m) k = right_by (Note.gone m) k (there m (index m (head_of_lem (Note.gone m) k)) (standing m t))
          go (Note.stands e) k = absurd (suc-ne-zero 0 (sym (kind_of (Note.stands e) k) ∙ zero_kind))
