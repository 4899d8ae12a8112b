-- The parts of a block, tested one by one. Assumes nothing.
use Prim.Native.Nat.{ℕ, suc, ◌+◌, ◌-◌, ◌≤◌, ◌<◌}
use mathlib.Core.Bool.{true, false, true≢false}
use mathlib.Core.Path.{◌≡◌, refl, sym, ap, ap₂, subst, ◌∙◌}
use mathlib.Core.List.{List, [], ◌∷◌, ◌++◌, append_assoc}
use native.Mathlib.Nat.{suc-ne-zero}
use native.Mathlib.Omega.{arith}
use lib.ListN.{length, take, drop, get_or, replicate, length-replicate, length-drop, take-append-drop, replicate-append-replicate}
use lib.Seq.{drop_at, take_all, take-take, take-add, drop-drop, drop-cons, length-take-le}
use Rattle.base.specs.Bytes.{big_endian, eq_bytes, padded}
use Rattle.base.proofs.Lists.{drop_take}
use Rattle.base.proofs.Tests.{eq_bytes_true, eq_eq_bytes}
use Rattle.block.specs.Sealed.{sealed, IsSealed}
use Rattle.name.specs.Name.{Proper, canonical}
use Rattle.name.proofs.WireLaws.{proper_short}
use Rattle.slots.specs.Fields.{bare}
use Rattle.slots.specs.Form.{slot_bytes, flags, IsSlot}
use Rattle.slots.proofs.LaidLaws.{slot_laid, cut_name}
use Rattle.book.specs.Notes.{Note}
use Rattle.book.specs.Blocks.{kind, slot, body, block_bytes, Fit}
use Rattle.book.proofs.BlockLaws.{length_held, block_body, body_number}
use Rattle.book.proofs.DecideLaws.{block_rest, block_kind, block_slot, bare_name}
use Rattle.book_block.specs.Promise.{IsBare, SaysAlone, BlockIs}

-- ---- the slot of a name with nothing under it

no_flags : (n : List ℕ) → flags (bare n) ≡ 0
unfolding flags
no_flags n = refl

zeros_56 : ◌≡◌ {A = List ℕ} (0 ∷ replicate 4 0 ++ replicate 16 0 ++ replicate 35 0) (replicate 56 0)
zeros_56 = refl

pub bare_form : (n : List ℕ) → length n ≤ 255 → slot_bytes (bare n) ≡ length n ∷ (n ++ replicate (311 - length n) 0)
unfolding padded
bare_form n short =
    let size : 255 - length n + 56 ≡ 311 - length n = omega (arith, short) in
    slot_laid (bare n)
    ∙ cut_name (length n) (padded n) (flags (bare n)) (replicate 4 0) (replicate 16 0) (replicate 35 0)
    ∙ ap (λ (v : ℕ). (length n ∷ []) ++ padded n ++ (v ∷ replicate 4 0 ++ replicate 16 0 ++ replicate 35 0)) (no_flags n)
    ∙ ap (λ (z : List ℕ). (length n ∷ []) ++ padded n ++ z) zeros_56
    ∙ ap (◌∷◌ (length n)) (append_assoc n (replicate (255 - length n) 0) (replicate 56 0) ∙ ap (λ (z : List ℕ). n ++ z) (replicate-append-replicate (255 - length n) 56 0 ∙ ap (λ (k : ℕ). replicate k 0) size))

own_zeros : (x : List ℕ) (m : ℕ) → x ≡ replicate m 0 → x ≡ replicate (length x) 0
own_zeros x m e = e ∙ ap (λ (k : ℕ). replicate k 0) (sym (ap length e ∙ length-replicate {A = ℕ} m 0))

-- the parts, as the code cuts them
abbrev name_in : List ℕ → List ℕ
name_in s = take (1 + get_or s 0 0 - 1) (drop 1 s)

abbrev rest_in : List ℕ → List ℕ
rest_in s = take (length s - (1 + get_or s 0 0)) (drop (1 + get_or s 0 0) s)

name_in_lem : (s : List ℕ) → name_in s ≡ take (get_or s 0 0) (drop 1 s)
name_in_lem s = let e : 1 + get_or s 0 0 - 1 ≡ get_or s 0 0 = omega arith in ap (λ (k : ℕ). take k (drop 1 s)) e

rest_in_lem : (s : List ℕ) → rest_in s ≡ drop (1 + get_or s 0 0) s
rest_in_lem s = take_all (length s - (1 + get_or s 0 0)) (drop (1 + get_or s 0 0) s) (simp length-drop (omega arith))

module _ (s : List ℕ) (size : length s ≡ 312) (small : get_or s 0 0 < 256) where
  pub bare_held : IsBare s → Proper (name_in s) × (canonical (name_in s) ≡ name_in s)
  unfolding IsBare
  bare_held h =
      let same : h.0 ≡ name_in s = sym (name_in_lem s ∙ ap (λ (z : List ℕ). take (get_or z 0 0) (drop 1 z)) h.2 ∙ bare_name h.0 h.1) in
      subst (λ (n : List ℕ). Proper n × (canonical n ≡ n)) same (h.1.proper, h.1.lower)

  pub bare_zeros : IsBare s → rest_in s ≡ replicate (length (rest_in s)) 0
  unfolding IsBare
  bare_zeros h =
      let n = h.0 in
      let form : s ≡ length n ∷ (n ++ replicate (311 - length n) 0) = h.2 ∙ bare_form n (proper_short n h.1.proper) in
      let rest : drop (1 + get_or s 0 0) s ≡ replicate (311 - length n) 0 =
      ap (λ (z : List ℕ). drop (1 + get_or z 0 0) z) form ∙ tail_of (length n) (n ++ replicate (311 - length n) 0) ∙ drop_at n (replicate (311 - length n) 0) (length n) refl in
      own_zeros (rest_in s) (311 - length n) (rest_in_lem s ∙ rest)
    where
      tail_of : (k : ℕ) (l : List ℕ) → drop (1 + k) (k ∷ l) ≡ drop k l
      tail_of k l = sym (drop-drop k 1 (k ∷ l))

  pub is_bare : Proper (name_in s) × (canonical (name_in s) ≡ name_in s) → rest_in s ≡ replicate (length (rest_in s)) 0 → IsBare s
  unfolding IsBare
  is_bare held zeros =
      let k = get_or s 0 0 in
      let n = name_in s in
      let long : length (drop 1 s) ≡ 311 = length-drop 1 s ∙ omega (arith, size) in
      let name_long : length n ≡ k = ap length (name_in_lem s) ∙ length-take-le k (drop 1 s) (omega (arith, long, small)) in
      let rest_long : length (rest_in s) ≡ 311 - length n = ap length (rest_in_lem s) ∙ length-drop (1 + k) s ∙ omega (arith, size, name_long) in
      let tail : drop 1 s ≡ n ++ replicate (311 - length n) 0 =
      sym (take-append-drop k (drop 1 s)) ∙ ap₂ ◌++◌ (sym (name_in_lem s)) (drop-drop k 1 s ∙ sym (rest_in_lem s) ∙ zeros ∙ ap (λ (j : ℕ). replicate j 0) rest_long) in
      let form : s ≡ length n ∷ (n ++ replicate (311 - length n) 0) = drop-cons s 0 0 (omega (arith, size)) ∙ ap₂ ◌∷◌ (sym name_long) tail in
      (n, record { proper = held.0; lower = held.1 }, form ∙ sym (bare_form n (proper_short n held.0)))

-- ---- the parts of a block

pub block_number : (i : ℕ) (c : Note) → Fit c → take 4 (block_bytes i c) ≡ big_endian 4 i
block_number i c f = sym (take-take 4 480 (block_bytes i c) (omega arith)) ∙ ap (take 4) (block_body i c f) ∙ body_number i c

pub block_zeros : (i : ℕ) (c : Note) → Fit c → take 163 (drop 317 (block_bytes i c)) ≡ replicate 163 0
block_zeros i c f =
    ap (take 163) (sym (drop-drop 313 4 (block_bytes i c))) ∙ sym (drop_take 313 476 (drop 4 (block_bytes i c))) ∙ ap (drop 313) (block_rest i c f)
    ∙ drop_at (kind c ∷ slot c) (replicate 163 0) 313 (ap suc (length_held c f))

-- and put together
pub block_of_lem : (i : ℕ) (c : Note) (x : List ℕ) → length x ≡ 512 → IsSealed x → take 4 x ≡ big_endian 4 i → get_or x 4 0 ≡ kind c → take 312 (drop 5 x) ≡ slot c
    → take 163 (drop 317 x) ≡ replicate 163 0 → x ≡ block_bytes i c
unfolding IsSealed block_bytes body
block_of_lem i c x long sealed_so number k held zeros =
    let last : take 475 (drop 5 x) ≡ slot c ++ replicate 163 0 = take-add 312 163 (drop 5 x) ∙ ap₂ ◌++◌ held (ap (take 163) (drop-drop 312 5 x) ∙ zeros) in
    let rest : take 476 (drop 4 x) ≡ kind c ∷ slot c ++ replicate 163 0 = ap (take 476) (drop-cons x 4 0 (omega (arith, long))) ∙ ap₂ ◌∷◌ k last in
    sealed_so ∙ ap sealed (take-add 4 476 x ∙ ap₂ ◌++◌ number rest)

-- ---- the answers

module _ (i : ℕ) (x : List ℕ) where
  told_number : (c : Note) → SaysAlone i x c → take 4 x ≡ big_endian 4 i
  told_number c k = ap (take 4) k.bytes ∙ block_number i c k.fit

  told_kind : (c : Note) → SaysAlone i x c → get_or x 4 0 ≡ kind c
  told_kind c k = ap (λ (z : List ℕ). get_or z 4 0) k.bytes ∙ block_kind i c k.fit

  told_slot : (c : Note) → SaysAlone i x c → take 312 (drop 5 x) ≡ slot c
  told_slot c k = ap (λ (z : List ℕ). take 312 (drop 5 z)) k.bytes ∙ block_slot i c k.fit

  told_zeros : (c : Note) → SaysAlone i x c → take 163 (drop 317 x) ≡ replicate 163 0
  told_zeros c k = ap (λ (z : List ℕ). take 163 (drop 317 z)) k.bytes ∙ block_zeros i c k.fit

  module _ (good : IsSealed x) where
    pub wrong_high : 4294967295 < i → BlockIs i x 43
    wrong_high high = BlockIs.field good (λ c k. let small = k.number in omega (arith, small, high))

    pub wrong_number : (d : List ℕ) → d ≡ big_endian 4 i → eq_bytes (take 4 x) d ≡ false → BlockIs i x 43
    wrong_number d own e = BlockIs.field good (λ c k. true≢false (sym (eq_eq_bytes (take 4 x) d (told_number c k ∙ sym own)) ∙ e))

    pub wrong_zeros : (take 163 (drop 317 x) ≡ replicate (length (take 163 (drop 317 x))) 0 → ⊥) → BlockIs i x 43
    wrong_zeros h = BlockIs.field good (λ c k. h (own_zeros (take 163 (drop 317 x)) 163 (told_zeros c k)))

    pub wrong_gone : get_or x 4 0 ≡ 0 → (IsBare (take 312 (drop 5 x)) → ⊥) → BlockIs i x 43
    unfolding IsBare
    wrong_gone z h = BlockIs.field good go
      where
        go : (c : Note) → SaysAlone i x c → ⊥
        go (Note.gone n) k = h (n, k.fit, told_slot (Note.gone n) k)
        go (Note.stands e) k = suc-ne-zero 0 (sym (told_kind (Note.stands e) k) ∙ z)

    pub wrong_stands : get_or x 4 0 ≡ 1 → (IsSlot (take 312 (drop 5 x)) → ⊥) → BlockIs i x 43
    unfolding IsSlot
    wrong_stands z h = BlockIs.field good go
      where
        go : (c : Note) → SaysAlone i x c → ⊥
        go (Note.gone n) k = suc-ne-zero 0 (sym z ∙ told_kind (Note.gone n) k)
        go (Note.stands e) k = h (e, k.fit, told_slot (Note.stands e) k)

    pub wrong_kind : (get_or x 4 0 ≡ 0 → ⊥) → (get_or x 4 0 ≡ 1 → ⊥) → BlockIs i x 43
    wrong_kind a b = BlockIs.field good go
      where
        go : (c : Note) → SaysAlone i x c → ⊥
        go (Note.gone n) k = a (told_kind (Note.gone n) k)
        go (Note.stands e) k = b (told_kind (Note.stands e) k)

    module _ (long : length x ≡ 512) (low : i ≤ 4294967295) (d : List ℕ) (own : d ≡ big_endian 4 i) (number : eq_bytes (take 4 x) d ≡ true)
        (zeros : take 163 (drop 317 x) ≡ replicate (length (take 163 (drop 317 x))) 0) where
      all_zeros : take 163 (drop 317 x) ≡ replicate 163 0
      all_zeros = zeros ∙ ap (λ (k : ℕ). replicate k 0) (length-take-le 163 (drop 317 x) (let l : length (drop 317 x) ≡ 195 = length-drop 317 x ∙ omega (arith, long) in omega (arith, l)))

      fine_by : (c : Note) → Fit c → get_or x 4 0 ≡ kind c → take 312 (drop 5 x) ≡ slot c → BlockIs i x 0
      fine_by c f z held =
          BlockIs.fine c (record { number = omega (arith, low); fit = f; bytes = block_of_lem i c x long good (eq_bytes_true (take 4 x) d number ∙ own) z held all_zeros })

      pub fine_gone : get_or x 4 0 ≡ 0 → IsBare (take 312 (drop 5 x)) → BlockIs i x 0
      unfolding IsBare
      fine_gone z h = fine_by (Note.gone h.0) h.1 z h.2

      pub fine_stands : get_or x 4 0 ≡ 1 → IsSlot (take 312 (drop 5 x)) → BlockIs i x 0
      unfolding IsSlot
      fine_stands z h = fine_by (Note.stands h.0) h.1 z h.2
