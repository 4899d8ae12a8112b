-- A name by the first 256 bytes of its slot, sought among those that are kept. Assumes nothing.
use Prim.Native.Nat.{ℕ, zero, suc, ◌+◌, ◌*◌, ◌-◌, ◌≤◌, ◌<◌}
use mathlib.Core.Bool.{true, false, true≢false}
use mathlib.Core.Path.{◌≡◌, refl, sym, ap, subst, ◌∙◌}
use mathlib.Core.List.{List, [], ◌∷◌, ◌++◌, append_assoc, head-eq_of_cons-eq, tail-eq_of_cons-eq}
use native.Mathlib.Omega.{arith}
use lib.ListN.{length, take, drop, get_or, drop_of_length-le}
use lib.Seq.{take_at, take-take, get_or-take, length-take-le}
use Rattle.base.specs.Bytes.{eq_bytes}
use Rattle.base.specs.Logic.{Pairwise}
use Rattle.base.proofs.Tests.{eq_bytes_true, eq_eq_bytes}
use Rattle.base.specs.Bytes.{padded}
use Rattle.name.proofs.WireLaws.{proper_short}
use Rattle.slots.specs.Entry.{position}
use Rattle.slots.specs.Fields.{bare}
use Rattle.slots.specs.Form.{TableEntry, slot_bytes, flags, field}
use Rattle.slots.proofs.LaidLaws.{laid, cut_flags, slot_laid, length_padded}
use Rattle.slots.proofs.NameLaws.{entry_at, Searched, searched_end, searched_here, searched_more}
use Rattle.book.specs.Notes.{Note}
use Rattle.book.specs.LastNote.{about}
use Rattle.book.specs.Blocks.{slot, Fit}
use Rattle.book.proofs.BlockLaws.{one_padded}
use Rattle.book_replay.specs.Judging.{Stood, Kept, head_of}
use Rattle.book_replay.proofs.KeptLaws.{kept_length}

laid_head : (l : ℕ) (p : List ℕ) (v : ℕ) (a b d : List ℕ) → length p ≡ 255 → take 256 (laid l p v a b d) ≡ l ∷ p
laid_head l p v a b d size = ap (take 256) (cut_flags l p v a b d ∙ append_assoc (l ∷ p) (v ∷ []) (a ++ b ++ d)) ∙ take_at (l ∷ p) ((v ∷ []) ++ (a ++ b ++ d)) 256 (ap suc size)

-- the head of a slot is that of its name
pub slot_head : (e : TableEntry) → length e.name ≤ 255 → take 256 (slot_bytes e) ≡ head_of e.name
unfolding head_of
slot_head e short = ap (take 256) (slot_laid e) ∙ laid_head (length e.name) (padded e.name) (flags e) (field 4 e.a) (field 16 e.aaaa) (field 35 e.holder) (length_padded e.name short)

pub note_head : (c : Note) → Fit c → take 256 (slot c) ≡ head_of (about c)
note_head (Note.gone n) h = slot_head (bare n) (proper_short n h.proper)
note_head (Note.stands e) w = slot_head e (proper_short e.name w.proper)

-- heads determine names
pub one_head : (n m : List ℕ) → head_of n ≡ head_of m → n ≡ m
unfolding head_of
one_head n m e = one_padded n m (head-eq_of_cons-eq e) (tail-eq_of_cons-eq e)

stood_head : (book : List ℕ) (i p : ℕ) (e : TableEntry) → Stood book i p e → take 256 (drop (512 * p + 5) book) ≡ head_of e.name
stood_head book i p e s = sym (take-take 256 312 (drop (512 * p + 5) book) (omega arith)) ∙ ap (take 256) s.slot ∙ slot_head e (proper_short e.name s.fit.proper)

-- ---- the entry at an index

pub record StoodAt (book : List ℕ) (i p : ℕ) (t : List TableEntry) (j : ℕ) : Type 0 where
  pub entry : TableEntry
  pub later : List TableEntry
  pub cut : drop j t ≡ entry ∷ later
  pub stood : Stood book i p entry

pairwise_at : (book : List ℕ) (i : ℕ) (l : List ℕ) (t : List TableEntry) (j : ℕ) → Pairwise (Stood book i) l t → j < length l → StoodAt book i (get_or l j 0) t j
pairwise_at book i [] [] j Pairwise.none less = absurd (omega (arith, less))
pairwise_at book i (p ∷ l) (e ∷ t) zero (Pairwise.more h hs) less = record { entry = e; later = t; cut = refl; stood = h }
pairwise_at book i (p ∷ l) (e ∷ t) (suc j) (Pairwise.more h hs) less =
    let k = pairwise_at book i l t j hs (omega (arith, less)) in record { entry = k.entry; later = k.later; cut = k.cut; stood = k.stood }
pairwise_at book i [] (e ∷ t) j x4 less = elim x4 [ ]
pairwise_at book i (p ∷ l) [] j x4 less = elim x4 [ ]

module _ (book : List ℕ) (i : ℕ) (numbers : List ℕ) (used : ℕ) (t : List TableEntry) (low : used ≤ length numbers) (k : Kept book i numbers used t) where
  pub kept_at : (j : ℕ) → j < used → StoodAt book i (get_or numbers j 0) t j
  unfolding Kept
  kept_at j more =
      subst (λ (p : ℕ). StoodAt book i p t j) (get_or-take used numbers j 0 more)
      (pairwise_at book i (take used numbers) t j k (let size : length (take used numbers) ≡ used = length-take-le used numbers low in omega (arith, size, more)))

  -- the block whose number is kept stands in the book
  pub kept_within : (j : ℕ) → j < used → 512 * i ≤ length book → 512 * get_or numbers j 0 + 512 ≤ length book
  kept_within j more long = let s = (kept_at j more).stood.earlier in omega (arith, s, long)

  module _ (n head : List ℕ) (own : head ≡ head_of n) (j : ℕ) (s : Searched n t j) (more : j < used) where
    pub found_here : eq_bytes (take 256 (drop (512 * get_or numbers j 0 + 5) book)) head ≡ true → j ≡ position n t
    found_here e =
        let a = kept_at j more in
        searched_here n t j s a.entry a.later (entry_at t j a.entry a.later a.cut)
        (one_head a.entry.name n (sym (stood_head book i (get_or numbers j 0) a.entry a.stood) ∙ eq_bytes_true (take 256 (drop (512 * get_or numbers j 0 + 5) book)) head e ∙ own))

    pub found_later : eq_bytes (take 256 (drop (512 * get_or numbers j 0 + 5) book)) head ≡ false → Searched n t (j + 1)
    found_later e =
        let a = kept_at j more in
        searched_more n t j s a.entry a.later (entry_at t j a.entry a.later a.cut)
        (λ same. true≢false (sym (eq_eq_bytes (take 256 (drop (512 * get_or numbers j 0 + 5) book)) head (stood_head book i (get_or numbers j 0) a.entry a.stood ∙ ap head_of same ∙ sym own)) ∙ e))

  pub found_nowhere : (n : List ℕ) (j : ℕ) → Searched n t j → used ≤ j → j ≡ position n t
  found_nowhere n j s last = searched_end n t j s (drop_of_length-le t {i = j} (omega (arith, kept_length book i numbers used t low k, last)))

-- a part as the code cuts it
pub part_whole : (at : ℕ) (b h : List ℕ) → eq_bytes (take (at + 256 - at) (drop at b)) h ≡ eq_bytes (take 256 (drop at b)) h
part_whole at b h = let e : at + 256 - at ≡ 256 = omega arith in ap (λ (k : ℕ). eq_bytes (take k (drop at b)) h) e
