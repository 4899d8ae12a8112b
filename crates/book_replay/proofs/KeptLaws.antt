-- The numbers that are kept, and one note more. Assumes nothing.
use Prim.Native.Nat.{ℕ, suc, ◌+◌, ◌*◌, ◌-◌, ◌≤◌, ◌<◌}
use mathlib.Core.Path.{◌≡◌, refl, sym, ap, ap₂, subst, ◌∙◌}
use mathlib.Core.List.{List, [], ◌∷◌, ◌++◌}
use mathlib.Core.Option.{none, some, none-ne-some}
use native.Mathlib.Numerals.{add-one}
use native.Mathlib.Omega.{arith}
use lib.ListN.{length, take, drop, set, length-append}
use lib.Seq.{take_at, take-take, take-set-lt, take-suc-set, set-append_seam, drop-drop, length-take-le, drop-append-add}
use Rattle.base.specs.Logic.{Pairwise}
use Rattle.base.proofs.Lists.{pairwise_on, pairwise_append, pairwise_by, drop_take}
use Rattle.slots.specs.Entry.{position}
use Rattle.slots.specs.Form.{TableEntry}
use Rattle.table.specs.Steps.{find}
use Rattle.table.proofs.FoundLaws.{Standing, standing}
use Rattle.book.specs.Notes.{Note, noted}
use Rattle.book.specs.Blocks.{slot, Says}
use Rattle.book.proofs.NoteLaws.{noted_new, noted_held, noted_gone}
use Rattle.book.proofs.DecideLaws.{block_slot}
use Rattle.book_replay.specs.Judging.{Stood, Kept, block_at}

-- ---- lists side by side

module _ {A B : Type 0} {R : A → B → Type 0} where
  pub pairwise_length : {l : List A} {m : List B} → Pairwise R l m → length l ≡ length m
  pairwise_length Pairwise.none = refl
  pairwise_length (Pairwise.more h hs) = ap suc (pairwise_length hs)

-- the list l is cut where p ++ b ∷ m is
pub record Cut {A B : Type 0} (R : A → B → Type 0) (l : List A) (p : List B) (b : B) (m : List B) : Type 0 where
  pub before : List A
  pub here : A
  pub later : List A
  pub whole : l ≡ before ++ here ∷ later
  pub first : Pairwise R before p
  pub it : R here b
  pub last : Pairwise R later m

pub pairwise_cut : {A B : Type 0} {R : A → B → Type 0} (l : List A) (p : List B) (b : B) (m : List B) → Pairwise R l (p ++ b ∷ m) → Cut R l p b m
pairwise_cut [] p b m h = let e : 0 ≡ length (p ++ b ∷ m) = pairwise_length h in absurd (omega (arith, e, length-append p (b ∷ m)))
pairwise_cut (a ∷ l) [] b m (Pairwise.more h hs) = record { before = []; here = a; later = l; whole = refl; first = Pairwise.none; it = h; last = hs }
pairwise_cut (a ∷ l) (c ∷ p) b m (Pairwise.more h hs) =
    let k = pairwise_cut l p b m hs in
    record { before = a ∷ k.before; here = k.here; later = k.later; whole = ap (◌∷◌ a) k.whole; first = Pairwise.more h k.first; it = k.it; last = k.last }

-- ---- what is kept

module _ (book : List ℕ) (i : ℕ) where
  one_later : (p : ℕ) (e : TableEntry) → Stood book i p e → Stood book (i + 1) p e
  one_later p e s = record { earlier = omega (arith, s.earlier); slot = s.slot; fit = s.fit }

  -- how many
  pub kept_length : (numbers : List ℕ) (used : ℕ) (t : List TableEntry) → used ≤ length numbers → Kept book i numbers used t → used ≡ length t
  unfolding Kept
  kept_length numbers used t low k = sym (length-take-le used numbers low) ∙ pairwise_length k

  -- the block itself
  pub stood_here : (t : List TableEntry) (e : TableEntry) → Says i t (block_at book i) (Note.stands e) → Stood book (i + 1) i e
  stood_here t e s =
      let same : take 312 (drop 5 (take 512 (drop (512 * i) book))) ≡ take 312 (drop (512 * i + 5) book) =
      ap (take 312) (drop_take 5 512 (drop (512 * i) book)) ∙ take-take 312 507 (drop 5 (drop (512 * i) book)) (omega arith) ∙ ap (take 312) (drop-drop 5 (512 * i) book) in
      record { earlier = omega arith; slot = sym same ∙ ap (λ (x : List ℕ). take 312 (drop 5 x)) s.bytes ∙ block_slot i (Note.stands e) s.fit; fit = s.fit }

  module _ (numbers : List ℕ) (used : ℕ) (t : List TableEntry) (k : Kept book i numbers used t) (low : used ≤ length numbers) where
    -- a name gone
    pub kept_gone : (n : List ℕ) (at : ℕ) (left : List ℕ) → at ≡ position n t → at < used → take (used - 1) left ≡ take at numbers ++ drop (at + 1) (take used numbers)
        → Kept book (i + 1) left (used - 1) (noted (Note.gone n) t)
    unfolding Kept
    kept_gone n at left index more same = go (standing n t)
      where
        long : used ≡ length t
        long = kept_length numbers used t low k

        go : Standing n t → Pairwise (Stood book (i + 1)) (take (used - 1) left) (noted (Note.gone n) t)
        go (Standing.nowhere p f) = absurd (omega (arith, index, more, p, long))
        go (Standing.at p e r cut here found change gone) =
            let c = pairwise_cut (take used numbers) p e r (subst (Pairwise (Stood book i) (take used numbers)) cut k) in
            let size : length c.before ≡ at = pairwise_length c.first ∙ sym here ∙ sym index in
            let front : take at numbers ≡ c.before = sym (take-take at used numbers (omega (arith, more))) ∙ ap (take at) c.whole ∙ take_at c.before (c.here ∷ c.later) at size in
            let rest : drop (at + 1) (take used numbers) ≡ c.later =
            ap₂ (λ (j : ℕ) (l : List ℕ). drop (j + 1) l) (sym size) c.whole ∙ drop-append-add c.before (c.here ∷ c.later) 1 in
            subst (λ (l : List ℕ). Pairwise (Stood book (i + 1)) l (noted (Note.gone n) t)) (sym (same ∙ ap₂ ◌++◌ front rest))
            (subst (Pairwise (Stood book (i + 1)) (c.before ++ c.later)) (sym (noted_gone n t ∙ gone)) (pairwise_append (pairwise_by one_later c.first) (pairwise_by one_later c.last)))

    -- a name that stands, in another state
    pub kept_changed : (e : TableEntry) (at : ℕ) → at ≡ position e.name t → at < used → Stood book (i + 1) i e → Kept book (i + 1) (set numbers at i) used (noted (Note.stands e) t)
    unfolding Kept
    kept_changed e at index more new = go (standing e.name t)
      where
        long : used ≡ length t
        long = kept_length numbers used t low k

        go : Standing e.name t → Pairwise (Stood book (i + 1)) (take used (set numbers at i)) (noted (Note.stands e) t)
        go (Standing.nowhere p f) = absurd (omega (arith, index, more, p, long))
        go (Standing.at p d r cut here found change gone) =
            let c = pairwise_cut (take used numbers) p d r (subst (Pairwise (Stood book i) (take used numbers)) cut k) in
            let size : length c.before ≡ at = pairwise_length c.first ∙ sym here ∙ sym index in
            let stored : take used (set numbers at i) ≡ c.before ++ i ∷ c.later =
            take-set-lt used numbers at i more ∙ ap₂ (λ (j : ℕ) (l : List ℕ). set l j i) (sym size) c.whole ∙ set-append_seam c.before c.here c.later i in
            subst (λ (l : List ℕ). Pairwise (Stood book (i + 1)) l (noted (Note.stands e) t)) (sym stored)
            (subst (Pairwise (Stood book (i + 1)) (c.before ++ i ∷ c.later)) (sym (noted_held e d t found ∙ change (λ _. e)))
            (pairwise_append (pairwise_by one_later c.first) (Pairwise.more new (pairwise_by one_later c.last))))

    -- a name that is not among them
    pub not_found : (n : List ℕ) (at : ℕ) → at ≡ position n t → used ≤ at → find n t ≡ none
    not_found n at index least = go (standing n t)
      where
        long : used ≡ length t
        long = kept_length numbers used t low k

        go : Standing n t → find n t ≡ none
        go (Standing.nowhere p f) = f
        go (Standing.at p e r cut here found change gone) =
            let size : length t ≡ length p + suc (length r) = ap length cut ∙ length-append p (e ∷ r) in absurd (omega (arith, index, least, here, long, size))

    pub found_there : (n : List ℕ) (at : ℕ) (e : TableEntry) → at ≡ position n t → find n t ≡ some e → at < used
    found_there n at e index found = go (standing n t)
      where
        long : used ≡ length t
        long = kept_length numbers used t low k

        go : Standing n t → at < used
        go (Standing.nowhere p f) = absurd (none-ne-some e (sym f ∙ found))
        go (Standing.at p d r cut here f change gone) =
            let size : length t ≡ length p + suc (length r) = ap length cut ∙ length-append p (d ∷ r) in omega (arith, index, here, long, size)

    pub kept_last : (e : TableEntry) → find e.name t ≡ none → used < length numbers → Stood book (i + 1) i e → Kept book (i + 1) (set numbers used i) (used + 1) (noted (Note.stands e) t)
    unfolding Kept
    kept_last e absent room new =
        let stored : take (used + 1) (set numbers used i) ≡ take used numbers ++ i ∷ [] = ap (λ (j : ℕ). take j (set numbers used i)) (add-one used) ∙ take-suc-set numbers used i room in
        subst (λ (l : List ℕ). Pairwise (Stood book (i + 1)) l (noted (Note.stands e) t)) (sym stored)
        (subst (Pairwise (Stood book (i + 1)) (take used numbers ++ i ∷ [])) (sym (noted_new e t absent)) (pairwise_on (take used numbers) t i e (pairwise_by one_later k) new))
