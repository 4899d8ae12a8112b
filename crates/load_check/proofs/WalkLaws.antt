-- The search for a record like another, entry by entry from the beginning of the listing. Assumes nothing.
use Prim.Native.Nat.{ℕ, ◌≤◌, ◌<◌}
use mathlib.Core.Bool.{Bool, true, false, true≢false}
use mathlib.Core.Path.{◌≡◌, refl, sym, ap, subst, ◌∙◌}
use mathlib.Core.List.{List, [], ◌∷◌, ◌++◌, append-nil}
use native.Mathlib.Omega.{arith}
use lib.ListN.{length}
use lib.Seq.{append_snoc}
use Rattle.base.specs.Logic.{Every}
use Rattle.grammar.specs.Listing.{outside, Words, ResourceRecord, RecordEntry}
use Rattle.entry.specs.EntryAt.{entry_at}
use Rattle.entry.specs.EntryText.{EntryText}
use Rattle.entry.specs.Held.{held, empty_record}
use Rattle.entry.specs.declared.Entry.{Entry}
use Rattle.load_check.specs.Loading.{Entered, EntriesUpTo}
use Rattle.load_check.specs.Walking.{Walked, there, passed, met, is_like, Like, FirstLike}
use Rattle.load_check.proofs.LikeLaws.{none_like, like_held, not_like_held}

every_more : {P : Entered → Type 0} (a : List Entered) (x : Entered) → Every P a → P x → Every P (a ++ x ∷ [])
every_more [] x Every.none p = Every.more p Every.none
every_more (y ∷ a) x (Every.more q h) p = Every.more q (every_more a x h p)

-- of the records es those before the offset at are not such ones
pub record Sought (t : List ℕ) (to : ℕ) (n : List ℕ) (k : ℕ) (es : List Entered) (at : ℕ) : Type 0 where
  pub past : List Entered
  pub left : List Entered
  pub all : es ≡ past ++ left
  pub walked : Walked t to at left
  pub other : Every (λ y. Like n k y → ⊥) past

module _ (t : List ℕ) (to : ℕ) (n : List ℕ) (k : ℕ) (es : List Entered) where
  pub sought_none : Walked t to 0 es → Sought t to n k es 0
  sought_none w = record { past = []; left = es; all = refl; walked = w; other = Every.none }

  module _ (at : ℕ) (s : Sought t to n k es at) (e : Entry) (is : e ≡ entry_at t at) where
    as_read : (b : Bool) → is_like e.«record» n k ≡ b → is_like (entry_at t at).«record» n k ≡ b
    as_read b h = sym (ap (λ (x : Entry). is_like x.«record» n k) is) ∙ h

    pub sought_found : 1 ≤ length n → at < to → is_like e.«record» n k ≡ true → FirstLike n k to es at
    sought_found some before h = go s.left s.all s.walked
      where
        go : (left : List Entered) → es ≡ s.past ++ left → Walked t to at left → FirstLike n k to es at
        go left all (there e) = absurd (omega arith)
        go left all (passed lt empty x stands words w) = absurd (true≢false (sym (as_read true h) ∙ none_like (entry_at t at).«record» n k empty some))
        go left all (met {es = rest} r lt held x stands spells w) =
            FirstLike.found s.past rest (record { offset = at; «record» = r }) all s.other (like_held (entry_at t at).«record» n k at r held (as_read true h)) lt

    pub sought_more : at < to → is_like e.«record» n k ≡ false → Sought t to n k es e.next
    sought_more before h = subst (λ (x : Entry). Sought t to n k es x.next) (sym is) (go s.left s.all s.walked)
      where
        go : (left : List Entered) → es ≡ s.past ++ left → Walked t to at left → Sought t to n k es (entry_at t at).next
        go left all (there e) = absurd (omega arith)
        go left all (passed lt empty x stands words w) = record { past = s.past; left = left; all = all; walked = w; other = s.other }
        go left all (met {es = rest} r lt held x stands spells w) =
            let y : Entered = record { offset = at; «record» = r } in
            record {
              past = s.past ++ y ∷ [];
              left = rest;
              all = all ∙ sym (append_snoc s.past y rest);
              walked = w;
              other = every_more s.past y s.other (not_like_held (entry_at t at).«record» n k at r held (as_read false h));
            }

  pub sought_all : (at : ℕ) → Sought t to n k es at → to ≤ at → FirstLike n k to es to
  sought_all at s done = go s.left s.all s.walked
    where
      go : (left : List Entered) → es ≡ s.past ++ left → Walked t to at left → FirstLike n k to es to
      go left all (there e) = FirstLike.none (subst (Every (λ y. Like n k y → ⊥)) (sym (all ∙ append-nil s.past)) s.other)
      go left all (passed lt empty x stands words w) = absurd (omega arith)
      go left all (met r lt held x stands spells w) = absurd (omega arith)

-- ---- as definitions have it

pub walked_entries : {t : List ℕ} {to at : ℕ} {es : List Entered} → Walked t to at es → EntriesUpTo t to at es
walked_entries {t} {to} (there e) = subst (λ (i : ℕ). EntriesUpTo t to i []) (sym e) EntriesUpTo.none
walked_entries (passed lt empty e stands words w) = EntriesUpTo.no_record e stands words (walked_entries w)
walked_entries (met r lt held e stands spells w) = EntriesUpTo.a_record e r stands spells (walked_entries w)

-- ---- one entry more, at the end

module _ (t : List ℕ) (to : ℕ) (on : to < (entry_at t to).next) where
  abbrev beyond : ℕ
  beyond = (entry_at t to).next

  pub walked_past : {at : ℕ} {es : List Entered} → (entry_at t to).«record» ≡ empty_record → (e : List ℕ) → EntryText t to e beyond → Words outside e [] → Walked t to at es
      → Walked t beyond at es
  walked_past none e stands words (there same) = subst (λ (i : ℕ). Walked t beyond i []) (sym same) (passed {at = to} on none e stands words (there refl))
  walked_past {at} none e stands words (passed lt empty x y z w) = passed {at = at} (omega arith) empty x y z (walked_past none e stands words w)
  walked_past {at} none e stands words (met r lt h x y z w) = met {at = at} r (omega arith) h x y z (walked_past none e stands words w)

  pub walked_with : {at : ℕ} {es : List Entered} (r : ResourceRecord) → (entry_at t to).«record» ≡ held r → (e : List ℕ) → EntryText t to e beyond → RecordEntry e r → Walked t to at es
      → Walked t beyond at (es ++ record { offset = to; «record» = r } ∷ [])
  walked_with r holds e stands spells (there same) =
      subst (λ (i : ℕ). Walked t beyond i (record { offset = to; «record» = r } ∷ [])) (sym same) (met {at = to} r on holds e stands spells (there refl))
  walked_with {at} r holds e stands spells (passed lt empty x y z w) = passed {at = at} (omega arith) empty x y z (walked_with r holds e stands spells w)
  walked_with {at} r holds e stands spells (met q lt h x y z w) = met {at = at} q (omega arith) h x y z (walked_with r holds e stands spells w)
