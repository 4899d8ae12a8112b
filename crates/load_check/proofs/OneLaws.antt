-- The entries of a listing, and the first two records that are alike, are found in one way only. Assumes nothing.
use Prim.Native.Nat.{ℕ, ◌+◌, ◌-◌, ◌≤◌}
use mathlib.Core.Path.{◌≡◌, refl, sym, ap, ap₂, subst, ◌∙◌}
use mathlib.Core.Logic.{◌⊎◌, inl, inr}
use mathlib.Core.List.{List, [], ◌∷◌, ◌++◌, append-nil, append_assoc, cons≢nil, nil≢cons, head-eq_of_cons-eq, tail-eq_of_cons-eq}
use native.Mathlib.Omega.{arith}
use lib.ListN.{length, drop, length-drop}
use Rattle.grammar.specs.Listing.{is_word_byte, begins, outside, Words, RecordType, ResourceRecord, RecordEntry}
use Rattle.grammar.specs.Scan.{plain, Ending, at_end, at_line, at_fault, Laid, scan}
use Rattle.grammar.specs.Content.{Content, nothing, one, fault, content_of}
use Rattle.grammar.proofs.ScanLaws.{words_scan, line_scan, line_begins}
use Rattle.grammar.proofs.ContentLaws.{Judged, no_words, a_record, judged}
use Rattle.entry.specs.EntryText.{EntryText}
use Rattle.entry.specs.Held.{held}
use Rattle.records.specs.Gathered.{data_of, Single}
use Rattle.records.proofs.DataLaws.{of_is, data_same, length_data_append}
use Rattle.load_check.specs.Loading.{Entered, records, EntriesUpTo, FirstRepeat}
use Rattle.load_check.specs.declared.Repeat.{Repeat}
use Rattle.load_check.proofs.ReachedLaws.{records_append, records_more}

-- ---- one entry

-- where the entry after one begins that ends so
abbrev behind : List ℕ → Ending → ℕ
behind t at_end = length t
behind t (at_line u) = length t - length u
behind t at_fault = 0

-- what an entry comes to, and where the next one begins, by the text from its offset on
unfoldable content_at : List ℕ → ℕ → Content
content_at t at = content_of (begins is_word_byte (drop at t)) (scan plain outside (drop at t)).words

unfoldable next_at : List ℕ → ℕ → ℕ
next_at t at = behind t (scan plain outside (drop at t)).ending

module _ {t : List ℕ} {at : ℕ} {e : List ℕ} {ws : List (List ℕ)} {c : Content} (w : Words outside e ws) (j : Judged e c) where
  is_content : {next : ℕ} → EntryText t at e next → content_at t at ≡ c
  unfolding content_at
  is_content (EntryText.last here cut) =
      ap₂ content_of (ap (begins is_word_byte) cut) (ap (λ (l : List ℕ). (scan plain outside l).words) cut ∙ ap (λ (l : Laid). l.words) (words_scan w)) ∙ judged e c j ws w
  is_content {next} (EntryText.ended cut within) =
      ap₂ content_of (ap (begins is_word_byte) cut ∙ line_begins e (drop next t))
      (ap (λ (l : List ℕ). (scan plain outside l).words) cut ∙ ap (λ (l : Laid). l.words) (line_scan (drop next t) w)) ∙ judged e c j ws w

  is_next : {next : ℕ} → EntryText t at e next → next ≡ next_at t at
  unfolding next_at
  is_next (EntryText.last here cut) =
      sym (ap (λ (l : List ℕ). behind t (scan plain outside l).ending) cut ∙ ap (λ (l : Laid). behind t l.ending) (words_scan w))
  is_next {next} (EntryText.ended cut within) =
      let place : next ≡ length t - length (drop next t) = omega (arith, length-drop next t) in
      place ∙ sym (ap (λ (l : List ℕ). behind t (scan plain outside l).ending) cut ∙ ap (λ (l : Laid). behind t l.ending) (line_scan (drop next t) w))

-- ---- contents are told apart

record_or : ResourceRecord → Content → ResourceRecord
record_or d nothing = d
record_or d (one r) = r
record_or d (fault n) = d

has_record : Content → ℕ
has_record nothing = 0
has_record (one r) = 1
has_record (fault n) = 2

same_record : (r q : ResourceRecord) → one r ≡ one q → r ≡ q
unfolding record_or
same_record r q e = ap (record_or r) e

none≢one : (r : ResourceRecord) → nothing ≡ one r → ⊥
unfolding has_record
none≢one r e = let z : ◌≡◌ {A = ℕ} 0 1 = ap has_record e in omega arith

-- ---- entries from one offset on: the one list goes on with the other

Further : List Entered → List Entered → Type 0
Further es fs = (rest : List Entered) × (fs ≡ es ++ rest)

agree : {t : List ℕ} {to to' at at' : ℕ} {es fs : List Entered} → EntriesUpTo t to at es → EntriesUpTo t to' at' fs → at ≡ at' → Further es fs ⊎ Further fs es
unfolding Further
agree {fs = fs} EntriesUpTo.none f q = inl (fs, refl)
agree {es = es} (EntriesUpTo.no_record x s w e) EntriesUpTo.none q = inr (es, refl)
agree {es = es} (EntriesUpTo.a_record x r s z e) EntriesUpTo.none q = inr (es, refl)
agree {t} (EntriesUpTo.no_record x s w e) (EntriesUpTo.no_record x' s' w' f) q =
    agree e f (is_next w (no_words w) s ∙ ap (next_at t) q ∙ sym (is_next w' (no_words w') s'))
agree {t} (EntriesUpTo.no_record x s w e) (EntriesUpTo.a_record x' r s' z f) q =
    absurd (none≢one r (sym (is_content w (no_words w) s) ∙ ap (content_at t) q ∙ is_content z.words (a_record z) s'))
agree {t} (EntriesUpTo.a_record x r s z e) (EntriesUpTo.no_record x' s' w f) q =
    absurd (none≢one r (sym (is_content w (no_words w) s') ∙ ap (content_at t) (sym q) ∙ is_content z.words (a_record z) s))
agree {t} (EntriesUpTo.a_record x r s z e) (EntriesUpTo.a_record x' r' s' z' f) q =
    let same = same_record r r' (sym (is_content z.words (a_record z) s) ∙ ap (content_at t) q ∙ is_content z'.words (a_record z') s') in
    with_first (λ i. record { offset = q i; «record» = same i }) (agree e f (is_next z.words (a_record z) s ∙ ap (next_at t) q ∙ sym (is_next z'.words (a_record z') s')))
  where
    with_first : {y y' : Entered} {a b : List Entered} → y ≡ y' → Further a b ⊎ Further b a → Further (y ∷ a) (y' ∷ b) ⊎ Further (y' ∷ b) (y ∷ a)
    with_first h (inl (rest, k)) = inl (rest, ap₂ ◌∷◌ (sym h) k)
    with_first h (inr (rest, k)) = inr (rest, ap₂ ◌∷◌ h k)

-- ---- all but the last, and the last

front : List Entered → List Entered
front [] = []
front (x ∷ []) = []
front (x ∷ y ∷ l) = x ∷ front (y ∷ l)

final : Entered → List Entered → Entered
final d [] = d
final d (x ∷ l) = final x l

front_more : (a : List Entered) (x : Entered) (b : List Entered) → front (a ++ x ∷ b) ≡ a ++ front (x ∷ b)
unfolding front
front_more [] x b = refl
front_more (y ∷ []) x b = refl
front_more (y ∷ z ∷ a) x b = ap (λ (l : List Entered). y ∷ l) (front_more (z ∷ a) x b)

front_last : (a : List Entered) (x : Entered) → front (a ++ x ∷ []) ≡ a
unfolding front
front_last a x = front_more a x [] ∙ append-nil a

final_last : (d : Entered) (a : List Entered) (x : Entered) → final d (a ++ x ∷ []) ≡ x
unfolding final
final_last d [] x = refl
final_last d (y ∷ a) x = final_last y a x

-- ---- how many of one owner and type

module _ (n : List ℕ) (k : RecordType) where
  abbrev many : List Entered → ℕ
  many es = length (data_of n k (records es))

  Of : Entered → Type 0
  Of x = (x.«record».owner ≡ n) × (x.«record».rtype ≡ k)

  many_append : (a b : List Entered) → many (a ++ b) ≡ many a + many b
  many_append a b = ap (λ (l : List ResourceRecord). length (data_of n k l)) (records_append a b) ∙ length_data_append n k (records a) (records b)

  one_more : (x : Entered) (b : List Entered) → Of x → many (x ∷ b) ≡ many b + 1
  unfolding records Of
  one_more x b h = omega (arith, ap length (data_same n k x.«record» (records b) (of_is n k x.«record» h.0 h.1)))

  some : (a : List Entered) (x : Entered) (b : List Entered) → Of x → 1 ≤ many (a ++ x ∷ b)
  some a x b h = omega (arith, many_append a (x ∷ b), one_more x b h)

  no_fewer : (x : Entered) (b : List Entered) → many b ≤ many (x ∷ b)
  no_fewer x b = omega (arith, many_append (x ∷ []) b)

  -- where there is one at most, two cuts at such a record are at the same one
  one_cut : (a b a' b' : List Entered) (x x' : Entered) → Of x → Of x' → a ++ x ∷ b ≡ a' ++ x' ∷ b' → many (a ++ x ∷ b) ≤ 1 → x ≡ x'
  one_cut [] b [] b' x x' h h' e few = head-eq_of_cons-eq e
  one_cut [] b (y ∷ a') b' x x' h h' e few =
      absurd (omega (arith, one_more x b h, ap many (tail-eq_of_cons-eq e), some a' x' b' h'))
  one_cut (y ∷ a) b [] b' x x' h h' e few =
      absurd (omega (arith, ap many e, one_more x' b' h', ap many (tail-eq_of_cons-eq e), some a x b h))
  one_cut (y ∷ a) b (y' ∷ a') b' x x' h h' e few = one_cut a b a' b' x x' h h' (tail-eq_of_cons-eq e) (omega (arith, no_fewer y (a ++ x ∷ b)))

-- ---- the first two that are alike

module _ {t : List ℕ} {r : Repeat} (f : FirstRepeat t r) where
  abbrev owner : List ℕ
  owner = f.later.«record».owner

  abbrev type : RecordType
  type = f.later.«record».rtype

  abbrev firsts : List Entered
  firsts = f.before ++ f.earlier ∷ f.between

  earlier_of : Of owner type f.earlier
  unfolding Of
  earlier_of = (f.owner, f.type)

  later_of : Of owner type f.later
  unfolding Of
  later_of = (refl, refl)

  -- with the second there are two
  two : 2 ≤ many owner type (firsts ++ f.later ∷ [])
  two = omega (arith, some owner type f.before f.earlier f.between earlier_of, many_append owner type firsts (f.later ∷ []), one_more owner type f.later [] later_of)

-- so the one list does not go on where the other ends
not_further : {t : List ℕ} {r r' : Repeat} (f : FirstRepeat t r) (f' : FirstRepeat t r') (x : Entered) (rest : List Entered)
    → firsts f' ++ f'.later ∷ [] ≡ (firsts f ++ f.later ∷ []) ++ x ∷ rest → ⊥
unfolding Single
not_further f f' x rest e =
    let longer : firsts f' ≡ (firsts f ++ f.later ∷ []) ++ front (x ∷ rest) = sym (front_last (firsts f') f'.later) ∙ ap front e ∙ front_more (firsts f ++ f.later ∷ []) x rest in
    let counted = ap (many (owner f) (type f)) longer ∙ many_append (owner f) (type f) (firsts f ++ f.later ∷ []) (front (x ∷ rest)) in
    omega (arith, counted, two f, f'.single (owner f) (type f))

module _ {t : List ℕ} {r r' : Repeat} (f : FirstRepeat t r) (f' : FirstRepeat t r') where
  same_entries : firsts f' ++ f'.later ∷ [] ≡ firsts f ++ f.later ∷ []
  unfolding Further
  same_entries = go (agree f.entries f'.entries refl)
    where
      go : Further (firsts f ++ f.later ∷ []) (firsts f' ++ f'.later ∷ []) ⊎ Further (firsts f' ++ f'.later ∷ []) (firsts f ++ f.later ∷ []) → firsts f' ++ f'.later ∷ [] ≡ firsts f ++ f.later ∷ []
      go (inl ([], e)) = e ∙ append-nil (firsts f ++ f.later ∷ [])
      go (inl (x ∷ rest, e)) = absurd (not_further f f' x rest e)
      go (inr ([], e)) = sym (e ∙ append-nil (firsts f' ++ f'.later ∷ []))
      go (inr (x ∷ rest, e)) = absurd (not_further f' f x rest e)

  same_firsts : firsts f ≡ firsts f'
  same_firsts = sym (front_last (firsts f) f.later) ∙ ap front (sym same_entries) ∙ front_last (firsts f') f'.later

  same_later : f.later ≡ f'.later
  same_later = sym (final_last f.later (firsts f) f.later) ∙ ap (final f.later) (sym same_entries) ∙ final_last f.later (firsts f') f'.later

  same_earlier : f.earlier ≡ f'.earlier
  unfolding Of Single
  same_earlier =
      one_cut (owner f) (type f) f.before f.between f'.before f'.between f.earlier f'.earlier (f.owner, f.type)
      (f'.owner ∙ ap (λ (x : Entered). x.«record».owner) (sym same_later), f'.type ∙ ap (λ (x : Entered). x.«record».rtype) (sym same_later)) same_firsts (f.single (owner f) (type f))

  -- the promise determines the answer
  pub repeat_one : r ≡ r'
  repeat_one = λ i.
      record {
        first = (f.first ∙ ap (λ (x : Entered). x.offset) same_earlier ∙ sym f'.first) i;
        second = (f.second ∙ ap (λ (x : Entered). x.offset) same_later ∙ sym f'.second) i;
        «record» = (f.held.form ∙ ap (λ (x : Entered). held x.«record») same_later ∙ sym f'.held.form) i;
      }
