-- The owner in text: it is the word with which a record's entry begins, and it tells names apart. Assumes nothing.
use Prim.Native.Nat.{ℕ, ◌+◌, ◌-◌, ◌≤◌}
use mathlib.Core.Bool.{Bool, true, false, false≢true}
use mathlib.Core.Path.{◌≡◌, refl, sym, ap, ap₂, subst, ◌∙◌}
use mathlib.Core.List.{List, [], ◌∷◌, ◌++◌, map}
use mathlib.Core.Option.{Option, none, some, some-injective, some-ne-none}
use native.Mathlib.Omega.{arith}
use lib.ListN.{length, take, drop, length-append, length-drop}
use lib.Seq.{take_at}
use Rattle.base.specs.Bytes.{ascii}
use Rattle.base.specs.Logic.{Decides}
use Rattle.base.proofs.Lists.{map_append}
use Rattle.base.proofs.Tests.{decides_as}
use Rattle.name.specs.Label.{is_upper, lower}
use Rattle.name.specs.Name.{wire, text, Proper, canonical}
use Rattle.name.specs.Promise.{text_of}
use Rattle.name.proofs.DottedLaws.{text_of_wire}
use Rattle.name.proofs.NameLaws.{length_text, lowered, canonical_wire, length_canonical, name_lowered}
use Rattle.name.proofs.Theorems.{spelled, one_name}
use Rattle.name.specs.Name
use Rattle.grammar.specs.Listing.{Kind, blank, line_end, opening, closing, semicolon, word_byte, not_allowed, kind_of, is_word_kind, is_word_byte, begins, Depth, outside, ResourceRecord, Owner}
use Rattle.grammar.specs.Scan.{plain, Ending, at_end, at_line, at_fault, Laid, add_letter, scan}
use Rattle.grammar.proofs.ScanLaws.{byte_scan}
use Rattle.grammar.specs.OwnerReader.{owner_of}
use Rattle.grammar.proofs.OwnerReaderLaws.{owner_reads}
use Rattle.grammar.specs.Content.{Content, one, fault, Headed, head_of, rdata_of, by_rdata, by_owner, content_of}
use Rattle.grammar.specs.Reader.{Verdict, right, wrong, after, shifted, by_ending, read}
use Rattle.grammar.proofs.ReaderLaws.{read_step}
use Rattle.writer.proofs.WellFormedLaws.{owner_proper}
use Rattle.table_fault.specs.Sweeping.{BeginsWith}

-- ---- the first word of a text that begins with a word's byte

record FirstWord (d : Depth) (u : List ℕ) : Type 0 where
  word : List ℕ
  others : List (List ℕ)
  rest : List ℕ
  words : (scan plain d u).words ≡ word ∷ others
  cut : u ≡ word ++ rest

word_kind : (k : Kind) → is_word_kind k ≡ true → k ≡ word_byte
word_kind word_byte e = refl
word_kind blank e = absurd (false≢true e)
word_kind line_end e = absurd (false≢true e)
word_kind opening e = absurd (false≢true e)
word_kind closing e = absurd (false≢true e)
word_kind semicolon e = absurd (false≢true e)
word_kind not_allowed e = absurd (false≢true e)

-- one byte more in front
with_byte : (d : Depth) (b : ℕ) (u : List ℕ) → is_word_byte b ≡ true → (scan plain d (b ∷ u)).words ≡ add_letter b (begins is_word_byte u) (scan plain d u).words
with_byte d b u h = ap (λ (r : Laid). r.words) (byte_scan plain d b u word_byte (word_kind (kind_of b) h))

first_by : (d : Depth) (b : ℕ) (u : List ℕ) → is_word_byte b ≡ true → (begins is_word_byte u ≡ true → FirstWord d u) → (x : Bool) → begins is_word_byte u ≡ x → FirstWord d (b ∷ u)
first_by d b u h more true q =
    let w = more q in
    record { word = b ∷ w.word; others = w.others; rest = w.rest; words = with_byte d b u h ∙ ap₂ (add_letter b) q w.words; cut = ap (◌∷◌ b) w.cut }
first_by d b u h more false q =
    record { word = b ∷ []; others = (scan plain d u).words; rest = u; words = with_byte d b u h ∙ ap (λ (x : Bool). add_letter b x (scan plain d u).words) q; cut = refl }

first_word : (d : Depth) (u : List ℕ) → begins is_word_byte u ≡ true → FirstWord d u
first_word d [] h = absurd (false≢true h)
first_word d (b ∷ u) h = first_by d b u h (λ q. first_word d u q) (begins is_word_byte u) refl

-- ---- it is the owner of the record that comes first

first_owner : Verdict → Option (List ℕ)
first_owner (right []) = none
first_owner (right (r ∷ rs)) = some r.owner
first_owner (wrong [] n p) = none
first_owner (wrong (r ∷ rs) n p) = some r.owner

first_after : (r : ResourceRecord) (v : Verdict) → first_owner (after r v) ≡ some r.owner
unfolding first_owner
first_after r (right rs) = refl
first_after r (wrong rs n p) = refl

module _ (u : List ℕ) (n : List ℕ) where
  -- a fault has no first record
  not_faulty : (k : ℕ) (x : Ending) → first_owner (by_ending read u (fault k) x) ≡ some n → ⊥
  unfolding first_owner
  not_faulty k at_end e = some-ne-none n (sym e)
  not_faulty k (at_line w) e = some-ne-none n (sym e)
  not_faulty k at_fault e = some-ne-none n (sym e)

  one_owned : (r : ResourceRecord) (x : Ending) → first_owner (by_ending read u (one r) x) ≡ some n → r.owner ≡ n
  unfolding first_owner
  one_owned r at_end e = some-injective r.owner n e
  one_owned r (at_line w) e = some-injective r.owner n (sym (first_after r (shifted (length u - length w) (read w))) ∙ e)
  one_owned r at_fault e = absurd (some-ne-none n (sym e))

  by_rdata_lem : (m : List ℕ) (h : Headed) (o : Option (List ℕ)) (x : Ending) → first_owner (by_ending read u (by_rdata m h.rtype o) x) ≡ some n → m ≡ n
  by_rdata_lem m h none x e = absurd (not_faulty _ x e)
  by_rdata_lem m h (some bs) x e = one_owned _ x e

  by_owner_lem : (o : Option (List ℕ)) (h : Option Headed) (x : Ending) → first_owner (by_ending read u (by_owner o h) x) ≡ some n → o ≡ some n
  by_owner_lem none h x e = absurd (not_faulty _ x e)
  by_owner_lem (some m) none x e = absurd (not_faulty _ x e)
  by_owner_lem (some m) (some h) x e = ap {B = Option (List ℕ)} some (by_rdata_lem m h (rdata_of h.rtype h.rest) x e)

content_owned : (first : Bool) (w : List ℕ) (ws vs : List (List ℕ)) → first ≡ true → vs ≡ w ∷ ws → content_of first vs ≡ by_owner (owner_of w) (head_of ws)
unfolding content_of
content_owned first w ws vs e q = rw (e, q)

pub owner_begins : (u : List ℕ) (r : ResourceRecord) (v : Verdict) → begins is_word_byte u ≡ true → read u ≡ after r v → BeginsWith u r.owner
owner_begins u r v h e =
    let w = first_word outside u h in
    let x = (scan plain outside u).ending in
    let same = ap (λ (c : Content). by_ending read u c x) (content_owned (begins is_word_byte u) w.word w.others (scan plain outside u).words h w.words) in
    let first = ap first_owner (sym (read_step u ∙ same) ∙ e) ∙ first_after r v in
    record { word = w.word; rest = w.rest; cut = w.cut; owner = owner_reads.is w.word r.owner (by_owner_lem u r.owner (owner_of w.word) (head_of w.others) x first) }

-- ---- a name that is spelled

module _ (w n : List ℕ) (o : Owner w n) where
  abbrev ls : List (List ℕ)
  ls = o.spells.labels

  form : n ≡ wire (lowered ls)
  form = o.form ∙ ap canonical o.spells.form ∙ canonical_wire ls o.spells.name.labels

  pub owner_length : length w + 1 ≡ length n
  owner_length =
      ap (λ (l : List ℕ). length l + 1) o.spells.word ∙ length_text ls ∙ sym (ap length o.spells.form) ∙ sym (length_canonical o.wire) ∙ sym (ap length o.form)

-- the text of labels in lower case
text_lowered : (ls : List (List ℕ)) → canonical (text ls) ≡ text (lowered ls)
unfolding canonical text lower is_upper ascii
text_lowered [] = refl
text_lowered (l ∷ ls) = map_append lower l (46 ∷ text ls) ∙ ap (λ (r : List ℕ). map lower l ++ 46 ∷ r) (text_lowered ls)

pub owner_text : (w n : List ℕ) → Owner w n → canonical w ≡ text_of n
owner_text w n o =
    ap canonical o.spells.word ∙ text_lowered o.spells.labels ∙ sym (text_of_wire (lowered o.spells.labels) (name_lowered o.spells.labels o.spells.name).some)
    ∙ sym (ap text_of (form w n o))

-- names with one text are the same
one_text_of : (n m : List ℕ) → Proper n → Proper m → text_of n ≡ text_of m → n ≡ m
one_text_of n m p q e = one_name (text_of m) n m (subst (λ (w : List ℕ). Name.SpellsName w n) e (spelled n p)) (spelled m q)

module _ (u n m : List ℕ) (h : BeginsWith u n) where
  pub begins_length : length h.word + 1 ≡ length n
  begins_length = owner_length h.word n h.owner

  -- so as many bytes of the text tell whether the name is m
  pub owner_decided : (k : ℕ) (b : Bool) → Proper m → length n ≡ length m → k + 1 ≡ length m → Decides b (canonical (take k u) ≡ text_of m) → Decides b (n ≡ m)
  owner_decided k b proper long size d =
      let word : take k u ≡ h.word = ap (take k) h.cut ∙ take_at h.word h.rest k (omega (arith, begins_length)) in
      let same : canonical (take k u) ≡ text_of n = ap canonical word ∙ owner_text h.word n h.owner in
      decides_as (λ e. one_text_of n m (owner_proper h.word n h.owner) proper (sym same ∙ e)) (λ e. same ∙ ap text_of e) d

-- it has a byte at least, and stands within the text
wire_some : (ls : List (List ℕ)) → 1 ≤ length (wire ls)
unfolding wire
wire_some [] = omega arith
wire_some (l ∷ ls) = omega arith

wire_two : (ls : List (List ℕ)) → 1 ≤ length ls → 2 ≤ length (wire ls)
unfolding wire
wire_two [] some_labels = absurd (omega arith)
wire_two (l ∷ ls) some_labels = omega (arith, length-append l (wire ls), wire_some ls)

pub begins_within : (t : List ℕ) (at : ℕ) (n : List ℕ) → BeginsWith (drop at t) n → at + length n ≤ length t + 1
begins_within t at n h =
    let p = owner_proper h.word n h.owner in
    omega (arith, begins_length (drop at t) n n h, ap length h.cut, length-append h.word h.rest, length-drop at t, ap length p.form, wire_two p.labels p.name.some)
