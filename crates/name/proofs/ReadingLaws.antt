-- The loop that reads a name in text, label by label, over TextLaws.antt. Assumes nothing.
use Prim.Native.Nat.{ℕ, suc, ◌+◌, ◌-◌, ◌≤◌, ◌<◌}
use mathlib.Core.Bool.{Bool, true, false, ◌&&◌, ◌||◌, and-false, true≢false, false≢true}
use mathlib.Core.Path.{◌≡◌, refl, sym, ap, ap₂, subst, ◌∙◌}
use mathlib.Core.Logic.{◌⊎◌, inl, inr}
use mathlib.Core.List.{List, [], ◌∷◌, ◌++◌, append_assoc}
use native.Mathlib.Nat.{add-zero}
use native.Mathlib.Omega.{arith}
use lib.Dec.{leb, eqb}
use lib.ListN.{length, get_or, take, drop, set, replicate, length-drop, length-append, drop_of_length-le}
use lib.Seq.{drop-cons, set_at, drop_at, drop-drop, take_at}
use borrow.Author.Tests.{ne_eqb, le-leb, lt-leb, leb-true}
use Rattle.std.specs.Prelude.{Some, None}
use Rattle.base.specs.Bytes.{ascii, overlay, padded}
use Rattle.base.specs.Logic.{Every}
use Rattle.base.proofs.Bytes.{drop_replicate, take_replicate}
use Rattle.base.proofs.Lists.{map_append}
use Rattle.base.proofs.Tests.{and_left, and_right}
use Rattle.name.specs.Label.{Label, is_upper, is_lower, is_digit, is_label_byte, lower}
use Rattle.name.specs.Name.{wire, text, SpellsName, canonical}
use Rattle.name.specs.Promise.{Reads, ReadsNone}
use Rattle.name.specs.NotInLabel.{is_canonical_label_byte, not_in_label, count_not_in_label}
use Rattle.name.specs.declared.WireName.{WireName}
use Rattle.name.proofs.LabelLaws.{lower_length, lower_lower, lower_other, label_byte_lower, by_case}
use Rattle.name.proofs.NameLaws.{length_text, canonical_wire, length_canonical}
use Rattle.name.proofs.NotInLabelLaws.{canonical_byte_none, other_byte_one, count_append, canonical_byte_as, by_canonical_byte, by_none}
use Rattle.name.proofs.TextLaws.{lead, shifted, valid, lead_dot, lead_byte, lead_label, shifted_dot, shifted_byte, valid_dot, valid_byte, some_bytes, some_left, valid_on, text_valid, text_shifted, valid_rest}
use Rattle.name.proofs.LeadLaws.{Parted, parted, lead_within}

-- ---- what is no name

valid_some : (w : List ℕ) → valid w ≡ true → 1 ≤ length w
valid_some [] e = absurd (false≢true (unfold valid in e))
valid_some (b ∷ w) e = omega arith

module _ (w : List ℕ) where
  pub refused : ((n : List ℕ) → SpellsName w n → ⊥) → Reads w None ⊎ ReadsNone w None
  refused none = inr (record { none = none; is = refl })

  length_word : (n : List ℕ) → SpellsName w n → length w + 1 ≡ length n
  length_word n s = ap (λ (l : List ℕ). length l + 1) s.word ∙ length_text s.labels ∙ sym (ap length s.form)

  pub too_long : (n : List ℕ) → SpellsName w n → 254 < length w → ⊥
  too_long n s long = omega (arith, length_word n s, s.name.short, ap length s.form)

  spelled : (ls : List (List ℕ)) → 1 ≤ length ls → Every Label ls → w ≡ text ls → (valid w ≡ true) × (1 ≤ lead w)
  spelled [] some h e = absurd (omega arith)
  spelled (l ∷ ls) some (Every.more hl h) e = (
    ap valid e ∙ text_valid l ls hl h,
    (let first : lead w ≡ length l = ap lead e ∙ (unfold text ascii in lead_label (text ls) l hl.bytes) in omega (arith, hl.some)),
  )

  word_valid : (n : List ℕ) → SpellsName w n → (valid w ≡ true) × (1 ≤ lead w)
  word_valid n s = spelled s.labels s.name.some s.name.labels s.word

  -- the word after a dot is as a label after one
  pub invalid : (n : List ℕ) → SpellsName w n → valid (46 ∷ w) ≡ false → ⊥
  invalid n s e =
      let h = word_valid n s in
      let both : valid (46 ∷ w) ≡ true =
      valid_dot 46 w (some_left w 0 (valid_some w h.0)) refl ∙ (λ i. le-leb 1 (lead w) h.1 i && h.0 i) in
      true≢false (sym both ∙ e)

  pub no_first_label : (n : List ℕ) → SpellsName w n → lead w ≡ 0 → ⊥
  no_first_label n s e = omega (arith, (word_valid n s).1)

  pub no_bytes : (n : List ℕ) → SpellsName w n → length w ≡ 0 → ⊥
  no_bytes n s e = omega (arith, valid_some w (word_valid n s).0)

-- ---- one label and its dot

canonical_byte_of_lower : (b : ℕ) → is_canonical_label_byte (lower b) ≡ is_label_byte b
unfolding is_label_byte
canonical_byte_of_lower b =
    canonical_byte_as (lower b) (lower_lower b)
    ∙ by_case b (λ u. label_byte_lower b (upper_label u) ∙ sym (upper_label u)) (λ o. ap is_label_byte (lower_other b o))
  where
    upper_label : is_upper b ≡ true → is_label_byte b ≡ true
    upper_label u = ap (λ (t : Bool). t || is_lower b || is_digit b || eqb b 45 || eqb b 95) u

module _ (r : List ℕ) where
  lead_run : (l : List ℕ) → Every (λ b. b ≡ 46 → ⊥) l → lead (l ++ 46 ∷ r) ≡ length l
  lead_run [] h = lead_dot 46 r refl
  lead_run (b ∷ l) (Every.more o h) = lead_byte b (l ++ 46 ∷ r) o ∙ ap suc (lead_run l h)

  shifted_run : (l : List ℕ) → Every (λ b. b ≡ 46 → ⊥) l → shifted (l ++ 46 ∷ r) ≡ canonical l ++ lead r ∷ shifted r
  unfolding canonical
  shifted_run [] h = shifted_dot 46 r refl
  shifted_run (b ∷ l) (Every.more o h) = shifted_byte b (l ++ 46 ∷ r) o ∙ ap (λ (t : List ℕ). lower b ∷ t) (shifted_run l h)

  run_byte : (b : ℕ) (l : List ℕ) → (b ≡ 46 → ⊥) → valid (b ∷ (l ++ 46 ∷ r)) ≡ (is_label_byte b && leb (lead (l ++ 46 ∷ r)) 62 && valid (l ++ 46 ∷ r))
  run_byte b l o = valid_byte b (l ++ 46 ∷ r) (some_bytes l r 46) o

  run_clean : (l : List ℕ) → Every (λ b. b ≡ 46 → ⊥) l → length l ≤ 63 → count_not_in_label (canonical l) ≡ 0 → valid (l ++ 46 ∷ r) ≡ valid (46 ∷ r)
  unfolding canonical count_not_in_label
  run_clean [] h short e = refl
  run_clean (b ∷ l) (Every.more o h) short e =
      by_canonical_byte (lower b)
      (λ s.
      let room : leb (lead (l ++ 46 ∷ r)) 62 ≡ true = le-leb (lead (l ++ 46 ∷ r)) 62 (omega (arith, lead_run l h)) in
      run_byte b l o ∙ (λ i. (sym (canonical_byte_of_lower b) ∙ s) i && room i && run_clean l h (omega arith) (omega arith) i))
      (λ d. absurd (omega (arith, other_byte_one (lower b) d)))

  run_dirty : (l : List ℕ) → Every (λ b. b ≡ 46 → ⊥) l → 1 ≤ count_not_in_label (canonical l) → valid (l ++ 46 ∷ r) ≡ false
  unfolding canonical count_not_in_label
  run_dirty [] h e = absurd (omega arith)
  run_dirty (b ∷ l) (Every.more o h) e =
      by_canonical_byte (lower b)
      (λ s.
      run_byte b l o ∙ ap (λ (t : Bool). is_label_byte b && leb (lead (l ++ 46 ∷ r)) 62 && t) (run_dirty l h (omega (arith, canonical_byte_none (lower b) s)))
      ∙ and-false (is_label_byte b && leb (lead (l ++ 46 ∷ r)) 62))
      (λ d. run_byte b l o ∙ ap (λ (t : Bool). t && leb (lead (l ++ 46 ∷ r)) 62 && valid (l ++ 46 ∷ r)) (sym (canonical_byte_of_lower b) ∙ d))

  run_long : (l : List ℕ) → Every (λ b. b ≡ 46 → ⊥) l → 63 < length l → valid (l ++ 46 ∷ r) ≡ false
  run_long [] h long = absurd (omega arith)
  run_long (b ∷ l) (Every.more o h) long =
      run_byte b l o
      ∙ ap (λ (t : Bool). is_label_byte b && t && valid (l ++ 46 ∷ r)) (lt-leb (lead (l ++ 46 ∷ r)) 62 (omega (arith, lead_run l h)))
      ∙ ap (λ (t : Bool). t && valid (l ++ 46 ∷ r)) (and-false (is_label_byte b))

canonical_run : (l r : List ℕ) → canonical (l ++ 46 ∷ r) ≡ canonical l ++ 46 ∷ canonical r
unfolding canonical
canonical_run l r = map_append lower l (46 ∷ r) ∙ ap (λ (x : ℕ). canonical l ++ x ∷ canonical r) (lower_length 46 (omega arith))

-- ---- the loop

-- the labels before index i have their lengths before them, what stands at i is to give way to the next, and so many bytes that no label has are left when the dots passed are
-- taken off: those of the labels passed, and those ahead
pub record Reading (w bytes : List ℕ) (left i : ℕ) : Type 0 where
  pub within : i ≤ length w
  pub head : List ℕ
  pub long : length head ≡ i
  pub old : ℕ
  pub done : bytes ≡ head ++ old ∷ (canonical (drop i w) ++ replicate (254 - length w) 0)
  pub form : lead w ∷ shifted w ≡ head ++ lead (drop i w) ∷ shifted (drop i w)
  pub passed : ℕ
  pub sum : left ≡ passed + count_not_in_label (canonical (drop i w))
  pub clean : passed ≡ 0 → valid (46 ∷ w) ≡ valid (46 ∷ drop i w)
  pub dirty : 1 ≤ passed → valid (46 ∷ w) ≡ false

-- the word one further on in k zeros
pub taken_over : (w bytes : List ℕ) (k : ℕ) → k ≡ 255 → bytes ≡ overlay (replicate k 0) 1 (canonical w) → bytes ≡ 0 ∷ (canonical w ++ replicate (254 - length w) 0)
unfolding overlay
taken_over w bytes k size e =
    let zeros : k - (1 + length (canonical w)) ≡ 254 - length w = omega (arith, length_canonical w) in
    e ∙ ap₂ (λ (a b : List ℕ). (a ++ canonical w) ++ b) (take_replicate 1 k 0 (omega arith)) (drop_replicate (1 + length (canonical w)) k 0 ∙ ap (λ (n : ℕ). replicate n 0) zeros)

pub word_in : (w bytes : List ℕ) (k : ℕ) → k ≡ length w → bytes ≡ 0 ∷ (canonical w ++ replicate (254 - length w) 0) → take k (drop 1 bytes) ≡ canonical w
word_in w bytes k long e =
    ap (λ (l : List ℕ). take k (drop 1 l)) e ∙ take_at (canonical w) (replicate (254 - length w) 0) k (length_canonical w ∙ sym long)

pub reading_none : (w bytes : List ℕ) (left : ℕ) → bytes ≡ 0 ∷ (canonical w ++ replicate (254 - length w) 0) → left ≡ count_not_in_label (canonical w) → Reading w bytes left 0
reading_none w bytes left e count =
    record {
      within = omega arith;
      head = [];
      long = refl;
      old = 0;
      done = e;
      form = refl;
      passed = 0;
      sum = omega (arith, count);
      clean = λ z. refl;
      dirty = λ o. absurd (omega arith);
    }

reading_not : (w bytes : List ℕ) (left i : ℕ) → Reading w bytes left i → valid (46 ∷ drop i w) ≡ false → valid (46 ∷ w) ≡ false
reading_not w bytes left i h e = by_none h.passed (λ z. h.clean z ∙ e) h.dirty

module _ (w bytes : List ℕ) (left i : ℕ) (h : Reading w bytes left i) (within : i < length w) where
  after_dot : valid (46 ∷ drop i w) ≡ (leb 1 (lead (drop i w)) && valid (drop i w))
  after_dot = valid_dot 46 (drop i w) (some_left w i within) refl

  pub empty_label : lead (drop i w) ≡ 0 → valid (46 ∷ w) ≡ false
  empty_label none =
      reading_not w bytes left i h (after_dot ∙ ap (λ (t : Bool). t && valid (drop i w)) (lt-leb 1 (lead (drop i w)) (omega arith)))

  module _ (last : get_or w (length w - 1) 0 ≡ 46) where
    p : Parted (drop i w)
    p = parted (drop i w) (omega (arith, lead_within w last i within, length-drop i w))

    pub long_label : 63 < lead (drop i w) → valid (46 ∷ w) ≡ false
    long_label long =
        reading_not w bytes left i h
        (after_dot
        ∙ ap (λ (t : Bool). leb 1 (lead (drop i w)) && t) (ap valid p.form ∙ run_long p.rest p.label p.dotless (omega (arith, p.long)))
        ∙ and-false (leb 1 (lead (drop i w))))

    counts : count_not_in_label (canonical (drop i w)) ≡ count_not_in_label (canonical p.label) + (1 + count_not_in_label (canonical p.rest))
    unfolding count_not_in_label not_in_label is_canonical_label_byte is_lower is_digit
    counts = ap (λ (l : List ℕ). count_not_in_label (canonical l)) p.form ∙ ap count_not_in_label (canonical_run p.label p.rest) ∙ count_append (canonical p.label) (46 ∷ canonical p.rest)

    pub some_left_over : 1 ≤ left
    some_left_over = omega (arith, h.sum, counts)

    next : drop (i + lead (drop i w) + 1) w ≡ p.rest
    next =
        let k = lead (drop i w) in
        let e : i + k + 1 ≡ i + (k + 1) = omega arith in
        ap (λ (j : ℕ). drop j w) e ∙ sym (drop-drop (k + 1) i w) ∙ ap (drop (k + 1)) p.form
        ∙ sym (drop-drop 1 k (p.label ++ 46 ∷ p.rest)) ∙ ap (drop 1) (drop_at p.label (46 ∷ p.rest) k p.long)

    one_more : (x : ℕ) → x ≡ lead (drop i w) → 1 ≤ lead (drop i w) → lead (drop i w) ≤ 63 → Reading w (set bytes i x) (left - 1) (i + lead (drop i w) + 1)
    one_more x e some short =
        let l = p.label in
        let r = p.rest in
        let zeros : List ℕ = replicate (254 - length w) 0 in
        let front : List ℕ = h.head ++ x ∷ canonical l in
        let rest_of : (t : List ℕ) → h.head ++ x ∷ (canonical l ++ t) ≡ front ++ t = λ t. sym (append_assoc h.head (x ∷ canonical l) t) in
        record {
          within = omega (arith, lead_within w last i within);
          head = front;
          long = length-append h.head (x ∷ canonical l) ∙ omega (arith, h.long, p.long, length_canonical l);
          old = 46;
          done =
              ap (λ (d : List ℕ). set d i x) h.done ∙ set_at h.head h.old (canonical (drop i w) ++ zeros) x i h.long
              ∙ ap (λ (t : List ℕ). h.head ++ x ∷ (t ++ zeros)) (ap canonical p.form ∙ canonical_run l r)
              ∙ ap (λ (t : List ℕ). h.head ++ x ∷ t) (append_assoc (canonical l) (46 ∷ canonical r) zeros)
              ∙ rest_of (46 ∷ (canonical r ++ zeros))
              ∙ ap (λ (t : List ℕ). front ++ 46 ∷ (canonical t ++ zeros)) (sym next);
          form =
              h.form ∙ ap₂ (λ (k : ℕ) (t : List ℕ). h.head ++ k ∷ t) (sym e) (ap shifted p.form ∙ shifted_run r l p.dotless)
              ∙ rest_of (lead r ∷ shifted r)
              ∙ ap (λ (t : List ℕ). front ++ lead t ∷ shifted t) (sym next);
          passed = h.passed + count_not_in_label (canonical l);
          sum = omega (arith, h.sum, counts, ap (λ (t : List ℕ). count_not_in_label (canonical t)) next);
          clean = λ z.
              h.clean (omega arith) ∙ after_dot
              ∙ ap₂ ◌&&◌ (le-leb 1 (lead (drop i w)) some) (ap valid p.form ∙ run_clean r l p.dotless (omega (arith, p.long)) (omega arith))
              ∙ ap (λ (t : List ℕ). valid (46 ∷ t)) (sym next);
          dirty = λ o.
              by_none h.passed
              (λ z.
              h.clean z ∙ after_dot ∙ ap (λ (t : Bool). leb 1 (lead (drop i w)) && t) (ap valid p.form ∙ run_dirty r l p.dotless (omega arith))
              ∙ and-false (leb 1 (lead (drop i w))))
              h.dirty;
        }

    pub reading_more : (end : ℕ) → end ≡ i + lead (drop i w) → (end - i ≡ 0 → ⊥) → end - i ≤ 63 → Reading w (set bytes i (end - i)) (left - 1) (end + 1)
    reading_more end e some short =
        subst (λ (k : ℕ). Reading w (set bytes i (end - i)) (left - 1) (k + 1)) (sym e) (one_more (end - i) (omega arith) (omega arith) (omega arith))

-- ---- the end of the loop

module _ (w bytes : List ℕ) (left i : ℕ) (h : Reading w bytes left i) (all : length w ≤ i) where
  none_ahead : drop i w ≡ []
  none_ahead = drop_of_length-le w {i = i} all

  over : left ≡ h.passed
  unfolding count_not_in_label canonical
  over = h.sum ∙ ap (λ (l : List ℕ). h.passed + count_not_in_label (canonical l)) none_ahead ∙ add-zero h.passed

  pub count_over : (left ≡ 0 → ⊥) → valid (46 ∷ w) ≡ false
  count_over some = by_none h.passed (λ z. absurd (some (over ∙ z))) h.dirty

  reads_valid : left ≡ 0 → valid (46 ∷ w) ≡ true
  unfolding valid
  reads_valid none = h.clean (sym over ∙ none) ∙ ap (λ (l : List ℕ). valid (46 ∷ l)) none_ahead

  pub reading_all : left ≡ 0 → 1 ≤ length w → length w ≤ 254 → Reads w (Some (record { bytes = set bytes (length w) 0; len = length w + 1 }))
  unfolding padded canonical lead shifted
  reading_all none some fits =
      let both = sym (valid_dot 46 w (some_left w 0 some) refl) ∙ reads_valid none in
      let good = and_right (leb 1 (lead w)) (valid w) both in
      let r = valid_rest w good in
      let ls : List (List ℕ) = r.label ∷ r.labels in
      let first : Label r.label = record { some = omega (arith, r.long, leb-true 1 (lead w) (and_left (leb 1 (lead w)) (valid w) both)); short = r.short; bytes = r.bytes } in
      let size : length w + 1 ≡ length (wire ls) = ap (λ (l : List ℕ). length l + 1) r.form ∙ length_text ls in
      let are : Every Label ls = Every.more first r.are in
      let form : lead w ∷ shifted w ≡ canonical (wire ls) =
      ap (λ (l : List ℕ). lead l ∷ shifted l) r.form ∙ text_shifted r.label r.labels first r.are ∙ sym (canonical_wire ls are) in
      let zeros : 254 - length w ≡ 255 - length (canonical (wire ls)) = omega (arith, size, length_canonical (wire ls)) in
      let ends : length h.head ≡ length w = omega (arith, h.long, h.within) in
      let bytes_are : set bytes (length w) 0 ≡ canonical (wire ls) ++ replicate (255 - length (canonical (wire ls))) 0 =
      ap (λ (d : List ℕ). set d (length w) 0) (h.done ∙ ap (λ (l : List ℕ). h.head ++ h.old ∷ (canonical l ++ replicate (254 - length w) 0)) none_ahead)
      ∙ set_at h.head h.old (replicate (254 - length w) 0) 0 (length w) ends
      ∙ sym (append_assoc h.head (0 ∷ []) (replicate (254 - length w) 0))
      ∙ ap₂ (λ (l : List ℕ) (k : ℕ). l ++ replicate k 0) (sym (h.form ∙ ap (λ (l : List ℕ). h.head ++ lead l ∷ shifted l) none_ahead) ∙ form) zeros in
      record {
        wire = wire ls;
        spells = record { labels = ls; name = record { some = omega arith; labels = are; short = omega (arith, fits) }; word = r.form; form = refl };
        is = λ j. Some (record { bytes = bytes_are j; len = size j });
      }

pub no_last_dot : (w n : List ℕ) (i : ℕ) → SpellsName w n → i + 1 ≡ length w → (get_or w i 0 ≡ 46 → ⊥) → ⊥
unfolding valid
no_last_dot w n i s last dot =
    let alone : drop i w ≡ get_or w i 0 ∷ [] = drop-cons w i 0 (omega arith) ∙ ap (λ (l : List ℕ). get_or w i 0 ∷ l) (drop_of_length-le w {i = suc i} (omega arith)) in
    true≢false (sym (valid_on w i (omega arith) (word_valid w n s).0) ∙ ap valid alone ∙ ne_eqb (get_or w i 0) 46 dot)

-- ---- what was read

-- a name: what the word spells, in canonical form
pub read_name : (w : List ℕ) (x : WireName) → Reads w (Some x) ⊎ ReadsNone w (Some x) → (n : List ℕ) × SpellsName w n × (x.bytes ≡ padded (canonical n)) × (x.len ≡ length n)
read_name w x (inl h) =
    let is : x ≡ record { bytes = padded (canonical h.wire); len = length h.wire } = cc (h.is) in
    (h.wire, h.spells, ap (λ (y : WireName). y.bytes) is, ap (λ (y : WireName). y.len) is)
read_name w x (inr h) = absurd (cc (h.is))

pub read_none : (w : List ℕ) → Reads w None ⊎ ReadsNone w None → (n : List ℕ) → SpellsName w n → ⊥
read_none w (inl h) = absurd (cc (h.is))
read_none w (inr h) = h.none
