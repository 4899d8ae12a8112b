-- The functions of specs/Reading4.antt find just what the definitions say of a DHCPv4 message. Assumes nothing.
use Prim.Native.Nat.{ℕ, zero, suc, ◌≤◌, ◌<◌}
use mathlib.Core.Bool.{Bool, true, false, ◌&&◌, true≢false}
use mathlib.Core.Path.{◌≡◌, refl, sym, ap, ap₂, subst, ◌∙◌}
use mathlib.Core.List.{List, [], ◌∷◌, ◌++◌, append_assoc}
use mathlib.Core.Option.{Option, none, some, none-ne-some, some-injective}
use native.Mathlib.Nat.{le_of_suc-le-suc, not-suc-le-zero}
use native.Mathlib.Omega.{arith}
use lib.Dec.{eqb}
use lib.ListN.{length, get_or, take, drop, take-append-drop}
use lib.Seq.{take_at, drop_at, drop-cons, length-take-le}
use borrow.Author.Tests.{le-leb, lt-leb, eqb-true, eq-eqb, ne_eqb}
use Rattle.base.specs.Logic.{Every}
use Rattle.base.specs.Refusal.{not_bootrequest, hardware_address_length}
use Rattle.base.proofs.Tests.{by_ltb, and_left, and_right, within, under, over}
use Rattle.message.specs.Request.{refused_request}
use Rattle.message.specs.declared.Request.{Request}
use Rattle.message4.specs.Options4.{Field4, pad, option, bytes4, Code4, written4, Options4}
use Rattle.message4.specs.Message4.{Bootrequest, hlen, Header4, Reads4}
use Rattle.message4.specs.Reading4.{before, field, fields_after, fields4, placed, options4, is_bootrequest, by_options, after_header4, request4}

-- ---- one field

module _ (b : List ℕ) (rest : ℕ → Option (List Field4)) where
  pub field_pad : field 0 b rest ≡ before pad (rest 0)
  unfolding field
  field_pad = refl

  pub field_end : field 255 b rest ≡ some []
  unfolding field
  field_end = refl

  pub field_option : (c : ℕ) → 1 ≤ c → c ≤ 254 → field c b rest ≡ before (option c (take (get_or b 0 0) (drop 1 b))) (rest (suc (get_or b 0 0)))
  unfolding field
  field_option c low high = rw (ne_eqb c 0 (λ e. omega arith), ne_eqb c 255 (λ e. omega arith), le-leb c 254 high)

  pub field_none : (c : ℕ) → 255 < c → field c b rest ≡ none
  unfolding field
  field_none c over = rw (ne_eqb c 0 (λ e. omega arith), ne_eqb c 255 (λ e. omega arith), lt-leb c 254 (omega arith))

-- the first k bytes are passed over
pub fields_skip : (b : List ℕ) (k : ℕ) → fields_after b k ≡ fields_after (drop k b) 0
unfolding fields_after
fields_skip [] zero = refl
fields_skip [] (suc k) = refl
fields_skip (c ∷ b) zero = refl
fields_skip (c ∷ b) (suc k) = fields_skip b k

-- ---- what the definition gives, the function finds

finds_written : (fs : List Field4) (after : List ℕ) → Every Code4 fs → fields_after (written4 fs ++ 255 ∷ after) 0 ≡ some fs
unfolding fields_after written4 bytes4 Code4
finds_written [] after Every.none = field_end after (fields_after after)
finds_written (pad ∷ fs) after (Every.more c cs) =
    field_pad (written4 fs ++ 255 ∷ after) (fields_after (written4 fs ++ 255 ∷ after)) ∙ ap (before pad) (finds_written fs after cs)
finds_written (option code d ∷ fs) after (Every.more c cs) =
    let t = written4 fs ++ 255 ∷ after in
    let u = (d ++ written4 fs) ++ 255 ∷ after in
    let cut : u ≡ d ++ t = append_assoc d (written4 fs) (255 ∷ after) in
    field_option (length d ∷ u) (fields_after (length d ∷ u)) code c.0 c.1
    ∙ ap₂ (λ (x : List ℕ) (r : Option (List Field4)). before (option code x) r) (ap (take (length d)) cut ∙ take_at d t (length d) refl)
    (fields_skip u (length d) ∙ ap (λ (x : List ℕ). fields_after x 0) (ap (drop (length d)) cut ∙ drop_at d t (length d) refl) ∙ finds_written fs after cs)

pub finds_fields : {b : List ℕ} {fs : List Field4} → Options4 b fs → fields4 b ≡ some fs
unfolding fields4
finds_fields {b} {fs} o = ap (λ (x : List ℕ). fields_after x 0) o.cut ∙ finds_written fs _ o.codes

-- ---- what the function finds, the definition gives

-- by what begins with the byte c: padding, End, an option, or no field at all (no byte is over 255)
by_code : {P : Type 0} (c : ℕ) → (c ≡ 0 → P) → (c ≡ 255 → P) → (1 ≤ c → c ≤ 254 → P) → (255 < c → P) → P
by_code c padding end one other =
    by_ltb 0 c (λ l. by_ltb c 255 (λ k. one l (omega arith)) (λ k. by_ltb 255 c other (λ j. end (omega arith)))) (λ z. padding (omega arith))

before_is : (f : Field4) (r : Option (List Field4)) (fs : List Field4) → before f r ≡ some fs → (gs : List Field4) × (r ≡ some gs) × (fs ≡ f ∷ gs)
before_is f none fs e = absurd (none-ne-some fs e)
before_is f (some gs) fs e = (gs, refl, sym (some-injective (f ∷ gs) fs e))

padding_before : {b : List ℕ} {fs : List Field4} → Options4 b fs → Options4 (0 ∷ b) (pad ∷ fs)
unfolding written4 bytes4 Code4
padding_before o = record { after = o.after; cut = ap (λ (l : List ℕ). 0 ∷ l) o.cut; codes = Every.more tt o.codes }

option_before : (c n : ℕ) (b : List ℕ) {fs : List Field4} → 1 ≤ c → c ≤ 254 → n ≤ length b
    → Options4 (drop n b) fs → Options4 (c ∷ n ∷ b) (option c (take n b) ∷ fs)
unfolding written4 bytes4 Code4
option_before c n b {fs} low high fits o =
    let cut = sym (take-append-drop n b) ∙ ap (λ (l : List ℕ). take n b ++ l) o.cut ∙ sym (append_assoc (take n b) (written4 fs) _) in
    record {
      after = o.after;
      cut = ap₂ (λ (k : ℕ) (l : List ℕ). c ∷ k ∷ l) (sym (length-take-le n b fits)) cut;
      codes = Every.more {a = option c (take n b)} (low, high) o.codes;
    }

end_alone : (b : List ℕ) → Options4 (255 ∷ b) []
unfolding written4
end_alone b = record { after = b; cut = refl; codes = Every.none }

-- the fields of b without its first k bytes, which it has
Sound : List ℕ → (ℕ → Option (List Field4)) → Type 0
Sound b found = (k : ℕ) (fs : List Field4) → found k ≡ some fs → (k ≤ length b) × Options4 (drop k b) fs

option_is : (c : ℕ) → 1 ≤ c → c ≤ 254 → (b : List ℕ) (rest : ℕ → Option (List Field4)) → Sound b rest → (fs : List Field4)
    → before (option c (take (get_or b 0 0) (drop 1 b))) (rest (suc (get_or b 0 0))) ≡ some fs → Options4 (c ∷ b) fs
unfolding Sound
option_is c low high [] rest sound fs e =
    let x = before_is (option c (take 0 [])) (rest 1) fs e in
    absurd (not-suc-le-zero (sound 1 x.0 x.1).0)
option_is c low high (n ∷ b) rest sound fs e =
    let x = before_is (option c (take n b)) (rest (suc n)) fs e in
    let s = sound (suc n) x.0 x.1 in
    subst (Options4 (c ∷ n ∷ b)) (sym x.2) (option_before c n b low high (le_of_suc-le-suc s.0) s.1)

field_is : (c : ℕ) (b : List ℕ) (rest : ℕ → Option (List Field4)) → Sound b rest → (fs : List Field4) → field c b rest ≡ some fs → Options4 (c ∷ b) fs
unfolding Sound
field_is c b rest sound fs e =
    by_code c
    (λ z.
    let x = before_is pad (rest 0) fs (sym (ap (λ (k : ℕ). field k b rest) z ∙ field_pad b rest) ∙ e) in
    rw (z, x.2) (padding_before (sound 0 x.0 x.1).1))
    (λ z. rw (z, sym (some-injective [] fs (sym (ap (λ (k : ℕ). field k b rest) z ∙ field_end b rest) ∙ e))) (end_alone b))
    (λ low high. option_is c low high b rest sound fs (sym (field_option b rest c low high) ∙ e))
    (λ over. absurd (none-ne-some fs (sym (field_none b rest c over) ∙ e)))

fields_sound : (b : List ℕ) → Sound b (fields_after b)
unfolding fields_after Sound
fields_sound [] k fs e = absurd (none-ne-some fs e)
fields_sound (c ∷ b) zero fs e = (omega arith, field_is c b (fields_after b) (fields_sound b) fs e)
fields_sound (c ∷ b) (suc k) fs e = let s = fields_sound b k fs e in (omega arith, s.1)

pub fields_are : {b : List ℕ} {fs : List Field4} → fields4 b ≡ some fs → Options4 b fs
unfolding fields4 Sound
fields_are {b} {fs} e = (fields_sound b 0 fs e).1

-- so no bytes have two lists of fields
pub one_list : {b : List ℕ} {fs gs : List Field4} → Options4 b fs → Options4 b gs → fs ≡ gs
one_list {fs = fs} {gs} o p = some-injective fs gs (sym (finds_fields o) ∙ finds_fields p)

-- what the function does not find, the definition does not give; and what the definition does not give, the function does not find
never_fields : {b : List ℕ} → fields4 b ≡ none → (fs : List Field4) → Options4 b fs → ⊥
never_fields e fs o = none-ne-some fs (sym e ∙ finds_fields o)

no_fields : (b : List ℕ) → ((fs : List Field4) → Options4 b fs → ⊥) → fields4 b ≡ none
no_fields b never = go (fields4 b) refl
  where
    go : (r : Option (List Field4)) → fields4 b ≡ r → r ≡ none
    go none e = refl
    go (some fs) e = absurd (never fs (fields_are e))

-- ---- the header

module _ (m : List ℕ) (least : 240 ≤ length m) where
  cookie_bytes : take 4 (drop 236 m) ≡ get_or m 236 0 ∷ get_or m 237 0 ∷ get_or m 238 0 ∷ get_or m 239 0 ∷ []
  cookie_bytes =
      ap (take 4) (drop-cons m 236 0 (omega arith)) ∙ ap (λ (l : List ℕ). get_or m 236 0 ∷ take 3 l) (drop-cons m 237 0 (omega arith))
      ∙ ap (λ (l : List ℕ). get_or m 236 0 ∷ get_or m 237 0 ∷ take 2 l) (drop-cons m 238 0 (omega arith))
      ∙ ap (λ (l : List ℕ). get_or m 236 0 ∷ get_or m 237 0 ∷ get_or m 238 0 ∷ take 1 l) (drop-cons m 239 0 (omega arith))

  pub bootrequest_passes : Bootrequest m → is_bootrequest m ≡ true
  unfolding is_bootrequest
  bootrequest_passes h =
      let e = sym cookie_bytes ∙ h.cookie in
      let t0 = eq-eqb (get_or m 0 0) 1 h.op in
      let t1 = eq-eqb (get_or m 236 0) 99 (ap (λ (l : List ℕ). get_or l 0 0) e) in
      let t2 = eq-eqb (get_or m 237 0) 130 (ap (λ (l : List ℕ). get_or l 1 0) e) in
      let t3 = eq-eqb (get_or m 238 0) 83 (ap (λ (l : List ℕ). get_or l 2 0) e) in
      let t4 = eq-eqb (get_or m 239 0) 99 (ap (λ (l : List ℕ). get_or l 3 0) e) in
      λ i. t0 i && t1 i && t2 i && t3 i && t4 i

  passes_bootrequest : is_bootrequest m ≡ true → Bootrequest m
  unfolding is_bootrequest
  passes_bootrequest h4 =
      let t0 = eqb (get_or m 0 0) 1 in
      let t1 = eqb (get_or m 236 0) 99 in
      let t2 = eqb (get_or m 237 0) 130 in
      let t3 = eqb (get_or m 238 0) 83 in
      let t4 = eqb (get_or m 239 0) 99 in
      let h3 = and_left (t0 && t1 && t2 && t3) t4 h4 in
      let h2 = and_left (t0 && t1 && t2) t3 h3 in
      let h1 = and_left (t0 && t1) t2 h2 in
      let e1 = eqb-true (get_or m 236 0) 99 (and_right t0 t1 h1) in
      let e2 = eqb-true (get_or m 237 0) 130 (and_right (t0 && t1) t2 h2) in
      let e3 = eqb-true (get_or m 238 0) 83 (and_right (t0 && t1 && t2) t3 h3) in
      let e4 = eqb-true (get_or m 239 0) 99 (and_right (t0 && t1 && t2 && t3) t4 h4) in
      record { op = eqb-true (get_or m 0 0) 1 (and_left t0 t1 h1); cookie = cookie_bytes ∙ λ i. e1 i ∷ e2 i ∷ e3 i ∷ e4 i ∷ [] }

  pub no_bootrequest_fails : (Bootrequest m → ⊥) → is_bootrequest m ≡ false
  no_bootrequest_fails never = go (is_bootrequest m) refl
    where
      go : (t : Bool) → is_bootrequest m ≡ t → t ≡ false
      go true e = absurd (never (passes_bootrequest e))
      go false e = refl

  fails_no_bootrequest : is_bootrequest m ≡ false → Bootrequest m → ⊥
  fails_no_bootrequest e h = true≢false (sym (bootrequest_passes h) ∙ e)

-- ---- the whole message

pub reads_answer : {m : List ℕ} {r : Request} → Reads4 m r → request4 m ≡ r
unfolding request4 after_header4 options4
reads_answer {m} (Reads4.too_short h) = rw (under 240 (length m) 2048 h)
reads_answer {m} (Reads4.too_long h) = rw (over 240 (length m) 2048 h)
reads_answer {m} (Reads4.no_bootrequest low high h) = rw (within 240 (length m) 2048 low high, no_bootrequest_fails m low h)
reads_answer {m} (Reads4.long_address low high h over) = rw (within 240 (length m) 2048 low high, bootrequest_passes m low h, lt-leb (hlen m) 16 over)
reads_answer {m} (Reads4.malformed h never) =
    rw (within 240 (length m) 2048 h.least h.most, bootrequest_passes m h.least h.bootrequest, le-leb (hlen m) 16 h.address, no_fields (drop 240 m) never)
reads_answer {m} (Reads4.judged h o) =
    rw (within 240 (length m) 2048 h.least h.most, bootrequest_passes m h.least h.bootrequest, le-leb (hlen m) 16 h.address, finds_fields o)

after_header : (m : List ℕ) → Header4 m → Reads4 m (after_header4 m)
unfolding after_header4 options4
after_header m h = go (fields4 (drop 240 m)) refl
  where
    go : (r : Option (List Field4)) → fields4 (drop 240 m) ≡ r → Reads4 m (by_options m (placed 240 r))
    go none e = Reads4.malformed h (never_fields e)
    go (some fs) e = Reads4.judged h (fields_are e)

-- every message is answered with what the function finds
pub answer_reads : (m : List ℕ) → Reads4 m (request4 m)
unfolding request4
answer_reads m = by_ltb (length m) 240 short (λ low. by_ltb 2048 (length m) long (λ high. go low high (is_bootrequest m) refl))
  where
    short : length m < 240 → Reads4 m (request4 m)
    short h = rw (under 240 (length m) 2048 h) (Reads4.too_short h)

    long : 2048 < length m → Reads4 m (request4 m)
    long h = rw (over 240 (length m) 2048 h) (Reads4.too_long h)

    go : 240 ≤ length m → length m ≤ 2048 → (t : Bool) → is_bootrequest m ≡ t → Reads4 m (request4 m)
    go low high false e = rw (within 240 (length m) 2048 low high, e) (Reads4.no_bootrequest low high (fails_no_bootrequest m low e))
    go low high true e =
        let b = passes_bootrequest m low e in
        by_ltb 16 (hlen m)
        (λ over. rw (within 240 (length m) 2048 low high, e, lt-leb (hlen m) 16 over) (Reads4.long_address low high b over))
        (λ fits. rw (within 240 (length m) 2048 low high, e, le-leb (hlen m) 16 fits) (after_header m (record { least = low; most = high; bootrequest = b; address = fits })))

-- the function by the tests that it makes
module _ (m : List ℕ) (low : 240 ≤ length m) (high : length m ≤ 2048) where
  pub answer_no_bootrequest : is_bootrequest m ≡ false → refused_request not_bootrequest ≡ request4 m
  unfolding request4
  answer_no_bootrequest e = rw (within 240 (length m) 2048 low high, e)

  pub answer_long_address : is_bootrequest m ≡ true → 16 < hlen m → refused_request hardware_address_length ≡ request4 m
  unfolding request4
  answer_long_address e over = rw (within 240 (length m) 2048 low high, e, lt-leb (hlen m) 16 over)

  pub answer_options : is_bootrequest m ≡ true → hlen m ≤ 16 → after_header4 m ≡ request4 m
  unfolding request4
  answer_options e fits = rw (within 240 (length m) 2048 low high, e, le-leb (hlen m) 16 fits)
