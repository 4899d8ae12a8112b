-- The reader of a DHCID's words: hexadecimal digits, words, and what the last state answers. Assumes nothing.
use Prim.Native.Nat.{ℕ, ◌+◌, ◌*◌, ◌/◌, ◌%◌, ◌≤◌, ◌<◌}
use mathlib.Core.Bool.{true, false, true≢false}
use mathlib.Core.Path.{◌≡◌, refl, sym, ap, subst, ◌∙◌}
use mathlib.Core.Logic.{◌⊎◌, inl, inr, ⊎_elim}
use mathlib.Core.List.{List, [], ◌∷◌, ◌++◌, append_assoc, append-nil, nil≢cons, head-eq_of_cons-eq, tail-eq_of_cons-eq}
use native.Mathlib.Omega.{arith}
use lib.ListN.{length, set, length-append}
use lib.Seq.{append_snoc}
use Rattle.base.specs.Bytes.{ascii}
use Rattle.base.specs.Dhcid.{well_formed}
use Rattle.base.specs.Logic.{Every, Pairwise}
use Rattle.base.proofs.DhcidLaws.{dhcid_length}
use Rattle.base.proofs.Lists.{every_append, every_middle, pairwise_on}
use Rattle.text.specs.Digits.{digit_value}
use Rattle.dhcid_text.specs.Dhcid.{base64, joined, HexByte, Generic, SpellsDhcid, marker, thirty_five}
use Rattle.dhcid_text.specs.Base64.{value64}
use Rattle.dhcid_text.specs.DhcidReading.{Fresh, Quantum, Refused64, Text64, Begun16, Refused16, Text16, After}
use Rattle.dhcid_text.specs.declared.Form.TheVariants.{Nothing, Base64, Marked, Digits, Refused}
use Rattle.dhcid_text.specs.declared.DhcidWords.{DhcidWords}
use Rattle.dhcid_text.proofs.Base64Laws.{same_bytes, length_base64}
use Rattle.dhcid_text.proofs.HexLaws.{joined_on, joined_word, hex_byte, length_pairs, digits_pairs, same_pairs}
use Rattle.dhcid_text.proofs.DhcidLaws.{stored, all_stored, length_begun, next_digit}

-- ---- two hexadecimal digits

module _ (ds : List ℕ) (x y : ℕ) (s : DhcidWords) where
  pub other_form16 : (s.form ≡ Digits → ⊥) → Text16 ds s → Text16 (ds ++ x ∷ y ∷ []) s
  other_form16 other (Text16.begun h) = absurd (other h.form)
  other_form16 other (Text16.refused h) =
      Text16.refused
      (record { form = h.form; none = λ es ps bs p long e. h.none (x ∷ y ∷ es) ps bs p long (sym (append_assoc ds (x ∷ y ∷ []) es) ∙ e) })

  module _ (r : DhcidWords) (fresh : Fresh Refused r) (f : s.form ≡ Digits) where
    refuse : ((es : List ℕ) (ps : List (List ℕ)) (bs : List ℕ) → Pairwise HexByte ps bs → length bs ≡ 35 → ds ++ x ∷ y ∷ [] ++ es ≡ joined ps → ⊥)
        → Text16 (ds ++ x ∷ y ∷ []) r
    refuse none = Text16.refused (record { form = fresh.form; none = none })

    pub too_many16 : 69 < s.count → Text16 ds s → Text16 (ds ++ x ∷ y ∷ []) r
    too_many16 n (Text16.begun h) =
        refuse
        (λ es ps bs p long e.
        omega (
          arith,
          ap length e,
          length-append (ds ++ x ∷ y ∷ []) es,
          length-append ds (x ∷ y ∷ []),
          length_pairs ps bs p,
          ap length h.chars,
          length_pairs h.pairs h.read h.spelled,
          h.count,
        ))
    too_many16 n (Text16.refused h) = cc

    pub no_high : 15 < digit_value x → Text16 ds s → Text16 (ds ++ x ∷ y ∷ []) r
    no_high v (Text16.begun h) =
        refuse
        (λ es ps bs p long e.
        let all = subst (Every (λ c. digit_value c < 16)) (sym e ∙ append_assoc ds (x ∷ y ∷ []) es) (digits_pairs ps bs p) in
        omega (arith, every_middle ds (y ∷ es) x all))
    no_high v (Text16.refused h) = cc

    pub no_low : 15 < digit_value y → Text16 ds s → Text16 (ds ++ x ∷ y ∷ []) r
    no_low v (Text16.begun h) =
        refuse
        (λ es ps bs p long e.
        let parts : ds ++ x ∷ y ∷ [] ++ es ≡ ds ++ x ∷ [] ++ y ∷ es = append_assoc ds (x ∷ y ∷ []) es ∙ sym (append_snoc ds x (y ∷ es)) in
        let all = subst (Every (λ c. digit_value c < 16)) (sym e ∙ parts) (digits_pairs ps bs p) in
        omega (arith, every_middle (ds ++ x ∷ []) es y all))
    no_low v (Text16.refused h) = cc

  module _ (r : DhcidWords) (b : ℕ) (f : s.form ≡ Digits) (n : s.count ≤ 69) (hx : digit_value x < 16) (hy : digit_value y < 16) (form : r.form ≡ Digits) (count : r.count ≡ s.count + 2)
      (byte : b ≡ digit_value x * 16 + digit_value y) (bytes : r.bytes ≡ set s.bytes (s.count / 2) b) where
    pub another_byte : Text16 ds s → Text16 (ds ++ x ∷ y ∷ []) r
    another_byte (Text16.begun h) =
        Text16.begun
        (record {
          form = form;
          pairs = h.pairs ++ (x ∷ y ∷ []) ∷ [];
          read = h.read ++ b ∷ [];
          spelled = pairwise_on h.pairs h.read (x ∷ y ∷ []) b h.spelled (subst (HexByte (x ∷ y ∷ [])) (sym byte) (hex_byte x y hx hy));
          small = every_append h.read (b ∷ []) h.small (Every.more (omega arith) Every.none);
          chars = ap (λ (l : List ℕ). l ++ x ∷ y ∷ []) h.chars ∙ sym (joined_word h.pairs (x ∷ y ∷ []));
          count = omega (arith, h.count, length-append h.read (b ∷ []));
          short = omega (arith, h.count, length-append h.read (b ∷ []));
          bytes =
              bytes ∙ ap (λ (o : List ℕ). set o (s.count / 2) b) h.bytes
              ∙ stored h.read (s.count / 2) b (omega (arith, h.count)) (omega arith);
        })
    another_byte (Text16.refused h) = cc

-- ---- states in which nothing of their form was read

pub fresh_base64 : (s : DhcidWords) → Fresh Base64 s → Text64 [] s
unfolding base64
fresh_base64 s h =
    Text64.begun
    (record {
      form = h.form;
      groups = 0;
      whole = [];
      long = refl;
      small = Every.none;
      read = 0;
      digits = [];
      last = [];
      group = Quantum.none refl refl refl;
      chars = refl;
      count = h.count;
      more = omega (arith, h.count);
      bytes = h.bytes;
    })

pub fresh_digits : (s : DhcidWords) → Fresh Digits s → Text16 [] s
unfolding joined
fresh_digits s h =
    Text16.begun
    (record {
      form = h.form;
      pairs = [];
      read = [];
      spelled = Pairwise.none;
      small = Every.none;
      chars = refl;
      count = h.count;
      short = omega arith;
      bytes = h.bytes;
    })

-- ---- what is spelled by words

-- base64 begins with no backslash
no_base64 : (vs : List (List ℕ)) (bs : List ℕ) → Every (λ b. b < 256) bs → length bs ≡ 35 → joined (marker ∷ vs) ≡ base64 bs → ⊥
unfolding ascii joined value64
no_base64 vs bs small long e = let h : value64 92 < 64 = next_digit bs small long [] (35 ∷ joined vs) 92 e (omega arith) in omega arith

module _ (ws vs : List (List ℕ)) (bs : List ℕ) (sp : SpellsDhcid ws bs) where
  in_base64 : (w : List ℕ) → ws ≡ w ∷ vs → (w ≡ marker → ⊥) → joined ws ≡ base64 bs
  in_base64 w e other = ⊎_elim (λ h. h) (λ g. absurd (other (head-eq_of_cons-eq (sym e ∙ g.words)))) sp.form

  in_generic : ws ≡ marker ∷ vs → Generic ws bs
  in_generic e = ⊎_elim (λ h. absurd (no_base64 vs bs sp.bytes (dhcid_length bs sp.test) (ap joined (sym e) ∙ h))) (λ g. g) sp.form

-- the generic form's digits
digits_of : (ws digits : List (List ℕ)) (bs : List ℕ) (g : Generic ws bs) → ws ≡ marker ∷ thirty_five ∷ digits → g.digits ≡ digits
digits_of ws digits bs g e = tail-eq_of_cons-eq (tail-eq_of_cons-eq (sym g.words ∙ e))

-- ---- no words after these make a DHCID

stopped64 : (ws vs : List (List ℕ)) (s : DhcidWords) (w : List ℕ) (us : List (List ℕ)) (bs : List ℕ) → Refused64 (joined ws) s → ws ≡ w ∷ us → (w ≡ marker → ⊥)
    → SpellsDhcid (ws ++ vs) bs → ⊥
stopped64 ws vs s w us bs h e other sp =
    h.none (joined vs) bs sp.bytes (dhcid_length bs sp.test)
    (sym (joined_on ws vs) ∙ in_base64 (ws ++ vs) (us ++ vs) bs sp w (ap (λ (l : List (List ℕ)). l ++ vs) e) other)

stopped16 : (ws vs : List (List ℕ)) (s : DhcidWords) (digits : List (List ℕ)) (bs : List ℕ) → Refused16 (joined digits) s → ws ≡ marker ∷ thirty_five ∷ digits
    → SpellsDhcid (ws ++ vs) bs → ⊥
stopped16 ws vs s digits bs h e sp =
    let e' : ws ++ vs ≡ marker ∷ thirty_five ∷ (digits ++ vs) = ap (λ (l : List (List ℕ)). l ++ vs) e in
    let g = in_generic (ws ++ vs) (thirty_five ∷ (digits ++ vs)) bs sp e' in
    h.none (joined vs) g.pairs bs g.bytes (dhcid_length bs sp.test)
    (sym (joined_on digits vs) ∙ ap joined (sym (digits_of (ws ++ vs) (digits ++ vs) bs g e')) ∙ g.all)

-- ---- a state that a form's characters lead to

pub after_base64 : (ws : List (List ℕ)) (s : DhcidWords) (w : List ℕ) (us : List (List ℕ)) → ws ≡ w ∷ us → (w ≡ marker → ⊥) → Text64 (joined ws) s → After ws s
after_base64 ws s w us e other (Text64.begun h) = After.in_base64 h.form w us e other (Text64.begun h)
after_base64 ws s w us e other (Text64.done h) = After.in_base64 h.form w us e other (Text64.done h)
after_base64 ws s w us e other (Text64.refused h) = After.refused h.form (λ vs bs sp. stopped64 ws vs s w us bs h e other sp)

pub after_digits : (ws : List (List ℕ)) (s : DhcidWords) (digits : List (List ℕ)) → ws ≡ marker ∷ thirty_five ∷ digits → Every (λ w. length w % 2 ≡ 0) digits
    → Text16 (joined digits) s → After ws s
after_digits ws s digits e even (Text16.begun h) = After.generic h.form digits e even h
after_digits ws s digits e even (Text16.refused h) = After.refused h.form (λ vs bs sp. stopped16 ws vs s digits bs h e sp)

-- ---- the first words

module _ (w : List ℕ) (r : DhcidWords) where
  pub first_marker : w ≡ marker → Fresh Marked r → After (w ∷ []) r
  first_marker m fresh = After.marked fresh.form (ap (λ (x : List ℕ). x ∷ []) m)

  pub first_base64 : (s : DhcidWords) → (w ≡ marker → ⊥) → Fresh Base64 s → ((cs : List ℕ) → Text64 cs s → Text64 (cs ++ w) r) → After (w ∷ []) r
  unfolding joined
  first_base64 s other fresh step = after_base64 (w ∷ []) r w [] refl other (subst (λ (t : List ℕ). Text64 t r) (sym (append-nil w)) (step [] (fresh_base64 s fresh)))

  pub thirty_five_lem : w ≡ thirty_five → Fresh Digits r → After (marker ∷ w ∷ []) r
  unfolding joined
  thirty_five_lem m fresh = after_digits (marker ∷ w ∷ []) r [] (ap (λ (x : List ℕ). marker ∷ x ∷ []) m) Every.none (fresh_digits r fresh)

  pub other_length : (w ≡ thirty_five → ⊥) → Fresh Refused r → After (marker ∷ w ∷ []) r
  other_length other fresh =
      After.refused fresh.form
      (λ vs bs sp. other (head-eq_of_cons-eq (tail-eq_of_cons-eq (in_generic (marker ∷ w ∷ vs) (w ∷ vs) bs sp refl).words)))

-- ---- one word more

module _ (ws : List (List ℕ)) (w : List ℕ) (s r : DhcidWords) where
  on : {vs : List (List ℕ)} → ws ≡ vs → ws ++ w ∷ [] ≡ vs ++ w ∷ []
  on e = ap (λ (l : List (List ℕ)). l ++ w ∷ []) e

  pub after_nothing : s.form ≡ Nothing → After (w ∷ []) r → After ws s → After (ws ++ w ∷ []) r
  after_nothing f h (After.nothing g e) = subst (λ (l : List (List ℕ)). After l r) (sym (on e)) h
  after_nothing f h (After.in_base64 g v vs e other t) = cc
  after_nothing f h (After.marked g e) = cc
  after_nothing f h (After.generic g digits e even d) = cc
  after_nothing f h (After.refused g none) = cc

  pub after_marker : s.form ≡ Marked → After (marker ∷ w ∷ []) r → After ws s → After (ws ++ w ∷ []) r
  after_marker f h (After.nothing g e) = cc
  after_marker f h (After.in_base64 g v vs e other t) = cc
  after_marker f h (After.marked g e) = subst (λ (l : List (List ℕ)). After l r) (sym (on e)) h
  after_marker f h (After.generic g digits e even d) = cc
  after_marker f h (After.refused g none) = cc

  pub next_base64 : s.form ≡ Base64 → ((cs : List ℕ) → Text64 cs s → Text64 (cs ++ w) r) → After ws s → After (ws ++ w ∷ []) r
  next_base64 f step (After.nothing g e) = cc
  next_base64 f step (After.in_base64 g v vs e other t) =
      after_base64 (ws ++ w ∷ []) r v (vs ++ w ∷ []) (on e) other (subst (λ (x : List ℕ). Text64 x r) (sym (joined_word ws w)) (step (joined ws) t))
  next_base64 f step (After.marked g e) = cc
  next_base64 f step (After.generic g digits e even h) = cc
  next_base64 f step (After.refused g none) = cc

  pub odd_word : s.form ≡ Digits → (length w % 2 ≡ 0 → ⊥) → Fresh Refused r → After ws s → After (ws ++ w ∷ []) r
  odd_word f odd fresh (After.nothing g e) = cc
  odd_word f odd fresh (After.in_base64 g v vs e o t) = cc
  odd_word f odd fresh (After.marked g e) = cc
  odd_word f odd fresh (After.generic g digits e even h) =
      After.refused fresh.form
      (λ vs bs sp.
      let e' : ws ++ w ∷ [] ++ vs ≡ marker ∷ thirty_five ∷ (digits ++ w ∷ vs) =
      ap (λ (l : List (List ℕ)). l ++ vs) (on e) ∙ ap (λ (l : List (List ℕ)). marker ∷ thirty_five ∷ l) (append_snoc digits w vs) in
      let generic = in_generic (ws ++ w ∷ [] ++ vs) (thirty_five ∷ (digits ++ w ∷ vs)) bs sp e' in
      odd
      (every_middle digits vs w
      (subst (Every (λ x. length x % 2 ≡ 0)) (digits_of (ws ++ w ∷ [] ++ vs) (digits ++ w ∷ vs) bs generic e') generic.even)))
  odd_word f odd fresh (After.refused g none) = cc

  pub even_word : s.form ≡ Digits → length w % 2 ≡ 0 → ((ds : List ℕ) → Text16 ds s → Text16 (ds ++ w) r) → After ws s → After (ws ++ w ∷ []) r
  even_word f two step (After.nothing g e) = cc
  even_word f two step (After.in_base64 g v vs e o t) = cc
  even_word f two step (After.marked g e) = cc
  even_word f two step (After.generic g digits e even h) =
      after_digits (ws ++ w ∷ []) r (digits ++ w ∷ []) (on e) (every_append digits (w ∷ []) even (Every.more two Every.none))
      (subst (λ (x : List ℕ). Text16 x r) (sym (joined_word digits w)) (step (joined digits) (Text16.begun h)))
  even_word f two step (After.refused g none) = cc

  pub still_refused : s.form ≡ Refused → After ws s → After (ws ++ w ∷ []) s
  still_refused f (After.nothing g e) = cc
  still_refused f (After.in_base64 g v vs e o t) = cc
  still_refused f (After.marked g e) = cc
  still_refused f (After.generic g digits e even h) = cc
  still_refused f (After.refused g none) =
      After.refused g (λ vs bs sp. none (w ∷ vs) bs (subst (λ (l : List (List ℕ)). SpellsDhcid l bs) (append_snoc ws w vs) sp))

-- ---- the answer

-- as many characters were read as 35 bytes have
abbrev pub Complete : DhcidWords → Type 0
Complete s = ((s.form ≡ Base64) × (s.count ≡ 48)) ⊎ ((s.form ≡ Digits) × (s.count ≡ 70))

-- the bytes of a state that has all digits
all_read : (ds : List ℕ) (s : DhcidWords) (h : Begun16 ds s) → s.count ≡ 70 → s.bytes ≡ h.read
all_read ds s h n = h.bytes ∙ all_stored h.read (omega (arith, h.count))

module _ (ws : List (List ℕ)) (s : DhcidWords) where
  found64 : s.count ≡ 48 → well_formed s.bytes ≡ true → Text64 (joined ws) s → s.form ≡ Base64 → SpellsDhcid ws s.bytes
  found64 n test (Text64.begun h) f = absurd (omega (arith, h.more))
  found64 n test (Text64.done h) f = record { form = inl h.chars; bytes = h.small; test = test }
  found64 n test (Text64.refused h) f = cc

  found16 : (digits : List (List ℕ)) → s.count ≡ 70 → well_formed s.bytes ≡ true → ws ≡ marker ∷ thirty_five ∷ digits → Every (λ w. length w % 2 ≡ 0) digits
      → Begun16 (joined digits) s → SpellsDhcid ws s.bytes
  found16 digits n test e even h =
      let all = sym (all_read (joined digits) s h n) in
      record {
        form =
            inr
            (record {
              digits = digits;
              words = e;
              even = even;
              pairs = h.pairs;
              all = h.chars;
              bytes = subst (Pairwise HexByte h.pairs) all h.spelled;
            });
        bytes = subst (Every (λ b. b < 256)) all h.small;
        test = test;
      }

  pub spelled : Complete s → well_formed s.bytes ≡ true → After ws s → SpellsDhcid ws s.bytes
  spelled c test (After.nothing g e) = ⊎_elim (λ p. cc) (λ p. cc) c
  spelled c test (After.in_base64 g v vs e other t) = ⊎_elim (λ p. found64 p.1 test t g) (λ p. cc) c
  spelled c test (After.marked g e) = ⊎_elim (λ p. cc) (λ p. cc) c
  spelled c test (After.generic g digits e even h) = ⊎_elim (λ p. cc) (λ p. found16 digits p.1 test e even h) c
  spelled c test (After.refused g none) = ⊎_elim (λ p. cc) (λ p. cc) c

  module _ (bs : List ℕ) (sp : SpellsDhcid ws bs) where
    only64 : s.count ≡ 48 → s.form ≡ Base64 → joined ws ≡ base64 bs → Text64 (joined ws) s → bs ≡ s.bytes
    only64 n f e (Text64.begun h) = absurd (omega (arith, h.more))
    only64 n f e (Text64.done h) = same_bytes bs s.bytes 11 sp.bytes h.small (dhcid_length bs sp.test) h.long (sym e ∙ h.chars)
    only64 n f e (Text64.refused h) = cc

    only16 : (digits : List (List ℕ)) → s.count ≡ 70 → ws ≡ marker ∷ thirty_five ∷ digits → Begun16 (joined digits) s → bs ≡ s.bytes
    only16 digits n e h =
        let g = in_generic ws (thirty_five ∷ digits) bs sp e in
        same_pairs g.pairs h.pairs bs h.read g.bytes h.spelled (sym g.all ∙ ap joined (digits_of ws digits bs g e) ∙ h.chars)
        ∙ sym (all_read (joined digits) s h n)

    only : Complete s → After ws s → bs ≡ s.bytes
    only c (After.nothing g e) = ⊎_elim (λ p. cc) (λ p. cc) c
    only c (After.in_base64 g v vs e other t) = ⊎_elim (λ p. only64 p.1 g (in_base64 ws vs bs sp v e other) t) (λ p. cc) c
    only c (After.marked g e) = ⊎_elim (λ p. cc) (λ p. cc) c
    only c (After.generic g digits e even h) = ⊎_elim (λ p. cc) (λ p. only16 digits p.1 e h) c
    only c (After.refused g none) = ⊎_elim (λ p. cc) (λ p. cc) c

    pub test_fails : Complete s → well_formed s.bytes ≡ false → After ws s → ⊥
    test_fails c test h = true≢false (sym sp.test ∙ ap well_formed (only c h) ∙ test)

    short64 : (Complete s → ⊥) → joined ws ≡ base64 bs → Text64 (joined ws) s → s.form ≡ Base64 → ⊥
    short64 c e (Text64.begun h) f = omega (arith, h.more, length_begun (joined ws) s h, ap length e, length_base64 bs (dhcid_length bs sp.test))
    short64 c e (Text64.done h) f = c (inl (h.form, h.count))
    short64 c e (Text64.refused h) f = cc

    pub incomplete : (Complete s → ⊥) → After ws s → ⊥
    unfolding joined
    incomplete c (After.nothing g e) =
        ⊎_elim (λ b. omega (arith, ap length (sym (ap joined e) ∙ b), length_base64 bs (dhcid_length bs sp.test))) (λ h. nil≢cons (sym e ∙ h.words)) sp.form
    incomplete c (After.in_base64 g v vs e other t) = short64 c (in_base64 ws vs bs sp v e other) t g
    incomplete c (After.marked g e) = nil≢cons (tail-eq_of_cons-eq (sym e ∙ (in_generic ws [] bs sp e).words))
    incomplete c (After.generic g digits e even h) =
        let q = in_generic ws (thirty_five ∷ digits) bs sp e in
        c
        (inr (
          g,
          omega (
            arith,
            h.count,
            dhcid_length bs sp.test,
            length_pairs q.pairs bs q.bytes,
            ap length q.all,
            ap length (ap joined (digits_of ws digits bs q e)),
            ap length h.chars,
            length_pairs h.pairs h.read h.spelled,
          ),
        ))
    incomplete c (After.refused g none) = none [] bs (subst (λ (l : List (List ℕ)). SpellsDhcid l bs) (sym (append-nil ws)) sp)

-- ---- one list of words, one DHCID

apart : (ws : List (List ℕ)) (bs cs : List ℕ) → Every (λ b. b < 256) bs → length bs ≡ 35 → joined ws ≡ base64 bs → Generic ws cs → ⊥
apart ws bs cs small long e g = no_base64 (thirty_five ∷ g.digits) bs small long (ap joined (sym g.words) ∙ e)

pub forms_are_apart : (ws : List (List ℕ)) (bs cs : List ℕ) → SpellsDhcid ws bs → joined ws ≡ base64 bs → Generic ws cs → ⊥
forms_are_apart ws bs cs s e g = apart ws bs cs s.bytes (dhcid_length bs s.test) e g

pub dhcid_one : (ws : List (List ℕ)) (bs cs : List ℕ) → SpellsDhcid ws bs → SpellsDhcid ws cs → bs ≡ cs
dhcid_one ws bs cs s t =
    ⊎_elim
    (λ e.
    ⊎_elim (λ e'. same_bytes bs cs 11 s.bytes t.bytes (dhcid_length bs s.test) (dhcid_length cs t.test) (sym e ∙ e'))
    (λ g. absurd (apart ws bs cs s.bytes (dhcid_length bs s.test) e g)) t.form)
    (λ g.
    ⊎_elim (λ e'. absurd (apart ws cs bs t.bytes (dhcid_length cs t.test) e' g))
    (λ g'.
    same_pairs g.pairs g'.pairs bs cs g.bytes g'.bytes
    (sym g.all ∙ ap joined (digits_of ws g'.digits bs g g'.words) ∙ g'.all)) t.form)
    s.form

pub dhcid_written : (bs : List ℕ) → Every (λ b. b < 256) bs → well_formed bs ≡ true → SpellsDhcid (base64 bs ∷ []) bs
unfolding joined
dhcid_written bs small test = record { form = inl (append-nil (base64 bs)); bytes = small; test = test }
