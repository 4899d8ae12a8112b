-- The readers of an A's and an AAAA's data (specs/AddressReader.antt) find just the bytes that a word spells. Both read numbers with a separator between
-- them, as the relation From of text has it. Assumes nothing.
use Prim.Native.Nat.{ℕ, zero, suc, ◌+◌, ◌*◌, ◌≤◌}
use mathlib.Core.Bool.{Bool, true, false, ◌&&◌, ◌||◌}
use mathlib.Core.Path.{◌≡◌, refl, sym, ap, subst, ◌∙◌}
use mathlib.Core.Option.{Option, some, bind, bind-eq-some_iff, map-eq-some_iff, map, some-injective}
use mathlib.Core.List.{List, [], ◌∷◌}
use native.Mathlib.Omega.{arith}
use lib.Dec.{leb, ltb, eqb}
use lib.ListN.{length}
use borrow.Author.Tests.{lt-ltb, ltb-true, le-leb, leb-true, eq-eqb, ne_eqb, eqb-true, eqb-false}
use Rattle.base.specs.Bytes.{in_bytes}
use Rattle.base.proofs.Tests.{and_left, and_right}
use Rattle.address.specs.Address.{SpellsA, SpellsAAAA}
use Rattle.text.specs.Digits.{digit_value}
use Rattle.text.specs.Field.{Fields, Usable, Allowed}
use Rattle.text.specs.declared.field.Form.{Form}
use Rattle.address.specs.Forms.{octets, groups}
use Rattle.address.proofs.AddressLaws.{octets_usable, groups_usable, a_fields, fields_a, aaaa_fields, fields_aaaa}
use Rattle.text.proofs.FieldLaws.{From, fields_from, from_is_fields}
use Rattle.grammar.specs.Deciding.{provided}
use Rattle.grammar.specs.AddressReader.{is_allowed, fields_of, numbers_of, a_of, aaaa_of}
use Rattle.grammar.proofs.Deciding.{Reads, provided_is}

-- the test of a leading zero: none in a number of more than one digit, unless the form has such
no_lead : (v n : ℕ) (zeros : Bool) → (zeros ≡ false → 1 ≤ n → 1 ≤ v) → (zeros || eqb n 0 || leb 1 v) ≡ true
no_lead v n true h = refl
no_lead v zero false h = refl
no_lead v (suc n) false h = ap (λ (b : Bool). b || leb 1 v) (ne_eqb (suc n) 0 (omega arith)) ∙ le-leb 1 v (h refl (omega arith))

module _ (f : Form) where
  -- ---- the test of a digit

  module _ (v n d : ℕ) where
    allowed_test : Allowed f v n d → is_allowed f v n d ≡ true
    allowed_test a =
        let small : leb (v * f.base + d) f.greatest ≡ true = le-leb (v * f.base + d) f.greatest a.small in
        λ i. lt-ltb d f.base a.digit i && lt-ltb n f.most a.room i && no_lead v n f.leading_zeros a.leading i && small i

    test_allowed : is_allowed f v n d ≡ true → Allowed f v n d
    test_allowed e =
        let digit : Bool = ltb d f.base in
        let room : Bool = ltb n f.most in
        let leading : Bool = f.leading_zeros || eqb n 0 || leb 1 v in
        let small : Bool = leb (v * f.base + d) f.greatest in
        let three = and_left (digit && room && leading) small e in
        let two = and_left (digit && room) leading three in
        record {
          digit = ltb-true d f.base (and_left digit room two);
          room = ltb-true n f.most (and_right digit room two);
          leading = λ z some_digit.
              leb-true 1 v (sym (λ i. z i || ne_eqb n 0 (omega arith) i || leb 1 v) ∙ and_right (digit && room) leading three);
          small = leb-true (v * f.base + d) f.greatest (and_right (digit && room && leading) small e);
        }

  -- ---- what a text goes on to is found

  found : {v n : ℕ} {t ns : List ℕ} → From f v n t ns → fields_of f v n t ≡ some ns
  unfolding fields_of provided
  found {n} (From.last digits) = rw (le-leb 1 n digits)
  found {n} (From.next {x} e digits h) = rw (eq-eqb x f.separator e, le-leb 1 n digits, found h)
  found {v} {n} (From.digit {x} ne a h) = rw (ne_eqb x f.separator ne, allowed_test v n (digit_value x) a) (found h)

  -- ---- what is found is what the text goes on to

  -- one byte: the separator, or a digit
  module _ (x v n : ℕ) (t ns : List ℕ) (rest : (v n : ℕ) (ns : List ℕ) → fields_of f v n t ≡ some ns → From f v n t ns) where
    was_next : x ≡ f.separator → provided (leb 1 n) (map (λ (ns : List ℕ). v ∷ ns) (fields_of f 0 0 t)) ≡ some ns → From f v n (x ∷ t) ns
    was_next e q =
        let through = provided_is q in
        let tail = (map-eq-some_iff (λ (ns : List ℕ). v ∷ ns) (fields_of f 0 0 t)).0 through.1 in
        subst (From f v n (x ∷ t)) tail.2 (From.next e (leb-true 1 n through.0) (rest 0 0 tail.0 tail.1))

    was_digit : (x ≡ f.separator → ⊥) → provided (is_allowed f v n (digit_value x)) (fields_of f (v * f.base + digit_value x) (n + 1) t) ≡ some ns
        → From f v n (x ∷ t) ns
    was_digit ne q =
        let through = provided_is q in
        From.digit ne (test_allowed v n (digit_value x) through.0) (rest (v * f.base + digit_value x) (n + 1) ns through.1)

    was_byte : (b : Bool) → eqb x f.separator ≡ b → fields_of f v n (x ∷ t) ≡ some ns → From f v n (x ∷ t) ns
    unfolding fields_of
    was_byte true z q = was_next (eqb-true x f.separator z) (rw z at q)
    was_byte false z q = was_digit (eqb-false x f.separator z) (rw z at q)

  goes : (t : List ℕ) (v n : ℕ) (ns : List ℕ) → fields_of f v n t ≡ some ns → From f v n t ns
  goes [] v n ns q =
      let end : provided (leb 1 n) (some (v ∷ [])) ≡ some ns = unfold fields_of in q in
      let through = provided_is end in
      subst (From f v n []) (some-injective (v ∷ []) ns through.1) (From.last (leb-true 1 n through.0))
  goes (x ∷ t) v n ns q = was_byte x v n t ns (goes t) (eqb x f.separator) refl q

  -- ---- the numbers of a word, both ways

  module _ (usable : Usable f) where
    numbers_found : (w ns : List ℕ) → Fields f w ns → numbers_of f w ≡ some ns
    unfolding numbers_of bind provided
    numbers_found w ns h = rw (found (fields_from f usable w ns h), eq-eqb (length ns) f.count h.count)

    numbers_are : (w ns : List ℕ) → numbers_of f w ≡ some ns → Fields f w ns
    unfolding numbers_of
    numbers_are w ns q =
        let all = (bind-eq-some_iff (fields_of f 0 0 w) (λ ns. provided (eqb (length ns) f.count) (some ns))).0 q in
        let through = provided_is all.2 in
        subst (Fields f w) (some-injective all.0 ns through.1)
        (from_is_fields f usable w all.0 (goes w 0 0 all.0 all.1) (eqb-true (length all.0) f.count through.0))

-- ---- addresses

pub a_reads : Reads a_of SpellsA
unfolding a_of
a_reads =
    record {
      finds = λ w bs s. numbers_found octets octets_usable w bs (a_fields w bs s);
      is = λ w bs q. fields_a w bs (numbers_are octets octets_usable w bs q);
    }

pub aaaa_reads : Reads aaaa_of SpellsAAAA
unfolding aaaa_of
aaaa_reads =
    record {
      finds = λ w bs s.
          ap (map (in_bytes 2)) (numbers_found groups groups_usable w s.numbers (aaaa_fields w bs s))
          ∙ ap {B = Option (List ℕ)} some (sym s.bytes);
      is = λ w bs q.
          let numbers = (map-eq-some_iff (in_bytes 2) (numbers_of groups w)).0 q in
          subst (SpellsAAAA w) numbers.2 (fields_aaaa w numbers.0 (numbers_are groups groups_usable w numbers.0 numbers.1));
    }
