-- The reader of a DHCID record's data (specs/DhcidReader.antt) finds just the bytes that its words spell. Assumes nothing.
use Prim.Native.Nat.{ℕ, ◌+◌, ◌*◌, ◌/◌, ◌%◌, ◌<◌}
use mathlib.Core.Bool.{true}
use mathlib.Core.Path.{◌≡◌, refl, sym, ap, subst, ◌∙◌}
use mathlib.Core.Logic.{inl, inr, ⊎_elim}
use mathlib.Core.Option.{Option, none, some, some-injective, none-ne-some, or_else}
use mathlib.Core.List.{List, [], ◌∷◌}
use native.Mathlib.Nat.{add-zero}
use native.Mathlib.Omega.{arith}
use lib.ListN.{length, take, length-append}
use borrow.Author.Tests.{eqb-true, eq-eqb, lt-ltb, ltb-true}
use Rattle.base.specs.Bytes.{eq_bytes}
use Rattle.base.specs.Dhcid.{well_formed}
use Rattle.base.specs.Logic.{Every, Pairwise}
use Rattle.base.proofs.DhcidLaws.{dhcid_length}
use Rattle.base.proofs.Tests.{eq_bytes_true, eq_eq_bytes}
use Rattle.text.specs.Digits.{digit_value}
use Rattle.dhcid_text.specs.Dhcid.{digit64, base64, joined, HexByte, Generic, SpellsDhcid, marker, thirty_five}
use Rattle.dhcid_text.specs.Base64.{value64}
use Rattle.dhcid_text.proofs.Base64Laws.{value_digit}
use Rattle.dhcid_text.proofs.HexLaws.{hex_byte, digits_pairs, same_pairs}
use Rattle.dhcid_text.proofs.Theorems.{forms_apart}
use Rattle.grammar.specs.Deciding.{provided}
use Rattle.grammar.specs.DhcidReader.{is_byte, tested, threes, unbase64, base64_of, is_even, is_hex, unhex, generic_of, dhcid_of}
use Rattle.grammar.proofs.Deciding.{Reads, provided_by, provided_is, all_true, every_all}

-- ---- what either form asks of the bytes

-- what passes, as a property
record Tested (bs : List ℕ) : Type 0 where
  bytes : Every (λ b. b < 256) bs
  test : well_formed bs ≡ true

tested_finds : (bs : List ℕ) → Tested bs → tested bs ≡ some bs
unfolding tested
tested_finds bs h = provided_by (every_all is_byte (λ b l. lt-ltb b 256 l) bs h.bytes) ∙ provided_by h.test

tested_is : (bs cs : List ℕ) → tested bs ≡ some cs → (bs ≡ cs) × Tested cs
unfolding tested
tested_is bs cs e =
    let h = provided_is e in
    let k = provided_is h.1 in
    let same = some-injective bs cs k.1 in
    (same, subst Tested same (record { bytes = all_true is_byte (λ b l. ltb-true b 256 l) bs h.0; test = k.0 }))

-- ---- base64

-- each byte of a group stands in two digits, together with the bits x, y or z of the bytes beside it
first_byte : (a y : ℕ) → a < 256 → y < 16 → value64 (digit64 (a / 4)) * 4 + value64 (digit64 (a % 4 * 16 + y)) / 16 ≡ a
first_byte a y ha hy = omega (arith, value_digit (a / 4) (omega arith), value_digit (a % 4 * 16 + y) (omega arith))

second_byte : (x b z : ℕ) → x < 4 → b < 256 → z < 4 → value64 (digit64 (x * 16 + b / 16)) % 16 * 16 + value64 (digit64 (b % 16 * 4 + z)) / 4 ≡ b
second_byte x b z hx hb hz = omega (arith, value_digit (x * 16 + b / 16) (omega arith), value_digit (b % 16 * 4 + z) (omega arith))

third_byte : (x c : ℕ) → x < 16 → c < 256 → value64 (digit64 (x * 4 + c / 64)) % 4 * 64 + value64 (digit64 (c % 64)) ≡ c
third_byte x c hx hc = omega (arith, value_digit (x * 4 + c / 64) (omega arith), value_digit (c % 64) (omega arith))

-- the bytes read from a base64 begin with those that were encoded
threes_base64 : (bs : List ℕ) → Every (λ b. b < 256) bs → take (length bs) (threes (base64 bs)) ≡ bs
unfolding threes base64
threes_base64 [] Every.none = refl
threes_base64 (a ∷ []) (Every.more ha Every.none) =
    let last = simp add-zero at (first_byte a 0 ha (omega arith)) in
    λ i. last i ∷ []
threes_base64 (a ∷ b ∷ []) (Every.more ha (Every.more hb Every.none)) =
    let last = simp add-zero at (second_byte (a % 4) b 0 (omega arith) hb (omega arith)) in
    λ i. first_byte a (b / 16) ha (omega arith) i ∷ last i ∷ []
threes_base64 (a ∷ b ∷ c ∷ bs) (Every.more ha (Every.more hb (Every.more hc h))) =
    let rest = threes_base64 bs h in
    λ i.
    first_byte a (b / 16) ha (omega arith) i
    ∷ second_byte (a % 4) b (c / 64) (omega arith) hb (omega arith) i
    ∷ third_byte (b % 16) c (omega arith) hc i
    ∷ rest i

-- so the guess is right for base64
unbase64_base64 : (bs : List ℕ) → Every (λ b. b < 256) bs → length bs ≡ 35 → unbase64 (base64 bs) ≡ bs
unfolding unbase64
unbase64_base64 bs bytes long = ap (λ (n : ℕ). take n (threes (base64 bs))) (sym long) ∙ threes_base64 bs bytes

-- base64 is read, and nothing else
base64_finds : (t bs : List ℕ) → t ≡ base64 bs → Tested bs → length bs ≡ 35 → base64_of t ≡ some bs
unfolding base64_of
base64_finds t bs e h long =
    let guess : unbase64 t ≡ bs = ap unbase64 e ∙ unbase64_base64 bs h.bytes long in
    ap (λ (cs : List ℕ). provided (eq_bytes t (base64 cs)) (tested cs)) guess ∙ provided_by (eq_eq_bytes t (base64 bs) e) ∙ tested_finds bs h

base64_is : (t bs : List ℕ) → base64_of t ≡ some bs → (t ≡ base64 bs) × Tested bs
unfolding base64_of
base64_is t bs e =
    let h = provided_is e in
    let k = tested_is (unbase64 t) bs h.1 in
    (eq_bytes_true t (base64 (unbase64 t)) h.0 ∙ ap base64 k.0, k.1)

-- ---- the generic form

-- the digits t are pairs that spell the bytes bs
record Paired (t bs : List ℕ) : Type 0 where
  pairs : List (List ℕ)
  cut : t ≡ joined pairs
  bytes : Pairwise HexByte pairs bs

-- an even number of digits is such pairs
paired : (t : List ℕ) → length t % 2 ≡ 0 → Every (λ x. digit_value x < 16) t → Paired t (unhex t)
unfolding unhex joined
paired [] even Every.none = record { pairs = []; cut = refl; bytes = Pairwise.none }
paired (x ∷ []) even h = absurd (omega arith)
paired (x ∷ y ∷ t) even (Every.more hx (Every.more hy h)) =
    let rest = paired t (omega arith) h in
    record { pairs = (x ∷ y ∷ []) ∷ rest.pairs; cut = ap (λ (l : List ℕ). x ∷ y ∷ l) rest.cut; bytes = Pairwise.more (hex_byte x y hx hy) rest.bytes }

-- words of even length are so joined
even_joined : (ds : List (List ℕ)) → Every (λ w. length w % 2 ≡ 0) ds → length (joined ds) % 2 ≡ 0
unfolding joined
even_joined [] Every.none = refl
even_joined (w ∷ ds) (Every.more h hs) = omega (arith, length-append w (joined ds), even_joined ds hs)

-- the generic form is read, and nothing else
generic_finds : (ws : List (List ℕ)) (bs : List ℕ) → Generic ws bs → Tested bs → generic_of ws ≡ some bs
unfolding generic_of
generic_finds ws bs g h =
    let t = joined g.digits in
    let digits : Every (λ x. digit_value x < 16) t = subst (Every (λ x. digit_value x < 16)) (sym g.all) (digits_pairs g.pairs bs g.bytes) in
    let read = paired t (even_joined g.digits g.even) digits in
    let same : unhex t ≡ bs = same_pairs read.pairs g.pairs (unhex t) bs read.bytes g.bytes (sym read.cut ∙ g.all) in
    ap generic_of g.words
    ∙ provided_by (eq_eq_bytes marker marker refl)
    ∙ provided_by (eq_eq_bytes thirty_five thirty_five refl)
    ∙ provided_by (every_all is_even (λ w e. eq-eqb (length w % 2) 0 e) g.digits g.even)
    ∙ provided_by (every_all is_hex (λ x l. lt-ltb (digit_value x) 16 l) t digits)
    ∙ ap tested same
    ∙ tested_finds bs h

generic_is : (ws : List (List ℕ)) (bs : List ℕ) → generic_of ws ≡ some bs → Generic ws bs × Tested bs
unfolding generic_of
generic_is [] bs e = absurd (none-ne-some bs e)
generic_is (m ∷ []) bs e = absurd (none-ne-some bs e)
generic_is (m ∷ n ∷ ds) bs e =
    let t = joined ds in
    let h₁ = provided_is e in
    let h₂ = provided_is h₁.1 in
    let h₃ = provided_is h₂.1 in
    let h₄ = provided_is h₃.1 in
    let h₅ = tested_is (unhex t) bs h₄.1 in
    let even : Every (λ w. length w % 2 ≡ 0) ds = all_true is_even (λ w k. eqb-true (length w % 2) 0 k) ds h₃.0 in
    let read = paired t (even_joined ds even) (all_true is_hex (λ x k. ltb-true (digit_value x) 16 k) t h₄.0) in
    let first = eq_bytes_true m marker h₁.0 in
    let second = eq_bytes_true n thirty_five h₂.0 in
    let bytes = subst (Pairwise HexByte read.pairs) h₅.0 read.bytes in
    (record { digits = ds; words = λ i. first i ∷ second i ∷ ds; even = even; pairs = read.pairs; all = read.cut; bytes = bytes }, h₅.1)

-- ---- both forms

-- what is read in one form is spelled
in_base64 : (ws : List (List ℕ)) (bs : List ℕ) → base64_of (joined ws) ≡ some bs → SpellsDhcid ws bs
in_base64 ws bs e = let h = base64_is (joined ws) bs e in record { form = inl h.0; bytes = h.1.bytes; test = h.1.test }

in_generic : (ws : List (List ℕ)) (bs : List ℕ) → generic_of ws ≡ some bs → SpellsDhcid ws bs
in_generic ws bs e = let h = generic_is ws bs e in record { form = inr h.0; bytes = h.1.bytes; test = h.1.test }

-- a DHCID in base64 is read first; one in the generic form is read since it is not base64 too
dhcid_finds : (ws : List (List ℕ)) (bs : List ℕ) → SpellsDhcid ws bs → dhcid_of ws ≡ some bs
unfolding dhcid_of or_else
dhcid_finds ws bs s =
    ⊎_elim
    (λ e. ap (λ (r : Option (List ℕ)). or_else r (generic_of ws)) (base64_finds (joined ws) bs e tests (dhcid_length bs s.test)))
    (λ g. go (base64_of (joined ws)) refl g)
    s.form
  where
    tests : Tested bs
    tests = record { bytes = s.bytes; test = s.test }

    go : (r : Option (List ℕ)) → base64_of (joined ws) ≡ r → Generic ws bs → or_else r (generic_of ws) ≡ some bs
    go none e g = generic_finds ws bs g tests
    go (some cs) e g = absurd (forms_apart ws cs bs (in_base64 ws cs e) (base64_is (joined ws) cs e).0 g)

dhcid_is : (ws : List (List ℕ)) (bs : List ℕ) → dhcid_of ws ≡ some bs → SpellsDhcid ws bs
unfolding dhcid_of or_else
dhcid_is ws bs e = go (base64_of (joined ws)) refl e
  where
    go : (r : Option (List ℕ)) → base64_of (joined ws) ≡ r → or_else r (generic_of ws) ≡ some bs → SpellsDhcid ws bs
    go none q h = in_generic ws bs h
    go (some cs) q h = in_base64 ws bs (q ∙ h)

-- dhcid_of finds just what the words spell
pub dhcid_reads : Reads dhcid_of SpellsDhcid
dhcid_reads = record { finds = dhcid_finds; is = dhcid_is }
