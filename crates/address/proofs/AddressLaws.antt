-- The forms of A and AAAA, as the reader of numbers has them, are those of specs/Address.antt. Assumes nothing.
use Prim.Native.Nat.{ℕ, ◌-◌, ◌*◌, ◌^◌, ◌≤◌, ◌<◌}
use mathlib.Core.Bool.{true≢false}
use mathlib.Core.Path.{◌≡◌, refl, sym, ap, ◌∙◌, subst}
use mathlib.Core.Logic.{◌⊎◌}
use mathlib.Core.List.{List, [], ◌∷◌, ◌++◌, map, append-nil}
use native.Mathlib.Nat.{one-mul, pow-le-pow_right}
use native.Mathlib.Omega.{arith}
use lib.ListN.{length, get_or, replicate, get_or-append}
use lib.Seq.{ext_get_or}
use Rattle.std.specs.Prelude.{Some}
use Rattle.base.specs.Bytes.{in_bytes, tabulate}
use Rattle.base.specs.Logic.{Every, Pairwise}
use Rattle.base.proofs.Fill.{length_tabulate, looked_up}
use Rattle.base.proofs.Lists.{every_at, pairwise_by, pairwise_second}
use Rattle.text.specs.Digits.{digit_value, value, separated, decimal}
use Rattle.address.specs.Address.{SpellsA, Group, SpellsAAAA, written_a}
use Rattle.address.specs.Forms.{octets, groups}
use Rattle.text.specs.Field.{Field, Fields, Usable, Numbered, NotNumbered}
use Rattle.text.proofs.DigitLaws.{length_decimal, decimal_number, decimal_shortest, decimal_only, below_power}
use Rattle.text.proofs.FieldLaws.{fields_one}
use Rattle.text.proofs.ScanLaws.{were_read}

pub octets_usable : Usable octets
unfolding digit_value
octets_usable =
    record { base = omega arith; positive = omega arith; greatest = omega arith; most = omega arith; some = omega arith; few = omega arith; separates = refl }

pub groups_usable : Usable groups
unfolding digit_value
groups_usable =
    record { base = omega arith; positive = omega arith; greatest = omega arith; most = omega arith; some = omega arith; few = omega arith; separates = refl }

-- ---- the numbers of an A, and what is written for them

octet_field : (b : ℕ) → b < 256 → Field octets (decimal 3 b) b
octet_field b byte =
    record {
      number = decimal_number 2 b (omega arith);
      short = length_decimal 3 b;
      shortest = λ z. decimal_shortest 2 b (omega arith);
      small = omega arith;
    }

octet_fields : (bs : List ℕ) → Every (λ b. b < 256) bs → Pairwise (Field octets) (map (decimal 3) bs) bs
octet_fields [] h = Pairwise.none
octet_fields (b ∷ bs) (Every.more hb h) = Pairwise.more (octet_field b hb) (octet_fields bs h)

pub a_fields : (w bs : List ℕ) → SpellsA w bs → Fields octets w bs
unfolding written_a
a_fields w bs s = record { parts = map (decimal 3) bs; word = s.word; fields = octet_fields bs s.bytes; count = s.four }

octet_parts_lem : (ps : List (List ℕ)) (bs : List ℕ) → Pairwise (Field octets) ps bs → ps ≡ map (decimal 3) bs
octet_parts_lem [] [] Pairwise.none = refl
octet_parts_lem (p ∷ ps) (b ∷ bs) (Pairwise.more h hs) = λ i. decimal_only 3 p b h.number (h.shortest refl) h.short i ∷ octet_parts_lem ps bs hs i
octet_parts_lem [] (b ∷ bs) x'' = elim x'' [ ]
octet_parts_lem (p ∷ ps) [] x3 = elim x3 [ ]

pub octets_small : (w ns : List ℕ) → Fields octets w ns → Every (λ n. n < 256) ns
octets_small w ns h = pairwise_second (λ p n g. let small : n ≤ 255 = g.small in omega arith) h.fields

pub fields_a : (w bs : List ℕ) → Fields octets w bs → SpellsA w bs
unfolding written_a
fields_a w bs h =
    record { word = h.word ∙ ap (separated 46) (octet_parts_lem h.parts bs h.fields); bytes = octets_small w bs h; four = h.count }

-- ---- the groups of an AAAA

group_field : (p : List ℕ) (n : ℕ) → Group p n → Field groups p n
group_field p n h =
    let below : value 16 0 p < 1 * 16 ^ length p = below_power 0 p h.hexadecimal.digits in
    let power : 16 ^ length p ≤ 16 ^ 4 = pow-le-pow_right (omega arith) h.short in
    record {
      number = h.hexadecimal;
      short = h.short;
      shortest = λ z. absurd (true≢false z);
      small = omega (arith, one-mul (16 ^ length p), h.hexadecimal.number);
    }

field_group : (p : List ℕ) (n : ℕ) → Field groups p n → Group p n
field_group p n h = record { hexadecimal = h.number; short = h.short }

pub aaaa_fields : (w bs : List ℕ) (s : SpellsAAAA w bs) → Fields groups w s.numbers
aaaa_fields w bs s = record { parts = s.parts; word = s.word; fields = pairwise_by group_field s.groups; count = s.eight }

pub fields_aaaa : (w ns : List ℕ) → Fields groups w ns → SpellsAAAA w (in_bytes 2 ns)
fields_aaaa w ns h =
    record { parts = h.parts; numbers = ns; word = h.word; groups = pairwise_by field_group h.fields; eight = h.count; bytes = refl }

-- ---- what the reader of numbers answered

module _ (w vs : List ℕ) where
  module _ (answer : Numbered octets w (Some vs) ⊎ NotNumbered octets w (Some vs)) where
    -- the first four values are the numbers
    number_at : (i : ℕ) → i < 4 → let ns = (were_read answer).0 in (i < length ns) × (get_or vs i 0 ≡ get_or ns i 0)
    number_at i lt =
        let r = were_read answer in
        let within : i < length r.0 = omega (arith, r.1.count) in
        (within, ap (λ (l : List ℕ). get_or l i 0) r.2 ∙ get_or-append r.0 (replicate (8 - length r.0) 0) 0 i within)

    pub octet_at : (i : ℕ) → i < 4 → get_or vs i 0 < 256
    octet_at i lt =
        let r = were_read answer in
        let n = number_at i lt in
        omega (arith, n.1, every_at r.0 (octets_small w r.0 r.1) i n.0)

    pub a_read : (bytes : List ℕ) → bytes ≡ tabulate (λ i. get_or vs i 0) 4 → SpellsA w bytes
    a_read bytes e =
        let r = were_read answer in
        let four : length bytes ≡ 4 = ap length e ∙ length_tabulate (λ i. get_or vs i 0) 4 in
        let is : bytes ≡ r.0 =
        ext_get_or 0 bytes r.0 (four ∙ sym r.1.count)
        (λ i lt. let within : i < 4 = omega arith in looked_up (λ k. get_or vs k 0) 4 e i within ∙ (number_at i within).1) in
        subst (SpellsA w) (sym is) (fields_a w r.0 r.1)

  pub aaaa_read : (bytes : List ℕ) → Numbered groups w (Some vs) ⊎ NotNumbered groups w (Some vs) → bytes ≡ in_bytes 2 vs → SpellsAAAA w bytes
  aaaa_read bytes answer e =
      let r = were_read answer in
      let none : 8 - length r.0 ≡ 0 = omega (arith, r.1.count) in
      let is : vs ≡ r.0 = r.2 ∙ ap (λ (k : ℕ). r.0 ++ replicate k 0) none ∙ append-nil r.0 in
      subst (SpellsAAAA w) (sym (e ∙ ap (in_bytes 2) is)) (fields_aaaa w r.0 r.1)

-- ---- one word, one address

pub a_one : (w bs cs : List ℕ) → SpellsA w bs → SpellsA w cs → bs ≡ cs
a_one w bs cs s t = fields_one octets octets_usable w bs cs (a_fields w bs s) (a_fields w cs t)

pub aaaa_one : (w bs cs : List ℕ) → SpellsAAAA w bs → SpellsAAAA w cs → bs ≡ cs
aaaa_one w bs cs s t =
    s.bytes ∙ ap (in_bytes 2) (fields_one groups groups_usable w s.numbers t.numbers (aaaa_fields w bs s) (aaaa_fields w cs t)) ∙ sym t.bytes
