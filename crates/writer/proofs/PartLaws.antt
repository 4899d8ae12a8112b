-- Laws of specs/Parts.antt: the parts of a line by the number of the type, how long they are, and what is written one after the other. Assumes nothing.
use Prim.Native.Nat.{ℕ, ◌+◌, ◌-◌, ◌*◌, ◌≤◌, ◌<◌}
use mathlib.Core.Bool.{Bool, cond}
use mathlib.Core.Path.{◌≡◌, ap, ap₂, ◌∙◌}
use mathlib.Core.List.{List, [], ◌∷◌, ◌++◌}
use native.Mathlib.Omega.{arith}
use lib.Dec.{eqb}
use lib.ListN.{length, take, set, length-append}
use lib.Seq.{length-take-le}
use borrow.Author.Tests.{ne_eqb}
use Rattle.base.specs.Bytes.{overlay, ascii}
use Rattle.base.proofs.Bytes.{overlay_append, set_overlay}
use Rattle.name.specs.Promise.{text_of}
use Rattle.name.proofs.DottedLaws.{length_text_of}
use Rattle.address.specs.Address.{written_a, written_aaaa}
use Rattle.dhcid_text.specs.Dhcid.{base64}
use Rattle.dhcid_text.proofs.Base64Laws.{length_base64}
use Rattle.text.proofs.DigitLaws.{length_decimal}
use Rattle.text.proofs.PartLaws.{total, total_separated}
use Rattle.address.proofs.WrittenLaws.{octet_parts, length_octets, length_written}
use Rattle.entry.specs.declared.Record.{Record}
use Rattle.writer.specs.Parts.{type_part, rdata_part, rest_part, line_of}

-- ---- by the number of the type

module _ (n : ℕ) where
  pub type_a : n ≡ 1 → type_part n ≡ 32 ∷ 65 ∷ 32 ∷ []
  unfolding type_part ascii
  type_a e = ap type_part e

  pub type_aaaa : n ≡ 28 → type_part n ≡ 32 ∷ 65 ∷ 65 ∷ 65 ∷ 65 ∷ 32 ∷ []
  unfolding type_part ascii
  type_aaaa e = ap type_part e

  pub type_dhcid : (n ≡ 1 → ⊥) → (n ≡ 28 → ⊥) → type_part n ≡ 32 ∷ 68 ∷ 72 ∷ 67 ∷ 73 ∷ 68 ∷ 32 ∷ []
  unfolding type_part ascii
  type_dhcid f g = λ i. cond (ne_eqb n 1 f i) (ascii " A ") (cond (ne_eqb n 28 g i) (ascii " AAAA ") (ascii " DHCID "))

  module _ (bs : List ℕ) where
    pub rdata_a : n ≡ 1 → rdata_part n bs ≡ written_a (take 4 bs)
    unfolding rdata_part
    rdata_a e = ap (λ (k : ℕ). rdata_part k bs) e

    pub rdata_aaaa : n ≡ 28 → rdata_part n bs ≡ written_aaaa (take 16 bs)
    unfolding rdata_part
    rdata_aaaa e = ap (λ (k : ℕ). rdata_part k bs) e

    pub rdata_dhcid : (n ≡ 1 → ⊥) → (n ≡ 28 → ⊥) → rdata_part n bs ≡ base64 bs
    unfolding rdata_part
    rdata_dhcid f g = λ i. cond (ne_eqb n 1 f i) (written_a (take 4 bs)) (cond (ne_eqb n 28 g i) (written_aaaa (take 16 bs)) (base64 bs))

-- ---- how long the parts are

octets_total : (bs : List ℕ) → total (octet_parts bs) ≤ 4 * length bs
unfolding total
octets_total [] = omega arith
octets_total (b ∷ bs) = omega (arith, octets_total bs, length_decimal 3 b)

pub length_a : (bs : List ℕ) → length bs ≡ 4 → length (written_a bs) ≤ 15
unfolding written_a
length_a bs four = omega (arith, octets_total bs, total_separated 46 (octet_parts bs) (omega (arith, length_octets bs)))

pub length_aaaa : (bs : List ℕ) → length bs ≡ 16 → length (written_aaaa bs) ≡ 39
unfolding written_aaaa
length_aaaa bs sixteen = length_written bs sixteen

pub length_type : (n : ℕ) → length (type_part n) ≤ 7
unfolding type_part ascii
length_type n = go (eqb n 1) (eqb n 28)
  where
    go : (a b : Bool) → length (cond a (ascii " A ") (cond b (ascii " AAAA ") (ascii " DHCID "))) ≤ 7
    go Bool.true b = omega arith
    go Bool.false Bool.true = omega arith
    go Bool.false Bool.false = omega arith

pub length_rdata : (n : ℕ) (bs : List ℕ) → length bs ≡ 35 → length (rdata_part n bs) ≤ 48
unfolding rdata_part
length_rdata n bs long = go (eqb n 1) (eqb n 28)
  where
    go : (a b : Bool) → length (cond a (written_a (take 4 bs)) (cond b (written_aaaa (take 16 bs)) (base64 bs))) ≤ 48
    go Bool.true b = omega (arith, length_a (take 4 bs) (length-take-le 4 bs (omega arith)))
    go Bool.false Bool.true = omega (arith, length_aaaa (take 16 bs) (length-take-le 16 bs (omega arith)))
    go Bool.false Bool.false = omega (arith, length_base64 bs long)

-- ---- one part behind the other

-- d is `to` with a written from at on, and b is written behind it
written_on : (to d : List ℕ) (at end : ℕ) (a b : List ℕ) → at ≤ length to → d ≡ overlay to at a → end ≡ at + length a → overlay d end b ≡ overlay to at (a ++ b)
written_on to d at end a b within e ends = ap₂ (λ (l : List ℕ) (k : ℕ). overlay l k b) e ends ∙ overlay_append to at a b within

module _ (n : ℕ) (bs : List ℕ) where
  pub length_rest : length (rest_part n bs) ≡ length (type_part n) + length (rdata_part n bs) + 1
  unfolding rest_part ascii
  length_rest = length-append (type_part n ++ rdata_part n bs) (10 ∷ []) ∙ ap (λ (k : ℕ). k + 1) (length-append (type_part n) (rdata_part n bs))

  pub rest_most : length bs ≡ 35 → length (rest_part n bs) ≤ 56
  rest_most long = omega (arith, length_rest, length_type n, length_rdata n bs long)

  pub rest_written : (to t u : List ℕ) (at middle end : ℕ) → at ≤ length to → t ≡ overlay to at (type_part n) → middle ≡ at + length (type_part n)
      → u ≡ overlay t middle (rdata_part n bs) → end ≡ middle + length (rdata_part n bs) → end < length u → set u end 10 ≡ overlay to at (rest_part n bs)
  unfolding rest_part ascii
  rest_written to t u at middle end within et em eu ee room =
      set_overlay u end 10 room
      ∙ written_on to u at end (type_part n ++ rdata_part n bs) (10 ∷ []) within (eu ∙ written_on to t at middle (type_part n) (rdata_part n bs) within et em)
      (omega (arith, length-append (type_part n) (rdata_part n bs)))

module _ (p : Record) (some : 1 ≤ p.owner_len) (within : p.owner_len ≤ length p.owner) where
  abbrev owner_part : List ℕ
  owner_part = text_of (take p.owner_len p.owner)

  length_owner : length owner_part ≡ p.owner_len - 1
  length_owner = length_text_of (take p.owner_len p.owner) ∙ ap (λ (k : ℕ). k - 1) (length-take-le p.owner_len p.owner within)

  pub length_line : length (line_of p) ≡ p.owner_len - 1 + length (rest_part p.rtype p.rdata)
  unfolding line_of
  length_line = length-append owner_part (rest_part p.rtype p.rdata) ∙ ap (λ (k : ℕ). k + length (rest_part p.rtype p.rdata)) length_owner

  pub line_written : (to t u : List ℕ) (at end : ℕ) → at ≤ length to → t ≡ overlay to at owner_part → end ≡ at + p.owner_len - 1
      → u ≡ overlay t end (rest_part p.rtype p.rdata) → u ≡ overlay to at (line_of p)
  unfolding line_of
  line_written to t u at end fits et ee eu = eu ∙ written_on to t at end owner_part (rest_part p.rtype p.rdata) fits et (omega (arith, length_owner))
