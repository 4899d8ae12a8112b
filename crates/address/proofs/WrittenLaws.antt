-- The parts of a written address, one at a time, and how long they are. Assumes nothing.
use Prim.Native.Nat.{ℕ, zero, suc, ◌+◌, ◌*◌, ◌/◌, ◌%◌, ◌≤◌, ◌<◌}
use mathlib.Core.Path.{◌≡◌, refl, sym, ap, ◌∙◌}
use mathlib.Core.List.{List, [], ◌∷◌, ◌++◌, map}
use native.Mathlib.Numerals.{add-one}
use native.Mathlib.Omega.{arith}
use lib.ListN.{length, get_or, take, length-map, get_or-map}
use lib.Seq.{take-suc}
use Rattle.base.specs.Bytes.{big_endian, in_bytes}
use Rattle.base.specs.Logic.{Every, Pairwise}
use Rattle.text.specs.Digits.{digit_value, value, separated, decimal, hex_digit}
use Rattle.address.specs.Address.{SpellsA, Group, SpellsAAAA, four_of, four_digits, written_a, written_aaaa}
use Rattle.text.proofs.DigitLaws.{hex_digit_value}
use Rattle.text.proofs.PartLaws.{total, total_none, total_separated}

-- ---- A

abbrev pub octet_parts : List ℕ → List (List ℕ)
octet_parts bs = map (decimal 3) bs

pub length_octets : (bs : List ℕ) → length (octet_parts bs) ≡ length bs
length_octets bs = length-map bs (decimal 3)

pub octet_part : (bs : List ℕ) (i : ℕ) → i < length bs → take (suc i) (octet_parts bs) ≡ take i (octet_parts bs) ++ (decimal 3 (get_or bs i 0) ∷ [])
octet_part bs i within =
    take-suc (octet_parts bs) i (decimal 3 0) (omega (arith, length_octets bs)) ∙ ap (λ (p : List ℕ). take i (octet_parts bs) ++ (p ∷ [])) (get_or-map (decimal 3) bs i 0)

-- ---- AAAA

total_four : (bs : List ℕ) → total (four_digits bs) ≡ 5 * length (four_digits bs)
unfolding four_digits four_of total
total_four [] = total_none
total_four (a ∷ []) = total_none
total_four (a ∷ b ∷ bs) = omega (arith, total_four bs)

length_four : (bs : List ℕ) → length bs % 2 ≡ 0 → 2 * length (four_digits bs) ≡ length bs
unfolding four_digits
length_four [] e = refl
length_four (a ∷ []) e = absurd (omega arith)
length_four (a ∷ b ∷ bs) e = omega (arith, length_four bs (omega arith))

four_at : (bs : List ℕ) (i j : ℕ) → j ≡ i + i → suc j < length bs → get_or (four_digits bs) i [] ≡ four_of (get_or bs j 0) (get_or bs (suc j) 0)
unfolding four_digits
four_at [] i j e within = absurd (omega arith)
four_at (a ∷ []) i j e within = absurd (omega arith)
four_at (a ∷ b ∷ bs) zero j e within =
    let none : 0 ≡ j = omega arith in
    ap (λ (k : ℕ). four_of (get_or (a ∷ b ∷ bs) k 0) (get_or (a ∷ b ∷ bs) (suc k) 0)) none
four_at (a ∷ b ∷ bs) (suc i) j e within =
    let two : suc (suc (i + i)) ≡ j = omega arith in
    four_at bs i (i + i) refl (omega arith) ∙ ap (λ (k : ℕ). four_of (get_or (a ∷ b ∷ bs) k 0) (get_or (a ∷ b ∷ bs) (suc k) 0)) two

module _ (bs : List ℕ) (long : length bs ≡ 16) where
  pub eight_parts : length (four_digits bs) ≡ 8
  eight_parts = omega (arith, length_four bs (omega arith))

  pub length_written : length (separated 58 (four_digits bs)) ≡ 39
  length_written = omega (arith, eight_parts, total_four bs, total_separated 58 (four_digits bs) (omega (arith, eight_parts)))

  pub written_fits : (at room : ℕ) → at + 39 ≤ room → at + length (separated 58 (four_digits bs)) ≤ room
  written_fits at room fits = omega (arith, length_written)

  pub part_at : (i : ℕ) → i < 8 → take (suc i) (four_digits bs) ≡ take i (four_digits bs) ++ (four_of (get_or bs (2 * i) 0) (get_or bs (2 * i + 1) 0) ∷ [])
  part_at i lt =
      let twice : 2 * i ≡ i + i = omega arith in
      take-suc (four_digits bs) i [] (omega (arith, eight_parts))
      ∙ ap (λ (p : List ℕ). take i (four_digits bs) ++ (p ∷ []))
      (four_at bs i (2 * i) twice (omega arith) ∙ ap (λ (k : ℕ). four_of (get_or bs (2 * i) 0) (get_or bs k 0)) (sym (add-one (2 * i))))

-- ---- what is written spells what was written

pub a_written : (bs : List ℕ) → Every (λ b. b < 256) bs → length bs ≡ 4 → SpellsA (written_a bs) bs
a_written bs bytes four = record { word = refl; bytes = bytes; four = four }

-- each two bytes as a number
numbers_of : List ℕ → List ℕ
numbers_of [] = []
numbers_of (a ∷ []) = []
numbers_of (a ∷ b ∷ bs) = (a * 256 + b) ∷ numbers_of bs

group_written : (a b : ℕ) → a < 256 → b < 256 → Group (four_of a b) (a * 256 + b)
unfolding four_of value
group_written a b ha hb =
    let p : digit_value (hex_digit (a / 16)) ≡ a / 16 = hex_digit_value (a / 16) (omega arith) in
    let q : digit_value (hex_digit (a % 16)) ≡ a % 16 = hex_digit_value (a % 16) (omega arith) in
    let r : digit_value (hex_digit (b / 16)) ≡ b / 16 = hex_digit_value (b / 16) (omega arith) in
    let s : digit_value (hex_digit (b % 16)) ≡ b % 16 = hex_digit_value (b % 16) (omega arith) in
    let hp : digit_value (hex_digit (a / 16)) < 16 = omega arith in
    let hq : digit_value (hex_digit (a % 16)) < 16 = omega arith in
    let hr : digit_value (hex_digit (b / 16)) < 16 = omega arith in
    let hs : digit_value (hex_digit (b % 16)) < 16 = omega arith in
    record {
      hexadecimal = record { some = omega arith; digits = Every.more hp (Every.more hq (Every.more hr (Every.more hs Every.none))); number = omega arith };
      short = omega arith;
    }

groups_written : (bs : List ℕ) → Every (λ b. b < 256) bs → Pairwise Group (four_digits bs) (numbers_of bs)
unfolding four_digits numbers_of
groups_written [] h = Pairwise.none
groups_written (a ∷ []) h = Pairwise.none
groups_written (a ∷ b ∷ bs) (Every.more ha (Every.more hb h)) = Pairwise.more (group_written a b ha hb) (groups_written bs h)

pairs_back : (bs : List ℕ) → Every (λ b. b < 256) bs → length bs % 2 ≡ 0 → bs ≡ in_bytes 2 (numbers_of bs)
unfolding numbers_of in_bytes big_endian
pairs_back [] h even = refl
pairs_back (a ∷ []) h even = absurd (omega arith)
pairs_back (a ∷ b ∷ bs) (Every.more ha (Every.more hb h)) even =
    let high : a ≡ (a * 256 + b) / 256 % 256 = omega arith in
    let low : b ≡ (a * 256 + b) / 1 % 256 = omega arith in
    λ i. high i ∷ low i ∷ pairs_back bs h (omega arith) i

length_numbers : (bs : List ℕ) → length bs % 2 ≡ 0 → 2 * length (numbers_of bs) ≡ length bs
unfolding numbers_of
length_numbers [] e = refl
length_numbers (a ∷ []) e = absurd (omega arith)
length_numbers (a ∷ b ∷ bs) e = omega (arith, length_numbers bs (omega arith))

pub aaaa_written : (bs : List ℕ) → Every (λ b. b < 256) bs → length bs ≡ 16 → SpellsAAAA (written_aaaa bs) bs
unfolding written_aaaa
aaaa_written bs bytes sixteen =
    record {
      parts = four_digits bs;
      numbers = numbers_of bs;
      word = refl;
      groups = groups_written bs bytes;
      eight = omega (arith, length_numbers bs (omega arith));
      bytes = pairs_back bs bytes (omega arith);
    }
