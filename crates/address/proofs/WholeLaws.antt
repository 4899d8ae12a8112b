-- An AAAA of 39 bytes: each of its groups has four digits, so that all stand at places that are known. Assumes nothing.
use Prim.Native.Nat.{ℕ, zero, suc, ◌+◌, ◌*◌, ◌/◌, ◌%◌, ◌≤◌, ◌<◌}
use mathlib.Core.Path.{◌≡◌, refl, sym, ap, subst, ◌∙◌}
use mathlib.Core.List.{List, [], ◌∷◌, ◌++◌}
use native.Mathlib.Omega.{arith}
use lib.ListN.{length, get_or, get_or-append}
use lib.Seq.{ext_get_or, get_or_at, get_or-append-add}
use Rattle.base.specs.Bytes.{big_endian, in_bytes, tabulate}
use Rattle.base.specs.Logic.{Every, Pairwise}
use Rattle.base.proofs.Fill.{length_tabulate, get_d_tabulate}
use Rattle.base.proofs.Lists.{every_at}
use Rattle.base.proofs.Fill.{looked_up}
use Rattle.text.specs.Digits.{digit_value, value, separated}
use Rattle.text.proofs.PartLaws.{total, total_separated}
use Rattle.address.specs.Address.{Group, SpellsAAAA}

-- byte k of the address, from its two digits, and that both are digits
unfoldable pub byte_at : List ℕ → ℕ → ℕ
byte_at w k = digit_value (get_or w (2 * k + k / 2) 0) * 16 + digit_value (get_or w (2 * k + k / 2 + 1) 0)

pub record Spelled (w : List ℕ) (k : ℕ) : Type 0 where
  pub high : digit_value (get_or w (2 * k + k / 2) 0) < 16
  pub low : digit_value (get_or w (2 * k + k / 2 + 1) 0) < 16

-- as the table has them
module _ (w values : List ℕ) (table : values ≡ tabulate digit_value 256) (k : ℕ) where
  pub high_value : get_or w (2 * k + k / 2) 0 < 256 → get_or values (get_or w (2 * k + k / 2) 0) 0 ≡ digit_value (get_or w (2 * k + k / 2) 0)
  high_value byte = looked_up digit_value 256 table (get_or w (2 * k + k / 2) 0) byte

  pub low_value : get_or w (2 * k + k / 2 + 1) 0 < 256 → get_or values (get_or w (2 * k + k / 2 + 1) 0) 0 ≡ digit_value (get_or w (2 * k + k / 2 + 1) 0)
  low_value byte = looked_up digit_value 256 table (get_or w (2 * k + k / 2 + 1) 0) byte

-- ---- what stands so is an AAAA

module _ (x y z u : ℕ) (hx : digit_value x < 16) (hy : digit_value y < 16) (hz : digit_value z < 16) (hu : digit_value u < 16) where
  four_digits : Group (x ∷ y ∷ z ∷ u ∷ []) (value 16 0 (x ∷ y ∷ z ∷ u ∷ []))
  four_digits =
      record {
        hexadecimal =
            record { some = omega arith; digits = Every.more hx (Every.more hy (Every.more hz (Every.more hu Every.none))); number = refl };
        short = omega arith;
      }

  two_bytes : big_endian 2 (value 16 0 (x ∷ y ∷ z ∷ u ∷ [])) ≡ (digit_value x * 16 + digit_value y) ∷ (digit_value z * 16 + digit_value u) ∷ []
  unfolding value big_endian
  two_bytes =
      let n : ℕ = (((0 * 16 + digit_value x) * 16 + digit_value y) * 16 + digit_value z) * 16 + digit_value u in
      let high : n / 256 % 256 ≡ digit_value x * 16 + digit_value y = omega arith in
      let low : n / 1 % 256 ≡ digit_value z * 16 + digit_value u = omega arith in
      λ i. high i ∷ low i ∷ []

module _ (g : ℕ → ℕ) where
  -- the four bytes of group j, and eight groups with these seven bytes between them
  unfoldable four : ℕ → List ℕ
  four j = g (5 * j) ∷ g (5 * j + 1) ∷ g (5 * j + 2) ∷ g (5 * j + 3) ∷ []

  unfoldable joined : (a b c d e f h : ℕ) → List ℕ
  joined a b c d e f h =
      four 0 ++ a ∷ (four 1 ++ b ∷ (four 2 ++ c ∷ (four 3 ++ d ∷ (four 4 ++ e ∷ (four 5 ++ f ∷ (four 6 ++ h ∷ four 7))))))

listed : (w : List ℕ) (n : ℕ) → length w ≡ n → w ≡ tabulate (λ p. get_or w p 0) n
listed w n long =
    sym (ext_get_or 0 (tabulate (λ p. get_or w p 0) n) w (length_tabulate (λ p. get_or w p 0) n ∙ sym long)
    (λ i lt. get_d_tabulate (λ p. get_or w p 0) n i (omega (arith, length_tabulate (λ p. get_or w p 0) n))))

eight : {A : Type 0} → (ℕ → A) → List A
eight f = f 0 ∷ f 1 ∷ f 2 ∷ f 3 ∷ f 4 ∷ f 5 ∷ f 6 ∷ f 7 ∷ []

module _ (w : List ℕ) (long : length w ≡ 39) (colons : (j : ℕ) → j < 7 → get_or w (5 * j + 4) 0 ≡ 58) (digits : (k : ℕ) → k < 16 → Spelled w k) where
  in_groups : w ≡ separated 58 (eight (four (λ p. get_or w p 0)))
  unfolding tabulate separated four joined eight
  in_groups =
      listed w 39 long
      ∙ (λ i.
      joined (λ p. get_or w p 0) (colons 0 (omega arith) i) (colons 1 (omega arith) i) (colons 2 (omega arith) i) (colons 3 (omega arith) i) (colons 4 (omega arith) i)
      (colons 5 (omega arith) i) (colons 6 (omega arith) i))

  module _ (j : ℕ) (lt : j < 8) where
    digit_at : (r : ℕ) → r < 4 → digit_value (get_or w (5 * j + r) 0) < 16
    digit_at r below = go (r / 2) refl (r % 2) refl
      where
        s : Spelled w (2 * j + r / 2)
        s = digits (2 * j + r / 2) (omega arith)

        go : (q : ℕ) → r / 2 ≡ q → (m : ℕ) → r % 2 ≡ m → digit_value (get_or w (5 * j + r) 0) < 16
        go q eq zero em =
            let same : 2 * (2 * j + r / 2) + (2 * j + r / 2) / 2 ≡ 5 * j + r = omega arith in
            subst (λ (p : ℕ). digit_value (get_or w p 0) < 16) same s.high
        go q eq (suc m) em =
            let same : 2 * (2 * j + r / 2) + (2 * j + r / 2) / 2 + 1 ≡ 5 * j + r = omega arith in
            subst (λ (p : ℕ). digit_value (get_or w p 0) < 16) same s.low

    first_at : digit_value (get_or w (5 * j) 0) < 16
    first_at = subst (λ (p : ℕ). digit_value (get_or w p 0) < 16) (omega arith) (digit_at 0 (omega arith))

    group_at : Group (four (λ p. get_or w p 0) j) (value 16 0 (four (λ p. get_or w p 0) j))
    unfolding four
    group_at = four_digits _ _ _ _ first_at (digit_at 1 (omega arith)) (digit_at 2 (omega arith)) (digit_at 3 (omega arith))

    bytes_at : big_endian 2 (value 16 0 (four (λ p. get_or w p 0) j))
        ≡ (digit_value (get_or w (5 * j) 0) * 16 + digit_value (get_or w (5 * j + 1) 0)) ∷ (digit_value (get_or w (5 * j + 2) 0) * 16 + digit_value (get_or w (5 * j + 3) 0)) ∷ []
    unfolding four
    bytes_at = two_bytes _ _ _ _ first_at (digit_at 1 (omega arith)) (digit_at 2 (omega arith)) (digit_at 3 (omega arith))

  in_two_bytes : tabulate (byte_at w) 16 ≡ in_bytes 2 (eight (λ j. value 16 0 (four (λ p. get_or w p 0) j)))
  unfolding tabulate byte_at in_bytes eight
  in_two_bytes =
      sym
      (λ i.
      bytes_at 0 (omega arith) i ++ (bytes_at 1 (omega arith) i ++ (bytes_at 2 (omega arith) i ++ (bytes_at 3 (omega arith) i
      ++ (bytes_at 4 (omega arith) i ++ (bytes_at 5 (omega arith) i ++ (bytes_at 6 (omega arith) i ++ (bytes_at 7 (omega arith) i ++ []))))))))

  pub whole_spells : SpellsAAAA w (tabulate (byte_at w) 16)
  unfolding eight
  whole_spells =
      record {
        parts = eight (four (λ p. get_or w p 0));
        numbers = eight (λ j. value 16 0 (four (λ p. get_or w p 0) j));
        word = in_groups;
        groups =
            Pairwise.more (group_at 0 (omega arith)) (Pairwise.more (group_at 1 (omega arith)) (Pairwise.more (group_at 2 (omega arith)) (Pairwise.more (group_at 3 (omega arith))
            (Pairwise.more (group_at 4 (omega arith)) (Pairwise.more (group_at 5 (omega arith)) (Pairwise.more (group_at 6 (omega arith)) (Pairwise.more (group_at 7 (omega arith)) Pairwise.none)))))));
        eight = refl;
        bytes = in_two_bytes;
      }

-- ---- an AAAA stands so

as_many : {ps : List (List ℕ)} {ns : List ℕ} → Pairwise Group ps ns → length ps ≡ length ns
as_many Pairwise.none = refl
as_many (Pairwise.more h hs) = omega (arith, as_many hs)

total_groups : {ps : List (List ℕ)} {ns : List ℕ} → Pairwise Group ps ns → total ps ≤ 5 * length ns
unfolding total
total_groups Pairwise.none = omega arith
total_groups (Pairwise.more h hs) = omega (arith, h.short, total_groups hs)

-- where groups are as long as they can be, the first is, and so are the others
module _ {p : List ℕ} {n : ℕ} {ps : List (List ℕ)} {ns : List ℕ} (h : Group p n) (hs : Pairwise Group ps ns) (all : total (p ∷ ps) ≡ 5 * length (n ∷ ns)) where
  first_full : length p ≡ 4
  unfolding total
  first_full = omega (arith, h.short, total_groups hs)

  rest_full : total ps ≡ 5 * length ns
  unfolding total
  rest_full = omega (arith, h.short, total_groups hs)

-- group j of n groups in w: its digits, and the colon after it unless it is the last
record Stands (w : List ℕ) (n j : ℕ) : Type 0 where
  digits : (r : ℕ) → r < 4 → digit_value (get_or w (5 * j + r) 0) < 16
  colon : j + 1 < n → get_or w (5 * j + 4) 0 ≡ 58

stands_last : {p : List ℕ} {n : ℕ} → Group p n → length p ≡ 4 → (j : ℕ) → j < 1 → Stands p 1 j
stands_last {p} h long j lt =
    record { digits = λ r below. every_at p h.hexadecimal.digits (5 * j + r) (omega arith); colon = λ more. absurd (omega arith) }

module _ {p : List ℕ} {m : ℕ} (u : List ℕ) (h : Group p m) (long : length p ≡ 4) where
  stands_first : (n : ℕ) → Stands (p ++ 58 ∷ u) n 0
  stands_first n =
      record {
        digits =
            λ r below.
            subst (λ (x : ℕ). digit_value x < 16) (sym (get_or-append p (58 ∷ u) 0 (5 * 0 + r) (omega arith))) (every_at p h.hexadecimal.digits (5 * 0 + r) (omega arith));
        colon = λ more. get_or_at p 58 u 0 4 long;
      }

  behind : (j r : ℕ) → get_or (p ++ 58 ∷ u) (5 * suc j + r) 0 ≡ get_or u (5 * j + r) 0
  behind j r =
      let place : 5 * suc j + r ≡ length p + suc (5 * j + r) = omega arith in
      ap (λ (k : ℕ). get_or (p ++ 58 ∷ u) k 0) place ∙ get_or-append-add p (58 ∷ u) (suc (5 * j + r)) 0

  stands_next : (n : ℕ) → ((j : ℕ) → j < n → Stands u n j) → (j : ℕ) → j < suc n → Stands (p ++ 58 ∷ u) (suc n) j
  stands_next n rest zero lt = stands_first (suc n)
  stands_next n rest (suc j) lt =
      let s = rest j (omega arith) in
      record {
        digits = λ r below. subst (λ (x : ℕ). digit_value x < 16) (sym (behind j r)) (s.digits r below);
        colon = λ more. behind j 4 ∙ s.colon (omega arith);
      }

stands : {ps : List (List ℕ)} {ns : List ℕ} → Pairwise Group ps ns → total ps ≡ 5 * length ns → (j : ℕ) → j < length ns → Stands (separated 58 ps) (length ns) j
unfolding separated
stands Pairwise.none all j lt = absurd (omega arith)
stands (Pairwise.more h Pairwise.none) all j lt = stands_last h (first_full h Pairwise.none all) j lt
stands (Pairwise.more h (Pairwise.more {l} {m} k ks)) all j lt =
    stands_next _ h (first_full h (Pairwise.more k ks) all) _ (stands (Pairwise.more k ks) (rest_full h (Pairwise.more k ks) all)) j lt

module _ (w bs : List ℕ) (long : length w ≡ 39) (s : SpellsAAAA w bs) where
  group_stands : (j : ℕ) → j < 8 → Stands w 8 j
  group_stands j lt =
      let some : 1 ≤ length s.parts = omega (arith, as_many s.groups, s.eight) in
      let all : total s.parts ≡ 5 * length s.numbers = omega (arith, total_separated 58 s.parts some, ap length s.word, s.eight) in
      subst (λ (n : ℕ). Stands w n j) s.eight
      (subst (λ (t : List ℕ). Stands t (length s.numbers) j) (sym s.word) (stands s.groups all j (omega (arith, s.eight))))

  pub spelled_colons : (j : ℕ) → j < 7 → get_or w (5 * j + 4) 0 ≡ 58
  spelled_colons j lt = (group_stands j (omega arith)).colon (omega arith)

  pub spelled_digits : (k : ℕ) → k < 16 → Spelled w k
  spelled_digits k lt =
      let g = group_stands (k / 2) (omega arith) in
      let high : 5 * (k / 2) + 2 * (k % 2) ≡ 2 * k + k / 2 = omega arith in
      let low : 5 * (k / 2) + (2 * (k % 2) + 1) ≡ 2 * k + k / 2 + 1 = omega arith in
      record {
        high = subst (λ (p : ℕ). digit_value (get_or w p 0) < 16) high (g.digits (2 * (k % 2)) (omega arith));
        low = subst (λ (p : ℕ). digit_value (get_or w p 0) < 16) low (g.digits (2 * (k % 2) + 1) (omega arith));
      }
