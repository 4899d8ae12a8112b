-- Names that are kept by the offset of their first entry: how one is found among them. Assumes nothing.
use Prim.Native.Nat.{ℕ, ◌+◌, ◌*◌, ◌%◌, ◌^◌, ◌≤◌, ◌<◌}
use mathlib.Core.Bool.{Bool, true, false, cond}
use mathlib.Core.Path.{◌≡◌, refl, sym, ap, ◌∙◌}
use mathlib.Core.Logic.{⊎_elim, inl, inr}
use mathlib.Core.List.{List, []}
use native.Mathlib.Nat.{eq-or-lt_of_le}
use native.Mathlib.Numerals.{add-one}
use native.Mathlib.Omega.{arith}
use lib.ListN.{length, take, drop, get_or}
use lib.Seq.{drop-cons}
use borrow.Author.Tests.{ne_eqb}
use Rattle.base.specs.Logic.{Decides}
use Rattle.name.specs.Name.{Proper}
use Rattle.name.proofs.WireLaws.{proper_short}
use Rattle.writer.proofs.WellFormedLaws.{owner_proper}
use Rattle.table_fault.specs.Judging.{NotBefore, IndexOf}
use Rattle.table_fault.specs.Sweeping.{hashed, tagged, mark, type_bit, BeginsWith, MarkedAt, AllMarked, SomeMarked}
use Rattle.table_fault.proofs.WordLaws.{begins_within}

-- one byte more
pub hashed_more : (n : List ℕ) (h i : ℕ) → i < length n → hashed h (drop i n) ≡ hashed ((h * 31 + get_or n i 0) % 2 ^ 32) (drop (i + 1) n)
unfolding hashed
hashed_more n h i more = rw (add-one, drop-cons n i 0 more) refl

pub other_bit : (n : ℕ) → (n ≡ 1 → ⊥) → (n ≡ 28 → ⊥) → 4 ≡ type_bit n
other_bit n f g = sym (λ i. cond (ne_eqb n 1 f i) 1 (cond (ne_eqb n 28 g i) 2 4))

-- ---- a mark tells the length

low_part : (a x : ℕ) → x < 256 → (a * 256 + x) % 256 ≡ x
low_part a x small = omega arith

pub mark_length : (n m : List ℕ) → mark n ≡ mark m → length n ≤ 255 → length m ≤ 255 → length n ≡ length m
unfolding mark tagged
mark_length n m e short small =
    let low = sym (low_part (hashed 0 (take 32 n) % 2 ^ 24) (length n % 256) (omega arith)) ∙ ap (λ (v : ℕ). v % 256) e ∙ low_part (hashed 0 (take 32 m) % 2 ^ 24) (length m % 256) (omega arith) in
    omega arith

-- ---- the search

module _ (ns : List (List ℕ)) (n : List ℕ) where
  pub none_before : NotBefore 0 ns n
  unfolding NotBefore
  none_before j lt e = omega arith

  pub not_here : (i : ℕ) → NotBefore i ns n → (get_or ns i [] ≡ n → ⊥) → NotBefore (i + 1) ns n
  unfolding NotBefore
  not_here i h other j lt e =
      let low : j ≤ i = omega arith in
      ⊎_elim (λ same. other (ap (λ (k : ℕ). get_or ns k []) (sym same) ∙ e)) (λ less. h j less e) (eq-or-lt_of_le low)

  pub found_there : (i : ℕ) → i < length ns → get_or ns i [] ≡ n → IndexOf ns n i
  unfolding IndexOf
  found_there i lt e = inl (lt, e)

  pub found_nowhere : (i used : ℕ) → used ≡ length ns → i ≤ used → used ≤ i → NotBefore i ns n → IndexOf ns n i
  unfolding IndexOf NotBefore
  found_nowhere i used long low all h = inr (omega arith, λ j lt e. h j (omega arith) e)

-- the name n is not one of the first i that are kept
pub record Passed (t starts marks : List ℕ) (used : ℕ) (n : List ℕ) (i : ℕ) : Type 0 where
  pub low : i ≤ used
  pub other : (ns : List (List ℕ)) → used ≡ length ns → AllMarked t starts marks ns → NotBefore i ns n

module _ (t starts marks : List ℕ) (used : ℕ) (n : List ℕ) where
  pub passed_none : Passed t starts marks used n 0
  passed_none = record { low = omega arith; other = λ ns long kept. none_before ns n }

  module _ (i : ℕ) (p : Passed t starts marks used n i) where
    -- another mark, or the same and another owner
    pub passed_mark : i < used → (get_or marks i 0 ≡ mark n → ⊥) → Passed t starts marks used n (i + 1)
    unfolding AllMarked
    passed_mark more differs =
        record {
          low = omega arith;
          other = λ ns long kept.
              not_here ns n i (p.other ns long kept) (λ e. let k = kept i (omega arith) in differs (k.marked ∙ ap mark e));
        }

    -- the same mark, and so the same length: the text is compared
    module _ (proper : Proper n) (same : get_or marks i 0 ≡ mark n) (more : i < used) where
      kept_length : (m : List ℕ) → MarkedAt t (get_or starts i 0) (get_or marks i 0) m → length m ≡ length n
      kept_length m k = mark_length m n (sym k.marked ∙ same) (proper_short m (owner_proper k.there.word m k.there.owner)) (proper_short n proper)

      pub kept_within : SomeMarked t starts marks used → get_or starts i 0 + length n ≤ length t + 1
      unfolding SomeMarked AllMarked
      kept_within (ns, long, kept) =
          let k = kept i (omega arith) in
          omega (arith, kept_length (get_or ns i []) k, begins_within t (get_or starts i 0) (get_or ns i []) k.there)

    module _ (proper : Proper n) (same : get_or marks i 0 ≡ mark n) (b : Bool)
        (decides : (m : List ℕ) → BeginsWith (drop (get_or starts i 0) t) m → length m ≡ length n → Decides b (m ≡ n)) (more : i < used) where
      pub passed_owner : b ≡ false → Passed t starts marks used n (i + 1)
      unfolding AllMarked
      passed_owner f =
          record {
            low = omega arith;
            other = λ ns long kept.
                let k = kept i (omega arith) in
                not_here ns n i (p.other ns long kept) ((decides (get_or ns i []) k.there (kept_length proper same more (get_or ns i []) k)).if_false f);
          }

      pub is_there : b ≡ true → (ns : List (List ℕ)) → used ≡ length ns → AllMarked t starts marks ns → IndexOf ns n i
      unfolding AllMarked
      is_there y ns long kept =
          let k = kept i (omega arith) in found_there ns n i (omega arith) ((decides (get_or ns i []) k.there (kept_length proper same more (get_or ns i []) k)).if_true y)

    pub is_nowhere : used ≤ i → (ns : List (List ℕ)) → used ≡ length ns → AllMarked t starts marks ns → IndexOf ns n i
    is_nowhere all ns long kept = found_nowhere ns n i used long p.low all (p.other ns long kept)
