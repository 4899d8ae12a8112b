-- A name in a zone, label by label: specs/Name.antt's Within. Assumes nothing.
use Prim.Native.Nat.{ℕ, ◌+◌, ◌-◌, ◌≤◌, ◌<◌}
use mathlib.Core.Bool.{Bool}
use mathlib.Core.Path.{◌≡◌, refl, sym, ap, subst, ◌∙◌}
use mathlib.Core.List.{List, [], ◌∷◌, ◌++◌, tail-eq_of_cons-eq}
use native.Mathlib.Omega.{arith}
use lib.ListN.{length, get_or, take, drop, length-append, length-drop}
use lib.Seq.{drop-drop, drop_at, take_all}
use Rattle.base.specs.Logic.{Every, Decides}
use Rattle.base.proofs.Lists.{drop_head, every_right}
use Rattle.base.proofs.Tests.{decides_as}
use Rattle.name.specs.Label.{Label}
use Rattle.name.specs.Name.{wire, Proper, Within}
use Rattle.name.proofs.NameLaws.{wire_some, wire_split}

-- ---- one label more

module _ (z : List ℕ) where
  within_self : (ls : List (List ℕ)) → wire ls ≡ z → Within (wire ls) z
  within_self ls e = record { first = []; labels = ls; name = refl; zone = sym e }

  within_more : (l : List ℕ) (ls : List (List ℕ)) → Within (wire ls) z → Within (wire (l ∷ ls)) z
  within_more l ls w =
      record { first = l ∷ w.first; labels = w.labels; name = ap (λ (ms : List (List ℕ)). wire (l ∷ ms)) (wire_split ls (w.first ++ w.labels) w.name); zone = w.zone }

  -- a name that is longer than the zone is in it only if it is so without its first label
  within_less : (l : List ℕ) (ls : List (List ℕ)) → length z < length (wire (l ∷ ls)) → Within (wire (l ∷ ls)) z → Within (wire ls) z
  within_less l ls long w = go w.first (wire_split (l ∷ ls) (w.first ++ w.labels) w.name)
    where
      go : (us : List (List ℕ)) → l ∷ ls ≡ us ++ w.labels → Within (wire ls) z
      go [] e = absurd (omega (arith, long, ap length w.zone, ap (λ (ms : List (List ℕ)). length (wire ms)) e))
      go (u ∷ us) e = record { first = us; labels = w.labels; name = ap wire (tail-eq_of_cons-eq e); zone = w.zone }

  wire_longer : (us ls : List (List ℕ)) → length (wire ls) ≤ length (wire (us ++ ls))
  unfolding wire
  wire_longer [] ls = omega arith
  wire_longer (u ∷ us) ls = omega (arith, wire_longer us ls, length-append u (wire (us ++ ls)))

  -- and one that is not longer only if it is the zone's own
  within_whole : (ls : List (List ℕ)) → length (wire ls) ≤ length z → Within (wire ls) z → wire ls ≡ z
  unfolding wire
  within_whole ls short w = go w.first w.name
    where
      go : (us : List (List ℕ)) → wire ls ≡ wire (us ++ w.labels) → wire ls ≡ z
      go [] e = e ∙ sym w.zone
      go (u ∷ us) e = absurd (omega (arith, short, ap length w.zone, ap length e, length-append u (wire (us ++ w.labels)), wire_longer us w.labels))

-- ---- the zone of a proper name is proper, unless it is the root

wire_two : (ls : List (List ℕ)) → 1 ≤ length ls → 2 ≤ length (wire ls)
unfolding wire
wire_two [] some = absurd (omega (arith, some))
wire_two (l ∷ ls) some = omega (arith, length-append l (wire ls), wire_some ls)

wire_none : (ls : List (List ℕ)) → 2 ≤ length (wire ls) → 1 ≤ length ls
unfolding wire
wire_none [] two = absurd (omega (arith, two))
wire_none (l ∷ ls) two = omega arith

pub proper_two : (n : List ℕ) → Proper n → 2 ≤ length n
proper_two n p = omega (arith, ap length p.form, wire_two p.labels p.name.some)

pub within_proper : (n z : List ℕ) → Proper n → 2 ≤ length z → Within n z → Proper z
within_proper n z p two w =
    let are : Every Label (w.first ++ w.labels) = subst (Every Label) (wire_split p.labels (w.first ++ w.labels) (sym p.form ∙ w.name)) p.name.labels in
    record {
      labels = w.labels;
      name =
          record {
            some = wire_none w.labels (omega (arith, ap length w.zone, two));
            labels = every_right w.first w.labels are;
            short = omega (arith, ap length p.form, p.name.short, ap length w.name, wire_longer z w.first w.labels);
          };
      form = w.zone;
    }

-- ---- the walk over the lengths of the labels before the zone

-- a label of the name n begins at index `at`, and n is in the zone z exactly if the labels from there on are
pub record Walked (n z : List ℕ) (at : ℕ) : Type 0 where
  pub rest : List (List ℕ)
  pub low : at ≤ length n
  pub form : drop at n ≡ wire rest
  pub forth : Within n z → Within (wire rest) z
  pub back : Within (wire rest) z → Within n z

-- the next label, where more bytes are left than the zone has
pub record Turn (n z : List ℕ) (at : ℕ) : Type 0 where
  pub short : at + (get_or n at 0 + 1) ≤ length n
  pub next : Walked n z (at + (get_or n at 0 + 1))

pub walked_more : (n z : List ℕ) (at : ℕ) → 1 ≤ length z → Walked n z at → length z < length n - at → Turn n z at
unfolding wire
walked_more n z at some w long = go w.rest w.form w.forth w.back
  where
    go : (ls : List (List ℕ)) → drop at n ≡ wire ls → (Within n z → Within (wire ls) z) → (Within (wire ls) z → Within n z) → Turn n z at
    go [] e f b = absurd (omega (arith, ap length e, length-drop at n, some, long))
    go (l ∷ ls) e f b =
        let first : get_or n at 0 ≡ length l = drop_head n at (length l) (l ++ wire ls) e in
        let left : length (wire (l ∷ ls)) ≡ length n - at = ap length (sym e) ∙ length-drop at n in
        let size : length (wire (l ∷ ls)) ≡ 1 + (length l + length (wire ls)) = omega (arith, length-append l (wire ls)) in
        let behind : drop (at + (get_or n at 0 + 1)) n ≡ wire ls =
        ap (λ (k : ℕ). drop (at + (k + 1)) n) first ∙ sym (drop-drop (length l + 1) at n) ∙ ap (drop (length l + 1)) e
        ∙ drop_at (length l ∷ l) (wire ls) (length l + 1) (omega arith) in
        record {
          short = omega (arith, first, left, size, w.low);
          next =
              record {
                rest = ls;
                low = omega (arith, first, left, size, w.low);
                form = behind;
                forth = λ v. within_less z l ls (omega (arith, left, long)) (f v);
                back = λ v. b (within_more z l ls v);
              };
        }

-- no more bytes are left than the zone has
pub walked_end : (n z : List ℕ) (at : ℕ) → Walked n z at → length n - at ≤ length z → (r : Bool) → Decides r (z ≡ take (length n - at) (drop at n)) → Decides r (Within n z)
walked_end n z at w short r =
    let all : take (length n - at) (drop at n) ≡ drop at n = take_all (length n - at) (drop at n) (omega (arith, length-drop at n)) in
    let e : take (length n - at) (drop at n) ≡ wire w.rest = all ∙ w.form in
    let size : length (wire w.rest) ≤ length z = omega (arith, ap length w.form, length-drop at n) in
    decides_as (λ same. w.back (within_self z w.rest (sym (same ∙ e)))) (λ v. sym (e ∙ within_whole z w.rest size (w.forth v)))
