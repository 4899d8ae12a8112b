-- The public theorems of `name`. Assumes nothing.
use Prim.Native.Nat.{ℕ}
use mathlib.Core.Path.{◌≡◌, sym, ap, ◌∙◌}
use mathlib.Core.Logic.{◌↔◌}
use mathlib.Core.List.{List, [], ◌∷◌}
use native.Mathlib.Omega.{arith}
use lib.ListN.{length}
use Rattle.base.specs.Logic.{Every}
use Rattle.name.specs.Label.{Label}
use Rattle.name.specs.Name.{wire, text, Name, Proper, SpellsName, canonical, SameName, CanonicalForm}
use Rattle.name.specs.Promise.{text_of}
use Rattle.name.proofs.NameLaws.{wire_split, text_split, lowered, canonical_wire, name_lowered, length_canonical, canonical_again, same_lowered, lowered_same, length_four}
use Rattle.name.proofs.DottedLaws.{text_of_wire}

-- ---- the labels of a proper name are determined by its wire form, and by its text

pub labels_of_wire : (ls ms : List (List ℕ)) → Name ls → Name ms → wire ls ≡ wire ms → ls ≡ ms
labels_of_wire ls ms h k e = wire_split ls ms e

pub labels_of_text : (ls ms : List (List ℕ)) → Name ls → Name ms → text ls ≡ text ms → ls ≡ ms
labels_of_text ls ms h k e = text_split ls ms h.labels k.labels e

-- ---- the canonical form

canonical_labels : (n : List ℕ) (p : Proper n) → canonical n ≡ wire (lowered p.labels)
canonical_labels n p = ap canonical p.form ∙ canonical_wire p.labels p.name.labels

pub canonical_form : (n : List ℕ) → Proper n → CanonicalForm n
canonical_form n p =
    record {
      proper =
          record {
            labels = lowered p.labels;
            name = name_lowered p.labels p.name;
            form = canonical_labels n p;
          };
      long = length_canonical n;
      again = canonical_again n;
    }

-- two proper names are the same name exactly if their canonical wire forms are equal
pub same_name : (n m : List ℕ) (p : Proper n) (q : Proper m) → SameName p.labels q.labels ↔ (canonical n ≡ canonical m)
same_name n m p q =
    let np : canonical n ≡ wire (lowered p.labels) = canonical_labels n p in
    let mq : canonical m ≡ wire (lowered q.labels) = canonical_labels m q in (
      λ s. np ∙ ap wire (same_lowered p.labels q.labels s) ∙ sym mq,
      λ e.
          lowered_same p.labels q.labels
          (labels_of_wire (lowered p.labels) (lowered q.labels) (name_lowered p.labels p.name) (name_lowered q.labels q.name) (sym np ∙ e ∙ mq)),
    )

-- ---- text and wire form go into each other and back

pub spelled : (n : List ℕ) → Proper n → SpellsName (text_of n) n
spelled n p =
    record { labels = p.labels; name = p.name; word = ap text_of p.form ∙ text_of_wire p.labels p.name.some; form = p.form }

-- what a word spells is a proper name
pub spelled_proper : (w n : List ℕ) → SpellsName w n → Proper n
spelled_proper w n s = record { labels = s.labels; name = s.name; form = s.form }

pub one_name : (w n m : List ℕ) → SpellsName w n → SpellsName w m → n ≡ m
one_name w n m s t = s.form ∙ ap wire (labels_of_text s.labels t.labels s.name t.name (sym s.word ∙ t.word)) ∙ sym t.form

pub one_text : (v w n : List ℕ) → SpellsName v n → SpellsName w n → v ≡ w
one_text v w n s t = s.word ∙ ap text (labels_of_wire s.labels t.labels s.name t.name (sym s.form ∙ t.form)) ∙ sym t.word

-- ---- the limits: labels of 63, 63, 63 and 61 bytes are a name of 255 bytes, and with one byte more they are none

module _ (a b c d : List ℕ) (ha : Label a) (hb : Label b) (hc : Label c) (hd : Label d) (la : length a ≡ 63) (lb : length b ≡ 63) (lc : length c ≡ 63) where
  pub longest : length d ≡ 61 → Name (a ∷ b ∷ c ∷ d ∷ [])
  longest ld =
      record {
        some = omega arith;
        labels = Every.more ha (Every.more hb (Every.more hc (Every.more hd Every.none)));
        short = omega (arith, length_four a b c d);
      }

  pub too_long : length d ≡ 62 → Name (a ∷ b ∷ c ∷ d ∷ []) → ⊥
  too_long ld h = omega (arith, length_four a b c d, h.short)
