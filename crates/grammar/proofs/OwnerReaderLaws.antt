-- The reader of an owner (specs/OwnerReader.antt) finds just the names that a word spells. Assumes nothing.
use Prim.Native.Nat.{ℕ, ◌+◌, ◌≤◌}
use mathlib.Core.Bool.{true, ◌&&◌}
use mathlib.Core.Path.{◌≡◌, refl, sym, ap, ◌∙◌}
use mathlib.Core.Option.{Option, some, some-injective}
use mathlib.Core.List.{List, [], ◌∷◌}
use native.Mathlib.Omega.{arith}
use lib.Dec.{leb}
use lib.ListN.{length}
use borrow.Author.Tests.{le-leb, leb-true}
use Rattle.base.specs.Logic.{Every}
use Rattle.base.proofs.Tests.{and_left, and_right}
use Rattle.name.specs.Label.{Label}
use Rattle.name.specs.Name.{wire, text, SpellsName, canonical}
use Rattle.name.proofs.NameLaws.{length_text, canonical_wire}
use Rattle.name.specs.Promise.{lead}
use Rattle.name.specs.TextTest.{shifted, valid}
use Rattle.name.proofs.TextLaws.{text_valid, text_shifted, valid_rest}
use Rattle.name.proofs.ReadingLaws.{too_long, no_first_label}
use Rattle.grammar.specs.Listing.{Owner}
use Rattle.grammar.specs.OwnerReader.{is_owner, owner_of}
use Rattle.grammar.proofs.Deciding.{Reads, provided_by, provided_is}

-- ---- a name is found

module _ (w : List ℕ) where
  -- the text of labels is valid, and the answer is their canonical wire form
  spelled : (ls : List (List ℕ)) → 1 ≤ length ls → Every Label ls → w ≡ text ls → (valid w ≡ true) × (lead w ∷ shifted w ≡ canonical (wire ls))
  spelled [] one h e = absurd (omega arith)
  spelled (l ∷ ls) one (Every.more hl h) e = (
    ap valid e ∙ text_valid l ls hl h,
    ap (λ (t : List ℕ). lead t ∷ shifted t) e ∙ text_shifted l ls hl h ∙ sym (canonical_wire (l ∷ ls) (Every.more hl h)),
  )

  word_spelled : (n : List ℕ) → SpellsName w n → (valid w ≡ true) × (lead w ∷ shifted w ≡ canonical n)
  word_spelled n s =
      let both = spelled s.labels s.name.some s.name.labels s.word in
      (both.0, both.1 ∙ sym (ap canonical s.form))

  passes : (n : List ℕ) → SpellsName w n → is_owner w ≡ true
  passes n s =
      let short : leb (length w) 254 ≡ true = le-leb (length w) 254 (omega (arith, too_long w n s)) in
      let first : leb 1 (lead w) ≡ true = le-leb 1 (lead w) (omega (arith, no_first_label w n s)) in
      λ i. short i && first i && (word_spelled n s).0 i

finds : (w n : List ℕ) → Owner w n → owner_of w ≡ some n
unfolding owner_of
finds w n o =
    provided_by (passes w o.wire o.spells)
    ∙ ap {B = Option (List ℕ)} some ((word_spelled w o.wire o.spells).1 ∙ sym o.form)

-- ---- what is found is a name

passed_spells : (w : List ℕ) → is_owner w ≡ true → (n : List ℕ) × SpellsName w n
passed_spells w e =
    let two = and_left (leb (length w) 254 && leb 1 (lead w)) (valid w) e in
    let short : length w ≤ 254 = leb-true (length w) 254 (and_left (leb (length w) 254) (leb 1 (lead w)) two) in
    let lead_some : 1 ≤ lead w = leb-true 1 (lead w) (and_right (leb (length w) 254) (leb 1 (lead w)) two) in
    let r = valid_rest w (and_right (leb (length w) 254 && leb 1 (lead w)) (valid w) e) in
    let ls : List (List ℕ) = r.label ∷ r.labels in
    let first : Label r.label = record { some = omega (arith, r.long); short = r.short; bytes = r.bytes } in
    let size : length w + 1 ≡ length (wire ls) = ap (λ (t : List ℕ). length t + 1) r.form ∙ length_text ls in (
      wire ls,
      record { labels = ls; name = record { some = omega arith; labels = Every.more first r.are; short = omega arith }; word = r.form; form = refl },
    )

is : (w n : List ℕ) → owner_of w ≡ some n → Owner w n
unfolding owner_of
is w n e =
    let through = provided_is e in
    let name = passed_spells w through.0 in
    record {
      wire = name.0;
      spells = name.1;
      form = sym (some-injective (lead w ∷ shifted w) n through.1) ∙ (word_spelled w name.0 name.1).1;
    }

pub owner_reads : Reads owner_of Owner
owner_reads = record { finds = finds; is = is }
