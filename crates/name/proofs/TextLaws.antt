-- A name in text, read from its last byte to its first, and that this reads just the names. Assumes nothing.
use Prim.Native.Nat.{ℕ, zero, suc, ◌≤◌, ◌<◌}
use mathlib.Core.Bool.{Bool, true, false, cond, ◌&&◌, true≢false, false≢true}
use mathlib.Core.Path.{◌≡◌, refl, sym, ap, ap₂, ◌∙◌}
use mathlib.Core.List.{List, [], ◌∷◌, ◌++◌, map}
use native.Mathlib.Omega.{arith}
use lib.Dec.{leb, eqb}
use lib.ListN.{length, drop, length-map}
use borrow.Author.Tests.{eq-eqb, ne_eqb, le-leb, eqb-true, eqb-false, leb-true}
use Rattle.base.specs.Bytes.{ascii}
use Rattle.base.specs.Logic.{Every}
use Rattle.base.proofs.Tests.{and_left, and_right}
use Rattle.name.specs.Label.{Label, is_upper, is_lower, is_digit, is_label_byte, lower}
use Rattle.name.specs.Name.{wire, text}
unfoldable pub use Rattle.name.specs.Promise.{lead}
use Rattle.name.specs.ProperTest.{is_nil}
unfoldable pub use Rattle.name.specs.TextTest.{shifted, valid}
use Rattle.name.proofs.NameLaws.{lowered}

-- ---- one byte

label_byte≢dot : (b : ℕ) → is_label_byte b ≡ true → b ≡ 46 → ⊥
unfolding is_label_byte is_upper is_lower is_digit
label_byte≢dot b h e = true≢false (sym h ∙ ap is_label_byte e)

module _ (b : ℕ) (w : List ℕ) where
  pub lead_dot : b ≡ 46 → lead (b ∷ w) ≡ 0
  unfolding lead
  lead_dot e = ap (λ (t : Bool). cond t 0 (suc (lead w))) (eq-eqb b 46 e)

  pub lead_byte : (b ≡ 46 → ⊥) → lead (b ∷ w) ≡ suc (lead w)
  unfolding lead
  lead_byte e = ap (λ (t : Bool). cond t 0 (suc (lead w))) (ne_eqb b 46 e)

  pub shifted_dot : b ≡ 46 → shifted (b ∷ w) ≡ lead w ∷ shifted w
  unfolding shifted
  shifted_dot e = ap (λ (t : Bool). cond t (lead w) (lower b) ∷ shifted w) (eq-eqb b 46 e)

  pub shifted_byte : (b ≡ 46 → ⊥) → shifted (b ∷ w) ≡ lower b ∷ shifted w
  unfolding shifted
  shifted_byte e = ap (λ (t : Bool). cond t (lead w) (lower b) ∷ shifted w) (ne_eqb b 46 e)

  module _ (more : is_nil w ≡ false) where
    pub valid_dot : b ≡ 46 → valid (b ∷ w) ≡ (leb 1 (lead w) && valid w)
    unfolding valid
    valid_dot e = λ i. cond (more i) (eqb b 46) (cond (eq-eqb b 46 e i) (leb 1 (lead w)) (is_label_byte b && leb (lead w) 62) && valid w)

    pub valid_byte : (b ≡ 46 → ⊥) → valid (b ∷ w) ≡ (is_label_byte b && leb (lead w) 62 && valid w)
    unfolding valid
    valid_byte e = λ i. cond (more i) (eqb b 46) (cond (ne_eqb b 46 e i) (leb 1 (lead w)) (is_label_byte b && leb (lead w) 62) && valid w)

-- ---- the text of labels

pub some_bytes : (l w : List ℕ) (b : ℕ) → is_nil (l ++ b ∷ w) ≡ false
some_bytes [] w b = refl
some_bytes (a ∷ l) w b = refl

module _ (w : List ℕ) where
  pub lead_label : (l : List ℕ) → Every (λ b. is_label_byte b ≡ true) l → lead (l ++ 46 ∷ w) ≡ length l
  lead_label [] h = lead_dot 46 w refl
  lead_label (b ∷ l) (Every.more hb h) = lead_byte b (l ++ 46 ∷ w) (label_byte≢dot b hb) ∙ ap suc (lead_label l h)

  shifted_label : (l : List ℕ) → Every (λ b. is_label_byte b ≡ true) l → shifted (l ++ 46 ∷ w) ≡ map lower l ++ shifted (46 ∷ w)
  shifted_label [] h = refl
  shifted_label (b ∷ l) (Every.more hb h) = shifted_byte b (l ++ 46 ∷ w) (label_byte≢dot b hb) ∙ ap (λ (t : List ℕ). lower b ∷ t) (shifted_label l h)

  valid_label : (l : List ℕ) → Every (λ b. is_label_byte b ≡ true) l → length l ≤ 63 → valid (46 ∷ w) ≡ true → valid (l ++ 46 ∷ w) ≡ true
  valid_label [] h short e = e
  valid_label (b ∷ l) (Every.more hb h) short e =
      let room : leb (lead (l ++ 46 ∷ w)) 62 ≡ true = le-leb (lead (l ++ 46 ∷ w)) 62 (omega (arith, lead_label l h)) in
      valid_byte b (l ++ 46 ∷ w) (some_bytes l w 46) (label_byte≢dot b hb)
      ∙ (λ i. hb i && room i && valid_label l h (omega arith) e i)

dots_valid : (ls : List (List ℕ)) → Every Label ls → valid (46 ∷ text ls) ≡ true
unfolding text ascii
dots_valid [] h = unfold valid in refl
dots_valid (l ∷ ls) (Every.more hl h) =
    let w : List ℕ = text ls in
    let some : leb 1 (lead (l ++ 46 ∷ w)) ≡ true = le-leb 1 (lead (l ++ 46 ∷ w)) (omega (arith, lead_label w l hl.bytes, hl.some)) in
    valid_dot 46 (l ++ 46 ∷ w) (some_bytes l w 46) refl
    ∙ (λ i. some i && valid_label w l hl.bytes hl.short (dots_valid ls h) i)

pub text_valid : (l : List ℕ) (ls : List (List ℕ)) → Label l → Every Label ls → valid (text (l ∷ ls)) ≡ true
unfolding text ascii
text_valid l ls hl h = valid_label (text ls) l hl.bytes hl.short (dots_valid ls h)

dots_shifted : (ls : List (List ℕ)) → Every Label ls → shifted (46 ∷ text ls) ≡ wire (lowered ls)
unfolding text wire ascii
dots_shifted [] h = shifted_dot 46 [] refl ∙ (unfold lead shifted in refl)
dots_shifted (l ∷ ls) (Every.more hl h) =
    shifted_dot 46 (l ++ 46 ∷ text ls) refl
    ∙ ap₂ ◌∷◌ (lead_label (text ls) l hl.bytes ∙ sym (length-map l lower))
    (shifted_label (text ls) l hl.bytes ∙ ap (λ (t : List ℕ). map lower l ++ t) (dots_shifted ls h))

-- the length of the first label, and the shifted text, are the canonical wire form
pub text_shifted : (l : List ℕ) (ls : List (List ℕ)) → Label l → Every Label ls
    → lead (text (l ∷ ls)) ∷ shifted (text (l ∷ ls)) ≡ wire (lowered (l ∷ ls))
unfolding text wire ascii
text_shifted l ls hl h =
    ap₂ ◌∷◌ (lead_label (text ls) l hl.bytes ∙ sym (length-map l lower))
    (shifted_label (text ls) l hl.bytes ∙ ap (λ (t : List ℕ). map lower l ++ t) (dots_shifted ls h))

-- ---- what is valid is the text of labels

pub record TextRest (w : List ℕ) : Type 0 where
  pub label : List ℕ
  pub labels : List (List ℕ)
  pub long : length label ≡ lead w
  pub short : length label ≤ 63
  pub bytes : Every (λ b. is_label_byte b ≡ true) label
  pub are : Every Label labels
  pub form : w ≡ text (label ∷ labels)

last_dot : (b : ℕ) → b ≡ 46 → TextRest (b ∷ [])
unfolding text ascii
last_dot b e =
    record {
      label = [];
      labels = [];
      long = sym (lead_dot b [] e);
      short = omega arith;
      bytes = Every.none;
      are = Every.none;
      form = ap (λ (x : ℕ). x ∷ []) e;
    }

next_dot : (b : ℕ) (w : List ℕ) → b ≡ 46 → 1 ≤ lead w → TextRest w → TextRest (b ∷ w)
unfolding text ascii
next_dot b w e some r =
    let first : Label r.label = record { some = omega (arith, r.long); short = r.short; bytes = r.bytes } in
    record {
      label = [];
      labels = r.label ∷ r.labels;
      long = sym (lead_dot b w e);
      short = omega arith;
      bytes = Every.none;
      are = Every.more first r.are;
      form = ap₂ ◌∷◌ e r.form;
    }

next_byte : (b : ℕ) (w : List ℕ) → (b ≡ 46 → ⊥) → is_label_byte b ≡ true → lead w ≤ 62 → TextRest w → TextRest (b ∷ w)
unfolding text ascii
next_byte b w e hb room r =
    record {
      label = b ∷ r.label;
      labels = r.labels;
      long = ap suc r.long ∙ sym (lead_byte b w e);
      short = omega (arith, r.long);
      bytes = Every.more hb r.bytes;
      are = r.are;
      form = ap (λ (t : List ℕ). b ∷ t) r.form;
    }

rest_by : (b : ℕ) (w : List ℕ) → is_nil w ≡ false → (valid w ≡ true → TextRest w) → valid (b ∷ w) ≡ true → (t : Bool) → eqb b 46 ≡ t → TextRest (b ∷ w)
rest_by b w more ih e true z =
    let both = sym (valid_dot b w more (eqb-true b 46 z)) ∙ e in
    next_dot b w (eqb-true b 46 z) (leb-true 1 (lead w) (and_left (leb 1 (lead w)) (valid w) both)) (ih (and_right (leb 1 (lead w)) (valid w) both))
rest_by b w more ih e false z =
    let all = sym (valid_byte b w more (eqb-false b 46 z)) ∙ e in
    let two = and_left (is_label_byte b && leb (lead w) 62) (valid w) all in
    next_byte b w (eqb-false b 46 z) (and_left (is_label_byte b) (leb (lead w) 62) two) (leb-true (lead w) 62 (and_right (is_label_byte b) (leb (lead w) 62) two))
    (ih (and_right (is_label_byte b && leb (lead w) 62) (valid w) all))

rest_of : (b : ℕ) (w : List ℕ) → (valid w ≡ true → TextRest w) → valid (b ∷ w) ≡ true → TextRest (b ∷ w)
rest_of b [] ih e = last_dot b (eqb-true b 46 (unfold valid in e))
rest_of b (a ∷ w) ih e = rest_by b (a ∷ w) refl ih e (eqb b 46) refl

pub valid_rest : (w : List ℕ) → valid w ≡ true → TextRest w
valid_rest [] e = absurd (false≢true (unfold valid in e))
valid_rest (b ∷ w) e = rest_of b w (valid_rest w) e

-- a valid text is valid from every byte on
pub some_left : (w : List ℕ) (i : ℕ) → i < length w → is_nil (drop i w) ≡ false
some_left [] i within = absurd (omega arith)
some_left (b ∷ w) zero within = refl
some_left (b ∷ w) (suc i) within = some_left w i (omega arith)

valid_tail : (b : ℕ) (w : List ℕ) → is_nil w ≡ false → valid (b ∷ w) ≡ true → valid w ≡ true
unfolding valid
valid_tail b w more e =
    let test : Bool = cond (eqb b 46) (leb 1 (lead w)) (is_label_byte b && leb (lead w) 62) in
    and_right test (valid w) (sym (ap (λ (t : Bool). cond t (eqb b 46) (test && valid w)) more) ∙ e)

pub valid_on : (w : List ℕ) (i : ℕ) → i < length w → valid w ≡ true → valid (drop i w) ≡ true
valid_on [] i within e = absurd (omega arith)
valid_on (b ∷ w) zero within e = e
valid_on (b ∷ w) (suc i) within e = valid_on w i (omega arith) (valid_tail b w (some_left w 0 (omega arith)) e)
