-- Laws of specs/Name.antt: what a name's wire form and text determine, and what becomes of them in canonical form. Assumes nothing.
use Prim.Native.Nat.{ℕ, ◌+◌, ◌≤◌}
use mathlib.Core.Bool.{false}
use mathlib.Core.Path.{◌≡◌, refl, sym, ap, ap₂, ◌∙◌}
use mathlib.Core.List.{List, [], ◌∷◌, ◌++◌, map, head-eq_of_cons-eq, tail-eq_of_cons-eq}
use native.Mathlib.Omega.{arith}
use lib.ListN.{length, get_or, length-append, length-map, get_or-map}
use Rattle.base.specs.Bytes.{ascii}
use Rattle.base.specs.Logic.{Every}
use Rattle.base.proofs.Lists.{append_split, nil≢append, run_split, map_append, every_map, map_pairwise, pairwise_map}
use Rattle.name.specs.Label.{Label, is_upper, is_lower, is_digit, is_label_byte, lower}
use Rattle.name.specs.Name.{wire, text, Name, canonical, SameName}
use Rattle.name.proofs.LabelLaws.{lower_length, lower_lower, label_lower}

-- ---- the labels are determined by the wire form, and by the text

-- there is always the last zero byte
pub wire_some : (ls : List (List ℕ)) → 1 ≤ length (wire ls)
unfolding wire
wire_some [] = omega arith
wire_some (l ∷ ls) = omega arith

-- whatever the labels are
pub wire_split : (ls ms : List (List ℕ)) → wire ls ≡ wire ms → ls ≡ ms
unfolding wire
wire_split [] [] e = refl
wire_split [] (m ∷ ms) e = absurd (let z : 0 ≡ length (m ++ wire ms) = ap length (tail-eq_of_cons-eq e) in omega (arith, length-append m (wire ms), wire_some ms))
wire_split (l ∷ ls) [] e = absurd (let z : length (l ++ wire ls) ≡ 0 = ap length (tail-eq_of_cons-eq e) in omega (arith, length-append l (wire ls), wire_some ls))
wire_split (l ∷ ls) (m ∷ ms) e =
    let parts = append_split {a = l} {b = m} (head-eq_of_cons-eq e) (tail-eq_of_cons-eq e) in
    ap₂ ◌∷◌ parts.0 (wire_split ls ms parts.1)

no_dot : is_label_byte 46 ≡ false
unfolding is_label_byte is_upper is_lower is_digit
no_dot = refl

pub text_split : (ls ms : List (List ℕ)) → Every Label ls → Every Label ms → text ls ≡ text ms → ls ≡ ms
unfolding text ascii
text_split [] [] h k e = refl
text_split [] (m ∷ ms) h k e = absurd (nil≢append m 46 (text ms) e)
text_split (l ∷ ls) [] h k e = absurd (nil≢append l 46 (text ls) (sym e))
text_split (l ∷ ls) (m ∷ ms) (Every.more hl h) (Every.more km k) e =
    let parts = run_split is_label_byte {r = text ls} {s = text ms} no_dot no_dot l m hl.bytes km.bytes e in
    ap₂ ◌∷◌ parts.0 (text_split ls ms h k (tail-eq_of_cons-eq parts.1))

-- ---- lengths

pub length_text : (ls : List (List ℕ)) → length (text ls) + 1 ≡ length (wire ls)
unfolding text wire ascii
length_text [] = refl
length_text (l ∷ ls) = omega (arith, length-append l (46 ∷ text ls), length-append l (wire ls), length_text ls)

pub length_four : (a b c d : List ℕ) → length (wire (a ∷ b ∷ c ∷ d ∷ [])) ≡ 5 + length a + length b + length c + length d
unfolding wire
length_four a b c d =
    simp length-append (omega arith)

-- ---- the canonical form

abbrev pub lowered : List (List ℕ) → List (List ℕ)
lowered ls = map (map lower) ls

pub canonical_wire : (ls : List (List ℕ)) → Every Label ls → canonical (wire ls) ≡ wire (lowered ls)
unfolding canonical wire
canonical_wire [] h = ap (λ (n : ℕ). n ∷ []) (lower_length 0 (omega arith))
canonical_wire (l ∷ ls) (Every.more hl h) =
    ap₂ ◌∷◌ (lower_length (length l) hl.short ∙ sym (length-map l lower))
    (map_append lower l (wire ls) ∙ ap (λ (r : List ℕ). map lower l ++ r) (canonical_wire ls h))

pub length_canonical : (n : List ℕ) → length (canonical n) ≡ length n
unfolding canonical
length_canonical n = length-map n lower

pub get_or_canonical : (n : List ℕ) (i : ℕ) → get_or (canonical n) i 0 ≡ lower (get_or n i 0)
unfolding canonical lower is_upper
get_or_canonical n i = get_or-map lower n i 0

pub name_lowered : (ls : List (List ℕ)) → Name ls → Name (lowered ls)
name_lowered ls h =
    let count : length (lowered ls) ≡ length ls = length-map ls (map lower) in
    let size : length (wire (lowered ls)) ≡ length (wire ls) = sym (ap length (canonical_wire ls h.labels)) ∙ length_canonical (wire ls) in
    record { some = omega (arith, h.some); labels = every_map (map lower) label_lower ls h.labels; short = omega (arith, h.short) }

pub canonical_again : (n : List ℕ) → canonical (canonical n) ≡ canonical n
unfolding canonical
canonical_again [] = refl
canonical_again (b ∷ n) = ap₂ ◌∷◌ (lower_lower b) (canonical_again n)

-- the same name exactly if in lower case it has the same labels
pub same_lowered : (ls ms : List (List ℕ)) → SameName ls ms → lowered ls ≡ lowered ms
unfolding SameName
same_lowered ls ms s = map_pairwise (map lower) (map_pairwise lower (λ a b e. e)) ls ms s

pub lowered_same : (ls ms : List (List ℕ)) → lowered ls ≡ lowered ms → SameName ls ms
unfolding SameName
lowered_same ls ms e = pairwise_map (map lower) (pairwise_map lower (λ a b h. h)) ls ms e
