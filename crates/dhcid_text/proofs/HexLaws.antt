-- Laws of words joined, and of bytes in two hexadecimal digits each. Assumes nothing.
use Prim.Native.Nat.{ℕ, ◌+◌, ◌*◌, ◌<◌}
use mathlib.Core.Path.{◌≡◌, refl, sym, ap, ap₂, ◌∙◌}
use mathlib.Core.List.{List, [], ◌∷◌, ◌++◌, append_assoc, append-nil}
use native.Mathlib.Omega.{arith}
use native.Mathlib.Numerals.{add-one}
use lib.ListN.{length, get_or, take, length-append}
use lib.Seq.{take-suc}
use Rattle.base.specs.Logic.{Every, Pairwise}
use Rattle.base.proofs.Lists.{append_split, every_append}
use Rattle.text.specs.Digits.{digit_value, value}
use Rattle.dhcid_text.specs.Dhcid.{joined, HexByte}

-- ---- lists

pub two_of : (w : List ℕ) (x y : ℕ) → length w ≡ 2 → get_or w 0 0 ≡ x → get_or w 1 0 ≡ y → w ≡ x ∷ y ∷ []
two_of [] x y e ex ey = absurd (omega arith)
two_of (a ∷ []) x y e ex ey = absurd (omega arith)
two_of (a ∷ b ∷ []) x y e ex ey = λ i. ex i ∷ ey i ∷ []
two_of (a ∷ b ∷ c ∷ w) x y e ex ey = absurd (omega arith)

-- one element more
pub take_one : (a l : List ℕ) (i : ℕ) → i < length l → a ++ take i l ++ get_or l i 0 ∷ [] ≡ a ++ take (i + 1) l
take_one a l i lt = append_assoc a (take i l) (get_or l i 0 ∷ []) ∙ ap (λ (t : List ℕ). a ++ t) (sym (take-suc l i 0 lt) ∙ ap (λ (k : ℕ). take k l) (sym (add-one i)))

pub nothing_left : (a l : List ℕ) → length l ≡ 0 → a ≡ a ++ l
nothing_left a [] e = sym (append-nil a)
nothing_left a (x ∷ l) e = absurd (omega arith)

-- ---- words joined

pub joined_on : (ws vs : List (List ℕ)) → joined (ws ++ vs) ≡ joined ws ++ joined vs
unfolding joined
joined_on [] vs = refl
joined_on (w ∷ ws) vs = ap (λ (l : List ℕ). w ++ l) (joined_on ws vs) ∙ sym (append_assoc w (joined ws) (joined vs))

pub joined_word : (ws : List (List ℕ)) (w : List ℕ) → joined (ws ++ w ∷ []) ≡ joined ws ++ w
unfolding joined
joined_word ws w = joined_on ws (w ∷ []) ∙ ap (λ (l : List ℕ). joined ws ++ l) (append-nil w)

-- ---- pairs of digits

pub hex_byte : (x y : ℕ) → digit_value x < 16 → digit_value y < 16 → HexByte (x ∷ y ∷ []) (digit_value x * 16 + digit_value y)
unfolding value
hex_byte x y hx hy = record { hexadecimal = record { some = omega arith; digits = Every.more hx (Every.more hy Every.none); number = omega arith }; two = refl }

pub length_pairs : (ps : List (List ℕ)) (bs : List ℕ) → Pairwise HexByte ps bs → length (joined ps) ≡ 2 * length bs
unfolding joined
length_pairs [] [] Pairwise.none = refl
length_pairs (p ∷ ps) (b ∷ bs) (Pairwise.more h hs) = omega (arith, length-append p (joined ps), h.two, length_pairs ps bs hs)
length_pairs [] (b ∷ bs) x'' = elim x'' [ ]
length_pairs (p ∷ ps) [] x3 = elim x3 [ ]

pub digits_pairs : (ps : List (List ℕ)) (bs : List ℕ) → Pairwise HexByte ps bs → Every (λ x. digit_value x < 16) (joined ps)
unfolding joined
digits_pairs [] [] Pairwise.none = Every.none
digits_pairs (p ∷ ps) (b ∷ bs) (Pairwise.more h hs) = every_append p (joined ps) h.hexadecimal.digits (digits_pairs ps bs hs)
digits_pairs [] (b ∷ bs) x'' = elim x'' [ ]
digits_pairs (p ∷ ps) [] x3 = elim x3 [ ]

-- the same digits are the same bytes
pub same_pairs : (ps qs : List (List ℕ)) (bs cs : List ℕ) → Pairwise HexByte ps bs → Pairwise HexByte qs cs → joined ps ≡ joined qs → bs ≡ cs
unfolding joined
same_pairs [] [] [] [] Pairwise.none Pairwise.none e = refl
same_pairs [] (q ∷ qs) [] (c ∷ cs) Pairwise.none (Pairwise.more k ks) e = absurd (omega (arith, ap length e, length-append q (joined qs), k.two))
same_pairs (p ∷ ps) [] (b ∷ bs) [] (Pairwise.more h hs) Pairwise.none e = absurd (omega (arith, ap length e, length-append p (joined ps), h.two))
same_pairs (p ∷ ps) (q ∷ qs) (b ∷ bs) (c ∷ cs) (Pairwise.more h hs) (Pairwise.more k ks) e =
    let parts = append_split (h.two ∙ sym k.two) e in
    ap₂ ◌∷◌ (sym h.hexadecimal.number ∙ ap (value 16 0) parts.0 ∙ k.hexadecimal.number) (same_pairs ps qs bs cs hs ks parts.1)
same_pairs [] [] [] (c ∷ cs) _ x13 e = elim x13 [ ]
same_pairs [] [] (b ∷ bs) cs x10 _ e = elim x10 [ ]
same_pairs [] (q ∷ qs) [] [] _ x12 e = elim x12 [ ]
same_pairs [] (q ∷ qs) (b ∷ bs) cs x10 _ e = elim x10 [ ]
same_pairs (p ∷ ps) [] [] cs x8 _ e = elim x8 [ ]
same_pairs (p ∷ ps) [] (b ∷ bs) (c ∷ cs) _ x12 e = elim x12 [ ]
same_pairs (p ∷ ps) (q ∷ qs) [] cs x9 _ e = elim x9 [ ]
same_pairs (p ∷ ps) (q ∷ qs) (b ∷ bs) [] _ x13 e = elim x13 [ ]
