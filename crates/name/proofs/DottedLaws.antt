-- The text of wire bytes, byte by byte: specs/Promise.antt's text_of. Assumes nothing.
use Prim.Native.Nat.{ℕ, zero, suc, ◌+◌, ◌-◌, ◌≤◌, ◌<◌}
use mathlib.Core.Path.{◌≡◌, refl, sym, ap, ap₂, ◌∙◌}
use mathlib.Core.List.{List, [], ◌∷◌, ◌++◌, append_assoc}
use native.Mathlib.Omega.{arith}
use lib.ListN.{length, get_or, take, drop, set, length-append, length-drop, length-set}
use lib.Seq.{append_snoc, drop-drop, get_or-drop, length-take-le, set_at, split_at, take_all, take_at}
use Rattle.base.specs.Bytes.{ascii, overlay}
use Rattle.base.proofs.Bytes.{length_overlay, drop_overlay}
use Rattle.name.specs.Name.{wire, text}
use Rattle.name.specs.Promise.{dotted, text_of}

length_dotted : (n : List ℕ) (k : ℕ) → length (dotted k n) ≡ length n
unfolding dotted ascii
length_dotted [] k = refl
length_dotted (b ∷ n) zero = ap suc (length_dotted n b)
length_dotted (b ∷ n) (suc k) = ap suc (length_dotted n k)

pub length_text_of : (n : List ℕ) → length (text_of n) ≡ length n - 1
unfolding text_of
length_text_of [] = refl
length_text_of (b ∷ n) = length_dotted n b ∙ omega arith

pub text_of_some : (n : List ℕ) → 0 < length n → text_of n ≡ dotted (get_or n 0 0) (drop 1 n)
unfolding text_of
text_of_some [] some = absurd (omega arith)
text_of_some (b ∷ n) some = refl

-- a label, and the length after it
dotted_label : (l n : List ℕ) → dotted (length l) (l ++ n) ≡ l ++ dotted 0 n
unfolding dotted ascii
dotted_label [] n = refl
dotted_label (b ∷ l) n = ap (λ (t : List ℕ). b ∷ t) (dotted_label l n)

dotted_run : (l n : List ℕ) (b : ℕ) → dotted (length l) (l ++ b ∷ n) ≡ l ++ 46 ∷ dotted b n
unfolding dotted ascii
dotted_run l n b = dotted_label l (b ∷ n)

-- a label that is cut off
dotted_short : (n : List ℕ) (k : ℕ) → length n ≤ k → dotted k n ≡ n
unfolding dotted ascii
dotted_short [] k h = refl
dotted_short (b ∷ n) zero h = absurd (omega arith)
dotted_short (b ∷ n) (suc k) h = ap (λ (l : List ℕ). b ∷ l) (dotted_short n k (omega arith))

-- ---- the loop that writes the dots

-- one byte written over that stands in what was written
overlay_set : (to : List ℕ) (at : ℕ) (p : List ℕ) (y : ℕ) (q : List ℕ) (x i : ℕ) → at ≤ length to → length p ≡ i
    → set (overlay to at (p ++ y ∷ q)) (at + i) x ≡ overlay to at (p ++ x ∷ q)
unfolding overlay
overlay_set to at p y q x i fits long =
    let after : List ℕ = drop (at + (length p + suc (length q))) to in
    let shape : (z : ℕ) → overlay to at (p ++ z ∷ q) ≡ (take at to ++ p) ++ z ∷ (q ++ after) =
    λ z.
    ap₂ (λ (a : List ℕ) (k : ℕ). a ++ drop (at + k) to) (sym (append_assoc (take at to) p (z ∷ q))) (length-append p (z ∷ q))
    ∙ append_assoc (take at to ++ p) (z ∷ q) after in
    let here : length (take at to ++ p) ≡ at + i = length-append (take at to) p ∙ omega (arith, length-take-le at to fits, long) in
    ap (λ (l : List ℕ). set l (at + i) x) (shape y) ∙ set_at (take at to ++ p) y (q ++ after) x (at + i) here ∙ sym (shape x)

-- the text is written up to index `from`, the bytes after it are as they were in the name, and the next dot is to stand at i
pub record Dotting (to : List ℕ) (at : ℕ) (n d : List ℕ) (i : ℕ) : Type 0 where
  pub from : ℕ
  pub left : ℕ
  pub next : i ≡ from + left
  pub low : from + 1 ≤ length n
  pub head : List ℕ
  pub long : length head ≡ from
  pub size : length d ≡ length to
  pub written : d ≡ overlay to at (head ++ drop (from + 1) n)
  pub rest : text_of n ≡ head ++ dotted left (drop (from + 1) n)

-- what is written again in the same place leaves nothing of what was written before
overlay_again : (to : List ℕ) (at : ℕ) (a b : List ℕ) → at ≤ length to → length a ≡ length b → overlay (overlay to at a) at b ≡ overlay to at b
unfolding overlay
overlay_again to at a b fits same =
    let after : List ℕ = drop (at + length a) to in
    let before : take at (take at to ++ a ++ after) ≡ take at to =
    ap (take at) (append_assoc (take at to) a after) ∙ take_at (take at to) (a ++ after) at (length-take-le at to fits) in
    ap₂ (λ (x y : List ℕ). (x ++ b) ++ y) before
    (ap (λ (k : ℕ). drop (at + k) (overlay to at a)) (sym same) ∙ drop_overlay to at a fits ∙ ap (λ (k : ℕ). drop (at + k) to) same)

-- `from` is `to` with the name but for its first byte written into it
module _ (to : List ℕ) (at : ℕ) (n from : List ℕ) (some : 1 ≤ length n) (fits : at + length n ≤ length to + 1) (e : from ≡ overlay to at (take (length n - 1) (drop 1 n))) where
  names : from ≡ overlay to at (drop 1 n)
  names = e ∙ ap (overlay to at) (take_all (length n - 1) (drop 1 n) (omega (arith, length-drop 1 n)))

  pub names_size : length from ≡ length to
  names_size = ap length names ∙ length_overlay to at (drop 1 n) (omega (arith, length-drop 1 n))

  pub dotting_none : Dotting from at n from (get_or n 0 0)
  dotting_none =
      record {
        from = 0;
        left = get_or n 0 0;
        next = omega arith;
        low = some;
        head = [];
        long = refl;
        size = refl;
        written = sym (ap (λ (l : List ℕ). overlay l at (drop 1 n)) names ∙ overlay_again to at (drop 1 n) (drop 1 n) (omega arith) refl ∙ sym names);
        rest = text_of_some n some;
      }

  pub dotted_all : (d : List ℕ) → d ≡ overlay from at (text_of n) → d ≡ overlay to at (text_of n)
  dotted_all d all =
      all ∙ ap (λ (l : List ℕ). overlay l at (text_of n)) names
      ∙ overlay_again to at (drop 1 n) (text_of n) (omega arith) (length-drop 1 n ∙ sym (length_text_of n))

module _ (to : List ℕ) (at : ℕ) (n d : List ℕ) (i : ℕ) (h : Dotting to at n d i) where
  pub dotting_more : i < length n - 1 → at + length n ≤ length to + 1 → Dotting to at n (set d (at + i) 46) (i + (get_or n (i + 1) 0 + 1))
  dotting_more within fits =
      let m = drop (h.from + 1) n in
      let l = take h.left m in
      let b = get_or n (i + 1) 0 in
      let r = drop (i + 1 + 1) n in
      let lm : length m ≡ length n - (h.from + 1) = length-drop (h.from + 1) n in
      let ll : length l ≡ h.left = length-take-le h.left m (omega (arith, h.next)) in
      let here : h.from + 1 + h.left ≡ i + 1 = omega (arith, h.next) in
      let after : h.from + 1 + suc h.left ≡ i + 1 + 1 = omega (arith, h.next) in
      let cut : m ≡ l ++ b ∷ r =
      split_at m h.left 0 (omega (arith, h.next))
      ∙ ap₂ (λ (x : ℕ) (t : List ℕ). l ++ x ∷ t) (get_or-drop (h.from + 1) n h.left 0 ∙ ap (λ (k : ℕ). get_or n k 0) here)
      (drop-drop (suc h.left) (h.from + 1) n ∙ ap (λ (k : ℕ). drop k n) after) in
      let front : List ℕ = h.head ++ l in
      let lf : length front ≡ i = length-append h.head l ∙ omega (arith, h.long, h.next) in
      record {
        from = i + 1;
        left = b;
        next = omega arith;
        low = omega arith;
        head = front ++ (46 ∷ []);
        long = length-append front (46 ∷ []) ∙ omega arith;
        size = length-set d (at + i) 46 ∙ h.size;
        written =
            ap (λ (x : List ℕ). set x (at + i) 46)
            (h.written ∙ ap (overlay to at) (ap (λ (t : List ℕ). h.head ++ t) cut ∙ sym (append_assoc h.head l (b ∷ r))))
            ∙ overlay_set to at front b r 46 i (omega arith) lf ∙ ap (overlay to at) (sym (append_snoc front 46 r));
        rest =
            h.rest ∙ ap₂ (λ (k : ℕ) (t : List ℕ). h.head ++ dotted k t) (sym ll) cut ∙ ap (λ (t : List ℕ). h.head ++ t) (dotted_run l r b)
            ∙ sym (append_assoc h.head l (46 ∷ dotted b r)) ∙ sym (append_snoc front 46 (dotted b r));
      }

  pub dotting_all : length n - 1 ≤ i → d ≡ overlay to at (text_of n)
  dotting_all all =
      let m = drop (h.from + 1) n in
      h.written ∙ ap (overlay to at) (ap (λ (t : List ℕ). h.head ++ t) (sym (dotted_short m h.left (omega (arith, h.next, length-drop (h.from + 1) n)))) ∙ sym h.rest)

-- ---- of the wire form of labels it is their text

dotted_wire : (ls : List (List ℕ)) → dotted 0 (wire ls) ≡ 46 ∷ text ls
unfolding dotted wire text ascii
dotted_wire [] = refl
dotted_wire (l ∷ ls) = ap (λ (t : List ℕ). 46 ∷ t) (dotted_label l (wire ls) ∙ ap (λ (t : List ℕ). l ++ t) (dotted_wire ls))

pub text_of_wire : (ls : List (List ℕ)) → 1 ≤ length ls → text_of (wire ls) ≡ text ls
unfolding text_of wire text ascii
text_of_wire [] some = absurd (omega arith)
text_of_wire (l ∷ ls) some = dotted_label l (wire ls) ∙ ap (λ (t : List ℕ). l ++ t) (dotted_wire ls)
