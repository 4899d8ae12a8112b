-- A name written from the last byte of its address to the first. Assumes nothing.
use Prim.Native.Nat.{ℕ, suc, ◌+◌, ◌≤◌}
use mathlib.Core.Path.{◌≡◌, sym, ap, ap₂, ◌∙◌}
use mathlib.Core.List.{List, [], ◌∷◌, ◌++◌, append_assoc, append-nil}
use native.Mathlib.Omega.{arith}
use lib.ListN.{length, set, length-append}
use lib.Seq.{sets-eq}
use Rattle.base.specs.Bytes.{overlay}
use Rattle.base.proofs.Lists.{no_elements}
use Rattle.base.proofs.Bytes.{overlay_none, overlay_append, length_overlay}
use Rattle.slots.specs.declared.Family.{Family}
use Rattle.ptr.specs.Ptr.{ptr_name}
use Rattle.ptr.proofs.LabelLaws.{lasts, lasts_none, lasts_more, name_on}

-- the labels of the bytes of x behind those of r stand at the beginning of d, which held `to`, and end before index `end`
pub record Begun (f : Family) (to x d : List ℕ) (end : ℕ) (r : List ℕ) : Type 0 where
  pub last : List ℕ
  pub all : x ≡ r ++ last
  pub ends : end ≡ length (lasts f last)
  pub done : d ≡ overlay to 0 (lasts f last)

module _ (f : Family) (to x : List ℕ) (fits : length (ptr_name f x) ≤ length to) where
  pub begun_none : Begun f to x to 0 x
  begun_none =
      record {
        last = [];
        all = sym (append-nil x);
        ends = sym (ap length (lasts_none f));
        done = sym (ap (overlay to 0) (lasts_none f) ∙ overlay_none to 0);
      }

  module _ (d : List ℕ) (end : ℕ) (q : List ℕ) (h : Begun f to x d end q) where
    name : ptr_name f x ≡ lasts f h.last ++ ptr_name f q
    name = ap (ptr_name f) h.all ∙ name_on f q h.last

    long : length d ≡ length to
    long = ap length h.done ∙ length_overlay to 0 (lasts f h.last) (omega (arith, ap length name, length-append (lasts f h.last) (ptr_name f q)))

    -- what is written behind them
    on : (p d' : List ℕ) → d' ≡ overlay d end p → d' ≡ overlay to 0 (lasts f h.last ++ p)
    on p d' w =
        let at : end ≡ 0 + length (lasts f h.last) = omega (arith, h.ends) in
        w ∙ ap₂ (λ (l : List ℕ) (k : ℕ). overlay l k p) h.done at ∙ overlay_append to 0 (lasts f h.last) p (omega arith)

    -- the labels p of the byte before
    module _ (r : List ℕ) (b : ℕ) (e : q ≡ r ++ b ∷ []) (p : List ℕ) (is : p ≡ lasts f (b ∷ [])) where
      pub room : end + length p ≤ length d
      room =
          let before : ptr_name f q ≡ lasts f (b ∷ []) ++ ptr_name f r = ap (ptr_name f) e ∙ name_on f r (b ∷ []) in
          omega (arith, h.ends, long, ap length is, ap length name, length-append (lasts f h.last) (ptr_name f q), ap length before, length-append (lasts f (b ∷ [])) (ptr_name f r))

      pub begun_more : (d' : List ℕ) (k : ℕ) → k ≡ end + length p → d' ≡ overlay d end p → Begun f to x d' k r
      begun_more d' k ends w =
          let one_more : lasts f h.last ++ p ≡ lasts f (b ∷ h.last) = ap (λ (l : List ℕ). lasts f h.last ++ l) is ∙ sym (lasts_more f b h.last) in
          record {
            last = b ∷ h.last;
            all = h.all ∙ ap (λ (l : List ℕ). l ++ h.last) e ∙ append_assoc r (b ∷ []) h.last;
            ends = omega (arith, h.ends, ap length one_more, length-append (lasts f h.last) p);
            done = on p d' w ∙ ap (overlay to 0) one_more;
          }

    -- all bytes are written: what follows them is s
    module _ (none : length q ≡ 0) (s : List ℕ) (is : s ≡ ptr_name f []) where
      whole : lasts f h.last ++ s ≡ ptr_name f x
      whole = ap (λ (l : List ℕ). lasts f h.last ++ l) (is ∙ sym (ap (ptr_name f) (no_elements q none))) ∙ sym name

      pub suffix_room : end + length s ≤ length d
      suffix_room = omega (arith, h.ends, long, ap length whole, length-append (lasts f h.last) s)

      pub begun_all : (d' : List ℕ) → d' ≡ overlay d end s → d' ≡ overlay to 0 (ptr_name f x)
      begun_all d' w = on s d' w ∙ ap (overlay to 0) whole

-- ---- bytes that are stored one after the other

pub four_stores : (to : List ℕ) (at a b c e : ℕ) → at + 4 ≤ length to → set (set (set (set to at a) (at + 1) b) (at + 2) c) (at + 3) e ≡ overlay to at (a ∷ b ∷ c ∷ e ∷ [])
unfolding overlay
four_stores to at a b c e room =
    let one : at + 1 ≡ suc at = omega arith in
    let two : at + 2 ≡ suc (suc at) = omega arith in
    let three : at + 3 ≡ suc (suc (suc at)) = omega arith in
    (λ i. set (set (set (set to at a) (one i) b) (two i) c) (three i) e) ∙ sets-eq (a ∷ b ∷ c ∷ e ∷ []) to at room
