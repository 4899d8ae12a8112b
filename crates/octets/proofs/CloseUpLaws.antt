-- A slot of a row taken out: the bytes behind it move up by its size, and the last slot becomes zeros. Assumes nothing.
use Prim.Native.Nat.{ℕ, ◌+◌, ◌-◌, ◌≤◌}
use mathlib.Core.Path.{◌≡◌, sym, ap, ◌∙◌}
use mathlib.Core.List.{List, ◌++◌, append_assoc}
use native.Mathlib.Omega.{arith}
use lib.ListN.{length, take, drop, get_or, replicate, length-append, length-drop, length-replicate}
use lib.Seq.{get_or-drop, drop-paste}
use Rattle.base.specs.Bytes.{overlay, closed_up}
use Rattle.base.proofs.Bytes.{overlay_append, overlay_to_end}
use Rattle.base.proofs.Fill.{Copied}

-- while the bytes behind a slot move up, those still to move stand where they stood
pub read_behind : (size : ℕ) (b : List ℕ) (at : ℕ) (d : List ℕ) (i : ℕ) → at + size ≤ length b → Copied b at (drop (at + size) b) d i → get_or d (at + size + i) 0 ≡ get_or (drop (at + size) b) i 0
read_behind size b at d i fits c =
    let on : at + i + size ≡ at + size + i = omega arith in
    let same : drop (at + i) d ≡ drop (at + i) b = ap (drop (at + i)) c.done ∙ drop-paste b at (drop (at + size) b) i (omega arith) c.below in
    ap (λ (n : ℕ). get_or d n 0) (sym on) ∙ sym (get_or-drop (at + i) d size 0) ∙ ap (λ (l : List ℕ). get_or l size 0) same
    ∙ get_or-drop (at + i) b size 0 ∙ ap (λ (n : ℕ). get_or b n 0) on ∙ sym (get_or-drop (at + size) b i 0)

-- then zeros in the last slot
pub closed_up_lem : (size : ℕ) (b : List ℕ) (at : ℕ) → at + size ≤ length b → overlay (overlay b at (drop (at + size) b)) (length b - size) (replicate size 0) ≡ closed_up size b at
unfolding closed_up
closed_up_lem size b at fits =
    let long = length-drop (at + size) b in
    let tail : at + length (drop (at + size) b) ≡ length b - size = omega arith in
    ap (λ (n : ℕ). overlay (overlay b at (drop (at + size) b)) n (replicate size 0)) (sym tail) ∙ overlay_append b at (drop (at + size) b) (replicate size 0) (omega arith)
    ∙ overlay_to_end b at (drop (at + size) b ++ replicate size 0) (simp length-append (omega (arith, length-replicate {A = ℕ} size 0)))
    ∙ sym (append_assoc (take at b) (drop (at + size) b) (replicate size 0))
