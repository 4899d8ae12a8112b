-- A block brings at most one name more. Assumes nothing.
use Prim.Native.Nat.{suc, ◌+◌, ◌≤◌}
use mathlib.Core.Path.{◌≡◌, ap, ◌∙◌}
use mathlib.Core.List.{List, [], ◌∷◌, ◌++◌}
use mathlib.Core.Option.{Option}
use native.Mathlib.Omega.{arith}
use lib.ListN.{length, length-append}
use Rattle.slots.specs.Form.{TableEntry}
use Rattle.table.specs.Steps.{find}
use Rattle.table.proofs.FoundLaws.{Standing, standing}
use Rattle.table.proofs.SoundLaws.{length_without}
use Rattle.book.specs.Notes.{Note, standing_by, noted, after_from}

-- a block brings at most one name more
stands_more : (e : TableEntry) (t : List TableEntry) → Standing e.name t → length (noted (Note.stands e) t) ≤ suc (length t)
unfolding noted
stands_more e t (Standing.nowhere p f) =
    let l : length (standing_by (find e.name t) e t) ≡ length t + 1 = ap (λ (o : Option TableEntry). length (standing_by o e t)) f ∙ length-append t (e ∷ []) in omega arith
stands_more e t (Standing.at p d r cut here found change left) =
    let a : length (standing_by (find e.name t) e t) ≡ length (p ++ e ∷ r) = ap (λ (o : Option TableEntry). length (standing_by o e t)) found ∙ ap length (change (λ _. e)) in
    let b : length (p ++ e ∷ r) ≡ length p + suc (length r) = length-append p (e ∷ r) in
    let c : length t ≡ length p + suc (length r) = ap length cut ∙ length-append p (d ∷ r) in
    omega arith

one_more : (c : Note) (t : List TableEntry) → length (noted c t) ≤ suc (length t)
unfolding noted
one_more (Note.gone n) t = let h = length_without n t in omega arith
one_more (Note.stands e) t = stands_more e t (standing e.name t)

pub after_more : (cs : List Note) (t : List TableEntry) → length (after_from cs t) ≤ length cs + length t
unfolding after_from
after_more [] t = omega arith
after_more (c ∷ cs) t = let h = after_more cs (noted c t) in let k = one_more c t in omega arith
