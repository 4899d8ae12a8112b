use Prim.Native.Nat.{ℕ, ◌-◌}
use mathlib.Core.Path.{◌≡◌, refl, ap, subst, ◌∙◌}
use mathlib.Core.List.{List, ◌++◌, append_assoc}
use native.Mathlib.Omega.{arith}
use borrow.Author.Rules.{rules}
use lib.ListN.{length, take, drop, take-append-drop, length-drop}
use lib.Seq.{take_all}
use Rattle.base.specs.Bytes.{tabulate}
use Rattle.dhcid_text.specs.Base64.{value64}
use Rattle.dhcid_text.specs.DhcidReading.{Text64, with_bytes}
use Rattle.dhcid_text.proofs.DhcidLaws.{one_character_more}
use Rattle.dhcid_text.proofs.base64_word.Goals as goal

-- the table is the values of all bytes, which is computed
pub read_quanta-passed-requires : goal.read_quanta-passed-requires
unfolding tabulate value64
read_quanta-passed-requires c = (refl, search rules)

pub base64_character-sextets-requires : goal.base64_character-sextets-requires
unfolding tabulate value64
base64_character-sextets-requires c = (refl, search rules)

pub loop-b-preserved : goal.loop-b-preserved
loop-b-preserved c =
    let w = c.args.word.now in
    let rest : List ℕ = take (length w - c.read_quanta-passed.result) (drop c.read_quanta-passed.result w) in
    let l = c.loop-b in (
      c.base64_character-sextets.auto.bytes ∙ l.invariant.0,
      λ cs t. one_character_more cs rest l.b-index c.loop-b-test.true (c.base64_character-sextets.ensures (cs ++ take l.b-index rest) (l.invariant.1 cs t)),
    )

pub returns : goal.returns
returns c =
    let s = c.args.s in
    let w = c.args.word.now in
    let p = c.read_quanta-passed.result in
    let l = c.loop-b in
    let left : take l.b-index (take (length w - p) (drop p w)) ≡ drop p w =
    take_all l.b-index _ c.loop-b-test.false ∙ take_all (length w - p) (drop p w) (omega (arith, length-drop p w)) in
    let all = ap (λ (x : List ℕ). take p w ++ x) left ∙ take-append-drop p w in
    λ cs t.
    subst (λ (x : List ℕ). Text64 x (with_bytes l.sextets l.bytes))
    (append_assoc cs (take p w) _ ∙ ap (λ (x : List ℕ). cs ++ x) all)
    (l.invariant.1 (cs ++ take p w) (c.read_quanta-passed.ensures.1 s.form s.pending cs t))
