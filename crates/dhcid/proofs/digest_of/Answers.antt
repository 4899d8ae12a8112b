use mathlib.Core.Path.{ap, ◌∙◌}
use mathlib.Core.List.{◌++◌}
use native.Mathlib.Omega.{arith}
use lib.ListN.{length, take, length-take}
use Rattle.hash.specs.Sha256.{sha256}
use Rattle.hash.proofs.Theorems.{taken, finished}
use Rattle.message.specs.Request.{identifier_bytes}
use Rattle.dhcid.proofs.WritingLaws.{take_canonical}
use borrow.Author.Rules.{rules}
use Rattle.dhcid.proofs.digest_of.Goals as goal

pub slice_bounds-take-end : goal.slice_bounds-take-end
slice_bounds-take-end c =
    let short = c.requires.name in
    simp length-take (omega (arith, c.put_canonical.auto.to))

pub returns : goal.returns
unfolding identifier_bytes
returns c =
    let name = c.args.name.now in
    let all = taken _ _ _ _ (taken _ _ _ _ c.begin_with.ensures c.take.ensures) c.take-2.ensures in
    let lower = ap (take (length name)) c.put_canonical.ensures ∙ take_canonical 255 name in
    c.digest.ensures ∙ finished _ _ _ all c.finish.ensures
    ∙ ap sha256 (λ i. (c.part_of.ensures.bytes i ++ c.part_of-2.ensures.bytes i) ++ lower i)
