use Rattle.std.proofs.Common.{sym, ◌∙◌}
use Rattle.std.proofs.lemmas.Bool.Decides.{Decides-eqb}
use Rattle.std.proofs.lemmas.Slice.Eq.{slice_eq-Decides}
use Rattle.base.specs.Bytes.{ascii}
use Rattle.dhcid_text.proofs.DhcidWordLaws.{thirty_five_lem, other_length}
use Rattle.dhcid_text.proofs.length_word.Goals as goal

pub returns-then-eq : goal.returns-then-eq
unfolding ascii
returns-then-eq c = thirty_five_lem c.args.word.now _ ((slice_eq-Decides Decides-eqb _ _ _ c.eq.ensures).0 c.if-eq.true ∙ c.as_slice.ensures) c.fresh.ensures

pub returns : goal.returns
unfolding ascii
returns c =
    other_length c.args.word.now _
    (λ e. let same = (slice_eq-Decides Decides-eqb _ _ _ c.eq.ensures).1 (e ∙ sym c.as_slice.ensures) in cc)
    c.fresh-2.ensures
