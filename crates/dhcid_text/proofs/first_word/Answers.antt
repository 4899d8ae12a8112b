use Rattle.std.proofs.Common.{sym, ◌∙◌}
use Rattle.std.proofs.lemmas.Bool.Decides.{Decides-eqb}
use Rattle.std.proofs.lemmas.Slice.Eq.{slice_eq-Decides}
use Rattle.base.specs.Bytes.{ascii}
use Rattle.dhcid_text.proofs.DhcidWordLaws.{first_marker, first_base64}
use Rattle.dhcid_text.proofs.first_word.Goals as goal

pub returns-then-eq : goal.returns-then-eq
unfolding ascii
returns-then-eq c = first_marker c.args.word.now _ ((slice_eq-Decides Decides-eqb _ _ _ c.eq.ensures).0 c.if-eq.true ∙ c.as_slice.ensures) c.fresh.ensures

pub returns : goal.returns
unfolding ascii
returns c =
    first_base64 c.args.word.now _ _
    (λ e. let same = (slice_eq-Decides Decides-eqb _ _ _ c.eq.ensures).1 (e ∙ sym c.as_slice.ensures) in cc)
    c.fresh-2.ensures c.base64_word.ensures
