use mathlib.Core.Bool.{Bool}
use mathlib.Core.Path.{sym, ap, subst, ◌∙◌}
use Rattle.message.specs.Request.{bytes_of, Inside}
use Rattle.dhcid.specs.Chosen.{among, name_bytes}
use Rattle.dhcid.specs.Handing.{place_in, source}
use Rattle.dhcid.proofs.name_of.Goals as goal

pub part_of-requires : goal.part_of-requires
part_of-requires c =
    let start = c.args in
    subst (λ (t : Bool). Inside (among t start.message.now start.site.now) start.chosen.part) c.if-chosen.true c.requires

pub returns-then-chosen : goal.returns-then-chosen
unfolding name_bytes
returns-then-chosen c =
    let start = c.args in
    let is = sym c.if-chosen.true in
    record {
      bytes = c.part_of.ensures.bytes ∙ ap (λ (t : Bool). bytes_of (among t start.message.now start.site.now) start.chosen.part) is;
      uncopied = c.part_of.ensures.uncopied ∙ ap (λ (t : Bool). place_in (source t start.message start.site) start.chosen.part.start) is;
    }

pub part_of-requires-2 : goal.part_of-requires-2
part_of-requires-2 c =
    let start = c.args in
    subst (λ (t : Bool). Inside (among t start.message.now start.site.now) start.chosen.part) c.if-chosen.false c.requires

pub returns : goal.returns
unfolding name_bytes
returns c =
    let start = c.args in
    let is = sym c.if-chosen.false in
    record {
      bytes = c.part_of-2.ensures.bytes ∙ ap (λ (t : Bool). bytes_of (among t start.message.now start.site.now) start.chosen.part) is;
      uncopied = c.part_of-2.ensures.uncopied ∙ ap (λ (t : Bool). place_in (source t start.message start.site) start.chosen.part.start) is;
    }
