use mathlib.Core.Path.{refl}
use Rattle.dhcid_text.specs.DhcidReading.{with_bytes}
use Rattle.dhcid_text.proofs.DhcidLaws.{no_pad, spare_bits, last_pad}
use Rattle.dhcid_text.proofs.last_character.Goals as goal

pub returns-then-b-ne-PAD : goal.returns-then-b-ne-PAD
returns-then-b-ne-PAD c =
    let a = c.args in
    λ cs bytes h. no_pad cs a.b (with_bytes a.s bytes) _ c.no_sextets.ensures h.form c.requires c.if-b-ne-PAD.true h

pub returns-then-s-ne0 : goal.returns-then-s-ne0
returns-then-s-ne0 c =
    let a = c.args in
    λ cs bytes h. spare_bits cs a.b (with_bytes a.s bytes) _ c.no_sextets-then-s-ne0.ensures h.form c.requires c.if-s-ne0.true h

pub returns : goal.returns
returns c =
    let a = c.args in
    λ cs bytes h. last_pad cs a.b (with_bytes a.s bytes) _ h c.requires c.if-b-ne-PAD.false c.if-s-ne0.false refl refl refl
