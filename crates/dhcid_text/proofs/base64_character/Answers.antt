use mathlib.Core.Path.{◌≡◌, subst}
use native.Mathlib.Omega.{arith}
use Rattle.dhcid_text.specs.DhcidReading.{state_of, with_bytes, Begun64}
use Rattle.dhcid_text.specs.declared.Form.TheVariants.{Base64}
use Rattle.dhcid_text.specs.declared.Form.{Form}
use Rattle.dhcid_text.proofs.DhcidLaws.{at_last, too_many, no_digit, another_digit}
use borrow.Author.Rules.{rules}
use Rattle.dhcid_text.proofs.base64_character.Goals as goal

pub returns-then-count-eq47 : goal.returns-then-count-eq47
returns-then-count-eq47 c =
    let a = c.args in
    let s = with_bytes a.s a.bytes.now in
    λ cs t. at_last cs a.b s _ (search rules) c.if-count-eq47.true (c.last_character.ensures cs a.bytes.now) t

pub returns-then-count-gt47 : goal.returns-then-count-gt47
returns-then-count-gt47 c =
    let a = c.args in
    let s = with_bytes a.s a.bytes.now in
    λ cs t. too_many cs a.b s _ c.no_sextets.ensures (search rules) c.if-count-gt47.true t

pub returns-then-v-gt63 : goal.returns-then-v-gt63
returns-then-v-gt63 c =
    let a = c.args in
    let s = with_bytes a.s a.bytes.now in
    λ cs t. no_digit cs a.b s _ c.no_sextets-then-v-gt63.ensures (search rules) c.if-count-eq47.false c.if-count-gt47.false (omega (arith, c.value64-v.ensures)) t

pub returns : goal.returns
returns c =
    let a = c.args in
    let s = with_bytes a.s a.bytes.now in
    let is : a.s.form ≡ Base64 = search rules in
    λ cs t. another_digit cs a.b s _ _ (search rules) (omega arith) c.value64-v.ensures (omega arith) (λ h. c.sextet-pending.ensures cs (subst (λ (f : Form). Begun64 cs (state_of f a.s.count a.s.pending a.bytes.now)) is h)) t
