use mathlib.Core.Path.{refl}
use native.Mathlib.Omega.{arith}
use Rattle.dhcid_text.specs.DhcidReading.{state_of}
use Rattle.dhcid_text.specs.declared.Form.TheVariants.{Base64}
use Rattle.dhcid_text.proofs.DhcidLaws.{first_digit, second_digit, third_digit, fourth_digit}
use Rattle.dhcid_text.proofs.sextet.Goals as goal

pub returns-in-0 : goal.returns-in-0
returns-in-0 c =
    let a = c.args in
    let s = state_of Base64 a.count a.pending a.bytes.now in
    λ cs h. first_digit s _ a.v (omega arith) (omega arith) cs h refl refl c.in-0.is refl refl h.group

pub returns-in-1 : goal.returns-in-1
returns-in-1 c =
    let a = c.args in
    let s = state_of Base64 a.count a.pending a.bytes.now in
    λ cs h. second_digit s _ a.v (omega arith) (omega arith) cs h refl refl c.in-1.is refl refl h.group

pub returns-in-2 : goal.returns-in-2
returns-in-2 c =
    let a = c.args in
    let s = state_of Base64 a.count a.pending a.bytes.now in
    λ cs h. third_digit s _ a.v (omega arith) (omega arith) cs h refl refl c.in-2.is refl refl h.group

pub returns-in_default : goal.returns-in_default
returns-in_default c =
    let a = c.args in
    let s = state_of Base64 a.count a.pending a.bytes.now in
    λ cs h. fourth_digit s _ a.v (omega arith) (omega arith) cs h refl refl (omega arith) refl h.group
