use Prim.Native.Nat.{◌*◌}
use mathlib.Core.Path.{◌≡◌, refl, sym, ap, ◌∙◌}
use native.Mathlib.Nat.{div-one}
use native.Mathlib.Omega.{arith}
use borrow.Author.Rules.{rules}
use lib.ListN.{length}
use lib.Seq.{take_all}
use Rattle.base.specs.Bytes.{in_bytes, big_endian}
use Rattle.base.proofs.Bytes.{in_bytes_more}
use Rattle.text.specs.Reading.{yes_read, none_read}
use Rattle.text.proofs.ScanLaws.{none_were_read}
use Rattle.address.proofs.AddressLaws.{groups_usable, aaaa_fields, aaaa_read}
use Rattle.address.proofs.read_aaaa.Goals as goal

pub read_fields-requires : goal.read_fields-requires
read_fields-requires c = groups_usable

pub returns-in_err-values : goal.returns-in_err-values
returns-in_err-values c = rw c.from_residual.ensures (none_read (λ bs s. none_were_read c.in_err-values.ensures s.numbers (aaaa_fields _ bs s)))

pub loop-i-init : goal.loop-i-init
unfolding in_bytes
loop-i-init c = (refl, refl)

pub loop-i-preserved : goal.loop-i-preserved
unfolding big_endian
loop-i-preserved c =
    let l = c.loop-i in
    let eight : length c.in_ok-values.values ≡ 8 = search rules in (
      c.put.auto.to ∙ l.invariant.0,
      in_bytes_more 2 _ _ _ _ l.i c.put.ensures (simp div-one c.to_be_bytes.ensures) l.invariant.1 (omega arith) (omega arith),
    )

pub returns : goal.returns
returns c =
    let l = c.loop-i in
    let eight : length c.in_ok-values.values ≡ 8 = search rules in
    yes_read
    (aaaa_read _ _ _ c.in_ok-values.ensures
    (sym (take_all (2 * l.i) l.bytes (omega arith)) ∙ l.invariant.1 ∙ ap (in_bytes 2) (take_all l.i c.in_ok-values.values (omega arith))))
