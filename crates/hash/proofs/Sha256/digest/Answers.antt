use Rattle.std.proofs.Common.{◌≡◌, ◌-◌, ◌*◌, ◌≤◌, length, take, sym, refl, ap, ◌∙◌, arith, take_all, rules}
use Rattle.base.specs.Bytes.{in_bytes}
use Rattle.base.proofs.Bytes.{in_bytes_more}
use Rattle.hash.specs.Sha256.{digest}
use Rattle.hash.proofs.Sha256.digest.Goals as goal

pub loop-i-init : goal.loop-i-init
unfolding in_bytes
loop-i-init c = (omega arith, refl, refl)

pub put-requires : goal.put-requires
put-requires c =
    let four : length c.to_be32-w.result ≡ 4 = search rules in
    omega arith

pub loop-i-preserved : goal.loop-i-preserved
loop-i-preserved c =
    let l = c.loop-i in
    let words = c.args.self.words in
    let four : length c.to_be32-w.result ≡ 4 = search rules in
    let eight : length words ≡ 8 = search rules in (
      omega arith,
      c.put.auto.to ∙ l.invariant.1,
      in_bytes_more 4 words l.bytes _ _ l.i c.put.ensures c.to_be32-w.ensures l.invariant.2 (omega arith) (omega arith),
    )

pub returns : goal.returns
unfolding digest
returns c =
    let l = c.loop-i in
    let words = c.args.self.words in
    let eight : length words ≡ 8 = search rules in
    sym (take_all (4 * l.i) l.bytes (omega arith)) ∙ l.invariant.2 ∙ ap (in_bytes 4) (take_all l.i words (omega arith))
