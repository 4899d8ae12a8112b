use mathlib.Core.Path.{refl, sym, ap, ◌∙◌}
use native.Mathlib.Omega.{arith}
use Rattle.base.specs.Bytes.{overlay}
use Rattle.name.specs.Name.{canonical}
use Rattle.name.proofs.NameLaws.{length_canonical}
use Rattle.update.specs.Message.{header_bytes}
use Rattle.update.proofs.LengthLaws.{length_header}
use Rattle.update.proofs.RestLaws.{parts, zone_is}
use borrow.Author.Rules.{rules}
use Rattle.update.proofs.record.put_head.Goals as goal

pub returns : goal.returns
returns c =
    let a = c.args in
    let h = c.header-start in
    record { value = refl; to_after = parts a.to.now _ _ _ _ _ _ _ _ (sym (length_header _ _ _ _ _)) (omega (arith, length_canonical a.zone.now)) (c.put.ensures ∙ ap (overlay _ _) h.ensures) c.put_canonical.ensures c.put-2.ensures ∙ ap (overlay _ 0) (zone_is (header_bytes a.id 1 a.prerequisites a.updates 0) (canonical a.zone.now)) }
