use Prim.Native.Nat.{ℕ, ◌<◌}
use mathlib.Core.Path.{◌≡◌}
use borrow.Author.Rules.{rules}
use lib.ListN.{length, get_or}
use Rattle.base.specs.Logic.{Decides}
use Rattle.base.proofs.Lists.{every_at}
use Rattle.base.proofs.Tests.{decides_as}
use Rattle.harness.proofs.FindLaws.{every_below}
use Rattle.harness.proofs.is_all.Goals as goal

pub returns : goal.returns
returns c =
    let bytes = c.args.bytes.now in
    let each : Decides c.all.result ((i : ℕ) → i < length bytes → get_or bytes i 0 ≡ c.args.b) = search rules in
    decides_as (every_below bytes) (every_at bytes) each
