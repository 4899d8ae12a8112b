use Prim.Native.Nat.{◌+◌}
use mathlib.Core.Bool.{Bool, cond}
use mathlib.Core.Path.{sym, ap}
use borrow.Author.Rules.{rules}
use borrow.Author.Tests.{lt-ltb, le-ltb}
use Rattle.table_load.proofs.used_with.Goals as goal

pub returns-then-i-used : goal.returns-then-i-used
returns-then-i-used c = let a = c.args in sym (ap (λ (x : Bool). cond x a.used (a.i + 1)) (lt-ltb a.i a.used c.if-i-used.true))

pub returns : goal.returns
returns c = let a = c.args in sym (ap (λ (x : Bool). cond x a.used (a.i + 1)) (le-ltb a.i a.used c.if-i-used.false))
