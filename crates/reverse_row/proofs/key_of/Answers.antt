use Prim.Native.Nat.{ℕ, ◌-◌}
use mathlib.Core.Path.{◌∙◌, ap}
use mathlib.Core.List.{◌∷◌, ◌++◌}
use native.Mathlib.Omega.{arith}
use lib.ListN.{length, replicate}
use borrow.Author.Rules.{rules}
use Rattle.reverse.specs.Form.{key_bytes}
use Rattle.reverse.specs.Sizes.{address_room}
use Rattle.reverse.proofs.SlotLaws.{size_short}
use Rattle.reverse_row.proofs.KeyLaws.{key_put}
use Rattle.reverse_row.proofs.key_of.Goals as goal

pub put-requires : goal.put-requires
put-requires c = omega (arith, c.requires, size_short c.args.family)

pub returns : goal.returns
unfolding key_bytes
returns c =
    let x = c.args.address.now in
    c.put.ensures ∙ key_put address_room c.family_number.result x ∙ ap (λ (v : ℕ). v ∷ x ++ replicate (address_room - length x) 0) c.family_number.ensures
