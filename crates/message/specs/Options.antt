-- The options of DHCP messages, of either family: where their data stand in the message, and which have a code. Document 01, "Messages"
-- (docs/RULES.md, 4.1 and 4.3). Which bytes are a message's options is each family's own: Options4.antt of `message4`, Options6.antt of `message6`.
use Rattle.std.specs.Prelude.{ℕ, Bool, cond, List, [], ◌∷◌, eqb, ltb, length}
use Rattle.std.proofs.Math.Option.{Option}
use Rattle.base.specs.Logic.{first_of}

-- an option of a message: its code, where in the message its data start, and the data
pub record Located : Type 0 where
  pub code : ℕ
  pub start : ℕ
  pub bytes : List ℕ

-- ---- by code

-- those with a code, in order
unfoldable pub having : ℕ → List Located → List Located
having code [] = []
having code (l ∷ ls) = cond (eqb l.code code) (l ∷ having code ls) (having code ls)

unfoldable pub is_repeated : ℕ → List Located → Bool
is_repeated code ls = ltb 1 (length (having code ls))

-- the option with a code; none where it is absent. Where it is repeated it is the first one, and nothing comes of it: such a message is refused with 5
unfoldable pub option_of : ℕ → List Located → Option Located
option_of code ls = first_of (having code ls)
