-- What the functions behind the calls promise beyond the definitions of the messages: no meaning is defined by it.
use Rattle.std.specs.Prelude.{ℕ, ◌+◌, ◌*◌, ◌≡◌, List}
use Rattle.name.specs.Name.{Proper, canonical, Within}
use Rattle.update.specs.declared.Kind.{Kind}
use Rattle.update.specs.declared.Kind.TheVariants.{AddFirst, AddSecond, RemoveFirst}

-- how many bytes the messages have, for a zone, a name and an address of so many; `Theorems` says that it is the length of `message_bytes`
abbrev pub length_of : Kind → ℕ → ℕ → ℕ → ℕ
length_of AddFirst z n a = 81 + z + 3 * n + a
length_of AddSecond z n a = 81 + z + 3 * n + a
length_of RemoveFirst z n a = 81 + z + 3 * n + 2 * a

-- the second message of a remove, which has no address
abbrev pub last_length : ℕ → ℕ → ℕ
last_length z n = 126 + z + 4 * n

-- refusal 9's test of a name that is in canonical form already; its zone z may be in any case
pub record Placed (n z : List ℕ) : Type 0 where
  pub proper : Proper n
  pub lower : canonical n ≡ n
  pub within : Within n (canonical z)
