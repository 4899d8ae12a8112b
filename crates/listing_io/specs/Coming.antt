-- What came from standard input. Of the bytes that come from C's read and go to its write no contract can speak.
use Rattle.std.specs.Prelude.{ℕ, ◌≤◌, List, length}
use Rattle.listing_io.specs.declared.Input.{Input}
use Rattle.listing_io.specs.declared.Input.TheVariants.{Read, Failed}

-- no more bytes came than there is room for
abbrev pub Came : List ℕ → Input → Type 0
Came text (Read n) = n ≤ length text
Came text Failed = Unit {0}
