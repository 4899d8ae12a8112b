-- The reader of an owner: a function that decides whether a word is a proper name in text, and answers that name in canonical wire form. It finds what
-- `Owner` of Listing.antt says (proofs/OwnerReaderLaws.antt), and a reader of the grammar need not know it: no definition of meaning cites it.
use Rattle.std.specs.Prelude.{ℕ, Bool, ◌&&◌, List, ◌∷◌, leb, length}
use Rattle.std.proofs.Math.Option.{Option, some}
use Rattle.name.specs.Promise.{lead}
use Rattle.name.specs.TextTest.{shifted, valid}
use Rattle.grammar.specs.Deciding.{provided}

-- the test of a word: not too long, with a first label, and labels of the right bytes and lengths
abbrev pub is_owner : List ℕ → Bool
is_owner w = leb (length w) 254 && leb 1 (lead w) && valid w

-- the canonical wire form of the name that the word is in text, if it is one
unfoldable pub owner_of : List ℕ → Option (List ℕ)
owner_of w = provided (is_owner w) (some (lead w ∷ shifted w))
