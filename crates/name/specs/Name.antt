-- Domain names. A name is a list of labels; its wire form and its text are two ways to write that list. Document 01, "Names" (docs/RULES.md, 3).
use Rattle.std.specs.Prelude.{ℕ, ◌≤◌, ◌≡◌, List, [], ◌∷◌, ◌++◌, map, length}
use Rattle.base.specs.Bytes.{ascii}
use Rattle.base.specs.Logic.{Every, Pairwise}
use Rattle.name.specs.Label.{Label, lower}

-- RFC 1035, 3.1: each label after its length, then one zero byte
unfoldable pub wire : List (List ℕ) → List ℕ
wire [] = 0 ∷ []
wire (l ∷ ls) = length l ∷ l ++ wire ls

-- the labels, each followed by a dot
unfoldable pub text : List (List ℕ) → List ℕ
text [] = []
text (l ∷ ls) = l ++ (ascii "." ++ text ls)

-- a proper name: one or more labels, at most 255 bytes in wire form
pub record Name (ls : List (List ℕ)) : Type 0 where
  pub some : 1 ≤ length ls
  pub labels : Every Label ls
  pub short : length (wire ls) ≤ 255

-- the bytes n are a proper name in wire form, with nothing after it
pub record Proper (n : List ℕ) : Type 0 where
  pub labels : List (List ℕ)
  pub name : Name labels
  pub form : n ≡ wire labels

-- the word w is a proper name in text, and n is that name in wire form
pub record SpellsName (w n : List ℕ) : Type 0 where
  pub labels : List (List ℕ)
  pub name : Name labels
  pub word : w ≡ text labels
  pub form : n ≡ wire labels

-- RFC 4034, 6.2: the canonical form of a name in wire form. No length byte is changed: it is at most 63, and A is 65
unfoldable pub canonical : List ℕ → List ℕ
canonical n = map lower n

-- RFC 4343: two names are the same if they have equally many labels, equal one by one but for the case of letters
unfoldable pub SameName : List (List ℕ) → List (List ℕ) → Type 0
SameName = Pairwise (Pairwise (λ a b. lower a ≡ lower b))

-- what the canonical form of a proper name n is: proper, as long as n, and canonical already
pub record CanonicalForm (n : List ℕ) : Type 0 where
  pub proper : Proper (canonical n)
  pub long : length (canonical n) ≡ length n
  pub again : canonical (canonical n) ≡ canonical n

-- document 02, K8 (docs/RULES.md, 13.1): the name n is in the zone z if z's labels are n's last ones. The zone's own name is in it
pub record Within (n z : List ℕ) : Type 0 where
  pub first : List (List ℕ)
  pub labels : List (List ℕ)
  pub name : n ≡ wire (first ++ labels)
  pub zone : z ≡ wire labels
