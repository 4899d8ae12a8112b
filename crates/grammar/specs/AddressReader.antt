-- The readers of an A's and an AAAA's data: functions that decide which bytes a word spells. Both read numbers with a separator between them, byte by
-- byte. They find what SpellsA and SpellsAAAA of `address` say (proofs/AddressReaderLaws.antt), and a reader of the grammar need not know them: no
-- definition of meaning cites them.
use Rattle.std.specs.Prelude.{ℕ, ◌+◌, ◌*◌, Bool, cond, ◌&&◌, ◌||◌, List, [], ◌∷◌, leb, ltb, eqb, length}
use Rattle.std.proofs.Math.Option.{Option, some, bind, map}
use Rattle.base.specs.Bytes.{in_bytes}
use Rattle.text.specs.Digits.{digit_value}
use Rattle.text.specs.declared.field.Form.{Form}
use Rattle.address.specs.Forms.{octets, groups}
use Rattle.grammar.specs.Deciding.{provided}

module _ (f : Form) where
  -- the test of text's Allowed: a field with the number v and n digits so far may have a digit of value d more
  abbrev pub is_allowed : ℕ → ℕ → ℕ → Bool
  is_allowed v n d = ltb d f.base && ltb n f.most && (f.leading_zeros || eqb n 0 || leb 1 v) && leb (v * f.base + d) f.greatest

  -- the numbers that a text goes on to, if it does, from the middle of a field with the number v of n digits: From as a function. Of the two
  -- answers that are bound by `let` only the one that the byte asks for is computed
  unfoldable pub fields_of : ℕ → ℕ → List ℕ → Option (List ℕ)
  fields_of v n [] = provided (leb 1 n) (some (v ∷ []))
  fields_of v n (x ∷ t) =
      let next = map (λ (ns : List ℕ). v ∷ ns) (fields_of 0 0 t) in
      let further = fields_of (v * f.base + digit_value x) (n + 1) t in
      cond (eqb x f.separator) (provided (leb 1 n) next) (provided (is_allowed v n (digit_value x)) further)

  -- the numbers that a word is, if it is as many of them as the form wants: Fields as a function
  unfoldable pub numbers_of : List ℕ → Option (List ℕ)
  numbers_of w = bind (fields_of 0 0 w) (λ ns. provided (eqb (length ns) f.count) (some ns))

-- ---- addresses

-- the four bytes that a word spells as an A's data, if it does
unfoldable pub a_of : List ℕ → Option (List ℕ)
a_of w = numbers_of octets w

-- the sixteen bytes that a word spells as an AAAA's data, if it does
unfoldable pub aaaa_of : List ℕ → Option (List ℕ)
aaaa_of w = map (in_bytes 2) (numbers_of groups w)
