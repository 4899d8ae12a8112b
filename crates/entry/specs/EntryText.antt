-- Where an entry stands in a text. Document 01, "The listing's grammar", paragraph 1 (docs/RULES.md, 6.2): a 10 outside parentheses ends an entry,
-- and the end of the text the last one.
use Rattle.std.specs.Prelude.{ℕ, ◌≤◌, ◌≡◌, List, ◌∷◌, ◌++◌, length, drop}

-- e is the text of the entry of t that begins at the offset at, and the next one begins at next: behind the 10 that ends this one; or at the text's end, with which this one ends
pub data EntryText (t : List ℕ) (at : ℕ) (e : List ℕ) : ℕ → Type 0 where
  last : at ≤ length t → drop at t ≡ e → EntryText t at e (length t)
  ended : {next : ℕ} → drop at t ≡ e ++ 10 ∷ drop next t → next ≤ length t → EntryText t at e next
