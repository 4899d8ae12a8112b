-- What the check of a listing promises, over `Checked` of grammar (specs/Outcome.antt), which says what is answered to a text with no word of how it is read.
use Rattle.std.specs.Prelude.{ℕ, ◌≡◌, List, length}
use Rattle.base.specs.declared.Answer.{Answer}
use Rattle.base.specs.declared.Answer.TheVariants.{Accepted, Refused}
use Rattle.grammar.specs.Outcome.{Outcome, accepted, refused, Checked}

-- the most bytes of a listing (refusal 17)
abbrev pub limit : ℕ
limit = 65536

-- an outcome told by the number of its records
abbrev pub counted : Outcome → Answer
counted (accepted rs) = Accepted (length rs)
counted (refused n offset) = Refused n offset

-- what the check of the text t answers
unfoldable pub Checks : List ℕ → Answer → Type 0
Checks t a = (o : Outcome) × Checked limit t o × (a ≡ counted o)
