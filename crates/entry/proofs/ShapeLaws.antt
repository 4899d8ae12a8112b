-- Whether the rest of an entry has a right shape. Assumes nothing.
use Prim.Native.Nat.{ℕ}
use mathlib.Core.Bool.{Bool, true, false}
use mathlib.Core.Path.{◌≡◌, ap}
use mathlib.Core.List.{List}
use lib.ListN.{drop}
use Rattle.grammar.specs.Scan.{plain, Laid, scan}
use Rattle.words.specs.NextIs.{depth_of, NextIs}
use Rattle.words.specs.declared.Next.{Next}
use Rattle.words.specs.declared.Next.TheVariants
use Rattle.entry.specs.EntryAt.{not_at_fault}
use Rattle.entry.proofs.NextLaws.{line_is, end_is, fault_is}

-- the rest of the text t, from at on at the depth d, has a right shape
abbrev pub right : List ℕ → ℕ → Bool → Bool
right t at d = not_at_fault (scan plain (depth_of d) (drop at t)).ending

module _ (t : List ℕ) (at : ℕ) (d : Bool) (r : Next) (h : NextIs t at d r) where
  pub line_right : {next : ℕ} → r ≡ TheVariants.Line next → right t at d ≡ true
  line_right e = ap (λ (l : Laid). not_at_fault l.ending) (line_is t at d r h e).ends

  pub end_right : r ≡ TheVariants.End → right t at d ≡ true
  end_right e = ap (λ (l : Laid). not_at_fault l.ending) (end_is t at d r h e)

  pub fault_wrong : r ≡ TheVariants.Fault → right t at d ≡ false
  fault_wrong e = ap (λ (l : Laid). not_at_fault l.ending) (fault_is t at d r h e)
