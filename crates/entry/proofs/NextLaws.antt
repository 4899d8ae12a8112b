-- What comes next in an entry, by cases, for the functions that read on. Assumes nothing.
use Prim.Native.Nat.{ℕ, ◌-◌}
use mathlib.Core.Bool.{Bool}
use mathlib.Core.Path.{◌≡◌, refl, ap, subst}
use mathlib.Core.List.{List, [], ◌∷◌}
use lib.ListN.{take, drop}
use Rattle.grammar.specs.Scan.{plain, at_end, at_fault, Laid, scan}
use Rattle.words.specs.NextIs.{depth_of, WordAt, LineAt, NextIs}
use Rattle.words.specs.declared.Next.{Next}
use Rattle.words.specs.declared.Next.TheVariants
use Rattle.entry.specs.Parts.{words_at}

module _ (t : List ℕ) (at : ℕ) (d : Bool) where
  pub word_is : (r : Next) {start end : ℕ} {d' : Bool} → NextIs t at d r → r ≡ TheVariants.Word start end d' → WordAt t at d start end d'
  word_is r h e = subst (NextIs t at d) e h

  pub line_is : (r : Next) {next : ℕ} → NextIs t at d r → r ≡ TheVariants.Line next → LineAt t at d next
  line_is r h e = subst (NextIs t at d) e h

  pub end_is : (r : Next) → NextIs t at d r → r ≡ TheVariants.End → scan plain (depth_of d) (drop at t) ≡ record { words = []; ending = at_end }
  end_is r h e = subst (NextIs t at d) e h

  pub fault_is : (r : Next) → NextIs t at d r → r ≡ TheVariants.Fault → scan plain (depth_of d) (drop at t) ≡ record { words = []; ending = at_fault }
  fault_is r h e = subst (NextIs t at d) e h

  -- of anything but a word, the entry has no words
  pub no_word : (r : Next) → ((start end : ℕ) (d' : Bool) → r ≡ TheVariants.Word start end d' → ⊥) → NextIs t at d r → words_at t at d ≡ []
  no_word (TheVariants.Word start end d') e h = absurd (e start end d' refl)
  no_word (TheVariants.Line next) e h = ap (λ (l : Laid). l.words) h.ends
  no_word TheVariants.End e h = ap (λ (l : Laid). l.words) h
  no_word TheVariants.Fault e h = ap (λ (l : Laid). l.words) h

  -- after a word the other words follow, and the entry ends as it does after it
  module _ {start end : ℕ} {d' : Bool} (w : WordAt t at d start end d') where
    pub word_words : words_at t at d ≡ take (end - start) (drop start t) ∷ words_at t end d'
    word_words = ap (λ (l : Laid). l.words) w.first

    pub word_ends : (scan plain (depth_of d) (drop at t)).ending ≡ (scan plain (depth_of d') (drop end t)).ending
    word_ends = ap (λ (l : Laid). l.ending) w.first
