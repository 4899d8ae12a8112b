-- The public theorems of `dhcid_text`. Assumes nothing.
use Prim.Native.Nat.{ℕ, ◌<◌}
use mathlib.Core.Path.{◌≡◌}
use mathlib.Core.Bool.{true}
use mathlib.Core.List.{List, [], ◌∷◌}
use Rattle.base.specs.Dhcid.{well_formed}
use Rattle.base.specs.Logic.{Every}
use Rattle.dhcid_text.specs.Dhcid.{base64, joined, Generic, SpellsDhcid}
use Rattle.dhcid_text.proofs.DhcidWordLaws.{dhcid_one, forms_are_apart, dhcid_written}

-- what words spell is determined by them
pub one_dhcid : (ws : List (List ℕ)) (bs cs : List ℕ) → SpellsDhcid ws bs → SpellsDhcid ws cs → bs ≡ cs
one_dhcid ws bs cs s t = dhcid_one ws bs cs s t

-- the two forms of a DHCID never overlap
pub forms_apart : (ws : List (List ℕ)) (bs cs : List ℕ) → SpellsDhcid ws bs → joined ws ≡ base64 bs → Generic ws cs → ⊥
forms_apart ws bs cs s e g = forms_are_apart ws bs cs s e g

-- what is written spells what was written
pub written_dhcid : (bs : List ℕ) → Every (λ b. b < 256) bs → well_formed bs ≡ true → SpellsDhcid (base64 bs ∷ []) bs
written_dhcid bs bytes test = dhcid_written bs bytes test
