-- The public theorems of `address`. Assumes nothing.
use Prim.Native.Nat.{ℕ, ◌<◌}
use mathlib.Core.Path.{◌≡◌}
use mathlib.Core.List.{List}
use lib.ListN.{length}
use Rattle.base.specs.Logic.{Every}
use Rattle.address.specs.Address.{SpellsA, SpellsAAAA, written_a, written_aaaa}
use Rattle.address.proofs.AddressLaws.{a_one, aaaa_one}
use Rattle.address.proofs.WrittenLaws.{a_written, aaaa_written}

-- ---- what a word spells is determined by it

pub one_a : (w bs cs : List ℕ) → SpellsA w bs → SpellsA w cs → bs ≡ cs
one_a w bs cs s t = a_one w bs cs s t

pub one_aaaa : (w bs cs : List ℕ) → SpellsAAAA w bs → SpellsAAAA w cs → bs ≡ cs
one_aaaa w bs cs s t = aaaa_one w bs cs s t

-- ---- what is written spells what was written

pub written_a_lem : (bs : List ℕ) → Every (λ b. b < 256) bs → length bs ≡ 4 → SpellsA (written_a bs) bs
written_a_lem bs bytes four = a_written bs bytes four

pub written_aaaa_lem : (bs : List ℕ) → Every (λ b. b < 256) bs → length bs ≡ 16 → SpellsAAAA (written_aaaa bs) bs
written_aaaa_lem bs bytes sixteen = aaaa_written bs bytes sixteen
