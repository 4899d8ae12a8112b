-- The DHCID itself: its size, and refusal 15's test. Assumes nothing.
use Prim.Native.Nat.{ℕ, ◌+◌, ◌≤◌, ◌<◌}
use mathlib.Core.Bool.{true, ◌&&◌}
use mathlib.Core.Path.{◌≡◌, refl, sym, ap, ◌∙◌}
use mathlib.Core.List.{List}
use native.Mathlib.Omega.{arith}
use lib.ListN.{length, take, drop}
use borrow.Author.Tests.{eq-eqb, le-leb}
use Rattle.base.specs.Answer.{number}
use Rattle.base.specs.Bytes.{big_endian, overlay}
use Rattle.base.specs.Dhcid.{identifier_type, digest_type, well_formed}
use Rattle.base.specs.Logic.{Every}
use Rattle.base.specs.Refusal.{hash_input_long}
use Rattle.base.specs.declared.Answer.{Answer}
use Rattle.base.proofs.Bytes.{take_overlay, drop_overlay}
use Rattle.hash.proofs.Theorems.{digest_size}
use Rattle.name.proofs.WireLaws.{proper_short}
use Rattle.message.specs.Request.{identifier_bytes}
use Rattle.message.specs.declared.Request.{Request}
use Rattle.dhcid.specs.Chosen.{Says, Chooses, name_bytes}
use Rattle.dhcid.specs.Dhcid.{dhcid, WritesDhcid}
use Rattle.dhcid.specs.declared.Chosen.{Chosen}
use Rattle.dhcid.proofs.SaysLaws.{placed}
use Rattle.dhcid.proofs.NumberLaws.{choice_low}
use Rattle.dhcid.proofs.ChoiceLaws.{lies}
use Rattle.dhcid.proofs.WritingLaws.{chosen_accepted}

module _ (type : ℕ) (identifier name : List ℕ) where
  pub length_dhcid : length (dhcid type identifier name) ≡ 35
  unfolding dhcid big_endian
  length_dhcid = rw digest_size

  type_of : type ≤ 2 → identifier_type (dhcid type identifier name) ≤ 2
  unfolding identifier_type dhcid big_endian
  type_of h = omega arith

  digest_type_of : digest_type (dhcid type identifier name) ≡ 1
  unfolding digest_type dhcid big_endian
  digest_type_of = refl

  pub dhcid_well_formed : type ≤ 2 → well_formed (dhcid type identifier name) ≡ true
  unfolding well_formed
  dhcid_well_formed h =
      let d = dhcid type identifier name in
      λ i. eq-eqb (length d) 35 length_dhcid i && le-leb (identifier_type d) 2 (type_of h) i && eq-eqb (digest_type d) 1 digest_type_of i

-- what the output then holds: the DHCID, and what stood behind it
module _ (out d : List ℕ) (long : length d ≡ 35) where
  pub output_first : take 35 (overlay out 0 d) ≡ d
  output_first = ap (λ (n : ℕ). take n (overlay out 0 d)) size ∙ take_overlay out 0 d (omega arith)
    where
      size : 35 ≡ 0 + length d
      size = omega arith

  pub output_rest : drop 35 (overlay out 0 d) ≡ drop 35 out
  output_rest = ap (λ (n : ℕ). drop n (overlay out 0 d)) size ∙ drop_overlay out 0 d (omega arith) ∙ sym (ap (λ (n : ℕ). drop n out) size)
    where
      size : 35 ≡ 0 + length d
      size = omega arith

-- ---- how much is hashed

module _ {family setting : ℕ} {m site : List ℕ} {r : Request} {c : Chosen} (bytes : Every (λ b. b < 256) m) where
  pub few_hashed : Says family m r → Chooses family setting m site c → c.refusal ≡ 0 → length (identifier_bytes m r) + length (name_bytes m site c) ≤ 510
  few_hashed h k z =
      let accepted = chosen_accepted family setting m site h k z in
      omega (arith, (placed h accepted).identifier bytes, proper_short (name_bytes m site c) ((lies k).proper z))

pub never_long : {family setting : ℕ} {m site out : List ℕ} {a : Answer} {left : List ℕ} → Every (λ b. b < 256) m → WritesDhcid family setting m site out a left
    → number a ≡ hash_input_long → ⊥
never_long bytes (WritesDhcid.no_name h n) e = omega (arith, choice_low h)
never_long bytes (WritesDhcid.too_much s h z long) e = omega (arith, few_hashed bytes s h z)
never_long bytes (WritesDhcid.no_room s h z few short) e = omega arith
never_long bytes (WritesDhcid.written s h z few room) e = omega arith
