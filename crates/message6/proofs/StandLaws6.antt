-- Where the options of a DHCPv6 level stand in the message. Assumes nothing.
use Prim.Native.Nat.{ℕ, ◌+◌, ◌-◌, ◌≤◌}
use mathlib.Core.Bool.{Bool, true, false, cond}
use mathlib.Core.Path.{◌≡◌, refl, sym, ap, ◌∙◌}
use mathlib.Core.List.{List, [], ◌∷◌, ◌++◌}
use native.Mathlib.Omega.{arith}
use lib.Dec.{eqb}
use lib.ListN.{length, take, drop, length-append}
use lib.Seq.{take_at, drop_at, take-take}
use Rattle.base.specs.Logic.{Every}
use Rattle.message.specs.Options.{Located, having}
use Rattle.message6.specs.Options6.{Option6, written6, Options6, located6}
use Rattle.message6.specs.Walking6.{part}
use Rattle.message6.proofs.OptionsLaws6.{written_first_lem}
use Rattle.message6.proofs.PassLaws6.{length_part, drop_part}

-- an option among those from the offset at up to end: behind four bytes, and its data are bytes of the message
pub record Stands (m : List ℕ) (at end : ℕ) (l : Located) : Type 0 where
  pub from : at + 4 ≤ l.start
  pub until : l.start + length l.bytes ≤ end
  pub there : l.bytes ≡ take (length l.bytes) (drop l.start m)

module _ (m : List ℕ) (end : ℕ) where
  -- options further on stand behind an earlier offset too
  further : (at to : ℕ) → at ≤ to → (ls : List Located) → Every (Stands m to end) ls → Every (Stands m at end) ls
  further at to h [] Every.none = Every.none
  further at to h (l ∷ ls) (Every.more s rest) =
      Every.more {a = l} (record { from = omega (arith, s.from); until = s.until; there = s.there }) (further at to h ls rest)

  module _ (within : end ≤ length m) (at : ℕ) (o : Option6) (os : List Option6) (e : part m at end ≡ written6 (o ∷ os)) where
    -- the data, and what follows them
    after_four : part m (at + 4) end ≡ o.bytes ++ written6 os
    after_four = sym (drop_part m at end 4) ∙ ap (drop 4) (e ∙ written_first_lem o os)

    rest_there : part m (at + 4 + length o.bytes) end ≡ written6 os
    rest_there =
        sym (drop_part m (at + 4) end (length o.bytes)) ∙ ap (drop (length o.bytes)) after_four
        ∙ drop_at o.bytes (written6 os) (length o.bytes) refl

    long_enough : at + 4 + length o.bytes ≤ end
    long_enough =
        let all = sym (length_part m at end within) ∙ ap length (e ∙ written_first_lem o os) in
        omega (arith, all, length-append o.bytes (written6 os))

    data_there : o.bytes ≡ take (length o.bytes) (drop (at + 4) m)
    unfolding part
    data_there =
        sym (take_at o.bytes (written6 os) (length o.bytes) refl) ∙ sym (ap (take (length o.bytes)) after_four)
        ∙ take-take (length o.bytes) (end - (at + 4)) (drop (at + 4) m) (omega (arith, long_enough))

  stand : end ≤ length m → (os : List Option6) (at : ℕ) → part m at end ≡ written6 os → Every (Stands m at end) (located6 at os)
  unfolding located6
  stand within [] at e = Every.none
  stand within (o ∷ os) at e =
      Every.more {a = record { code = o.code; start = at + 4; bytes = o.bytes }}
      (record { from = omega arith; until = long_enough within at o os e; there = data_there within at o os e })
      (further at (at + 4 + length o.bytes) (omega arith) (located6 (at + 4 + length o.bytes) os)
      (stand within os (at + 4 + length o.bytes) (rest_there within at o os e)))

  pub options_stand : end ≤ length m → (at : ℕ) (os : List Option6) → Options6 (part m at end) os → Every (Stands m at end) (located6 at os)
  options_stand within at os h = stand within os at h.cut

-- those with a code among them
pub every_having : {P : Located → Type 0} (code : ℕ) (ls : List Located) → Every P ls → Every P (having code ls)
unfolding having
every_having code [] Every.none = Every.none
every_having {P} code (l ∷ ls) (Every.more h hs) = go (eqb l.code code) (every_having code ls hs)
  where
    go : (t : Bool) → Every P (having code ls) → Every P (cond t (l ∷ having code ls) (having code ls))
    go true rest = Every.more h rest
    go false rest = rest
