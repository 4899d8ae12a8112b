-- The numbers of the refusals of a choice: none is above 12, so that 13 and 14 are the writing's own. Assumes nothing.
use Prim.Native.Nat.{ℕ, ◌+◌, ◌≤◌}
use mathlib.Core.Bool.{Bool, true, false, cond, ◌||◌}
use mathlib.Core.List.{List}
use mathlib.Core.Option.{Option, none, some}
use native.Mathlib.Omega.{arith}
use lib.Dec.{leb}
use lib.ListN.{length}
use Rattle.message.specs.Options.{Located, having, is_repeated, option_of}
use Rattle.message.specs.Request.{refused_request, Identifier, accepted, identified}
use Rattle.message.specs.declared.Part.{Part}
use Rattle.message.specs.declared.Request.{Request}
use Rattle.message4.specs.Options4.{located4}
use Rattle.message4.specs.Message4.{is_request, identifier4, name4, judge4, Reads4}
use Rattle.message6.specs.Options6.{located6}
use Rattle.message6.specs.Message6.{identifier6, name6, judge6, Level, Reads6}
use Rattle.dhcid.specs.Chosen.{Says, no_choice, from_message, from_site, Chooses}
use Rattle.dhcid.specs.declared.Chosen.{Chosen}

low : (n : ℕ) → n ≤ 12 → (refused_request n).refusal ≤ 12
unfolding refused_request
low n h = h

identified_low : (o : Option Identifier) (name : Option Part) → (identified o name).refusal ≤ 12
unfolding accepted
identified_low none name = low 8 (omega arith)
identified_low (some i) name = omega arith

judged_low4 : (m : List ℕ) (ls : List Located) → (judge4 m ls).refusal ≤ 12
unfolding judge4
judged_low4 m ls =
    go (is_repeated 52 ls || is_repeated 53 ls || is_repeated 61 ls || is_repeated 81 ls) (leb 1 (length (having 52 ls))) (is_request (option_of 53 ls))
  where
    go : (t u v : Bool)
        → (cond t (refused_request 5) (cond u (refused_request 6) (cond v (identified (identifier4 m (option_of 61 ls)) (name4 (option_of 81 ls))) (refused_request 7)))).refusal ≤ 12
    go true u v = low 5 (omega arith)
    go false true v = low 6 (omega arith)
    go false false true = identified_low (identifier4 m (option_of 61 ls)) (name4 (option_of 81 ls))
    go false false false = low 7 (omega arith)

judged_low6 : (ls : List Located) → (judge6 ls).refusal ≤ 12
unfolding judge6
judged_low6 ls = go (is_repeated 1 ls || is_repeated 39 ls)
  where
    go : (t : Bool) → (cond t (refused_request 5) (identified (identifier6 (option_of 1 ls)) (name6 (option_of 39 ls)))).refusal ≤ 12
    go true = low 5 (omega arith)
    go false = identified_low (identifier6 (option_of 1 ls)) (name6 (option_of 39 ls))

reads_low4 : {m : List ℕ} {r : Request} → Reads4 m r → r.refusal ≤ 12
reads_low4 (Reads4.too_short h) = low 1 (omega arith)
reads_low4 (Reads4.too_long h) = low 1 (omega arith)
reads_low4 (Reads4.no_bootrequest l h b) = low 2 (omega arith)
reads_low4 (Reads4.long_address l h b a) = low 3 (omega arith)
reads_low4 (Reads4.malformed h never) = low 4 (omega arith)
reads_low4 {m} (Reads4.judged {fs} h o) = judged_low4 m (located4 240 fs)

level_low : {k at : ℕ} {b : List ℕ} {r : Request} → Level k at b r → r.refusal ≤ 12
level_low Level.no_bytes = low 4 (omega arith)
level_low (Level.other_type request other) = low 7 (omega arith)
level_low (Level.ninth_relay h) = low 11 (omega arith)
level_low (Level.malformed_relay h never) = low 4 (omega arith)
level_low (Level.nothing_relayed h filled none_there) = low 4 (omega arith)
level_low (Level.relayed_twice h filled twice) = low 5 (omega arith)
level_low (Level.relayed h filled only below) = level_low below
level_low (Level.malformed request never) = low 4 (omega arith)
level_low {at = at} (Level.client {os} request filled) = judged_low6 (located6 (at + 4) os)

reads_low6 : {m : List ℕ} {r : Request} → Reads6 m r → r.refusal ≤ 12
reads_low6 (Reads6.too_short h) = low 1 (omega arith)
reads_low6 (Reads6.too_long h) = low 1 (omega arith)
reads_low6 (Reads6.levels l h levels) = level_low levels

says_low : {family : ℕ} {m : List ℕ} {r : Request} → Says family m r → r.refusal ≤ 12
says_low (Says.v4 h) = reads_low4 h
says_low (Says.v6 h) = reads_low6 h

pub choice_low : {family setting : ℕ} {m site : List ℕ} {c : Chosen} → Chooses family setting m site c → c.refusal ≤ 12
unfolding no_choice from_message from_site
choice_low (Chooses.unknown h) = omega arith
choice_low (Chooses.refused s h n) = says_low h
choice_low (Chooses.client's h z u) = omega arith
choice_low (Chooses.site's s h z u p) = omega arith
choice_low (Chooses.neither s h z u p) = omega arith
