-- The client's message: what was seen of its options, and what they say. Assumes nothing.
use mathlib.Core.Bool.{Bool, true, false, cond, ◌&&◌, ◌||◌}
use mathlib.Core.Path.{◌≡◌, refl}
use mathlib.Core.List.{List, [], ◌∷◌}
use mathlib.Core.Option.{none, some}
use lib.Dec.{leb}
use lib.ListN.{length}
use Rattle.base.specs.Logic.{first_of}
use Rattle.base.specs.Refusal.{option_repeated, no_identifier}
use Rattle.message.specs.Options.{Located, having, is_repeated, option_of}
use Rattle.message.specs.Request.{refused_request, no_part, accepted, identified}
use Rattle.message.specs.Seen.{part_of, seen_of}
use Rattle.message.specs.declared.Part.{Part}
use Rattle.message.proofs.SeenLaws.{again_is}
use Rattle.message6.specs.Message6.{identifier6, name6, judge6}
use Rattle.message6.specs.Walking6.{accepted_with, is_duid, is_name, name_in, seen_in, judged}

-- by two tests: of the identifier, and of the name
tested : (t u : Bool) (id name : Part) → cond t (cond u (accepted_with id true name) (accepted_with id false no_part)) (refused_request no_identifier)
    ≡ identified (cond t (some (record { type = 2; head = no_part; rest = id })) none) (cond u (some name) none)
unfolding accepted
tested true true id name = refl
tested true false id name = refl
tested false u id name = refl

said : (ds ns : List Located)
    → cond (is_duid (seen_of ds))
    (cond (is_name (seen_of ns)) (accepted_with (seen_of ds).part true (name_in (seen_of ns).part)) (accepted_with (seen_of ds).part false no_part)) (refused_request no_identifier)
    ≡ identified (identifier6 (first_of ds)) (name6 (first_of ns))
said [] ns = refl
said (d ∷ ds) [] = tested (leb 3 (length d.bytes) && leb (length d.bytes) 130) false (part_of d) (name_in no_part)
said (d ∷ ds) (n ∷ ns) = tested (leb 3 (length d.bytes) && leb (length d.bytes) 130) (leb 1 (length n.bytes)) (part_of d) (name_in (part_of n))

pub judged_seen : (ls : List Located) → judged (seen_in ls) ≡ judge6 ls
unfolding judged seen_in judge6 is_repeated option_of
judged_seen ls =
    λ i. cond (again_is (having 1 ls) i || again_is (having 39 ls) i) (refused_request option_repeated) (said (having 1 ls) (having 39 ls) i)
