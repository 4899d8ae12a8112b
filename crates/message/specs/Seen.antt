-- What is kept of the options with one code while a message's options are passed: whether there is one, whether there is another, and where the first one's data stand.
use Rattle.std.specs.Prelude.{true, false, cond, List, [], ◌∷◌, ltb, length}
use Rattle.message.specs.Options.{Located}
use Rattle.message.specs.Request.{no_part}
use Rattle.message.specs.declared.Part.{Part}
use Rattle.message.specs.declared.seen.Seen.{Seen}

-- where an option's data stand
abbrev pub part_of : Located → Part
part_of l = record { start = l.start; len = length l.bytes }

abbrev pub seen_of : List Located → Seen
seen_of [] = record { found = false; again = false; part = no_part }
seen_of (l ∷ ls) = record { found = true; again = ltb 0 (length ls); part = part_of l }

-- one more
abbrev pub met : Seen → Part → Seen
met s p = cond s.found (record { found = true; again = true; part = s.part }) (record { found = true; again = false; part = p })
