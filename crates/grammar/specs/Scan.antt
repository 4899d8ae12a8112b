-- The words of an entry and its end, found by a function that goes over the text once, byte by byte. It finds what Listing.antt and Faults.antt say
-- (proofs/ScanLaws.antt), and a reader of the grammar need not know it: no definition of meaning cites it; the promises of the crates that read do.
use Rattle.std.specs.Prelude.{ℕ, Bool, true, false, List, [], ◌∷◌, ◌++◌}
use Rattle.grammar.specs.Listing.{Kind, blank, line_end, opening, closing, semicolon, word_byte, not_allowed, kind_of, is_word_byte, begins, Depth, outside, inside}

-- whether a comment is open
pub data Mode : Type 0 where
  plain comment : Mode

-- what a byte does: nothing; it belongs to a word; it ends the entry; it is a fault of its shape
pub data Act : Type 0 where
  skip letter stop break : Act

-- outside comments
abbrev pub act_plain : Depth → Kind → Act
act_plain d word_byte = letter
act_plain d blank = skip
act_plain outside line_end = stop
act_plain inside line_end = skip
act_plain outside opening = skip
act_plain inside opening = break
act_plain outside closing = break
act_plain inside closing = skip
act_plain d semicolon = skip
act_plain d not_allowed = break

abbrev pub act : Mode → Depth → Kind → Act
act plain d k = act_plain d k
act comment d word_byte = skip
act comment d blank = skip
act comment d line_end = act_plain d line_end
act comment d opening = skip
act comment d closing = skip
act comment d semicolon = skip
act comment d not_allowed = break

abbrev pub depth_after : Mode → Depth → Kind → Depth
depth_after comment d k = d
depth_after plain d opening = inside
depth_after plain d closing = outside
depth_after plain d word_byte = d
depth_after plain d blank = d
depth_after plain d line_end = d
depth_after plain d semicolon = d
depth_after plain d not_allowed = d

abbrev pub mode_after : Mode → Kind → Mode
mode_after comment line_end = plain
mode_after comment word_byte = comment
mode_after comment blank = comment
mode_after comment opening = comment
mode_after comment closing = comment
mode_after comment semicolon = comment
mode_after comment not_allowed = comment
mode_after plain semicolon = comment
mode_after plain word_byte = plain
mode_after plain blank = plain
mode_after plain line_end = plain
mode_after plain opening = plain
mode_after plain closing = plain
mode_after plain not_allowed = plain

-- how an entry ends: with the text; at a 10 outside parentheses, and the text after it; at a fault of its shape
pub data Ending : Type 0 where
  at_end : Ending
  at_line : List ℕ → Ending
  at_fault : Ending

-- an entry's words and its end
pub record Laid : Type 0 where
  pub words : List (List ℕ)
  pub ending : Ending

-- one byte more in front of the first word, where that word goes on; else a word of its own
abbrev pub onto : ℕ → List (List ℕ) → List (List ℕ)
onto b [] = (b ∷ []) ∷ []
onto b (w ∷ ws) = (b ∷ w) ∷ ws

abbrev pub add_letter : ℕ → Bool → List (List ℕ) → List (List ℕ)
add_letter b true ws = onto b ws
add_letter b false ws = (b ∷ []) ∷ ws

-- what a byte b, before the text t, makes of what stands after it
abbrev pub put : Act → ℕ → List ℕ → Laid → Laid
put skip b t r = r
put letter b t r = record { words = add_letter b (begins is_word_byte t) r.words; ending = r.ending }
put stop b t r = record { words = []; ending = at_line t }
put break b t r = record { words = []; ending = at_fault }

abbrev pub at_text_end : Depth → Ending
at_text_end outside = at_end
at_text_end inside = at_fault

-- one call for the rest, at the state after the byte: an argument is computed at once, so a call in each branch would cost exponential time
unfoldable pub scan : Mode → Depth → List ℕ → Laid
scan m d [] = record { words = []; ending = at_text_end d }
scan m d (b ∷ t) = put (act m d (kind_of b)) b t (scan (mode_after m (kind_of b)) (depth_after m d (kind_of b)) t)

-- with words before
abbrev pub preceded : List (List ℕ) → Laid → Laid
preceded vs r = record { words = vs ++ r.words; ending = r.ending }
