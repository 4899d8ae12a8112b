-- What the functions of `words` promise, in the terms of `grammar`: which kind a byte is, how far a run goes, and what comes next in an entry. `scan` of
-- grammar is an entry's words and its end, from a text and a depth on (grammar, specs/Scan.antt); that it finds what the definitions say is proved there
-- (grammar, proofs/ScanLaws.antt).
use Rattle.std.specs.Prelude.{ℕ, ◌-◌, ◌≤◌, ◌<◌, Bool, true, false, ◌≡◌, List, [], ◌∷◌, length, take, drop}
use Rattle.base.specs.Logic.{Every}
use Rattle.grammar.specs.Listing.{Kind, LongestRun, Depth, outside, inside}
use Rattle.grammar.specs.Listing
use Rattle.grammar.specs.Scan.{plain, at_end, at_line, at_fault, scan, preceded}
use Rattle.words.specs.declared.ByteKind.{ByteKind}
use Rattle.words.specs.declared.ByteKind.TheVariants.{Blank, LineEnd, Opening, Closing, Semicolon, Word, NotAllowed}
use Rattle.words.specs.declared.Next.{Next}
use Rattle.words.specs.declared.Next.TheVariants

abbrev pub kind_meant : ByteKind → Kind
kind_meant Blank = Listing.blank
kind_meant LineEnd = Listing.line_end
kind_meant Opening = Listing.opening
kind_meant Closing = Listing.closing
kind_meant Semicolon = Listing.semicolon
kind_meant Word = Listing.word_byte
kind_meant NotAllowed = Listing.not_allowed

abbrev pub depth_of : Bool → Depth
depth_of true = inside
depth_of false = outside

-- the bytes of t from at up to end all pass the test p
pub record PassTo (p : ℕ → Bool) (t : List ℕ) (at end : ℕ) : Type 0 where
  pub from : at ≤ end
  pub within : end ≤ length t
  pub each : Every (λ b. p b ≡ true) (take (end - at) (drop at t))

-- the bytes of t from at up to end are the longest run of bytes that pass the test p
pub record RunTo (p : ℕ → Bool) (t : List ℕ) (at end : ℕ) : Type 0 where
  pub from : at ≤ end
  pub within : end ≤ length t
  pub run : LongestRun p (drop at t) (take (end - at) (drop at t)) (drop end t)

-- from at on, at the depth d, comes the word from start up to end, and then what stands from end on at the depth d'
pub record WordAt (t : List ℕ) (at : ℕ) (d : Bool) (start end : ℕ) (d' : Bool) : Type 0 where
  pub from : at ≤ start
  pub some : start < end
  pub within : end ≤ length t
  pub first : scan plain (depth_of d) (drop at t) ≡ preceded (take (end - start) (drop start t) ∷ []) (scan plain (depth_of d') (drop end t))

-- from at on no word comes, and a 10 ends the entry, before next
pub record LineAt (t : List ℕ) (at : ℕ) (d : Bool) (next : ℕ) : Type 0 where
  pub after : at < next
  pub within : next ≤ length t
  pub ends : scan plain (depth_of d) (drop at t) ≡ record { words = []; ending = at_line (drop next t) }

abbrev pub NextIs : List ℕ → ℕ → Bool → Next → Type 0
NextIs t at d (TheVariants.Word start end d') = WordAt t at d start end d'
NextIs t at d (TheVariants.Line next) = LineAt t at d next
NextIs t at d TheVariants.End = scan plain (depth_of d) (drop at t) ≡ record { words = []; ending = at_end }
NextIs t at d TheVariants.Fault = scan plain (depth_of d) (drop at t) ≡ record { words = []; ending = at_fault }
