-- What the functions that read the head and the data of an entry promise, in the terms of grammar's functions (grammar, specs/Content.antt), which are
-- proved to find what its definitions say.
use Rattle.std.specs.Prelude.{ℕ, ◌≤◌, Bool, true, false, cond, ◌≡◌, List, [], ◌∷◌, eqb, length, drop, Option as Maybe, Some, None, is_some, unwrap_or}
use Rattle.std.proofs.Math.Option.{Option, none, some}
use Rattle.base.specs.Bytes.{zero_filled}
use Rattle.grammar.specs.Listing.{RecordType}
use Rattle.grammar.specs.Scan.{plain, scan}
use Rattle.grammar.specs.AddressReader.{a_of, aaaa_of}
use Rattle.grammar.specs.DhcidReader.{dhcid_of}
use Rattle.grammar.specs.Content.{Headed, with_rest, only_word}
use Rattle.words.specs.NextIs.{depth_of}
use Rattle.entry.specs.Held.{type_number}
use Rattle.entry.specs.declared.head.Head.{Head}
use Rattle.entry.specs.declared.«data».Data.{Data as Read}

-- 0 where there is no type
abbrev pub type_number_if : Option RecordType → ℕ
type_number_if none = 0
type_number_if (some k) = type_number k

-- the words of the text t from at on, at the depth d, and how the entry ends
abbrev pub words_at : List ℕ → ℕ → Bool → List (List ℕ)
words_at t at d = (scan plain (depth_of d) (drop at t)).words

-- of the words from at on, head (grammar's reader of the type, or of class and type) finds the type that r has and the words that follow r; and the entry
-- ends from there on as it does from at on
pub record HeadAt (head : List (List ℕ) → Option Headed) (t : List ℕ) (at : ℕ) (d : Bool) (r : Head) : Type 0 where
  pub from : at ≤ r.at
  pub within : r.at ≤ length t
  pub ends : (scan plain (depth_of d) (drop at t)).ending ≡ (scan plain (depth_of r.inside) (drop r.at t)).ending
  pub type : Option RecordType
  pub is : r.rtype ≡ type_number_if type
  pub found : head (words_at t at d) ≡ with_rest (words_at t r.at r.inside) type

-- the data by the number of their type: 49 is a DHCID's, 1 an A's, any other an AAAA's
abbrev pub address_for : ℕ → List (List ℕ) → Option (List ℕ)
address_for n ws = cond (eqb n 1) (only_word a_of ws) (only_word aaaa_of ws)

abbrev pub rdata_for : ℕ → List (List ℕ) → Option (List ℕ)
rdata_for n ws = cond (eqb n 49) (dhcid_of ws) (address_for n ws)

-- the bytes of data with zeros after them, if there are data
abbrev pub filled_out : Maybe (List ℕ) → Maybe (List ℕ)
filled_out None = None
filled_out (Some bs) = Some (zero_filled bs)

-- data that were read, or none, and then their bytes are zero; and how far the entry was read
pub record Data : Type 0 where
  pub found : Bool
  pub bytes : List ℕ
  pub at : ℕ
  pub inside : Bool

-- those that the code holds
abbrev pub data_of : Read → Data
data_of r = record { found = is_some r.rdata; bytes = unwrap_or r.rdata (zero_filled []); at = r.at; inside = r.inside }

-- data that may have been found, as `Data` holds them
abbrev pub HeldData : Option (List ℕ) → Data → Type 0
HeldData none r = (r.found ≡ false) × (r.bytes ≡ zero_filled [])
HeldData (some bs) r = (r.found ≡ true) × (r.bytes ≡ zero_filled bs)

-- what was found, if no words are left
abbrev pub if_none : List (List ℕ) → Option (List ℕ) → Option (List ℕ)
if_none [] v = v
if_none (w ∷ ws) v = none

-- of the words from at on, rdata finds what r has, unless words follow r; and the entry ends from there on as it does from at on
pub record DataAt (rdata : List (List ℕ) → Option (List ℕ)) (t : List ℕ) (at : ℕ) (d : Bool) (r : Data) : Type 0 where
  pub from : at ≤ r.at
  pub within : r.at ≤ length t
  pub ends : (scan plain (depth_of d) (drop at t)).ending ≡ (scan plain (depth_of r.inside) (drop r.at t)).ending
  pub value : Option (List ℕ)
  pub is : HeldData value r
  pub found : rdata (words_at t at d) ≡ if_none (words_at t r.at r.inside) value
