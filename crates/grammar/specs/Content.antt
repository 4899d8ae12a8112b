-- What the words of an entry come to, found by functions. They find what Listing.antt and Faults.antt say (proofs/ContentLaws.antt), and a reader of the
-- grammar need not know them: no definition of meaning cites them; the promises of the crates that read do.
use Rattle.std.specs.Prelude.{ℕ, Bool, false, cond, List, [], ◌∷◌, map}
use Rattle.std.proofs.Math.Option.{Option, none, some}
use Rattle.base.specs.Bytes.{ascii, eq_bytes}
use Rattle.base.specs.Refusal.{entry_owner, entry_type, entry_data}
use Rattle.name.specs.Label.{lower}
use Rattle.grammar.specs.Listing.{RecordType, mnemonic, ResourceRecord}
use Rattle.grammar.specs.OwnerReader.{owner_of}
use Rattle.grammar.specs.AddressReader.{a_of, aaaa_of}
use Rattle.grammar.specs.DhcidReader.{dhcid_of}

-- no record, a record, or the first fault by number
pub data Content : Type 0 where
  nothing : Content
  one : ResourceRecord → Content
  fault : ℕ → Content

-- ---- the type, and what may stand before it

unfoldable pub is_word : List ℕ → List ℕ → Bool
is_word v w = eq_bytes (map lower w) (map lower v)

unfoldable pub type_of : List ℕ → Option RecordType
type_of w =
    cond (is_word (mnemonic RecordType.A) w) (some RecordType.A)
    (cond (is_word (mnemonic RecordType.AAAA) w) (some RecordType.AAAA)
    (cond (is_word (mnemonic RecordType.DHCID) w) (some RecordType.DHCID) none))

pub record Headed : Type 0 where
  pub rtype : RecordType
  pub rest : List (List ℕ)

abbrev pub with_rest : List (List ℕ) → Option RecordType → Option Headed
with_rest ds none = none
with_rest ds (some k) = some (record { rtype = k; rest = ds })

abbrev pub typed : List (List ℕ) → Option Headed
typed [] = none
typed (w ∷ ds) = with_rest ds (type_of w)

abbrev pub tail : List (List ℕ) → List (List ℕ)
tail [] = []
tail (w ∷ ws) = ws

abbrev pub begins_with_class : List (List ℕ) → Bool
begins_with_class [] = false
begins_with_class (w ∷ ws) = is_word (ascii "IN") w

unfoldable pub head_of : List (List ℕ) → Option Headed
head_of ws = typed (cond (begins_with_class ws) (tail ws) ws)

-- ---- the data

abbrev pub only_word : (List ℕ → Option (List ℕ)) → List (List ℕ) → Option (List ℕ)
only_word f [] = none
only_word f (w ∷ []) = f w
only_word f (w ∷ v ∷ ws) = none

unfoldable pub rdata_of : RecordType → List (List ℕ) → Option (List ℕ)
rdata_of RecordType.A ds = only_word a_of ds
rdata_of RecordType.AAAA ds = only_word aaaa_of ds
rdata_of RecordType.DHCID ds = dhcid_of ds

-- ---- an entry

abbrev pub by_rdata : List ℕ → RecordType → Option (List ℕ) → Content
by_rdata n k none = fault entry_data
by_rdata n k (some bs) = one (record { owner = n; rtype = k; rdata = bs })

abbrev pub by_head : List ℕ → Option Headed → Content
by_head n none = fault entry_type
by_head n (some h) = by_rdata n h.rtype (rdata_of h.rtype h.rest)

abbrev pub by_owner : Option (List ℕ) → Option Headed → Content
by_owner none h = fault entry_owner
by_owner (some n) h = by_head n h

-- of an entry with the words ws, whose first byte is a word's or not
unfoldable pub content_of : Bool → List (List ℕ) → Content
content_of first [] = nothing
content_of first (o ∷ ws) = cond first (by_owner (owner_of o) (head_of ws)) (fault entry_owner)
