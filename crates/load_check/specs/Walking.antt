-- What the functions of the program promise one another, by entries as they are read (entry, specs/EntryAt.antt). A reader of what the program says need not know
-- it: that is specs/Loading.antt.
use Rattle.std.specs.Prelude.{ℕ, ◌+◌, ◌≤◌, ◌<◌, Bool, cond, ◌&&◌, ◌||◌, ◌≡◌, ◌⊎◌, List, [], ◌∷◌, ◌++◌, eqb, length, take}
use Rattle.base.specs.Bytes.{ascii, eq_bytes, overlay}
use Rattle.base.specs.Logic.{Every}
use Rattle.grammar.specs.Listing.{outside, Words, ResourceRecord, RecordEntry}
use Rattle.entry.specs.EntryAt.{entry_at}
use Rattle.entry.specs.EntryText.{EntryText}
use Rattle.entry.specs.Held.{type_number, held, empty_record}
use Rattle.entry.specs.declared.Record.{Record}
use Rattle.records.specs.Gathered.{owners}
use Rattle.writer.specs.Line.{Holds}
use Rattle.load_check.specs.Loading.{Entered, records}

-- the entries of the listing t from an offset on up to `to`, each read as no record or as the record that it spells: es are the records among them
pub data Walked (t : List ℕ) (to : ℕ) : ℕ → List Entered → Type 0 where
  there : {at : ℕ} → at ≡ to → Walked t to at []
  passed : {at : ℕ} {es : List Entered} → at < to → (entry_at t at).«record» ≡ empty_record → (e : List ℕ) → EntryText t at e (entry_at t at).next → Words outside e []
      → Walked t to (entry_at t at).next es → Walked t to at es
  met : {at : ℕ} {es : List Entered} (r : ResourceRecord) → at < to → (entry_at t at).«record» ≡ held r → (e : List ℕ) → EntryText t at e (entry_at t at).next → RecordEntry e r
      → Walked t to (entry_at t at).next es → Walked t to at (record { offset = at; «record» = r } ∷ es)

-- the test of a place: it has the owner n, and the type with the number k, or any if k is 0
unfoldable pub is_like : Record → List ℕ → ℕ → Bool
is_like p n k = eq_bytes (take p.owner_len p.owner) n && (eqb k 0 || eqb p.rtype k)

-- and what it means of a record
unfoldable pub Like : List ℕ → ℕ → Entered → Type 0
Like n k x = (x.«record».owner ≡ n) × ((k ≡ 0) ⊎ (type_number x.«record».rtype ≡ k))

-- the offset of the first of the records es that is such a one; or `to`, where none is
pub data FirstLike (n : List ℕ) (k to : ℕ) (es : List Entered) : ℕ → Type 0 where
  found : (a b : List Entered) (x : Entered) → es ≡ a ++ x ∷ b → Every (λ y. Like n k y → ⊥) a → Like n k x → x.offset < to → FirstLike n k to es x.offset
  none : Every (λ y. Like n k y → ⊥) es → FirstLike n k to es to

-- the entry at `at`, which holds p, adds r names to those of the records before it
pub record AddsNames (t : List ℕ) (at : ℕ) (p : Record) (r : ℕ) : Type 0 where
  pub most : r ≤ 1
  pub nothing : p ≡ empty_record → r ≡ 0
  pub names : (es : List Entered) (q : ResourceRecord) → Walked t at 0 es → Holds p q → length (owners (records es ++ q ∷ [])) ≡ length (owners (records es)) + r

-- r is where the first record before `at` stands that is of the owner and the type of the record in p; or `at`
pub record FirstAlike (t : List ℕ) (at : ℕ) (p : Record) (r : ℕ) : Type 0 where
  pub nothing : p ≡ empty_record → r ≡ at
  pub alike : (es : List Entered) (q : ResourceRecord) → Walked t at 0 es → Holds p q → FirstLike q.owner (type_number q.rtype) at es r

-- ---- bytes that are put

-- the bytes l were put into out from the index at on, up to `to`, and nothing else changed
pub record Put (l : List ℕ) (at : ℕ) (out out' : List ℕ) (to : ℕ) : Type 0 where
  pub bytes : out' ≡ overlay out at l
  pub ends : to ≡ at + length l
  pub fits : to ≤ length out

-- blank and type, by the number of the type: 1 is A, 28 is AAAA, any other DHCID
abbrev pub type_word : ℕ → List ℕ
type_word n = cond (eqb n 1) (ascii " A") (cond (eqb n 28) (ascii " AAAA") (ascii " DHCID"))

abbrev pub longest_type : ℕ
longest_type = 6
