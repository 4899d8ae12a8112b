-- Owner and type of a record, as they are put. Assumes nothing.
use Prim.Native.Nat.{ℕ, ◌+◌, ◌-◌, ◌≤◌}
use mathlib.Core.Path.{◌≡◌, refl, sym, ap, subst, ◌∙◌}
use mathlib.Core.Bool.{cond}
use mathlib.Core.List.{List, [], ◌∷◌, ◌++◌, append_assoc}
use native.Mathlib.Nat.{zero-add}
use native.Mathlib.Omega.{arith}
use lib.ListN.{length, length-append}
use borrow.Author.Tests.{ne_eqb}
use Rattle.base.specs.Bytes.{ascii, overlay}
use Rattle.grammar.specs.Listing.{RecordType, mnemonic, ResourceRecord}
use Rattle.base.proofs.Bytes.{length_overlay, overlay_append}
use Rattle.name.specs.Promise.{text_of}
use Rattle.name.proofs.DottedLaws.{length_text_of}
use Rattle.name.proofs.WireLaws.{proper_short}
use Rattle.entry.specs.Held.{type_number, held}
use Rattle.entry.specs.declared.Record.{Record}
use Rattle.writer.specs.Line.{Holds}
use Rattle.writer.proofs.PlaceLaws.{name_in, name_held}
use Rattle.load_check.specs.Loading.{heading, longest_head}
use Rattle.load_check.specs.Walking.{Put, type_word}

pub type_words : (k : RecordType) → type_word (type_number k) ≡ ascii " " ++ mnemonic k
unfolding mnemonic ascii
type_words RecordType.A = refl
type_words RecordType.AAAA = refl
type_words RecordType.DHCID = refl

-- ---- a type, as it is put

module _ (n : ℕ) where
  is_dhcid : (n ≡ 1 → ⊥) → (n ≡ 28 → ⊥) → type_word n ≡ ascii " DHCID"
  is_dhcid f g = λ i. cond (ne_eqb n 1 f i) (ascii " A") (cond (ne_eqb n 28 g i) (ascii " AAAA") (ascii " DHCID"))

  module _ (l : List ℕ) (at : ℕ) (out out' : List ℕ) (room : at + 6 ≤ length out) where
    put_by : type_word n ≡ l → length l ≤ 6 → out' ≡ overlay out at l → Put (type_word n) at out out' (at + length l)
    put_by e short bytes = subst (λ (w : List ℕ). Put w at out out' (at + length l)) (sym e) (record { bytes = bytes; ends = refl; fits = omega arith })

pub put_a : (n : ℕ) → n ≡ 1 → (at : ℕ) (out out' : List ℕ) → at + 6 ≤ length out → out' ≡ overlay out at (32 ∷ 65 ∷ []) → Put (type_word n) at out out' (at + 2)
unfolding ascii
put_a n e at out out' room b = put_by n (32 ∷ 65 ∷ []) at out out' room (ap type_word e) (omega arith) b

pub put_aaaa : (n : ℕ) → n ≡ 28 → (at : ℕ) (out out' : List ℕ) → at + 6 ≤ length out → out' ≡ overlay out at (32 ∷ 65 ∷ 65 ∷ 65 ∷ 65 ∷ []) → Put (type_word n) at out out' (at + 5)
unfolding ascii
put_aaaa n e at out out' room b = put_by n (32 ∷ 65 ∷ 65 ∷ 65 ∷ 65 ∷ []) at out out' room (ap type_word e) (omega arith) b

pub put_dhcid : (n : ℕ) → (n ≡ 1 → ⊥) → (n ≡ 28 → ⊥) → (at : ℕ) (out out' : List ℕ) → at + 6 ≤ length out → out' ≡ overlay out at (32 ∷ 68 ∷ 72 ∷ 67 ∷ 73 ∷ 68 ∷ [])
    → Put (type_word n) at out out' (at + 6)
unfolding ascii
put_dhcid n f g at out out' room b = put_by n (32 ∷ 68 ∷ 72 ∷ 67 ∷ 73 ∷ 68 ∷ []) at out out' room (is_dhcid n f g) (omega arith) b

-- ---- owner and type

-- the owner's text was put, and the type behind it
pub head_put : (r : ResourceRecord) (p : ℕ) (out out₁ out₂ : List ℕ) (to : ℕ) → length r.owner ≤ length out → p ≡ type_number r.rtype → out₁ ≡ overlay out 0 (text_of r.owner)
    → Put (type_word p) (length r.owner - 1) out₁ out₂ to → Put (heading r) 0 out out₂ to
unfolding heading
head_put r p out out₁ out₂ to room number text put =
    let size : length (text_of r.owner) ≡ length r.owner - 1 = length_text_of r.owner in
    let word : type_word p ≡ ascii " " ++ mnemonic r.rtype = ap type_word number ∙ type_words r.rtype in
    let parts : text_of r.owner ++ type_word p ≡ text_of r.owner ++ ascii " " ++ mnemonic r.rtype =
    ap (λ (w : List ℕ). text_of r.owner ++ w) word ∙ sym (append_assoc (text_of r.owner) (ascii " ") (mnemonic r.rtype)) in
    subst (λ (l : List ℕ). Put l 0 out out₂ to) parts
    (record {
      bytes = put.bytes ∙ (λ i. overlay (text i) ((sym size ∙ sym (zero-add (length (text_of r.owner)))) i) (type_word p)) ∙ overlay_append out 0 (text_of r.owner) (type_word p) (omega arith);
      ends = omega (arith, put.ends, size, length-append (text_of r.owner) (type_word p));
      fits = omega (arith, put.fits, ap length text, length_overlay out 0 (text_of r.owner) (omega (arith, size)));
    })

-- of a place that holds the record
pub place_head : (p : Record) (r : ResourceRecord) → Holds p r → (out out₁ out₂ : List ℕ) (to : ℕ) → longest_head ≤ length out → out₁ ≡ overlay out 0 (text_of (name_in p))
    → Put (type_word p.rtype) (p.owner_len - 1) out₁ out₂ to → Put (heading r) 0 out out₂ to
unfolding held
place_head p r h out out₁ out₂ to room text put =
    let own = name_held p r h.form in
    let size : p.owner_len ≡ length r.owner = ap (λ (q : Record). q.owner_len) h.form in
    head_put r p.rtype out out₁ out₂ to (omega (arith, proper_short r.owner h.well_formed.proper)) (ap (λ (q : Record). q.rtype) h.form) (text ∙ ap (λ (n : List ℕ). overlay out 0 (text_of n)) own)
    (subst (λ (n : ℕ). Put (type_word p.rtype) (n - 1) out₁ out₂ to) size put)
