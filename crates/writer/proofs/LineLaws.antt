-- The line of a record by its owner and by 35 bytes of which its data are the first; how long a line is; lines one after the other. Nothing is asked of the bytes but how many they are.
-- Assumes nothing.
use Prim.Native.Nat.{ℕ, ◌≤◌}
use mathlib.Core.Path.{◌≡◌, refl, sym, ap, ap₂, ◌∙◌}
use mathlib.Core.List.{List, [], ◌∷◌, ◌++◌, append_assoc}
use native.Mathlib.Omega.{arith}
use lib.ListN.{length, take, length-append}
use lib.Seq.{take_all}
use Rattle.base.specs.Bytes.{ascii}
use Rattle.name.specs.Promise.{text_of}
use Rattle.name.proofs.DottedLaws.{length_text_of}
use Rattle.address.specs.Address.{written_a, written_aaaa}
use Rattle.dhcid_text.specs.Dhcid.{base64}
use Rattle.dhcid_text.proofs.Base64Laws.{length_base64}
use Rattle.grammar.specs.Listing.{RecordType, mnemonic, ResourceRecord}
use Rattle.grammar.specs.Whole.{rdata_size}
use Rattle.entry.specs.Held.{type_number}
use Rattle.writer.specs.Line.{rdata_text, line, lines}
use Rattle.writer.specs.Parts.{type_part, rdata_part, rest_part}
use Rattle.writer.proofs.PartLaws.{length_a, length_aaaa}

-- ---- what follows the owner

type_text : (k : RecordType) → type_part (type_number k) ≡ 32 ∷ mnemonic k ++ 32 ∷ []
unfolding type_part mnemonic ascii
type_text RecordType.A = refl
type_text RecordType.AAAA = refl
type_text RecordType.DHCID = refl

blanks : (o m d : List ℕ) → o ++ ((32 ∷ m ++ 32 ∷ []) ++ d ++ 10 ∷ []) ≡ o ++ 32 ∷ m ++ 32 ∷ d ++ 10 ∷ []
blanks o m d =
    sym (append_assoc o ((32 ∷ m ++ 32 ∷ []) ++ d) (10 ∷ []))
    ∙ ap (λ (l : List ℕ). l ++ 10 ∷ []) (ap (λ (l : List ℕ). o ++ l) (append_assoc (32 ∷ m) (32 ∷ []) d) ∙ sym (append_assoc o (32 ∷ m) (32 ∷ d)))

rdata_text_lem : (k : RecordType) (x bs : List ℕ) → length bs ≡ 35 → take (rdata_size k) bs ≡ x → rdata_part (type_number k) bs ≡ rdata_text k x
unfolding rdata_part rdata_text
rdata_text_lem RecordType.A x bs long first = ap written_a first
rdata_text_lem RecordType.AAAA x bs long first = ap written_aaaa first
rdata_text_lem RecordType.DHCID x bs long first = ap base64 (sym (take_all 35 bs (omega arith)) ∙ first)

-- each blank before the part that follows it
pub line_parts : (r : ResourceRecord) → line r ≡ text_of r.owner ++ 32 ∷ mnemonic r.rtype ++ 32 ∷ rdata_text r.rtype r.rdata ++ 10 ∷ []
unfolding line ascii
line_parts r =
    let o = text_of r.owner in
    let m = mnemonic r.rtype in
    let d = rdata_text r.rtype r.rdata in
    ap (λ (l : List ℕ). l ++ 10 ∷ []) (append_assoc (o ++ 32 ∷ [] ++ m) (32 ∷ []) d ∙ ap (λ (l : List ℕ). l ++ 32 ∷ d) (append_assoc o (32 ∷ []) m))

-- 35 bytes bs, of which the first are the data x of a record of the type k
module _ (k : RecordType) (x bs : List ℕ) (long : length bs ≡ 35) (first : take (rdata_size k) bs ≡ x) where
  pub rest_text : rest_part (type_number k) bs ≡ 32 ∷ mnemonic k ++ 32 ∷ rdata_text k x ++ 10 ∷ []
  unfolding rest_part ascii
  rest_text = ap₂ (λ (t d : List ℕ). t ++ d ++ 10 ∷ []) (type_text k) (rdata_text_lem k x bs long first) ∙ blanks [] (mnemonic k) (rdata_text k x)

  pub rest_line : (n : List ℕ) → text_of n ++ rest_part (type_number k) bs ≡ line (record { owner = n; rtype = k; rdata = x })
  unfolding rest_part ascii
  rest_line n =
      ap₂ (λ (t d : List ℕ). text_of n ++ (t ++ d ++ 10 ∷ [])) (type_text k) (rdata_text_lem k x bs long first) ∙ blanks (text_of n) (mnemonic k) (rdata_text k x)
      ∙ sym (line_parts (record { owner = n; rtype = k; rdata = x }))

-- ---- lengths

-- the most bytes that a line of each type has
abbrev pub longest_line : RecordType → ℕ
longest_line RecordType.A = 273
longest_line RecordType.AAAA = 300
longest_line RecordType.DHCID = 310

pub line_most : (n : List ℕ) (k : RecordType) (x : List ℕ) → length n ≤ 255 → length x ≡ rdata_size k → length (line (record { owner = n; rtype = k; rdata = x })) ≤ longest_line k
unfolding line rdata_text mnemonic ascii
line_most n RecordType.A x short size = simp length-append (omega (arith, length_text_of n, length_a x size))
line_most n RecordType.AAAA x short size = simp length-append (omega (arith, length_text_of n, length_aaaa x size))
line_most n RecordType.DHCID x short size = simp length-append (omega (arith, length_text_of n, length_base64 x size))

-- ---- lines one after the other

pub lines_append : (a b : List ResourceRecord) → lines (a ++ b) ≡ lines a ++ lines b
unfolding lines
lines_append [] b = refl
lines_append (r ∷ a) b = ap (λ (l : List ℕ). line r ++ l) (lines_append a b) ∙ sym (append_assoc (line r) (lines a) (lines b))
