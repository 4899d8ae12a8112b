-- What the two calls answer, from what reading, testing and writing a name promise. Assumes nothing.
use Prim.Native.Nat.{ℕ, ◌-◌, ◌≤◌, ◌<◌}
use mathlib.Core.Path.{◌≡◌, sym, ap, ap₂, ◌∙◌}
use Rattle.std.specs.Prelude.{Some}
use mathlib.Core.Logic.{◌⊎◌}
use mathlib.Core.List.{List}
use native.Mathlib.Nat.{zero-add}
use native.Mathlib.Omega.{arith}
use lib.ListN.{length, take, replicate}
use lib.Seq.{take_at, length-take-le}
use Rattle.base.specs.Bytes.{overlay, padded}
use Rattle.base.specs.Refusal.{output_short}
use Rattle.base.specs.declared.Answer.{Answer}
use Rattle.base.specs.declared.Answer.TheVariants.{Accepted, Refused}
use Rattle.base.proofs.Bytes.{take_overlay, length_overlay}
use Rattle.name.specs.Name.{Proper, SpellsName, canonical}
use Rattle.name.specs.Promise.{Reads, ReadsNone, text_of}
use Rattle.name.proofs.ReadingLaws.{read_name}
use Rattle.name.specs.declared.WireName.{WireName}
use Rattle.name.proofs.DottedLaws.{length_text_of}
use Rattle.name.proofs.NameLaws.{length_canonical}
use Rattle.name.proofs.Theorems.{canonical_form, spelled}
use Rattle.name.proofs.WireLaws.{proper_some, proper_short}
use Rattle.name_text.specs.Calls.{ReadsText, WritesText}

-- ---- a name read

-- the canonical form of a name, without the zeros behind it
unpadded : (n : List ℕ) → take (length n) (padded (canonical n)) ≡ canonical n
unfolding padded
unpadded n = take_at (canonical n) (replicate (255 - length (canonical n)) 0) (length n) (length_canonical n)

module _ (w out : List ℕ) (name : WireName) (h : Reads w (Some name) ⊎ ReadsNone w (Some name)) (bytes : List ℕ) (e : bytes ≡ take name.len name.bytes) where
  held : (n : List ℕ) × SpellsName w n × (bytes ≡ canonical n)
  held =
      let x = read_name w name h in
      (x.0, x.1, e ∙ ap₂ (λ (k : ℕ) (l : List ℕ). take k l) x.3 x.2 ∙ unpadded x.0)

  size : length bytes ≡ length held.0
  size = ap length held.2 ∙ length_canonical held.0

  module _ (r : Answer) (left : List ℕ) where
    pub read_short : length out < length bytes → r ≡ Refused output_short 0 → left ≡ out → ReadsText w out r left
    read_short small a l = ReadsText.short held.1 (omega (arith, size)) a l

    pub read_whole : length bytes ≤ length out → r ≡ Accepted (length bytes) → left ≡ overlay out 0 bytes → ReadsText w out r left
    read_whole room a l =
        ReadsText.read held.1 (omega (arith, size)) (a ∙ ap Accepted size) (l ∙ ap (overlay out 0) held.2)

-- ---- a name written

module _ (n : List ℕ) (p : Proper n) where
  -- it has its last zero byte at least, and 255 at most
  pub within : (1 ≤ length n) × (length n ≤ 255)
  within = (proper_some n p, proper_short n p)

  lower_text : SpellsName (text_of (canonical n)) (canonical n)
  lower_text = spelled (canonical n) (canonical_form n p).proper

  text_size : length (text_of (canonical n)) ≡ length n - 1
  text_size = length_text_of (canonical n) ∙ ap (λ (k : ℕ). k - 1) (length_canonical n)

  -- the canonical form put into an area of 255 bytes: its length, and that of its front part
  pub area_size : (area s : List ℕ) → length area ≡ 255 → s ≡ overlay area 0 (canonical n) → length s ≡ 255
  area_size area s size e = ap length e ∙ length_overlay area 0 (canonical n) (omega (arith, size, length_canonical n, within)) ∙ size

  pub front_size : (area s : List ℕ) → length area ≡ 255 → s ≡ overlay area 0 (canonical n) → length (take (length n) s) ≡ length n
  front_size area s size e = length-take-le (length n) s (omega (arith, area_size area s size e, within))

  module _ (out : List ℕ) (r : Answer) (left : List ℕ) where
    pub write_short : length out < length n - 1 → r ≡ Refused output_short 0 → left ≡ out → WritesText n out r left
    write_short small a e = WritesText.short p lower_text (omega (arith, text_size)) a e

    -- the canonical form was put into an area, which then held s, and its text into the output
    pub write_whole : (area s : List ℕ) → s ≡ overlay area 0 (canonical n) → length n - 1 ≤ length out → r ≡ Accepted (length n - 1)
        → left ≡ overlay out 0 (text_of (take (length n) s)) → WritesText n out r left
    write_whole area s put room a e =
        let front : take (length n) s ≡ canonical n =
        ap (take (length n)) put ∙ ap (λ (k : ℕ). take k (overlay area 0 (canonical n))) (sym (zero-add (length (canonical n)) ∙ length_canonical n))
        ∙ take_overlay area 0 (canonical n) (omega arith) in
        WritesText.written p lower_text (omega (arith, text_size)) (a ∙ ap Accepted (sym text_size)) (e ∙ ap (λ (l : List ℕ). overlay out 0 (text_of l)) front)
