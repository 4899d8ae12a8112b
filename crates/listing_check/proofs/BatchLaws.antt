-- A batch of lines, as it fills: what the loop has put so far, one line more, and the whole. Assumes nothing.
use Prim.Native.Nat.{ℕ, ◌+◌, ◌≤◌, ◌<◌}
use mathlib.Core.Path.{◌≡◌, refl, sym, ap, subst, ◌∙◌}
use mathlib.Core.List.{List, [], ◌∷◌, ◌++◌, append_assoc, append-nil}
use native.Mathlib.Nat.{zero-add}
use native.Mathlib.Omega.{arith}
use lib.ListN.{length, length-append}
use Rattle.base.specs.Bytes.{overlay}
use Rattle.base.proofs.Bytes.{overlay_none, overlay_append}
use Rattle.grammar.specs.Listing.{ResourceRecord}
use Rattle.writer.specs.Line.{line, lines}
use Rattle.writer.proofs.LineLaws.{lines_append}
use Rattle.listing.specs.Giving.{end, Gives}
use Rattle.listing.proofs.NextLaws.{none_beyond}
use Rattle.listing.proofs.Theorems.{one_giving}
use Rattle.listing_check.specs.Printing.{longest_line, Printable, NextPut, put, none, LinesPut, BatchPut}
use Rattle.listing_check.specs.declared.Batch.{Batch}
use Rattle.listing_check.proofs.NextLaws.{none_after}

-- the text goes forward
pub next_on : (t : List ℕ) (at : ℕ) (out : List ℕ) (used : ℕ) (out' : List ℕ) (b : Batch) → NextPut t at out used out' b → at < length t → at < b.next
next_on t at out used out' b (put r rs g l on rest) within = on
next_on t at out used out' b (none g bytes same next) within = omega arith

-- what was put until now; and once bytes wait, the text has gone forward
pub record SoFar (t : List ℕ) (at : ℕ) (out out' : List ℕ) (b : Batch) : Type 0 where
  pub front : LinesPut t at out out' b
  pub from : at ≤ b.next
  pub on : 0 < b.used → at < b.next

module _ (t : List ℕ) (at : ℕ) (out : List ℕ) where
  pub so_far_none : Printable t at → SoFar t at out out (record { next = at; used = 0 })
  unfolding lines
  so_far_none p =
      record {
        front =
            record { taken = []; others = p.0; records = p.1; bytes = sym (overlay_none out 0); ends = refl; fits = omega arith; goes_on = p.1 };
        from = omega arith;
        on = λ h. omega arith;
      }

  module _ (out₁ : List ℕ) (b : Batch) (h : SoFar t at out out₁ b) where
    -- what is left is what stands next
    left : {rs : List ResourceRecord} → Gives t b.next rs end → h.front.others ≡ rs
    left {rs} g = (one_giving t b.next h.front.others rs end end h.front.goes_on g).0

    taken_all : {rs : List ResourceRecord} → Gives t b.next rs end → Gives t at (h.front.taken ++ rs) end
    taken_all g = subst (λ (rs : List ResourceRecord). Gives t at (h.front.taken ++ rs) end) (left g) h.front.records

    module _ (out₂ : List ℕ) (b₂ : Batch) (within : b.next < length t) where
      pub so_far_more : length out₁ ≡ length out → NextPut t b.next out₁ b.used out₂ b₂ → SoFar t at out out₂ b₂
      unfolding lines
      so_far_more same (put r rs g l on rest) =
          let a = h.front.taken in
          let more : lines (a ++ r ∷ []) ≡ lines a ++ line r = lines_append a (r ∷ []) ∙ ap (λ (x : List ℕ). lines a ++ x) (append-nil (line r)) in
          let bytes : out₂ ≡ overlay out 0 (lines a ++ line r) =
          l.bytes ∙ (λ i. overlay (h.front.bytes i) ((h.front.ends ∙ sym (zero-add (length (lines a)))) i) (line r)) ∙ overlay_append out 0 (lines a) (line r) (omega arith) in
          record {
            front =
                record {
                  taken = a ++ r ∷ [];
                  others = rs;
                  records = rw append_assoc (taken_all g);
                  bytes = rw more bytes;
                  ends = rw (more, length-append) (omega (arith, l.ends, h.front.ends));
                  fits = omega (arith, l.fits);
                  goes_on = rest;
                };
            from = omega (arith, h.from);
            on = λ some. omega (arith, h.from);
          }
      so_far_more same (none g bytes used next) =
          record {
            front =
                record {
                  taken = h.front.taken;
                  others = [];
                  records = taken_all g;
                  bytes = bytes ∙ h.front.bytes;
                  ends = used ∙ h.front.ends;
                  fits = omega (arith, h.front.fits);
                  goes_on = none_after g (omega arith);
                };
            from = omega (arith, h.from);
            on = λ some. omega (arith, h.from);
          }

    -- no room is left for the longest line
    pub so_far_full : longest_line ≤ length out → length out < b.used + longest_line → BatchPut t at out out₁ b
    so_far_full room full = record { front = h.front; full = λ some. full; on = λ within. h.on (omega arith) }

    -- no record is left
    pub so_far_all : length t ≤ b.next → BatchPut t at out out₁ b
    so_far_all done = record { front = h.front; full = λ some. absurd (some (none_beyond h.front.goes_on done)); on = λ within. omega arith }
