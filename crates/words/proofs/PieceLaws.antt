-- One turn of the loop over an entry's pieces: what the byte at an index makes of what the text comes to from there on. Assumes nothing.
use Prim.Native.Nat.{ℕ, ◌+◌, ◌-◌, ◌≤◌, ◌<◌}
use mathlib.Core.Bool.{true, true≢false}
use mathlib.Core.Path.{◌≡◌, refl, sym, ap, subst, ◌∙◌}
use mathlib.Core.List.{List, [], ◌∷◌, ◌++◌}
use native.Mathlib.Numerals.{add-one}
use native.Mathlib.Omega.{arith}
use lib.ListN.{length, take, drop, get_or, drop_of_length-le, length-take}
use lib.Seq.{drop-cons}
use Rattle.grammar.specs.Listing.{Kind, semicolon, word_byte, kind_of, is_word_kind, is_word_byte, is_comment_byte, begins, LongestRun, Depth, Piece}
use Rattle.grammar.specs.Scan.{plain, at_text_end, act, depth_after, mode_after, put, scan, preceded}
use Rattle.grammar.proofs.ScanLaws.{byte_scan, piece_scan}
use Rattle.words.specs.NextIs.{RunTo}

module _ (t : List ℕ) (i : ℕ) (within : i < length t) where
  here : drop i t ≡ get_or t i 0 ∷ drop (i + 1) t
  here = drop-cons t i 0 within ∙ ap (λ (k : ℕ). get_or t i 0 ∷ drop k t) (sym (add-one i))

  -- a byte of the kind k, where no comment is open
  pub at_byte : (d : Depth) (k : Kind) → kind_of (get_or t i 0) ≡ k
      → scan plain d (drop i t) ≡ put (act plain d k) (get_or t i 0) (drop (i + 1) t) (scan (mode_after plain k) (depth_after plain d k) (drop (i + 1) t))
  at_byte d k e = ap (scan plain d) here ∙ byte_scan plain d (get_or t i 0) (drop (i + 1) t) k e

  -- a comment, up to the end of its run
  pub at_comment : (d : Depth) (end : ℕ) → kind_of (get_or t i 0) ≡ semicolon → RunTo is_comment_byte t (i + 1) end → scan plain d (drop i t) ≡ scan plain d (drop end t)
  at_comment d end e r = ap (scan plain d) here ∙ piece_scan (Piece.a_comment e r.run)

  -- a word, up to the end of its run
  pub at_word : (d : Depth) (end : ℕ) → kind_of (get_or t i 0) ≡ word_byte → RunTo is_word_byte t i end
      → (i < end) × (scan plain d (drop i t) ≡ preceded (take (end - i) (drop i t) ∷ []) (scan plain d (drop end t)))
  at_word d end e r = go (take (end - i) (drop i t)) refl
    where
      go : (w : List ℕ) → take (end - i) (drop i t) ≡ w → (i < end) × (scan plain d (drop i t) ≡ preceded (w ∷ []) (scan plain d (drop end t)))
      go [] q =
          let same : drop i t ≡ drop end t = r.run.cut ∙ ap (λ (v : List ℕ). v ++ drop end t) q in
          let starts : begins is_word_byte (drop i t) ≡ true = ap (begins is_word_byte) here ∙ ap is_word_kind e in
          absurd (true≢false (sym starts ∙ ap (begins is_word_byte) same ∙ r.run.longest))
      go (b ∷ w) q = (omega (arith, ap length q, length-take (end - i) (drop i t)), piece_scan (Piece.a_word (subst (λ (v : List ℕ). LongestRun is_word_byte (drop i t) v (drop end t)) q r.run)))

pub at_text_end_lem : (t : List ℕ) (i : ℕ) (d : Depth) → length t ≤ i → scan plain d (drop i t) ≡ record { words = []; ending = at_text_end d }
unfolding scan
at_text_end_lem t i d h = rw (drop_of_length-le t h) refl
