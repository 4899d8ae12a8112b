-- A text is cut into entries in one way only. Assumes nothing.
use Prim.Native.Nat.{ℕ}
use mathlib.Core.Path.{◌≡◌, refl, sym, ap, ap₂, subst, ◌∙◌}
use mathlib.Core.Bool.{Bool, true, false, true≢false}
use mathlib.Core.List.{List, [], ◌∷◌, ◌++◌}
use native.Mathlib.Omega.{arith}
use lib.ListN.{length, length-append}
use Rattle.base.specs.Logic.{Every}
use Rattle.base.proofs.Lists.{append_split}
use Rattle.grammar.specs.Listing.{outside, Words, Entries, Records}
use Rattle.grammar.specs.Scan.{plain, Ending, at_end, at_line, at_fault, Laid, scan}
use Rattle.grammar.proofs.ScanLaws.{words_scan, line_scan}

after_line : Ending → List ℕ
after_line at_end = []
after_line (at_line u) = u
after_line at_fault = []

is_line : Ending → Bool
is_line at_end = false
is_line (at_line u) = true
is_line at_fault = false

-- an entry that a 10 ends is not one that the text ends
not_both_ends : {t e : List ℕ} (u : List ℕ) {ws vs : List (List ℕ)} → Words outside t ws → t ≡ e ++ 10 ∷ u → Words outside e vs → ⊥
unfolding is_line
not_both_ends {t} u w q v =
    true≢false (sym (ap (λ (l : Laid). is_line l.ending) (line_scan u v)) ∙ ap (λ (l : List ℕ). is_line (scan plain outside l).ending) (sym q) ∙ ap (λ (l : Laid). is_line l.ending) (words_scan w))

module _ {t e e' : List ℕ} (u u' : List ℕ) {ws vs : List (List ℕ)} (q : t ≡ e ++ 10 ∷ u) (q' : t ≡ e' ++ 10 ∷ u') (w : Words outside e ws) (v : Words outside e' vs) where
  one_rest : u ≡ u'
  unfolding after_line
  one_rest =
      sym (ap (λ (l : Laid). after_line l.ending) (line_scan u w)) ∙ ap (λ (l : List ℕ). after_line (scan plain outside l).ending) (sym q ∙ q')
      ∙ ap (λ (l : Laid). after_line l.ending) (line_scan u' v)

  one_entry : e ≡ e'
  one_entry =
      let long : length e ≡ length e' = omega (arith, ap length (sym q ∙ q'), ap length one_rest, length-append e (10 ∷ u), length-append e' (10 ∷ u')) in
      (append_split long (sym q ∙ q')).0

pub one_cutting : {t : List ℕ} {es fs : List (List ℕ)} → Entries t es → Entries t fs → es ≡ fs
one_cutting (Entries.last w) (Entries.last v) = refl
one_cutting (Entries.last w) (Entries.more {u = u} q v c) = absurd (not_both_ends u w q v)
one_cutting (Entries.more {u = u} q w c) (Entries.last v) = absurd (not_both_ends u v q w)
one_cutting (Entries.more {u = u} q w c) (Entries.more {u = u'} {es = fs} q' v c') =
    let rest : Entries u fs = subst (λ (l : List ℕ). Entries l fs) (sym (one_rest u u' q q' w v)) c' in
    ap₂ ◌∷◌ (one_entry u u' q q' w v) (one_cutting {fs = fs} c rest)

-- entries with no words are no records
pub no_records : (es : List (List ℕ)) → Every (λ e. Words outside e []) es → Records es []
no_records [] Every.none = Records.none
no_records (e ∷ es) (Every.more w h) = Records.no_record w (no_records es h)
