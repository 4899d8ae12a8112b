-- The test for a name in the zone says `Within`, both ways. Assumes nothing.
use Prim.Native.Nat.{ℕ}
use mathlib.Core.Bool.{Bool, true, false, ◌||◌, false≢true}
use mathlib.Core.Path.{◌≡◌, refl, sym, ap, subst, ◌∙◌}
use mathlib.Core.List.{List, [], ◌∷◌, ◌++◌}
use lib.ListN.{length}
use Rattle.base.specs.Bytes.{eq_bytes}
use Rattle.base.proofs.Tests.{eq_bytes_true, eq_eq_bytes}
use Rattle.name.specs.Name.{wire, canonical, Within}
use Rattle.carried.specs.Zone.{ends_in, in_zone}

past_label : (z l n : List ℕ) → ends_in z (length l) (l ++ n) ≡ ends_in z 0 n
unfolding ends_in
past_label z [] n = refl
past_label z (b ∷ l) n = past_label z l n

-- ---- what is within passes

or_true : (b : Bool) → (b || true) ≡ true
or_true true = refl
or_true false = refl

zone_ends : (z : List ℕ) (ms : List (List ℕ)) → z ≡ wire ms → ends_in z 0 (wire ms) ≡ true
unfolding wire ends_in
zone_ends z [] e = ap (λ (b : Bool). b || false) (eq_eq_bytes (wire []) z (sym e))
zone_ends z (m ∷ ms) e = ap (λ (b : Bool). b || ends_in z (length m) (m ++ wire ms)) (eq_eq_bytes (wire (m ∷ ms)) z (sym e))

below_ends : (z : List ℕ) (ls ms : List (List ℕ)) → z ≡ wire ms → ends_in z 0 (wire (ls ++ ms)) ≡ true
unfolding wire ends_in
below_ends z [] ms e = zone_ends z ms e
below_ends z (l ∷ ls) ms e =
    ap (λ (b : Bool). eq_bytes (wire (l ∷ ls ++ ms)) z || b) (past_label z l (wire (ls ++ ms)) ∙ below_ends z ls ms e) ∙ or_true (eq_bytes (wire (l ∷ ls ++ ms)) z)

pub within_passes : (n z : List ℕ) → Within (canonical n) z → in_zone z n ≡ true
unfolding in_zone
within_passes n z h = ap (ends_in z 0) h.name ∙ below_ends z h.first h.labels h.zone

-- ---- what passes is within

here_or_below : (z n : List ℕ) (b c : Bool) → eq_bytes n z ≡ b → {P : Type 0} → (b || c) ≡ true → (n ≡ z → P) → (c ≡ true → P) → P
here_or_below z n true c s e f g = f (eq_bytes_true n z s)
here_or_below z n false c s e f g = g e

ends_within : (z : List ℕ) (ls : List (List ℕ)) → ends_in z 0 (wire ls) ≡ true → Within (wire ls) z
unfolding wire ends_in
ends_within z [] h =
    here_or_below z (wire []) (eq_bytes (wire []) z) false refl h (λ e. record { first = []; labels = []; name = refl; zone = sym e }) (λ e. absurd (false≢true e))
ends_within z (l ∷ ls) h =
    here_or_below z (wire (l ∷ ls)) (eq_bytes (wire (l ∷ ls)) z) (ends_in z (length l) (l ++ wire ls)) refl h
    (λ e. record { first = []; labels = l ∷ ls; name = refl; zone = sym e })
    (λ g. let rest : Within (wire ls) z = ends_within z ls (sym (past_label z l (wire ls)) ∙ g) in
    record { first = l ∷ rest.first; labels = rest.labels; name = ap (λ (n : List ℕ). length l ∷ l ++ n) rest.name; zone = rest.zone })

pub passes_within : (n z : List ℕ) (ls : List (List ℕ)) → canonical n ≡ wire ls → in_zone z n ≡ true → Within (canonical n) z
unfolding in_zone
passes_within n z ls form h = subst (λ (m : List ℕ). Within m z) (sym form) (ends_within z ls (ap (ends_in z 0) (sym form) ∙ h))
