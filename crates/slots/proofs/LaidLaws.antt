-- A slot as six parts of fixed length: the name's length, the name's 255 bytes, the flags, A, AAAA and DHCID. Assumes nothing.
use Prim.Native.Nat.{ℕ, suc, ◌+◌, ◌-◌, ◌≤◌}
use mathlib.Core.Bool.{true}
use mathlib.Core.Path.{◌≡◌, refl, sym, ap, ap₂, ◌∙◌}
use mathlib.Core.List.{List, [], ◌∷◌, ◌++◌, append_assoc, append-nil}
use mathlib.Core.Option.{Option, none, some}
use native.Mathlib.Omega.{arith}
use lib.ListN.{length, take, drop, get_or, replicate, length-append, length-drop, length-replicate, take-append-drop}
use lib.Seq.{take_at, drop_at, get_or_at, drop-cons, drop-drop, take_all, take-take}
use Rattle.base.specs.Bytes.{overlay, padded}
use Rattle.base.specs.Dhcid.{well_formed}
use Rattle.base.specs.Logic.{IfSome}
use Rattle.base.proofs.DhcidLaws.{dhcid_length}
use Rattle.name.proofs.WireLaws.{proper_short}
use Rattle.slots.specs.Form.{TableEntry, field, flags, slot_bytes, WellFormed}
use Rattle.slots.specs.Sizes.{body_size, slot_size}

-- ---- a part in the middle

module _ (u v w : List ℕ) (i : ℕ) (before : length u ≡ i) where
  pub part_at : (n : ℕ) → length v ≡ n → take n (drop i (u ++ v ++ w)) ≡ v
  part_at n size = ap (take n) (ap (drop i) (append_assoc u v w) ∙ drop_at u (v ++ w) i before) ∙ take_at v w n size

  pub overlay_at : (x : List ℕ) → length v ≡ length x → overlay (u ++ v ++ w) i x ≡ u ++ x ++ w
  unfolding overlay
  overlay_at x size =
      let after : length (u ++ v) ≡ i + length x = length-append u v ∙ ap₂ ◌+◌ before size in
      ap₂ (λ (p q : List ℕ). p ++ x ++ q) (ap (take i) (append_assoc u v w) ∙ take_at u (v ++ w) i before) (drop_at (u ++ v) w (i + length x) after)

-- ---- the six parts

abbrev pub laid : ℕ → List ℕ → ℕ → List ℕ → List ℕ → List ℕ → List ℕ
laid l p v a b d = l ∷ p ++ v ∷ a ++ b ++ d

pub record Sizes (p x y d : List ℕ) : Type 0 where
  pub name : length p ≡ 255
  pub a : length x ≡ 4
  pub aaaa : length y ≡ 16
  pub dhcid : length d ≡ 35

pub regroup : (x a b d : List ℕ) → x ++ a ++ b ++ d ≡ x ++ (a ++ b ++ d)
regroup x a b d = simp append_assoc

module _ (l : ℕ) (p : List ℕ) (v : ℕ) (a b d : List ℕ) where
  -- cut before and after a part
  pub cut_name : laid l p v a b d ≡ (l ∷ []) ++ p ++ (v ∷ a ++ b ++ d)
  cut_name = simp append_assoc

  flags_apart : l ∷ p ++ v ∷ a ≡ l ∷ p ++ v ∷ [] ++ a
  flags_apart = sym (append_assoc (l ∷ p) (v ∷ []) a)

  pub cut_flags : laid l p v a b d ≡ (l ∷ p) ++ (v ∷ []) ++ (a ++ b ++ d)
  cut_flags = ap (λ (t : List ℕ). t ++ b ++ d) flags_apart ∙ regroup (l ∷ p ++ v ∷ []) a b d

  pub cut_a : laid l p v a b d ≡ (l ∷ p ++ v ∷ []) ++ a ++ (b ++ d)
  cut_a = ap (λ (t : List ℕ). t ++ b ++ d) flags_apart ∙ append_assoc (l ∷ p ++ v ∷ [] ++ a) b d

  pub cut_dhcid : laid l p v a b d ≡ (l ∷ p ++ v ∷ a ++ b) ++ d ++ []
  cut_dhcid = sym (append-nil (laid l p v a b d))

module _ (l : ℕ) (p : List ℕ) (v : ℕ) (a b d : List ℕ) (s : Sizes p a b d) where
  pub length_laid : length (laid l p v a b d) ≡ body_size
  length_laid = simp length-append (omega (arith, s.name, s.a, s.aaaa, s.dhcid))

  before_a : length (l ∷ p ++ v ∷ []) ≡ 257
  before_a = simp length-append (omega (arith, s.name))

  before_aaaa : length (l ∷ p ++ v ∷ a) ≡ 261
  before_aaaa = simp length-append (omega (arith, s.name, s.a))

  before_dhcid : length (l ∷ p ++ v ∷ a ++ b) ≡ 277
  before_dhcid = simp length-append (omega (arith, s.name, s.a, s.aaaa))

  -- what stands where
  pub laid_name : take 255 (drop 1 (laid l p v a b d)) ≡ p
  laid_name = ap (λ (t : List ℕ). take 255 (drop 1 t)) (cut_name l p v a b d) ∙ part_at (l ∷ []) p (v ∷ a ++ b ++ d) 1 refl 255 s.name

  pub laid_flags : get_or (laid l p v a b d) 256 0 ≡ v
  laid_flags = ap (λ (t : List ℕ). get_or t 256 0) (cut_flags l p v a b d ∙ append_assoc (l ∷ p) (v ∷ []) (a ++ b ++ d)) ∙ get_or_at (l ∷ p) v (a ++ b ++ d) 0 256 (ap suc s.name)

  pub laid_a : take 4 (drop 257 (laid l p v a b d)) ≡ a
  laid_a = ap (λ (t : List ℕ). take 4 (drop 257 t)) (cut_a l p v a b d) ∙ part_at (l ∷ p ++ v ∷ []) a (b ++ d) 257 before_a 4 s.a

  pub laid_aaaa : take 16 (drop 261 (laid l p v a b d)) ≡ b
  laid_aaaa = part_at (l ∷ p ++ v ∷ a) b d 261 before_aaaa 16 s.aaaa

  pub laid_dhcid : take 35 (drop 277 (laid l p v a b d)) ≡ d
  laid_dhcid = ap (λ (t : List ℕ). take 35 (drop 277 t)) (cut_dhcid l p v a b d) ∙ part_at (l ∷ p ++ v ∷ a ++ b) d [] 277 before_dhcid 35 s.dhcid

  -- one part written
  pub write_flags : (x : ℕ) → overlay (laid l p v a b d) 256 (x ∷ []) ≡ laid l p x a b d
  write_flags x = ap (λ (t : List ℕ). overlay t 256 (x ∷ [])) (cut_flags l p v a b d) ∙ overlay_at (l ∷ p) (v ∷ []) (a ++ b ++ d) 256 (ap suc s.name) (x ∷ []) refl ∙ sym (cut_flags l p x a b d)

  pub write_a : (x : List ℕ) → length x ≡ 4 → overlay (laid l p v a b d) 257 x ≡ laid l p v x b d
  write_a x e = ap (λ (t : List ℕ). overlay t 257 x) (cut_a l p v a b d) ∙ overlay_at (l ∷ p ++ v ∷ []) a (b ++ d) 257 before_a x (s.a ∙ sym e) ∙ sym (cut_a l p v x b d)

  pub write_aaaa : (x : List ℕ) → length x ≡ 16 → overlay (laid l p v a b d) 261 x ≡ laid l p v a x d
  write_aaaa x e = overlay_at (l ∷ p ++ v ∷ a) b d 261 before_aaaa x (s.aaaa ∙ sym e)

  pub write_dhcid : (x : List ℕ) → length x ≡ 35 → overlay (laid l p v a b d) 277 x ≡ laid l p v a b x
  write_dhcid x e =
      ap (λ (t : List ℕ). overlay t 277 x) (cut_dhcid l p v a b d) ∙ overlay_at (l ∷ p ++ v ∷ a ++ b) d [] 277 before_dhcid x (s.dhcid ∙ sym e)
      ∙ append-nil (l ∷ p ++ v ∷ a ++ b ++ x)

-- any 312 bytes are six such parts
pub as_laid : (s : List ℕ) → length s ≡ body_size
    → s ≡ laid (get_or s 0 0) (take 255 (drop 1 s)) (get_or s 256 0) (take 4 (drop 257 s)) (take 16 (drop 261 s)) (take 35 (drop 277 s))
as_laid s e =
    let last : drop 277 s ≡ take 35 (drop 277 s) = sym (take_all 35 (drop 277 s) (simp length-drop (omega arith))) in
    let aaaa : drop 261 s ≡ take 16 (drop 261 s) ++ drop 277 s = sym (take-append-drop 16 (drop 261 s)) ∙ ap (λ (t : List ℕ). take 16 (drop 261 s) ++ t) (drop-drop 16 261 s) in
    let a : drop 257 s ≡ take 4 (drop 257 s) ++ drop 261 s = sym (take-append-drop 4 (drop 257 s)) ∙ ap (λ (t : List ℕ). take 4 (drop 257 s) ++ t) (drop-drop 4 257 s) in
    let v : drop 256 s ≡ get_or s 256 0 ∷ drop 257 s = drop-cons s 256 0 (omega arith) in
    let name : drop 1 s ≡ take 255 (drop 1 s) ++ drop 256 s = sym (take-append-drop 255 (drop 1 s)) ∙ ap (λ (t : List ℕ). take 255 (drop 1 s) ++ t) (drop-drop 255 1 s) in
    let first : s ≡ get_or s 0 0 ∷ drop 1 s = drop-cons s 0 0 (omega arith) in
    first ∙ ap (λ (t : List ℕ). get_or s 0 0 ∷ t) (name ∙ ap (λ (t : List ℕ). take 255 (drop 1 s) ++ t)
    (v ∙ ap (λ (t : List ℕ). get_or s 256 0 ∷ t) (a ∙ ap (λ (t : List ℕ). take 4 (drop 257 s) ++ t) (aaaa ∙ ap (λ (t : List ℕ). take 16 (drop 261 s) ++ t) last))))
    ∙ simp append_assoc

-- ---- the slot of an entry

pub length_padded : (n : List ℕ) → length n ≤ 255 → length (padded n) ≡ 255
unfolding padded
length_padded n short = length-append n (replicate (255 - length n) 0) ∙ ap (λ (k : ℕ). length n + k) (length-replicate {A = ℕ} (255 - length n) 0) ∙ omega arith

length_field : (size : ℕ) (o : Option (List ℕ)) → IfSome (λ x. length x ≡ size) o → length (field size o) ≡ size
length_field size none h = length-replicate {A = ℕ} size 0
length_field size (some x) h = h

pub holder_length : (o : Option (List ℕ)) → IfSome (λ x. well_formed x ≡ true) o → IfSome (λ x. length x ≡ 35) o
holder_length none h = tt
holder_length (some x) h = dhcid_length x h

module _ (e : TableEntry) where
  pub slot_laid : slot_bytes e ≡ laid (length e.name) (padded e.name) (flags e) (field 4 e.a) (field 16 e.aaaa) (field 35 e.holder)
  unfolding slot_bytes
  slot_laid = refl

  -- what stands in it, by the sizes of its parts
  module _ (s : Sizes (padded e.name) (field 4 e.a) (field 16 e.aaaa) (field 35 e.holder)) where
    pub flags_of : get_or (slot_bytes e) 256 0 ≡ flags e
    unfolding slot_bytes
    flags_of = laid_flags (length e.name) _ (flags e) _ _ _ s

    pub a_of : take 4 (drop 257 (slot_bytes e)) ≡ field 4 e.a
    unfolding slot_bytes
    a_of = laid_a (length e.name) _ (flags e) _ _ _ s

    pub aaaa_of : take 16 (drop 261 (slot_bytes e)) ≡ field 16 e.aaaa
    unfolding slot_bytes
    aaaa_of = laid_aaaa (length e.name) _ (flags e) _ _ _ s

    pub dhcid_of : take 35 (drop 277 (slot_bytes e)) ≡ field 35 e.holder
    unfolding slot_bytes
    dhcid_of = laid_dhcid (length e.name) _ (flags e) _ _ _ s

  module _ (w : WellFormed e) where
    pub slot_sizes : Sizes (padded e.name) (field 4 e.a) (field 16 e.aaaa) (field 35 e.holder)
    slot_sizes =
        record {
          name = length_padded e.name (proper_short e.name w.proper);
          a = length_field 4 e.a w.a;
          aaaa = length_field 16 e.aaaa w.aaaa;
          dhcid = length_field 35 e.holder (holder_length e.holder w.dhcid);
        }

    pub length_slot : length (slot_bytes e) ≡ slot_size
    length_slot = ap length slot_laid ∙ length_laid (length e.name) (padded e.name) (flags e) (field 4 e.a) (field 16 e.aaaa) (field 35 e.holder) slot_sizes

    -- the name's length, which is not 0, and the name
    pub slot_length : get_or (slot_bytes e) 0 0 ≡ length e.name
    unfolding slot_bytes
    slot_length = refl

    pub slot_name : take (length e.name) (drop 1 (slot_bytes e)) ≡ e.name
    unfolding padded
    slot_name =
        let short = proper_short e.name w.proper in
        sym (take-take (length e.name) 255 (drop 1 (slot_bytes e)) short)
        ∙ ap (take (length e.name)) (ap (λ (s : List ℕ). take 255 (drop 1 s)) slot_laid ∙ laid_name (length e.name) (padded e.name) (flags e) (field 4 e.a) (field 16 e.aaaa) (field 35 e.holder) slot_sizes)
        ∙ take_at e.name (replicate (255 - length e.name) 0) (length e.name) refl
