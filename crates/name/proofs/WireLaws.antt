-- The test of wire bytes in specs/ProperTest.antt decides "proper". Assumes nothing.
use Prim.Native.Nat.{ℕ, zero, suc, ◌+◌, ◌-◌, ◌≤◌, ◌<◌}
use mathlib.Core.Bool.{Bool, true, false, cond, ◌&&◌, not, true≢false, false≢true}
use mathlib.Core.Path.{◌≡◌, refl, sym, ap, ap₂, ◌∙◌}
use mathlib.Core.List.{List, [], ◌∷◌, ◌++◌}
use native.Mathlib.Numerals.{add-one}
use native.Mathlib.Omega.{arith}
use lib.Dec.{leb, eqb}
use lib.ListN.{length, get_or, drop, length-drop, drop_of_length-le}
use lib.Seq.{drop-cons}
use borrow.Author.Tests.{eq-eqb, ne_eqb, le-leb, lt-leb, eqb-true, eqb-false, leb-true, leb-false, not-true}
use Rattle.base.specs.Logic.{Every, Decides}
use Rattle.base.proofs.Lists.{no_elements}
use Rattle.base.proofs.Tests.{and_left, and_right}
use Rattle.name.specs.Label.{Label, is_label_byte, lower}
use Rattle.name.specs.Name.{wire, Proper, canonical}
use Rattle.name.specs.ProperTest.{is_nil, accepts, is_proper}
use Rattle.name.proofs.LabelLaws.{lower_length, lower_least, label_byte_raised}
use Rattle.name.proofs.NameLaws.{length_canonical, get_or_canonical}

-- ---- what is a name is accepted

accepts_label : (l n : List ℕ) → Every (λ b. is_label_byte b ≡ true) l → accepts (length l) (l ++ n) ≡ accepts 0 n
unfolding accepts
accepts_label [] n h = refl
accepts_label (b ∷ l) n (Every.more hb h) = ap (λ (t : Bool). t && accepts (length l) (l ++ n)) hb ∙ accepts_label l n h

accepts_wire : (ls : List (List ℕ)) → Every Label ls → accepts 0 (wire ls) ≡ true
unfolding accepts wire
accepts_wire [] h = refl
accepts_wire (l ∷ ls) (Every.more hl h) =
    let some : eqb (length l) 0 ≡ false = ne_eqb (length l) 0 (λ z. omega (arith, hl.some)) in
    let rest : accepts (length l) (l ++ wire ls) ≡ true = accepts_label l (wire ls) hl.bytes ∙ accepts_wire ls h in
    λ i. cond (some i) (is_nil (l ++ wire ls)) (le-leb (length l) 63 hl.short i && rest i)

-- ---- what is accepted is a name

record Rest (k : ℕ) (n : List ℕ) : Type 0 where
  label : List ℕ
  labels : List (List ℕ)
  long : length label ≡ k
  bytes : Every (λ b. is_label_byte b ≡ true) label
  are : Every Label labels
  form : n ≡ label ++ wire labels

at_length : (b : ℕ) (n : List ℕ) → Rest b n → (b ≡ 0 → ⊥) → b ≤ 63 → Rest 0 (b ∷ n)
unfolding wire
at_length b n r some short =
    let first : Label r.label = record { some = omega (arith, r.long, some); short = omega (arith, r.long); bytes = r.bytes } in
    record {
      label = [];
      labels = r.label ∷ r.labels;
      long = refl;
      bytes = Every.none;
      are = Every.more first r.are;
      form = ap₂ ◌∷◌ (sym r.long) r.form;
    }

at_end : (b : ℕ) (n : List ℕ) → b ≡ 0 → is_nil n ≡ true → Rest 0 (b ∷ n)
unfolding wire
at_end b [] z e = record { label = []; labels = []; long = refl; bytes = Every.none; are = Every.none; form = ap (λ (x : ℕ). x ∷ []) z }
at_end b (c ∷ n) z e = absurd (false≢true e)

accepted_length : (b : ℕ) (n : List ℕ) → (accepts b n ≡ true → Rest b n) → (t : Bool) → eqb b 0 ≡ t → cond t (is_nil n) (leb b 63 && accepts b n) ≡ true → Rest 0 (b ∷ n)
accepted_length b n ih true z e = at_end b n (eqb-true b 0 z) e
accepted_length b n ih false z e =
    at_length b n (ih (and_right (leb b 63) (accepts b n) e)) (eqb-false b 0 z) (leb-true b 63 (and_left (leb b 63) (accepts b n) e))

accepted_byte : (k b : ℕ) (n : List ℕ) → ((j : ℕ) → accepts j n ≡ true → Rest j n) → accepts k (b ∷ n) ≡ true → Rest k (b ∷ n)
unfolding accepts
accepted_byte zero b n ih e = accepted_length b n (ih b) (eqb b 0) refl e
accepted_byte (suc k) b n ih e =
    let r = ih k (and_right (is_label_byte b) (accepts k n) e) in
    record {
      label = b ∷ r.label;
      labels = r.labels;
      long = ap suc r.long;
      bytes = Every.more (and_left (is_label_byte b) (accepts k n) e) r.bytes;
      are = r.are;
      form = ap (λ (t : List ℕ). b ∷ t) r.form;
    }

accepted : (n : List ℕ) (k : ℕ) → accepts k n ≡ true → Rest k n
accepted [] k e = absurd (false≢true (unfold accepts in e))
accepted (b ∷ n) k e = accepted_byte k b n (λ j. accepted n j) e

-- ---- so the test decides, of at most 255 bytes that do not begin with the zero byte

some_labels : (ls : List (List ℕ)) (n : List ℕ) → n ≡ wire ls → (get_or n 0 0 ≡ 0 → ⊥) → 1 ≤ length ls
unfolding wire
some_labels [] n e first = absurd (first (ap (λ (t : List ℕ). get_or t 0 0) e))
some_labels (l ∷ ls) n e first = omega arith

first_length : (ls : List (List ℕ)) → 1 ≤ length ls → Every Label ls → get_or (wire ls) 0 0 ≡ 0 → ⊥
unfolding wire
first_length [] some h e = omega arith
first_length (l ∷ ls) some (Every.more hl h) e = omega (arith, hl.some)

pub proper_first : (n : List ℕ) → Proper n → get_or n 0 0 ≡ 0 → ⊥
proper_first n p e = first_length p.labels p.name.some p.name.labels (ap (λ (t : List ℕ). get_or t 0 0) (sym p.form) ∙ e)

pub proper_short : (n : List ℕ) → Proper n → length n ≤ 255
proper_short n p = omega (arith, ap length p.form, p.name.short)

pub proper_some : (n : List ℕ) → Proper n → 1 ≤ length n
proper_some [] p = absurd (proper_first [] p refl)
proper_some (b ∷ n) p = omega arith

pub accepts_proper : (n : List ℕ) → Proper n → accepts 0 n ≡ true
accepts_proper n p = ap (accepts 0) p.form ∙ accepts_wire p.labels p.name.labels

pub decided : (n : List ℕ) (b : Bool) → b ≡ accepts 0 n → (get_or n 0 0 ≡ 0 → ⊥) → length n ≤ 255 → Decides b (Proper n)
decided n b e first short =
    record {
      if_true =
          λ t.
          let r = accepted n 0 (sym e ∙ t) in
          let form : n ≡ wire r.labels = r.form ∙ ap (λ (l : List ℕ). l ++ wire r.labels) (no_elements r.label r.long) in
          record {
            labels = r.labels;
            name = record { some = some_labels r.labels n form first; labels = r.are; short = omega (arith, ap length form) };
            form = form;
          };
      if_false = λ f p. true≢false (sym (accepts_proper n p) ∙ sym e ∙ f);
    }

-- ---- and so does the whole test

pub proper_passes : (n : List ℕ) → Proper n → is_proper n ≡ true
unfolding is_proper
proper_passes n p =
    λ i. not (ne_eqb (get_or n 0 0) 0 (proper_first n p) i) && le-leb (length n) 255 (proper_short n p) i && accepts_proper n p i

pub passes_proper : (n : List ℕ) → is_proper n ≡ true → Proper n
unfolding is_proper
passes_proper n e =
    let front = and_left (not (eqb (get_or n 0 0) 0) && leb (length n) 255) (accepts 0 n) e in
    let first = not-true (eqb (get_or n 0 0) 0) (and_left (not (eqb (get_or n 0 0) 0)) (leb (length n) 255) front) in
    let short = leb-true (length n) 255 (and_right (not (eqb (get_or n 0 0) 0)) (leb (length n) 255) front) in
    (decided n true (sym (and_right (not (eqb (get_or n 0 0) 0) && leb (length n) 255) (accepts 0 n) e)) (eqb-false (get_or n 0 0) 0 first) short).if_true refl

pub fails_proper : (n : List ℕ) → is_proper n ≡ false → Proper n → ⊥
fails_proper n e p = true≢false (sym (proper_passes n p) ∙ e)

-- ---- what is proper in canonical form is proper as it stands

nil_raised : (n : List ℕ) → is_nil (canonical n) ≡ true → is_nil n ≡ true
unfolding canonical
nil_raised [] f = f
nil_raised (c ∷ n) f = f

module _ (b : ℕ) (n : List ℕ) (rest : accepts b (canonical n) ≡ true → accepts b n ≡ true) where
  by_zero : (t : Bool) → cond t (is_nil (canonical n)) (leb b 63 && accepts b (canonical n)) ≡ true → cond t (is_nil n) (leb b 63 && accepts b n) ≡ true
  by_zero true f = nil_raised n f
  by_zero false f =
      let more = rest (and_right (leb b 63) (accepts b (canonical n)) f) in
      λ i. and_left (leb b 63) (accepts b (canonical n)) f i && more i

  -- a length is the same in canonical form, and what is none is none there
  length_raised : accepts 0 (lower b ∷ canonical n) ≡ true → (t : Bool) → leb b 63 ≡ t → accepts 0 (b ∷ n) ≡ true
  unfolding accepts
  length_raised e true short = by_zero (eqb b 0) (ap (λ (l : ℕ). accepts 0 (l ∷ canonical n)) (sym (lower_length b (leb-true b 63 short))) ∙ e)
  length_raised e false long =
      let high : 63 < lower b = omega (arith, leb-false b 63 long, lower_least b) in
      let zero = ne_eqb (lower b) 0 (λ z. omega (arith, high)) in
      absurd (false≢true (sym (λ i. cond (zero i) (is_nil (canonical n)) (lt-leb (lower b) 63 high i && accepts (lower b) (canonical n))) ∙ e))

accepts_raised : (n : List ℕ) (k : ℕ) → accepts k (canonical n) ≡ true → accepts k n ≡ true
unfolding accepts canonical
accepts_raised [] k e = e
accepts_raised (b ∷ n) (suc k) e =
    let rest = accepts_raised n k (and_right (is_label_byte (lower b)) (accepts k (canonical n)) e) in
    λ i. label_byte_raised b (and_left (is_label_byte (lower b)) (accepts k (canonical n)) e) i && rest i
accepts_raised (b ∷ n) zero e = length_raised b n (accepts_raised n b) e (leb b 63) refl

pub proper_raised : (n : List ℕ) → Proper (canonical n) → Proper n
proper_raised n p =
    (decided n true (sym (accepts_raised n 0 (accepts_proper (canonical n) p)))
    (λ z. proper_first (canonical n) p (get_or_canonical n 0 ∙ ap lower z ∙ lower_length 0 (omega arith)))
    (omega (arith, proper_short (canonical n) p, length_canonical n))).if_true refl

-- ---- the test at index i of n

pub at_last : (r : List ℕ) (i n : ℕ) → i + length r ≡ n → eqb i n ≡ is_nil r
at_last [] i n e = eq-eqb i n (omega arith)
at_last (b ∷ r) i n e = ne_eqb i n (λ z. omega arith)

module _ (n : List ℕ) (i : ℕ) (within : i < length n) where
  ahead : (k : ℕ) → accepts k (drop i n) ≡ accepts k (get_or n i 0 ∷ drop (i + 1) n)
  ahead k = ap (accepts k) (rw (add-one, drop-cons n i 0))

  pub at_zero : get_or n i 0 ≡ 0 → eqb (i + 1) (length n) ≡ accepts 0 (drop i n)
  unfolding accepts
  at_zero z =
      let rest : i + 1 + length (drop (i + 1) n) ≡ length n = simp length-drop (omega arith) in
      let first : cond (eqb (get_or n i 0) 0) (is_nil (drop (i + 1) n)) (leb (get_or n i 0) 63 && accepts (get_or n i 0) (drop (i + 1) n)) ≡ is_nil (drop (i + 1) n) =
      ap (λ (t : Bool). cond t (is_nil (drop (i + 1) n)) (leb (get_or n i 0) 63 && accepts (get_or n i 0) (drop (i + 1) n))) (eq-eqb (get_or n i 0) 0 z) in
      at_last (drop (i + 1) n) (i + 1) (length n) rest ∙ sym first ∙ sym (ahead 0)

  pub at_long_label : 63 < get_or n i 0 → false ≡ accepts 0 (drop i n)
  unfolding accepts
  at_long_label long =
      sym (ahead 0 ∙ (λ j. cond (ne_eqb (get_or n i 0) 0 (λ z. omega arith) j) (is_nil (drop (i + 1) n)) (lt-leb (get_or n i 0) 63 long j && accepts (get_or n i 0) (drop (i + 1) n))))

  pub at_label : (get_or n i 0 ≡ 0 → ⊥) → get_or n i 0 ≤ 63 → accepts 0 (drop i n) ≡ accepts (get_or n i 0) (drop (i + 1) n)
  unfolding accepts
  at_label some short =
      ahead 0 ∙ (λ j. cond (ne_eqb (get_or n i 0) 0 some j) (is_nil (drop (i + 1) n)) (le-leb (get_or n i 0) 63 short j && accepts (get_or n i 0) (drop (i + 1) n)))

  module _ (k : ℕ) (more : k ≡ 0 → ⊥) where
    one_less : k ≡ suc (k - 1)
    one_less = omega arith

    pub at_byte : is_label_byte (get_or n i 0) ≡ true → accepts k (drop i n) ≡ accepts (k - 1) (drop (i + 1) n)
    unfolding accepts
    at_byte e = ahead k ∙ ap (λ (j : ℕ). accepts j (get_or n i 0 ∷ drop (i + 1) n)) one_less ∙ ap (λ (t : Bool). t && accepts (k - 1) (drop (i + 1) n)) e

    pub at_other_byte : is_label_byte (get_or n i 0) ≡ false → false ≡ accepts k (drop i n)
    unfolding accepts
    at_other_byte e = sym (ahead k ∙ ap (λ (j : ℕ). accepts j (get_or n i 0 ∷ drop (i + 1) n)) one_less ∙ ap (λ (t : Bool). t && accepts (k - 1) (drop (i + 1) n)) e)

pub at_end_of_bytes : (n : List ℕ) (k i : ℕ) → length n ≤ i → false ≡ accepts k (drop i n)
unfolding accepts
at_end_of_bytes n k i past = ap (accepts k) (sym (drop_of_length-le n {i = i} past))
