-- The states of the reader of a DHCID's words: how characters and words lead from one to the next. Assumes nothing.
use Prim.Native.Nat.{ℕ, suc, ◌+◌, ◌-◌, ◌*◌, ◌/◌, ◌%◌, ◌≤◌, ◌<◌}
use mathlib.Core.Path.{◌≡◌, refl, sym, ap, ap₂, subst, ◌∙◌}
use mathlib.Core.List.{List, [], ◌∷◌, ◌++◌, append_assoc, append-nil}
use native.Mathlib.Omega.{arith}
use lib.ListN.{length, get_or, set, replicate, length-append, length-drop, get_or-append, take, drop}
use lib.Seq.{append_snoc, set-append_seam, get_or-append_seam, get_or-append-add, get_or_at, take-add, take_at, drop_at, drop-drop}
use Rattle.std.proofs.lemmas.Slice.Eq.{text_from_reads}
use Rattle.base.specs.Bytes.{zero_filled}
use Rattle.base.specs.Logic.{Every}
use Rattle.dhcid_text.specs.Dhcid.{digit64, base64}
use Rattle.dhcid_text.specs.Base64.{value64}
use Rattle.dhcid_text.specs.DhcidReading.{state_of, Quantum, Begun64, Done64, Refused64, Text64}
use Rattle.dhcid_text.specs.declared.Form.{Form}
use Rattle.dhcid_text.specs.declared.Form.TheVariants.{Base64, Refused}
use Rattle.dhcid_text.specs.declared.DhcidWords.{DhcidWords}
use Rattle.dhcid_text.proofs.HexLaws.{take_one}
use Rattle.dhcid_text.proofs.Base64Laws.{value_digit, digit_value_lem, same_digit, base64_on, length_whole, length_base64, Shape, shape}
use Rattle.base.proofs.Lists.{every_append, every_at}
use Rattle.base.proofs.Tests.{by_ltb}

-- ---- the bytes of a state

-- a byte is stored after those that were read
pub stored : (out : List ℕ) (n v : ℕ) → n ≡ length out → n < 35 → set (zero_filled out) n v ≡ zero_filled (out ++ v ∷ [])
unfolding zero_filled
stored out n v e lt =
    let more : 35 - length out ≡ suc (34 - length out) = omega arith in
    let left : 34 - length out ≡ 35 - length (out ++ v ∷ []) = omega (arith, length-append out (v ∷ [])) in
    ap₂ (λ (k i : ℕ). set (out ++ replicate k 0) i v) more e
    ∙ set-append_seam out 0 (replicate (34 - length out) 0) v
    ∙ sym (append_snoc out v (replicate (34 - length out) 0))
    ∙ ap (λ (k : ℕ). out ++ v ∷ [] ++ replicate k 0) left

pub all_stored : (out : List ℕ) → length out ≡ 35 → zero_filled out ≡ out
unfolding zero_filled
all_stored out e =
    let none : 35 - length out ≡ 0 = omega arith in
    ap (λ (k : ℕ). out ++ replicate k 0) none ∙ append-nil out

-- ---- one digit of base64

module _ (s r : DhcidWords) (v : ℕ) (hv : v < 64) (more : s.count < 47) (cs : List ℕ) (h : Begun64 cs s) (form : r.form ≡ Base64) (count : r.count ≡ s.count + 1) where
  chars_more : (t : List ℕ) → h.digits ≡ t → cs ++ digit64 v ∷ [] ≡ base64 h.whole ++ (t ++ digit64 v ∷ [])
  chars_more t e =
      ap (λ (l : List ℕ). l ++ digit64 v ∷ []) (h.chars ∙ ap (λ (l : List ℕ). base64 h.whole ++ l) e)
      ∙ append_assoc (base64 h.whole) t (digit64 v ∷ [])

  bytes_more : (l : List ℕ) (n x : ℕ) → h.last ≡ l → n ≡ length h.whole + length l → n < 35 → r.bytes ≡ set s.bytes n x
      → r.bytes ≡ zero_filled (h.whole ++ (l ++ x ∷ []))
  bytes_more l n x e at lt b =
      b
      ∙ ap (λ (o : List ℕ). set o n x) (h.bytes ∙ ap (λ (m : List ℕ). zero_filled (h.whole ++ m)) e)
      ∙ stored (h.whole ++ l) n x (at ∙ sym (length-append h.whole l)) lt
      ∙ ap zero_filled (append_assoc h.whole l (x ∷ []))

  pub first_digit : s.count % 4 ≡ 0 → r.pending ≡ v → r.bytes ≡ s.bytes → Quantum h.read s.pending h.digits h.last → Begun64 (cs ++ digit64 v ∷ []) r
  first_digit m p b (Quantum.none n t g) =
      record {
        form = form;
        groups = h.groups;
        whole = h.whole;
        long = h.long;
        small = h.small;
        read = 1;
        digits = digit64 v ∷ [];
        last = [];
        group = Quantum.one refl (omega arith) (ap (λ (x : ℕ). digit64 x ∷ []) (sym p)) refl;
        chars = chars_more [] t;
        count = omega arith;
        more = omega arith;
        bytes = b ∙ h.bytes ∙ ap (λ (l : List ℕ). zero_filled (h.whole ++ l)) g;
      }
  first_digit m p b (Quantum.one n hx t g) = absurd (omega arith)
  first_digit m p b (Quantum.two a n hx ha t g) = absurd (omega arith)
  first_digit m p b (Quantum.three a a' n hx ha ha' t g) = absurd (omega arith)

  pub second_digit : s.count % 4 ≡ 1 → r.pending ≡ v % 16 → r.bytes ≡ set s.bytes (s.count / 4 * 3) (s.pending % 64 * 4 + v / 16)
      → Quantum h.read s.pending h.digits h.last → Begun64 (cs ++ digit64 v ∷ []) r
  second_digit m p b (Quantum.none n t g) = absurd (omega arith)
  second_digit m p b (Quantum.one n hx t g) =
      let a : ℕ = s.pending % 64 * 4 + v / 16 in
      let e₁ : s.pending ≡ a / 4 = omega arith in
      let e₂ : v ≡ a % 4 * 16 + r.pending = omega arith in
      record {
        form = form;
        groups = h.groups;
        whole = h.whole;
        long = h.long;
        small = h.small;
        read = 2;
        digits = digit64 s.pending ∷ digit64 v ∷ [];
        last = a ∷ [];
        group = Quantum.two a refl (omega arith) (omega arith) (λ i. digit64 (e₁ i) ∷ digit64 (e₂ i) ∷ []) refl;
        chars = chars_more (digit64 s.pending ∷ []) t;
        count = omega arith;
        more = omega arith;
        bytes = bytes_more [] (s.count / 4 * 3) a g (omega (arith, h.long)) (omega arith) b;
      }
  second_digit m p b (Quantum.two a n hx ha t g) = absurd (omega arith)
  second_digit m p b (Quantum.three a a' n hx ha ha' t g) = absurd (omega arith)

  pub third_digit : s.count % 4 ≡ 2 → r.pending ≡ v % 4 → r.bytes ≡ set s.bytes (s.count / 4 * 3 + 1) (s.pending % 16 * 16 + v / 4)
      → Quantum h.read s.pending h.digits h.last → Begun64 (cs ++ digit64 v ∷ []) r
  third_digit m p b (Quantum.none n t g) = absurd (omega arith)
  third_digit m p b (Quantum.one n hx t g) = absurd (omega arith)
  third_digit m p b (Quantum.two a n hx ha t g) =
      let a' : ℕ = s.pending % 16 * 16 + v / 4 in
      let e₂ : a % 4 * 16 + s.pending ≡ a % 4 * 16 + a' / 16 = omega arith in
      let e₃ : v ≡ a' % 16 * 4 + r.pending = omega arith in
      record {
        form = form;
        groups = h.groups;
        whole = h.whole;
        long = h.long;
        small = h.small;
        read = 3;
        digits = digit64 (a / 4) ∷ digit64 (a % 4 * 16 + s.pending) ∷ digit64 v ∷ [];
        last = a ∷ a' ∷ [];
        group = Quantum.three a a' refl (omega arith) ha (omega arith) (λ i. digit64 (a / 4) ∷ digit64 (e₂ i) ∷ digit64 (e₃ i) ∷ []) refl;
        chars = chars_more (digit64 (a / 4) ∷ digit64 (a % 4 * 16 + s.pending) ∷ []) t;
        count = omega arith;
        more = omega arith;
        bytes = bytes_more (a ∷ []) (s.count / 4 * 3 + 1) a' g (omega (arith, h.long)) (omega arith) b;
      }
  third_digit m p b (Quantum.three a a' n hx ha ha' t g) = absurd (omega arith)

  pub fourth_digit : s.count % 4 ≡ 3 → r.bytes ≡ set s.bytes (s.count / 4 * 3 + 2) (s.pending % 4 * 64 + v)
      → Quantum h.read s.pending h.digits h.last → Begun64 (cs ++ digit64 v ∷ []) r
  unfolding base64
  fourth_digit m b (Quantum.none n t g) = absurd (omega arith)
  fourth_digit m b (Quantum.one n hx t g) = absurd (omega arith)
  fourth_digit m b (Quantum.two a n hx ha t g) = absurd (omega arith)
  fourth_digit m b (Quantum.three a a' n hx ha ha' t g) =
      let c : ℕ = s.pending % 4 * 64 + v in
      let e₃ : a' % 16 * 4 + s.pending ≡ a' % 16 * 4 + c / 64 = omega arith in
      let e₄ : v ≡ c % 64 = omega arith in
      let group : List ℕ = a ∷ a' ∷ c ∷ [] in
      record {
        form = form;
        groups = h.groups + 1;
        whole = h.whole ++ group;
        long = length-append h.whole group ∙ omega (arith, h.long);
        small = every_append h.whole group h.small (Every.more ha (Every.more ha' (Every.more (omega arith) Every.none)));
        read = 0;
        digits = [];
        last = [];
        group = Quantum.none refl refl refl;
        chars =
            chars_more (digit64 (a / 4) ∷ digit64 (a % 4 * 16 + a' / 16) ∷ digit64 (a' % 16 * 4 + s.pending) ∷ []) t
            ∙ (λ i. base64 h.whole ++ digit64 (a / 4) ∷ digit64 (a % 4 * 16 + a' / 16) ∷ digit64 (e₃ i) ∷ digit64 (e₄ i) ∷ [])
            ∙ sym (base64_on h.whole group h.groups h.long)
            ∙ sym (append-nil (base64 (h.whole ++ group)));
        count = omega arith;
        more = omega arith;
        bytes =
            bytes_more (a ∷ a' ∷ []) (s.count / 4 * 3 + 2) c g (omega (arith, h.long)) (omega arith) b
            ∙ ap zero_filled (sym (append-nil (h.whole ++ group)));
      }

-- ---- a whole group of digits

-- the four digits of a group, one after the other: three bytes more
pub whole_quantum : (n p a b c d : ℕ) (o cs : List ℕ) → (a < 64) × (b < 64) × (c < 64) × (d < 64) → n % 4 ≡ 0 → n < 44 → Begun64 cs (state_of Base64 n p o)
    → Begun64 (cs ++ digit64 a ∷ digit64 b ∷ digit64 c ∷ digit64 d ∷ [])
    (state_of Base64 (n + 4) p (set (set (set o (n / 4 * 3) (a * 4 + b / 16)) (n / 4 * 3 + 1) (b % 16 * 16 + c / 4)) (n / 4 * 3 + 2) (c % 4 * 64 + d)))
whole_quantum n p a b c d o cs (ha, hb, hc, hd) m near h =
    let o₂ : List ℕ = set o (n / 4 * 3) (a * 4 + b / 16) in
    let o₃ : List ℕ = set o₂ (n / 4 * 3 + 1) (b % 16 * 16 + c / 4) in
    let o₄ : List ℕ = set o₃ (n / 4 * 3 + 2) (c % 4 * 64 + d) in
    let s₁ : DhcidWords = state_of Base64 (n + 1) a o in
    let s₂ : DhcidWords = state_of Base64 (n + 2) (b % 16) o₂ in
    let s₃ : DhcidWords = state_of Base64 (n + 3) (c % 4) o₃ in
    let at₂ : n / 4 * 3 ≡ (n + 1) / 4 * 3 = omega arith in
    let at₃ : n / 4 * 3 + 1 ≡ (n + 2) / 4 * 3 + 1 = omega arith in
    let at₄ : n / 4 * 3 + 2 ≡ (n + 3) / 4 * 3 + 2 = omega arith in
    let x₂ : a * 4 + b / 16 ≡ a % 64 * 4 + b / 16 = omega arith in
    let x₃ : b % 16 * 16 + c / 4 ≡ b % 16 % 16 * 16 + c / 4 = omega arith in
    let x₄ : c % 4 * 64 + d ≡ c % 4 % 4 * 64 + d = omega arith in
    let cs₁ : List ℕ = cs ++ digit64 a ∷ [] in
    let cs₂ : List ℕ = cs₁ ++ digit64 b ∷ [] in
    let cs₃ : List ℕ = cs₂ ++ digit64 c ∷ [] in
    let h₁ : Begun64 cs₁ s₁ = first_digit (state_of Base64 n p o) s₁ a ha (omega arith) cs h refl refl m refl refl h.group in
    let h₂ : Begun64 cs₂ s₂ = second_digit s₁ s₂ b hb (omega arith) cs₁ h₁ refl (omega arith) (omega arith) refl (ap₂ (set o) at₂ x₂) h₁.group in
    let h₃ : Begun64 cs₃ s₃ = third_digit s₂ s₃ c hc (omega arith) cs₂ h₂ refl (omega arith) (omega arith) refl (ap₂ (set o₂) at₃ x₃) h₂.group in
    subst (λ (l : List ℕ). Begun64 l (state_of Base64 (n + 4) p o₄))
    (append_snoc cs₂ (digit64 c) (digit64 d ∷ []) ∙ append_snoc cs₁ (digit64 b) (digit64 c ∷ digit64 d ∷ []) ∙ append_snoc cs (digit64 a) (digit64 b ∷ digit64 c ∷ digit64 d ∷ []))
    (fourth_digit s₃ (state_of Base64 (n + 4) p o₄) d hd (omega arith) cs₃ h₃ refl (omega arith) (omega arith) (ap₂ (set o₃) at₄ x₄) h₃.group)

-- of the characters before them, base64 was begun, or is refused already
quantum_text : (cs four : List ℕ) (f : Form) (n n' p : ℕ) (o o' : List ℕ) → n < 44 → (Begun64 cs (state_of Base64 n p o) → Begun64 (cs ++ four) (state_of Base64 n' p o'))
    → Text64 cs (state_of f n p o) → Text64 (cs ++ four) (state_of f n' p o')
quantum_text cs four f n n' p o o' near step (Text64.begun h) =
    subst (λ (g : Form). Text64 (cs ++ four) (state_of g n' p o')) (sym h.form) (Text64.begun (step (subst (λ (g : Form). Begun64 cs (state_of g n p o)) h.form h)))
quantum_text cs four f n n' p o o' near step (Text64.done h) = absurd (omega (arith, h.count))
quantum_text cs four f n n' p o o' near step (Text64.refused h) =
    Text64.refused (record { form = h.form; none = λ ds bs small long e. h.none (four ++ ds) bs small long (sym (append_assoc cs four ds) ∙ e) })

-- a word of which no character is passed
pub none_passed : (w : List ℕ) (f : Form) (n p : ℕ) (o cs : List ℕ) → Text64 cs (state_of f n p o) → Text64 (cs ++ take 0 w) (state_of f (n + 0) p o)
none_passed w f n p o cs h =
    let e : n ≡ n + 0 = omega arith in
    subst (λ (k : ℕ). Text64 (cs ++ take 0 w) (state_of f k p o)) e (subst (λ (l : List ℕ). Text64 l (state_of f n p o)) (sym (append-nil cs)) h)

-- a word of which i characters were passed, and one group more
pub quantum_passed : (w : List ℕ) (n i : ℕ) (o o' t : List ℕ) → n + i < 44 → t ≡ take 4 (drop i w)
    → ((cs : List ℕ) (p : ℕ) → Begun64 cs (state_of Base64 (n + i) p o) → Begun64 (cs ++ t) (state_of Base64 (n + i + 4) p o'))
    → (f : Form) (p : ℕ) (cs : List ℕ) → Text64 (cs ++ take i w) (state_of f (n + i) p o) → Text64 (cs ++ take (i + 4) w) (state_of f (n + (i + 4)) p o')
quantum_passed w n i o o' t near same step f p cs h =
    let after : n + i + 4 ≡ n + (i + 4) = omega arith in
    let text : cs ++ take i w ++ t ≡ cs ++ take (i + 4) w =
    append_assoc cs (take i w) t ∙ ap (λ (l : List ℕ). cs ++ l) (ap (λ (l : List ℕ). take i w ++ l) same ∙ sym (take-add i 4 w)) in
    subst (λ (k : ℕ). Text64 (cs ++ take (i + 4) w) (state_of f k p o')) after
    (subst (λ (l : List ℕ). Text64 l (state_of f (n + i + 4) p o')) text (quantum_text (cs ++ take i w) t f (n + i) (n + i + 4) p o o' near (step (cs ++ take i w) p) h))

-- the group g of four characters is what comes next in a word of which i were passed
module _ (w : List ℕ) (i : ℕ) (g rest : List ℕ) (next : drop i w ≡ g ++ rest) (long : length g ≡ 4) where
  pub group_next : take 4 (drop i w) ≡ g
  group_next = ap (take 4) next ∙ take_at g rest 4 long

  pub group_passed : drop (i + 4) w ≡ rest
  group_passed = sym (drop-drop 4 i w) ∙ ap (drop 4) next ∙ drop_at g rest 4 long

  pub group_within : i + 4 ≤ length w
  group_within = omega (arith, ap length next, length-drop i w, length-append g rest)

  pub digits_passed : Every (λ x. value64 x < 64) g → Every (λ x. value64 x < 64) (take i w) → Every (λ x. value64 x < 64) (take (i + 4) w)
  digits_passed here before =
      subst (Every (λ x. value64 x < 64)) (sym (take-add i 4 w ∙ ap (λ (l : List ℕ). take i w ++ l) group_next)) (every_append (take i w) g before here)

all_four : {x y z v : ℕ} → Every (λ c. value64 c < 64) (x ∷ y ∷ z ∷ v ∷ []) → (value64 x < 64) × (value64 y < 64) × (value64 z < 64) × (value64 v < 64)
all_four (Every.more hx (Every.more hy (Every.more hz (Every.more hv Every.none)))) = (hx, hy, hz, hv)

-- the values of a group's four characters
module _ (g : List ℕ) {a b c d : ℕ} (long : length g ≡ 4)
    (ea : a ≡ value64 (get_or g 0 0)) (eb : b ≡ value64 (get_or g 1 0)) (ec : c ≡ value64 (get_or g 2 0)) (ed : d ≡ value64 (get_or g 3 0)) where
  four : g ≡ get_or g 0 0 ∷ get_or g 1 0 ∷ get_or g 2 0 ∷ get_or g 3 0 ∷ []
  four = text_from_reads g _ long (refl, (refl, (refl, (refl, tt))))

  pub no_quantum : ((a < 64) × (b < 64) × (c < 64) × (d < 64) → ⊥) → Every (λ x. value64 x < 64) g → ⊥
  no_quantum other h =
      let s = all_four (subst (Every (λ x. value64 x < 64)) four h) in
      other (omega (arith, s.0), omega (arith, s.1), omega (arith, s.2), omega (arith, s.3))

  module _ (h : (a < 64) × (b < 64) × (c < 64) × (d < 64)) where
    pub quantum_digits : digit64 a ∷ digit64 b ∷ digit64 c ∷ digit64 d ∷ [] ≡ g
    quantum_digits =
        (λ i. digit64 (ea i) ∷ digit64 (eb i) ∷ digit64 (ec i) ∷ digit64 (ed i) ∷ [])
        ∙ (λ i.
        digit_value_lem (get_or g 0 0) (omega (arith, h.0)) i
        ∷ digit_value_lem (get_or g 1 0) (omega (arith, h.1)) i
        ∷ digit_value_lem (get_or g 2 0) (omega (arith, h.2)) i
        ∷ digit_value_lem (get_or g 3 0) (omega (arith, h.3)) i
        ∷ [])
        ∙ sym four

    pub group_digits : Every (λ x. value64 x < 64) g
    group_digits =
        subst (Every (λ x. value64 x < 64)) (sym four)
        (Every.more (omega (arith, h.0)) (Every.more (omega (arith, h.1)) (Every.more (omega (arith, h.2)) (Every.more (omega (arith, h.3)) Every.none))))

-- ---- what 35 bytes' base64 tells of a character

length_group : {n x : ℕ} {t g : List ℕ} → Quantum n x t g → length t ≡ n
length_group (Quantum.none n t g) = ap length t ∙ sym n
length_group (Quantum.one n hx t g) = ap length t ∙ sym n
length_group (Quantum.two a n hx ha t g) = ap length t ∙ sym n
length_group (Quantum.three a b n hx ha hb t g) = ap length t ∙ sym n

pub length_begun : (cs : List ℕ) (s : DhcidWords) → Begun64 cs s → length cs ≡ s.count
length_begun cs s h =
    ap length h.chars ∙ length-append (base64 h.whole) h.digits
    ∙ omega (arith, length_whole h.whole h.groups h.long, length_group h.group, h.count)

module _ (bs : List ℕ) (small : Every (λ b. b < 256) bs) (long : length bs ≡ 35) where
  text_shape : Shape 11 (base64 bs)
  text_shape = shape bs 11 small (omega arith)

  module _ (cs ds : List ℕ) (c : ℕ) (e : cs ++ c ∷ [] ++ ds ≡ base64 bs) where
    character : c ≡ get_or (text_shape.front ++ digit64 (text_shape.bits % 16 * 4) ∷ 61 ∷ []) (length cs) 0
    character =
        sym (get_or-append_seam cs c ds 0)
        ∙ ap (λ (l : List ℕ). get_or l (length cs) 0) (sym (append_snoc cs c ds) ∙ e ∙ text_shape.form)

    third_last : length cs ≡ 46 → c ≡ digit64 (text_shape.bits % 16 * 4)
    third_last n = character ∙ get_or_at text_shape.front (digit64 (text_shape.bits % 16 * 4)) (61 ∷ []) 0 (length cs) (text_shape.long ∙ sym n)

    pub next_digit : length cs < 47 → value64 c < 64
    next_digit lt =
        by_ltb (length cs) 46
        (λ l.
        let within : length cs < length text_shape.front = omega (arith, text_shape.long) in
        let same : c ≡ get_or text_shape.front (length cs) 0 = character ∙ get_or-append text_shape.front (digit64 (text_shape.bits % 16 * 4) ∷ 61 ∷ []) 0 (length cs) within in
        subst (λ (x : ℕ). value64 x < 64) (sym same) (every_at text_shape.front text_shape.digits (length cs) within))
        (λ l.
        let v : ℕ = text_shape.bits % 16 * 4 in
        omega (arith, ap value64 (third_last (omega arith)), value_digit v (omega arith)))

    pub next_pad : length cs ≡ 47 → c ≡ 61
    next_pad n =
        let at : length cs ≡ length text_shape.front + 1 = omega (arith, text_shape.long) in
        character
        ∙ ap (λ (k : ℕ). get_or (text_shape.front ++ digit64 (text_shape.bits % 16 * 4) ∷ 61 ∷ []) k 0) at
        ∙ get_or-append-add text_shape.front (digit64 (text_shape.bits % 16 * 4) ∷ 61 ∷ []) 1 0

    pub no_next : 48 ≤ length cs → ⊥
    no_next n = omega (arith, ap length e, length-append (cs ++ c ∷ []) ds, length-append cs (c ∷ []), length_base64 bs long)

    -- the third digit of the last group leaves two bits, which are zero
    pub no_spare_bits : (b x : ℕ) → x < 4 → length cs ≡ 46 → c ≡ digit64 (b % 16 * 4 + x) → x ≡ 0
    no_spare_bits b x hx n same =
        let v : ℕ = text_shape.bits % 16 * 4 in
        omega (arith, same_digit (b % 16 * 4 + x) v (omega arith) (omega arith) (sym same ∙ third_last n))

-- ---- one character of base64

module _ (cs : List ℕ) (b : ℕ) (s : DhcidWords) where
  refused_stays : Refused64 cs s → Refused64 (cs ++ b ∷ []) s
  refused_stays h = record { form = h.form; none = λ ds bs small long e. h.none (b ∷ ds) bs small long (sym (append_snoc cs b ds) ∙ e) }

  pub other_form : (s.form ≡ Base64 → ⊥) → Text64 cs s → Text64 (cs ++ b ∷ []) s
  other_form other (Text64.begun h) = absurd (other h.form)
  other_form other (Text64.done h) = absurd (other h.form)
  other_form other (Text64.refused h) = Text64.refused (refused_stays h)

  pub at_last : (r : DhcidWords) → s.form ≡ Base64 → s.count ≡ 47 → (Begun64 cs s → Text64 (cs ++ b ∷ []) r) → Text64 cs s → Text64 (cs ++ b ∷ []) r
  at_last r f n step (Text64.begun h) = step h
  at_last r f n step (Text64.done h) = absurd (omega (arith, h.count))
  at_last r f n step (Text64.refused h) = cc

  module _ (r : DhcidWords) (over : r.form ≡ Refused) (f : s.form ≡ Base64) where
    refuse : ((ds bs : List ℕ) → Every (λ x. x < 256) bs → length bs ≡ 35 → cs ++ b ∷ [] ++ ds ≡ base64 bs → ⊥) → Text64 (cs ++ b ∷ []) r
    refuse none = Text64.refused (record { form = over; none = none })

    pub too_many : 47 < s.count → Text64 cs s → Text64 (cs ++ b ∷ []) r
    too_many n (Text64.begun h) = absurd (omega (arith, h.more))
    too_many n (Text64.done h) =
        refuse
        (λ ds bs small long e. no_next bs small long cs ds b e (omega (arith, ap length h.chars, length_base64 s.bytes h.long)))
    too_many n (Text64.refused h) = cc

    pub no_digit : (s.count ≡ 47 → ⊥) → s.count ≤ 47 → 63 < value64 b → Text64 cs s → Text64 (cs ++ b ∷ []) r
    no_digit other n v (Text64.begun h) =
        refuse (λ ds bs small long e. omega (arith, next_digit bs small long cs ds b e (omega (arith, length_begun cs s h))))
    no_digit other n v (Text64.done h) = absurd (omega (arith, h.count))
    no_digit other n v (Text64.refused h) = cc

    pub no_pad : s.count ≡ 47 → (b ≡ 61 → ⊥) → Begun64 cs s → Text64 (cs ++ b ∷ []) r
    no_pad n other h = refuse (λ ds bs small long e. other (next_pad bs small long cs ds b e (length_begun cs s h ∙ n)))

    spare : (ds bs : List ℕ) → Every (λ x. x < 256) bs → length bs ≡ 35 → cs ++ ds ≡ base64 bs → (h : Begun64 cs s) → s.count ≡ 47 → (s.pending ≡ 0 → ⊥)
        → Quantum h.read s.pending h.digits h.last → ⊥
    spare ds bs small long e h n set (Quantum.none r t g) = omega (arith, h.count)
    spare ds bs small long e h n set (Quantum.one r hx t g) = omega (arith, h.count)
    spare ds bs small long e h n set (Quantum.two a r hx ha t g) = omega (arith, h.count)
    spare ds bs small long e h n set (Quantum.three a a' r hx ha ha' t g) =
        let two : List ℕ = digit64 (a / 4) ∷ digit64 (a % 4 * 16 + a' / 16) ∷ [] in
        let third : ℕ = digit64 (a' % 16 * 4 + s.pending) in
        let front : List ℕ = base64 h.whole ++ two in
        let same : front ++ third ∷ [] ≡ cs =
        append_assoc (base64 h.whole) two (third ∷ []) ∙ sym (h.chars ∙ ap (λ (l : List ℕ). base64 h.whole ++ l) t) in
        let at : length front ≡ 46 = length-append (base64 h.whole) two ∙ omega (arith, length_whole h.whole h.groups h.long, h.count) in
        set (no_spare_bits bs small long front ds third (ap (λ (l : List ℕ). l ++ ds) same ∙ e) a' s.pending hx at refl)

    pub spare_bits : s.count ≡ 47 → (s.pending ≡ 0 → ⊥) → Begun64 cs s → Text64 (cs ++ b ∷ []) r
    spare_bits n set h = refuse (λ ds bs small long e. spare (b ∷ ds) bs small long (sym (append_snoc cs b ds) ∙ e) h n set h.group)

  pub another_digit : (r : DhcidWords) (v : ℕ) → s.form ≡ Base64 → s.count < 47 → v ≡ value64 b → v < 64
      → (Begun64 cs s → Begun64 (cs ++ digit64 v ∷ []) r) → Text64 cs s → Text64 (cs ++ b ∷ []) r
  another_digit r v f n e hv step (Text64.begun h) =
      let same : digit64 v ≡ b = ap digit64 e ∙ digit_value_lem b (omega arith) in
      Text64.begun (subst (λ (x : ℕ). Begun64 (cs ++ x ∷ []) r) same (step h))
  another_digit r v f n e hv step (Text64.done h) = absurd (omega (arith, h.count))
  another_digit r v f n e hv step (Text64.refused h) = cc

-- ---- the last character

module _ (cs : List ℕ) (b : ℕ) (s r : DhcidWords) (h : Begun64 cs s) (n : s.count ≡ 47) (pad : b ≡ 61) (none : s.pending ≡ 0) (form : r.form ≡ Base64) (count : r.count ≡ 48) (bytes : r.bytes ≡ s.bytes) where
  finished : Quantum h.read s.pending h.digits h.last → Done64 (cs ++ b ∷ []) r
  unfolding base64
  finished (Quantum.none r t g) = absurd (omega (arith, h.count))
  finished (Quantum.one r hx t g) = absurd (omega (arith, h.count))
  finished (Quantum.two a r hx ha t g) = absurd (omega (arith, h.count))
  finished (Quantum.three a a' r₃ hx ha ha' t g) =
      let out : List ℕ = h.whole ++ a ∷ a' ∷ [] in
      let long : length out ≡ 35 = length-append h.whole (a ∷ a' ∷ []) ∙ omega (arith, h.long, h.count) in
      let all : r.bytes ≡ out = bytes ∙ h.bytes ∙ ap (λ (l : List ℕ). zero_filled (h.whole ++ l)) g ∙ all_stored out long in
      let third : a' % 16 * 4 + s.pending ≡ a' % 16 * 4 = omega arith in
      let two : List ℕ = digit64 (a / 4) ∷ digit64 (a % 4 * 16 + a' / 16) ∷ [] in
      record {
        form = form;
        count = count;
        long = ap length all ∙ long;
        small = subst (Every (λ x. x < 256)) (sym all) (every_append h.whole (a ∷ a' ∷ []) h.small (Every.more ha (Every.more ha' Every.none)));
        chars =
            ap (λ (l : List ℕ). l ++ b ∷ []) (h.chars ∙ ap (λ (l : List ℕ). base64 h.whole ++ l) t)
            ∙ append_assoc (base64 h.whole) (two ++ digit64 (a' % 16 * 4 + s.pending) ∷ []) (b ∷ [])
            ∙ (λ i. base64 h.whole ++ digit64 (a / 4) ∷ digit64 (a % 4 * 16 + a' / 16) ∷ digit64 (third i) ∷ pad i ∷ [])
            ∙ sym (base64_on h.whole (a ∷ a' ∷ []) h.groups h.long)
            ∙ ap base64 (sym all);
      }

  pub last_pad : Text64 (cs ++ b ∷ []) r
  last_pad = Text64.done (finished h.group)

-- ---- the characters of a word, one after the other

pub one_character_more : (cs w : List ℕ) (i : ℕ) {s : DhcidWords} → i < length w → Text64 (cs ++ take i w ++ get_or w i 0 ∷ []) s → Text64 (cs ++ take (i + 1) w) s
one_character_more cs w i {s} lt t = subst (λ (l : List ℕ). Text64 l s) (take_one cs w i lt) t
