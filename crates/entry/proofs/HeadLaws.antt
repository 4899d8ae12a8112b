-- The type of a record, by the letters of a word; and the head of an entry, by its first word. Assumes nothing.
use Prim.Native.Nat.{ℕ, ◌-◌, ◌≤◌}
use mathlib.Core.Bool.{Bool, true, false, true≢false, ◌&&◌}
use mathlib.Core.Path.{◌≡◌, refl, sym, ap, subst, ◌∙◌}
use mathlib.Core.List.{List, [], ◌∷◌}
use mathlib.Core.Option.{Option, none, some}
use native.Mathlib.Omega.{arith}
use lib.Dec.{eqb}
use lib.ListN.{length, take, drop, get_or, length-map}
use lib.Seq.{ext_get_or}
use Rattle.base.specs.Bytes.{ascii, eq_bytes, tabulate}
use Rattle.base.specs.Logic.{Decides}
use Rattle.base.proofs.Fill.{length_tabulate, get_d_tabulate}
use Rattle.base.proofs.Tests.{no_by, eq_bytes_true, eq_eq_bytes}
use Rattle.name.specs.Label.{is_upper, lower}
use Rattle.name.specs.Name.{canonical}
use Rattle.grammar.specs.Listing.{RecordType, mnemonic, EitherCase}
use Rattle.grammar.proofs.Deciding.{none_found}
use Rattle.grammar.specs.Content.{Headed, type_of, typed, head_of}
use Rattle.grammar.proofs.ContentLaws.{type_reads, head_class, head_type}
use Rattle.words.specs.NextIs.{WordAt}
use Rattle.entry.specs.Parts.{type_number_if, words_at, HeadAt}
use Rattle.entry.specs.declared.head.Head.{Head}
use Rattle.entry.proofs.NextLaws.{word_words, word_ends}

-- ---- a short word, byte by byte

-- a word of another length is not the one looked for
pub other_length : (w v : List ℕ) → (length w ≡ length v → ⊥) → Decides false (canonical w ≡ v)
unfolding canonical
other_length w v other = no_by (λ e. other (sym (length-map w lower) ∙ ap length e))

spells : (w v : List ℕ) (b : Bool) → b ≡ eq_bytes (canonical w) v → Decides b (canonical w ≡ v)
spells w v b e = record { if_true = λ t. eq_bytes_true (canonical w) v (sym e ∙ t); if_false = λ f same. true≢false (sym (eq_eq_bytes (canonical w) v same) ∙ sym e ∙ f) }

-- a list of n bytes is that of what stands at each index
apart : (w : List ℕ) (n : ℕ) → length w ≡ n → w ≡ tabulate (λ i. get_or w i 0) n
apart w n e =
    ext_get_or 0 w (tabulate (λ i. get_or w i 0) n) (e ∙ sym (length_tabulate (λ i. get_or w i 0) n))
    (λ i lt. sym (get_d_tabulate (λ k. get_or w k 0) n i (omega arith)))

by_letters : (w v : List ℕ) (n : ℕ) (b : Bool) → length w ≡ n → b ≡ eq_bytes (canonical (tabulate (λ i. get_or w i 0) n)) v → Decides b (canonical w ≡ v)
by_letters w v n b e is = subst (λ (l : List ℕ). Decides b (canonical l ≡ v)) (sym (apart w n e)) (spells (tabulate (λ i. get_or w i 0) n) v b is)

abbrev letter : List ℕ → ℕ → ℕ → Bool
letter w i b = eqb (lower (get_or w i 0)) b

grouped : (a b c d e : Bool) → (a && b && c && d && e) ≡ (a && (b && (c && (d && (e && true)))))
grouped false b c d e = refl
grouped true false c d e = refl
grouped true true false d e = refl
grouped true true true false e = refl
grouped true true true true false = refl
grouped true true true true true = refl

pub one_letter : (w : List ℕ) (x0 a : ℕ) → length w ≡ 1 → x0 ≡ lower (get_or w 0 0)
    → Decides (eqb x0 a) (canonical w ≡ a ∷ [])
unfolding tabulate canonical eq_bytes
one_letter w x0 a long e0 = by_letters w (a ∷ []) 1 (eqb x0 a) long ((λ k. eqb (e0 k) a) ∙ grouped true true true true (letter w 0 a))

pub two_letters : (w : List ℕ) (x0 x1 a b : ℕ) → length w ≡ 2 → x0 ≡ lower (get_or w 0 0) → x1 ≡ lower (get_or w 1 0)
    → Decides (eqb x0 a && eqb x1 b) (canonical w ≡ a ∷ b ∷ [])
unfolding tabulate canonical eq_bytes
two_letters w x0 x1 a b long e0 e1 = by_letters w (a ∷ b ∷ []) 2 (eqb x0 a && eqb x1 b) long ((λ k. eqb (e0 k) a && eqb (e1 k) b) ∙ grouped true true true (letter w 0 a) (letter w 1 b))

pub four_letters : (w : List ℕ) (x0 x1 x2 x3 a b c d : ℕ) → length w ≡ 4 → x0 ≡ lower (get_or w 0 0) → x1 ≡ lower (get_or w 1 0) → x2 ≡ lower (get_or w 2 0) → x3 ≡ lower (get_or w 3 0)
    → Decides (eqb x0 a && eqb x1 b && eqb x2 c && eqb x3 d) (canonical w ≡ a ∷ b ∷ c ∷ d ∷ [])
unfolding tabulate canonical eq_bytes
four_letters w x0 x1 x2 x3 a b c d long e0 e1 e2 e3 = by_letters w (a ∷ b ∷ c ∷ d ∷ []) 4 (eqb x0 a && eqb x1 b && eqb x2 c && eqb x3 d) long ((λ k. eqb (e0 k) a && eqb (e1 k) b && eqb (e2 k) c && eqb (e3 k) d) ∙ grouped true (letter w 0 a) (letter w 1 b) (letter w 2 c) (letter w 3 d))

pub five_letters : (w : List ℕ) (x0 x1 x2 x3 x4 a b c d e : ℕ) → length w ≡ 5 → x0 ≡ lower (get_or w 0 0) → x1 ≡ lower (get_or w 1 0) → x2 ≡ lower (get_or w 2 0) → x3 ≡ lower (get_or w 3 0) → x4 ≡ lower (get_or w 4 0)
    → Decides (eqb x0 a && eqb x1 b && eqb x2 c && eqb x3 d && eqb x4 e) (canonical w ≡ a ∷ b ∷ c ∷ d ∷ e ∷ [])
unfolding tabulate canonical eq_bytes
five_letters w x0 x1 x2 x3 x4 a b c d e long e0 e1 e2 e3 e4 = by_letters w (a ∷ b ∷ c ∷ d ∷ e ∷ []) 5 (eqb x0 a && eqb x1 b && eqb x2 c && eqb x3 d && eqb x4 e) long ((λ k. eqb (e0 k) a && eqb (e1 k) b && eqb (e2 k) c && eqb (e3 k) d && eqb (e4 k) e) ∙ grouped (letter w 0 a) (letter w 1 b) (letter w 2 c) (letter w 3 d) (letter w 4 e))

-- ---- a word that is a type, the class, or neither

-- the types in lower case
abbrev lower_case : RecordType → List ℕ
lower_case RecordType.A = 97 ∷ []
lower_case RecordType.AAAA = 97 ∷ 97 ∷ 97 ∷ 97 ∷ []
lower_case RecordType.DHCID = 100 ∷ 104 ∷ 99 ∷ 105 ∷ 100 ∷ []

named : (w : List ℕ) (k : RecordType) → canonical w ≡ lower_case k → EitherCase w (mnemonic k)
unfolding canonical EitherCase mnemonic ascii lower is_upper
named w RecordType.A e = e
named w RecordType.AAAA e = e
named w RecordType.DHCID e = e

names : (w : List ℕ) (k : RecordType) → EitherCase w (mnemonic k) → canonical w ≡ lower_case k
unfolding canonical EitherCase mnemonic ascii lower is_upper
names w RecordType.A e = e
names w RecordType.AAAA e = e
names w RecordType.DHCID e = e

pub type_is : (w : List ℕ) (k : RecordType) → canonical w ≡ lower_case k → type_of w ≡ some k
type_is w k e = type_reads.finds w k (named w k e)

pub type_none : (w : List ℕ) → (canonical w ≡ lower_case RecordType.A → ⊥) → (canonical w ≡ lower_case RecordType.AAAA → ⊥)
    → (canonical w ≡ lower_case RecordType.DHCID → ⊥) → type_of w ≡ none
type_none w a aaaa dhcid = none_found type_reads w never
  where
    never : (k : RecordType) → EitherCase w (mnemonic k) → ⊥
    never RecordType.A e = a (names w RecordType.A e)
    never RecordType.AAAA e = aaaa (names w RecordType.AAAA e)
    never RecordType.DHCID e = dhcid (names w RecordType.DHCID e)

class_is : (w : List ℕ) (ws : List (List ℕ)) → canonical w ≡ 105 ∷ 110 ∷ [] → head_of (w ∷ ws) ≡ typed ws
unfolding canonical EitherCase ascii lower is_upper
class_is w ws e = head_class w ws e

class_not : (w : List ℕ) (ws : List (List ℕ)) → (canonical w ≡ 105 ∷ 110 ∷ [] → ⊥) → head_of (w ∷ ws) ≡ typed (w ∷ ws)
unfolding canonical EitherCase ascii lower is_upper
class_not w ws never = head_type w ws never

pub none_headed : head_of [] ≡ none
unfolding head_of
none_headed = refl

-- ---- the head, by the first word

module _ (t : List ℕ) (at : ℕ) (d : Bool) where
  -- no word: no type
  pub head_none : (head : List (List ℕ) → Option Headed) → head [] ≡ none → at ≤ length t → words_at t at d ≡ [] → HeadAt head t at d (record { rtype = 0; at = at; inside = d })
  head_none head e fits empty = record { from = omega arith; within = fits; ends = refl; type = none; is = refl; found = ap head empty ∙ e }

  module _ {start end : ℕ} {d' : Bool} (w : WordAt t at d start end d') where
    abbrev word : List ℕ
    word = take (end - start) (drop start t)

    -- the word is the type, or no type
    pub head_word : (head : List (List ℕ) → Option Headed) (r : ℕ) → head (word ∷ words_at t end d') ≡ typed (word ∷ words_at t end d') → r ≡ type_number_if (type_of word)
        → HeadAt head t at d (record { rtype = r; at = end; inside = d' })
    head_word head r e is =
        record { from = omega (arith, w.from, w.some); within = w.within; ends = word_ends t at d w; type = type_of word; is = is; found = ap head (word_words t at d w) ∙ e }

    pub head_no_class : (r : ℕ) → (canonical word ≡ 105 ∷ 110 ∷ [] → ⊥) → r ≡ type_number_if (type_of word) → HeadAt head_of t at d (record { rtype = r; at = end; inside = d' })
    head_no_class r never is = head_word head_of r (class_not word (words_at t end d') never) is

    -- the word is the class, and the type follows
    pub head_after_class : (r : Head) → canonical word ≡ 105 ∷ 110 ∷ [] → HeadAt typed t end d' r → HeadAt head_of t at d r
    head_after_class r e h =
        record {
          from = omega (arith, w.from, w.some, h.from);
          within = h.within;
          ends = word_ends t at d w ∙ h.ends;
          type = h.type;
          is = h.is;
          found = ap head_of (word_words t at d w) ∙ class_is word (words_at t end d') e ∙ h.found;
        }
