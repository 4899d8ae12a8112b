-- The functions of specs/Content.antt find just what the definitions say of an entry's words. Assumes nothing.
use Prim.Native.Nat.{ℕ}
use mathlib.Core.Bool.{Bool, true, false, cond}
use mathlib.Core.Path.{◌≡◌, refl, ap, subst, ◌∙◌}
use mathlib.Core.List.{List, [], ◌∷◌, ◌++◌, map}
use mathlib.Core.Option.{Option, none, some, none-ne-some, some-injective}
use native.Mathlib.Omega.{arith}
use Rattle.base.proofs.Tests.{eq_bytes_true, eq_eq_bytes}
use Rattle.base.specs.Bytes.{ascii, eq_bytes}
use Rattle.base.specs.Logic.{Every}
use Rattle.base.specs.Refusal.{entry_owner, entry_type, entry_data}
use Rattle.base.proofs.Lists.{every_middle}
use Rattle.name.specs.Label.{is_upper, lower}
use Rattle.grammar.specs.Listing.{is_word_byte, begins, outside, Words, RecordType, mnemonic, ResourceRecord, EitherCase, Owner, Between, Head, Rdata, RecordEntry}
use Rattle.grammar.specs.Faults.{WordFault}
use Rattle.grammar.proofs.Deciding.{Reads, not_found}
use Rattle.grammar.proofs.ScanLaws.{one_words}
use Rattle.grammar.specs.OwnerReader.{owner_of}
use Rattle.grammar.proofs.OwnerReaderLaws.{owner_reads}
use Rattle.grammar.proofs.AddressReaderLaws.{a_reads, aaaa_reads}
use Rattle.grammar.proofs.DhcidReaderLaws.{dhcid_reads}
use Rattle.grammar.specs.Content.{Content, nothing, one, fault, is_word, type_of, Headed, with_rest, typed, head_of, rdata_of, by_rdata, by_head, by_owner, content_of}

-- ---- the type, and what may stand before it

word_is : (v w : List ℕ) → is_word v w ≡ true → EitherCase w v
unfolding is_word EitherCase
word_is v w e = eq_bytes_true (map lower w) (map lower v) e

is_word_lem : (v w : List ℕ) → EitherCase w v → is_word v w ≡ true
unfolding is_word EitherCase
is_word_lem v w e = eq_eq_bytes (map lower w) (map lower v) e

type_finds : (w : List ℕ) (k : RecordType) → EitherCase w (mnemonic k) → type_of w ≡ some k
unfolding type_of is_word EitherCase mnemonic ascii lower is_upper eq_bytes
type_finds w RecordType.A e = rw e
type_finds w RecordType.AAAA e = rw e
type_finds w RecordType.DHCID e = rw e

type_is : (w : List ℕ) (k : RecordType) → type_of w ≡ some k → EitherCase w (mnemonic k)
unfolding type_of
type_is w k e =
    go (is_word (mnemonic RecordType.A) w) refl (is_word (mnemonic RecordType.AAAA) w) refl (is_word (mnemonic RecordType.DHCID) w) refl e
  where
    at : (j : RecordType) → is_word (mnemonic j) w ≡ true → some j ≡ some k → EitherCase w (mnemonic k)
    at j h q = subst (λ (i : RecordType). EitherCase w (mnemonic i)) (some-injective j k q) (word_is (mnemonic j) w h)

    go : (a : Bool) → is_word (mnemonic RecordType.A) w ≡ a → (b : Bool) → is_word (mnemonic RecordType.AAAA) w ≡ b → (c : Bool) → is_word (mnemonic RecordType.DHCID) w ≡ c
        → cond a (some RecordType.A) (cond b (some RecordType.AAAA) (cond c (some RecordType.DHCID) none)) ≡ some k → EitherCase w (mnemonic k)
    go true ha b hb c hc q = at RecordType.A ha q
    go false ha true hb c hc q = at RecordType.AAAA hb q
    go false ha false hb true hc q = at RecordType.DHCID hc q
    go false ha false hb false hc q = absurd (none-ne-some k q)

-- no type is the class IN
type_no_class : (w : List ℕ) (k : RecordType) → EitherCase w (mnemonic k) → is_word (ascii "IN") w ≡ false
unfolding is_word EitherCase mnemonic ascii lower is_upper eq_bytes
type_no_class w RecordType.A e = rw e
type_no_class w RecordType.AAAA e = rw e
type_no_class w RecordType.DHCID e = rw e

pub type_reads : Reads type_of (λ w k. EitherCase w (mnemonic k))
type_reads = record { finds = type_finds; is = type_is }

-- the words after an owner that begin with IN, and that do not
pub head_class : (w : List ℕ) (ws : List (List ℕ)) → EitherCase w (ascii "IN") → head_of (w ∷ ws) ≡ typed ws
unfolding head_of
head_class w ws e = rw (is_word_lem (ascii "IN") w e)

pub head_type : (w : List ℕ) (ws : List (List ℕ)) → (EitherCase w (ascii "IN") → ⊥) → head_of (w ∷ ws) ≡ typed (w ∷ ws)
unfolding head_of
head_type w ws never = go (is_word (ascii "IN") w) refl
  where
    go : (b : Bool) → is_word (ascii "IN") w ≡ b → typed (cond b ws (w ∷ ws)) ≡ typed (w ∷ ws)
    go true e = absurd (never (word_is (ascii "IN") w e))
    go false e = refl

abbrev HeadIs : List (List ℕ) → Headed → Type 0
HeadIs ws h = Head ws h.rtype h.rest

head_by : (h : Headed) (ws between : List (List ℕ)) (type : List ℕ) → ws ≡ between ++ type ∷ h.rest → Between between → EitherCase type (mnemonic h.rtype) → head_of ws ≡ some h
unfolding head_of
head_by h ws [] type e b known = rw (e, type_no_class type h.rtype known, type_finds type h.rtype known)
head_by h ws (c ∷ []) type e b known = rw (e, is_word_lem (ascii "IN") c (every_middle [] [] c b.class), type_finds type h.rtype known)
head_by h ws (c ∷ c' ∷ cs) type e b known = absurd (omega (arith, b.once))

record Typed (ws : List (List ℕ)) (h : Headed) : Type 0 where
  type : List ℕ
  words : ws ≡ type ∷ h.rest
  known : EitherCase type (mnemonic h.rtype)

typed_is : (ws : List (List ℕ)) (h : Headed) → typed ws ≡ some h → Typed ws h
typed_is [] h e = absurd (none-ne-some h e)
typed_is (w ∷ ds) h e = go (type_of w) refl e
  where
    go : (r : Option RecordType) → type_of w ≡ r → with_rest ds r ≡ some h → Typed (w ∷ ds) h
    go none f q = absurd (none-ne-some h q)
    go (some k) f q =
        subst (Typed (w ∷ ds)) (some-injective (record { rtype = k; rest = ds }) h q) (record { type = w; words = refl; known = type_is w k f })

head_is : (ws : List (List ℕ)) (h : Headed) → head_of ws ≡ some h → Head ws h.rtype h.rest
unfolding head_of
head_is [] h e = absurd (none-ne-some h e)
head_is (w ∷ ws) h e = go (is_word (ascii "IN") w) refl e
  where
    go : (b : Bool) → is_word (ascii "IN") w ≡ b → typed (cond b ws (w ∷ ws)) ≡ some h → Head (w ∷ ws) h.rtype h.rest
    go true f q =
        let t = typed_is ws h q in
        record {
          between = w ∷ [];
          type = t.type;
          words = ap (λ (l : List (List ℕ)). w ∷ l) t.words;
          optional = record { class = Every.more (word_is (ascii "IN") w f) Every.none; once = omega arith };
          known = t.known;
        }
    go false f q =
        let t = typed_is (w ∷ ws) h q in
        record { between = []; type = t.type; words = t.words; optional = record { class = Every.none; once = omega arith }; known = t.known }

head_reads : Reads head_of HeadIs
head_reads = record { finds = λ ws h r. head_by h ws r.between r.type r.words r.optional r.known; is = head_is }

-- a fault of the words is that of an entry with words
pub record Worded (e : List ℕ) : Type 0 where
  pub found : List (List ℕ)
  pub words : Words outside e found

unfoldable pub fault_words : {e : List ℕ} {n : ℕ} → WordFault e n → Worded e
fault_words (WordFault.indented w first) = record { found = _; words = w }
fault_words (WordFault.no_owner w never) = record { found = _; words = w }
fault_words (WordFault.no_type w first owner never) = record { found = _; words = w }
fault_words (WordFault.no_data w first owner head never) = record { found = _; words = w }

-- the entry with the text e comes to no record, to a record, or to a fault, by the definitions
pub data Judged (e : List ℕ) : Content → Type 0 where
  no_words : Words outside e [] → Judged e nothing
  a_record : {r : ResourceRecord} → RecordEntry e r → Judged e (one r)
  a_fault : {n : ℕ} → WordFault e n → Judged e (fault n)

-- ---- the data

rdata_finds : (k : RecordType) (ds : List (List ℕ)) (bs : List ℕ) → Rdata k ds bs → rdata_of k ds ≡ some bs
unfolding rdata_of
rdata_finds k ds bs (Rdata.in_a {w} s) = a_reads.finds w bs s
rdata_finds k ds bs (Rdata.in_aaaa {w} s) = aaaa_reads.finds w bs s
rdata_finds k ds bs (Rdata.in_dhcid s) = dhcid_reads.finds ds bs s

rdata_is : (k : RecordType) (ds : List (List ℕ)) (bs : List ℕ) → rdata_of k ds ≡ some bs → Rdata k ds bs
unfolding rdata_of
rdata_is RecordType.A [] bs e = absurd (none-ne-some bs e)
rdata_is RecordType.A (w ∷ []) bs e = Rdata.in_a (a_reads.is w bs e)
rdata_is RecordType.A (w ∷ v ∷ ws) bs e = absurd (none-ne-some bs e)
rdata_is RecordType.AAAA [] bs e = absurd (none-ne-some bs e)
rdata_is RecordType.AAAA (w ∷ []) bs e = Rdata.in_aaaa (aaaa_reads.is w bs e)
rdata_is RecordType.AAAA (w ∷ v ∷ ws) bs e = absurd (none-ne-some bs e)
rdata_is RecordType.DHCID ds bs e = Rdata.in_dhcid (dhcid_reads.is ds bs e)

rdata_reads : (k : RecordType) → Reads (rdata_of k) (Rdata k)
rdata_reads k = record { finds = rdata_finds k; is = rdata_is k }

-- ---- an entry: what the definitions give, the function finds

record_content : (e : List ℕ) (r : ResourceRecord) (h : RecordEntry e r) → content_of (begins is_word_byte e) (h.owner ∷ h.after_owner) ≡ one r
unfolding content_of
record_content e r h =
    rw (
      h.first,
      owner_reads.finds h.owner r.owner h.name,
      head_reads.finds h.after_owner (record { rtype = r.rtype; rest = h.data_words }) h.head,
      (rdata_reads r.rtype).finds h.data_words r.rdata h.rdata,
    )

module _ (e o : List ℕ) (ws : List (List ℕ)) where
  no_owner_content : ((n : List ℕ) → Owner o n → ⊥) → content_of (begins is_word_byte e) (o ∷ ws) ≡ fault entry_owner
  unfolding content_of
  no_owner_content never = go (begins is_word_byte e) (owner_of o) refl
    where
      go : (b : Bool) (r : Option (List ℕ)) → owner_of o ≡ r → cond b (by_owner r (head_of ws)) (fault entry_owner) ≡ fault entry_owner
      go false r q = refl
      go true none q = refl
      go true (some n) q = absurd (never n (owner_reads.is o n q))

  module _ (n : List ℕ) (first : begins is_word_byte e ≡ true) (owner : Owner o n) where
    no_type_content : ((k : RecordType) (ds : List (List ℕ)) → Head ws k ds → ⊥) → content_of (begins is_word_byte e) (o ∷ ws) ≡ fault entry_type
    unfolding content_of
    no_type_content never = rw (first, owner_reads.finds o n owner) (go (head_of ws) refl)
      where
        go : (r : Option Headed) → head_of ws ≡ r → by_head n r ≡ fault entry_type
        go none q = refl
        go (some h) q = absurd (never h.rtype h.rest (head_is ws h q))

    no_data_content : (k : RecordType) (ds : List (List ℕ)) → Head ws k ds → ((bs : List ℕ) → Rdata k ds bs → ⊥) → content_of (begins is_word_byte e) (o ∷ ws) ≡ fault entry_data
    unfolding content_of
    no_data_content k ds head never =
        rw (first, owner_reads.finds o n owner, head_reads.finds ws (record { rtype = k; rest = ds }) head) (go (rdata_of k ds) refl)
      where
        go : (r : Option (List ℕ)) → rdata_of k ds ≡ r → by_rdata n k r ≡ fault entry_data
        go none q = refl
        go (some bs) q = absurd (never bs (rdata_is k ds bs q))

fault_content : (e : List ℕ) (n : ℕ) (f : WordFault e n) → content_of (begins is_word_byte e) (fault_words f).found ≡ fault n
unfolding content_of fault_words
fault_content e n (WordFault.indented {o} {ws} w first) = rw first
fault_content e n (WordFault.no_owner {o} {ws} w never) = no_owner_content e o ws never
fault_content e n (WordFault.no_type {o} {n = m} {ws} w first owner never) = no_type_content e o ws m first owner never
fault_content e n (WordFault.no_data {o} {n = m} {ws} {ds} {k} w first owner head never) = no_data_content e o ws m first owner k ds head never

pub judged : (e : List ℕ) (c : Content) → Judged e c → (ws : List (List ℕ)) → Words outside e ws → content_of (begins is_word_byte e) ws ≡ c
unfolding content_of
judged e c (no_words w) ws w' = ap (content_of (begins is_word_byte e)) (one_words w' w)
judged e c (a_record {r} h) ws w' = ap (content_of (begins is_word_byte e)) (one_words w' h.words) ∙ record_content e r h
judged e c (a_fault {n} f) ws w' = ap (content_of (begins is_word_byte e)) (one_words w' (fault_words f).words) ∙ fault_content e n f

-- ---- and it finds nothing else

module _ (e o : List ℕ) (ws : List (List ℕ)) (words : Words outside e (o ∷ ws)) where
  judge_rdata : (n : List ℕ) (h : Headed) → begins is_word_byte e ≡ true → Owner o n → Head ws h.rtype h.rest → (r : Option (List ℕ)) → rdata_of h.rtype h.rest ≡ r
      → Judged e (by_rdata n h.rtype r)
  judge_rdata n h first owner head none q = a_fault (WordFault.no_data words first owner head (not_found (rdata_reads h.rtype) h.rest q))
  judge_rdata n h first owner head (some bs) q =
      a_record (record { owner = o; after_owner = ws; data_words = h.rest; words = words; first = first; name = owner; head = head; rdata = rdata_is h.rtype h.rest bs q })

  judge_head : (n : List ℕ) → begins is_word_byte e ≡ true → Owner o n → (r : Option Headed) → head_of ws ≡ r → Judged e (by_head n r)
  judge_head n first owner none q =
      a_fault (WordFault.no_type words first owner (λ k ds. not_found head_reads ws q (record { rtype = k; rest = ds })))
  judge_head n first owner (some h) q = judge_rdata n h first owner (head_is ws h q) (rdata_of h.rtype h.rest) refl

  judge_owner : begins is_word_byte e ≡ true → (r : Option (List ℕ)) → owner_of o ≡ r → Judged e (by_owner r (head_of ws))
  judge_owner first none q = a_fault (WordFault.no_owner words (not_found owner_reads o q))
  judge_owner first (some n) q = judge_head n first (owner_reads.is o n q) (head_of ws) refl

  judge_first : (b : Bool) → begins is_word_byte e ≡ b → Judged e (cond b (by_owner (owner_of o) (head_of ws)) (fault entry_owner))
  judge_first true q = judge_owner q (owner_of o) refl
  judge_first false q = a_fault (WordFault.indented words q)

pub judge : (e : List ℕ) (ws : List (List ℕ)) → Words outside e ws → Judged e (content_of (begins is_word_byte e) ws)
unfolding content_of
judge e [] w = no_words w
judge e (o ∷ ws) w = judge_first e o ws w (begins is_word_byte e) refl
