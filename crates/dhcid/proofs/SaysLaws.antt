-- What a message says, of either family: that it is what is read, and where the parts of an accepted request lie. Assumes nothing.
use Prim.Native.Nat.{ℕ, ◌+◌, ◌-◌, ◌≤◌, ◌<◌}
use mathlib.Core.Bool.{Bool, true, false, cond, ◌&&◌, ◌||◌, false≢true}
use mathlib.Core.Path.{◌≡◌, refl, sym, ap, ap₂, subst, ◌∙◌}
use mathlib.Core.Logic.{◌⊎◌, inl, inr}
use mathlib.Core.List.{List}
use mathlib.Core.Option.{Option, none, some}
use native.Mathlib.Omega.{arith}
use lib.Dec.{leb, eqb}
use lib.ListN.{length}
use borrow.Author.Tests.{eqb-true, eq-eqb, ne_eqb}
use Rattle.base.specs.Family.{KnownFamily}
use Rattle.base.specs.Logic.{Every}
use Rattle.base.specs.Refusal.{unknown_setting}
use Rattle.base.proofs.Tests.{and_left, and_right}
use Rattle.message.specs.Options.{Located, is_repeated, having, option_of}
use Rattle.message.specs.Request.{Inside, refused_request, identifier_bytes, identified, accepted}
use Rattle.message.specs.declared.Part.{Part}
use Rattle.message.specs.declared.Request.{Request}
use Rattle.message.proofs.RequestLaws.{refused_not}
use Rattle.message4.specs.Options4.{located4}
use Rattle.message4.specs.Message4.{Reads4, judge4, identifier4, name4, is_request, has_duid, hlen}
use Rattle.message4.specs.Reading4.{request4}
use Rattle.message4.proofs.Theorems.{answer4, only_answer4, id_head_inside4, id_inside4, name_inside4, identifier_most4}
use Rattle.message6.specs.Message6.{Reads6}
use Rattle.message6.specs.Reading6.{request6}
use Rattle.message6.proofs.Theorems.{answer6, only_answer6, identifier_type6, no_head6, id_inside6, name_inside6, identifier_length6}
use Rattle.dhcid.specs.Chosen.{KnownSetting, Says}
use Rattle.dhcid.specs.Choosing.{is_known, said}

-- ---- families and settings

known_family : (family : ℕ) → KnownFamily family → (eqb family 4 || eqb family 6) ≡ true
known_family family (inl e) = ap (λ (n : ℕ). eqb n 4 || eqb n 6) e
known_family family (inr e) = ap (λ (n : ℕ). eqb n 4 || eqb n 6) e

known_setting : (setting : ℕ) → KnownSetting setting → (eqb setting 0 || eqb setting 1) ≡ true
unfolding KnownSetting
known_setting setting (inl e) = ap (λ (n : ℕ). eqb n 0 || eqb n 1) e
known_setting setting (inr e) = ap (λ (n : ℕ). eqb n 0 || eqb n 1) e

pub known : (family setting : ℕ) → KnownFamily family → KnownSetting setting → is_known family setting ≡ true
unfolding is_known
known family setting f s = ap₂ ◌&&◌ (known_family family f) (known_setting setting s)

-- one of two numbers
either : (n a b : ℕ) → (eqb n a || eqb n b) ≡ true → (n ≡ a) ⊎ (n ≡ b)
either n a b = go (eqb n a) refl (eqb n b) refl
  where
    go : (t : Bool) → eqb n a ≡ t → (u : Bool) → eqb n b ≡ u → (t || u) ≡ true → (n ≡ a) ⊎ (n ≡ b)
    go true e u k h = inl (eqb-true n a e)
    go false e true k h = inr (eqb-true n b k)
    go false e false k h = absurd (false≢true h)

pub record Known (family setting : ℕ) : Type 0 where
  pub in_family : KnownFamily family
  pub in_setting : KnownSetting setting

pub is_known_lem : (family setting : ℕ) → is_known family setting ≡ true → Known family setting
unfolding is_known KnownSetting
is_known_lem family setting e =
    record {
      in_family = either family 4 6 (and_left (eqb family 4 || eqb family 6) (eqb setting 0 || eqb setting 1) e);
      in_setting = either setting 0 1 (and_right (eqb family 4 || eqb family 6) (eqb setting 0 || eqb setting 1) e);
    }

-- ---- what is read is what the message says

abbrev read : ℕ → List ℕ → Request
read family m = cond (eqb family 4) (request4 m) (request6 m)

reads_said : (family : ℕ) (m : List ℕ) → KnownFamily family → Says family m (read family m)
reads_said family m (inl e) = subst (λ (n : ℕ). Says n m (read n m)) (sym e) (Says.v4 (answer4 m))
reads_said family m (inr e) = subst (λ (n : ℕ). Says n m (read n m)) (sym e) (Says.v6 (answer6 m))

said_read : {family : ℕ} {m : List ℕ} {r : Request} → Says family m r → read family m ≡ r
said_read {m = m} {r = r} (Says.v4 h) = only_answer4 m r h
said_read {m = m} {r = r} (Says.v6 h) = only_answer6 m r h

says_known : {family : ℕ} {m : List ℕ} {r : Request} → Says family m r → KnownFamily family
says_known (Says.v4 h) = inl refl
says_known (Says.v6 h) = inr refl

module _ (family setting : ℕ) (m : List ℕ) where
  pub said_unknown : is_known family setting ≡ false → said family setting m ≡ refused_request unknown_setting
  unfolding said
  said_unknown e = rw e

  pub said_v4 : is_known family setting ≡ true → family ≡ 4 → said family setting m ≡ request4 m
  unfolding said
  said_v4 e f = rw (e, eq-eqb family 4 f)

  pub said_v6 : is_known family setting ≡ true → (family ≡ 4 → ⊥) → said family setting m ≡ request6 m
  unfolding said
  said_v6 e f = rw (e, ne_eqb family 4 f)

  pub says_said : is_known family setting ≡ true → Says family m (said family setting m)
  unfolding said
  says_said e = rw e (reads_said family m (is_known_lem family setting e).in_family)

  pub said_says : {r : Request} → KnownSetting setting → Says family m r → said family setting m ≡ r
  unfolding said
  said_says {r} s h = rw (known family setting (says_known h) s) (said_read h)

-- ---- an accepted request

-- where its parts lie, how long it is, and what its identifier is
pub record Placed (m : List ℕ) (r : Request) : Type 0 where
  pub head : Inside m r.id_head
  pub rest : Inside m r.id
  pub name : r.has_name ≡ true → Inside m r.name
  pub short : length m ≤ 2048
  pub type : r.id_type ≤ 2
  pub identifier : Every (λ b. b < 256) m → length (identifier_bytes m r) ≤ 255

identified_type : (m : List ℕ) (o : Option Located) (name : Option Part) → (identified (identifier4 m o) name).id_type ≤ 2
unfolding refused_request accepted
identified_type m none name = go (eqb (hlen m) 0)
  where
    go : (t : Bool) → (identified (cond t none (some (record { type = 0; head = record { start = 1; len = 1 }; rest = record { start = 28; len = hlen m } }))) name).id_type ≤ 2
    go true = omega arith
    go false = omega arith
identified_type m (some l) name = go (has_duid l) (leb 2 (length l.bytes))
  where
    go : (t u : Bool) → (identified
        (cond t (some (record { type = 2; head = record { start = 0; len = 0 }; rest = record { start = l.start + 5; len = length l.bytes - 5 } }))
        (cond u (some (record { type = 1; head = record { start = 0; len = 0 }; rest = record { start = l.start; len = length l.bytes } })) none)) name).id_type ≤ 2
    go true u = omega arith
    go false true = omega arith
    go false false = omega arith

judged_type : (m : List ℕ) (ls : List Located) → (judge4 m ls).id_type ≤ 2
unfolding judge4 refused_request
judged_type m ls =
    go (is_repeated 52 ls || is_repeated 53 ls || is_repeated 61 ls || is_repeated 81 ls) (leb 1 (length (having 52 ls))) (is_request (option_of 53 ls))
  where
    go : (t u v : Bool)
        → (cond t (refused_request 5) (cond u (refused_request 6) (cond v (identified (identifier4 m (option_of 61 ls)) (name4 (option_of 81 ls))) (refused_request 7)))).id_type ≤ 2
    go true u v = omega arith
    go false true v = omega arith
    go false false true = identified_type m (option_of 61 ls) (name4 (option_of 81 ls))
    go false false false = omega arith

type4 : {m : List ℕ} {r : Request} → Reads4 m r → r.refusal ≡ 0 → r.id_type ≤ 2
type4 (Reads4.too_short h) z = absurd (refused_not 0 z)
type4 (Reads4.too_long h) z = absurd (refused_not 0 z)
type4 (Reads4.no_bootrequest l h b) z = absurd (refused_not 1 z)
type4 (Reads4.long_address l h b a) z = absurd (refused_not 2 z)
type4 (Reads4.malformed h no_options) z = absurd (refused_not 3 z)
type4 {m} (Reads4.judged {fs} h o) z = judged_type m (located4 240 fs)

short4 : {m : List ℕ} {r : Request} → Reads4 m r → r.refusal ≡ 0 → length m ≤ 2048
short4 (Reads4.too_short h) z = absurd (refused_not 0 z)
short4 (Reads4.too_long h) z = absurd (refused_not 0 z)
short4 (Reads4.no_bootrequest l h b) z = absurd (refused_not 1 z)
short4 (Reads4.long_address l h b a) z = absurd (refused_not 2 z)
short4 (Reads4.malformed h no_options) z = absurd (refused_not 3 z)
short4 (Reads4.judged h o) z = h.most

short6 : {m : List ℕ} {r : Request} → Reads6 m r → r.refusal ≡ 0 → length m ≤ 2048
short6 (Reads6.too_short h) z = absurd (refused_not 0 z)
short6 (Reads6.too_long h) z = absurd (refused_not 0 z)
short6 (Reads6.levels low high h) z = high

pub placed : {family : ℕ} {m : List ℕ} {r : Request} → Says family m r → r.refusal ≡ 0 → Placed m r
placed {m = m} {r = r} (Says.v4 h) z =
    record {
      head = id_head_inside4 m r h z;
      rest = id_inside4 m r h z;
      name = λ named. name_inside4 m r h z;
      short = short4 h z;
      type = type4 h z;
      identifier = identifier_most4 m r h z;
    }
placed {m = m} {r = r} (Says.v6 h) z =
    record {
      head = omega (arith, ap (λ (p : Part). p.start + p.len) (no_head6 m r h z));
      rest = id_inside6 m r h z;
      name = name_inside6 m r h z;
      short = short6 h z;
      type = omega (arith, identifier_type6 m r h z);
      identifier = λ bytes. omega (arith, (identifier_length6 m r h z).1);
    }

module _ (family setting : ℕ) (m : List ℕ) where
  -- 12 is a refusal too
  pub accepted_known : (said family setting m).refusal ≡ 0 → is_known family setting ≡ true
  accepted_known z = go (is_known family setting) refl
    where
      go : (t : Bool) → is_known family setting ≡ t → t ≡ true
      go true e = refl
      go false e = absurd (refused_not 11 (ap (λ (r : Request). r.refusal) (sym (said_unknown family setting m e)) ∙ z))

  pub accepted_says : (said family setting m).refusal ≡ 0 → Says family m (said family setting m)
  accepted_says z = says_said family setting m (accepted_known z)

  -- as it was read
  pub read_placed : (r : Request) → r ≡ said family setting m → r.refusal ≡ 0 → Placed m r
  read_placed r e = subst (λ (q : Request). q.refusal ≡ 0 → Placed m q) (sym e) (λ z. placed (accepted_says z) z)
