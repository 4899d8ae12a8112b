-- Where the options of a message stand, and the parts of its answer. Assumes nothing.
use Prim.Native.Nat.{ℕ, ◌+◌, ◌-◌, ◌≤◌, ◌<◌}
use mathlib.Core.Bool.{Bool, true, false, cond, ◌&&◌, ◌||◌}
use mathlib.Core.Path.{◌≡◌, refl, sym, ap, ◌∙◌}
use mathlib.Core.List.{List, [], ◌∷◌, ◌++◌, append_assoc}
use mathlib.Core.Option.{Option, none, some}
use native.Mathlib.Omega.{arith}
use lib.Dec.{leb, eqb}
use lib.ListN.{length, get_or, take, drop, length-append, length-drop}
use lib.Seq.{take_at, drop_at, drop-drop}
use borrow.Author.Tests.{leb-true, eqb-false}
use Rattle.base.specs.Logic.{Every, IfSome, first_of}
use Rattle.base.proofs.Lists.{drop_head, drop_next, every_at}
use Rattle.base.proofs.Tests.{and_left, and_right}
use Rattle.message.specs.Options.{Located, having, is_repeated, option_of}
use Rattle.message.specs.Request.{bytes_of, Inside, refused_request, no_part, Identifier, identifier_bytes, name_part, accepted, identified}
use Rattle.message.specs.declared.Part.{Part}
use Rattle.message.specs.declared.Request.{Request}
use Rattle.message.proofs.PartLaws.{part_length}
use Rattle.message4.specs.Options4.{Field4, pad, option, bytes4, written4, located4}
use Rattle.message4.specs.Message4.{hlen, Header4, is_request, has_duid, identifier4, has_wire_name, name4, judge4, Reads4}
use Rattle.message4.specs.Judging4.{DataIn}

-- ---- the options

module _ (m : List ℕ) (at c : ℕ) (d t : List ℕ) (e : drop at m ≡ c ∷ length d ∷ d ++ t) where
  next : drop (at + 1) m ≡ length d ∷ d ++ t
  next = drop_next m at c (length d ∷ d ++ t) e

  after : drop (at + 2) m ≡ d ++ t
  after = let two : at + 2 ≡ at + 1 + 1 = omega arith in ap (λ (k : ℕ). drop k m) two ∙ drop_next m (at + 1) (length d) (d ++ t) next

  long : at + 2 + length d ≤ length m
  long = omega (arith, ap length e, length-drop at m, length-append d t)

  data_in : DataIn m (record { code = c; start = at + 2; bytes = d })
  data_in =
      record {
        fits = long;
        «data» = sym (ap (take (length d)) after ∙ take_at d t (length d) refl);
        short = λ bytes. omega (arith, drop_head m (at + 1) (length d) (d ++ t) next, every_at m bytes (at + 1) (omega (arith, long)));
      }

  beyond : drop (at + 2 + length d) m ≡ t
  beyond = sym (drop-drop (length d) (at + 2) m) ∙ ap (drop (length d)) after ∙ drop_at d t (length d) refl

-- the data of the options of an options field that starts at the offset at are where they are said to be
pub located_in : (m : List ℕ) (fs : List Field4) (at : ℕ) (t : List ℕ) → drop at m ≡ written4 fs ++ t → Every (DataIn m) (located4 at fs)
unfolding written4 bytes4 located4
located_in m [] at t e = Every.none
located_in m (pad ∷ fs) at t e = located_in m fs (at + 1) t (drop_next m at 0 (written4 fs ++ t) e)
located_in m (option c d ∷ fs) at t e =
    let cut : drop at m ≡ c ∷ length d ∷ d ++ (written4 fs ++ t) = e ∙ ap (λ (l : List ℕ). c ∷ length d ∷ l) (append_assoc d (written4 fs) t) in
    Every.more (data_in m at c d (written4 fs ++ t) cut) (located_in m fs (at + 2 + length d) t (beyond m at c d (written4 fs ++ t) cut))

-- ---- the parts of an answer

-- where they lie: within the message; the identifier has 2 to 255 bytes, and as a DUID 3 to 130
pub record Placed (m : List ℕ) (r : Request) : Type 0 where
  pub id_head : Inside m r.id_head
  pub id : Inside m r.id
  pub name : Inside m r.name
  pub least : 2 ≤ length (identifier_bytes m r)
  pub most : Every (λ b. b < 256) m → length (identifier_bytes m r) ≤ 255
  pub duid : r.id_type ≡ 2 → (3 ≤ length (identifier_bytes m r)) × (length (identifier_bytes m r) ≤ 130)

-- what an option holds, if there is one
module _ (P : Located → Type 0) (code : ℕ) where
  kept_first : (l : Located) (ls : List Located) (t : Bool) → P l → IfSome P (first_of (having code ls)) → IfSome P (first_of (cond t (l ∷ having code ls) (having code ls)))
  kept_first l ls true p rest = p
  kept_first l ls false p rest = rest

  option_holds : (ls : List Located) → Every P ls → IfSome P (option_of code ls)
  unfolding option_of having
  option_holds [] Every.none = tt
  option_holds (l ∷ ls) (Every.more p ps) = kept_first l ls (eqb l.code code) p (option_holds ls ps)

module _ (m : List ℕ) where
  record IdPlaced (i : Identifier) : Type 0 where
    head_inside : Inside m i.head
    rest_inside : Inside m i.rest
    least : 2 ≤ i.head.len + i.rest.len
    most : Every (λ b. b < 256) m → i.head.len + i.rest.len ≤ 255
    duid : i.type ≡ 2 → (3 ≤ i.head.len + i.rest.len) × (i.head.len + i.rest.len ≤ 130)

  by_address : 240 ≤ length m → hlen m ≤ 16 → (t : Bool) → eqb (hlen m) 0 ≡ t
      → IfSome IdPlaced (cond t none (some (record { type = 0; head = record { start = 1; len = 1 }; rest = record { start = 28; len = hlen m } })))
  by_address low most true e = tt
  by_address low most false e =
      let some_bytes = eqb-false (hlen m) 0 e in
      record { head_inside = omega arith; rest_inside = omega arith; least = omega arith; most = λ b. omega arith; duid = λ z. absurd (omega arith) }

  module _ (l : Located) (h : DataIn m l) where
    all_placed : (t : Bool) → leb 2 (length l.bytes) ≡ t
        → IfSome IdPlaced (cond t (some (record { type = 1; head = no_part; rest = record { start = l.start; len = length l.bytes } })) none)
    all_placed true e =
        let two = leb-true 2 (length l.bytes) e in
        record { head_inside = omega arith; rest_inside = h.fits; least = omega arith; most = λ b. omega (arith, h.short b); duid = λ z. absurd (omega arith) }
    all_placed false e = tt

    duid_placed : (t : Bool) → has_duid l ≡ t → IfSome IdPlaced (cond t (some (record { type = 2; head = no_part; rest = record { start = l.start + 5; len = length l.bytes - 5 } }))
        (cond (leb 2 (length l.bytes)) (some (record { type = 1; head = no_part; rest = record { start = l.start; len = length l.bytes } })) none))
    unfolding has_duid
    duid_placed true e =
        let n = length l.bytes in
        let first = eqb (get_or l.bytes 0 0) 255 in
        let low = leb-true 8 n (and_right first (leb 8 n) (and_left (first && leb 8 n) (leb n 135) e)) in
        let high = leb-true n 135 (and_right (first && leb 8 n) (leb n 135) e) in
        record {
          head_inside = omega arith;
          rest_inside = omega (arith, h.fits);
          least = omega arith;
          most = λ b. omega arith;
          duid = λ z. (omega arith, omega arith);
        }
    duid_placed false e = all_placed (leb 2 (length l.bytes)) refl

    wire_placed : (t : Bool) → has_wire_name l ≡ t → IfSome (Inside m) (cond t (some (record { start = l.start + 3; len = length l.bytes - 3 })) none)
    unfolding has_wire_name
    wire_placed true e =
        let three = leb-true 3 (length l.bytes) (and_left (leb 3 (length l.bytes)) _ e) in
        omega (arith, h.fits)
    wire_placed false e = tt

  identifier_placed : 240 ≤ length m → hlen m ≤ 16 → (o : Option Located) → IfSome (DataIn m) o → IfSome IdPlaced (identifier4 m o)
  identifier_placed low most none h = by_address low most (eqb (hlen m) 0) refl
  identifier_placed low most (some l) h = duid_placed l h (has_duid l) refl

  name_placed : (o : Option Located) → IfSome (DataIn m) o → IfSome (Inside m) (name4 o)
  name_placed none h = tt
  name_placed (some l) h = wire_placed l h (has_wire_name l) refl

  name_inside : (o : Option Part) → IfSome (Inside m) o → Inside m (name_part o)
  name_inside none h = omega arith
  name_inside (some p) h = h

  accepted_length : (i : Identifier) (n : Option Part) → IdPlaced i → length (identifier_bytes m (accepted i n)) ≡ i.head.len + i.rest.len
  unfolding identifier_bytes accepted
  accepted_length i n h =
      length-append (bytes_of m i.head) (bytes_of m i.rest) ∙ λ k. part_length m i.head h.head_inside k + part_length m i.rest h.rest_inside k

  -- an answer, if it is no refusal
  Sound : Request → Type 0
  Sound r = r.refusal ≡ 0 → Placed m r

  identified_sound : (i : Option Identifier) (n : Option Part) → IfSome IdPlaced i → IfSome (Inside m) n → Sound (identified i n)
  unfolding Sound refused_request accepted
  identified_sound none n h k e = absurd (omega arith)
  identified_sound (some i) n h k e =
      let size = accepted_length i n h in
      record {
        id_head = h.head_inside;
        id = h.rest_inside;
        name = name_inside n k;
        least = omega (arith, size, h.least);
        most = λ b. omega (arith, size, h.most b);
        duid = λ z. let d = h.duid z in (omega (arith, size), omega (arith, size));
      }

  refused_sound : (n : ℕ) → 1 ≤ n → Sound (refused_request n)
  unfolding Sound refused_request
  refused_sound n h e = absurd (omega arith)

  either_sound : (t : Bool) (a b : Request) → Sound a → Sound b → Sound (cond t a b)
  either_sound true a b h k = h
  either_sound false a b h k = k

  judged_sound : Header4 m → (ls : List Located) → Every (DataIn m) ls → Sound (judge4 m ls)
  unfolding judge4
  judged_sound h ls ds =
      either_sound (is_repeated 52 ls || is_repeated 53 ls || is_repeated 61 ls || is_repeated 81 ls) _ _ (refused_sound 5 (omega arith))
      (either_sound (leb 1 (length (having 52 ls))) _ _ (refused_sound 6 (omega arith))
      (either_sound (is_request (option_of 53 ls)) _ _
      (identified_sound (identifier4 m (option_of 61 ls)) (name4 (option_of 81 ls))
      (identifier_placed h.least h.address (option_of 61 ls) (option_holds (DataIn m) 61 ls ds)) (name_placed (option_of 81 ls) (option_holds (DataIn m) 81 ls ds)))
      (refused_sound 7 (omega arith))))

pub placed_by : {m : List ℕ} {r : Request} → Reads4 m r → r.refusal ≡ 0 → Placed m r
unfolding Sound
placed_by {m} (Reads4.too_short h) = refused_sound m 1 (omega arith)
placed_by {m} (Reads4.too_long h) = refused_sound m 1 (omega arith)
placed_by {m} (Reads4.no_bootrequest low high h) = refused_sound m 2 (omega arith)
placed_by {m} (Reads4.long_address low high h over) = refused_sound m 3 (omega arith)
placed_by {m} (Reads4.malformed h never) = refused_sound m 4 (omega arith)
placed_by {m} (Reads4.judged {fs} h o) = judged_sound m h (located4 240 fs) (located_in m fs 240 _ o.cut)
