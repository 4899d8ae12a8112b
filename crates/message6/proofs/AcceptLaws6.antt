-- An accepted DHCPv6 request: where its parts stand. Assumes nothing.
use Prim.Native.Nat.{ℕ, ◌+◌, ◌-◌, ◌≤◌}
use mathlib.Core.Bool.{Bool, true, false, cond, ◌&&◌, ◌||◌, false≢true}
use mathlib.Core.Path.{◌≡◌, refl, sym, ap, subst, ◌∙◌}
use mathlib.Core.List.{List, [], ◌∷◌}
use mathlib.Core.Option.{Option, none, some}
use native.Mathlib.Omega.{arith}
use lib.Dec.{leb}
use lib.ListN.{length, take, drop, length-drop}
use lib.Seq.{length-take-le}
use borrow.Author.Tests.{leb-true}
use Rattle.base.specs.Logic.{Every, first_of}
use Rattle.base.specs.Refusal.{option_repeated}
use Rattle.base.proofs.Tests.{and_left, and_right}
use Rattle.message.specs.Options.{Located, having, is_repeated, option_of}
use Rattle.message.specs.Request.{bytes_of, no_part, refused_request, identifier_bytes, Identifier, has_name, name_part, accepted, identified}
use Rattle.message.specs.Seen.{part_of}
use Rattle.message.specs.declared.Part.{Part}
use Rattle.message.specs.declared.Request.{Request}
use Rattle.message6.specs.Options6.{Option6, Options6, located6}
use Rattle.message.proofs.RequestLaws.{refused_not}
use Rattle.message6.specs.Message6.{relay_forward, header, Filled, identifier6, name6, judge6, Level, Reads6}
use Rattle.message6.specs.Walking6.{part}
use Rattle.message6.proofs.LevelLaws6.{relay_header, request_header}
use Rattle.message6.proofs.PassLaws6.{part_all, drop_part}
use Rattle.message6.proofs.StandLaws6.{Stands, options_stand, every_having}

-- ---- the options that an accepted request comes from

-- the client's options: they stand in the message, and r is what they say
pub record Client (m : List ℕ) (r : Request) : Type 0 where
  pub at : ℕ
  pub end : ℕ
  pub list : List Option6
  pub within : end ≤ length m
  pub stands : Every (Stands m at end) (located6 at list)
  pub answer : r ≡ judge6 (located6 at list)

module _ (m : List ℕ) (at end : ℕ) (within : end ≤ length m) where
  filled_stand : (type : ℕ) (b : List ℕ) (os : List Option6) → b ≡ part m at end → Filled type b os
      → Every (Stands m (at + header type) end) (located6 (at + header type) os)
  filled_stand type b os e h =
      options_stand m end within (at + header type) os
      (subst (λ (t : List ℕ). Options6 t os) (ap (drop (header type)) e ∙ drop_part m at end (header type)) h.options)

  -- what the Relay Message option holds is a part of the message
  inner_part : (l : Located) → Stands m at end l → l.bytes ≡ part m l.start (l.start + length l.bytes)
  unfolding part
  inner_part l s =
      let long : length l.bytes ≡ l.start + length l.bytes - l.start = omega arith in
      s.there ∙ ap (λ (k : ℕ). take k (drop l.start m)) long

first_of_lem : {P : Located → Type 0} {ls : List Located} {l : Located} → ls ≡ l ∷ [] → Every P ls → P l
first_of_lem {P} {ls} {l} e h = go (subst (Every P) e h)
  where
    go : Every P (l ∷ []) → P l
    go (Every.more p ps) = p

pub level_client : (m : List ℕ) (end : ℕ) → end ≤ length m → {k at : ℕ} {b : List ℕ} {r : Request} → Level k at b r
    → b ≡ part m at end → r.refusal ≡ 0 → Client m r
level_client m end within Level.no_bytes e z = absurd (refused_not 3 z)
level_client m end within (Level.other_type request other) e z = absurd (refused_not 6 z)
level_client m end within (Level.ninth_relay h) e z = absurd (refused_not 10 z)
level_client m end within (Level.malformed_relay h never) e z = absurd (refused_not 3 z)
level_client m end within (Level.nothing_relayed h filled none_there) e z = absurd (refused_not 3 z)
level_client m end within (Level.relayed_twice h filled twice) e z = absurd (refused_not 4 z)
level_client m end within {at = at} (Level.relayed {b} {os} {l} h filled only below) e z =
    let all = subst (λ (n : ℕ). Every (Stands m (at + n) end) (located6 (at + n) os)) relay_header
    (filled_stand m at end within relay_forward (relay_forward ∷ b) os e filled) in
    let s : Stands m (at + 34) end l = first_of_lem only (every_having 9 (located6 (at + 34) os) all) in
    level_client m (l.start + length l.bytes) (omega (arith, s.until)) below (inner_part m (at + 34) end within l s) z
level_client m end within (Level.malformed request never) e z = absurd (refused_not 3 z)
level_client m end within {at = at} (Level.client {type} {b} {os} request filled) e z =
    record {
      at = at + 4;
      end = end;
      list = os;
      within = within;
      stands =
          subst (λ (n : ℕ). Every (Stands m (at + n) end) (located6 (at + n) os)) (request_header type request)
          (filled_stand m at end within type (type ∷ b) os e filled);
      answer = refl;
    }

pub reads_client : (m : List ℕ) (r : Request) → Reads6 m r → r.refusal ≡ 0 → Client m r
reads_client m r (Reads6.too_short h) z = absurd (refused_not 0 z)
reads_client m r (Reads6.too_long h) z = absurd (refused_not 0 z)
reads_client m r (Reads6.levels low high h) z = level_client m (length m) (omega arith) h (sym (part_all m)) z

-- ---- what they say

pub record Sound (m : List ℕ) (r : Request) : Type 0 where
  pub type : r.id_type ≡ 2
  pub no_head : r.id_head ≡ no_part
  pub id_within : r.id.start + r.id.len ≤ length m
  pub name_within : r.has_name ≡ true → r.name.start + r.name.len ≤ length m
  pub least : 3 ≤ r.id.len
  pub most : r.id.len ≤ 130

module _ (m : List ℕ) (at end : ℕ) (within : end ≤ length m) where
  -- the name, if there is one, stands in the message
  name_there : (ns : List Located) → Every (Stands m at end) ns → has_name (name6 (first_of ns)) ≡ true
      → (name_part (name6 (first_of ns))).start + (name_part (name6 (first_of ns))).len ≤ length m
  name_there [] h e = absurd (false≢true e)
  name_there (n ∷ ns) (Every.more s h) e = go (leb 1 (length n.bytes)) refl e
    where
      name : Bool → Option Part
      name u = cond u (some (record { start = n.start + 1; len = length n.bytes - 1 })) none

      go : (u : Bool) → leb 1 (length n.bytes) ≡ u → has_name (name u) ≡ true → (name_part (name u)).start + (name_part (name u)).len ≤ length m
      go true some_bytes e = omega (arith, s.until, leb-true 1 (length n.bytes) some_bytes, within)
      go false no_bytes e = absurd (false≢true e)

  -- a DUID of a usable length
  duid_sound : (d : Located) (ns : List Located) → Stands m at end d → Every (Stands m at end) ns
      → (leb 3 (length d.bytes) && leb (length d.bytes) 130) ≡ true
      → Sound m (accepted (record { type = 2; head = no_part; rest = record { start = d.start; len = length d.bytes } }) (name6 (first_of ns)))
  unfolding accepted
  duid_sound d ns s hn long =
      record {
        type = refl;
        no_head = refl;
        id_within = omega (arith, s.until, within);
        name_within = name_there ns hn;
        least = leb-true 3 (length d.bytes) (and_left (leb 3 (length d.bytes)) (leb (length d.bytes) 130) long);
        most = leb-true (length d.bytes) 130 (and_right (leb 3 (length d.bytes)) (leb (length d.bytes) 130) long);
      }

  said_sound : (ds ns : List Located) → Every (Stands m at end) ds → Every (Stands m at end) ns
      → (identified (identifier6 (first_of ds)) (name6 (first_of ns))).refusal ≡ 0 → Sound m (identified (identifier6 (first_of ds)) (name6 (first_of ns)))
  said_sound [] ns hd hn z = absurd (refused_not 7 z)
  said_sound (d ∷ ds) ns (Every.more s hd) hn z = go (leb 3 (length d.bytes) && leb (length d.bytes) 130) refl z
    where
      id : Bool → Option Identifier
      id t = cond t (some (record { type = 2; head = no_part; rest = record { start = d.start; len = length d.bytes } })) none

      go : (t : Bool) → (leb 3 (length d.bytes) && leb (length d.bytes) 130) ≡ t
          → (identified (id t) (name6 (first_of ns))).refusal ≡ 0 → Sound m (identified (id t) (name6 (first_of ns)))
      go true long z = duid_sound d ns s hn long
      go false long z = absurd (refused_not 7 z)

  judge_sound : (ls : List Located) → Every (Stands m at end) ls → (judge6 ls).refusal ≡ 0 → Sound m (judge6 ls)
  unfolding judge6 option_of
  judge_sound ls h z = go (is_repeated 1 ls || is_repeated 39 ls) z
    where
      said : Request
      said = identified (identifier6 (first_of (having 1 ls))) (name6 (first_of (having 39 ls)))

      go : (t : Bool) → (cond t (refused_request option_repeated) said).refusal ≡ 0 → Sound m (cond t (refused_request option_repeated) said)
      go true z = absurd (refused_not 4 z)
      go false z = said_sound (having 1 ls) (having 39 ls) (every_having 1 ls h) (every_having 39 ls h) z

pub reads_sound : (m : List ℕ) (r : Request) → Reads6 m r → r.refusal ≡ 0 → Sound m r
reads_sound m r h z =
    let c = reads_client m r h z in
    subst (Sound m) (sym c.answer) (judge_sound m c.at c.end c.within (located6 c.at c.list) c.stands
    (sym (ap (λ (x : Request). x.refusal) c.answer) ∙ z))

-- how many bytes are hashed of the identifier
pub identifier_length : (m : List ℕ) (r : Request) → Sound m r → length (identifier_bytes m r) ≡ r.id.len
unfolding identifier_bytes bytes_of
identifier_length m r s =
    rw s.no_head (length-take-le r.id.len (drop r.id.start m) (simp length-drop (omega (arith, s.id_within))))

-- the data of options that stand in the message are the bytes of their parts
pub stands_bytes : (m : List ℕ) (at end : ℕ) (ls : List Located) → Every (Stands m at end) ls → Every (λ l. l.bytes ≡ bytes_of m (part_of l)) ls
unfolding bytes_of
stands_bytes m at end [] Every.none = Every.none
stands_bytes m at end (l ∷ ls) (Every.more s h) = Every.more s.there (stands_bytes m at end ls h)
