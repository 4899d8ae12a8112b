-- DHCPv6 levels and messages: what is read is what specs/Message6.antt tells, both ways. Assumes nothing.
use Prim.Native.Nat.{ℕ, zero, suc, ◌+◌, ◌-◌, ◌≤◌, ◌<◌}
use mathlib.Core.Bool.{Bool, true, false, cond, ◌||◌, true≢false}
use mathlib.Core.Path.{◌≡◌, refl, sym, ap, subst, ◌∙◌}
use mathlib.Core.List.{List, [], ◌∷◌}
use mathlib.Core.Option.{Option, none, some, none-ne-some}
use native.Mathlib.Omega.{arith}
use lib.Dec.{leb, ltb, eqb}
use lib.ListN.{length, drop}
use borrow.Author.Tests.{ltb-true, ltb-false, lt-ltb, le-ltb, leb-true, le-leb, eqb-true}
use Rattle.base.specs.Refusal.{message_length, options_malformed, option_repeated, not_a_request, too_many_relays}
use Rattle.message.specs.Options.{Located, having, is_repeated}
use Rattle.message.specs.Request.{refused_request}
use Rattle.message.specs.declared.Request.{Request}
use Rattle.message6.specs.Options6.{Option6, located6}
use Rattle.message6.specs.Message6.{is_request_type, relay_forward, header, Filled, Level, Reads6}
use Rattle.message6.specs.Reading6.{options6, client, single, relay, options_of, typed, level, request6}
use Rattle.message6.proofs.OptionsLaws6.{options_found, found_options}

-- ---- types

relay_no_request : is_request_type relay_forward ≡ false
unfolding is_request_type
relay_no_request = refl

pub relay_header : header relay_forward ≡ 34
unfolding header
relay_header = refl

-- a request is no relay
request_no_relay : (type : ℕ) → is_request_type type ≡ true → eqb type relay_forward ≡ false
request_no_relay type request = go (eqb type relay_forward) refl
  where
    go : (t : Bool) → eqb type relay_forward ≡ t → t ≡ false
    go true e = absurd (true≢false (sym request ∙ ap is_request_type (eqb-true type relay_forward e) ∙ relay_no_request))
    go false e = refl

pub request_header : (type : ℕ) → is_request_type type ≡ true → header type ≡ 4
unfolding header
request_header type request = rw (request_no_relay type request)

-- ---- a level's options

-- the options of a level that were found
pub record FoundIn (type at : ℕ) (b : List ℕ) (ls : List Located) : Type 0 where
  pub list : List Option6
  pub filled : Filled type b list
  pub located : located6 (at + header type) list ≡ ls

module _ (type at : ℕ) (b : List ℕ) where
  pub filled_found : (os : List Option6) → Filled type b os → options_of type at b ≡ some (located6 (at + header type) os)
  unfolding options_of
  filled_found os h = rw (le-leb (header type) (length b) h.long) (options_found (at + header type) (drop (header type) b) os h.options)

  pub found_filled : (ls : List Located) → options_of type at b ≡ some ls → FoundIn type at b ls
  unfolding options_of
  found_filled ls e = go (leb (header type) (length b)) refl e
    where
      go : (t : Bool) → leb (header type) (length b) ≡ t → cond t (options6 (at + header type) (drop (header type) b)) none ≡ some ls → FoundIn type at b ls
      go true test e =
          let found = found_options (at + header type) (drop (header type) b) ls e in
          record { list = found.list; filled = record { long = leb-true (header type) (length b) test; options = found.options }; located = found.located }
      go false test e = absurd (none-ne-some ls e)

  not_filled : options_of type at b ≡ none → (os : List Option6) → Filled type b os → ⊥
  not_filled e os h = none-ne-some (located6 (at + header type) os) (sym e ∙ filled_found os h)

  none_found : ((os : List Option6) → Filled type b os → ⊥) → options_of type at b ≡ none
  none_found never = go (options_of type at b) refl
    where
      go : (x : Option (List Located)) → options_of type at b ≡ x → x ≡ none
      go none e = refl
      go (some ls) e = let found = found_filled ls e in absurd (never found.list found.filled)

-- ---- a level by its type

module _ (relaying : Option (List Located) → Request) (at : ℕ) (b : List ℕ) where
  pub typed_client : (type : ℕ) → is_request_type type ≡ true → typed relaying at (type ∷ b) ≡ client (options_of type at (type ∷ b))
  unfolding typed
  typed_client type request = rw request

  pub typed_relay : typed relaying at (relay_forward ∷ b) ≡ relaying (options_of relay_forward at (relay_forward ∷ b))
  unfolding typed
  typed_relay = rw relay_no_request

  pub typed_other : (type : ℕ) → is_request_type type ≡ false → eqb type relay_forward ≡ false → typed relaying at (type ∷ b) ≡ refused_request not_a_request
  unfolding typed
  typed_other type request other = rw (request, other)

-- what is read inside a relay, where n relays more are allowed
abbrev pub inside : ℕ → Located → Request
inside n l = level n l.start l.bytes

-- what a relay's options come to where n relays are still allowed
abbrev pub relaying : ℕ → Option (List Located) → Request
relaying zero os = refused_request too_many_relays
relaying (suc n) os = relay (inside n) os

pub level_typed : (n at : ℕ) (b : List ℕ) → level n at b ≡ typed (relaying n) at b
unfolding level
level_typed zero at b = refl
level_typed (suc n) at b = refl

-- ---- what a relay passes on

module _ (inner : Located → Request) where
  relay_none : (ls : List Located) → having 9 ls ≡ [] → relay inner (some ls) ≡ refused_request options_malformed
  unfolding relay single
  relay_none ls e = rw e

  relay_one : (ls : List Located) (l : Located) → having 9 ls ≡ l ∷ [] → relay inner (some ls) ≡ inner l
  unfolding relay single
  relay_one ls l e = rw e

  twice : (ks : List Located) → ltb 1 (length ks) ≡ true → single inner ks ≡ refused_request option_repeated
  unfolding single
  twice [] e = let f : 1 < 0 = ltb-true 1 0 e in absurd (omega arith)
  twice (l ∷ []) e = let f : 1 < 1 = ltb-true 1 1 e in absurd (omega arith)
  twice (l ∷ k ∷ ks) e = refl

  relay_twice : (ls : List Located) → is_repeated 9 ls ≡ true → relay inner (some ls) ≡ refused_request option_repeated
  unfolding relay is_repeated
  relay_twice ls e = twice (having 9 ls) e

-- ---- what a level is answered with is what is read

relay_found : (at : ℕ) (b : List ℕ) (os : List Option6) → Filled relay_forward (relay_forward ∷ b) os
    → options_of relay_forward at (relay_forward ∷ b) ≡ some (located6 (at + 34) os)
relay_found at b os h = filled_found relay_forward at (relay_forward ∷ b) os h ∙ ap (λ (n : ℕ). some (located6 (at + n) os)) relay_header

module _ (k at : ℕ) (b : List ℕ) where
  level_ninth : 8 ≤ k → level (8 - k) at (relay_forward ∷ b) ≡ refused_request too_many_relays
  level_ninth h =
      let none_left : 8 - k ≡ 0 = omega arith in
      ap (λ (n : ℕ). level n at (relay_forward ∷ b)) none_left ∙ level_typed 0 at (relay_forward ∷ b) ∙ typed_relay (relaying 0) at b

  level_relay : k < 8
      → level (8 - k) at (relay_forward ∷ b) ≡ relay (inside (8 - suc k)) (options_of relay_forward at (relay_forward ∷ b))
  level_relay h =
      let one_less : 8 - k ≡ suc (8 - suc k) = omega arith in
      ap (λ (n : ℕ). level n at (relay_forward ∷ b)) one_less ∙ level_typed (suc (8 - suc k)) at (relay_forward ∷ b) ∙ typed_relay (relaying (suc (8 - suc k))) at b

  level_client : (type : ℕ) → is_request_type type ≡ true → level (8 - k) at (type ∷ b) ≡ client (options_of type at (type ∷ b))
  level_client type request = level_typed (8 - k) at (type ∷ b) ∙ typed_client (relaying (8 - k)) at b type request

pub level_reads : {k at : ℕ} {b : List ℕ} {r : Request} → Level k at b r → level (8 - k) at b ≡ r
unfolding typed client relay
level_reads {k} {at} Level.no_bytes = level_typed (8 - k) at []
level_reads {k} {at} (Level.other_type {type} {b} request other) = level_typed (8 - k) at (type ∷ b) ∙ typed_other (relaying (8 - k)) at b type request other
level_reads {k} {at} (Level.ninth_relay {b} h) = level_ninth k at b h
level_reads {k} {at} (Level.malformed_relay {b} h never) =
    level_relay k at b h ∙ ap (relay (inside (8 - suc k))) (none_found relay_forward at (relay_forward ∷ b) never)
level_reads {k} {at} (Level.nothing_relayed {b} {os} h filled e) =
    level_relay k at b h ∙ ap (relay (inside (8 - suc k))) (relay_found at b os filled) ∙ relay_none (inside (8 - suc k)) (located6 (at + 34) os) e
level_reads {k} {at} (Level.relayed_twice {b} {os} h filled e) =
    level_relay k at b h ∙ ap (relay (inside (8 - suc k))) (relay_found at b os filled) ∙ relay_twice (inside (8 - suc k)) (located6 (at + 34) os) e
level_reads {k} {at} (Level.relayed {b} {os} {l} h filled e below) =
    level_relay k at b h ∙ ap (relay (inside (8 - suc k))) (relay_found at b os filled)
    ∙ relay_one (inside (8 - suc k)) (located6 (at + 34) os) l e ∙ level_reads below
level_reads {k} {at} (Level.malformed {type} {b} request never) = level_client k at b type request ∙ ap client (none_found type at (type ∷ b) never)
level_reads {k} {at} (Level.client {type} {b} {os} request filled) =
    level_client k at b type request
    ∙ ap client (filled_found type at (type ∷ b) os filled ∙ ap (λ (n : ℕ). some (located6 (at + n) os)) (request_header type request))

-- ---- what is read is what a level is answered with

-- by its type, with what is known of a relay
module _ (k at : ℕ) (b : List ℕ) where
  client_level : (type : ℕ) → is_request_type type ≡ true → Level k at (type ∷ b) (client (options_of type at (type ∷ b)))
  unfolding client
  client_level type request = go (options_of type at (type ∷ b)) refl
    where
      go : (x : Option (List Located)) → options_of type at (type ∷ b) ≡ x → Level k at (type ∷ b) (client x)
      go none e = Level.malformed request (not_filled type at (type ∷ b) e)
      go (some ls) e =
          let found = found_filled type at (type ∷ b) ls e in
          subst (λ (x : List Located). Level k at (type ∷ b) (client (some x)))
          (ap (λ (n : ℕ). located6 (at + n) found.list) (sym (request_header type request)) ∙ found.located) (Level.client request found.filled)

  module _ (inner : Located → Request) (below : (l : Located) → Level (suc k) l.start l.bytes (inner l)) (few : k < 8) (os : List Option6)
      (filled : Filled relay_forward (relay_forward ∷ b) os) where
    single_level : (ks : List Located) → having 9 (located6 (at + 34) os) ≡ ks → Level k at (relay_forward ∷ b) (single inner ks)
    unfolding single is_repeated
    single_level [] e = Level.nothing_relayed few filled e
    single_level (l ∷ []) e = Level.relayed few filled e (below l)
    single_level (l ∷ j ∷ ks) e = Level.relayed_twice few filled (ap (λ (x : List Located). ltb 1 (length x)) e ∙ lt-ltb 1 (length (l ∷ j ∷ ks)) (omega arith))

  relay_level : (inner : Located → Request) → ((l : Located) → Level (suc k) l.start l.bytes (inner l)) → k < 8
      → Level k at (relay_forward ∷ b) (relay inner (options_of relay_forward at (relay_forward ∷ b)))
  unfolding relay
  relay_level inner below few = go (options_of relay_forward at (relay_forward ∷ b)) refl
    where
      go : (x : Option (List Located)) → options_of relay_forward at (relay_forward ∷ b) ≡ x → Level k at (relay_forward ∷ b) (relay inner x)
      go none e = Level.malformed_relay few (not_filled relay_forward at (relay_forward ∷ b) e)
      go (some ls) e =
          let found = found_filled relay_forward at (relay_forward ∷ b) ls e in
          subst (λ (x : List Located). Level k at (relay_forward ∷ b) (relay inner (some x)))
          (ap (λ (n : ℕ). located6 (at + n) found.list) (sym relay_header) ∙ found.located)
          (single_level inner below few found.list found.filled (having 9 (located6 (at + 34) found.list)) refl)

typed_level : (k at : ℕ) (f : Option (List Located) → Request) → ((b : List ℕ) → Level k at (relay_forward ∷ b) (f (options_of relay_forward at (relay_forward ∷ b))))
    → (b : List ℕ) → Level k at b (typed f at b)
unfolding typed
typed_level k at f relays [] = Level.no_bytes
typed_level k at f relays (type ∷ b) = go (is_request_type type) (eqb type relay_forward) refl refl
  where
    go : (p q : Bool) → is_request_type type ≡ p → eqb type relay_forward ≡ q
        → Level k at (type ∷ b) (cond p (client (options_of type at (type ∷ b))) (cond q (f (options_of relay_forward at (type ∷ b))) (refused_request not_a_request)))
    go true q request e = client_level k at b type request
    go false true request e =
        subst (λ (x : ℕ). Level k at (x ∷ b) (f (options_of relay_forward at (x ∷ b)))) (sym (eqb-true type relay_forward e)) (relays b)
    go false false request e = Level.other_type request e

pub level_level : (n k at : ℕ) (b : List ℕ) → n ≡ 8 - k → Level k at b (level n at b)
unfolding level
level_level zero k at b e = typed_level k at (relaying 0) (λ t. Level.ninth_relay (omega arith)) b
level_level (suc n) k at b e =
    typed_level k at (relaying (suc n))
    (λ t. relay_level k at t (inside n) (λ l. level_level n (suc k) l.start l.bytes (omega arith)) (omega arith)) b

-- ---- the whole message, both ways

module _ (m : List ℕ) where
  pub request_reads : {r : Request} → Reads6 m r → request6 m ≡ r
  unfolding request6
  request_reads (Reads6.too_short h) = rw (lt-ltb (length m) 4 h)
  request_reads (Reads6.too_long h) = rw (le-ltb (length m) 4 (omega arith), lt-ltb 2048 (length m) h)
  request_reads (Reads6.levels low high h) = rw (le-ltb (length m) 4 low, le-ltb 2048 (length m) high) (level_reads h)

  pub reads_request : Reads6 m (request6 m)
  unfolding request6
  reads_request = go (ltb (length m) 4) (ltb 2048 (length m)) refl refl
    where
      go : (p q : Bool) → ltb (length m) 4 ≡ p → ltb 2048 (length m) ≡ q → Reads6 m (cond (p || q) (refused_request message_length) (level 8 0 m))
      go true q short long = Reads6.too_short (ltb-true (length m) 4 short)
      go false true short long = Reads6.too_long (ltb-true 2048 (length m) long)
      go false false short long = Reads6.levels (ltb-false (length m) 4 short) (ltb-false 2048 (length m) long) (level_level 8 0 0 m refl)
