-- The reader of a DHCPv6 level: each of its answers is what specs/Reading6.antt makes of the level's bytes. Assumes nothing.
use Prim.Native.Nat.{ℕ, suc, ◌+◌, ◌≤◌, ◌<◌}
use mathlib.Core.Bool.{true, false}
use mathlib.Core.Path.{◌≡◌, sym, ap, ◌∙◌}
use mathlib.Core.List.{List, [], ◌∷◌}
use mathlib.Core.Option.{none}
use native.Mathlib.Omega.{arith}
use lib.Dec.{eqb}
use lib.ListN.{length, get_or}
use borrow.Author.Tests.{le-leb, lt-leb}
use Rattle.base.specs.Refusal.{options_malformed, not_a_request, too_many_relays}
use Rattle.message.specs.Request.{refused_request}
use Rattle.message.specs.declared.Request.{Request}
use Rattle.message6.specs.Message6.{is_request_type, relay_forward, header}
use Rattle.message6.specs.Reading6.{options6, client, relay, options_of, typed, level}
use Rattle.message6.specs.Walking6.{part, walked}
use Rattle.message6.proofs.LevelLaws6.{relay_header, request_header, typed_client, typed_relay, typed_other, relaying, level_typed}
use Rattle.message6.proofs.PassLaws6.{length_part, part_none, part_first, drop_part}

module _ (m : List ℕ) (start end n : ℕ) where
  pub level_empty : end ≤ start → refused_request options_malformed ≡ level n start (part m start end)
  unfolding typed
  level_empty h = sym (ap (level n start) (part_none m start end h) ∙ level_typed n start [])

  module _ (within : end ≤ length m) (more : start < end) where
    -- the options behind a header of h bytes
    options_behind : (type h : ℕ) → header type ≡ h → start + h ≤ end → options_of type start (part m start end) ≡ options6 (start + h) (part m (start + h) end)
    unfolding options_of
    options_behind type h e fits =
        let long : header type ≤ length (part m start end) = omega (arith, length_part m start end within, e) in
        rw (le-leb (header type) (length (part m start end)) long)
        (ap (options6 (start + header type)) (drop_part m start end (header type)) ∙ ap (λ (k : ℕ). options6 (start + k) (part m (start + k) end)) e)

    no_header : (type h : ℕ) → header type ≡ h → end < start + h → options_of type start (part m start end) ≡ none
    unfolding options_of
    no_header type h e short =
        let few : length (part m start end) < header type = omega (arith, length_part m start end within, e) in
        rw (lt-leb (header type) (length (part m start end)) few)

    -- the level by its type
    level_by : (type : ℕ) → get_or m start 0 ≡ type → level n start (part m start end) ≡ typed (relaying n) start (type ∷ part m (start + 1) end)
    level_by type e =
        level_typed n start (part m start end) ∙ ap (typed (relaying n) start) (part_first m start end more within ∙ ap (λ (x : ℕ). x ∷ part m (start + 1) end) e)

    by_type : (type : ℕ) → get_or m start 0 ≡ type → type ∷ part m (start + 1) end ≡ part m start end
    by_type type e = sym (part_first m start end more within ∙ ap (λ (x : ℕ). x ∷ part m (start + 1) end) e)

    module _ (type : ℕ) (is : get_or m start 0 ≡ type) where
      pub level_other : is_request_type type ≡ false → eqb type relay_forward ≡ false → refused_request not_a_request ≡ level n start (part m start end)
      level_other request other = sym (level_by type is ∙ typed_other (relaying n) start (part m (start + 1) end) type request other)

      module _ (request : is_request_type type ≡ true) where
        level_request : level n start (part m start end) ≡ client (options_of type start (part m start end))
        level_request =
            level_by type is ∙ typed_client (relaying n) start (part m (start + 1) end) type request
            ∙ ap (λ (b : List ℕ). client (options_of type start b)) (by_type type is)

        pub request_short : end < start + 4 → refused_request options_malformed ≡ level n start (part m start end)
        unfolding client
        request_short short = sym (level_request ∙ ap client (no_header type 4 (request_header type request) short))

        pub request_options : (k : ℕ) (r : Request) → start + 4 ≤ end → r ≡ walked false k (options6 (start + 4) (part m (start + 4) end))
            → r ≡ level n start (part m start end)
        unfolding walked
        request_options k r fits e = e ∙ sym (level_request ∙ ap client (options_behind type 4 (request_header type request) fits))

    module _ (is : get_or m start 0 ≡ relay_forward) where
      level_relay : level n start (part m start end) ≡ relaying n (options_of relay_forward start (part m start end))
      level_relay =
          level_by relay_forward is ∙ typed_relay (relaying n) start (part m (start + 1) end)
          ∙ ap (λ (b : List ℕ). relaying n (options_of relay_forward start b)) (by_type relay_forward is)

      pub relay_ninth : n ≡ 0 → refused_request too_many_relays ≡ level n start (part m start end)
      relay_ninth e = sym (level_relay ∙ ap (λ (k : ℕ). relaying k (options_of relay_forward start (part m start end))) e)

      pub relay_short : (k : ℕ) → n ≡ suc k → end < start + 34 → refused_request options_malformed ≡ level n start (part m start end)
      unfolding relay
      relay_short k e short =
          sym
          (level_relay ∙ ap (λ (j : ℕ). relaying j (options_of relay_forward start (part m start end))) e
          ∙ ap (relaying (suc k)) (no_header relay_forward 34 relay_header short))

      pub relay_options : (k : ℕ) (r : Request) → n ≡ suc k → start + 34 ≤ end → r ≡ walked true k (options6 (start + 34) (part m (start + 34) end))
          → r ≡ level n start (part m start end)
      unfolding walked
      relay_options k r e fits h =
          h ∙ sym
          (level_relay ∙ ap (λ (j : ℕ). relaying j (options_of relay_forward start (part m start end))) e
          ∙ ap (relaying (suc k)) (options_behind relay_forward 34 relay_header fits))
