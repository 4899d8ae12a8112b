use Prim.Native.Nat.{ℕ}
use mathlib.Core.Path.{refl, sym, ap, subst, ◌∙◌}
use mathlib.Core.List.{List, [], ◌++◌, append_assoc, append-nil}
use native.Mathlib.Omega.{arith}
use lib.ListN.{length, get_or, length-append}
use Rattle.dhcid_text.specs.DhcidReading.{Text16}
use Rattle.dhcid_text.proofs.HexLaws.{two_of, nothing_left}
use Rattle.dhcid_text.proofs.hexadecimal_digits.Goals as goal

pub loop-pair-init : goal.loop-pair-init
loop-pair-init c =
    record {
      size = cc;
      even = rw c.into_iter-pair-iterator.ensures.into_iter_gives (rw c.chunks_exact-pair-items.ensures.rest c.requires);
      read = [];
      parts = cc;
      state = λ ds t. rw append-nil t;
    }

pub loop-pair-preserved : goal.loop-pair-preserved
loop-pair-preserved c =
    let l = c.loop-pair.invariant in
    let pair = c.in-Some.pair.now in
    let rest = c.next.new.self.rest.now in
    let next = c.in-Some.ensures.steps in
    let two = two_of pair (get_or pair 0 0) (get_or pair 1 0) (omega arith) refl refl in
    record {
      size = omega arith;
      even = omega (arith, ap length next.1.0, length-append pair rest);
      read = l.read ++ pair;
      parts = append_assoc l.read pair rest ∙ ap (λ (r : List ℕ). l.read ++ r) (sym next.1.0) ∙ l.parts;
      state =
          λ ds t.
          subst (λ (x : List ℕ). Text16 x c.hexadecimal_byte-state.result)
          (ap (λ (x : List ℕ). ds ++ l.read ++ x) (sym two) ∙ append_assoc ds l.read pair)
          (c.hexadecimal_byte-state.ensures (ds ++ l.read) (l.state ds t));
    }

pub returns : goal.returns
returns c =
    let l = c.loop-pair.invariant in
    let all = nothing_left l.read c.loop-pair.pair-iterator.rest.now (omega (arith, c.in-None.ensures.steps.1.0)) ∙ l.parts in
    λ ds t. subst (λ (x : List ℕ). Text16 (ds ++ x) c.loop-pair.state) all (l.state ds t)
