use Prim.Native.Nat.{◌-◌}
use mathlib.Core.Bool.{true, false}
use mathlib.Core.Path.{◌≡◌, sym, ◌∙◌}
use native.Mathlib.Omega.{arith}
use lib.ListN.{length, drop, length-drop}
use lib.Seq.{take_all}
use borrow.Author.Rules.{rules}
use borrow.Author.Tests.{tests}
use Rattle.std.proofs.lemmas.Iterator.{IsFirst-from_position, YieldsList-from_slice}
use Rattle.grammar.specs.Listing.{is_word_byte}
use Rattle.words.proofs.RunLaws.{run_to, FirstStop, run_stops, run_ends, run_in_chunk, run_past_chunk, after_chunk, chunk_within}
use Rattle.words.proofs.word_end.Goals as goal
use Rattle.words.proofs.word_end.Goals.{After-position}

pub returns-then-lead-lt-CHUNK : goal.returns-then-lead-lt-CHUNK
returns-then-lead-lt-CHUNK c =
    let t = c.args.text.now in
    let i = c.loop-chunk.invariant in
    let next = c.in-Some.ensures.steps.1 in
    let lead = c.word_lead-lead in
    let small = c.if-lead-lt-CHUNK.true in
    let run = run_in_chunk is_word_byte t c.loop-chunk.end c.in-Some.chunk.now c.next.new.self.rest.now (sym i.rest ∙ next.0) lead.result lead.ensures.1 (omega arith) (lead.ensures.2 small) in
    run_to is_word_byte t c.args.at _ c.requires (omega arith)

pub loop-chunk-preserved : goal.loop-chunk-preserved
loop-chunk-preserved c =
    let t = c.args.text.now in
    let i = c.loop-chunk.invariant in
    let end = c.loop-chunk.end in
    let chunk = c.in-Some.chunk.now in
    let rest = c.next.new.self.rest.now in
    let next = sym i.rest ∙ c.in-Some.ensures.steps.1.0 in
    let lead = c.word_lead-lead in
    let long : length chunk ≡ lead.result = omega (arith, lead.ensures.0, c.in-Some.ensures.steps.1.1) in
    record {
      size = omega arith;
      rest = sym (after_chunk is_word_byte t end chunk rest next lead.result lead.ensures.1 long);
      within = chunk_within is_word_byte t end chunk rest next lead.result lead.ensures.1 long i.within;
      same = omega (arith, run_past_chunk is_word_byte t end chunk rest next lead.result lead.ensures.1 long);
    }

found : (c : After-position) → FirstStop is_word_byte (drop c.loop-chunk.end c.args.text.now) c.position.result
found c =
    let t = c.args.text.now in
    let end = c.loop-chunk.end in
    let given = c.iter.ensures.rest ∙ take_all (length t - end) (drop end t) (omega (arith, length-drop end t)) in
    IsFirst-from_position _ _ c.position.result (λ b. is_word_byte b ≡ false) (λ b. is_word_byte b ≡ true) c.position.ensures.ran (YieldsList-from_slice _ given)
    (λ x q k. search (rules, tests)) (λ x q k. search (rules, tests))

pub returns-in-Some-position : goal.returns-in-Some-position
returns-in-Some-position c =
    let t = c.args.text.now in
    let end = c.loop-chunk.end in
    let stop = rw c.in-Some-position.is at (found (goal.at.returns-in-Some-position c).After-position) in
    run_to is_word_byte t c.args.at _ c.requires (omega (arith, run_stops is_word_byte (drop end t) c.in-Some-position.left stop))

pub returns-in-None-position : goal.returns-in-None-position
returns-in-None-position c =
    let t = c.args.text.now in
    let end = c.loop-chunk.end in
    let stop = rw c.in-None-position.is at (found (goal.at.returns-in-None-position c).After-position) in
    run_to is_word_byte t c.args.at _ c.requires (omega (arith, length-drop end t, run_ends is_word_byte (drop end t) stop))
