use Prim.Native.Nat.{ℕ, ◌+◌, ◌%◌, ◌≤◌, ◌<◌}
use mathlib.Core.Path.{◌≡◌}
use mathlib.Core.Logic.{◌⊎◌}
use mathlib.Core.List.{List, ◌++◌}
use lib.ListN.{length, take, drop}
use Rattle.base.specs.Logic.{Every}
use Rattle.dhcid_text.specs.Base64.{value64}
use Rattle.dhcid_text.specs.DhcidReading.{state_of, Text64}
use Rattle.dhcid_text.specs.declared.Form.{Form}
use Rattle.dhcid_text.proofs.read_quanta.Given as goal

abbrev pub invariant-loop-group : goal.invariant-loop-group
invariant-loop-group l =
    record {
      size : l.group-iterator.size ≡ 4;
      rest : l.group-iterator.rest.now ≡ drop l.passed l.word;
      whole : l.passed % 4 ≡ 0;
      within : l.passed ≤ length l.word;
      fits : (l.passed ≡ 0) ⊎ ((l.count % 4 ≡ 0) × (l.count + l.passed ≤ 44));
      digits : Every (λ x. value64 x < 64) (take l.passed l.word);
      state :
          (f : Form) (p : ℕ) (cs : List ℕ) → Text64 cs (state_of f l.count p l.initial.bytes)
          → Text64 (cs ++ take l.passed l.word) (state_of f (l.count + l.passed) p l.bytes);
    }
