-- Document 01's family number (docs/RULES.md, 1.3), which a call gives for DHCPv4 and its addresses, 4, or for DHCPv6 and its addresses, 6. Any other
-- is refusal 12.
use Rattle.std.specs.Prelude.{ℕ, ◌≡◌, ◌⊎◌}

abbrev pub KnownFamily : ℕ → Type 0
KnownFamily family = (family ≡ 4) ⊎ (family ≡ 6)
