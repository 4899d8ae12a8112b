-- A DHCPv6 request read from front to back, level by level: the function whose answers the contracts promise. That it answers just what specs/Message6.antt tells
-- is proofs/Theorems.antt. What the code keeps on its way stands apart, in specs/Walking6.antt.
use Rattle.std.specs.Prelude.{ℕ, zero, suc, ◌+◌, ◌*◌, Bool, cond, ◌&&◌, ◌||◌, List, [], ◌∷◌, ◌++◌, leb, ltb, eqb, length, take, drop}
use Rattle.std.proofs.Math.Option.{Option, none, some}
use Rattle.base.specs.Refusal.{message_length, options_malformed, option_repeated, not_a_request, too_many_relays}
use Rattle.message.specs.Options.{Located, having}
use Rattle.message.specs.Request.{refused_request}
use Rattle.message.specs.declared.Request.{Request}
use Rattle.message6.specs.Message6.{is_request_type, relay_forward, header, judge6}

-- ---- the options of one level

-- the number of two bytes, the high byte first
abbrev pub be16 : ℕ → ℕ → ℕ
be16 high low = high * 256 + low

-- the data that the length asks for are there. A message has only numbers below 256; that these four are is tested all the same, since options are told by what is
-- written for them, and nothing else is written: so the laws hold of any list of numbers
unfoldable pub is_option : ℕ → ℕ → ℕ → ℕ → List ℕ → Bool
is_option a b c d t = ltb a 256 && ltb b 256 && ltb c 256 && ltb d 256 && leb (be16 c d) (length t)

-- the option that stands at the offset at, with those four bytes in front
abbrev pub option_at : ℕ → ℕ → ℕ → ℕ → ℕ → List ℕ → Located
option_at at a b c d t = record { code = be16 a b; start = at + 4; bytes = take (be16 c d) t }

-- options, and then those that follow, if they are options
unfoldable pub before : List Located → Option (List Located) → Option (List Located)
before ls none = none
before ls (some ks) = some (ls ++ ks)

-- nothing, or an option and what goes on from there
unfoldable pub option : (ℕ → List ℕ → Option (List Located)) → ℕ → List ℕ → Option (List Located)
option rest at [] = some []
option rest at (a ∷ []) = none
option rest at (a ∷ b ∷ []) = none
option rest at (a ∷ b ∷ c ∷ []) = none
option rest at (a ∷ b ∷ c ∷ d ∷ t) =
    cond (is_option a b c d t) (before (option_at at a b c d t ∷ []) (rest (at + 4 + be16 c d) (drop (be16 c d) t))) none

-- in n steps: each passes one option, and the last finds that there is no more
unfoldable pub options : ℕ → ℕ → List ℕ → Option (List Located)
options zero at b = none
options (suc n) at b = option (options n) at b

-- the options of the bytes b, which start at the offset at; none where there are no options that fill them
unfoldable pub options6 : ℕ → List ℕ → Option (List Located)
options6 at b = options (suc (length b)) at b

-- ---- one level

-- the client's message: what its options say
unfoldable pub client : Option (List Located) → Request
client none = refused_request options_malformed
client (some ls) = judge6 ls

-- the one Relay Message option of a relay, read by `inner`
unfoldable pub single : (Located → Request) → List Located → Request
single inner [] = refused_request options_malformed
single inner (l ∷ []) = inner l
single inner (l ∷ k ∷ ls) = refused_request option_repeated

unfoldable pub relay : (Located → Request) → Option (List Located) → Request
relay inner none = refused_request options_malformed
relay inner (some ls) = single inner (having 9 ls)

-- the options of a level of this type, if it has its header
unfoldable pub options_of : ℕ → ℕ → List ℕ → Option (List Located)
options_of type at b = cond (leb (header type) (length b)) (options6 (at + header type) (drop (header type) b)) none

-- a level by its type; `relaying` is what a relay's options come to
unfoldable pub typed : (Option (List Located) → Request) → ℕ → List ℕ → Request
typed relaying at [] = refused_request options_malformed
typed relaying at (type ∷ b) =
    cond (is_request_type type) (client (options_of type at (type ∷ b)))
    (cond (eqb type relay_forward) (relaying (options_of relay_forward at (type ∷ b))) (refused_request not_a_request))

-- a level that starts at the offset at, where n relays are still allowed
unfoldable pub level : ℕ → ℕ → List ℕ → Request
level zero at b = typed (λ os. refused_request too_many_relays) at b
level (suc n) at b = typed (relay (λ l. level n l.start l.bytes)) at b

-- ---- the whole message

unfoldable pub request6 : List ℕ → Request
request6 m = cond (ltb (length m) 4 || ltb 2048 (length m)) (refused_request message_length) (level 8 0 m)
