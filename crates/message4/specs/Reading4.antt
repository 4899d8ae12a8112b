-- What a DHCPv4 message says, found by functions, for the promise of `read4`. What a message says is defined in Message4.antt, which cites none of them:
-- proofs/Theorems.antt proves that they find just that, and that every message is answered with something.
use Rattle.std.specs.Prelude.{ℕ, zero, suc, Bool, cond, ◌&&◌, List, [], ◌∷◌, leb, eqb, length, get_or, take, drop}
use Rattle.std.proofs.Math.Option.{Option, none, some}
use Rattle.base.specs.Refusal.{message_length, not_bootrequest, hardware_address_length, options_malformed}
use Rattle.message.specs.Options.{Located}
use Rattle.message.specs.Request.{refused_request}
use Rattle.message.specs.declared.Request.{Request}
use Rattle.message4.specs.Options4.{Field4, pad, option, located4}
use Rattle.message4.specs.Message4.{hlen, judge4}

-- ---- the options field

-- with a field before
abbrev pub before : Field4 → Option (List Field4) → Option (List Field4)
before f none = none
before f (some fs) = some (f ∷ fs)

-- the field that begins with the byte c, and the bytes b after it: `rest k` are the fields of b without its first k bytes
unfoldable pub field : ℕ → List ℕ → (ℕ → Option (List Field4)) → Option (List Field4)
field c b rest =
    let padded = before pad (rest 0) in
    let one = before (option c (take (get_or b 0 0) (drop 1 b))) (rest (suc (get_or b 0 0))) in
    cond (eqb c 0) padded (cond (eqb c 255) (some []) (cond (leb c 254) one none))

abbrev pub passed : ℕ → List ℕ → (ℕ → Option (List Field4)) → ℕ → Option (List Field4)
passed c b rest zero = field c b rest
passed c b rest (suc k) = rest k

-- the fields up to End of the bytes b without the first k of them; none where there is no End, or an option runs past the end
unfoldable pub fields_after : List ℕ → ℕ → Option (List Field4)
fields_after [] k = none
fields_after (c ∷ b) k = passed c b (fields_after b) k

unfoldable pub fields4 : List ℕ → Option (List Field4)
fields4 b = fields_after b 0

abbrev pub placed : ℕ → Option (List Field4) → Option (List Located)
placed at none = none
placed at (some fs) = some (located4 at fs)

-- the options of the bytes b, which start at the offset at
unfoldable pub options4 : ℕ → List ℕ → Option (List Located)
options4 at b = placed at (fields4 b)

-- ---- the whole message

unfoldable pub is_bootrequest : List ℕ → Bool
is_bootrequest m = eqb (get_or m 0 0) 1 && eqb (get_or m 236 0) 99 && eqb (get_or m 237 0) 130 && eqb (get_or m 238 0) 83 && eqb (get_or m 239 0) 99

abbrev pub by_options : List ℕ → Option (List Located) → Request
by_options m none = refused_request options_malformed
by_options m (some ls) = judge4 m ls

-- the answer, of a message whose header is right
unfoldable pub after_header4 : List ℕ → Request
after_header4 m = by_options m (options4 240 (drop 240 m))

unfoldable pub request4 : List ℕ → Request
request4 m =
    cond (leb 240 (length m) && leb (length m) 2048)
    (cond (is_bootrequest m)
    (cond (leb (hlen m) 16) (after_header4 m) (refused_request hardware_address_length))
    (refused_request not_bootrequest))
    (refused_request message_length)
