-- The definition of base64, computed: it gives RFC 4648's test vectors. Assumes nothing.
use mathlib.Core.Path.{refl}
use Rattle.base.specs.Logic.{Every}
use Rattle.dhcid_text.specs.Dhcid.{digit64, base64}
use Rattle.test_spellings.specs.Vectors.{vectors, Holds}

pub vectors_hold : Every Holds vectors
unfolding Holds vectors base64 digit64
vectors_hold =
    Every.more refl (Every.more refl (Every.more refl (Every.more refl (Every.more refl (Every.more refl (Every.more refl Every.none))))))
