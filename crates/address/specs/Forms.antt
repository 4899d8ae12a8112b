-- An A's and an AAAA's data as text's reader of numbers has them, for the functions that read them (grammar, specs/AddressReader.antt). A reader need not
-- know it: no meaning is defined by it, and proofs/AddressLaws.antt proves that the forms are those of Address.antt.
use Prim.Native.Char.{code}
use Rattle.std.specs.Prelude.{true, false}
use Rattle.text.specs.declared.field.Form.{Form}

-- four numbers of up to three decimal digits with a dot between them, each at most 255 and with no leading zero
abbrev pub octets : Form
octets = record { base = 10; separator = code "."; most = 3; greatest = 255; leading_zeros = false; count = 4 }

-- eight numbers of up to four hexadecimal digits with a colon between them
abbrev pub groups : Form
groups = record { base = 16; separator = code ":"; most = 4; greatest = 65535; leading_zeros = true; count = 8 }
