-- Texts and what reading them answers, as rows of one table. Each answer is written from document 01 (docs/RULES.md, 6), the DHCID's bytes from RFC
-- 4701's example in hexadecimal. proofs/Examples.antt proves that all rows hold of the definitions.
use Rattle.std.specs.Prelude.{ℕ, List, [], ◌∷◌}
use Prim.Native.String.{String}
use Rattle.base.specs.Bytes.{ascii}
use Rattle.base.specs.Logic.{Every}
use Rattle.name.specs.Name.{wire}
use Rattle.grammar.specs.Listing.{RecordType, ResourceRecord}
use Rattle.grammar.specs.Outcome.{Outcome, accepted, refused, Answered}

-- a listing's text, the limit, the row's places, and the answer
pub record Row : Type 0 where
  pub text : String
  pub limit : ℕ
  pub places : ℕ
  pub outcome : Outcome

-- an A record
unfoldable pub of : List ℕ → List ℕ → ResourceRecord
of owner address = record { owner = owner; rtype = RecordType.A; rdata = address }

unfoldable pub an_a : ResourceRecord
an_a = of (wire (ascii "a" ∷ [])) (1 ∷ 2 ∷ 3 ∷ 4 ∷ [])

unfoldable pub tank : List ℕ
tank = wire (ascii "tank-a" ∷ ascii "example" ∷ ascii "com" ∷ [])

unfoldable pub client : List ℕ
client = wire (ascii "client" ∷ ascii "example" ∷ ascii "com" ∷ [])

-- RFC 4701, 3.6.3
unfoldable pub client_dhcid : ResourceRecord
client_dhcid = record {
  owner = client;
  rtype = RecordType.DHCID;
  rdata = 0x00 ∷ 0x00 ∷ 0x01 ∷ 0xc4 ∷ 0xb9 ∷ 0xa5 ∷ 0xb2 ∷ 0x49 ∷ 0x65 ∷ 0x13 ∷ 0x43 ∷ 0x15 ∷ 0x8d ∷ 0xde ∷ 0x7b ∷ 0xcc ∷ 0x77 ∷ 0x16
      ∷ 0x98 ∷ 0x41 ∷ 0xf7 ∷ 0xa4 ∷ 0x24 ∷ 0x3a ∷ 0x57 ∷ 0x2b ∷ 0x5c ∷ 0x28 ∷ 0x3f ∷ 0xff ∷ 0xed ∷ 0xeb ∷ 0x3f ∷ 0x75 ∷ 0xe6 ∷ [];
}

unfoldable pub rows : List Row
rows =
    -- document 01, "Both sides of each edge" (docs/RULES.md, 9): the empty listing, and the four others of a listing
    record { text = ""; limit = 65536; places = 3; outcome = accepted [] }
    ∷ record { text = "("; limit = 65536; places = 3; outcome = refused 20 0 }
    ∷ record { text = " a. A 1.2.3.4"; limit = 65536; places = 3; outcome = refused 21 0 }
    ∷ record { text = "a. A 01.2.3.4"; limit = 65536; places = 3; outcome = refused 24 0 }
    ∷ record { text = "a. (\nA ) 1.2.3.4"; limit = 65536; places = 3; outcome = accepted (an_a ∷ []) }
    -- document 01, "The table" (docs/RULES.md, 7.8), the example of 140 bytes
    ∷ record { text = "tank-a.example.com. A 192.0.2.7\nclient.example.com. A 192.0.2.40\nclient.example.com. DHCID AAABxLmlskllE0MVjd57zHcWmEH3pCQ6VytcKD//7es/deY=\n"; limit = 65536; places = 3; outcome = accepted (of tank (192 ∷ 0 ∷ 2 ∷ 7 ∷ []) ∷ of client (192 ∷ 0 ∷ 2 ∷ 40 ∷ []) ∷ client_dhcid ∷ []) }
    -- a DHCID over two lines in parentheses, with the second line lost, and as 48 words of one character
    ∷ record { text = "client.example.com. IN DHCID ( AAABxLmlskllE0MVjd57zHcW ; first half\n  mEH3pCQ6VytcKD//7es/deY= ) ; second half\n"; limit = 65536; places = 3; outcome = accepted (client_dhcid ∷ []) }
    ∷ record { text = "client.example.com. IN DHCID ( AAABxLmlskllE0MVjd57zHcW\n )\n"; limit = 65536; places = 3; outcome = refused 24 0 }
    ∷ record { text = "client.example.com. DHCID A A A B x L m l s k l l E 0 M V j d 5 7 z H c W m E H 3 p C Q 6 V y t c K D / / 7 e s / d e Y ="; limit = 65536; places = 3; outcome = accepted (client_dhcid ∷ []) }
    -- RFC 3597's form, digits in either case, in two words
    ∷ record { text = "client.example.com. DHCID \\# 35 000001C4B9A5B249651343158DDE7BCC77 169841f7a4243a572b5c283fffedeb3f75e6"; limit = 65536; places = 3; outcome = accepted (client_dhcid ∷ []) }
    -- letters in either case, in owner, class and type
    ∷ record { text = "A.  iN\taaaa 2001:DB8:0:0:0:0:0:7"; limit = 65536; places = 3; outcome = accepted (record { owner = wire (ascii "a" ∷ []); rtype = RecordType.AAAA; rdata = 0x20 ∷ 0x01 ∷ 0x0d ∷ 0xb8 ∷ 0 ∷ 0 ∷ 0 ∷ 0 ∷ 0 ∷ 0 ∷ 0 ∷ 0 ∷ 0 ∷ 0 ∷ 0 ∷ 7 ∷ [] } ∷ []) }
    -- entries with no words: blanks, a comment with parentheses in it, an empty pair of parentheses over two lines
    ∷ record { text = "\n \t\n; ( no record )\n( \n ) ; none"; limit = 65536; places = 3; outcome = accepted [] }
    -- 20: a byte that is not allowed, in a comment too; a nested (; a stray ); a ( never closed, its ) in a comment
    ∷ record { text = "a. A 1.2.3.4\r\n"; limit = 65536; places = 3; outcome = refused 20 0 }
    ∷ record { text = "; \u{7f}"; limit = 65536; places = 3; outcome = refused 20 0 }
    ∷ record { text = "a. ( A ( 1.2.3.4 ) )"; limit = 65536; places = 3; outcome = refused 20 0 }
    ∷ record { text = "a. A ) 1.2.3.4"; limit = 65536; places = 3; outcome = refused 20 0 }
    ∷ record { text = "a. ( A 1.2.3.4 ; )"; limit = 65536; places = 3; outcome = refused 20 0 }
    -- 21: not a word's byte at the entry's beginning; an owner that is no proper name
    ∷ record { text = "(a. A 1.2.3.4)"; limit = 65536; places = 3; outcome = refused 21 0 }
    ∷ record { text = "a A 1.2.3.4"; limit = 65536; places = 3; outcome = refused 21 0 }
    -- 22: no type; a type that is unknown; IN twice; a word before the type that is not IN
    ∷ record { text = "a. IN"; limit = 65536; places = 3; outcome = refused 22 0 }
    ∷ record { text = "a. TXT 1.2.3.4"; limit = 65536; places = 3; outcome = refused 22 0 }
    ∷ record { text = "a. IN IN A 1.2.3.4"; limit = 65536; places = 3; outcome = refused 22 0 }
    ∷ record { text = "a. CH A 1.2.3.4"; limit = 65536; places = 3; outcome = refused 22 0 }
    -- 24: no data; a word after the data; two data
    ∷ record { text = "a. A"; limit = 65536; places = 3; outcome = refused 24 0 }
    ∷ record { text = "a. A 1.2.3.4 5"; limit = 65536; places = 3; outcome = refused 24 0 }
    ∷ record { text = "a. A 1.2.3.4 1.2.3.4"; limit = 65536; places = 3; outcome = refused 24 0 }
    -- 17 and 25: one byte more than the limit and just as many; one place fewer than records and just as many
    ∷ record { text = "a. A 1.2.3.4"; limit = 11; places = 1; outcome = refused 17 0 }
    ∷ record { text = "a. A 1.2.3.4"; limit = 12; places = 1; outcome = accepted (an_a ∷ []) }
    ∷ record { text = "a. A 1.2.3.4"; limit = 12; places = 0; outcome = refused 25 0 }
    -- two neighbours in the order, the first is given: 17 and 20; 20 and 21; 21 and 22; 22 and 24; 24 and 25
    ∷ record { text = "(((("; limit = 3; places = 3; outcome = refused 17 0 }
    ∷ record { text = " a. ("; limit = 65536; places = 3; outcome = refused 20 0 }
    ∷ record { text = " a. TXT"; limit = 65536; places = 3; outcome = refused 21 0 }
    ∷ record { text = "a. TXT 01.2.3.4"; limit = 65536; places = 3; outcome = refused 22 0 }
    ∷ record { text = "a. A 1.2.3.4\na. A 01.2.3.4"; limit = 65536; places = 0; outcome = refused 24 13 }
    -- the first faulty entry in text order, not the first fault by number, and its offset
    ∷ record { text = "a. A 1.2.3.4\n\n; note\nb. IN\n("; limit = 65536; places = 3; outcome = refused 22 21 }
    -- an entry with a fault of its shape extends to it, over a line's end inside parentheses
    ∷ record { text = "a. A 1.2.3.4\nb. ( A\n1.2.3.4 (\n"; limit = 65536; places = 3; outcome = refused 20 13 }
    ∷ []

-- the answer of each row is that of its text
unfoldable pub Hold : List Row → Type 0
Hold = Every (λ r. Answered r.limit r.places (ascii r.text) r.outcome)
