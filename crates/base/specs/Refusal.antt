-- The refusal numbers of document 01, "Refusal numbers" (docs/RULES.md, 2.2), in its order, and from 42 on those of document 02, one name each: the
-- list of src/refusal.rt, for contracts. docs/REFUSALS.md says when each is given. 10, 18, 19, 23, 41 and 45 are no refusal's.
use Rattle.std.specs.Prelude.{ℕ}

abbrev pub message_length : ℕ
message_length = 1

abbrev pub not_bootrequest : ℕ
not_bootrequest = 2

abbrev pub hardware_address_length : ℕ
hardware_address_length = 3

abbrev pub options_malformed : ℕ
options_malformed = 4

abbrev pub option_repeated : ℕ
option_repeated = 5

abbrev pub option_overload : ℕ
option_overload = 6

abbrev pub not_a_request : ℕ
not_a_request = 7

abbrev pub no_identifier : ℕ
no_identifier = 8

abbrev pub no_proper_name : ℕ
no_proper_name = 9

abbrev pub too_many_relays : ℕ
too_many_relays = 11

abbrev pub unknown_setting : ℕ
unknown_setting = 12

abbrev pub output_short : ℕ
output_short = 13

abbrev pub hash_input_long : ℕ
hash_input_long = 14

abbrev pub not_a_dhcid : ℕ
not_a_dhcid = 15

abbrev pub address_length : ℕ
address_length = 16

abbrev pub listing_long : ℕ
listing_long = 17

abbrev pub entry_shape : ℕ
entry_shape = 20

abbrev pub entry_owner : ℕ
entry_owner = 21

abbrev pub entry_type : ℕ
entry_type = 22

abbrev pub entry_data : ℕ
entry_data = 24

abbrev pub row_short : ℕ
row_short = 25

abbrev pub held_by_another : ℕ
held_by_another = 30

abbrev pub kept_by_hand : ℕ
kept_by_hand = 31

abbrev pub table_full : ℕ
table_full = 32

abbrev pub name_not_held : ℕ
name_not_held = 33

abbrev pub address_differs : ℕ
address_differs = 34

abbrev pub record_repeated : ℕ
record_repeated = 35

abbrev pub table_not_sound : ℕ
table_not_sound = 40

abbrev pub wrong_check : ℕ
wrong_check = 42

abbrev pub wrong_field : ℕ
wrong_field = 43

abbrev pub block_length : ℕ
block_length = 44

abbrev pub reverse_full : ℕ
reverse_full = 46

abbrev pub not_the_answer : ℕ
not_the_answer = 47

abbrev pub another_code : ℕ
another_code = 48
