use Rattle.dhcid_text.proofs.DhcidWordLaws.{after_nothing, next_base64, after_marker, still_refused}
use Rattle.dhcid_text.proofs.DhcidWords.word.Goals as goal

pub returns-in-Nothing : goal.returns-in-Nothing
returns-in-Nothing c =
    let a = c.args in
    λ ws h. after_nothing ws a.word.now a.self _ c.in-Nothing.is c.first_word.ensures h

pub returns-in-Base64 : goal.returns-in-Base64
returns-in-Base64 c =
    let a = c.args in
    λ ws h. next_base64 ws a.word.now a.self _ c.in-Base64.is c.base64_word.ensures h

pub returns-in-Marked : goal.returns-in-Marked
returns-in-Marked c =
    let a = c.args in
    λ ws h. after_marker ws a.word.now a.self _ c.in-Marked.is c.length_word.ensures h

pub returns-in-Refused : goal.returns-in-Refused
returns-in-Refused c =
    let a = c.args in
    λ ws h. still_refused ws a.word.now a.self a.self c.in-Refused.is h
