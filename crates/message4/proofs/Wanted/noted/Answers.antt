use native.Mathlib.Omega.{arith}
use Rattle.message4.proofs.JudgeLaws4.{noted_overload, noted_message_type, noted_client_id, noted_client_fqdn, noted_other}
use Rattle.message4.proofs.Wanted.noted.Goals as goal

pub returns-in-52 : goal.returns-in-52
returns-in-52 c =
    let a = c.args in
    noted_overload a.self a.code a.part c.met-overload.result c.in-52.is c.met-overload.ensures

pub returns-in-53 : goal.returns-in-53
returns-in-53 c =
    let a = c.args in
    noted_message_type a.self a.code a.part c.met-message_type.result c.in-53.is c.met-message_type.ensures

pub returns-in-61 : goal.returns-in-61
returns-in-61 c =
    let a = c.args in
    noted_client_id a.self a.code a.part c.met-client_id.result c.in-61.is c.met-client_id.ensures

pub returns-in-81 : goal.returns-in-81
returns-in-81 c =
    let a = c.args in
    noted_client_fqdn a.self a.code a.part c.met-client_fqdn.result c.in-81.is c.met-client_fqdn.ensures

pub returns-in_default : goal.returns-in_default
returns-in_default c =
    let a = c.args in
    noted_other a.self a.code a.part (λ e. omega (arith, e)) (λ e. omega (arith, e)) (λ e. omega (arith, e)) (λ e. omega (arith, e))
