use Rattle.message6.proofs.is_name.Goals as goal

pub returns-then-name : goal.returns-then-name
returns-then-name c = rw c.if-name.true
