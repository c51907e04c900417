-- The line is refused, or it claims nothing, or something that is put.
use Rattle.std.proofs.Common.{refl}
use Rattle.kc_claims.proofs.Gathered.{HasTakenLines-claim, HasTakenLines-none, HasTakenLines-refused}
use Rattle.kc_claims.proofs.gathering.Gathering.take_line.Goals as goal

pub returns-in-Err : goal.returns-in-Err
returns-in-Err c = λ done h.
    HasTakenLines-refused c.args.self.now done c.args.line.now h _ refl c.in-Err.kind c.in-Err.ensures refl

pub returns-in-Ok-None : goal.returns-in-Ok-None
returns-in-Ok-None c = λ done h.
    HasTakenLines-none c.args.self.now done c.args.line.now h _ refl (rw c.in-Ok-None.field-0-is at c.in-Ok-None.ensures) c.requires h.tabled

pub returns-in_ok-put-in-Ok-Some : goal.returns-in_ok-put-in-Ok-Some
returns-in_ok-put-in-Ok-Some c = λ done h.
    HasTakenLines-claim c.args.self.now done c.args.line.now h _ refl c.in-Ok-Some.claim (rw c.in-Ok-Some.field-0-is at c.in-Ok-Some.ensures)
    c.requires c.in_ok-put-in-Ok-Some.ensures
