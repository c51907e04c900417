-- A sweep begins for the claims, and it tells of the stream.
use Rattle.kc_claims.proofs.stream.check_stream.Goals as goal

pub sweep-requires : goal.sweep-requires
sweep-requires g c =
    let (claims, tabled) = c.requires in
    let (order, h) = c.in-Ok.ensures.claimed claims tabled in
    (claims, c.new.ensures claims order h)

pub returns-in-Ok : goal.returns-in-Ok
returns-in-Ok g c = λ claims tabled.
    let (order, h) = c.in-Ok.ensures.claimed claims tabled in
    c.sweep.ensures claims (c.new.ensures claims order h)
