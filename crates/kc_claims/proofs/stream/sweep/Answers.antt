-- The stream is one piece, and what is told of the piece is told of it.
use Rattle.std.proofs.Common.{[], IfOk, List, Option, Some, subst, ℕ}
use Rattle.kc_claims.specs.Pieces.{with_piece}
use Rattle.kc_claims.specs.Streams.{IsSwept}
use Rattle.kc_claims.proofs.Pieced.{one-piece}
use Rattle.kc_claims.proofs.stream.sweep.Goals as goal

pub told-requires : goal.told-requires
told-requires g c =
    let (claims, h) = c.requires in
    (claims, with_piece (Some []) (g.S.Source.left c.args.source.now), c.in-Ok-None.ensures.taken claims (Some []) h c.in-Ok-None.field-0-is)

pub untold-requires : goal.untold-requires
untold-requires g c =
    let (claims, h) = c.requires in
    (claims, c.in-Ok-Some.ensures.told claims (Some []) h (λ e. absurd (cc)))

pub untold-requires-in-Err-Line : goal.untold-requires-in-Err-Line
untold-requires-in-Err-Line g c =
    let (claims, h) = c.requires in
    (claims, c.in-Err-Line.ensures.told claims (Some []) h (λ e. absurd (cc)))

pub untold-requires-in-Err-ReadFault : goal.untold-requires-in-Err-ReadFault
untold-requires-in-Err-ReadFault g c =
    let (claims, h) = c.requires in
    (claims, c.in-Err-ReadFault.ensures.told claims (Some []) h (λ e. absurd (cc)))

pub returns-in-Ok-None : goal.returns-in-Ok-None
returns-in-Ok-None g c = λ claims h.
    let left = g.S.Source.left c.args.source.now in
    subst (λ (k : Option (List ℕ)). IfOk c.told.result (IsSwept claims k)) (one-piece left)
    (c.told.ensures claims (with_piece (Some []) left) (c.in-Ok-None.ensures.taken claims (Some []) h c.in-Ok-None.field-0-is))

pub returns-in-Ok-Some : goal.returns-in-Ok-Some
returns-in-Ok-Some g c = λ claims h.
    c.untold.ensures claims (g.S.Source.left c.args.source.now) (c.in-Ok-Some.ensures.told claims (Some []) h (λ e. absurd (cc)))

pub returns-in-Err-Line : goal.returns-in-Err-Line
returns-in-Err-Line g c = λ claims h.
    c.untold-in-Err-Line.ensures claims (g.S.Source.left c.args.source.now) (c.in-Err-Line.ensures.told claims (Some []) h (λ e. absurd (cc)))

pub returns-in-Err-ReadFault : goal.returns-in-Err-ReadFault
returns-in-Err-ReadFault g c = λ claims h.
    c.untold-in-Err-ReadFault.ensures claims (g.S.Source.left c.args.source.now)
    (c.in-Err-ReadFault.ensures.told claims (Some []) h (λ e. absurd (cc)))
