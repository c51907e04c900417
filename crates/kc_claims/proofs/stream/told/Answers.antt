-- Something is counted of each vertex, and then the counts give the verdict.
use Rattle.std.proofs.Common.{refl}
use Rattle.kc_claims.proofs.Insisted.{AreCounted-looked, verdict-ascending}
use Rattle.kc_claims.proofs.stream.told.Goals as goal

pub first_uncounted-requires : goal.first_uncounted-requires
first_uncounted-requires c =
    let (claims, known, h) = c.requires in
    (claims, h.order, AreCounted-looked claims h.order c.args.check.now.insisting c.args.check.now.lines known h.looked)

pub untold-requires : goal.untold-requires
untold-requires c =
    let (claims, known, h) = c.requires in
    (claims, (h.order, AreCounted-looked claims h.order c.args.check.now.insisting c.args.check.now.lines known h.looked))

pub first_miscount-requires : goal.first_miscount-requires
first_miscount-requires c =
    let (claims, known, h) = c.requires in
    (claims, h.order, AreCounted-looked claims h.order c.args.check.now.insisting c.args.check.now.lines known h.looked)

pub returns-in-Some : goal.returns-in-Some
returns-in-Some c = λ claims known h.
    c.untold.ensures claims known
    (h.order, AreCounted-looked claims h.order c.args.check.now.insisting c.args.check.now.lines known h.looked)

pub returns-in-None : goal.returns-in-None
returns-in-None c = λ claims known h.
    let now = c.args.check.now.insisting in
    let counted = AreCounted-looked claims h.order now c.args.check.now.lines known h.looked in
    verdict-ascending claims h.order now known h.looked.insisted (c.in-None.ensures.counted claims h.order counted refl) c.first_miscount.result
    (c.first_miscount.ensures.found claims h.order counted) (c.first_miscount.ensures.agree claims h.order counted)
