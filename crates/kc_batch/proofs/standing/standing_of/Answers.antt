-- One desk more; and one that ends the look.
use Rattle.std.proofs.Common.{◌≡◌, ◌∙◌, List, inl, inr, ap, subst, sym, arith, get_or}
use Rattle.kc_batch.specs.Batches.{MayGoOn}
use Rattle.kc_batch.specs.Desks.{Desked}
use Rattle.kc_batch.proofs.Closing.{stands-short, stood-all, stood-kept, stood-nothing}
use Rattle.kc_batch.proofs.standing.standing_of.Goals as goal
use Rattle.kc_batch.proofs.standing.standing_of.Goals.{After-desk, in-Nothing, in-Kept}

-- the desk that is looked at stands at its place
desk-at : (c : After-desk) → c.desk-item.result ≡ get_or c.args.desks.now.items c.loop-desk.desk-index c.desk-item.result
desk-at c = c.desk-item.is ∙ ap (λ (ds : List Desked). get_or ds c.loop-desk.desk-index c.desk-item.result) c.deref-desk-items.ensures.value

-- what its work has left is what was read
left-read : (c : After-desk) → c.desk-item.result.work.left ≡ c.desk.inside.left
left-read c = ap (λ (e : Desked). e.work.left) (sym c.desk.view_is)

pub loop-desk-preserved : goal.loop-desk-preserved
loop-desk-preserved c =
    let at = (goal.at.loop-desk-preserved c).After-desk in
    let stood = c.loop-desk.invariant in
    elim c.match-desk.branch [
      | in-Nothing w ↦ stood-nothing c.args.desks.now.items c.loop-desk.desk-index c.desk-item.result c.loop-desk.standing c.match-desk.standing
          (omega arith) (desk-at at) (left-read at ∙ w.in-Nothing.is) w.standing-is stood
      | in-Kept w ↦ stood-kept c.args.desks.now.items c.loop-desk.desk-index c.desk-item.result c.loop-desk.standing c.match-desk.standing _
          (omega arith) (desk-at at) (left-read at ∙ w.in-Kept.is) w.standing-is stood
    ]

pub returns : goal.returns
returns c = stood-all c.args.desks.now.items c.loop-desk.desk-index c.loop-desk.standing (omega arith) c.loop-desk.invariant

pub returns-in-Dropped : goal.returns-in-Dropped
returns-in-Dropped c =
    let at = (goal.at.returns-in-Dropped c).After-desk in
    stands-short c.args.desks.now.items c.loop-desk.desk-index c.desk-item.result (omega arith) (desk-at at) (λ may. elim c.in-Dropped.is [
      | inl dropped ↦ subst MayGoOn (left-read at ∙ dropped.1) may
      | inr untold ↦ subst MayGoOn (left-read at ∙ untold.1) may
    ])
