-- A vertex more is written where its number differs, and has its number already where it does not.
use Rattle.std.proofs.Common.{List, ℕ, get_or, set, ap, ◌∙◌}
use Rattle.kc_snapshot.specs.Histories.{changed}
use Rattle.kc_snapshot.proofs.Lists.{changed-push, half_way-set, half_way-same}
use Rattle.kc_snapshot.proofs.listing.differences.Goals as goal
use Rattle.kc_snapshot.proofs.listing.differences.Goals.{then-old-at+in_ok-push, else-old-at}

pub loop-at-preserved : goal.loop-at-preserved
loop-at-preserved c =
    let old = c.args.old.now in
    let new = c.args.new.now in
    let at = c.loop-at.at in
    elim c.if-old-at.branch [
      | then-old-at+in_ok-push w ↦
          ap (λ v. changed old v.items) w.places-is
          ∙ ap (changed old) (w.in_ok-push.ensures).items
          ∙ changed-push old c.loop-at.places.items (record { at = at; core = get_or new at 0 })
          ∙ ap (λ (xs : List ℕ). set xs at (get_or new at 0)) c.loop-at.invariant
          ∙ half_way-set old new at c.requires c.loop-at-test.true
      | else-old-at w ↦
          ap (λ v. changed old v.items) w.places-is
          ∙ (c.loop-at.invariant ∙ half_way-same old new at c.requires c.loop-at-test.true w.if-old-at.false)
    ]
