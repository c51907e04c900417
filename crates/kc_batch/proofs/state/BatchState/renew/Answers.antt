-- The run goes on in the fresh table, of which nobody has seen anything.
use Rattle.std.proofs.Common.{◌≡◌, ◌∙◌, ◌++◌, ◌∷◌, [], All, List, ap, subst, sym}
use Rattle.kc_lists.proofs.Shared.{All-end}
use Rattle.kc_journal.specs.Journals.{Journalled, fresh_pass}
use Rattle.kc_table.specs.declared.view.Event.{Event}
use Rattle.kc_table.specs.Log.{PassSeen}
use Rattle.kc_shared.specs.States.{Parted}
use Rattle.kc_batch.specs.Desks.{Desked}
use Rattle.kc_batch.specs.Runs.{IsNearlySpent, IsRenewal}
use Rattle.kc_batch.specs.declared.state.BatchState.{BatchState}
use Rattle.kc_batch.proofs.Closing.{renewal-so}
use Rattle.kc_batch.proofs.state.BatchState.renew.Goals as goal

pub returns-clause-renewed : goal.returns-clause-renewed
returns-clause-renewed c =
    let new : Parted = c.renew.new.self in
    let inside : Journalled = c.self.inside.0.0.journal in
    let same : inside ≡ c.args.self.now.parts.journal = ap (λ (k : BatchState). k.parts.journal) c.self.view_is in
    let last : PassSeen = c.in_ok-last.last in
    let spent : IsNearlySpent inside.levels.table inside.levels.log =
    subst (λ (j : Journalled). IsNearlySpent j.levels.table j.levels.log) (sym same) c.requires.spent in (
      last,
      c.push_reserved-2.ensures.items ∙ ap (λ (z : List PassSeen). z ++ last ∷ []) c.reserve.ensures.items,
      subst (λ (j : Journalled). IsRenewal j last j new.journal) same
          (renewal-so inside new.journal last new.words c.recall_stands.ensures c.in_ok-last.ensures.last spent c.in_ok-last.ensures.renewed),
    )

pub returns-clause-told : goal.returns-clause-told
returns-clause-told c =
    let new : Parted = c.renew.new.self in
    let fresh : PassSeen = c.in-Some.fresh in
    let Fresh : PassSeen → Type 0 = λ p. p ≡ fresh_pass new.words in
    let is : fresh ≡ fresh_pass new.words = All-end Fresh c.pop.new.self.items fresh (subst (All Fresh) c.in-Some.ensures.items c.in_ok-last.ensures.fresh) in
    subst (λ (log : List Event). All (λ (d : Desked). d.seen ≡ record { table = new.words; log = log }) c.move_all.new.desks.items)
    (ap (λ (p : PassSeen). p.log) is) c.move_all.ensures.seen
