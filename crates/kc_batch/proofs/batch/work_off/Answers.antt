-- A round more, and what comes after it.
use Rattle.std.proofs.Common.{◌≡◌, ◌∙◌, ℕ, All, ap, subst, sym, arith, vec_len}
use Rattle.kc_journal.specs.Journals.{Stands}
use Rattle.kc_table.specs.Log.{TableName}
use Rattle.kc_batch.specs.Batches.{IsBatchState, IsStateOfBatch}
use Rattle.kc_batch.specs.Desks.{Desked, KeepsOneOf}
use Rattle.kc_batch.specs.declared.state.BatchState.{BatchState}
use Rattle.kc_batch.proofs.Closing.{IsRound, round-many, round-spent, state-round}
use Rattle.kc_batch.proofs.batch.work_off.Goals as goal

pub returns-in-Err-clause-state : goal.returns-in-Err-clause-state
returns-in-Err-clause-state g c =
    subst (IsStateOfBatch g.began c.args.turns.now c.loop.ended.items) (sym c.in-Err.ensures.same) c.loop.invariant.state

pub go_on-requires : goal.go_on-requires
go_on-requires g c κs within =
    let i = c.loop.invariant in
    let turns = c.args.turns.now in
    let batch = turns.batch in
    let now : BatchState = c.loop.state in
    let next : BatchState = c.in-Ok.after in
    let made = c.in-Ok.ensures in
    let round : IsRound now.parts.words batch.first batch.updates.now turns now.parts.journal next.parts.journal now.desks.items next.desks.items
    now.consumer next.consumer = record {
      stood = subst Stands (ap (λ (k : BatchState). k.parts.journal) c.state.view_is) c.recall_stands.ensures;
      stands = subst Stands (ap (λ (k : BatchState). k.parts.journal) c.state-in-loop.view_is) c.recall_stands-in-loop.ensures;
      stays = made.stays;
      made = made.rounds.0;
      total = made.rounds.1;
      quiet = made.quiet;
      rounds = made.rounds.2;
      told = made.told;
      owns = made.consumer;
    } in (
      within,
      (
        subst (λ (t : TableName).
            IsBatchState g.began batch.first batch.updates.now c.loop.ended.items turns t next.parts.journal next.desks.items next.consumer)
            (sym made.words) (state-round round i.state),
        (
          round-spent round i.state.table,
          (
            round.stands,
            (
              i.numbers,
              (i.turns, omega (arith, round-many now.desks.items next.desks.items made.rounds.2, next.desks.ok.0, now.desks.ok.0, i.some)),
            ),
          ),
        ),
      ),
    )

pub loop-preserved : goal.loop-preserved
loop-preserved g c =
    let at = c.loop.invariant in
    let r = c.in-Ok-true.ensures in
    let k = c.in-Ok.ensures in
    let many = round-many c.loop.state.desks.items c.in-Ok.after.desks.items k.rounds.2 in
    let same : vec_len c.in-Ok.after.desks ≡ vec_len c.loop.state.desks = omega (arith, many, c.in-Ok.after.desks.ok.0, c.loop.state.desks.ok.0) in
    record {
      state = r.state;
      keeps = subst (λ (n : ℕ). All (λ (d : Desked). KeepsOneOf n d.work.left) c.go_on.new.self.desks.items) at.turns.count
          (r.keeps c.in-Ok-true.field-0-test);
      as_many = omega (arith, r.as_many, same, at.as_many);
      size = r.size ∙ (ap (λ (t : TableName). t.shape.fixed) k.words ∙ at.size);
      some = omega (arith, r.as_many, same, at.some);
      turns = at.turns;
      numbers = at.numbers;
    }
