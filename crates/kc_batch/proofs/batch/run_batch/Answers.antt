-- What the desks have come to is what the shares tell.
use Rattle.std.proofs.Common.{◌≡◌, ◌+◌, ◌≤◌, All, subst, sym, arith, length, vec_len}
use Rattle.std.proofs.lemmas.List.Elements.{All-map}
use Rattle.std.proofs.lemmas.Result.{IfOk-at_ok}
use Rattle.kc_table.specs.Log.{Seen}
use Rattle.kc_queue.specs.Shares.{AreAllBelow}
use Rattle.kc_levels.specs.declared.levels.TheConstants.{LAST_NUMBER}
use Rattle.kc_shared.specs.States.{Parted}
use Rattle.kc_batch.specs.Batches.{IsCutShort, IsBatchDone}
use Rattle.kc_batch.specs.Desks.{Desked, Work}
use Rattle.kc_batch.specs.declared.done.BatchDone.{BatchDone}
use Rattle.kc_batch.specs.declared.done.CutShort.{CutShort}
use Rattle.kc_batch.specs.declared.left.Left.TheVariants.{Nothing}
use Rattle.kc_batch.proofs.Closing.{cut-at_start, cut-so, done-so, idle, same-many, all-workers, workers-many, told-tables}
use Rattle.kc_batch.proofs.batch.run_batch.Given.{Over}
use Rattle.kc_batch.proofs.batch.run_batch.Goals.{After-tell_all}
use Rattle.kc_batch.proofs.batch.run_batch.Goals as goal

-- once all are told there are as many desks as workers
told-many : (g : Over) (c : After-tell_all g) → vec_len c.tell_all.new.desks ≡ vec_len c.args.workers.now
told-many g c = omega (
  arith,
  same-many c.open_desks-desks.result.items c.tell_all.new.desks.items c.tell_all.ensures.works,
  c.tell_all.new.desks.ok.0,
  c.open_desks-desks.result.ok.0,
  c.open_desks-desks.ensures.as_many,
)

pub returns-in_default-clause-cut_short : goal.returns-in_default-clause-cut_short
returns-in_default-clause-cut_short g c =
    let cut : CutShort = record { shares = c.new-shares.result; ended = c.new-ended.result } in
    cut-at_start c.args.parts.journal c.args.batch.first c.args.batch.updates.now (vec_len c.args.workers.now) cut
    c.new-shares.ensures.items c.new-ended.ensures.items

pub tell_all-requires : goal.tell_all-requires
tell_all-requires g c = record { table = c.open_desks-desks.ensures.table c.args.parts.words c.requires.table }

pub run_desks-parts-requires-clause-nothing : goal.run_desks-parts-requires-clause-nothing
run_desks-parts-requires-clause-nothing g c κs within =
    subst (All (λ (w : Work). w ≡ idle)) (sym c.tell_all.ensures.works)
    (All-map (λ (w : Work). w ≡ idle) (λ (d : Desked). d.work) c.open_desks-desks.result.items c.open_desks-desks.ensures.nothing)

pub run_desks-parts-requires-clause-numbers : goal.run_desks-parts-requires-clause-numbers
run_desks-parts-requires-clause-numbers g c κs within =
    subst (λ (p : Parted). length p.journal.entries + length c.args.batch.updates.now ≤ LAST_NUMBER) (sym c.tell_all.ensures.same) c.requires.numbers

pub run_desks-parts-requires-clause-some : goal.run_desks-parts-requires-clause-some
run_desks-parts-requires-clause-some g c κs within =
    (omega (arith, told-many g c, c.requires.workers.0), omega (arith, told-many g c, c.requires.workers.1))

pub close_desks-shares-requires-clause-workers : goal.close_desks-shares-requires-clause-workers
close_desks-shares-requires-clause-workers g c = (
  c.open_desks-desks.ensures.workers.0,
  omega (
    arith,
    told-many g (goal.at.close_desks-shares-requires-clause-workers g c).After-tell_all,
    c.run_desks-parts.ensures.as_many,
    c.open_desks-desks.ensures.workers.1,
  ),
)

pub close_desks-shares-requires-clause-shares : goal.close_desks-shares-requires-clause-shares
close_desks-shares-requires-clause-shares g c = (
  c.in-Ok-Ok.ensures'.items,
  omega (
    arith,
    told-many g (goal.at.close_desks-shares-requires-clause-shares g c).After-tell_all,
    c.run_desks-parts.ensures.as_many,
    c.in-Ok-Ok.ensures'.capacity,
    c.len-count.ensures,
  ),
)

pub close_desks-shares-requires-clause-few : goal.close_desks-shares-requires-clause-few
close_desks-shares-requires-clause-few g c =
    omega (
      arith,
      told-many g (goal.at.close_desks-shares-requires-clause-few g c).After-tell_all,
      c.run_desks-parts.ensures.as_many,
      c.requires.workers.1,
    )

pub returns-in-Ok-clause-done : goal.returns-in-Ok-clause-done
returns-in-Ok-clause-done g c =
    let parts = c.run_desks-parts.result.0 in
    let desks = c.run_desks-parts.result.1.items in
    let before : Parted = c.tell_all.new.parts in
    let batch = c.args.batch.updates.now in
    let done : BatchDone = record { shares = c.close_desks-shares.result; ended = c.run_desks-parts.result.2 } in
    let worked = c.run_desks-parts.ensures.worked in
    let whole = IfOk-at_ok (λ _. AreAllBelow (length batch) worked.0) c.in-Ok.is worked.2 in
    let free = IfOk-at_ok (λ _. All (λ (d : Desked). d.work.left ≡ Nothing) desks) c.in-Ok.is c.run_desks-parts.ensures.nothing in
    subst (λ (p : Parted). IsBatchDone p.journal parts.journal c.args.batch.first batch (vec_len c.args.workers.now) done) c.tell_all.ensures.same
    (done-so before.journal parts.journal c.args.batch.first batch desks worked.0 (vec_len c.args.workers.now) done worked.3 whole free
    c.close_desks-shares.ensures.done c.close_desks-shares.ensures.untold
    (omega (
      arith,
      told-many g (goal.at.returns-in-Ok-clause-done g c).After-tell_all,
      c.run_desks-parts.ensures.as_many,
      c.close_desks-shares.ensures.one_each,
      c.close_desks-shares.result.ok.0,
    ))
    c.close_desks-shares.ensures.numbered)

pub returns-in-Err-clause-cut_short : goal.returns-in-Err-clause-cut_short
returns-in-Err-clause-cut_short g c =
    let parts = c.run_desks-parts.result.0 in
    let desks = c.run_desks-parts.result.1.items in
    let before : Parted = c.tell_all.new.parts in
    let batch = c.args.batch.updates.now in
    let cut : CutShort = record { shares = c.close_desks-shares.result; ended = c.run_desks-parts.result.2 } in
    let worked = c.run_desks-parts.ensures.worked in
    subst (λ (p : Parted). IsCutShort p.journal parts.journal c.args.batch.first batch (vec_len c.args.workers.now) cut) c.tell_all.ensures.same
    (cut-so before.journal parts.journal c.args.batch.first batch desks worked.0 (vec_len c.args.workers.now) cut worked.3 worked.1.once
    c.close_desks-shares.ensures.done c.close_desks-shares.ensures.untold
    (omega (
      arith,
      told-many g (goal.at.returns-in-Err-clause-cut_short g c).After-tell_all,
      c.run_desks-parts.ensures.as_many,
      c.close_desks-shares.ensures.one_each,
      c.close_desks-shares.result.ok.0,
    ))
    c.close_desks-shares.ensures.numbered)

pub returns-in-Ok-clause-as_many : goal.returns-in-Ok-clause-as_many
returns-in-Ok-clause-as_many g c =
    omega (
      arith,
      told-many g (goal.at.returns-in-Ok-clause-as_many g c).After-tell_all,
      workers-many c.close_desks-shares.new.workers.items c.run_desks-parts.result.1.items c.close_desks-shares.ensures.workers,
      c.run_desks-parts.ensures.as_many,
      c.run_desks-parts.result.1.ok.0,
      c.close_desks-shares.new.workers.ok.0,
    )

pub returns-in-Ok-clause-table : goal.returns-in-Ok-clause-table
returns-in-Ok-clause-table g c =
    told-tables c.close_desks-shares.new.workers.items c.run_desks-parts.result.1.items c.run_desks-parts.result.0.words
    c.run_desks-parts.result.0.journal.levels.log c.close_desks-shares.ensures.workers c.run_desks-parts.ensures.told

pub returns-in-Ok-clause-told : goal.returns-in-Ok-clause-told
returns-in-Ok-clause-told g c =
    let parts = c.run_desks-parts.result.0 in
    let Told : Seen → Type 0 = λ s. s ≡ record { table = parts.words; log = parts.journal.levels.log } in
    all-workers Told c.close_desks-shares.new.workers.items c.run_desks-parts.result.1.items c.close_desks-shares.ensures.workers
    c.run_desks-parts.ensures.told

pub returns-in-Err-clause-as_many : goal.returns-in-Err-clause-as_many
returns-in-Err-clause-as_many g c =
    omega (
      arith,
      told-many g (goal.at.returns-in-Err-clause-as_many g c).After-tell_all,
      workers-many c.close_desks-shares.new.workers.items c.run_desks-parts.result.1.items c.close_desks-shares.ensures.workers,
      c.run_desks-parts.ensures.as_many,
      c.run_desks-parts.result.1.ok.0,
      c.close_desks-shares.new.workers.ok.0,
    )

pub returns-in-Err-clause-table : goal.returns-in-Err-clause-table
returns-in-Err-clause-table g c =
    told-tables c.close_desks-shares.new.workers.items c.run_desks-parts.result.1.items c.run_desks-parts.result.0.words
    c.run_desks-parts.result.0.journal.levels.log c.close_desks-shares.ensures.workers c.run_desks-parts.ensures.told
