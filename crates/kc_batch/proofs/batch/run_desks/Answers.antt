-- Before the first round nobody has entered anything.
use Rattle.std.proofs.Common.{◌≡◌, [], ℕ, All, List, refl, subst, sym, arith, length, map}
use Rattle.std.proofs.lemmas.Bool.Decides.{nat_tests}
use Rattle.std.proofs.lemmas.Result.{IfOk-weaker}
use Rattle.kc_table.specs.Log.{PassSeen}
use Rattle.kc_queue.specs.Shares.{IsShare, AreAllBelow}
use Rattle.kc_shared.specs.States.{Parted}
use Rattle.kc_batch.specs.Batches.{Account}
use Rattle.kc_batch.specs.Desks.{Desked, at_turns}
use Rattle.kc_batch.specs.declared.turns.TurnQueue.{TurnQueue}
use Rattle.kc_batch.proofs.Closing.{account-start, state-start, state-taken, idle-keeps, idle-left, none-taken, whole-none}
use Rattle.kc_batch.proofs.batch.run_desks.Goals as goal

pub returns-then-is_empty-clause-worked : goal.returns-then-is_empty-clause-worked
returns-then-is_empty-clause-worked g c =
    let j = c.args.parts.journal in
    let works = map (λ (d : Desked). d.work) c.args.desks.items in
    let batch = c.args.batch.updates.now in (
      [],
      none-taken (length batch),
      whole-none _ (let h = c.if-is_empty.ensures in grind (arith, nat_tests)),
      subst (λ (ps : List PassSeen). Account j j c.args.batch.first batch ps works []) (sym c.new.ensures.items)
          (account-start j c.args.batch.first batch works c.requires.nothing),
    )

pub returns-then-is_empty-clause-nothing : goal.returns-then-is_empty-clause-nothing
returns-then-is_empty-clause-nothing g c = idle-left c.args.desks.items c.requires.nothing

pub returns-in_default-clause-worked : goal.returns-in_default-clause-worked
returns-in_default-clause-worked g c =
    let j = c.args.parts.journal in
    let works = map (λ (d : Desked). d.work) c.args.desks.items in (
      [],
      none-taken (length c.args.batch.updates.now),
      tt,
      subst (λ (ps : List PassSeen). Account j j c.args.batch.first c.args.batch.updates.now ps works []) (sym c.new-in_default.ensures.items)
          (account-start j c.args.batch.first c.args.batch.updates.now works c.requires.nothing),
    )

pub returns-in_default-order_of-clause-worked : goal.returns-in_default-order_of-clause-worked
returns-in_default-order_of-clause-worked g c =
    let j = c.args.parts.journal in
    let works = map (λ (d : Desked). d.work) c.args.desks.items in (
      [],
      none-taken (length c.args.batch.updates.now),
      tt,
      subst (λ (ps : List PassSeen). Account j j c.args.batch.first c.args.batch.updates.now ps works []) (sym c.new-in_default-order_of.ensures.items)
          (account-start j c.args.batch.first c.args.batch.updates.now works c.requires.nothing),
    )

pub work_off-state-requires : goal.work_off-state-requires
work_off-state-requires g c κs within =
    let parts : Parted = c.args.parts in
    let desks = c.args.desks.items in
    let table : parts.journal.levels.table ≡ parts.words =
    subst (λ (p : Parted). p.journal.levels.table ≡ p.words) c.parts.view_is c.parts.invariant.table in
    let batch = c.args.batch.updates.now in
    let turns : TurnQueue = record { batch = c.args.batch; queue = c.in-Ok.queue; order = c.in-Ok-order_of.order } in
    let count : turns.queue.count ≡ length batch = omega (arith, c.in-Ok.ensures.count) in
    let order = subst (λ (n : ℕ). AreAllBelow n turns.order.items) (sym count) c.in-Ok-order_of.ensures.order in (
      within.0,
      (
        within.1,
        (
          c.type_bounds.sync-G,
          (
            c.type_bounds.sync-R,
            (
              state-start parts c.args.batch.first batch turns desks c.in-Ok.consumer table c.requires.told c.requires.nothing c.in-Ok.ensures.consumer order,
              (
                idle-keeps _ desks c.requires.nothing,
                (
                  c.requires.some,
                  (c.requires.numbers, (record { count = count; order = order; indices = c.requires.indices }, c.requires.within)),
                ),
              ),
            ),
          ),
        ),
      ),
    )

pub returns-clause-worked : goal.returns-clause-worked
returns-clause-worked g c =
    let off = c.work_off-state in
    let turns : TurnQueue = record { batch = c.args.batch; queue = c.in-Ok.queue; order = c.in-Ok-order_of.order } in
    let places : List ℕ = at_turns turns.order.items off.result.0.consumer.taken in
    let count : turns.queue.count ≡ length c.args.batch.updates.now = omega (arith, c.in-Ok.ensures.count) in (
      places,
      subst (λ (n : ℕ). IsShare n places) count (state-taken off.ensures.state),
      IfOk-weaker off.result.2 _ _ (λ _ whole. subst (λ (n : ℕ). AreAllBelow n places) count whole.0) off.ensures.whole,
      off.ensures.state.account,
    )
