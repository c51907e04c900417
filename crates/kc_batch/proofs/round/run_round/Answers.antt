-- What the seats have made is what the desks have made.
use Rattle.std.proofs.Common.{◌≡◌, ◌∙◌, ◌+◌, ◌++◌, ℕ, All, List, length, map, ap, subst, sym, arith}
use mathlib.Core.List.{IsPrefix}
use Rattle.kc_table.specs.declared.view.Event.{Event}
use Rattle.kc_table.specs.declared.entry.Entry.{Entry}
use Rattle.kc_journal.specs.Journals.{Journalled}
use Rattle.kc_shared.specs.States.{Parted}
use Rattle.kc_table.specs.Log.{Opened}
use Rattle.kc_batch.specs.Desks.{Desked, Work, at_turns}
use Rattle.kc_batch.specs.Seats.{CanGoOn, Rounds, Seated, all_taken, amounts, desk_of}
use Rattle.kc_batch.specs.declared.state.BatchState.{BatchState}
use Rattle.kc_batch.proofs.Rounding.{Steps, seat-consumers, legal_in, ready-seats, round-made, seats-many, written-all}
use Rattle.kc_batch.proofs.Turning.{turned-append}
use Rattle.kc_batch.proofs.round.run_round.Given.{Over}
use Rattle.kc_batch.proofs.round.run_round.Goals.{After-deref_mut}
use Rattle.kc_batch.proofs.round.run_round.Goals as goal

-- what the round's table opened with
abbrev opening : Over → Opened
opening g = g.K.Name.opened

-- who is seated may go on
seats-ready : (g : Over) (c : After-deref_mut g)
    → All (CanGoOn (opening g) g.K.Name.log (length c.args.turns.now.batch.updates.now)) c.take_seats-seats.result.items
seats-ready g c =
    let n = g.K.Name in
    let j : Journalled = c.state.inside.0.0.journal in
    let table : j.levels.table ≡ n.opened.table = c.state.invariant.table ∙ (ap (λ (k : BatchState). k.parts.words) c.state.view_is ∙ c.requires.words) in
    let log : j.levels.log ≡ n.log = ap (λ (k : BatchState). k.parts.journal.levels.log) c.state.view_is ∙ c.requires.now.0 in
    ready-seats (opening g) n.log (length c.args.turns.now.batch.updates.now) n.opened.table c.take_seats-seats.result.items c.args.state.desks.items
    c.take_seats-seats.ensures.seated c.requires.told c.requires.keeps (legal_in n.opened.table n.log j c.recall_stands.ensures table log)

pub work_all-requires-clause-ready : goal.work_all-requires-clause-ready
work_all-requires-clause-ready g c κs within =
    subst (All (CanGoOn (opening g) g.K.Name.log (length c.args.turns.now.batch.updates.now))) (sym c.deref_mut.ensures.value) (seats-ready g c)

pub leave_seats-requires-clause-seats : goal.leave_seats-requires-clause-seats
leave_seats-requires-clause-seats g c =
    let turns = c.args.turns.now in
    let batch = turns.batch.updates.now in
    let worked = written-all (Steps (opening g) g.K.Name.log turns.batch.first batch turns.order.items) c.take_seats-seats.result.items
    c.work_all.new.seats c.take_seats-seats.result.len c.deref_mut.ensures.value c.work_all.ensures.works (omega (arith, c.take_seats-seats.result.ok.0)) in
    subst (All (λ (s : Seated). (s.consumer.queue ≡ turns.queue) × (s.consumer.parts ≡ 1))) (sym worked.1)
    (seat-consumers (opening g) g.K.Name.log g.K.Name.log turns.batch.first batch turns.order.items (length batch) turns.queue
    c.take_seats-seats.result.items c.work_all.new.seats worked.0 c.take_seats-seats.ensures.fresh)

pub leave_seats-requires-clause-room : goal.leave_seats-requires-clause-room
leave_seats-requires-clause-room g c = (
  c.take_seats-seats.ensures.desks.0,
  omega (arith, c.take_seats-seats.ensures.desks.1, seats-many c.take_seats-seats.result.items c.args.state.desks.items c.take_seats-seats.ensures.seated),
)

pub into_parts-parts-requires : goal.into_parts-parts-requires
into_parts-parts-requires g c =
    omega (
      arith,
      c.leave_seats.ensures.part.0,
      c.take_seats-seats.ensures.part.0,
      c.requires.ledger,
      seats-many c.take_seats-seats.result.items c.args.state.desks.items c.take_seats-seats.ensures.seated,
    )

pub returns-clause-quiet : goal.returns-clause-quiet
returns-clause-quiet g c =
    let before = c.args.state.parts.journal in
    let goes = c.into_parts-parts.ensures.goes_on in
    let Quiet : Parted → Type 0 = λ p. length p.journal.entries ≡ length before.entries → p.journal.levels.log ≡ before.levels.log in
    subst Quiet (sym c.tell_all.ensures.same)
    (λ same. goes.quiet (omega (arith, same, goes.counted, ap (λ (z : List Entry). length z) c.requires.now.1)) ∙ sym c.requires.now.0)

pub returns-clause-told : goal.returns-clause-told
returns-clause-told g c =
    let log : c.into_parts-parts.result.journal.levels.log ≡ c.tell_all.new.parts.journal.levels.log =
    ap (λ (p : Parted). p.journal.levels.log) (sym c.tell_all.ensures.same) in
    λ k d l. c.tell_all.ensures.told k d l ∙ (λ i. record { table = c.into_parts-parts.ensures.words i; log = log i })

pub returns-clause-rounds : goal.returns-clause-rounds
returns-clause-rounds g c =
    let n = g.K.Name in
    let turns = c.args.turns.now in
    let batch = turns.batch.updates.now in
    let order = turns.order.items in
    let news : List Seated = c.work_all.new.seats in
    let before : List Desked = c.args.state.desks.items in
    let told : List Desked = c.tell_all.new.desks.items in
    let before_turns : List ℕ = c.args.state.consumer.taken in
    let after_turns : List ℕ = c.leave_seats.new.consumer.taken in
    let after : List ℕ = at_turns order after_turns in
    let made : ℕ = c.leave_seats.new.part.amount in
    let log : List Event = c.into_parts-parts.result.journal.levels.log in
    let goes = c.into_parts-parts.ensures.goes_on in
    let Works : List Desked → List Work = λ ds. map (λ (d : Desked). d.work) ds in
    let worked = written-all (Steps (opening g) n.log turns.batch.first batch order) c.take_seats-seats.result.items news
    c.take_seats-seats.result.len c.deref_mut.ensures.value c.work_all.ensures.works (omega (arith, c.take_seats-seats.result.ok.0)) in
    let desks : c.leave_seats.new.desks.items ≡ map desk_of news =
    c.leave_seats.ensures.desks ∙ ap (λ (z : List Seated). map desk_of z) worked.1 in
    let legal =
    legal_in n.opened.table log c.parts.inside.journal c.recall_stands-2.ensures (ap (λ (p : Parted). p.journal.levels.table) c.parts.view_is ∙ goes.table)
    (ap (λ (p : Parted). p.journal.levels.log) c.parts.view_is) in
    let total : made ≡ amounts news =
    omega (arith, c.leave_seats.ensures.part.1, c.take_seats-seats.ensures.part.1, ap (λ (z : List Seated). amounts z) worked.1) in
    let took : after_turns ≡ before_turns ++ all_taken news =
    c.leave_seats.ensures.all.2 ∙ (λ i. c.take_seats-seats.ensures.left.2 i ++ all_taken (worked.1 i)) in
    let taken_so : after ≡ at_turns order before_turns ++ at_turns order (all_taken news) =
    ap (at_turns order) took ∙ turned-append order before_turns (all_taken news) in
    let r : Rounds (opening g) n.log log turns.batch.first batch (Works before) (Works told) (at_turns order before_turns) after made =
    round-made (opening g) n.log log turns.batch.first batch order (length batch) turns.queue c.take_seats-seats.result.items news before told
    (at_turns order before_turns) after made legal c.take_seats-seats.ensures.seated worked.0 c.take_seats-seats.ensures.fresh
    (seats-ready g (goal.at.returns-clause-rounds g c).After-deref_mut) (subst (All (λ (d : Desked). IsPrefix d.seen.log log)) desks c.tell_all.ensures.longer)
    (c.tell_all.ensures.works ∙ ap Works desks) taken_so total in
    let Made : Parted → Type 0 = λ p.
    (made : ℕ) × (length p.journal.entries ≡ length c.args.state.parts.journal.entries + made)
    × Rounds (opening g) n.log p.journal.levels.log turns.batch.first batch (Works before) (Works told) (at_turns order before_turns) after made in
    subst Made (sym c.tell_all.ensures.same) (made, omega (arith, goes.counted, ap (λ (z : List Entry). length z) c.requires.now.1), r)

pub returns-clause-consumer : goal.returns-clause-consumer
returns-clause-consumer g c = (
  c.leave_seats.ensures.all.0,
  omega (
    arith,
    c.leave_seats.ensures.all.1,
    c.take_seats-seats.ensures.left,
    c.requires.consumer,
    seats-many c.take_seats-seats.result.items c.args.state.desks.items c.take_seats-seats.ensures.seated,
  ),
  c.leave_seats.ensures.share,
)
