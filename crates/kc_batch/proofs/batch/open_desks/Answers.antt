-- The first of the workers that are left gets the next desk.
use Rattle.std.proofs.Common.{◌≡◌, ◌∙◌, [], List, ap, length, subst, sym, arith}
use Rattle.std.specs.Prelude.{All}
use Rattle.std.proofs.lemmas.Grind.{common_steps}
use Rattle.std.proofs.lemmas.List.Elements.{All-head, All-push, All-tail}
use Rattle.std.specs.Vec.Iter.{drain_items}
use Rattle.kc_batch.specs.Desks.{Desked, Work}
use Rattle.kc_batch.specs.declared.left.Left.TheVariants.{Nothing}
use Rattle.kc_table.specs.Log.{Seen, TableName}
use Rattle.kc_batch.proofs.batch.open_desks.Goals as goal

pub loop-worker-preserved : goal.loop-worker-preserved
loop-worker-preserved c =
    let at = c.loop-worker.invariant in
    let k = c.in-Some.ensures.steps in
    let rest : List Seen = drain_items c.next.new.self in
    let short = ap (λ (z : List Seen). length z) k.0 in
    let Empty : Desked → Type 0 = λ d. d.work ≡ record { done = []; left = Nothing } in
    let none : ◌≡◌ {A = Work} (record { done = c.new.result.items; left = Nothing }) (record { done = []; left = Nothing }) =
    ap (λ done. record { done = done; left = Nothing }) c.new.ensures.items in
    record {
      drains = (k.2.0 ∙ at.drains.0, k.2.1 ∙ at.drains.1, k.2.2 ∙ at.drains.2);
      long = omega (arith, at.long, short, k.1);
      count = omega (arith, at.count, k.1, c.push_reserved.ensures.len);
      room = omega (arith, at.room, k.1, c.push_reserved.ensures.len, c.push_reserved.ensures.capacity);
      table = λ t all.
          let Of : Seen → Type 0 = λ w. w.table ≡ t in
          let At : Desked → Type 0 = λ d. d.seen.table ≡ t in
          let both = at.table t all in
          let before = subst (All Of) k.0 both.0 in (
            All-tail Of c.in-Some.worker rest before,
            subst (All At) (sym c.push_reserved.ensures.items)
                (All-push At c.loop-worker.desks.items _ both.1 (All-head Of c.in-Some.worker rest before)),
          );
      nothing = subst (All Empty) (sym c.push_reserved.ensures.items) (All-push Empty c.loop-worker.desks.items _ at.nothing none);
    }

pub returns-clause-table : goal.returns-clause-table
returns-clause-table c = λ t all.
    let is : c.args.workers.now.items ≡ drain_items c.into_iter-worker-iterator.result = grind (arith, common_steps) in
    (c.loop-worker.invariant.table t (subst (All (λ (w : Seen). w.table ≡ t)) is all)).1
