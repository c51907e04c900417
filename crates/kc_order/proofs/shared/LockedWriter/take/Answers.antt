-- The pass was told the log right before the take and right after it.
use Rattle.std.proofs.Common.{◌≡◌, ◌∙◌, ap, subst, sym}
use Rattle.kc_table.specs.Log.{PassSeen, Seen}
use Rattle.kc_order.specs.Writers.{Takes}
use Rattle.kc_order.proofs.shared.LockedWriter.take.Goals as goal

pub returns-clause-taken : goal.returns-clause-taken
returns-clause-taken g c =
    let table = c.look.new.self.of_table in
    let before : c.look.new.self.writer ≡ record { table = g.K.Name.opened.table; log = c.look.new.pass.log } =
    λ i. record { table = table i; log = sym (ap (λ (p : PassSeen). p.log) c.look.ensures.pass) i } in
    let after : c.take.new.self ≡ record { table = g.K.Name.opened.table; log = c.tell.new.pass.log } =
    λ i. record { table = (c.take.ensures.ends.table ∙ table) i; log = sym (ap (λ (p : PassSeen). p.log) c.tell.ensures.pass) i } in
    record {
      before = c.look.new.pass.log;
      longer = c.look.ensures.longer;
      listed = c.in_ok-look.ensures.ready.listed;
      left = c.in_ok-look.ensures.ready.left;
      takes = subst (λ (z : Seen × Seen). Takes z.0 z.1 c.args.x) (λ i. (before i, after i)) c.take.ensures;
    }
