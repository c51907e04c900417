-- Where all is settled, what was reached is the run.
use Rattle.std.proofs.Common.{ap, ◌∙◌}
use Rattle.kc_lists.specs.Lists.{member}
use Rattle.kc_table.proofs.Prefixes.{prefix_self}
use Rattle.kc_topo.proofs.Trails.{run-of}
use Rattle.kc_topo.proofs.searching.find_run.Goals as goal

pub returns-in_ok-in_list_order-in-None-clause-run : goal.returns-in_ok-in_list_order-in-None-clause-run
returns-in_ok-in_list_order-in-None-clause-run c =
    let seen = c.args.writer.now in
    run-of seen c.args.a c.args.b c.search.new.reached c.in_ok-in_list_order-in-None.field-0.items
    (c.requires.keeps.dag seen.log (prefix_self seen.log)).topological c.in_ok-place.ensures.trail (rw c.in-None.is at c.in_ok-place.ensures.found)
    c.in_ok-in_list_order-in-None.ensures.turn (λ v. c.in_ok-in_list_order-in-None.ensures.members v ∙ ap (member v) c.vertices.ensures.are)
