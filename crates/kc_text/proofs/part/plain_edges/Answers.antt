-- The next line tells the next edge.
use Rattle.std.proofs.Common.{◌++◌, ◌∙◌, ap, sym}
use Rattle.kc_text.specs.Forms.{all_said}
use Rattle.kc_text.specs.TellingLines.{edge_lines}
use Rattle.kc_text.proofs.PartLines.{edges-then}
use Rattle.kc_text.proofs.PlainLines.{said-edge}
use Rattle.kc_text.proofs.part.plain_edges.Goals as goal

pub loop-rest-preserved : goal.loop-rest-preserved
loop-rest-preserved c =
    let rest = all_said c.in-Some.more.now in
    c.loop-rest.invariant
    ∙ (ap (λ t. edge_lines c.loop-rest.edges.items ++ t) (said-edge c.loop-rest.rest.now c.in-Some.a c.in-Some.b c.in-Some.more.now c.in-Some.ensures)
    ∙ (edges-then c.loop-rest.edges.items c.in-Some.a c.in-Some.b rest ∙ sym (ap (λ t. edge_lines t ++ rest) c.in_ok-push.ensures.items)))
