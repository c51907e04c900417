-- The input was looked at, and the graph is that of what was read then.
use Rattle.std.proofs.Common.{ℕ, List, IfErr, subst, sym}
use Rattle.kc_wishes.specs.Requests.{text_of}
use Rattle.kc_cores.specs.Endings.{HasNoGraph}
use Rattle.kc_cores.specs.Inputs.{IsLookedAt}
use Rattle.kc_cores.proofs.reading.graph_from.Goals as goal

pub returns-clause-graph : goal.returns-clause-graph
returns-clause-graph g c =
    let known = g.I.Source.left c.args.input.now in
    let left = g.I.Source.left c.look.new.input in
    c.graph_behind.ensures.graph known
    (subst (λ (h : List ℕ). IsLookedAt c.args.text.dialect known left h) (sym c.deref.ensures.value) c.in_ok-head.ensures.looked)

pub returns-clause-stopped : goal.returns-clause-stopped
returns-clause-stopped g c =
    let known = g.I.Source.left c.args.input.now in
    let left = g.I.Source.left c.look.new.input in
    subst (λ (f : ℕ). IfErr c.graph_behind.result (λ ending. HasNoGraph ending (text_of c.args.text) known f (g.I.Source.faults c.graph_behind.new.source)))
    c.in_ok-head.ensures.faultless
    (c.graph_behind.ensures.stopped known
    (subst (λ (h : List ℕ). IsLookedAt c.args.text.dialect known left h) (sym c.deref.ensures.value) c.in_ok-head.ensures.looked))
