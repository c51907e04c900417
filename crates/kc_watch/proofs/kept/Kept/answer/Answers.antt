-- The core numbers are those of the keeper's graph, one for each vertex, and so are the layers where the answer speaks of them.
use Rattle.std.proofs.Common.{◌≡◌, ◌++◌, [], arith, length, take, ap, ap₂, ◌∙◌, ℕ, List, Option, sym, subst}
use Rattle.std.specs.Prelude.{OnOk, unwrap_or}
use Rattle.kc_reply.specs.Facts.{Fact}
use Rattle.kc_reply.specs.Texts.{fact_text}
use Rattle.kc_answers.specs.Answers.{answer_to}
use Rattle.kc_answers.proofs.Needs.{answer-needs}
use Rattle.kc_graph.specs.SimpleGraph.{SimpleGraph}
use Rattle.kc_watch.specs.Accounts.{core_numbers_of, layers_of}
use Rattle.kc_watch.proofs.Accounts.{layers-are, numbers-alone}
use Rattle.kc_watch.proofs.kept.Kept.answer.Goals as goal

pub put_answer-requires-clause-known : goal.put_answer-requires-clause-known
put_answer-requires-clause-known c =
    omega (
      arith,
      c.core_numbers-core.ensures.seidman.one_each,
      ap (λ (g : SimpleGraph). g.size) c.keep_layers_for.ensures.graph,
      c.requires,
    )

pub put_answer-requires-clause-layered : goal.put_answer-requires-clause-layered
put_answer-requires-clause-layered c = λ needs.
    ap length (c.layers.ensures ∙ ap (λ (o : Option (List ℕ)). unwrap_or o []) (c.in_ok-keep_layers_for.ensures.layers needs))
    ∙ (layers-are c.keep_layers_for.new.self.keeper.graph).one_each ∙ sym c.core_numbers-core.ensures.seidman.one_each

pub returns-clause-ok : goal.returns-clause-ok
returns-clause-ok c =
    let core : List ℕ = c.core_numbers-core.result.now in
    let ids : List ℕ = c.args.ids.now in
    let g : SimpleGraph = c.keep_layers_for.new.self.keeper.graph in
    let text : SimpleGraph → Fact = λ (h : SimpleGraph). answer_to c.args.question (take h.size ids) (core_numbers_of h) (layers_of h) in
    let same : answer_to c.args.question (take (length core) ids) core c.layers.result.now ≡ text g =
    answer-needs c.args.question (take (length core) ids) core c.layers.result.now (layers_of g)
    (λ needs. c.layers.ensures ∙ ap (λ (o : Option (List ℕ)). unwrap_or o []) (c.in_ok-keep_layers_for.ensures.layers needs))
    ∙ ap₂ (λ (n : ℕ) (l : List ℕ). answer_to c.args.question (take n ids) l (layers_of g)) c.core_numbers-core.ensures.seidman.one_each
    (numbers-alone g core c.core_numbers-core.ensures.seidman) in
    subst (λ (t : Fact). OnOk c.put_answer.result (c.put_answer.new.out.items ≡ c.args.out.now.items ++ fact_text c.args.format t))
    (same ∙ ap text c.keep_layers_for.ensures.graph) c.put_answer.ensures.ok
