-- The root alone in the queue is a beginning that fits every view, and the turns keep what holds between two of them.
use Rattle.std.proofs.Common.{◌≡◌, ◌<◌, ◌⊎◌, ℕ, inl, inr, arith}
use Rattle.kc_graph.specs.declared.update.Update.{Update}
use Rattle.kc_view.specs.Views.{Shown}
use Rattle.kc_insert.proofs.Beginning.{begin-tidy, begin-between}
use Rattle.kc_insert.proofs.insertion.find_rising.Goals as goal

-- an end of the edge is a vertex
end-fits : (update : Update) (x n : ℕ) → (x ≡ update.u) ⊎ (x ≡ update.v) → update.v < n → x < n
end-fits update x n is l = let up : update.u < update.v = update.ordered in elim is [ inl e ↦ omega (arith, e, up, l) | inr e ↦ omega (arith, e, l) ]

pub take_turns-requires-clause-tidy : goal.take_turns-requires-clause-tidy
take_turns-requires-clause-tidy g c =
    let shown : Shown = g.V.View.shown c.args.view.now in
    let root : ℕ = c.args.root in
    begin-tidy c.args.search.update shown root c.in_ok-rising.rising c.in_ok-rising.ensures
    (end-fits c.args.search.update root shown.size c.requires.end c.requires.ends) c.requires.placed c.requires.asks

pub returns-clause-turns : goal.returns-clause-turns
returns-clause-turns g c = λ s lv a w.
    c.in_ok-take_turns.ensures.turns s c.args.root lv a w (begin-between _ c.args.root c.in_ok-rising.rising c.in_ok-rising.ensures w)
