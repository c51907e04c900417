-- By cases: the edge was there, nobody rises or is shifted, or some do; for each a lemma says that the moves are sure.
use Rattle.std.proofs.Common.{◌≡◌, ℕ, true, false, List, [], ◌++◌, sym, ◌∙◌, subst}
use Rattle.kc_lists.specs.Lists.{member}
use Rattle.kc_lists.proofs.Shared.{no_items}
use Rattle.kc_cert.specs.Local.{firsts, seconds}
use Rattle.kc_graph.specs.SimpleGraph.{adjacent}
use Rattle.kc_graph.specs.Lawful.{Ranked, IsCertified}
use Rattle.kc_view.specs.Answers.{Agrees}
use Rattle.kc_view.proofs.Asked.{cores-none}
use Rattle.kc_view.proofs.Keeping.{GoesOn-trans, answers-agreed, core-true, tells-edge}
use Rattle.kc_insert.specs.Rising.{cands}
use Rattle.kc_insert.specs.declared.rising.Rising.{Rising}
use Rattle.kc_insert.proofs.Concluding.{Concluded, first-forward, named-read, asked-forward, nobody-sure, some-sure}
use Rattle.kc_insert.proofs.Sureness.{kept-sure}
use Rattle.kc_insert.proofs.Tidy.{asks-first}
use Rattle.kc_insert.proofs.Widening.{state-widened}
use Rattle.kc_insert.proofs.insertion.moves_of.Given.{Over}
use Rattle.kc_insert.proofs.insertion.moves_of.Goals.{In_ok-rise}
use Rattle.kc_insert.proofs.insertion.moves_of.Goals as goal

-- what is known of a state that agrees, once the search is over
rise-concluded : (g : Over) (c : In_ok-rise g) (s : Ranked) → IsCertified s → Agrees (g.V.View.shown c.find_rising.new.view).kept s
    → Concluded c.args.update s c.in_ok-root.root.level c.in_ok-root.root.vertex c.in_ok-rising.rising
rise-concluded g c s h a =
    let update = c.args.update in
    let edge = c.in_ok-has_edge.ensures in
    let root = c.in_ok-root.ensures in
    let second = answers-agreed _ _ s c.find_rising.ensures.goes_on.further a in
    let first = answers-agreed _ _ s c.find_root.ensures.goes_on.further second in
    let l = (core-true (g.V.View.shown c.find_root.new.view).kept s update.v second root.placed.1).0 in
    let is_new : adjacent s.graph update.u update.v ≡ false =
    tells-edge (g.V.View.shown c.has_edge.new.view).kept s update.u update.v c.in_ok-has_edge.field-0 first edge.read l edge.told
    ∙ c.if-branch.false in
    let wide = state-widened update s c.in_ok-root.root.level c.in_ok-root.root.vertex h l is_new (root.level s second) (root.root s second) in
    record {
      certified = h;
      ends = l;
      is_new = is_new;
      is_level = root.level s second;
      is_root = root.root s second;
      between = c.in_ok-rising.ensures.turns s l a wide;
    }

pub find_root-requires-clause-asks : goal.find_root-requires-clause-asks
find_root-requires-clause-asks g c = asks-first c.args.update _ c.in_ok-has_edge.ensures.asks

pub returns-then-branch-clause-cores : goal.returns-then-branch-clause-cores
returns-then-branch-clause-cores g c = cores-none c.args.update _ c.args.update.u c.in_ok-has_edge.ensures.asks

pub returns-then-branch-clause-asked : goal.returns-then-branch-clause-asked
returns-then-branch-clause-asked g c = first-forward c.args.update _ c.in_ok-has_edge.ensures.asks

pub returns-then-branch-clause-sure : goal.returns-then-branch-clause-sure
returns-then-branch-clause-sure g c = λ s used h l a.
    let e = c.in_ok-has_edge.ensures in
    kept-sure c.args.update used s c.requires.adds h l
    (tells-edge (g.V.View.shown c.has_edge.new.view).kept s c.args.update.u c.args.update.v c.in_ok-has_edge.field-0 a e.read l e.told
    ∙ c.if-branch.true)

pub returns-in_err-rise-clause-goes_on : goal.returns-in_err-rise-clause-goes_on
returns-in_err-rise-clause-goes_on g c =
    GoesOn-trans _ _ _ (GoesOn-trans _ _ _ c.has_edge.ensures.goes_on c.find_root.ensures.goes_on) c.find_rising.ensures.goes_on

pub returns-then-is_empty-2-clause-goes_on : goal.returns-then-is_empty-2-clause-goes_on
returns-then-is_empty-2-clause-goes_on g c =
    GoesOn-trans _ _ _ (GoesOn-trans _ _ _ c.has_edge.ensures.goes_on c.find_root.ensures.goes_on) c.find_rising.ensures.goes_on

pub returns-then-is_empty-2-clause-asked : goal.returns-then-is_empty-2-clause-asked
returns-then-is_empty-2-clause-asked g c = λ s h a.
    asked-forward c.args.update _ s _ _ c.in_ok-rising.rising c.requires.adds
    (rise-concluded g (goal.at.returns-then-is_empty-2-clause-asked g c).In_ok-rise s h a) c.in_ok-rising.ensures.tidy

pub returns-then-is_empty-2-clause-sure : goal.returns-then-is_empty-2-clause-sure
returns-then-is_empty-2-clause-sure g c = λ s used h l a.
    let rise = c.in_ok-rise.rise in
    let shifts = c.in_ok-rising.rising.shifts in
    let none : cands c.in_ok-rising.rising ≡ [] =
    sym c.in_ok-rise.ensures ∙ no_items rise.items rise.len c.is_empty.result (sym rise.ok.0) c.is_empty.ensures c.if-is_empty.true in
    let still : shifts.items ≡ [] =
    no_items shifts.items shifts.len c.is_empty-then-is_empty.result (sym shifts.ok.0) c.is_empty-then-is_empty.ensures
    c.if-is_empty-2.true in
    nobody-sure c.args.update used s _ _ c.in_ok-rising.rising c.requires.adds
    (rise-concluded g (goal.at.returns-then-is_empty-2-clause-sure g c).In_ok-rise s h a) c.in_ok-rising.ensures.ended none still

pub returns-clause-goes_on : goal.returns-clause-goes_on
returns-clause-goes_on g c = GoesOn-trans _ _ _ (GoesOn-trans _ _ _ c.has_edge.ensures.goes_on c.find_root.ensures.goes_on) c.find_rising.ensures.goes_on

pub returns-clause-asked : goal.returns-clause-asked
returns-clause-asked g c = λ s h a.
    asked-forward c.args.update _ s _ _ c.in_ok-rising.rising c.requires.adds
    (rise-concluded g (goal.at.returns-clause-asked g c).In_ok-rise s h a) c.in_ok-rising.ensures.tidy

pub returns-clause-named : goal.returns-clause-named
returns-clause-named g c = λ x m.
    let r : Rising = c.in_ok-rising.rising in
    named-read c.args.update (g.V.View.shown c.find_rising.new.view) r x c.in_ok-rising.ensures.tidy
    (subst (λ (xs : List ℕ). member x ((xs ++ firsts r.shifts.items) ++ seconds r.shifts.items) ≡ true) c.in_ok-rise.ensures m)

pub returns-clause-sure : goal.returns-clause-sure
returns-clause-sure g c = λ s used h l a.
    some-sure c.args.update used s _ _ c.in_ok-rising.rising c.in_ok-rise.rise c.requires.adds
    (rise-concluded g (goal.at.returns-clause-sure g c).In_ok-rise s h a)
    c.in_ok-rising.ensures.tidy.orderly c.in_ok-rising.ensures.ended c.in_ok-rise.ensures
