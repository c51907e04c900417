-- The lists before the one that is looked at are current; the first that is less ends the loop.
use Rattle.std.proofs.Common.{take, drop, suc, arith, subst, take_all, refl, sym, ap, ◌∙◌, ◌++◌, ◌∷◌}
use Rattle.std.specs.Prelude.{All}
use Rattle.std.proofs.Math.Seq.{split_at}
use Rattle.std.proofs.lemmas.List.Elements.{All-more}
use Rattle.kc_agree.specs.Stale.{IsListCurrent}
use Rattle.kc_agree.proofs.stale.first_stale_list.Goals as goal

pub returns-then-list-now : goal.returns-then-list-now
returns-then-list-now c =
    let i = c.loop-list.list-index in
    let e = c.list-item.result in
    record {
      front = take i c.args.edges.now;
      list = e;
      back = drop (suc i) c.args.edges.now;
      is = split_at c.args.edges.now i e c.loop-list-test.true ∙ ap (λ x. take i c.args.edges.now ++ x ∷ drop (suc i) c.args.edges.now) (sym c.list-item.is);
      current = c.loop-list.invariant;
      less = c.if-list-now.true;
      named = refl;
    }

pub loop-list-preserved : goal.loop-list-preserved
loop-list-preserved c =
    let i = c.loop-list.list-index in
    let e = c.list-item.result in
    let current = subst (IsListCurrent c.args.edge_stamps.now) c.list-item.is (omega (arith, c.if-list-now.false)) in
    All-more (IsListCurrent c.args.edge_stamps.now) c.args.edges.now i e c.loop-list-test.true c.loop-list.invariant current

pub returns : goal.returns
returns c =
    let all = take_all c.loop-list.list-index c.args.edges.now (omega (arith, c.loop-list-test.false)) in
    subst (All (IsListCurrent c.args.edge_stamps.now)) all c.loop-list.invariant
