-- The present update is the first one with an end that is no vertex, or has two vertices.
use Rattle.std.proofs.Common.{◌<◌, refl, subst, arith}
use Rattle.std.proofs.lemmas.List.Elements.{All-more}
use Rattle.std.proofs.lemmas.Option.{slice_get_read}
use Rattle.kc_graph.specs.declared.update.Update.{Update}
use Rattle.kc_keeper.proofs.entering.first_outside.Goals as goal

pub returns-then-update-vertices : goal.returns-then-update-vertices
returns-then-update-vertices c = record {
  update = c.index-updates-place.result;
  here = slice_get_read c.args.updates.now _ c.loop-place.place _ refl c.loop-place-test.true c.index-updates-place.is;
  vertex_is = refl;
  outside = omega arith;
  before = c.loop-place.invariant;
}

pub loop-place-preserved : goal.loop-place-preserved
loop-place-preserved c =
    All-more (λ (u : Update). u.v < c.args.vertices) c.args.updates.now c.loop-place.place c.index-updates-place.result c.loop-place-test.true
    c.loop-place.invariant (subst (λ (u : Update). u.v < c.args.vertices) c.index-updates-place.is (omega arith))
