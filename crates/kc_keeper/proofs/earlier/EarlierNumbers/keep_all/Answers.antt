-- One vertex more is kept, and those before it stay.
use Rattle.std.proofs.Common.{◌≡◌, ℕ, true, refl, subst, arith}
use Rattle.std.specs.List.{All}
use Rattle.std.proofs.lemmas.List.{take_all}
use Rattle.std.proofs.lemmas.List.Elements.{All-more}
use Rattle.kc_lists.specs.Lists.{member}
use Rattle.kc_keeper.specs.Cores.{changed_vertices}
use Rattle.kc_keeper.proofs.earlier.EarlierNumbers.keep_all.Goals as goal

pub loop-vertex-preserved : goal.loop-vertex-preserved
loop-vertex-preserved c =
    let old = c.loop-vertex.invariant in
    let Kept : ℕ → Type 0 = λ v. member v (changed_vertices c.keep.new.self.cores.items) ≡ true in
    record {
      room = omega (arith, old.room, c.in_ok-keep.ensures.room);
      kept = λ start h.
          c.in_ok-keep.ensures.kept c.args.core.now (c.requires c.loop-vertex.vertex-index 0 c.loop-vertex-test.true) refl start (old.kept start h);
      here = All-more Kept c.args.vertices.now c.loop-vertex.vertex-index 0 c.loop-vertex-test.true
          (λ k d low. c.in_ok-keep.ensures.stay _ (old.here k d low)) c.in_ok-keep.ensures.here;
    }

pub returns-clause-here : goal.returns-clause-here
returns-clause-here c =
    let Kept : ℕ → Type 0 = λ v. member v (changed_vertices c.loop-vertex.self.cores.items) ≡ true in
    subst (All Kept) (take_all c.loop-vertex.vertex-index c.args.vertices.now c.loop-vertex-test.false) c.loop-vertex.invariant.here
