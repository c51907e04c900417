-- The vertices before the present one are kept.
use Rattle.std.proofs.Common.{◌≡◌, ◌≤◌, true, length, take}
use Rattle.std.specs.List.{All}
use Rattle.kc_lists.specs.Lists.{member}
use Rattle.kc_keeper.specs.Cores.{changed_vertices}
use Rattle.kc_keeper.specs.Earlier.{KeepsEarlier}
use Rattle.kc_keeper.proofs.earlier.EarlierNumbers.keep_all.Given as goal

abbrev pub invariant-loop-vertex : goal.invariant-loop-vertex
invariant-loop-vertex l = record {
  room : length l.core ≤ length l.self.places.items;
  kept : KeepsEarlier l.core l.core l.fn.self l.self;
  here : All (λ v. member v (changed_vertices l.self.cores.items) ≡ true) (take l.vertex-index l.vertices);
}
