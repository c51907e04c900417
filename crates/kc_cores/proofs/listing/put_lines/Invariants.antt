-- The lines at the places so far have gone on.
use Rattle.std.proofs.Common.{◌≡◌}
use Rattle.std.specs.List.{flat_map}
use Rattle.kc_flat.specs.Listing.{ascending_below}
use Rattle.kc_cores.specs.Listings.{line_at}
use Rattle.kc_lines.specs.Pages.{PassesOn}
use Rattle.kc_cores.proofs.listing.put_lines.Given as goal

abbrev pub invariant-loop-place : goal.invariant-loop-place
invariant-loop-place g l = record {
  passes : PassesOn (g.O.Sink.taken l.fn.out) (g.O.Sink.taken l.out) l.fn.page l.page
      (flat_map (line_at l.format l.listing l.vertices.labels.now l.vertices.core.now) (ascending_below l.place));
  faultless : g.O.Sink.faults l.out ≡ g.O.Sink.faults l.fn.out;
}
