-- The line at a place goes on behind those before it.
use Rattle.std.proofs.Common.{◌≡◌, ◌+◌, ◌<◌, ◌∙◌, ◌++◌, ℕ, List, ap, append_assoc, arith, length, subst, sym}
use Rattle.std.specs.List.{flat_map}
use Rattle.kc_flat.specs.Listing.{ascending_below}
use Rattle.kc_flat.proofs.Listed.{flat_map-next}
use Rattle.kc_cores.specs.Listings.{line_at, listing_lines, places}
use Rattle.kc_cores.specs.declared.listing.Listing.{Listing}
use Rattle.kc_lines.specs.Fields.{Label}
use Rattle.kc_lines.specs.Pages.{PassesOn, PassesPart}
use Rattle.kc_lists.proofs.Results.{on_err-anyhow}
use Rattle.kc_lines.proofs.Paging.{PassesOn-trans, PassesPart-later, PassesPart-wider}
use Rattle.kc_cores.proofs.Placing.{flat_map-front}
use Rattle.kc_cores.proofs.listing.put_lines.Goals as goal

-- so many places there are for lines as the listing has for the labels
places-are : (listing : Listing) (labels : List Label) (n end : ℕ) → end ≡ places listing n → n ≡ length labels → end ≡ places listing (length labels)
places-are listing labels n end is each = is ∙ ap (places listing) each

pub put_at-requires-clause-within : goal.put_at-requires-clause-within
put_at-requires-clause-within g c =
    subst (λ (n : ℕ). c.loop-place.place < n)
    (places-are c.args.listing.now c.args.vertices.now.labels.now _ _ c.places-place-end.ensures c.len.ensures) (omega arith)

pub loop-place-preserved : goal.loop-place-preserved
loop-place-preserved g c =
    let line : ℕ → List ℕ = line_at c.args.format c.args.listing.now c.args.vertices.now.labels.now c.args.vertices.now.core.now in
    record {
      passes = subst (PassesOn (g.O.Sink.taken c.args.out.now) (g.O.Sink.taken c.put_at.new.out) c.args.page.now c.put_at.new.page)
          (sym (flat_map-next line c.loop-place.place))
          (PassesOn-trans _ _ _ c.args.page.now c.loop-place.page c.put_at.new.page (flat_map line (ascending_below c.loop-place.place))
          (line c.loop-place.place) c.loop-place.invariant.passes c.in_ok-put_at.ensures.passes);
      faultless = c.in_ok-put_at.ensures.cause.kept ∙ c.loop-place.invariant.faultless;
    }

pub returns-in_err-put_at-clause-part : goal.returns-in_err-put_at-clause-part
returns-in_err-put_at-clause-part g c =
    let line : ℕ → List ℕ = line_at c.args.format c.args.listing.now c.args.vertices.now.labels.now c.args.vertices.now.core.now in
    let front : List ℕ = flat_map line (ascending_below c.loop-place.place) in
    let (rest, is) = flat_map-front line (c.loop-place.place + 1) c.places-place-end.result (omega arith) in
    let whole : front ++ (line c.loop-place.place ++ rest)
    ≡ listing_lines c.args.format c.args.listing.now c.args.vertices.now.labels.now c.args.vertices.now.core.now =
    sym (append_assoc front (line c.loop-place.place) rest) ∙ ap (λ t. t ++ rest) (sym (flat_map-next line c.loop-place.place)) ∙ sym is
    ∙ ap (λ n. flat_map line (ascending_below n)) (places-are c.args.listing.now c.args.vertices.now.labels.now _ _ c.places-place-end.ensures c.len.ensures) in
    on_err-anyhow c.from_residual.result
    (subst (PassesPart (g.O.Sink.taken c.args.out.now) (g.O.Sink.taken c.put_at.new.out) c.args.page.now) whole
    (PassesPart-later _ _ _ c.args.page.now c.loop-place.page front (line c.loop-place.place ++ rest) c.loop-place.invariant.passes
    (PassesPart-wider _ _ c.loop-place.page (line c.loop-place.place) rest c.in_err-put_at.ensures.part)))

pub returns-clause-passes : goal.returns-clause-passes
returns-clause-passes g c =
    let line : ℕ → List ℕ = line_at c.args.format c.args.listing.now c.args.vertices.now.labels.now c.args.vertices.now.core.now in
    let last : c.loop-place.place ≡ c.places-place-end.result = omega arith in
    subst (PassesOn (g.O.Sink.taken c.args.out.now) (g.O.Sink.taken c.loop-place.out) c.args.page.now c.loop-place.page)
    (ap (λ n. flat_map line (ascending_below n))
    (last ∙ places-are c.args.listing.now c.args.vertices.now.labels.now _ _ c.places-place-end.ensures c.len.ensures))
    c.loop-place.invariant.passes
