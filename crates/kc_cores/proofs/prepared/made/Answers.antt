-- The lines are those of the graph that was read.
use Rattle.std.proofs.Common.{◌≡◌, ◌∙◌, ◌++◌, List, Option, ℕ, ap, length, subst, sym}
use Rattle.std.specs.Prelude.{string_bytes}
use Rattle.kc_graph.specs.Core.{AreCoreNumbers}
use Rattle.kc_graph.specs.SimpleGraph.{SimpleGraph}
use Rattle.kc_graph.proofs.Law.{certified-core_numbers}
use Rattle.kc_lines.specs.declared.format.Format.{Format}
use Rattle.kc_lines.specs.Fields.{Label}
use Rattle.kc_wishes.specs.Requests.{query_of}
use Rattle.kc_wishes.specs.Wishes.{Asks, Query}
use Rattle.kc_wishes.specs.declared.request.Task.{Task}
use Rattle.kc_cores.specs.Answers.{AreLinesFor, labels_of, summary_line}
use Rattle.kc_cores.specs.CoresEnded.{IsAnswerTo}
use Rattle.kc_cores.specs.Inputs.{IsNamedGraphOf}
use Rattle.kc_dialect.specs.declared.skipped.SkippedLines.{SkippedLines}
use Rattle.kc_head.specs.declared.foreign.Foreign.{Foreign}
use Rattle.kc_cores.specs.Listings.{Fits, listing_lines}
use Rattle.kc_cores.specs.Sentences.{told_foreign}
use Rattle.kc_cores.specs.Skips.{told_skips}
use Rattle.kc_cores.specs.declared.listing.Listing.{Listing}
use Rattle.kc_cores.proofs.Ended.{IsAnswerTo-graph}
use Rattle.kc_cores.proofs.Graphs.{size-graph_of}
use Rattle.kc_cores.proofs.Labelled.{length-labels_of}
use Rattle.kc_cores.proofs.prepared.made.Goals as goal

-- what holds of a listing with the labels and the numbers holds where they are handed over
lines-of : (format : Format) (task : Task) (listing : Listing) (g : SimpleGraph) (labels : List Label) (core core' : List ℕ)
    → ((f : Format) (xs : List Label) → length xs ≡ g.size → AreLinesFor f task xs g core' (listing_lines f listing xs core')) → length labels ≡ g.size
    → core' ≡ core → AreLinesFor format task labels g core (listing_lines format listing labels core)
lines-of format task listing g labels core core' h size same =
    subst (λ (k : List ℕ). AreLinesFor format task labels g k (listing_lines format listing labels k)) same (h format labels size)

-- there is a label for each vertex
labels-size : (called : Option (List (List ℕ))) (ids : List ℕ) (g : SimpleGraph) → g.size ≡ length ids → length (labels_of called ids) ≡ g.size
labels-size called ids g size = length-labels_of called ids ∙ sym size

-- the lines of these labels are an answer, where these are the labels of the graph
answer-of : (query : Query) (ids core summary : List ℕ) (called : Option (List (List ℕ))) (g : SimpleGraph) (skipped : SkippedLines)
    (what : Option Foreign) (known : Option (List ℕ)) (listing : Listing) (labels : List Label) → labels ≡ labels_of called ids
    → IsNamedGraphOf query.graph.dialect known ids called g skipped what → AreCoreNumbers g core
    → AreLinesFor query.format query.task (labels_of called ids) g core (listing_lines query.format listing (labels_of called ids) core)
    → summary ≡ told_foreign query.graph.file what ++ (told_skips query.graph.file skipped.count skipped.first.items ++ summary_line g core)
    → IsAnswerTo (Asks query) known (listing_lines query.format listing labels core) summary
answer-of query ids core summary called g skipped what known listing labels same named numbers lines sums =
    subst (λ (ls : List Label). IsAnswerTo (Asks query) known (listing_lines query.format listing ls core) summary) (sym same)
    (IsAnswerTo-graph query ids core (listing_lines query.format listing (labels_of called ids) core) summary called g skipped what known
    named numbers lines sums)

pub returns-clause-ready : goal.returns-clause-ready
returns-clause-ready g c =
    let found = c.in_ok-ids.field-0 in
    let size : found.graph.size ≡ length found.ids.items =
    size-graph_of _ _ found.ids.items found.graph found.skipped c.in_ok-ids.ensures.graph.graph in
    let labels : length c.new-labels.result ≡ found.graph.size = ap length c.new-labels.ensures ∙ labels-size found.names found.ids.items found.graph size in (
      labels ∙ sym c.in_ok-core.ensures.one_each,
      subst (λ (n : ℕ). Fits n c.in_ok-listing.listing) (sym labels) c.in_ok-listing.ensures.fits,
      c.in_ok-page.ensures,
    )

pub returns-clause-answer : goal.returns-clause-answer
returns-clause-answer g c =
    let found = c.in_ok-ids.field-0 in
    let graph : SimpleGraph = found.graph in
    let ids : List ℕ = found.ids.items in
    let labels : List Label = labels_of found.names ids in
    let core : List ℕ = c.in_ok-core.field-0.core.items in
    let text : List ℕ = listing_lines c.args.request.format c.in_ok-listing.listing labels core in
    let numbers : AreCoreNumbers graph core = certified-core_numbers graph core c.in_ok-core.field-0.order.items c.in_ok-core.ensures in
    let size = size-graph_of _ _ ids graph found.skipped c.in_ok-ids.ensures.graph.graph in
    let lines : AreLinesFor c.args.request.format c.args.request.task labels graph core text =
    lines-of c.args.request.format c.args.request.task c.in_ok-listing.listing graph labels core c.deref-2.result.now c.in_ok-listing.ensures.lines
    (labels-size found.names ids graph size) c.deref-2.ensures.value in
    let skips : List ℕ =
    told_skips (query_of c.args.request).graph.file found.skipped.count found.skipped.first.items in
    let remark : List ℕ = told_foreign (query_of c.args.request).graph.file found.what in
    let sums : string_bytes c.in_ok-told.told ≡ remark ++ (skips ++ summary_line graph core) =
    c.in_ok-told.ensures ∙ ap (λ (k : List ℕ). remark ++ (skips ++ summary_line graph k)) c.deref.ensures.value in
    answer-of (query_of c.args.request) ids core (string_bytes c.in_ok-told.told) found.names graph found.skipped found.what _ c.in_ok-listing.listing
    c.new-labels.result c.new-labels.ensures c.in_ok-ids.ensures.graph numbers lines sums
