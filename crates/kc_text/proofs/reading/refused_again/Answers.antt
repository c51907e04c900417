-- All lines that tell something were read, with a count of the ids at each.
use Rattle.std.proofs.Common.{◌≡◌, List, [], true, map, refl, ◌∙◌, inl, Vec, Global}
use Rattle.std.specs.Prelude.{is_some}
use Rattle.std.specs.List.{flat_map}
use Rattle.kc_text.specs.declared.change.ChangeLine.{ChangeLine}
use Rattle.kc_text.specs.Readers.{told_by}
use Rattle.kc_text.specs.Readings.{Reads}
use Rattle.kc_text.specs.TellingLines.{lines_of_batch, edge_lines, lines_of}
use Rattle.kc_text.proofs.Again.{again-few}
use Rattle.kc_text.proofs.ReadLines.{read-outcome, reads-then}
use Rattle.kc_text.proofs.reading.refused_again.Goals as goal

pub returns-clause-refused : goal.returns-clause-refused
returns-clause-refused c =
    let bs : List (List ChangeLine) = map (λ (batch : Vec ChangeLine Global). batch.items) c.args.batches.now in
    let reads : Reads c.args.limits.now c.take_batches.new.self (lines_of c.args.edges.now bs) = reads-then c.args.limits.now c.new-again.result
    c.take_edges.new.self c.take_batches.new.self (edge_lines c.args.edges.now) (flat_map lines_of_batch bs) (lines_of c.args.edges.now bs) refl
    c.in_ok-take_edges.ensures.reads c.in_ok-take_batches.ensures.reads [] (c.new-again.ensures.reads c.args.limits.now) in
    let exact : is_some c.take_batches.new.self.reader.ids ≡ true = c.in_ok-take_batches.ensures.looks
    ∙ (c.in_ok-take_edges.ensures.looks ∙ c.new-again.ensures.looks) in
    (told_by c.take_batches.new.self.reader, read-outcome c.args.limits.now c.take_batches.new.self (lines_of c.args.edges.now bs) reads (inl exact))

pub returns-clause-few : goal.returns-clause-few
returns-clause-few c = λ none.
    let bs : List (List ChangeLine) = map (λ (batch : Vec ChangeLine Global). batch.items) c.args.batches.now in
    let reads : Reads c.args.limits.now c.take_batches.new.self (lines_of c.args.edges.now bs) = reads-then c.args.limits.now c.new-again.result
    c.take_edges.new.self c.take_batches.new.self (edge_lines c.args.edges.now) (flat_map lines_of_batch bs) (lines_of c.args.edges.now bs) refl
    c.in_ok-take_edges.ensures.reads c.in_ok-take_batches.ensures.reads [] (c.new-again.ensures.reads c.args.limits.now) in
    let exact : is_some c.take_batches.new.self.reader.ids ≡ true = c.in_ok-take_batches.ensures.looks
    ∙ (c.in_ok-take_edges.ensures.looks ∙ c.new-again.ensures.looks) in
    again-few c.args.limits.now c.take_batches.new.self (lines_of c.args.edges.now bs) reads exact none
