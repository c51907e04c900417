-- The piece was read as it is, or as the lines of the numbers of its names.
use Rattle.std.proofs.Common.{◌++◌, ◌∙◌, ℕ, List, ap, refl}
use Rattle.std.proofs.lemmas.Result.{on_ok_weaker}
use Rattle.kc_names.specs.Names.{pairs_in}
use Rattle.kc_names.specs.Steps.{lines_behind}
use Rattle.kc_names.proofs.Feeding.{fed-names}
use Rattle.kc_names.proofs.id_reader.IdReader.feed.Goals as goal

pub returns-clause-fed : goal.returns-clause-fed
returns-clause-fed c =
    let piece : List ℕ = c.args.piece.now in
    let text = c.deref.ensures.value ∙ c.in_ok-number_lines.ensures.text
    ∙ ap (λ (t : List ℕ). t ++ lines_behind c.in-Some.names (pairs_in piece)) c.clear.ensures.items in
    on_ok_weaker c.feed-2.result (λ more ids fed ended h.
    fed-names ids c.args.self.now _ c.in-Some.names c.number_lines.new.self fed piece c.deref.result.now ended (cc (c.in-Some.is, c.in-Some.names-is)) refl
    c.in_ok-number_lines.ensures.names text more h) c.feed-2.ensures.fed
