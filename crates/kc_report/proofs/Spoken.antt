-- What the lines of a generated text say.
use Rattle.std.proofs.Common.{◌≡◌, ℕ, cond, List, [], ◌∷◌, ◌++◌, map, refl, ap, ◌∙◌, arith, append_assoc, codes}
use Rattle.std.specs.Prelude.{All}
use Rattle.std.specs.List.{flat_map}
use Rattle.std.proofs.lemmas.List.Elements.{All-head, All-tail}
use Rattle.kc_text.specs.declared.change.ChangeLine.{ChangeLine}
use Rattle.kc_text.specs.declared.line.TextLine.{TextLine}
use Rattle.kc_text.specs.declared.line.TextLine.TheVariants as said
use Rattle.kc_text.specs.Forms.{all_said}
use Rattle.kc_text.proofs.Printed.{pair, said-batch_line, said-change_line, said-edge_line}
use Rattle.kc_report.specs.Generator.{batch_lines, change_line, generated, generated_batches, generated_edges}
use Rattle.kc_report.specs.Lines.{pair_line}
use Rattle.kc_report.proofs.Drawn.{AreIds, IsBatch, IsFit, generated-is}

-- what the line of an edge says
abbrev pub edge_said : ℕ × ℕ → TextLine
edge_said edge = said.Edge edge.0 edge.1

-- what the line of a change says
abbrev pub change_said : ChangeLine → TextLine
change_said c = said.Change c

-- what the lines of a batch say
abbrev pub batch_said : List ChangeLine → List TextLine
batch_said changes = said.Batch ∷ map change_said changes

-- a line, the lines behind it, and the rest
lines-behind : (line lines rest : List ℕ) → ((line ++ 10 ∷ []) ++ lines) ++ rest ≡ line ++ 10 ∷ (lines ++ rest)
lines-behind line lines rest = simp append_assoc

-- the lines of edges say these edges, whatever lines come behind them
said-edges : (edges : List (ℕ × ℕ)) (rest : List ℕ) → All AreIds edges → all_said (flat_map pair_line edges ++ rest) ≡ map edge_said edges ++ all_said rest
said-edges [] rest ids = refl
said-edges (edge ∷ edges) rest ids =
    let first = All-head AreIds edge edges ids in
    ap all_said (lines-behind (pair edge.0 edge.1) (flat_map pair_line edges) rest)
    ∙ said-edge_line edge.0 edge.1 (flat_map pair_line edges ++ rest) (omega (arith, first.first)) (omega (arith, first.second))
    ∙ ap (λ t. edge_said edge ∷ t) (said-edges edges rest (All-tail AreIds edge edges ids))

-- the lines of changes say these changes, whatever lines come behind them
said-changes : (changes : List ChangeLine) (rest : List ℕ) → All IsFit changes → all_said (flat_map change_line changes ++ rest)
    ≡ map change_said changes ++ all_said rest
said-changes [] rest fit = refl
said-changes (c ∷ changes) rest fit =
    let first = (All-head IsFit c changes fit).ids in
    ap all_said (lines-behind (cond c.add 43 45 ∷ 32 ∷ pair c.a c.b) (flat_map change_line changes) rest)
    ∙ said-change_line c.add c.a c.b (flat_map change_line changes ++ rest) (omega (arith, first.first)) (omega (arith, first.second))
    ∙ ap (λ t. change_said c ∷ t) (said-changes changes rest (All-tail IsFit c changes fit))

-- the lines of batches say these batches
said-batches : (batches : List (List ChangeLine)) → All IsBatch batches → all_said (flat_map batch_lines batches) ≡ flat_map batch_said batches
said-batches [] are = refl
said-batches (changes ∷ batches) are =
    ap all_said (append_assoc (codes "batch") (10 ∷ flat_map change_line changes) (flat_map batch_lines batches))
    ∙ said-batch_line (flat_map change_line changes ++ flat_map batch_lines batches)
    ∙ ap (λ t. said.Batch ∷ t) (said-changes changes (flat_map batch_lines batches) (All-head IsBatch changes batches are).fit
    ∙ ap (λ t. map change_said changes ++ t) (said-batches batches (All-tail IsBatch changes batches are)))

-- the lines of a generated text say its edges, and then its batches
pub said-generated : (number : ℕ) → all_said (generated number) ≡ map edge_said (generated_edges number) ++ flat_map batch_said (generated_batches number)
said-generated number =
    let drawn = generated-is number in
    said-edges (generated_edges number) (flat_map batch_lines (generated_batches number)) drawn.ids
    ∙ ap (λ t. map edge_said (generated_edges number) ++ t) (said-batches (generated_batches number) drawn.fit)
