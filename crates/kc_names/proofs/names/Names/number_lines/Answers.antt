-- A line more is numbered, and the rest goes on from its names.
use Rattle.std.proofs.Common.{◌≡◌, ◌++◌, ◌∙◌, ◌∷◌, ℕ, List, Option, ap, append_assoc, map, sym}
use Rattle.kc_text.specs.Lines.{fields}
use Rattle.kc_names.specs.Names.{first_two, numbered_line, pairs_in}
use Rattle.kc_names.specs.Steps.{lines_behind, names_behind}
use Rattle.kc_names.proofs.names.Names.number_lines.Goals as goal

pub loop-line-preserved : goal.loop-line-preserved
loop-line-preserved c =
    let pair : Option (List ℕ × List ℕ) = first_two (fields c.in-Some.line.now) in
    let rest : List (Option (List ℕ × List ℕ)) = pairs_in c.in-Some.more.now in
    let out : List ℕ = c.loop-line.out.items in
    let old : List (List ℕ) = c.loop-line.self in
    let new : List (List ℕ) = c.number_line.new.self in
    let cut : pairs_in c.loop-line.rest.now ≡ pair ∷ rest = ap (map (λ line. first_two (fields line))) c.in-Some.ensures.lines in
    let now = c.in_ok-number_line.ensures.names in
    record {
      names = ap (λ (ns : List (List ℕ)). names_behind ns rest) now ∙ sym (ap (names_behind old) cut) ∙ c.loop-line.invariant.names;
      text = ap (λ (t : List ℕ). t ++ lines_behind new rest) c.in_ok-number_line.ensures.text
          ∙ append_assoc out (numbered_line new pair) (lines_behind new rest)
          ∙ ap (λ (ns : List (List ℕ)). out ++ (numbered_line ns pair ++ lines_behind ns rest)) now
          ∙ ap (λ (ps : List (Option (List ℕ × List ℕ))). out ++ lines_behind old ps) (sym cut) ∙ c.loop-line.invariant.text;
    }
