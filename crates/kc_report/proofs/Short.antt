-- A generated text is short.
use Rattle.std.proofs.Common.{◌≤◌, ◌<◌, ◌+◌, ◌*◌, ℕ, List, [], ◌∷◌, ◌++◌, length, arith, length-append, codes}
use Rattle.std.specs.Prelude.{All}
use Rattle.std.specs.Fmt.{decimal}
use Rattle.std.specs.List.{flat_map}
use Rattle.std.proofs.lemmas.Fmt.{length-decimal-le}
use Rattle.std.proofs.lemmas.List.Elements.{All-head, All-tail}
use Rattle.kc_text.specs.declared.change.ChangeLine.{ChangeLine}
use Rattle.kc_text.specs.declared.limits.TheConstants.{MOST_BYTES}
use Rattle.kc_report.specs.declared.sizes.TheConstants.{IDS, TURNS}
use Rattle.kc_report.specs.Generator.{batch_lines, change_line, generated, generated_batches, generated_edges}
use Rattle.kc_report.specs.Lines.{pair_line}
use Rattle.kc_report.proofs.Drawn.{AreIds, IsBatch, IsFit, generated-is}

-- an id has four digits at most
length-id : (id : ℕ) → id < IDS → length (decimal id) ≤ 4
length-id id l = length-decimal-le 4 id (omega arith) (omega arith) (omega arith)

-- a line of two ids has ten bytes at most
length-pair : (pair : ℕ × ℕ) → AreIds pair → length (pair_line pair) ≤ 10
length-pair pair ids =
    omega (
      arith,
      length-append (decimal pair.0 ++ 32 ∷ decimal pair.1) (10 ∷ []),
      length-append (decimal pair.0) (32 ∷ decimal pair.1),
      length-id pair.0
          ids.first,
      length-id pair.1 ids.second,
    )

-- pieces of bounded length have so many bytes together at most
length-all : {X : Type 0} (f : X → List ℕ) (P : X → Type 0) (most : ℕ) → ((x : X) → P x → length (f x) ≤ most) → (xs : List X) → All P xs
    → length (flat_map f xs) ≤ most * length xs
length-all f P most each [] all = omega arith
length-all f P most each (x ∷ xs) all =
    let rest = length-all f P most each xs (All-tail P x xs all) in
    omega (arith, length-append (f x) (flat_map f xs), each x (All-head P x xs all))

-- a line of a change has twelve bytes at most
length-change : (change : ChangeLine) → IsFit change → length (change_line change) ≤ 12
length-change change fit = omega (arith, length-pair (change.a, change.b) fit.ids)

-- the lines of a batch have six bytes and twelve for each turn at most
length-batch : (changes : List ChangeLine) → IsBatch changes → length (batch_lines changes) ≤ 6 + 12 * TURNS
length-batch changes batch =
    let lines = length-all change_line IsFit 12 length-change changes batch.fit in
    omega (arith, length-append (codes "batch") (10 ∷ flat_map change_line changes), batch.few)

-- a generated text is no longer than a text may be
pub length-generated : (number : ℕ) → length (generated number) ≤ MOST_BYTES
length-generated number =
    let drawn = generated-is number in
    let edges : length (flat_map pair_line (generated_edges number)) ≤ 10 * length (generated_edges number) = length-all pair_line AreIds 10 length-pair
    (generated_edges number) drawn.ids in
    let batches : length (flat_map batch_lines (generated_batches number)) ≤ (6 + 12 * TURNS) * length (generated_batches number)
    = length-all batch_lines IsBatch (6 + 12 * TURNS) length-batch (generated_batches number) drawn.fit in
    omega (
      arith,
      length-append (flat_map pair_line (generated_edges number)) (flat_map batch_lines (generated_batches number)),
      drawn.edge_count,
      drawn.batch_count,
    )
