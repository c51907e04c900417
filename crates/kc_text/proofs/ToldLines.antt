-- The lines that told what is kept.
use Rattle.std.proofs.Common.{◌≡◌, ℕ, List, [], ◌∷◌, ◌++◌, map, refl, sym, ap, ap₂, ◌∙◌, append_assoc, append-nil, Option, Some, None}
use Rattle.std.specs.List.{filter, flat_map}
use Rattle.std.specs.Option.{option_to_list}
use Rattle.std.proofs.lemmas.Grind.{flat_map-append}
use Rattle.std.proofs.lemmas.List.{map-append}
use Rattle.kc_text.specs.declared.change.ChangeLine.{ChangeLine}
use Rattle.kc_text.specs.declared.kind.Kind.{Kind}
use Rattle.kc_text.specs.declared.kind.Kind.TheVariants.{UpdateOutsideBatch}
use Rattle.kc_text.specs.declared.line.TextLine.{TextLine}
use Rattle.kc_text.specs.declared.line.TextLine.TheVariants as said
use Rattle.kc_text.specs.Meaning.{Told, batches, unfit, with_line}
use Rattle.kc_text.specs.Readers.{HasBegun, IsTold, told_lines}
use Rattle.kc_text.specs.TellingLines.{lines_of_batch, edge_lines, is_telling, lines_of}

-- before the first batch line all lines tell edges
pub lines-edge : (told : Told) (a b : ℕ) → told.last ≡ None → HasBegun told
    → told_lines told ++ said.Edge a b ∷ [] ≡ told_lines (with_line told (said.Edge a b))
lines-edge told a b last begun =
    let none : batches told ≡ [] = ap₂ (λ (earlier : List (List ChangeLine)) (l : Option (List ChangeLine)). earlier ++ option_to_list l) (begun last) last in
    ap (λ (bs : List (List ChangeLine)). lines_of told.edges bs ++ said.Edge a b ∷ []) none
    ∙ ap (λ (ls : List TextLine). ls ++ said.Edge a b ∷ []) (append-nil (edge_lines told.edges))
    ∙ sym (ap (λ (bs : List (List ChangeLine)). lines_of (told.edges ++ (a, b) ∷ []) bs) none ∙ append-nil (edge_lines (told.edges ++ (a, b) ∷ []))
    ∙ map-append (λ (e : ℕ × ℕ). said.Edge e.0 e.1) told.edges ((a, b) ∷ []))

-- a batch line is behind all lines before it
pub lines-batch : (told : Told) → told_lines told ++ said.Batch ∷ [] ≡ told_lines (with_line told said.Batch)
lines-batch told =
    append_assoc (edge_lines told.edges) (flat_map lines_of_batch (batches told)) (said.Batch ∷ [])
    ∙ ap (λ (ls : List TextLine). edge_lines told.edges ++ ls) (sym (flat_map-append lines_of_batch (batches told) ([] ∷ [])))

-- the lines of batches with a change more in the last one
changes-lines : (earlier : List (List ChangeLine)) (batch : List ChangeLine) (c : ChangeLine)
    → flat_map lines_of_batch (earlier ++ batch ∷ []) ++ said.Change c ∷ [] ≡ flat_map lines_of_batch (earlier ++ (batch ++ c ∷ []) ∷ [])
changes-lines earlier batch c =
    let front : List TextLine = flat_map lines_of_batch earlier in
    let change : List ChangeLine → List TextLine = map (λ c. said.Change c) in
    ap (λ (ls : List TextLine). ls ++ said.Change c ∷ []) (flat_map-append lines_of_batch earlier (batch ∷ []))
    ∙ append_assoc front (lines_of_batch batch ++ []) (said.Change c ∷ [])
    ∙ ap (λ (ls : List TextLine). front ++ (ls ++ said.Change c ∷ [])) (append-nil (lines_of_batch batch))
    ∙ ap (λ (ls : List TextLine). front ++ (said.Batch ∷ ls)) (sym (map-append (λ (c : ChangeLine). said.Change c) batch (c ∷ [])))
    ∙ sym (flat_map-append lines_of_batch earlier ((batch ++ c ∷ []) ∷ [])
    ∙ ap (λ (ls : List TextLine). front ++ ls) (append-nil (lines_of_batch (batch ++ c ∷ []))))

-- a change is behind all lines before it
pub lines-change : (told : Told) (c : ChangeLine) (batch : List ChangeLine) → told.last ≡ Some batch
    → told_lines told ++ said.Change c ∷ [] ≡ told_lines (with_line told (said.Change c))
lines-change told c batch last =
    append_assoc (edge_lines told.edges) (flat_map lines_of_batch (batches told)) (said.Change c ∷ [])
    ∙ ap (λ (ls : List TextLine). edge_lines told.edges ++ ls) (
    ap (λ (l : Option (List ChangeLine)). flat_map lines_of_batch (told.earlier ++ option_to_list l) ++ said.Change c ∷ []) last
    ∙ changes-lines told.earlier batch c
    ∙ sym (ap (λ (l : Option (List ChangeLine)). flat_map lines_of_batch (batches (with_line (record told { last = l }) (said.Change c)))) last)
    )

-- a line that is told is behind all lines before it
pub told-whole : (cause : Option Kind) (old : Told) (line : TextLine) (new : Told) → told_lines old ++ filter is_telling (line ∷ []) ≡ told_lines new
    → IsTold cause old line new
told-whole cause old line new e = record { more = []; told = e ∙ sym (append-nil (told_lines new)); whole = λ _. refl }

-- at a line that is refused nothing need be told
pub told-same : (kind : Kind) (old : Told) (line : TextLine) (new : Told) → new ≡ old → IsTold (Some kind) old line new
told-same kind old line new e = record {
  more = filter is_telling (line ∷ []);
  told = ap (λ (t : Told). told_lines t ++ filter is_telling (line ∷ [])) (sym e);
  whole = λ none. absurd (cc);
}

-- a change that fits stands in a batch
pub fits-some : (last : Option (List ChangeLine)) (c : ChangeLine) → unfit last c ≡ None → (batch : List ChangeLine) × (last ≡ Some batch)
fits-some None c h = absurd (let e : Some UpdateOutsideBatch ≡ None = h in cc)
fits-some (Some batch) c h = (batch, refl)
