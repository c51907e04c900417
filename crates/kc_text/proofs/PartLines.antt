-- The lines of parts, and the bytes of parts one after the other.
use Rattle.std.proofs.Common.{◌≡◌, ◌≤◌, ◌<◌, ◌+◌, ℕ, true, false, Bool, cond, List, [], ◌∷◌, ◌++◌, length, map, get_or, take, refl, sym, ap, subst}
use Rattle.std.proofs.Common.{◌∙◌, arith, append-nil, length-append, inl, inr}
use Rattle.std.specs.List.{onto_first, slice_split}
use Rattle.std.specs.Str.Lines.{strip_carriage_return}
use Rattle.std.proofs.lemmas.Grind.{flat_map-append}
use Rattle.std.proofs.lemmas.List.{length-map, take_more}
use Rattle.kc_text.specs.declared.line.TextLine.{TextLine}
use Rattle.kc_text.specs.declared.line.TextLine.TheVariants as said
use Rattle.kc_text.specs.declared.part.Part.{Part}
use Rattle.kc_text.specs.Forms.{all_said, said_by}
use Rattle.kc_text.specs.Lines.{EndsLine, is_newline, lines}
use Rattle.kc_text.specs.Parts.{bytes_of}
use Rattle.kc_text.specs.TellingLines.{edge_lines}
use Rattle.kc_text.proofs.LineCuts.{some_part}
use Rattle.kc_text.proofs.SaidAppend.{lines-newline}

-- the lines of edges, and of one edge more
pub edges-then : (edges : List (ℕ × ℕ)) (a b : ℕ) (rest : List TextLine)
    → edge_lines edges ++ (said.Edge a b ∷ rest) ≡ edge_lines (edges ++ (a, b) ∷ []) ++ rest
edges-then [] a b rest = refl
edges-then (e ∷ edges) a b rest = ap (λ (t : List TextLine). said.Edge e.0 e.1 ∷ t) (edges-then edges a b rest)

-- bytes that are cut have no more parts than bytes, but for one
few-parts : (p : ℕ → Bool) (xs : List ℕ) → length (slice_split p xs) ≤ length xs + 1
few-parts p [] = omega arith
few-parts p (x ∷ xs) =
    let (part, parts, e) = some_part p xs in
    let few = few-parts p xs in
    elim (p x) as (λ b. length (cond b ([] ∷ slice_split p xs) (onto_first x (slice_split p xs))) ≤ length (x ∷ xs) + 1) [
      | true ↦ omega (arith, few)
      | false ↦ omega (arith, few, ap (λ (t : List (List ℕ)). length (onto_first x t)) e, ap length e)
    ]

-- whole lines are no more than their bytes
few-lines : (bytes : List ℕ) → EndsLine bytes → length (lines bytes) ≤ length bytes
few-lines bytes (inl none) = subst (λ (t : List ℕ). length (lines t) ≤ length t) (sym none) (omega arith)
few-lines bytes (inr (front, is)) =
    let cut : lines (front ++ 10 ∷ []) ≡ map strip_carriage_return (slice_split is_newline front) = lines-newline front []
    ∙ append-nil (map strip_carriage_return (slice_split is_newline front)) in
    subst (λ (t : List ℕ). length (lines t) ≤ length t) (sym is) (omega (
      arith,
      ap length cut,
      length-map (slice_split is_newline front) strip_carriage_return,
      few-parts is_newline front,
      length-append front (10 ∷ []),
    ))

-- the edges that whole lines tell are no more than their bytes
pub few-edges : (bytes : List ℕ) (edges : List (ℕ × ℕ)) → EndsLine bytes → all_said bytes ≡ edge_lines edges → length edges ≤ length bytes
few-edges bytes edges ended told = omega (
  arith,
  ap length told,
  length-map (lines bytes) said_by,
  length-map edges (λ (e : ℕ × ℕ). said.Edge e.0 e.1),
  few-lines bytes ended,
)

-- the bytes of parts, with one part more
pub bytes-more : (parts : List Part) (i : ℕ) (d : Part) → i < length parts
    → bytes_of (take (i + 1) parts) ≡ bytes_of (take i parts) ++ (get_or parts i d).bytes.now
bytes-more parts i d l =
    ap bytes_of (take_more parts i d l) ∙ (flat_map-append (λ (part : Part). part.bytes.now) (take i parts) (get_or parts i d ∷ [])
    ∙ ap (λ (t : List ℕ). bytes_of (take i parts) ++ t) (append-nil (get_or parts i d).bytes.now))
