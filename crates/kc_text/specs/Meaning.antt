-- What a text means: all that its lines tell, or the first line that is refused.
use Rattle.std.specs.Prelude.{ℕ, ◌+◌, ◌&&◌, ◌||◌, Bool, List, [], ◌∷◌, ◌++◌, length, map, nat_lt, nat_eq, if◌then◌else◌, Option, Some, None, is_some}
use Rattle.std.specs.List.{flat_map}
use Rattle.std.specs.Option.{option_to_list, unwrap_or}
use Rattle.std.specs.Set.{distinct_count}
use Rattle.kc_text.specs.declared.change.ChangeLine as change
use Rattle.kc_text.specs.declared.kind.Kind.{Kind}
use Rattle.kc_text.specs.declared.kind.Kind.TheVariants.{LoopInBatch, UpdateOutsideBatch, EdgeLineInBatch, TooManyVertices, TooManyEdgeLines, TooManyUpdates}
use Rattle.kc_text.specs.declared.kind.Kind.TheVariants.{TooManyBatches, TooLong}
use Rattle.kc_text.specs.declared.line.TextLine.{TextLine}
use Rattle.kc_text.specs.declared.line.TextLine.TheVariants.{Nothing, Edge, Batch, Change, Wrong}
use Rattle.kc_text.specs.Forms.{all_said}
use Rattle.kc_text.specs.declared.limits.Limits.{Limits}

-- What lines have told, all in their order: the edges of the edge lines, loops and repeats among them, the batches before the last
-- one, and the last one, once there is a batch line.
pub record Told : Type 0 where
  pub edges : List (ℕ × ℕ)
  pub earlier : List (List change.ChangeLine)
  pub last : Option (List change.ChangeLine)

-- what no line has told: no edge and no batch
abbrev pub nothing_told : Told
nothing_told = record { edges = []; earlier = []; last = None }

-- all batches that were told, the last one among them
abbrev pub batches : Told → List (List change.ChangeLine)
batches told = told.earlier ++ option_to_list told.last

-- the changes of all batches
abbrev pub changes : Told → List change.ChangeLine
changes told = flat_map (λ batch. batch) (batches told)

-- the ends of edges
abbrev pub ends : List (ℕ × ℕ) → List ℕ
ends [] = []
ends (e ∷ edges) = e.0 ∷ e.1 ∷ ends edges

-- the two ids that a change names
abbrev pub ends_of : change.ChangeLine → ℕ × ℕ
ends_of c = (c.a, c.b)

-- all ids that were named, each as often as it was
abbrev pub names : Told → List ℕ
names told = ends (told.edges ++ map ends_of (changes told))

-- what is told with one more line
abbrev pub with_line : Told → TextLine → Told
with_line told Nothing = told
with_line told (Edge a b) = record told { edges = told.edges ++ (a, b) ∷ [] }
with_line told Batch = record told { earlier = batches told; last = Some [] }
with_line told (Change c) = record told { last = Some (unwrap_or told.last [] ++ c ∷ []) }
with_line told (Wrong kind) = told

-- whether both name the same pair, in either direction
abbrev pub name_same : change.ChangeLine → change.ChangeLine → Bool
name_same c d = (nat_eq c.a d.a && nat_eq c.b d.b) || (nat_eq c.a d.b && nat_eq c.b d.a)

-- why the last batch, if there is one, can't have one more change: it belongs in a batch and joins two ids
abbrev pub unfit : Option (List change.ChangeLine) → change.ChangeLine → Option Kind
unfit None c = Some UpdateOutsideBatch
unfit (Some batch) c = if nat_eq c.a c.b then Some LoopInBatch else None

-- the first of the limits that is passed, if one is
abbrev pub first_limit : Bool → Bool → Bool → Bool → Option Kind
first_limit ids edge_lines updates batches =
    if ids then Some TooManyVertices
    else if edge_lines then Some TooManyEdgeLines
    else if updates then Some TooManyUpdates
    else if batches then Some TooManyBatches
    else None

-- the limits of the different ids, the edge lines, the changes in all batches, and the batches
abbrev pub passed_limit : Limits → Told → Option Kind
passed_limit limits told =
    first_limit (nat_lt limits.ids (distinct_count nat_eq (names told))) (nat_lt limits.edge_lines (length told.edges))
    (nat_lt limits.updates (length (changes told))) (nat_lt limits.batches (length (batches told)))

-- the first cause of two checks
abbrev pub or_else : Option Kind → Option Kind → Option Kind
or_else (Some kind) next = Some kind
or_else None next = next

-- Why a line is refused, if it is, after what the lines before it have told: its form is wrong, or it doesn't stand in its place (an
-- edge line stands before any batch line, a change after one), or it doesn't fit its batch, or a limit is passed with it.
abbrev pub refusal : Limits → Told → TextLine → Option Kind
refusal limits told Nothing = None
refusal limits told (Edge a b) = if is_some told.last then Some EdgeLineInBatch else passed_limit limits (with_line told (Edge a b))
refusal limits told Batch = passed_limit limits (with_line told Batch)
refusal limits told (Change c) = or_else (unfit told.last c) (passed_limit limits (with_line told (Change c)))
refusal limits told (Wrong kind) = Some kind

-- The first line that is refused, and why, or else what all lines tell.
pub data Meaning : Type 0 where
  Refuses : ℕ → Kind → Meaning
  Means : Told → Meaning

-- a line that is refused ends the reading, and else it goes on
abbrev pub ends_or : Option Kind → ℕ → Meaning → Meaning
ends_or (Some kind) line rest = Refuses line kind
ends_or None line rest = rest

-- the meaning of the rest of the lines, after so many lines that have told this
abbrev pub reading : Limits → ℕ → Told → List TextLine → Meaning
reading limits done told [] = Means told
reading limits done told (line ∷ rest) = ends_or (refusal limits told line) (done + 1) (reading limits (done + 1) (with_line told line) rest)

-- what the bytes of a text mean within limits
abbrev pub meaning : Limits → List ℕ → Meaning
meaning limits bytes = if nat_lt limits.bytes (length bytes) then Refuses 0 TooLong else reading limits 0 nothing_told (all_said bytes)
