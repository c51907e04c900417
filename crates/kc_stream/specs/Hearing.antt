-- What the lines of a stream come to, one after another.
use Rattle.std.specs.Prelude.{ℕ, Bool, true, List, [], Option, Some, None, fold, is_some, length, nat_lt, not, if◌then◌else◌}
use Rattle.kc_io.specs.Causes.{one_more}
use Rattle.kc_words.specs.declared.layout.TheConstants.{VERTICES}
use Rattle.kc_text.specs.declared.kind.Kind.{Kind}
use Rattle.kc_text.specs.declared.kind.Kind.TheVariants.{EdgeLineInBatch, TooManyVertices, UpdateOutsideBatch}
use Rattle.kc_text.specs.declared.line.TextLine.{TextLine}
use Rattle.kc_text.specs.declared.line.TextLine.TheVariants.{Nothing, Edge, Batch, Change, Wrong}
use Rattle.kc_text.specs.declared.refusal.Refusal.{Refusal}
use Rattle.kc_text.specs.Meaning.{Told, nothing_told, or_else, unfit, with_line}
use Rattle.kc_stream.specs.declared.bad_lines.BadLines.{BadLines}
use Rattle.kc_stream.specs.declared.bad_lines.BadLines.TheVariants as on_bad
use Rattle.kc_stream.specs.Asking.{stream_lines}
use Rattle.kc_stream.specs.Ended.{ended}
use Rattle.kc_stream.specs.Ids.{ids_of}
use Rattle.kc_stream.specs.declared.stream_line.StreamLine.{StreamLine}
use Rattle.kc_stream.specs.declared.stream_line.StreamLine.TheVariants.{Tells, Asks}

-- there are more ids than a graph may have vertices
abbrev pub passed_limit : Told → Option Kind
passed_limit told = if nat_lt VERTICES (length (ids_of told)) then Some TooManyVertices else None

-- What a line tells, after what the lines before it have told. A question tells nothing. Before any batch line nothing has ended of which it
-- could be answered, so there it is refused, as a change is.
abbrev pub told_by : Told → StreamLine → TextLine
told_by told (Tells line) = line
told_by told (Asks question) = if is_some told.last then Nothing else Wrong UpdateOutsideBatch

-- Why a line is refused that tells this, if it is, after what the lines before it have told: its form is wrong, or it doesn't stand in its place (an edge
-- line stands before any batch line, a change after one), or a change joins an id with itself, or there are too many ids with it.
abbrev pub refused : Told → TextLine → Option Kind
refused told Nothing = None
refused told (Edge a b) = if is_some told.last then Some EdgeLineInBatch else passed_limit (with_line told (Edge a b))
refused told Batch = None
refused told (Change c) = or_else (unfit told.last c) (passed_limit (with_line told (Change c)))
refused told (Wrong kind) = Some kind

-- What lines come to: how many were read, what they have told, and the refused line that ends the reading, if one does. Behind that one nothing
-- is read. While the batch that is open is dropped, `dropped` is the first line of it that is refused; and so many batches were dropped. What is
-- told has a dropped batch as one without changes, so it is counted among the batches.
pub record Heard : Type 0 where
  pub lines : ℕ
  pub told : Told
  pub refusal : Option Refusal
  pub dropped : Option Refusal
  pub refused_batches : ℕ

-- nothing was read
abbrev pub nothing_heard : Heard
nothing_heard = record { lines = 0; told = nothing_told; refusal = None; dropped = None; refused_batches = 0 }

-- what is told without the changes of the batch that is open
abbrev pub emptied : Told → Told
emptied told = record told { last = Some [] }

-- whether a refused line ends the reading: it does where it is to, and where there is no batch that it could drop
abbrev pub ends_reading : BadLines → Told → Bool
ends_reading on_bad.Stop told = true
ends_reading on_bad.Batch told = not (is_some told.last)

-- a refused line that ends the reading
abbrev pub stopped : Heard → Refusal → Heard
stopped heard refusal = record {
  lines = one_more heard.lines;
  told = heard.told;
  refusal = Some refusal;
  dropped = None;
  refused_batches = heard.refused_batches;
}

-- a refused line that drops the batch that is open
abbrev pub batch_dropped : Heard → Refusal → Heard
batch_dropped heard refusal = record {
  lines = one_more heard.lines;
  told = emptied heard.told;
  refusal = None;
  dropped = Some refusal;
  refused_batches = one_more heard.refused_batches;
}

-- a refused line
abbrev pub refuse : BadLines → Heard → Refusal → Heard
refuse bad heard refusal = if ends_reading bad heard.told then stopped heard refusal else batch_dropped heard refusal

-- one line more that tells this and is not refused
abbrev pub taken : Heard → TextLine → Heard
taken heard line = record {
  lines = one_more heard.lines;
  told = with_line heard.told line;
  refusal = None;
  dropped = None;
  refused_batches = heard.refused_batches;
}

-- one line more, with the cause where it is refused; lines are counted up to the greatest number of 64 bits
abbrev pub judged : BadLines → Heard → TextLine → Option Kind → Heard
judged bad heard line None = taken heard line
judged bad heard line (Some kind) = refuse bad heard (record { line = one_more heard.lines; kind = kind })

-- one line more behind a refused one of its batch: it is passed over, whatever it tells, unless it begins the next batch
abbrev pub passed : Heard → TextLine → Heard
passed heard Nothing = record heard { lines = one_more heard.lines }
passed heard (Edge a b) = record heard { lines = one_more heard.lines }
passed heard Batch = taken heard Batch
passed heard (Change c) = record heard { lines = one_more heard.lines }
passed heard (Wrong kind) = record heard { lines = one_more heard.lines }

-- one line more that tells this; it is not read behind one that ends the reading
abbrev pub hear_told : BadLines → Heard → TextLine → Heard
hear_told bad heard line =
    if is_some heard.refusal then heard
    else if is_some heard.dropped then passed heard line
    else judged bad heard line (refused heard.told line)

-- one line more
abbrev pub hear : BadLines → Heard → StreamLine → Heard
hear bad heard line = hear_told bad heard (told_by heard.told line)

-- lines more
abbrev pub hear_all : BadLines → Heard → List StreamLine → Heard
hear_all bad heard lines = fold (hear bad) heard lines

-- what the lines of some bytes come to that have ended: the bytes behind the last newline may be a part of a line
abbrev pub heard_so_far : BadLines → List ℕ → Heard
heard_so_far bad bytes = hear_all bad nothing_heard (stream_lines (ended bytes))

-- what all lines of some bytes come to, where no other bytes follow
abbrev pub heard_at_end : BadLines → List ℕ → Heard
heard_at_end bad bytes = hear_all bad nothing_heard (stream_lines bytes)
