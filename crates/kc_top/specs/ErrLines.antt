-- The one line that is written where a run stops.
use Rattle.std.specs.Prelude.{◌≡◌, ◌≤◌, ℕ, List, [], ◌∷◌, ◌++◌, codes, length, take, IfSome, Option}
use Rattle.std.specs.Fmt.{decimal}
use Rattle.std.specs.Io.KnownBytes.{Appends}
use Rattle.kc_io.specs.Causes.{Rose}
use Rattle.kc_io.specs.FirstPiece.{KeepsFirst}
use Rattle.kc_text.specs.declared.kind.Kind.{Kind}
use Rattle.kc_text.specs.Kinds.{text_of}
use Rattle.kc_text.specs.declared.limits.TheConstants.Limits.{KCORE}
use Rattle.kc_text.specs.Meaning.{Refuses, meaning}
use Rattle.kc_top.specs.declared.Status.{Status}
use Rattle.kc_top.specs.declared.Status.TheVariants.{Done, Usage, Refused, ReadFault, WriteFault, NoMemory}

-- `refused line L kind K`, with the number of the line, and the number and the name of the kind
abbrev pub refused_line : ℕ → Kind → List ℕ
refused_line line kind = codes "refused line " ++ (decimal line ++ (codes " kind " ++ (text_of kind ++ 10 ∷ [])))

-- what the program says of the words that it takes
abbrev pub usage_line : List ℕ
usage_line = codes "usage: kcore [--workers W] [--show cores|summary|each] [--level K] [--gen NUMBER] [--start buckets|hindex]\n"

-- The line of each status. `input` are the bytes of the input, where they are known.
abbrev pub IsErrLine : Status → Option (List ℕ) → List ℕ → Type 0
IsErrLine Done input line = line ≡ []
IsErrLine Usage input line = line ≡ usage_line
IsErrLine Refused input line = (n : ℕ) × (kind : Kind) × (line ≡ refused_line n kind) × IfSome input (λ bytes. meaning KCORE bytes ≡ Refuses n kind)
IsErrLine ReadFault input line = line ≡ codes "read fault\n"
IsErrLine WriteFault input line = line ≡ codes "write fault\n"
IsErrLine NoMemory input line = line ≡ codes "no memory\n"

-- the line was taken, or a prefix of it where a call failed
pub record TookLine (before after : Option (List ℕ)) (faults faults' : ℕ) (line : List ℕ) : Type 0 where
  pub amount : ℕ
  pub within : amount ≤ length line
  pub took : Appends before after (take amount line)
  pub whole : (Rose faults faults' → ⊥) → amount ≡ length line

-- what the sink of the line was offered: the whole line first, which is fixed before any of it is taken, and nothing where the run is done
abbrev pub OfferedLine : Status → Option ℕ → Option ℕ → List ℕ → Type 0
OfferedLine Done before after line = after ≡ before
OfferedLine Usage before after line = KeepsFirst before after line
OfferedLine Refused before after line = KeepsFirst before after line
OfferedLine ReadFault before after line = KeepsFirst before after line
OfferedLine WriteFault before after line = KeepsFirst before after line
OfferedLine NoMemory before after line = KeepsFirst before after line
