-- What the calls for pieces of the edges tell their caller in C.
use Rattle.std.specs.Prelude.{ℕ, ◌==◌, ◌*◌, List, length, take, drop, Option, None, Some, if◌then◌else◌}
use Rattle.kc_graph.specs.declared.bulk.Edge.{Edge}
use Rattle.kc_tally.specs.Lists.{first_fault}
use Rattle.kc_tally.specs.declared.fault.EdgeFault.{EdgeFault}
use Rattle.kc_tally.specs.declared.fault.EdgeFault.TheVariants.{NotAVertex, Loop, GreaterFirst, NotAbove}
use Rattle.kc_tally.specs.declared.fault.FirstFault.{FirstFault}
use Rattle.kc_c.specs.declared.answer.CallResult.{CallResult}

-- the status for a fault of an edge
abbrev pub fault_status : EdgeFault → ℕ
fault_status NotAVertex = 4
fault_status Loop = 10
fault_status GreaterFirst = 11
fault_status NotAbove = 12

-- the first fault with its place, or that the piece is counted
abbrev pub piece_answer : Option FirstFault → CallResult
piece_answer None = record { status = 0; number = 0 }
piece_answer (Some first) = record { status = fault_status first.fault; number = first.place }

-- a length that is wrong, or else the answer by what follows
abbrev pub if_length : ℕ → ℕ → ℕ → CallResult → CallResult
if_length vertices places status answer = if places == vertices then answer else record { status = status; number = 0 }

-- how many later neighbours each vertex has: the first half of the counts for so many vertices
abbrev pub later_of : ℕ → List ℕ → List ℕ
later_of vertices counts = take vertices counts

-- how many supporters each vertex has: the other half
abbrev pub supporters_of : ℕ → List ℕ → List ℕ
supporters_of vertices counts = drop vertices counts

-- the first length that is wrong, or else the first fault of the piece
abbrev pub tally_answer : ℕ → Edge → List Edge → List ℕ → List ℕ → List ℕ → CallResult
tally_answer vertices after edges core rank counts =
    if_length vertices (length core) 1
    (if_length vertices (length rank) 7
    (if_length (2 * vertices) (length counts) 8 (piece_answer (first_fault vertices 0 (Some after) edges))))
