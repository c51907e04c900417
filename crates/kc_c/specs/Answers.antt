-- What a call tells its caller in C.
use Rattle.std.specs.Prelude.{ℕ, not, List, Option, None, Some, Result, Ok, Err}
use Rattle.std.specs.List.{position}
use Rattle.kc_graph.specs.Bulk.{is_within}
use Rattle.kc_graph.specs.declared.bulk.Edge.{Edge}
use Rattle.kc_c.specs.declared.answer.CallResult.{CallResult}
use Rattle.kc_c.specs.declared.answer.Refusal.{Refusal}
use Rattle.kc_c.specs.declared.answer.Refusal.TheVariants.{WrongCoreLength, WrongOrderLength, WrongMembersLength, NotAVertex, NoMemory, NotCertified}
use Rattle.kc_c.specs.declared.answer.Refusal.TheVariants.{WrongRankLength, WrongCountsLength, Loop, GreaterFirst, NotAbove, NotAgreed}
use Rattle.kc_c.specs.declared.answer.Refusal.TheVariants.{NotOpen, TooManyVertices, TooFewVertices, Stopped, WrongRows}
use Rattle.kc_c.specs.Rounding.{fault_answer}

-- where the first edge stands that has an end which is no vertex
abbrev pub first_stranger : ℕ → List Edge → Option ℕ
first_stranger vertices edges = position (λ e. not (is_within vertices e)) edges

-- the refusal of the edges, or want of memory where nothing is wrong with them
abbrev pub refusal_by : Option ℕ → Refusal
refusal_by None = NoMemory
refusal_by (Some place) = NotAVertex place

-- the status and the number that say how a call ended
abbrev pub answer_to : Result ℕ Refusal → CallResult
answer_to (Ok number) = record { status = 0; number = number }
answer_to (Err WrongCoreLength) = record { status = 1; number = 0 }
answer_to (Err WrongOrderLength) = record { status = 2; number = 0 }
answer_to (Err WrongMembersLength) = record { status = 3; number = 0 }
answer_to (Err (NotAVertex place)) = record { status = 4; number = place }
answer_to (Err NoMemory) = record { status = 5; number = 0 }
answer_to (Err NotCertified) = record { status = 6; number = 0 }
answer_to (Err WrongRankLength) = record { status = 7; number = 0 }
answer_to (Err WrongCountsLength) = record { status = 8; number = 0 }
answer_to (Err (Loop place)) = record { status = 10; number = place }
answer_to (Err (GreaterFirst place)) = record { status = 11; number = place }
answer_to (Err (NotAbove place)) = record { status = 12; number = place }
answer_to (Err NotAgreed) = record { status = 13; number = 0 }
answer_to (Err NotOpen) = record { status = 14; number = 0 }
answer_to (Err TooManyVertices) = record { status = 15; number = 0 }
answer_to (Err TooFewVertices) = record { status = 16; number = 0 }
answer_to (Err (Stopped made)) = record { status = 5; number = made }
answer_to (Err (WrongRows fault)) = fault_answer fault
