-- What is wrong with a text that is no state's, in words.
use Rattle.std.specs.Prelude.{ℕ, List, codes}
use Rattle.kc_state.specs.declared.fault.StateKind.{StateKind}
use Rattle.kc_state.specs.declared.fault.StateKind.TheVariants as kind

-- what is wrong with a line
abbrev pub state_sentence : StateKind → List ℕ
state_sentence kind.NotAState = codes "this is not the first line of a saved state"
state_sentence kind.OtherVersion = codes "the state is of another version of the format, or its line ends were changed"
state_sentence kind.NotACount = codes "a count is missing here: a word and a number"
state_sentence kind.TooManyVertices = codes "there are more than 16,777,216 vertices"
state_sentence kind.NotAVertex = codes "the line of a vertex is missing here: ID CORE PLACE"
state_sentence kind.RepeatedId = codes "the id stands in an earlier line"
state_sentence kind.WrongPlace = codes "no vertex has this place, or an earlier line has it"
state_sentence kind.NotAnEdge = codes "the line of an edge is missing here: A B"
state_sentence kind.UnknownId = codes "an end of the edge is the id of no vertex"
state_sentence kind.Loop = codes "the edge joins an id with itself"
state_sentence kind.NotAscending = codes "the edge does not ascend"
state_sentence kind.NotTheEnd = codes "the line of the check sum is missing here"
state_sentence kind.WrongSum = codes "the check sum is not that of the lines before it"
state_sentence kind.TextBehind = codes "something stands behind the check sum"
state_sentence kind.Cut = codes "the state is cut off here"
state_sentence kind.NotCertified = codes "the order of the lines so far does not certify their core numbers"
state_sentence kind.OtherForm = codes "a number begins with 0"
