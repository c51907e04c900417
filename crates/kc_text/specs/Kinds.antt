-- The number and the name of each kind of refusal.
use Rattle.std.specs.Prelude.{ℕ, List, ◌++◌, codes}
use Rattle.std.specs.Fmt.{decimal}
use Rattle.kc_text.specs.declared.kind.Kind.{Kind}
use Rattle.kc_text.specs.declared.kind.Kind.TheVariants.{NotANumber, MissingField, ExtraField, NumberTooLarge, LoopInBatch, UpdateOutsideBatch}
use Rattle.kc_text.specs.declared.kind.Kind.TheVariants.{EdgeLineInBatch, TooManyVertices, TooManyEdgeLines, TooManyUpdates, TooManyBatches, TooLong}

-- the number of a kind of refusal
abbrev pub number_of : Kind → ℕ
number_of NotANumber = 1
number_of MissingField = 2
number_of ExtraField = 3
number_of NumberTooLarge = 4
number_of LoopInBatch = 5
number_of UpdateOutsideBatch = 7
number_of EdgeLineInBatch = 8
number_of TooManyVertices = 9
number_of TooManyEdgeLines = 10
number_of TooManyUpdates = 11
number_of TooManyBatches = 12
number_of TooLong = 13

-- the name of a kind of refusal
abbrev pub name_of : Kind → List ℕ
name_of NotANumber = codes "NotANumber"
name_of MissingField = codes "MissingField"
name_of ExtraField = codes "ExtraField"
name_of NumberTooLarge = codes "NumberTooLarge"
name_of LoopInBatch = codes "LoopInBatch"
name_of UpdateOutsideBatch = codes "UpdateOutsideBatch"
name_of EdgeLineInBatch = codes "EdgeLineInBatch"
name_of TooManyVertices = codes "TooManyVertices"
name_of TooManyEdgeLines = codes "TooManyEdgeLines"
name_of TooManyUpdates = codes "TooManyUpdates"
name_of TooManyBatches = codes "TooManyBatches"
name_of TooLong = codes "TooLong"

-- the number and the name, as a message has them
abbrev pub text_of : Kind → List ℕ
text_of kind = decimal (number_of kind) ++ codes " " ++ name_of kind
