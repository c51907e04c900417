-- What a question is answered about ids, their core numbers and their layers. The core number at each place, and the layer, is that of the id at the
-- same place.
use Rattle.std.specs.Prelude.{◌==◌, ℕ, Bool, true, false, List, Option, Some, None, if◌then◌else◌, map, option_map, slice_index}
use Rattle.kc_changes.specs.Changed.{ascending_ids}
use Rattle.kc_lists.specs.Lists.{times}
use Rattle.kc_reply.specs.Facts.{Fact}
use Rattle.kc_reply.specs.Facts as fact
use Rattle.kc_reply.specs.declared.level_size.LevelSize.{LevelSize}
use Rattle.kc_reply.specs.declared.standing.Standing.{Standing}
use Rattle.kc_reply.specs.declared.standing.Standing.TheVariants.{Before, After, Same}
use Rattle.kc_report.specs.Lines.{members}
use Rattle.kc_stream.specs.Ids.{number_of}
use Rattle.kc_stream.specs.declared.question.Question.{Question}
use Rattle.kc_stream.specs.declared.question.Question.TheVariants.{Core, Members, Sizes, Order}
use Rattle.kc_tally.specs.Keys.{stands_before}

-- the core number of an id, and none where it is none of the ids
abbrev pub number_by : List ℕ → List ℕ → ℕ → Option ℕ
number_by ids core id = option_map (λ v. slice_index core v) (number_of ids id)

-- the ids of the k-core, those whose core number is k or more, ascending
abbrev pub members_by : List ℕ → List ℕ → ℕ → List ℕ
members_by ids core level = ascending_ids (members ids core level)

-- how many vertices have a core number
abbrev pub size_of : List ℕ → ℕ → LevelSize
size_of core number = record { core = number; vertices = times number core }

-- each core number that some vertex has, ascending, with how many have it
abbrev pub sizes_of : List ℕ → List LevelSize
sizes_of core = map (size_of core) (ascending_ids core)

-- Where the id at one place stands to that at another, in the order by core number, then layer, then id.
abbrev pub standing_of : List ℕ → List ℕ → List ℕ → ℕ → ℕ → Standing
standing_of ids core layer v w = if v == w then Same else if stands_before core layer ids v w then Before else After

-- the same for two numbers that stand for ids, and none where there is no such id
abbrev pub standing_by : List ℕ → List ℕ → List ℕ → Option ℕ → Option ℕ → Option Standing
standing_by ids core layer None second = None
standing_by ids core layer (Some v) None = None
standing_by ids core layer (Some v) (Some w) = Some (standing_of ids core layer v w)

-- where one id stands to another
abbrev pub order_answer : List ℕ → List ℕ → List ℕ → ℕ → ℕ → Fact
order_answer ids core layer a b = fact.Order a b (standing_by ids core layer (number_of ids a) (number_of ids b))

-- what answers a question
abbrev pub answer_to : Question → List ℕ → List ℕ → List ℕ → Fact
answer_to (Core id) ids core layer = fact.Core id (number_by ids core id)
answer_to (Members level) ids core layer = fact.Members level (members_by ids core level)
answer_to Sizes ids core layer = fact.Sizes (sizes_of core)
answer_to (Order a b) ids core layer = order_answer ids core layer a b

-- whether the answer to a question speaks of layers
abbrev pub needs_layers : Question → Bool
needs_layers (Core id) = false
needs_layers (Members level) = false
needs_layers Sizes = false
needs_layers (Order a b) = true
