-- How a run ends whose lines become a file, and how any run ends.
use Rattle.std.specs.Prelude.{◌≡◌, ℕ, Bool, List, Option, Some}
use Rattle.std.specs.Io.KnownBytes.{IsAtEnd}
use Rattle.kc_io.specs.Causes.{Rose}
use Rattle.kc_io.specs.declared.sink.Sink as sinks
use Rattle.kc_io.specs.declared.source.Source as sources
use Rattle.kc_wire.specs.declared.wire.Wire as wires
use Rattle.kc_files.specs.Folders.{AllStay, HasBytes, Held, OthersStay}
use Rattle.kc_wishes.specs.Wishes.{Asks, Query, SavingPlan, Saves, StreamQuery, Watches, Wish}
use Rattle.kc_cores.specs.Asked.{EndsAsAsked}
use Rattle.kc_cores.specs.CoresEnded.{IsAnswerTo, done_line}
use Rattle.kc_cores.specs.Endings.{NoFileGraphAt}
use Rattle.kc_cores.specs.Inputs.{known_bytes}
use Rattle.kc_cores.specs.Unsaved.{IsUnsavedLine}
use Rattle.kc_cores.specs.WatchSaved.{WatchSaved}
use Rattle.kc_cores.specs.declared.CoresStatus.{CoresStatus}
use Rattle.kc_cores.specs.declared.CoresStatus.TheVariants as status

-- Where the run is done, the file of this name has just the lines that are asked for. Where it was not written, all files are as they were, and
-- there were lines to write. At each other status there is no graph, and the folder is as it was.
abbrev pub SavedAt : {P : Type 0} → (P → List ℕ → Held) → (P → ℕ) → CoresStatus → List ℕ → Query → Option (List ℕ) → Option (List ℕ) → List ℕ → ℕ → ℕ
    → P → P → Type 0
SavedAt holds failed status.Done name query known left line f f' p p' =
    ((text : List ℕ) × (summary : List ℕ) × IsAnswerTo (Asks query) known text summary × (line ≡ done_line query.quiet summary)
    × HasBytes (holds p' name) text)
    × OthersStay holds name p p' × IsAtEnd left × (f' ≡ f) × (failed p' ≡ failed p)
SavedAt holds failed status.WriteFault name query known left line f f' p p' =
    ((text : List ℕ) × (summary : List ℕ) × IsAnswerTo (Asks query) known text summary)
    × IsUnsavedLine name line × AllStay holds p p' × (f' ≡ f) × Rose (failed p) (failed p')
SavedAt holds failed end name query known left line f f' p p' = NoFileGraphAt end line query.graph known f f' × (p' ≡ p)

-- A run has ended whose lines become the file of this name. `i` is its input and `p` the folder, each before and after; the other arguments say
-- what is known of them.
abbrev pub SaveEnded : {I P : Type 0} → sources.Ghosts I → (I → List ℕ → Option (List ℕ)) → (P → List ℕ → Held) → (P → ℕ) → List ℕ → Query
    → CoresStatus → List ℕ → I → I → P → P → Type 0
SaveEnded source behind holds failed name query end told i i' p p' =
    SavedAt holds failed end name query (known_bytes source.left behind query.graph.file i) (source.left i') told (source.faults i) (source.faults i')
    p p'

-- A run for what the words ask for has ended with this status, and `told` is the line about it. Where its lines become a file it ends as
-- `SaveEnded` says and turns to nothing else. Where it answers a stream whose states are saved it ends as `WatchSaved` says. Else it ends as
-- `EndsAsAsked` says, and the folder `p` is as it was.
pub record RunEnded {I C O L P : Type 0} (source : sources.Ghosts I) (behind : I → List ℕ → Option (List ℕ)) (kept : sources.Ghosts C)
    (beside : C → List ℕ → Option (List ℕ)) (out : sinks.Ghosts O) (gone : O → Bool) (wire : wires.Ghosts L) (holds : P → List ℕ → Held)
    (failed : P → ℕ) (wish : Wish) (end : CoresStatus) (told : List ℕ) (i i' : I) (c c' : C) (o o' : O) (l l' : L) (p p' : P) : Type 0 where
  pub save : (name : List ℕ) (query : Query) → wish ≡ Saves name query
      → SaveEnded source behind holds failed name query end told i i' p p' × (c' ≡ c) × (o' ≡ o) × (l' ≡ l)
  pub watch : (query : StreamQuery) (plan : SavingPlan) → wish ≡ Watches query → query.save ≡ Some plan
      → WatchSaved source behind wire holds failed query plan end told i i' l l' p p' × (c' ≡ c) × (o' ≡ o)
  pub asked : ((name : List ℕ) (query : Query) → wish ≡ Saves name query → ⊥)
      → ((query : StreamQuery) (plan : SavingPlan) → wish ≡ Watches query → query.save ≡ Some plan → ⊥)
      → EndsAsAsked source behind kept beside out gone wire wish end told i i' c c' o o' l l' × (p' ≡ p)
