-- How a run ends that answers a stream and saves its states, and what it has done then.
use Rattle.std.specs.Prelude.{◌≡◌, ◌⊎◌, ◌++◌, ℕ, List, Option}
use Rattle.kc_io.specs.declared.source.Source as sources
use Rattle.kc_files.specs.Folders.{Held}
use Rattle.kc_wire.specs.Events.{TellsMore, WireEvent, read_in}
use Rattle.kc_wire.specs.declared.wire.Wire as wires
use Rattle.kc_text.specs.declared.refusal.Refusal.{Refusal}
use Rattle.kc_stream.specs.Hearing.{heard_at_end, heard_so_far}
use Rattle.kc_watch.specs.declared.options.WatchOptions.{WatchOptions}
use Rattle.kc_saving.specs.Saving.{FolderFaultsAt, HasKeptAt, wire_faults_at}
use Rattle.kc_saving.specs.declared.end.SavingEnd.{SavingEnd}
use Rattle.kc_saving.specs.declared.end.SavingEnd.TheVariants.{Dialogue, Unsaved}
use Rattle.kc_cores.specs.Unsaved.{IsUnsavedLine}
use Rattle.kc_cores.specs.WatchEnded.{HasEndedSo, NoFrontAt, StandsInFront, WasReadInFront, outcome}
use Rattle.kc_wishes.specs.Wishes.{SavingPlan, StreamQuery, Unbegun, file_of}
use Rattle.kc_cores.specs.declared.CoresStatus.{CoresStatus}
use Rattle.kc_cores.specs.declared.CoresStatus.TheVariants as status

-- How a run ends whose dialogue with saves has ended so: as one without saves, or since a state was not saved in the file of this name.
abbrev pub HasEndedSaving : Option (List ℕ) → ℕ → List ℕ → SavingEnd → Option Refusal × ℕ → Option Refusal × ℕ → CoresStatus → List ℕ → Type 0
HasEndedSaving file lines name (Dialogue how) so_far at_end end told = HasEndedSo file lines how so_far at_end end told
HasEndedSaving file lines name (Unsaved unplaced) so_far at_end end told = (end ≡ status.WriteFault) × IsUnsavedLine name told

-- A run has ended that answers the stream of a wire behind the bytes of `start`, as `StreamAnswered` says it of one without saves, and saves its
-- states in a file of the folder `p`. The other arguments are those of `StreamAnswered`.
pub record StreamSaved {L P : Type 0} (wire : wires.Ghosts L) (holds : P → List ℕ → Held) (failed : P → ℕ) (options : WatchOptions) (plan : SavingPlan)
    (file : Option (List ℕ)) (start : List ℕ) (end : CoresStatus) (told : List ℕ) (l l' : L) (p p' : P) : Type 0 where
  pub events : List WireEvent
  pub how : SavingEnd
  pub happened : TellsMore (wire.history l) (wire.history l') events
  -- Each answer was written as soon as its bytes were read, and none before. The file has the state that the bytes mean which were read when it was
  -- saved last, and at the end of the stream the last state; no other file changes.
  pub kept : HasKeptAt options plan.file plan.every (holds p) (holds p') start events how
  -- The status and the line are those of the end of the dialogue, or tell that a state was not saved.
  pub ended : HasEndedSaving file (heard_so_far options.bad_lines start).lines plan.file how
      (outcome (heard_so_far options.bad_lines (start ++ read_in events))) (outcome (heard_at_end options.bad_lines (start ++ read_in events))) end told
  -- One call of the wire has failed where the dialogue ended by it, and calls of the folder where a state was not saved, and no others.
  pub faults : wire.faults l' ≡ wire_faults_at (wire.faults l) how
  pub folder : FolderFaultsAt (failed p) (failed p') how

-- A run has ended that answers the stream of a wire and saves its states, as `WatchEnded` says it of one without saves.
pub record WatchSaved {I L P : Type 0} (source : sources.Ghosts I) (known : I → List ℕ → Option (List ℕ)) (wire : wires.Ghosts L)
    (holds : P → List ℕ → Held) (failed : P → ℕ) (query : StreamQuery) (plan : SavingPlan) (end : CoresStatus) (told : List ℕ) (i i' : I) (l l' : L)
    (p p' : P) : Type 0 where
  pub ended : ((start : List ℕ) × StandsInFront (known i) query.start start
      × StreamSaved wire holds failed query.options plan (file_of query.start) start end told l l' p p' × WasReadInFront query.start (source.left i')
      × (source.faults i' ≡ source.faults i))
      ⊎ (NoFrontAt end told (known i) query.start (source.faults i) (source.faults i') × (l' ≡ l) × (p' ≡ p))
  -- Where no file is named in front of the stream, the input is as it was.
  pub untouched : query.start ≡ Unbegun → i' ≡ i
