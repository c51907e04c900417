-- How a run ends whose lines become no file: as a task, a check or the answer to a stream.
use Rattle.std.specs.Prelude.{◌≡◌, ℕ, Bool, List, Option}
use Rattle.kc_io.specs.declared.sink.Sink as sinks
use Rattle.kc_io.specs.declared.source.Source as sources
use Rattle.kc_wire.specs.declared.wire.Wire as wires
use Rattle.kc_wishes.specs.Wishes.{Checks, ChecksStream, GraphText, StreamQuery, Watches, Wish}
use Rattle.kc_cores.specs.CheckEnded.{CheckEnded}
use Rattle.kc_cores.specs.CoresEnded.{CoresEnded}
use Rattle.kc_cores.specs.StreamChecked.{StreamChecked}
use Rattle.kc_cores.specs.WatchEnded.{WatchEnded}
use Rattle.kc_cores.specs.declared.CoresStatus.{CoresStatus}

-- A run for what the words ask for has ended with this status, and `told` is the line about it. Where they ask for a check or for the answer
-- to a stream it ends as that, and else as `CoresEnded` says. Only a check turns to the certificate, and only a stream to the wire `l`; a
-- stream is read and answered on the wire alone, and the input has the file in front of it.
pub record EndsAsAsked {I C O L : Type 0} (source : sources.Ghosts I) (behind : I → List ℕ → Option (List ℕ)) (kept : sources.Ghosts C)
    (beside : C → List ℕ → Option (List ℕ)) (out : sinks.Ghosts O) (gone : O → Bool) (wire : wires.Ghosts L) (wish : Wish) (end : CoresStatus)
    (told : List ℕ) (i i' : I) (c c' : C) (o o' : O) (l l' : L) : Type 0 where
  pub check : (name : List ℕ) (graph : GraphText) → wish ≡ Checks name graph
      → CheckEnded source behind kept beside out name graph end told i i' c c' o o' × (l' ≡ l)
  pub stream : (name : List ℕ) (files : List (List ℕ)) → wish ≡ ChecksStream name files
      → StreamChecked source behind kept beside out name files end told i i' c c' o o' × (l' ≡ l)
  pub watch : (query : StreamQuery) → wish ≡ Watches query → WatchEnded source behind wire query end told i i' l l' × (c' ≡ c) × (o' ≡ o)
  pub other : ((name : List ℕ) (graph : GraphText) → wish ≡ Checks name graph → ⊥)
      → ((name : List ℕ) (files : List (List ℕ)) → wish ≡ ChecksStream name files → ⊥) → ((query : StreamQuery) → wish ≡ Watches query → ⊥)
      → CoresEnded source behind out gone wish end told i i' o o' × (c' ≡ c) × (l' ≡ l)
