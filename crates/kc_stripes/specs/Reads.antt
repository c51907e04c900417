-- What a loose view has answered since a moment, and what its misses mean.
use Rattle.std.specs.Prelude.{◌≡◌, ◌≢◌, ◌≤◌, ⊤, ℕ, List, All, slice_index}
use Rattle.kc_graph.specs.declared.used.UsedPlace.{UsedPlace}
use Rattle.kc_words.specs.declared.again.Again.{Again}
use Rattle.kc_table.specs.declared.view.Event.{Event}
use Rattle.kc_table.specs.Log.{TableName, value_at}
use Rattle.kc_order.specs.Standing.{Between}
use Rattle.kc_view.specs.Answers.{Answers}
use Rattle.kc_view.specs.Memory.{Memory}
use Rattle.kc_view.specs.Views.{Shown}
use Rattle.kc_view.specs.declared.fault.PlanFault.{PlanFault}
use Rattle.kc_view.specs.declared.fault.PlanFault.TheVariants as plan
use Rattle.kc_agree.specs.Reads.{WereRead}
use Rattle.kc_agree.specs.Stamps.{core_after, place_stamp}
use Rattle.kc_table.specs.Log.{Opened}

-- the vertex word had this stamp and core number after a prefix between the two
pub record HadPlace (table : TableName) (start log : List Event) (p : UsedPlace) : Type 0 where
  pub prefix : List Event
  pub between : Between start log prefix
  pub stamp : place_stamp table prefix p.vertex ≡ p.stamp
  pub core : core_after table prefix p.vertex ≡ p.core

-- What was read of a log since it was `start`: all answers were so after prefixes of the log, no list is older than the opening, and
-- each stamp and core number was so since `start`.
pub record WereReadSince (o : Opened) (start log : List Event) (a : Answers) : Type 0 where
  pub read : WereRead o.table o.edges log a
  pub lists : All (λ e. slice_index o.stamps e.vertex ≤ e.at) a.edges
  pub places : All (HadPlace o.table start log) a.places

-- the word had the value after a prefix between the two
pub record HadValue (table : TableName) (start log : List Event) (word value : ℕ) : Type 0 where
  pub prefix : List Event
  pub between : Between start log prefix
  pub held : value ≡ value_at table.opening prefix word

-- Two differing values stood in the word after two prefixes between the two.
pub record IsMissed (table : TableName) (start log : List Event) (again : Again) : Type 0 where
  pub first : HadValue table start log again.word again.first
  pub second : HadValue table start log again.word again.second
  pub differ : again.first ≢ again.second

-- what contracts see of a loose view, and the log that its pass has seen
pub record Loosely : Type 0 where
  pub size : ℕ
  pub kept : Answers
  pub handed : ℕ
  pub misses : ℕ
  pub seen : List Event

-- a memo, how often it was handed out, how many calls have missed, and what was seen
abbrev pub loosely : Memory → ℕ → ℕ → List Event → Loosely
loosely memo handed misses seen = record { size = memo.size; kept = memo.kept; handed = handed; misses = misses; seen = seen }

-- A miss is true from `start` to what the pass has seen, and so are the answers.
abbrev pub shown_loosely : Opened → List Event → Loosely → Shown
shown_loosely o start l = record {
  size = l.size;
  kept = l.kept;
  handed = l.handed;
  misses = l.misses;
  is_missed = IsMissed o.table start l.seen;
  is_given = WereReadSince o start l.seen;
}

-- why there is no plan over a loose view: a miss is true from `start` to the log
abbrev pub HasLooseCause : TableName → List Event → List Event → PlanFault → Type 0
HasLooseCause table start log (plan.Miss again) = IsMissed table start log again
HasLooseCause table start log plan.NoMemory = ⊤
