-- What the calls of a shared list answer.
use Rattle.std.specs.Prelude.{◌≡◌, ◌<◌, ◌+◌, ℕ, List, true, false}
use mathlib.Core.List.{IsPrefix}
use Rattle.kc_lists.specs.Lists.{member}
use Rattle.kc_words.specs.declared.layout.TheConstants.{LAST_VERSION}
use Rattle.kc_table.specs.declared.view.Event.{Event}
use Rattle.kc_table.specs.Log.{TableName}
use Rattle.kc_order.specs.Standing.{list_after}
use Rattle.kc_order.specs.Writers.{HasVersionsLeft, IsHighest, Puts, Takes}
use Rattle.kc_order.specs.declared.fault.OrderFault.{OrderFault}
use Rattle.kc_order.specs.declared.fault.OrderFault.TheVariants.{Absent, Spent}

-- The log goes on and ends with a put of x right after p, which was in the list.
pub record EndsWithPut (table : TableName) (old new : List Event) (x p : ℕ) : Type 0 where
  pub before : List Event
  pub longer : IsPrefix old before
  pub listed : member p (list_after table before) ≡ true
  pub left : HasVersionsLeft table before
  pub puts : Puts (record { table = table; log = before }) (record { table = table; log = new }) x p

-- The log goes on and ends with a take of x, which was in the list.
pub record EndsWithTake (table : TableName) (old new : List Event) (x : ℕ) : Type 0 where
  pub before : List Event
  pub longer : IsPrefix old before
  pub listed : member x (list_after table before) ≡ true
  pub left : HasVersionsLeft table before
  pub takes : Takes (record { table = table; log = before }) (record { table = table; log = new }) x

-- why nothing was stored: the item is out of the list, or it is in it and the versions of the words are spent
abbrev pub IsRefusal : TableName → List Event → ℕ → OrderFault → Type 0
IsRefusal table log item (Absent named) = (named ≡ item) × (member item (list_after table log) ≡ false)
IsRefusal table log item (Spent highest) = (member item (list_after table log) ≡ true) × IsHighest table log highest × (LAST_VERSION < highest + 3)

-- the item is in the list, and each word can be stored three times more
pub record IsReady (table : TableName) (log : List Event) (item : ℕ) : Type 0 where
  pub listed : member item (list_after table log) ≡ true
  pub left : HasVersionsLeft table log
