-- What each loose view keeps true.
use Rattle.std.specs.Prelude.{◌≡◌, List}
use mathlib.Core.List.{IsPrefix}
use Rattle.kc_table.specs.declared.view.Event.{Event}
use Rattle.kc_view.specs.Lists.{AreLists}
use Rattle.kc_table.specs.Log.{Opened}
use Rattle.kc_stripes.specs.Reads.{WereReadSince, Loosely}

-- It has seen what it began with, what it keeps was read since, and each list is one of its vertex.
pub record IsLoose (o : Opened) (start : List Event) (l : Loosely) : Type 0 where
  pub size : l.size ≡ o.table.shape.fixed
  pub begins : IsPrefix start l.seen
  pub read : WereReadSince o start l.seen l.kept
  pub lists : AreLists l.size l.kept.edges
