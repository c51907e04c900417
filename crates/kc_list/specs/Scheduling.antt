-- Labels that are written one after another.
use Rattle.std.specs.Prelude.{◌≡◌, ℕ, ◌<◌, ◌≤◌, List, length, take, true}
use Rattle.kc_lists.specs.Lists.{member, Distinct}
use Rattle.kc_relabel.specs.Labels.{Ascends, written, places}
use Rattle.kc_list.specs.Views.{evenly}

-- each place gets one label at most, and the labels ascend after each of the steps
pub record IsSchedule (room : ℕ) (labels : List ℕ) (steps : List (ℕ × ℕ)) : Type 0 where
  pub once : Distinct (places steps)
  pub within : (p : ℕ) → member p (places steps) ≡ true → p < length labels
  pub ascends : (k : ℕ) → k ≤ length steps → Ascends 1 room (written labels (take k steps))

-- a schedule after which the labels share the room evenly
pub record SpreadsEvenly (room : ℕ) (labels : List ℕ) (steps : List (ℕ × ℕ)) : Type 0 where
  pub schedule : IsSchedule room labels steps
  pub done : written labels steps ≡ evenly (length labels) room
