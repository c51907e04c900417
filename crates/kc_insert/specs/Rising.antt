-- The queue, the candidates and the evicted, and what holds of them for every view.
use Rattle.std.specs.Prelude.{◌≡◌, ◌≤◌, ◌<◌, ◌⊎◌, ◌||◌, ℕ, Bool, true, List, All, is_some, length, take, drop, slice_index}
use Rattle.std.specs.List.{filter}
use Rattle.kc_lists.specs.Lists.{member, Distinct}
use Rattle.kc_graph.specs.declared.update.Update.{Update}
use Rattle.kc_cert.specs.Local.{firsts, seconds}
use Rattle.kc_view.specs.Answers.{Answers, has_list, has_core}
use Rattle.kc_view.specs.Sure.{AsksCores}
use Rattle.kc_view.specs.Views.{Shown}
use Rattle.kc_marks.specs.Maps.{value_of}
use Rattle.kc_insert.specs.Marks.{earlier_in, later_in, turn_in, candidate_in, weak_in}
use Rattle.kc_insert.specs.declared.rising.Rising.{Rising}

-- whether `y` was ever queued
abbrev pub is_queued : Rising → ℕ → Bool
is_queued r y = is_some (value_of r.seen.marks y)

-- how many neighbours of `y` are candidates that stand before it, as its mark says
abbrev pub earlier_at : Rising → ℕ → ℕ
earlier_at r y = earlier_in (value_of r.seen.marks y)

-- how many neighbours of `y` are higher, or stand behind it and may still rise, as its mark says
abbrev pub later_at : Rising → ℕ → ℕ
later_at r y = later_in (value_of r.seen.marks y)

-- the place of `y` in the queue, as its mark says
abbrev pub turn_at : Rising → ℕ → ℕ
turn_at r y = turn_in (value_of r.seen.marks y)

-- whether `y` may rise, as its mark says
abbrev pub is_candidate : Rising → ℕ → Bool
is_candidate r y = candidate_in (value_of r.seen.marks y)

-- whether `y` was found too weak to rise
abbrev pub is_weak : Rising → ℕ → Bool
is_weak r y = weak_in (value_of r.seen.marks y)

-- the candidates, in the order of the queue
abbrev pub cands : Rising → List ℕ
cands r = filter (is_candidate r) r.queue.items

-- those that have left the queue, and those that wait in it
abbrev pub left : Rising → List ℕ
left r = take r.turn r.queue.items

-- those that wait in the queue
abbrev pub waiting : Rising → List ℕ
waiting r = drop r.turn r.queue.items

-- those that are too weak and not evicted yet
abbrev pub pending : Rising → List ℕ
pending r = drop (length r.shifts.items) r.seen.weak.items

-- whether moves may name `y`: a candidate, one that was found too weak, or one that another is put behind
abbrev pub is_named : Rising → ℕ → Bool
is_named r y = is_candidate r y || (member y r.seen.weak.items || member y (seconds r.shifts.items))

-- what holds whatever was answered
pub record IsOrderly (r : Rising) : Type 0 where
  pub once : Distinct r.queue.items
  pub marked : (z : ℕ) → is_queued r z ≡ member z r.queue.items
  pub turn_in : r.turn ≤ length r.queue.items
  -- a candidate has left the queue, and its turn is its place there
  pub turned : (z : ℕ) → is_candidate r z ≡ true → (turn_at r z < r.turn) × (slice_index r.queue.items (turn_at r z) ≡ z)
  pub weak_once : Distinct r.seen.weak.items
  pub weak_marked : (z : ℕ) → is_weak r z ≡ member z r.seen.weak.items
  pub weak_left : (z : ℕ) → member z r.seen.weak.items ≡ true → member z (left r) ≡ true
  -- the weak are evicted in turn
  pub shifted : firsts r.shifts.items ≡ take (length r.shifts.items) r.seen.weak.items
  pub anchored : (z : ℕ) → member z (seconds r.shifts.items) ≡ true → member z (left r) ≡ true

-- what was asked: lists of the lesser end and of queued vertices alone, core numbers of the ends and of neighbours on such lists
pub record AsksQueued (update : Update) (a : Answers) (queue : List ℕ) : Type 0 where
  pub lists : All (λ e. (e.vertex ≡ update.u) ⊎ (member e.vertex queue ≡ true)) a.edges
  pub cores : AsksCores update a

-- what holds for every view
pub record IsTidyRising (update : Update) (shown : Shown) (r : Rising) : Type 0 where
  pub orderly : IsOrderly r
  pub within : (z : ℕ) → member z r.queue.items ≡ true → z < shown.size
  pub placed : (z : ℕ) → member z r.queue.items ≡ true → has_core shown.kept z ≡ true
  pub read : (z : ℕ) → is_named r z ≡ true → has_list shown.kept z ≡ true
  pub asks : AsksQueued update shown.kept r.queue.items
