-- What the code's steps make of queue, candidates and evicted, and what holds of these in a state that agrees with the answers.
use Rattle.std.specs.Prelude.{◌≡◌, ◌≢◌, ◌≤◌, ◌<◌, ◌+◌, ◌-◌, ◌^◌, ◌⊎◌, ◌++◌, ◌&&◌, ◌||◌, ℕ, Bool, true, false, not, min, List, [], ◌∷◌, Some, None}
use Rattle.std.specs.Prelude.{length, slice_index, nat_lt, nat_le, if◌then◌else◌}
use Rattle.std.specs.List.{insert}
use Rattle.kc_lists.specs.Lists.{member}
use Rattle.kc_cert.specs.Ranks.{AscendsBy}
use Rattle.kc_view.specs.Search.{Search, on_level, above, after, OnLevel, Forward}
use Rattle.kc_marks.specs.Maps.{value_of}
use Rattle.kc_marks.specs.SearchMarks.{MarksOne}
use Rattle.kc_insert.specs.Rising.{is_queued, earlier_at, later_at, turn_at, is_candidate, is_weak, cands, left, waiting, pending}
use Rattle.kc_insert.specs.Searching.{ahead, BetweenTurns, InSettling}
use Rattle.kc_insert.specs.declared.losing.Loss.{Loss}
use Rattle.kc_insert.specs.declared.losing.Loss.TheVariants.{Settled, Evicted}
use Rattle.kc_insert.specs.declared.ahead.Ahead.{Ahead}
use Rattle.kc_insert.specs.declared.ahead.Side.{Side}
use Rattle.kc_insert.specs.declared.ahead.Side.TheVariants.{Higher, Next, Before}
use Rattle.kc_insert.specs.declared.rising.Mark.{Mark}
use Rattle.kc_insert.specs.declared.rising.Rising.{Rising}

-- only the root is queued
pub record Begins (root : ℕ) (r : Rising) : Type 0 where
  pub here : value_of r.seen.marks root ≡ Some (record { earlier = 0; later = 0; turn = 0; is_candidate = false; is_weak = false })
  pub others : (z : ℕ) → z ≢ root → value_of r.seen.marks z ≡ None
  pub queue : r.queue.items ≡ root ∷ []
  pub turn : r.turn ≡ 0
  pub weak : r.seen.weak.items ≡ []
  pub shifts : r.shifts.items ≡ []

-- `w`, which is first of those that wait, leaves the queue
pub record LeavesQueue (w : ℕ) (mark : Mark) (old new : Rising) : Type 0 where
  pub marks : MarksOne w mark old.seen new.seen
  pub queue : new.queue.items ≡ old.queue.items
  pub turn : new.turn ≡ old.turn + 1
  pub weak : new.seen.weak.items ≡ old.seen.weak.items
  pub shifts : new.shifts.items ≡ old.shifts.items

-- the mark of `x` with one candidate more before it
abbrev pub passed_mark : Rising → ℕ → Mark
passed_mark r x =
    record {
      earlier = min (earlier_at r x + 1) (2 ^ 64 - 1);
      later = later_at r x;
      turn = turn_at r x;
      is_candidate = is_candidate r x;
      is_weak = is_weak r x;
    }

-- `x` has one candidate more before it, and is queued if it never was
pub record Passes (x : ℕ) (old new : Rising) : Type 0 where
  pub marks : MarksOne x (passed_mark old x) old.seen new.seen
  pub kept : is_queued old x ≡ true → new.queue.items ≡ old.queue.items
  pub queued : is_queued old x ≡ false
      → (place : ℕ) × (old.turn ≤ place) × (place ≤ length old.queue.items) × (new.queue.items ≡ insert old.queue.items place x)
  pub turn : new.turn ≡ old.turn
  pub weak : new.seen.weak.items ≡ old.seen.weak.items
  pub shifts : new.shifts.items ≡ old.shifts.items

-- each of `xs` has one candidate more before it, and is queued
pub record PassedOn (xs : List ℕ) (old new : Rising) : Type 0 where
  pub earlier : (z : ℕ) → (member z xs ≡ true → earlier_at old z < 2 ^ 64 - 1) → earlier_at new z ≡ earlier_at old z + (if member z xs then 1 else 0)
  pub later : (z : ℕ) → later_at new z ≡ later_at old z
  pub candidates : (z : ℕ) → is_candidate new z ≡ is_candidate old z
  pub queue : (z : ℕ) → member z new.queue.items ≡ (member z old.queue.items || member z xs)
  pub same_left : left new ≡ left old
  pub turn : new.turn ≡ old.turn
  pub weak : new.seen.weak.items ≡ old.seen.weak.items
  pub shifts : new.shifts.items ≡ old.shifts.items

-- whether `y` is a candidate that left the queue before the turn
abbrev pub is_before : Rising → ℕ → ℕ → Bool
is_before r turn y = is_candidate r y && nat_lt (turn_at r y) turn

-- whether `y` loses a later neighbour, or an earlier one, by what its neighbour comes to
abbrev pub loses_later : Loss → Rising → ℕ → Bool
loses_later Settled r y = is_candidate r y
loses_later (Evicted turn) r y = is_before r turn y

-- whether `y` loses an earlier neighbour, by what its neighbour comes to
abbrev pub loses_earlier : Loss → Rising → ℕ → Bool
loses_earlier Settled r y = false
loses_earlier (Evicted turn) r y = not (is_before r turn y)

-- what a mark loses so
abbrev pub taken_from : Loss → Mark → Mark
taken_from Settled mark = record mark { later = mark.later - (if mark.is_candidate then 1 else 0) }
taken_from (Evicted turn) mark =
    if mark.is_candidate
    && nat_lt mark.turn turn then record mark { later = mark.later - 1 } else record mark { earlier = mark.earlier - 1 }

-- a candidate is too weak where its counts don't exceed the level
abbrev pub recounted : ℕ → Mark → Mark
recounted level mark = record mark { is_weak = mark.is_weak || (mark.is_candidate && nat_le (mark.earlier + mark.later) level) }

-- the list of the weak, where `y` may have been found too weak
abbrev pub grown : Bool → Bool → ℕ → List ℕ → List ℕ
grown was is y weak = if was then weak else if is then weak ++ y ∷ [] else weak

-- `y` has these counts now
pub record Recounts (level y : ℕ) (mark : Mark) (old new : Rising) : Type 0 where
  pub marks : MarksOne y (recounted level mark) old.seen new.seen
  pub weak : new.seen.weak.items ≡ grown mark.is_weak (recounted level mark).is_weak y old.seen.weak.items
  pub queue : new.queue.items ≡ old.queue.items
  pub turn : new.turn ≡ old.turn
  pub shifts : new.shifts.items ≡ old.shifts.items

-- a neighbour of `y` will not rise
pub record LosesOne (level : ℕ) (loss : Loss) (y : ℕ) (old new : Rising) : Type 0 where
  pub marked : (mark : Mark) → value_of old.seen.marks y ≡ Some mark → Recounts level y (taken_from loss mark) old new
  pub unmarked : value_of old.seen.marks y ≡ None → new ≡ old

-- a neighbour of each of `ys` will not rise
pub record Loses (level : ℕ) (loss : Loss) (ys : List ℕ) (old new : Rising) : Type 0 where
  pub earlier : (z : ℕ) → earlier_at new z ≡ earlier_at old z - (if member z ys && loses_earlier loss old z then 1 else 0)
  pub later : (z : ℕ) → later_at new z ≡ later_at old z - (if member z ys && loses_later loss old z then 1 else 0)
  pub turns : (z : ℕ) → turn_at new z ≡ turn_at old z
  pub candidates : (z : ℕ) → is_candidate new z ≡ is_candidate old z
  pub more : (more : List ℕ) × (new.seen.weak.items ≡ old.seen.weak.items ++ more)
  -- who is found too weak is so, and whoever is so is found
  pub only : (z : ℕ) → member z new.seen.weak.items ≡ true → member z old.seen.weak.items ≡ false
      → (is_candidate old z ≡ true) × (earlier_at new z + later_at new z ≤ level)
  pub all_weak : (z : ℕ) → member z ys ≡ true → is_candidate old z ≡ true → member z new.seen.weak.items ≡ false → level < earlier_at new z + later_at new z
  pub queue : new.queue.items ≡ old.queue.items
  pub turn : new.turn ≡ old.turn
  pub shifts : new.shifts.items ≡ old.shifts.items

-- `x` is no candidate any more, and is put behind `anchor`
pub record Evicts (x anchor : ℕ) (old new : Rising) : Type 0 where
  pub marks : MarksOne x (record { earlier = 0; later = 0; turn = turn_at old x; is_candidate = false; is_weak = true }) old.seen new.seen
  pub queue : new.queue.items ≡ old.queue.items
  pub turn : new.turn ≡ old.turn
  pub weak : new.seen.weak.items ≡ old.seen.weak.items
  pub shifts : new.shifts.items ≡ old.shifts.items ++ (x, anchor) ∷ []

-- where a neighbour stands, as seen from `w`
abbrev pub side_in : Search → ℕ → ℕ → Side
side_in s w x = if above s x then Higher else if on_level s x && after s w x then Next else Before

-- whether the neighbour has a greater core number, or stands behind the vertex on the level
abbrev pub is_ahead : Side → Bool
is_ahead Higher = true
is_ahead Next = true
is_ahead Before = false

-- whether the neighbour stands behind the vertex on the level
abbrev pub is_next : Side → Bool
is_next Higher = false
is_next Next = true
is_next Before = false

-- the place of `x` in the queue is from `low` to `high`
pub record IsPlaceWithin (rank : ℕ → ℕ) (queue : List ℕ) (x low high : ℕ) : Type 0 where
  pub before : (k : ℕ) → k < low → rank (slice_index queue k) < rank x
  pub behind : (k : ℕ) → high ≤ k → k < length queue → rank x ≤ rank (slice_index queue k)

-- `x` stands behind all that have left the queue, and no other that is queued, or among `others`, has its rank
pub record StandsBehindLeft (rank : ℕ → ℕ) (r : Rising) (others : List ℕ) (x : ℕ) : Type 0 where
  pub behind : (z : ℕ) → member z (left r) ≡ true → rank z < rank x
  pub apart : (z : ℕ) → (member z r.queue.items ≡ true) ⊎ (member z others ≡ true) → rank z ≡ rank x → z ≡ x

-- how many neighbours of `w` are higher or behind it on the level, and which those of the level are
pub record IsAheadOf (s : Search) (w : ℕ) (a : Ahead) : Type 0 where
  pub count : a.count ≡ ahead s w
  pub next : (y : ℕ) → OnLevel s y → member y a.next.items ≡ (s.adj w y && after s w y)
  pub only : (y : ℕ) → member y a.next.items ≡ true → OnLevel s y × (s.adj w y ≡ true) × (after s w y ≡ true)

-- The queue is in order, all in it were reached, and those that have left stand before `frontier`.
pub record LinedUp (s : Search) (root : ℕ) (r : Rising) (frontier : ℕ) : Type 0 where
  pub ascends : AscendsBy s.rank r.queue.items
  pub reached : (z : ℕ) → member z r.queue.items ≡ true → Forward s root z
  pub passed : (z : ℕ) → member z (left r) ≡ true → s.rank z < frontier

-- between two turns
pub record BetweenAt (s : Search) (root : ℕ) (r : Rising) (frontier : ℕ) : Type 0 where
  pub lined : LinedUp s root r frontier
  pub turns : BetweenTurns s root (cands r) (waiting r) frontier (earlier_at r) (later_at r) r.shifts.items
  pub calm : length r.shifts.items ≡ length r.seen.weak.items

-- the search is between two turns, and some frontier parts those that have left the queue from those that wait
abbrev pub IsBetweenTurns : Search → ℕ → Rising → Type 0
IsBetweenTurns s root r = (frontier : ℕ) × BetweenAt s root r frontier

-- while a vertex is settled
pub record SettlingAt (s : Search) (root : ℕ) (r : Rising) (frontier last : ℕ) : Type 0 where
  pub lined : LinedUp s root r frontier
  pub settling : InSettling s root (cands r) (waiting r) frontier (earlier_at r) (later_at r) r.shifts.items (pending r) last

-- a vertex is being settled before some frontier, and the next one that is evicted goes right after `last`
abbrev pub IsSettling : Search → ℕ → Rising → ℕ → Type 0
IsSettling s root r last = (frontier : ℕ) × SettlingAt s root r frontier last
