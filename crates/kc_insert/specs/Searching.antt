-- Raising core numbers after an edge was added: what the search for the vertices that rise keeps true.
use Rattle.std.specs.Prelude.{◌≡◌, ◌≢◌, ◌≤◌, ◌<◌, ◌+◌, ◌-◌, ℕ, true, false, ◌&&◌, ◌||◌, List, nat_le, nat_lt, if◌then◌else◌}
use Rattle.kc_lists.specs.Lists.{member, Distinct}
use Rattle.kc_cert.specs.Local.{firsts, seconds, AreInTurn}
use Rattle.kc_cert.specs.Ranks.{AscendsBy, place_after}
use Rattle.kc_view.specs.Search.{Search, among, on_level, above, after, OnLevel}

-- neighbours of a greater core number, or later ones of the level
abbrev pub ahead : Search → ℕ → ℕ
ahead s z = among s z (λ y. above s y || (on_level s y && after s z y))

-- candidates before `z`
abbrev pub coming : Search → List ℕ → ℕ → ℕ
coming s cands z = among s z (λ y. member y cands && after s y z)

-- neighbours of a greater core number, and later ones of the level that are candidates or stand from `frontier` on
abbrev pub holding : Search → List ℕ → ℕ → ℕ → ℕ
holding s cands frontier z = among s z (λ y. above s y || (on_level s y && (after s z y && (member y cands || nat_le frontier (s.rank y)))))

-- neighbours that will stand after `z` if all candidates rise: `place` is the order after the shifts so far
abbrev pub behind : Search → List ℕ → (ℕ → ℕ) → ℕ → ℕ
behind s cands place z = among s z (λ y. above s y || (on_level s y && (member y cands || nat_lt (place z) (place y))))

-- What is known of the state before, in the graph after the edge was added. `root` is the end that stands first of those of the level.
pub record Widened (s : Search) (root : ℕ) : Type 0 where
  pub symmetric : (x y : ℕ) → s.adj x y ≡ s.adj y x
  pub no_loop : (x : ℕ) → s.adj x x ≡ false
  pub apart : (x y : ℕ) → x < s.size → y < s.size → s.rank x ≡ s.rank y → x ≡ y
  pub rising : (x y : ℕ) → x < s.size → y < s.size → s.core x < s.core y → s.rank x < s.rank y
  pub root_here : root < s.size
  pub root_level : s.core root ≡ s.level
  pub few : (z : ℕ) → z < s.size → z ≢ root → among s z (after s z) ≤ s.core z
  pub few_root : among s root (after s root) ≤ s.level + 1
  pub enough : (z : ℕ) → z < s.size → s.core z ≤ among s z (λ y. nat_le (s.core z) (s.core y))

-- The candidates, the queue, the rank from which on no vertex has left the queue, the two counts of each vertex, and the order after the shifts so far.
pub record Searching (s : Search) (root : ℕ) (cands queue : List ℕ) (frontier : ℕ) (earlier later place : ℕ → ℕ) : Type 0 where
  pub cand_level : (x : ℕ) → member x cands ≡ true → OnLevel s x
  pub cand_passed : (x : ℕ) → member x cands ≡ true → s.rank x < frontier
  pub queue_level : (x : ℕ) → member x queue ≡ true → OnLevel s x
  pub queue_open : (x : ℕ) → member x queue ≡ true → frontier ≤ s.rank x
  pub queue_ascends : AscendsBy s.rank queue
  pub root_queued : frontier ≤ s.rank root → member root queue ≡ true
  pub queued : (x y : ℕ) → member x cands ≡ true → OnLevel s y → s.adj x y ≡ true → frontier ≤ s.rank y → member y queue ≡ true
  pub earlier_of_cand : (x : ℕ) → member x cands ≡ true → earlier x ≡ coming s cands x
  pub earlier_of_open : (x : ℕ) → OnLevel s x → frontier ≤ s.rank x → earlier x ≡ coming s cands x
  pub later_of_cand : (x : ℕ) → member x cands ≡ true → later x ≡ holding s cands frontier x
  pub done : (z : ℕ) → OnLevel s z → s.rank z < frontier → member z cands ≡ false → behind s cands place z ≤ s.level
  -- only vertices that were candidates have another place than before
  pub open_kept : (y z : ℕ) → OnLevel s y → OnLevel s z → frontier ≤ s.rank y → frontier ≤ s.rank z → s.rank y < s.rank z → place y < place z
  pub passed_first : (y z : ℕ) → OnLevel s y → OnLevel s z → s.rank y < frontier → member y cands ≡ false → frontier ≤ s.rank z → place y < place z
  pub lower_first : (y z : ℕ) → y < s.size → OnLevel s z → s.core y < s.level → place y < place z
  pub higher_last : (y z : ℕ) → y < s.size → OnLevel s z → s.level < s.core y → place z < place y
  pub others_kept : (y z : ℕ) → y < s.size → z < s.size → s.core y ≢ s.level → s.core z ≢ s.level → s.rank y < s.rank z → place y < place z

-- between two turns
pub record AllStrong (s : Search) (cands : List ℕ) (earlier later : ℕ → ℕ) : Type 0 where
  pub strong : (x : ℕ) → member x cands ≡ true → s.level < earlier x + later x

-- while a vertex is settled: `evict` lists the candidates that are too weak, and the next one goes right after `last`
pub record WeakListed (s : Search) (cands : List ℕ) (frontier : ℕ) (earlier later place : ℕ → ℕ) (evict : List ℕ) (last : ℕ) : Type 0 where
  pub distinct : Distinct evict
  pub listed : (x : ℕ) → member x evict ≡ true → member x cands ≡ true
  pub weak : (x : ℕ) → member x evict ≡ true → earlier x + later x ≤ s.level
  pub strong : (x : ℕ) → member x cands ≡ true → member x evict ≡ false → s.level < earlier x + later x
  pub last_level : OnLevel s last
  pub last_passed : s.rank last < frontier
  pub last_done : member last cands ≡ false
  pub last_of_all : (z : ℕ) → OnLevel s z → s.rank z < frontier → member z cands ≡ false → z ≢ last → place z < place last

-- `cands'` has `w` besides
pub record AddsCandidate (cands : List ℕ) (w : ℕ) (cands' : List ℕ) : Type 0 where
  pub itself : member w cands' ≡ true
  pub others : (y : ℕ) → y ≢ w → member y cands' ≡ member y cands

-- `cands'` lacks `x`
pub record Drops (cands : List ℕ) (x : ℕ) (cands' : List ℕ) : Type 0 where
  pub itself : member x cands' ≡ false
  pub others : (y : ℕ) → y ≢ x → member y cands' ≡ member y cands

-- The first of the queue becomes a candidate: its later neighbours of the level are queued.
pub record Raised (s : Search) (cands : List ℕ) (w : ℕ) (queue : List ℕ) (earlier later : ℕ → ℕ) (cands' queue' : List ℕ)
    (earlier' later' : ℕ → ℕ) : Type 0 where
  pub strong : s.level < earlier w + later' w
  pub counted : later' w ≡ ahead s w
  pub later_kept : (x : ℕ) → member x cands ≡ true → later' x ≡ later x
  pub more : (y : ℕ) → OnLevel s y → earlier' y ≡ earlier y + (if s.adj w y && after s w y then 1 else 0)
  pub added : AddsCandidate cands w cands'
  pub queue_ascends : AscendsBy s.rank queue'
  pub queue_from : (y : ℕ) → OnLevel s y → member y queue' ≡ (member y queue || (s.adj w y && after s w y))
  pub queue_level : (y : ℕ) → member y queue' ≡ true → OnLevel s y

-- The first of the queue is settled: its neighbours that are candidates have one later neighbour less.
pub record Settled (s : Search) (cands : List ℕ) (w : ℕ) (earlier later earlier' later' : ℕ → ℕ) : Type 0 where
  pub weak : earlier w + ahead s w ≤ s.level
  pub fewer : (x : ℕ) → member x cands ≡ true → later' x ≡ later x - (if s.adj w x then 1 else 0)
  pub earlier_kept : (x : ℕ) → x ≢ w → earlier' x ≡ earlier x

-- The candidate `x` is evicted.
pub record Evicted (s : Search) (cands : List ℕ) (frontier x : ℕ) (earlier later : ℕ → ℕ) (cands' : List ℕ) (earlier' later' : ℕ → ℕ) : Type 0 where
  pub dropped : Drops cands x cands'
  pub fewer_later : (y : ℕ) → member y cands' ≡ true → later' y ≡ later y - (if s.adj x y && after s y x then 1 else 0)
  pub fewer_earlier : (y : ℕ) → OnLevel s y → y ≢ x → (member y cands' || nat_le frontier (s.rank y)) ≡ true
      → earlier' y ≡ earlier y - (if s.adj x y && after s x y then 1 else 0)

-- The list of those to be evicted goes on: those of `listed` among its neighbours that are now too weak are added.
pub record Relisted (s : Search) (cands evict : List ℕ) (earlier later : ℕ → ℕ) (x : ℕ) (evict' : List ℕ) : Type 0 where
  pub distinct : Distinct evict'
  pub kept : (y : ℕ) → member y evict ≡ true → member y evict' ≡ true
  pub only : (y : ℕ) → member y evict' ≡ true → member y evict ≡ false → (member y cands ≡ true) × (earlier y + later y ≤ s.level)
  pub all_weak : (y : ℕ) → member y cands ≡ true → s.adj x y ≡ true → member y evict' ≡ false → s.level < earlier y + later y

-- the shifts so far
pub record Shifts (s : Search) (cands : List ℕ) (frontier : ℕ) (shifts : List (ℕ × ℕ)) : Type 0 where
  pub in_turn : AreInTurn shifts
  pub once : Distinct (firsts shifts)
  pub first_level : (x : ℕ) → member x (firsts shifts) ≡ true → OnLevel s x
  pub first_passed : (x : ℕ) → member x (firsts shifts) ≡ true → s.rank x < frontier
  pub first_done : (x : ℕ) → member x (firsts shifts) ≡ true → member x cands ≡ false
  pub second_level : (x : ℕ) → member x (seconds shifts) ≡ true → OnLevel s x
  pub second_passed : (x : ℕ) → member x (seconds shifts) ≡ true → s.rank x < frontier
  pub second_done : (x : ℕ) → member x (seconds shifts) ≡ true → member x cands ≡ false

-- between two turns
pub record BetweenTurns (s : Search) (root : ℕ) (cands queue : List ℕ) (frontier : ℕ) (earlier later : ℕ → ℕ) (shifts : List (ℕ × ℕ)) : Type 0 where
  pub searching : Searching s root cands queue frontier earlier later (place_after s.rank shifts)
  pub strong : AllStrong s cands earlier later
  pub shifts_fit : Shifts s cands frontier shifts

-- while a vertex is settled
pub record InSettling (s : Search) (root : ℕ) (cands queue : List ℕ) (frontier : ℕ) (earlier later : ℕ → ℕ) (shifts : List (ℕ × ℕ))
    (evict : List ℕ) (last : ℕ) : Type 0 where
  pub searching : Searching s root cands queue frontier earlier later (place_after s.rank shifts)
  pub settling : WeakListed s cands frontier earlier later (place_after s.rank shifts) evict last
  pub shifts_fit : Shifts s cands frontier shifts
