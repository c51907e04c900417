-- The visited and the fallen, and what holds of them.
use Rattle.std.specs.Prelude.{◌≡◌, ◌<◌, ◌⊎◌, ◌++◌, ℕ, Bool, true, List, [], ◌∷◌, All, Some, None, is_some, length, take, nat_lt, if◌then◌else◌}
use Rattle.std.specs.List.{list_any}
use Rattle.kc_lists.specs.Lists.{member, Distinct}
use Rattle.kc_marks.specs.Maps.{value_of}
use Rattle.kc_marks.specs.SearchMarks.{MarksOne}
use Rattle.kc_graph.specs.Lawful.{Ranked}
use Rattle.kc_graph.specs.declared.update.Update.{Update}
use Rattle.kc_view.specs.Answers.{Answers, has_list, list_of}
use Rattle.kc_view.specs.Search.{OnLevel}
use Rattle.kc_view.specs.Sure.{AsksCores}
use Rattle.kc_view.specs.Views.{Shown}
use Rattle.kc_remove.specs.Cascade.{Cascade, nobody}
use Rattle.kc_remove.specs.Removed.{search_without, is_end}
use Rattle.kc_remove.specs.Visits.{count_in, fallen_in, gone_in, IsBound}
use Rattle.kc_remove.specs.declared.falling.Count.{Count}
use Rattle.kc_remove.specs.declared.falling.Falling.{Falling}

-- whether `y` was visited
abbrev pub is_visited : Falling → ℕ → Bool
is_visited f y = is_some (value_of f.seen.marks y)

-- how much support `y` has found so far, or 0 where it was not visited
abbrev pub support_at : Falling → ℕ → ℕ
support_at f y = (count_in (value_of f.seen.marks y)).support

-- at how many neighbours `y` has looked, or 0 where it was not visited
abbrev pub looked_at : Falling → ℕ → ℕ
looked_at f y = (count_in (value_of f.seen.marks y)).looked

-- the number below which the neighbours are at which `y` has looked, or 0 where it was not visited
abbrev pub bound_at : Falling → ℕ → ℕ
bound_at f y = (count_in (value_of f.seen.marks y)).bound

-- whether `y` has looked at its neighbour `x`
abbrev pub has_looked : Falling → ℕ → ℕ → Bool
has_looked f y x = nat_lt x (bound_at f y)

-- whether `y` is on the list of those that fall
abbrev pub has_fallen : Falling → ℕ → Bool
has_fallen f y = fallen_in (value_of f.seen.marks y)

-- whether `y` is one of the first `turns` of that list
abbrev pub is_gone : Falling → ℕ → ℕ → Bool
is_gone f turns y = gone_in turns (value_of f.seen.marks y)

-- `y` has this count now, and is put on the list if its support is too little
pub record Settles (level y : ℕ) (count : Count) (old new : Falling) : Type 0 where
  pub marks : MarksOne y (record { count = count; fallen = (if nat_lt count.support level then Some (length old.seen.weak.items) else None) }) old.seen new.seen
  pub weak : new.seen.weak.items ≡ (if nat_lt count.support level then old.seen.weak.items ++ y ∷ [] else old.seen.weak.items)

-- `y` is an end of the edge, or a neighbour of one that fell
abbrev pub IsNear : Update → Answers → List ℕ → ℕ → Type 0
IsNear update a fall y = (y ≡ update.u) ⊎ (y ≡ update.v) ⊎ (list_any (λ x. member y (list_of a x)) fall ≡ true)

-- what was asked: lists of such vertices alone, core numbers of the ends and of neighbours of vertices whose lists were asked, no order
pub record AsksNear (update : Update) (a : Answers) (fall : List ℕ) : Type 0 where
  pub lists : All (λ e. IsNear update a fall e.vertex) a.edges
  pub cores : AsksCores update a
  pub orders : a.orders ≡ []

-- what holds for every view
pub record IsTidyFalling (update : Update) (shown : Shown) (f : Falling) : Type 0 where
  pub marked : (z turns : ℕ) → is_gone f turns z ≡ member z (take turns f.seen.weak.items)
  pub once : Distinct f.seen.weak.items
  pub within : (z : ℕ) → is_visited f z ≡ true → z < shown.size
  pub listed : (z : ℕ) → is_visited f z ≡ true → has_list shown.kept z ≡ true
  pub looked : (z : ℕ) → is_visited f z ≡ true → IsBound (list_of shown.kept z) (looked_at f z) (bound_at f z)
  pub asks : AsksNear update shown.kept f.seen.weak.items

-- what holds in a state that agrees with the answers
abbrev pub FallsIn : Update → ℕ → Ranked → Falling → ℕ → (ℕ → Bool) → Type 0
FallsIn update level s f turn part = Cascade (search_without update level s) f.seen.weak.items turn part (is_visited f) (support_at f) (has_looked f) nobody

-- all turns are done, and each end of the level was visited
pub record HasEnded (update : Update) (level : ℕ) (s : Ranked) (f : Falling) : Type 0 where
  pub falls : FallsIn update level s f (length f.seen.weak.items) nobody
  pub ends : (z : ℕ) → OnLevel (search_without update level s) z → is_end update z ≡ true → is_visited f z ≡ true
