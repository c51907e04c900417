-- A view that answers what it likes, as it is seen.
use Rattle.std.specs.Prelude.{◌≡◌, ◌≢◌, ◌<◌, ℕ, ⊤}
use Rattle.kc_words.specs.declared.again.Again.{Again}
use Rattle.kc_view.specs.Answers.{Answers}
use Rattle.kc_view.specs.Lists.{AreLists}
use Rattle.kc_view.specs.Views.{Shown}

-- what contracts see of it, and the two loads that its misses tell of
pub record Whims : Type 0 where
  pub size : ℕ
  pub kept : Answers
  pub handed : ℕ
  pub misses : ℕ
  pub again : Again

-- what each such view keeps true
pub record IsWhim (w : Whims) : Type 0 where
  pub lists : AreLists w.size w.kept.edges
  pub differ : w.again.first ≢ w.again.second

-- It has missed with these two loads, if it has missed; no graph is behind it.
abbrev pub shown_by_whim : Whims → Shown
shown_by_whim w = record {
  size = w.size;
  kept = w.kept;
  handed = w.handed;
  misses = w.misses;
  is_missed = λ again. (again ≡ w.again) × (0 < w.misses);
  is_given = λ answers. ⊤;
}
