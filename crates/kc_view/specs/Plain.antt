-- A graph at rest, as a view of it is seen.
use Rattle.std.specs.Prelude.{◌≡◌, ◌<◌, ◌^◌, ℕ, Bool, false, List, length, slice_index_or}
use Rattle.kc_graph.specs.Lawful.{Ranked}
use Rattle.kc_view.specs.Answers.{Answers, Agrees, has_list, has_core}
use Rattle.kc_view.specs.Views.{Shown}

-- a state, what was answered since the answers were last handed out, and how often these were
pub record Resting : Type 0 where
  pub state : Ranked
  pub kept : Answers
  pub handed : ℕ

-- What was kept is true of the state, and the marks of a vertex say whether its list and its core number were.
pub record KeepsAnswers (s : Ranked) (kept : Answers) (listed placed : List Bool) : Type 0 where
  pub few : s.graph.size < 2 ^ 32
  pub agrees : Agrees kept s
  pub one_each : length listed ≡ s.graph.size
  pub one_each_too : length placed ≡ s.graph.size
  pub lists : (w : ℕ) → slice_index_or listed w false ≡ has_list kept w
  pub places : (w : ℕ) → slice_index_or placed w false ≡ has_core kept w

-- What contracts see of such a view: it has never missed, no two loads differed, and it has answered what is true of the state.
abbrev pub shown_at_rest : Resting → Shown
shown_at_rest r = record {
  size = r.state.graph.size;
  kept = r.kept;
  handed = r.handed;
  misses = 0;
  is_missed = λ again. ⊥;
  is_given = λ answers. Agrees answers r.state;
}
