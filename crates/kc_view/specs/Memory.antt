-- What a memo keeps.
use Rattle.std.specs.Prelude.{ℕ, refl}
use Rattle.std.specs.Coded.{Coded, code_by, coded×, coded_ℕ}
use Rattle.kc_view.specs.Answers.{Answers}
use Rattle.kc_view.specs.PlainCode.{code_of_answers}

-- the number of vertices, and what was answered of them since the answers were last handed out
pub record Memory : Type 0 where
  pub size : ℕ
  pub kept : Answers

-- these answers about so many vertices
abbrev pub keeping : ℕ → Answers → Memory
keeping size kept = record { size = size; kept = kept }

-- the code by which the logic stores what a memo keeps
abbrev pub code_of_memory : Coded Memory
code_of_memory = code_by (ℕ × Answers) (coded× coded_ℕ code_of_answers) (λ m. (m.size, m.kept)) (λ p. keeping p.0 p.1) (λ _. refl)
