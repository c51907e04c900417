-- A journal that is shown, and the vertices that were noted since its last publish.
use Rattle.std.specs.Prelude.{◌≡◌, Bool, false, ℕ, List, ◌++◌, length}
use Rattle.kc_journal.specs.Journals.{Journalled}
use Rattle.kc_snapshot.specs.declared.member.Member.{Member}
use Rattle.kc_snapshot.specs.Histories.{DifferAmong, last_list, width}

-- the journal, and the history of its board
pub record Showing : Type 0 where
  pub journal : Journalled
  pub history : List Member

-- vertices, and whether the list lacks some
pub record Noted : Type 0 where
  pub vertices : List ℕ
  pub lacks : Bool

-- where none is lacking now none was before, and these were noted
abbrev pub Notes : Noted → Noted → List ℕ → Type 0
Notes old new vertices = new.lacks ≡ false → (old.lacks ≡ false) × (new.vertices ≡ old.vertices ++ vertices)

-- where none is lacking, no vertex has a new number but those that were noted
abbrev pub Covers : Noted → List ℕ → List ℕ → Type 0
Covers noted old new = noted.lacks ≡ false → DifferAmong noted.vertices old new

-- The board is of the journal's vertices, and what was noted covers what is new since the last list.
pub record BoardFollows (journal : Journalled) (history : List Member) (noted : Noted) : Type 0 where
  pub wide : width history ≡ length journal.levels.core
  pub covers : Covers noted (last_list history) journal.levels.core
