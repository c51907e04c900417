-- The rule of a history: the pen alone adds to it.
--
-- The book has a cell for its head and one that is unused, one for each member, and up to two that are written by pens. To add a member
-- is to bring home the cell that the pen writes, so nobody adds without it, and its owner knows the whole history. The head is three
-- times the number of members, and one more for each pen.
use Rattle.std.specs.Prelude.{◌≡◌, ◌==◌, ℕ, ◌+◌, ◌*◌, ◌≤◌, ◌<◌, true, false, List, [], ◌∷◌, ◌++◌, length, replicate, MatchBool}
use Rattle.logbook.specs.Pages.{Book, Cell, Named, Nib, Step, View, nib, may_make, right_number}
use Rattle.kc_snapshot.specs.declared.member.Member.{Member}

-- the cells behind the head, where there are so many members and pens
abbrev pub behind_head : ℕ → ℕ → List Cell
behind_head members pens = replicate (members + 1) (0, true) ++ replicate pens (0, false)

-- all cells, first the head, where there are so many members and pens
abbrev pub cells_of : ℕ → ℕ → List Cell
cells_of members pens = (3 * members + pens, true) ∷ behind_head members pens

-- the cells are those for as many members as the history has, and for at most two pens
pub record AreHistoryCells (cells : List Cell) (log : List Member) : Type 0 where
  pub pens : ℕ
  pub few : pens ≤ 2
  pub words : cells ≡ cells_of (length log) pens

-- the name of no book
abbrev pub no_book : Book
no_book = record { number = 0; log_name = 0; cells_name = 0 }

-- the head of a book
abbrev pub head_of : Book → Named
head_of book = record { tracked = true; key = 0; book = book }

-- the pen that may add to this book where it has so many members
abbrev pub IsPen : Book → ℕ → Book → Nib → Type 0
IsPen book members of n = (of ≡ book) × (right_number n.right ≡ 1) × (n.key ≡ members + 2) × (n.value ≡ 0)

-- a cell was added where the head was the one expected, and the pen may make its word
abbrev pub TellsPen : Step Member → View Member ℕ → ℕ → View Member ℕ → Type 0
TellsPen s v found w =
    MatchBool (found == s.old)
    ((members : ℕ) × (pens : ℕ) × (pens < 2) × (s.old ≡ 3 * members + pens) × (w.1.0 ≡ nib may_make (members + pens + 2) 0)) (Unit {0})

-- the list was added to all that had been seen; or nothing changed, and the pen is as it was
abbrev pub TellsAdded : Step Member → View Member ℕ → ℕ → View Member ℕ → Type 0
TellsAdded s v found w = MatchBool (found == s.old) (w.0 ≡ v.0 ++ s.ask ∷ []) ((w.0 ≡ v.0) × (w.1.0 ≡ v.1.0))

-- the history is as long as the pen says, and the pen is as it was
abbrev pub TellsLength : Step Member → View Member ℕ → ℕ → View Member ℕ → Type 0
TellsLength s v found w = (length w.0 + 2 ≡ v.1.0.key) × (w.1.0 ≡ v.1.0)
