-- The rule of the queue: it holds the numbers that come next, in order, and all that came before were taken, each once.
use Rattle.std.specs.Prelude.{◌≡◌, ◌+◌, ◌<◌, ℕ, zero, suc, true, List, [], ◌∷◌, ◌++◌}
use mathlib.Core.Option.{some}
use lib.ListN.{get_elem?}
use Rattle.kc_lists.specs.Lists.{member, below, times}
use Rattle.kc_queue.specs.declared.consumer.TheConstants.{PARTS}
use Rattle.kc_queue.specs.declared.dealing.Hand.{Hand}
use Rattle.kc_queue.specs.Shares.{IsShare, AreAllBelow}

-- a consumer with so many parts, which knows how many numbers were put and has taken these
abbrev pub hand : ℕ → ℕ → List ℕ → Hand
hand parts filled taken = record { parts = parts; filled = filled; taken = taken }

-- the number of each, added up
abbrev pub total : (Hand → ℕ) → List Hand → ℕ
total f [] = 0
total f (v ∷ vs) = f v + total f vs

-- `count` numbers from `first` on, in order
abbrev pub numbers_from : ℕ → ℕ → List ℕ
numbers_from first zero = []
numbers_from first (suc count) = first ∷ numbers_from (suc first) count

-- the parts of a consumer
abbrev pub parts_of : Hand → ℕ
parts_of v = v.parts

-- how often it has taken a number
abbrev pub times_in : ℕ → Hand → ℕ
times_in x v = times x v.taken

-- who has a part knows how many numbers were put
abbrev pub Agrees : ℕ → Hand → Type 0
Agrees count v = 0 < v.parts → v.filled ≡ count

-- who has no part has taken nothing
abbrev pub IsIdle : Hand → Type 0
IsIdle v = v.parts ≡ 0 → v.taken ≡ []

-- `next` comes next and `left` numbers are left
pub record IsDealt (next left : ℕ) (items : List ℕ) (views : List Hand) : Type 0 where
  pub parts : total parts_of views ≡ PARTS
  pub held : items ≡ numbers_from next left
  pub taken : (x : ℕ) → total (times_in x) views ≡ times x (below next)
  pub agree : (port : ℕ) (v : Hand) → get_elem? views port ≡ some v → Agrees (next + left) v
  pub idle : (port : ℕ) (v : Hand) → get_elem? views port ≡ some v → IsIdle v

-- the queue holds numbers that come next, in order, and its consumers have taken all below them, each once
abbrev pub Dealt : List ℕ → List Hand → Type 0
Dealt items views = (next : ℕ) × (left : ℕ) × IsDealt next left items views

-- the next number joins what was taken: it is one of those that the queue was filled with, and above all that were taken before
abbrev pub TakesNext : Hand → ℕ → Hand → Type 0
TakesNext v x w = (w ≡ hand v.parts v.filled (v.taken ++ x ∷ [])) × (x < v.filled) × ((y : ℕ) → member y v.taken ≡ true → y < x)

-- what one consumer has taken
abbrev pub OwnsShare : Hand → List ℕ → Type 0
OwnsShare v items = IsShare v.filled v.taken

-- who has all parts has taken all, where the queue is empty
abbrev pub HasTakenAll : Hand → List ℕ → Type 0
HasTakenAll v items = v.parts ≡ PARTS → items ≡ [] → AreAllBelow v.filled v.taken

-- who has all parts and has taken nothing sees all in the queue
abbrev pub HoldsAll : Hand → List ℕ → Type 0
HoldsAll v items = v.parts ≡ PARTS → v.taken ≡ [] → items ≡ numbers_from 0 v.filled
