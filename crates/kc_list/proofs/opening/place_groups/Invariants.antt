-- The groups before the next have their labels, and other words are as they were.
use Rattle.std.proofs.Common.{◌≡◌, ◌<◌, ◌≤◌, ◌+◌, ◌*◌, ◌/◌, ◌⊎◌, ℕ, get_or}
use Rattle.kc_words.specs.GroupWord.{group_of}
use Rattle.kc_list.proofs.opening.place_groups.Given as goal
use Rattle.kc_words.specs.declared.layout.TheConstants.{TOP_ROOM}

abbrev pub invariant-loop-j : goal.invariant-loop-j
invariant-loop-j l = ((k : ℕ) → k < l.j
    → group_of (get_or l.words (l.items + (1 + k)) 0) ≡ record { version = l.version; top = (k + 1) * (TOP_ROOM / (l.count + 1)) }) ×
    ((w : ℕ) → (w ≤ l.items) ⊎ (l.items + l.count < w) → get_or l.words w 0 ≡ get_or l.initial.words w 0)
