-- The items before the next have their places, and other words are as they were.
use Rattle.std.proofs.Common.{◌≡◌, ◌<◌, ◌+◌, ℕ, length, get_or, map}
use Rattle.kc_words.specs.ItemWord.{item_of}
use Rattle.kc_list.specs.Sheets.{ChangesOnly}
use Rattle.kc_list.specs.Opening.{opening_item}
use Rattle.kc_list.proofs.opening.place_items.Given as goal

abbrev pub invariant-loop-i : goal.invariant-loop-i
invariant-loop-i l = ((k : ℕ) → k < l.i → item_of (get_or l.words (1 + get_or l.order k 0) 0) ≡ opening_item l.version (length l.order) k) × ChangesOnly
    (map (λ x. 1 + x) l.order) l.initial.words l.words
