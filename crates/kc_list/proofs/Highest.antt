-- The greatest version of the words.
use Rattle.std.proofs.Common.{◌≡◌, ℕ, suc, zero, ◌+◌, ◌<◌, ◌≤◌, List, [], ◌∷◌, length, set, take, ◌∙◌, ap, arith, max}
use Rattle.std.proofs.lemmas.List.{length-set, length-take-le}
use Rattle.kc_words.specs.declared.item.ItemWord.{ItemWord}
use Rattle.kc_words.specs.ItemWord.{item_of}
use Rattle.kc_words.proofs.Packing.{none_version}
use Rattle.kc_list.specs.Writes.{Write}
use Rattle.kc_list.specs.Sheets.{version, highest_of}

-- the greatest version after a store is that before it, or that of the new word where this is greater
pub highest-set : (ws : List ℕ) (i v : ℕ) → i < length ws → version ws i ≤ (item_of v).version
    → highest_of (set ws i v) ≡ max (highest_of ws) (item_of v).version
highest-set [] i v l h = absurd (omega arith)
highest-set (w ∷ ws) zero v l h = omega arith
highest-set (w ∷ ws) (suc i) v l h = omega (arith, highest-set ws i v (omega arith) h)

-- after a store that raises a version by one, what the program keeps is the greatest version
pub highest_stored : (inside old : List ℕ) (high v i r : ℕ) (w : ItemWord) → inside ≡ old → high ≡ highest_of inside → i < length old
    → (item_of v).version ≡ version old i + 1 → w ≡ item_of v → r ≡ max high w.version → r ≡ highest_of (set inside i v)
highest_stored inside old high v i r w is e l rise w-is r-is =
    let l' : i < length inside = omega (arith, ap length is) in
    let up : version inside i ≤ (item_of v).version = omega (arith, rise, ap (λ us. version us i) is) in
    r-is ∙ (omega (arith, e, ap (λ z. z.version) w-is, highest-set inside i v l' up))

-- a buffer that is not full has room for one write more
pub room_stored : (buffer ws : List Write) (count room : ℕ) (s : Write) → count ≤ length buffer → take count buffer ≡ ws → length buffer ≡ room
    → length ws < room → count + 1 ≤ length (set buffer count s)
room_stored buffer ws count room s l e is r = omega (arith, length-set buffer count s, length-take-le count buffer l, ap length e)

-- no word has a version above the greatest
pub version-highest : (ws : List ℕ) (w : ℕ) → version ws w ≤ highest_of ws
version-highest [] w = omega (arith, none_version)
version-highest (u ∷ ws) zero = omega arith
version-highest (u ∷ ws) (suc w) = omega (arith, version-highest ws w)

-- where no word has a version above k, the greatest is not above k
pub highest-below : (us : List ℕ) (k : ℕ) → ((w : ℕ) → version us w ≤ k) → highest_of us ≤ k
highest-below [] k f = omega arith
highest-below (u ∷ us) k f = omega (arith, f 0, highest-below us k (λ w. f (suc w)))

-- a version that a word has, and that none is above, is the greatest
pub highest-all : (ws : List ℕ) (k i : ℕ) → i < length ws → version ws i ≡ k → ((w : ℕ) → version ws w ≤ k) → highest_of ws ≡ k
highest-all ws k i l e h = omega (arith, version-highest ws i, highest-below ws k h)
