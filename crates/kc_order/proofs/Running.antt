-- How many versions puts take that are made one after the other.
use Rattle.std.proofs.Common.{ℕ, ◌+◌, ◌*◌, ◌<◌, ◌≤◌, List, [], ◌∷◌, length, sym, subst, arith}
use Rattle.kc_words.specs.declared.layout.TheConstants.{LAST_VERSION}
use Rattle.kc_table.specs.Legal.{IsVersioned}
use Rattle.kc_table.specs.Log.{Seen, TableName}
use Rattle.kc_order.specs.Writers.{HasRoom, HasVersionsLeft, IsHighest, Puts, PutsEach}

-- more room is room enough
pub room-less : (seen : Seen) (room less : ℕ) → less ≤ room → HasRoom seen.table seen.log room → HasRoom seen.table seen.log less
room-less seen room less le h = λ word v. omega (arith, h word v, le)

-- a put takes at most two versions of each word
pub room-put : (old new : Seen) (x p room : ℕ) → Puts old new x p → HasRoom old.table old.log (2 + room) → HasRoom new.table new.log room
room-put old new x p room put h = λ word v.
    let there = subst (λ (t : TableName). IsVersioned t.shape word) put.ends.table v in
    omega (arith, h word there, put.raised word there)

-- puts in turn take at most two versions of each word for each put
pub room-run : (old new : Seen) (puts : List (ℕ × ℕ)) (room : ℕ) → PutsEach old puts new → HasRoom old.table old.log (2 * length puts + room)
    → HasRoom new.table new.log room
room-run old new [] room is h = subst (λ (s : Seen). HasRoom s.table s.log room) (sym is) (room-less old (2 * 0 + room) room (omega arith) h)
room-run old new (put ∷ puts) room (next, one, rest) h =
    room-run next new puts room rest (room-put old next put.0 put.1 (2 * length puts + room) one
    (room-less old (2 * length (put ∷ puts) + room) (2 + (2 * length puts + room)) (omega arith) h))

-- where the greatest version leaves three for each of some puts in turn, each begins with room
pub room-highest : (old new : Seen) (puts : List (ℕ × ℕ)) (highest count : ℕ) → IsHighest old.table old.log highest → highest + 3 * count ≤ LAST_VERSION
    → length puts < count → PutsEach old puts new → HasVersionsLeft new.table new.log
room-highest old new puts highest count greatest enough few run =
    room-run old new puts 3 run (λ word v. omega (arith, greatest.bound word v, enough, few))
