-- A line of sizes in front of edges, which is read as an edge.
use Rattle.std.specs.Prelude.{◌+◌, ◌==◌, ◌&&◌, ◌||◌, ℕ, Bool, List, filter, length, not, nat_le, nat_lt, if◌then◌else◌}
use Rattle.std.specs.List.{list_all}
use Rattle.kc_text.specs.Meaning.{Told, names}

-- whether an edge joins two ids, and is no loop
abbrev pub joins_two : ℕ × ℕ → Bool
joins_two e = not (e.0 == e.1)

-- whether an id is not greater than the first number of a pair, or is the second
abbrev pub is_sized : ℕ × ℕ → ℕ → Bool
is_sized pair id = nat_le id pair.0 || id == pair.1

-- how many edges are no loops where the second number of a pair counts all but the pair's own
abbrev pub count_with : ℕ × ℕ → ℕ
count_with pair = if pair.0 == pair.1 then pair.1 else pair.1 + 1

-- whether a pair may be sizes, by the number of edges that are no loops and the ids
abbrev pub are_sizes_of : ℕ × ℕ → ℕ → List ℕ → Bool
are_sizes_of pair edges ids = nat_lt 1 pair.0 && (nat_lt 0 pair.1 && (edges == count_with pair && list_all (is_sized pair) ids))

-- Whether a pair among what was told may be the sizes of the graph that all else tells: how many vertices it has, at least two, and how many
-- edges, at least one. No id is greater than the first number, but for the second. The second counts the edges that are no loops, without the
-- pair's own.
abbrev pub may_be_sizes : ℕ × ℕ → Told → Bool
may_be_sizes pair told = are_sizes_of pair (length (filter joins_two told.edges)) (names told)
