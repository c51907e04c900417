-- One list that holds vertices and the heads of their levels: head k stands before the vertices of level k.
use Rattle.std.specs.Prelude.{ℕ, zero, suc, ◌+◌, Bool, List, [], ◌∷◌, ◌++◌, filter, slice_index, nat_eq, nat_le, nat_lt, if◌then◌else◌, ◌==◌}
use Rattle.kc_lists.specs.Lists.{right_after, without, prev_of}
use Rattle.kc_graph.specs.Plans.{shifted}
use Rattle.kc_graph.specs.declared.plan.Moves.{Moves}
use Rattle.kc_graph.specs.declared.plan.Moves.TheVariants.{Kept, Plain, Rise, Fall}

-- whether a vertex's level is at most this one
abbrev pub up_to : List ℕ → ℕ → ℕ → Bool
up_to core level y = nat_le (slice_index core y) level

-- whether a vertex's level is below this one
abbrev pub under : List ℕ → ℕ → ℕ → Bool
under core level y = nat_lt (slice_index core y) level

-- the vertices of a level, in their order
abbrev pub level_part : List ℕ → List ℕ → ℕ → List ℕ
level_part core order k = filter (λ v. nat_eq (slice_index core v) k) order

-- `count` heads from head `k` on, each before its part
abbrev pub parts_from : ℕ → (ℕ → List ℕ) → ℕ → ℕ → List ℕ
parts_from n part k zero = []
parts_from n part k (suc count) = (n + k) ∷ (part k ++ parts_from n part (suc k) count)

-- parts without vertices
abbrev pub no_part : ℕ → List ℕ
no_part k = []

-- head 0, the vertices of level 0, head 1, and so on to head n; head k is item n + k
unfoldable pub with_heads : ℕ → List ℕ → List ℕ → List ℕ
with_heads n order core = parts_from n (level_part core order) 0 (suc n)

-- the vertices of a list
abbrev pub vertices_of : ℕ → List ℕ → List ℕ
vertices_of n list = filter (λ x. nat_lt x n) list

-- one put
abbrev pub put : ℕ → ℕ → List ℕ → List ℕ
put x p list = right_after x p (without x list)

-- each is put right after a head, the last one first
abbrev pub put_each_first : ℕ → List ℕ → List ℕ → List ℕ
put_each_first head [] list = list
put_each_first head (v ∷ vs) list = put v head (put_each_first head vs list)

-- each in turn is put after the last item before a head other than itself
abbrev pub put_each_last : ℕ → List ℕ → List ℕ → List ℕ
put_each_last head [] list = list
put_each_last head (v ∷ vs) list = put_each_last head vs (put v (prev_of head head (without v list)) list)

-- the list with heads after the puts of some moves
abbrev pub after_puts : ℕ → Moves → List ℕ → List ℕ
after_puts n Kept list = list
after_puts n Plain list = list
after_puts n (Rise level rise shifts) list = put_each_first (n + (level + 1)) rise.items (shifted shifts.items list)
after_puts n (Fall level fall) list = put_each_last (n + level) fall.items list

-- what stands behind an item
abbrev pub behind : ℕ → List ℕ → List ℕ
behind x [] = []
behind x (y ∷ ys) = if x == y then ys else behind x ys
