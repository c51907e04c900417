-- What the maps of an arrangement tell.
use Rattle.std.proofs.Common.{◌≡◌, ◌≢◌, ◌≤◌, ◌<◌, ◌+◌, ◌-◌, ℕ, Bool, true, false, cond, not, ◌&&◌, drop, leb, List, [], ◌∷◌, Option, length, get_or}
use Rattle.std.proofs.Common.{ltb, refl, ◌∙◌, ap, ap₂, arith, true≢false}
use Rattle.std.specs.Prelude.{unwrap_or, count_by}
use Rattle.std.specs.Bool.{beq}
use Rattle.std.proofs.lemmas.Bool.{false≢true}
use mathlib.Core.Path.{fun_ext}
use Rattle.kc_lists.specs.Lists.{member, Distinct, below, place_of}
use Rattle.kc_lists.proofs.Members.{member-head}
use Rattle.kc_lists.proofs.Counting.{member-below, Distinct-below}
use Rattle.kc_graph.specs.SimpleGraph.{SimpleGraph, adjacent, degree_among}
use Rattle.kc_graph.specs.Certificate.{degree_as_high}
use Rattle.kc_graph.specs.declared.update.Update.{Update}
use Rattle.kc_graph.specs.Lawful.{Ranked, IsCertified}
use Rattle.kc_graph.specs.Plans.{updated, moved_by}
use Rattle.kc_graph.specs.declared.plan.Moves.{Moves}
use Rattle.kc_graph.specs.declared.plan.Moves.TheVariants.{Kept, Plain, Rise, Fall}
use Rattle.kc_cert.specs.Local.{firsts, seconds, AreInTurn, MovesFit, HoldsAt}
use Rattle.kc_cert.specs.Ranks.{rank_in, place_after}
use Rattle.kc_cert.specs.Stands.{leaving, next_level, shifts_of, is_low, stands_after, changed_by}
use Rattle.kc_cert.specs.Shifting.{place_in, anchor_of, line_after, home_after, no_home, chain_after}
use Rattle.kc_cert.proofs.Arranging.{renumbered-at, after_by, moves-arranged}
use Rattle.kc_cert.proofs.Placing.{Orders-distinct, later-count}
use Rattle.kc_cert.proofs.Sums.{count-same}
use Rattle.kc_cert.proofs.Ordered.{order-has, rank-apart}
use Rattle.kc_cert.proofs.Chaining.{Linked, Chained, linked_none, chained_none, linked_all, chained_all, chain_after-is}
use Rattle.kc_lists.proofs.Shared.{Distinct-back}

-- the core number of a vertex after moves
pub core-moved : (s : Ranked) (moves : Moves) (y : ℕ) → y < length s.core
    → get_or (moved_by moves s).core y 0 ≡ cond (member y (leaving moves)) (next_level moves) (get_or s.core y 0)
core-moved s Kept y l = refl
core-moved s Plain y l = refl
core-moved s (Rise level rise shifts) y l = renumbered-at rise.items (level + 1) s.core y l
core-moved s (Fall level fall) y l = renumbered-at fall.items (level - 1) s.core y l

-- shifts that fit
pub record ShiftsFit (s : Ranked) (shifts : List (ℕ × ℕ)) : Type 0 where
  pub in_turn : AreInTurn shifts
  pub once : Distinct (firsts shifts)
  pub within : (w : ℕ) → member w (seconds shifts) ≡ true → w < s.graph.size

-- where there is no shift, they fit
no_shifts : (s : Ranked) → ShiftsFit s []
no_shifts s = record { in_turn = tt; once = tt; within = λ w m. absurd (false≢true m) }

-- the shifts of moves that fit are shifts that fit
pub shifts_fit : (s : Ranked) (moves : Moves) → MovesFit s moves → ShiftsFit s (shifts_of moves)
shifts_fit s Kept fit = no_shifts s
shifts_fit s Plain fit = no_shifts s
shifts_fit s (Rise level rise shifts) fit = record {
  in_turn = fit.in_turn;
  once = Distinct-back rise.items (firsts shifts.items) fit.once;
  within = λ w m. (fit.after_level w m).vertex;
}
shifts_fit s (Fall level fall) fit = no_shifts s

-- the chains of moves that fit
pub record ChainsTell (s : Ranked) (moves : Moves) : Type 0 where
  pub linked : Linked (line_after [] (shifts_of moves)) (home_after no_home (shifts_of moves)) []
  pub chained : Chained (rank_in s.order) (place_after (rank_in s.order) (shifts_of moves)) s.graph.size (line_after [] (shifts_of moves))
      (home_after no_home (shifts_of moves))

-- in a certified state the chains of moves that fit tell how the vertices stand
pub chains_tell : (s : Ranked) (moves : Moves) → IsCertified s → MovesFit s moves → ChainsTell s moves
chains_tell s moves h fit =
    let f = shifts_fit s moves fit in
    let start : Linked [] no_home (shifts_of moves) = linked_none (shifts_of moves) f.in_turn f.once in
    let n : ℕ = s.graph.size in
    let in_order : (x : ℕ) → x < n → member x s.order ≡ true = λ x l. order-has n s.order h.enumerates x ∙ member-below x n l in
    record {
      linked = linked_all (shifts_of moves) [] no_home start;
      chained =
          chained_all (shifts_of moves) (rank_in s.order) (rank_in s.order) n [] no_home f.within start
          (chained_none (rank_in s.order) n (λ y z ly lz e. rank-apart s.order y z (in_order y ly) (in_order z lz) e));
    }

-- an anchor is a vertex
pub anchor_vertex : (s : Ranked) (moves : Moves) (home : ℕ → Option ℕ) (y : ℕ) → IsCertified s → MovesFit s moves
    → ((y : ℕ) → home y ≡ home_after no_home (shifts_of moves) y) → y < s.graph.size → anchor_of home y < s.graph.size
anchor_vertex s moves home y h fit is l = omega (arith, (chains_tell s moves h fit).chained.vertices y l, ap (λ o. unwrap_or o y) (is y))

-- the comparison by chains
pub chains_compare : (s : Ranked) (moves : Moves) (home places : ℕ → Option ℕ) (z y : ℕ) → IsCertified s → MovesFit s moves
    → ((y : ℕ) → home y ≡ home_after no_home (shifts_of moves) y)
    → ((x : ℕ) → places x ≡ place_in (line_after [] (shifts_of moves)) x) → z ≢ y → z < s.graph.size → y < s.graph.size
    → chain_after (rank_in s.order) home places z y
    ≡ ltb (place_after (rank_in s.order) (shifts_of moves) z) (place_after (rank_in s.order) (shifts_of moves) y)
chains_compare s moves home places z y h fit is at ne lz ly =
    let t = chains_tell s moves h fit in
    let e : home ≡ home_after no_home (shifts_of moves) = fun_ext is in
    let f : places ≡ place_in (line_after [] (shifts_of moves)) = fun_ext at in
    ap₂ (λ (a b : ℕ → Option ℕ). chain_after (rank_in s.order) a b z y) e f
    ∙ chain_after-is (rank_in s.order) (place_after (rank_in s.order) (shifts_of moves)) s.graph.size (line_after [] (shifts_of moves))
    (home_after no_home (shifts_of moves)) t.linked.held t.chained z y lz ly ne

-- tests that are not found to differ are the same
pub same_bools : (a b : Bool) → not (beq a b) ≡ false → a ≡ b
same_bools true true e = refl
same_bools false false e = refl
same_bools true false e = absurd (true≢false e)
same_bools false true e = absurd (true≢false e)

-- of two that don't leave their level, and are low or not alike, the ranks tell which stands first
same_side : (mz lz my ly : Bool) (iz iy pz py : ℕ) → mz ≡ false → my ≡ false → lz ≡ ly → ltb pz py ≡ after_by mz lz my ly iz iy pz py
same_side false true false true iz iy pz py a b e = refl
same_side false false false false iz iy pz py a b e = refl
same_side false true false false iz iy pz py a b e = absurd (true≢false e)
same_side false false false true iz iy pz py a b e = absurd (false≢true e)
same_side true lz my ly iz iy pz py a b e = absurd (true≢false a)
same_side false lz true ly iz iy pz py a b e = absurd (true≢false b)

-- two of one side that do not leave their level
pub stays_by_place : (s : Ranked) (moves : Moves) (z y : ℕ) → member z (leaving moves) ≡ false → member y (leaving moves) ≡ false
    → is_low moves s.core z ≡ is_low moves s.core y
    → ltb (place_after (rank_in s.order) (shifts_of moves) z) (place_after (rank_in s.order) (shifts_of moves) y) ≡ stands_after moves s z y
stays_by_place s moves z y mz my e =
    same_side (member z (leaving moves)) (is_low moves s.core z) (member y (leaving moves)) (is_low moves s.core y)
    (rank_in (leaving moves) z) (rank_in (leaving moves) y)
    (place_after (rank_in s.order) (shifts_of moves) z) (place_after (rank_in s.order) (shifts_of moves) y) mz my e

-- a list of length 0 has no member
pub no_member : (xs : List ℕ) (x : ℕ) → length xs ≡ 0 → member x xs ≡ true → ⊥
no_member [] x e m = false≢true m
no_member (y ∷ ys) x e m = omega arith

-- a list without a member has length 0
pub empty_from : (xs : List ℕ) → ((x : ℕ) → member x xs ≡ true → ⊥) → length xs ≡ 0
empty_from [] h = refl
empty_from (x ∷ xs) h = absurd (h x (member-head x xs))

-- what the certificate asks at a vertex after an update and moves, as counts over all vertices
pub record Counted (s : Ranked) (update : Update) (moves : Moves) (z : ℕ) : Type 0 where
  pub later : degree_among (updated update s.graph) (drop (place_of z (moved_by moves s).order + 1) (moved_by moves s).order) z ≡ count_by
      (λ y. adjacent (updated update s.graph) z y && stands_after moves s z y) (below s.graph.size)
  pub high : degree_as_high (updated update s.graph) (moved_by moves s).core (moved_by moves s).order z
      ≡ count_by
      (λ y. adjacent (updated update s.graph) z y && leb (get_or (moved_by moves s).core z 0) (get_or (moved_by moves s).core y 0))
      (below s.graph.size)

-- in a certified state, with moves that fit, what is asked at each vertex comes to such counts
pub asked-counted : (s : Ranked) (update : Update) (moves : Moves) (z : ℕ) → IsCertified s → MovesFit s moves → z < s.graph.size → Counted s update moves z
asked-counted s update moves z h fit l =
    let a = moves-arranged s moves h fit in
    let n : ℕ = s.graph.size in
    let g : SimpleGraph = updated update s.graph in
    let core : List ℕ = (moved_by moves s).core in
    let order : List ℕ = (moved_by moves s).order in
    let lt : ℕ → ℕ → Bool = stands_after moves s in
    let once : Distinct order = Orders-distinct lt order a.itself a.orders in
    let late : ℕ → Bool = λ y. adjacent g z y && lt z y in
    let high : ℕ → Bool = λ y. adjacent g z y && leb (get_or core z 0) (get_or core y 0) in
    record {
      later =
          later-count lt (adjacent g z) z order a.itself a.orders (a.all z ∙ member-below z n l)
          ∙ count-same late order (below n) once (Distinct-below n) a.all;
      high = count-same high order (below n) once (Distinct-below n) a.all;
    }

-- the two counts, taken with the number of the vertex
abbrev pub IsLater : Ranked → Update → Moves → ℕ → ℕ → Type 0
IsLater s update moves z later = later ≡ count_by (λ y. adjacent (updated update s.graph) z y && stands_after moves s z y) (below s.graph.size)

-- how many neighbours have a number no less, after an update and moves
abbrev pub IsHigh : Ranked → Update → Moves → ℕ → ℕ → ℕ → Type 0
IsHigh s update moves z number high =
    high ≡ count_by (λ y. adjacent (updated update s.graph) z y && leb number (get_or (moved_by moves s).core y 0)) (below s.graph.size)

-- the count is the same with the vertex's own number in place of one that equals it
high_same : (s : Ranked) (update : Update) (moves : Moves) (z number high : ℕ) → number ≡ get_or (moved_by moves s).core z 0
    → IsHigh s update moves z number high → IsHigh s update moves z (get_or (moved_by moves s).core z 0) high
high_same s update moves z number high e h =
    h
    ∙ ap
    (λ (k : ℕ). count_by (λ y. adjacent (updated update s.graph) z y && leb k (get_or (moved_by moves s).core y 0)) (below s.graph.size))
    e

-- where the certificate holds at a vertex, the later neighbours counted are at most its number
pub few_later_counted : (s : Ranked) (update : Update) (moves : Moves) (z number later : ℕ) → Counted s update moves z
    → number ≡ get_or (moved_by moves s).core z 0 → IsLater s update moves z later → HoldsAt (changed_by update moves s) z → later ≤ number
few_later_counted s update moves z number later k e l h =
    let few : degree_among (updated update s.graph) (drop (place_of z (moved_by moves s).order + 1) (moved_by moves s).order) z ≤ get_or
    (moved_by moves s).core z 0 =
    h.few_later in
    omega (arith, k.later, e, l, few)

-- where the certificate holds at a vertex, the neighbours counted as high are at least its number
pub high_counted : (s : Ranked) (update : Update) (moves : Moves) (z number high : ℕ) → Counted s update moves z
    → number ≡ get_or (moved_by moves s).core z 0 → IsHigh s update moves z number high → HoldsAt (changed_by update moves s) z
    → number ≤ high
high_counted s update moves z number high k e l h =
    let enough : get_or (moved_by moves s).core z 0 ≤ degree_as_high (updated update s.graph) (moved_by moves s).core
    (moved_by moves s).order z =
    h.enough_as_high in
    omega (arith, k.high, e, high_same s update moves z number high e l, enough)

-- where both counts pass, the certificate holds at the vertex
pub holds_from_counts : (s : Ranked) (update : Update) (moves : Moves) (z number later high : ℕ) → Counted s update moves z
    → number ≡ get_or (moved_by moves s).core z 0 → IsLater s update moves z later → IsHigh s update moves z number high
    → later ≤ number → number ≤ high → HoldsAt (changed_by update moves s) z
holds_from_counts s update moves z number later high k e l m few enough = record {
  few_later =
      let f : degree_among (updated update s.graph) (drop (place_of z (moved_by moves s).order + 1) (moved_by moves s).order) z ≤ get_or
      (moved_by moves s).core z 0 =
      omega (arith, k.later, e, l) in
      f;
  enough_as_high =
      let f : get_or (moved_by moves s).core z 0 ≤ degree_as_high (updated update s.graph) (moved_by moves s).core (moved_by moves s).order
      z =
      omega (arith, k.high, e, high_same s update moves z number high e m) in
      f;
}

-- of two tests that differ the one passes where the other fails
pub other_bool_true : (a b : Bool) → beq a b ≡ false → b ≡ false → a ≡ true
other_bool_true true b e f = refl
other_bool_true false true e f = absurd (true≢false f)
other_bool_true false false e f = absurd (true≢false e)

-- of two tests that differ the one fails where the other passes
pub other_bool_false : (a b : Bool) → beq a b ≡ false → b ≡ true → a ≡ false
other_bool_false false b e t = refl
other_bool_false true true e t = absurd (true≢false e)
other_bool_false true false e t = absurd (false≢true t)
