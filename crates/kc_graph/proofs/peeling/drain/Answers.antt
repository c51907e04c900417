-- The vertex whose turn it is leaves the front of the bucket. It is taken if its number is the level, and else it was taken before.
use Rattle.std.proofs.Common.{◌≡◌, ◌≤◌, ◌<◌, ◌+◌, ◌++◌, ◌∷◌, [], ℕ, List, length, length-set, get_or, drop, arith, subst, sym, ◌∙◌}
use Rattle.kc_graph.specs.SimpleGraph.{SimpleGraph}
use Rattle.kc_graph.specs.Neighbours.{AreNeighbours}
use Rattle.kc_graph.specs.Rows.{lists, row}
use Rattle.kc_graph.specs.Peeling.{IsAboutToTake, Lowered, Peels, at, from_turn}
use Rattle.kc_graph.proofs.Buckets.{length-lists, row-set_same}
use Rattle.kc_graph.proofs.Filing.{Popped, has_room, next_level, popped_fits, popped_past, taken_low, vertex-taken}
use Rattle.kc_graph.proofs.PeelingLemmas.{neighbours-distinct}
use Rattle.kc_graph.proofs.Turning.{bucket-grows, last_turn, lowered_behind, next_turn, turn_takes}
use Rattle.kc_graph.proofs.peeling.drain.Goals as goal

-- It is the turn of `v`.
module _ (g : SimpleGraph) (level turn v : ℕ) (core taken : List ℕ) (rows : List (List ℕ)) (level_in : level < length rows)
    (peels : Peels g level core taken (from_turn level turn rows)) (here : (turn < length (row rows level)) × (v ≡ get_or (row rows level) turn 0)) where
  -- it leaves the bucket
  popped : Popped level v (from_turn level turn rows) (from_turn level (turn + 1) rows)
  popped = next_turn level turn rows level_in v here.0 here.1

  -- it is a vertex
  fits : v < length core
  fits = (popped_fits level v core taken (from_turn level turn rows) (from_turn level (turn + 1) rows) peels.filed popped).0

  -- where its number is not the level, all stays peeled without it
  passed : (at core v ≡ level → ⊥) → Peels g level core taken (from_turn level (turn + 1) rows)
  passed past = popped_past g level v core taken (from_turn level turn rows) (from_turn level (turn + 1) rows) peels popped past

  -- where it is the level, it is about to be taken
  takes : at core v ≡ level → IsAboutToTake g level v core taken (from_turn level (turn + 1) rows)
  takes is = turn_takes level turn rows level_in g v core taken peels here is

  -- there is a bucket for each vertex above the level
  room : (w : ℕ) → at core v ≡ level → w < g.size → level < at core w → at core w < length rows
  room w is w_in up =
      let t = takes is in
      let rest : List (List ℕ) = from_turn level (turn + 1) rows in
      omega (
        arith,
        length-set rows level (drop (turn + 1) (row rows level)),
        has_room level w core (taken ++ v ∷ []) rest t.filed (taken_low g level v core taken rest t) (omega (arith, w_in, t.peeled.one_each)) up,
      )

  -- it is taken once its neighbours are lowered
  lowered : (ws core' order : List ℕ) (rows' : List (List ℕ)) → at core v ≡ level → AreNeighbours g v ws → Lowered level ws core rows core' rows'
      → order ≡ taken ++ v ∷ [] → (turn + 1 ≤ length (row rows' level)) × Peels g level core' order (from_turn level (turn + 1) rows')
  lowered ws core' order rows' is near h ordered =
      let behind = lowered_behind level (turn + 1) rows level_in ws core core' rows' (omega (arith, here.0)) h in (
        omega (arith, here.0, bucket-grows level level ws core rows core' rows' h),
        subst (λ (t : List ℕ). Peels g level core' t (from_turn level (turn + 1) rows')) (sym ordered)
            (vertex-taken g level v core taken ws (from_turn level (turn + 1) rows) core' (from_turn level (turn + 1) rows') (takes is) near behind),
      )

pub overflow_add-turn : goal.overflow_add-turn
overflow_add-turn c = omega (arith, c.in-Some.ensures.few)

pub bounds-core-v : goal.bounds-core-v
bounds-core-v c =
    fits _ _ _ _ _ _ (lists c.loop-v.buckets) (omega (arith, length-lists c.loop-v.buckets)) c.loop-v.invariant.1 c.in-Some.ensures.here

pub lower_each-requires-clause-distinct : goal.lower_each-requires-clause-distinct
lower_each-requires-clause-distinct c = neighbours-distinct c.args.graph.now c.in-Some.v c.neighbours.result.now c.neighbours.ensures

pub lower_each-requires-clause-room : goal.lower_each-requires-clause-room
lower_each-requires-clause-room c = λ w m up.
    omega (
      arith,
      length-lists c.loop-v.buckets,
      room _ _ _ _ _ _ (lists c.loop-v.buckets) (omega (arith, length-lists c.loop-v.buckets)) c.loop-v.invariant.1 c.in-Some.ensures.here w c.if-core-v.true
          (c.neighbours.ensures.within w m) up,
    )

pub loop-v-preserved-in-Continue-branch-2 : goal.loop-v-preserved-in-Continue-branch-2
loop-v-preserved-in-Continue-branch-2 c =
    lowered _ _ _ _ _ _ (lists c.loop-v.buckets) (omega (arith, length-lists c.loop-v.buckets)) c.loop-v.invariant.1 c.in-Some.ensures.here _ _ _ _
    c.if-core-v.true c.neighbours.ensures c.in_ok-lower_each.ensures c.in_ok-push.ensures.items

pub loop-v-preserved : goal.loop-v-preserved
loop-v-preserved c = (
  omega (arith, c.in-Some.ensures.here.0),
  passed _ _ _ _ _ _ (lists c.loop-v.buckets) (omega (arith, length-lists c.loop-v.buckets)) c.loop-v.invariant.1 c.in-Some.ensures.here c.if-core-v.false,
)

pub returns : goal.returns
returns c =
    let rows : List (List ℕ) = lists c.loop-v.buckets in
    let there : c.args.level < length rows = omega (arith, length-lists c.loop-v.buckets) in
    let is : from_turn c.args.level c.loop-v.turn rows ≡ lists c.empty.new.buckets =
    last_turn c.args.level c.loop-v.turn rows c.in_default.ensures.here ∙ sym c.empty.ensures in
    next_level c.args.graph.now c.args.level c.loop-v.core c.loop-v.order.items (lists c.empty.new.buckets)
    (subst (Peels c.args.graph.now c.args.level c.loop-v.core c.loop-v.order.items) is c.loop-v.invariant.1)
    (subst (λ (t : List (List ℕ)). row t c.args.level ≡ []) (sym c.empty.ensures) (row-set_same rows c.args.level [] there))
