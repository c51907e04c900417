-- Laws on plans of certified states.
use Rattle.std.proofs.Common.{◌≡◌, ◌<◌, ◌≤◌, ◌+◌, ◌*◌, ℕ, Bool, false, ◌&&◌, ◌||◌, List, length, get_or, leb, refl, sym, ◌∙◌, ap, ap₂, subst, ◌-◌}
use Rattle.std.proofs.Common.{arith, true≢false}
use Rattle.std.specs.Prelude.{count_by}
use Rattle.std.proofs.lemmas.Bool.{and_left, false_from_ne_true}
use Rattle.kc_lists.specs.Lists.{member, Distinct}
use Rattle.kc_lists.proofs.Members.{below_bound}
use Rattle.kc_lists.proofs.Counting.{count-miss, member-from_Contains}
use Rattle.kc_lists.proofs.Shared.{Distinct-append, or-turned}
use Rattle.kc_graph.specs.SimpleGraph.{adjacent}
use Rattle.kc_graph.specs.Lawful.{Ranked, IsCertified}
use Rattle.kc_graph.specs.Plans.{moved_by, state_after, put_between, shifted, renumbered}
use Rattle.kc_graph.specs.declared.plan.Moves.{Moves}
use Rattle.kc_graph.specs.declared.plan.Moves.TheVariants.{Kept, Plain, Rise, Fall}
use Rattle.kc_graph.specs.declared.plan.Plan.{Plan}
use Rattle.kc_words.specs.declared.layout.TheConstants.{LAST_VERSION}
use Rattle.kc_graph.proofs.Law.{adjacent-self}
use Rattle.kc_cert.specs.Local.{firsts, level_of, IsOfLevel, IsLocal, MovesFit, moved_vertices}
use Rattle.kc_cert.proofs.Ordered.{order-distinct}
use Rattle.kc_cert.proofs.Keeping.{certified_after, size-after}
use Rattle.kc_table.specs.Log.{Seen, TableName}
use Rattle.kc_order.specs.Writers.{HasRoom, IsHighest}
use Rattle.kc_levels.specs.Heads.{with_heads, after_puts, under, up_to}
use Rattle.kc_levels.specs.Levels.{Levelled, OpensSection, size_of}
use Rattle.kc_levels.specs.Makes.{AreLevelsOf, IsFresh, Makes, MayMake, as_ranked, puts_of, backwards}
use Rattle.kc_levels.proofs.Planned.{moves-made}
use Rattle.kc_graph.proofs.Grown.{order-below}
use Rattle.kc_levels.proofs.Steps.{both-distinct, Distinct-apart, Distinct-backwards, member-backwards, has-both}

-- in a certified state each core number is below the number of vertices
pub certified-low : (s : Ranked) → IsCertified s → (v : ℕ) → v < s.graph.size → get_or s.core v 0 < s.graph.size
certified-low s h v l =
    let n : ℕ = s.graph.size in
    let test : ℕ → Bool = λ w. adjacent s.graph v w && leb (get_or s.core v 0) (get_or s.core w 0) in
    let itself : test v ≡ false = and_left (adjacent s.graph v v) (leb (get_or s.core v 0) (get_or s.core v 0)) (adjacent-self s.graph v) in
    let fewer : count_by test s.order < length s.order = count-miss test v s.order (member-from_Contains s.order v (h.enumerates.complete v l)) itself in
    let size : length s.order ≤ n = below_bound n s.order (order-distinct n s.order h.enumerates) (order-below n s.order h.enumerates) in
    let enough : get_or s.core v 0 ≤ count_by test s.order = h.enough_as_high v l in
    omega (arith, enough, fewer, size)

-- The puts of a local plan's moves in a certified state.
pub local-made : (s : Ranked) (plan : Plan) → IsCertified s → IsLocal s plan
    → after_puts s.graph.size plan.moves (with_heads s.graph.size s.order s.core) ≡ with_heads s.graph.size (state_after plan s).order (state_after plan s).core
local-made s plan h local = moves-made s plan.moves record { long = h.one_each; enumerates = h.enumerates; low = certified-low s h } local.moves_fit

-- each vertex that moves is put once, and no other
pub puts-once : (s : Ranked) (moves : Moves) → MovesFit s moves
    → Distinct (puts_of moves) × ((v : ℕ) → member v (puts_of moves) ≡ member v (moved_vertices moves))
puts-once s Kept fit = (tt, λ v. refl)
puts-once s Plain fit = (tt, λ v. refl)
puts-once s (Rise level rise shifts) fit =
    let both = both-distinct rise.items (firsts shifts.items) fit.once in (
      Distinct-append (firsts shifts.items) (backwards rise.items) both.1 (Distinct-backwards rise.items both.0)
          (λ y m. member-backwards y rise.items
          ∙ false_from_ne_true (member y rise.items) (λ q. true≢false (sym m ∙ Distinct-apart rise.items (firsts shifts.items) fit.once y q))),
      λ v. has-both v (firsts shifts.items) (backwards rise.items)
          ∙ (ap (λ q. member v (firsts shifts.items) || q) (member-backwards v rise.items)
          ∙ (or-turned (member v (firsts shifts.items)) (member v rise.items) ∙ sym (has-both v rise.items (firsts shifts.items)))),
    )
puts-once s (Fall level fall) fit = (fit.once, λ v. refl)

-- What a planner's state tells of the levels. --------------------------------------------------------

-- a vertex of a level in states with the same numbers
of-level-as : (s t : Ranked) (level x : ℕ) → t.graph.size ≡ s.graph.size → t.core ≡ s.core → IsOfLevel s level x → IsOfLevel t level x
of-level-as s t level x size core h = record { vertex = omega (arith, h.vertex, size); of_level = ap (λ (c : List ℕ). get_or c x 0) core ∙ h.of_level }

-- moves that fit, in states with the same numbers
fits-as : (s t : Ranked) (moves : Moves) → t.graph.size ≡ s.graph.size → t.core ≡ s.core → MovesFit s moves → MovesFit t moves
fits-as s t moves size core fit = record {
  once = fit.once;
  of_level = λ x m. of-level-as s t (level_of moves) x size core (fit.of_level x m);
  above_0 = fit.above_0;
  after_level = λ w m. of-level-as s t (level_of moves) w size core (fit.after_level w m);
  after_staying = fit.after_staying;
  in_turn = fit.in_turn;
}

-- what moves make, in states with the same numbers and order
moved-as : (s t : Ranked) (moves : Moves) → t.core ≡ s.core → t.order ≡ s.order
    → ((moved_by moves t).order ≡ (moved_by moves s).order) × ((moved_by moves t).core ≡ (moved_by moves s).core)
moved-as s t Kept core order = (order, core)
moved-as s t Plain core order = (order, core)
moved-as s t (Rise level rise shifts) core order = (
  ap₂ (λ (c o : List ℕ). put_between (up_to c level) rise.items (shifted shifts.items o)) core order,
  ap (renumbered rise.items (level + 1)) core,
)
moved-as s t (Fall level fall) core order = (
  ap₂ (λ (c o : List ℕ). put_between (under c level) fall.items o) core order,
  ap (renumbered fall.items (level - 1)) core,
)

-- in a fresh section moves that fit may be made where they lead to a certified state
may-make-fitting : (s : Ranked) (plan : Plan) (l : Levelled) → MovesFit s plan.moves → IsCertified (state_after plan s) → AreLevelsOf s l → IsFresh l
    → HasRoom l.table l.log (3 * length (moved_vertices plan.moves)) → MayMake l plan.moves
may-make-fitting s plan l fits certified of fresh room =
    let next : Ranked = state_after plan s in
    let moved = moved-as s (as_ranked l) plan.moves of.core of.order in
    let fit : MovesFit (as_ranked l) plan.moves = fits-as s (as_ranked l) plan.moves of.size of.core fits in
    let low : (v : ℕ) → v < next.graph.size → get_or next.core v 0 < next.graph.size = certified-low next certified in
    let size : next.graph.size ≡ size_of l = size-after plan.update plan.moves s.graph ∙ sym of.size in
    record {
      are = fresh.are;
      open_ = fresh.open_;
      fit = fit;
      fresh = fresh.unmoved;
      once = λ v m. (fresh.may_move v (fit.of_level v m).vertex).once;
      low = λ v k. subst (λ (c : List ℕ). get_or c v 0 < size_of l) (sym moved.1) (omega (arith, low v (omega (arith, k, size)), size));
      versions = room;
    }

-- in a fresh section the moves of a local plan of a certified state may be made
pub may-make-local : (s : Ranked) (plan : Plan) (l : Levelled) → IsCertified s → IsLocal s plan → AreLevelsOf s l → IsFresh l
    → HasRoom l.table l.log (3 * length (moved_vertices plan.moves)) → MayMake l plan.moves
may-make-local s plan l h local of fresh room = may-make-fitting s plan l local.moves_fit (certified_after s plan h local) of fresh room

-- the moves of a plan lead to the levels of the state after it
pub made-local : (s : Ranked) (plan : Plan) (old new : Levelled) → AreLevelsOf s old → Makes old new plan.moves → AreLevelsOf (state_after plan s) new
made-local s plan old new of made =
    let moved = moved-as s (as_ranked old) plan.moves of.core of.order in
    record {
      size = ap (λ (t : TableName). t.shape.fixed) made.table ∙ (of.size ∙ sym (size-after plan.update plan.moves s.graph));
      order = made.order_is ∙ moved.0;
      core = made.core_is ∙ moved.1;
    }

-- They may be made once the section is open, where the greatest version leaves room for a put of each vertex that they move.
pub may-make-opened : (s : Ranked) (plan : Plan) (old new : Levelled) (index most highest : ℕ) → IsLocal s plan → IsCertified (state_after plan s)
    → AreLevelsOf s old → OpensSection old new index plan.update → IsHighest new.table new.log highest
    → most ≡ length (moved_vertices plan.moves) → highest + 3 * most ≤ LAST_VERSION → MayMake new plan.moves
may-make-opened s plan old new index most highest local certified of opens greatest count room =
    let size : size_of new ≡ size_of old = ap (λ (z : Seen). z.table.shape.fixed) opens.stores.noted.is in
    may-make-fitting s plan new local.moves_fit certified
    record { size = size ∙ of.size; order = opens.order_is ∙ of.order; core = opens.core_is ∙ of.core }
    record { are = opens.are; open_ = opens.open_is; unmoved = opens.unsealed; may_move = λ v l. opens.may_move v (omega (arith, l, size)) }
    (λ word k. omega (arith, greatest.bound word k, count, room))
