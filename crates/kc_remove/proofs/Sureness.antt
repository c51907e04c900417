-- The moves of a removal pass the local test, and move just the vertices that lose one.
use Rattle.std.proofs.Common.{◌≡◌, ◌<◌, ◌-◌, ℕ, min, Bool, true, false, cond, not, List, [], length, get_or, ltb, refl, sym, ◌∙◌, ap, subst, inl, inr}
use Rattle.std.proofs.Common.{arith, true≢false, lt-ltb}
use Rattle.std.proofs.lemmas.Bool.{cases_Bool}
use Rattle.kc_lists.specs.Lists.{member}
use Rattle.kc_graph.specs.SimpleGraph.{SimpleGraph, adjacent}
use Rattle.kc_graph.specs.Edges.{without_edge, with_edge}
use Rattle.kc_graph.specs.Core.{AreCoreNumbers}
use Rattle.kc_graph.specs.Lawful.{Ranked, IsCertified}
use Rattle.kc_graph.specs.Plans.{is_applied, updated, renumbered, put_between, state_after}
use Rattle.kc_graph.specs.declared.update.Update.{Update}
use Rattle.kc_graph.specs.declared.used.Used.{Used}
use Rattle.kc_graph.specs.declared.plan.Plan.{Plan}
use Rattle.kc_graph.specs.declared.plan.Moves.TheVariants.{Kept, Plain, Fall}
use Rattle.kc_graph.proofs.Law.{certified-core_numbers, core-unique}
use Rattle.kc_cert.specs.Local.{IsLocal, HoldsAt}
use Rattle.kc_cert.proofs.Keeping.{certified_after}
use Rattle.kc_view.specs.Answers.{Agrees, has_list, list_of}
use Rattle.kc_view.specs.Sure.{IsSparing}
use Rattle.kc_view.specs.Views.{Shown, GoesOn}
use Rattle.kc_view.proofs.Keeping.{answers-agreed, tells-edge}
use Rattle.kc_view.proofs.Still.{kept-is_sure, number_then-is}
use Rattle.kc_remove.specs.Cascade.{Thinned, Cascade, nobody}
use Rattle.kc_remove.specs.Falling.{is_visited, support_at, has_looked, HasEnded}
use Rattle.kc_remove.specs.Removed.{is_end, search_without}
use Rattle.kc_remove.specs.declared.falling.Falling.{Falling}
use Rattle.kc_remove.proofs.Ending.{lowered}
use Rattle.kc_remove.proofs.Holding.{plain-holds, fall-holds}
use Rattle.kc_remove.proofs.Thinning.{graph-thinned}
use Rattle.kc_cert.proofs.FittingMoves.{plain_fits, fall_fits}

-- a removal is applied just where its edge is there
pub applied-is : (update : Update) (g : SimpleGraph) → update.add ≡ false → is_applied update g ≡ adjacent g update.u update.v
applied-is update g e = ap (λ b. cond b (not (adjacent g update.u update.v)) (adjacent g update.u update.v)) e

-- and leaves the graph without that edge
pub updated-is : (update : Update) (g : SimpleGraph) → update.add ≡ false → updated update g ≡ without_edge g update.u update.v
updated-is update g e = ap (λ (b : Bool). cond b (with_edge g update.u update.v) (without_edge g update.u update.v)) e

-- the edge is not there
pub kept-sure : (update : Update) (used : Used) (s : Ranked) → update.add ≡ false → IsCertified s → update.v < s.graph.size
    → adjacent s.graph update.u update.v ≡ false
    → IsLocal s (record { update = update; used = used; moves = Kept }) × IsSparing s (record { update = update; used = used; moves = Kept })
kept-sure update used s removes h l gone = kept-is_sure update used s h l (applied-is update s.graph removes ∙ gone)

-- of two equal numbers none is less
same_number : (a b : ℕ) → a ≡ b → false ≡ ltb a b
same_number a b e = grind arith

-- a lesser number passes the test for one
less_number : (a b : ℕ) → a < b → true ≡ ltb a b
less_number a b l = sym (lt-ltb a b l)

-- the core numbers after a plan that passes
numbers-after : (s : Ranked) (plan : Plan) → IsCertified s → IsLocal s plan → (core : List ℕ)
    → AreCoreNumbers (state_after plan s).graph core → core ≡ (state_after plan s).core
numbers-after s plan h local core are =
    core-unique (state_after plan s).graph core (state_after plan s).core are
    (certified-core_numbers (state_after plan s).graph (state_after plan s).core (state_after plan s).order (certified_after s plan h local))

-- the edge that goes is there, and the level is the lesser core number of its ends
pub record Removes (update : Update) (s : Ranked) (level : ℕ) : Type 0 where
  pub there : adjacent s.graph update.u update.v ≡ true
  pub least : level ≡ min (get_or s.core update.u 0) (get_or s.core update.v 0)

-- so it is where the list of the lesser end has the other, and then the level was told
pub removes-told : (first second : Shown) (update : Update) (s : Ranked) (level : ℕ) (has : Bool) → GoesOn first second → Agrees second.kept s
    → update.v < s.graph.size → has_list first.kept update.u ≡ true → has ≡ member update.v (list_of first.kept update.u) → has ≡ true
    → ((s : Ranked) → Agrees second.kept s → level ≡ min (get_or s.core update.u 0) (get_or s.core update.v 0)) → Removes update s level
removes-told first second update s level has goes agrees l read told is least = record {
  there = tells-edge first.kept s update.u update.v has (answers-agreed _ _ s goes.further agrees) read l told ∙ is;
  least = least s agrees;
}

-- then the graph without the edge is thinned
thinned-by : (update : Update) (s : Ranked) (level : ℕ) → IsCertified s → update.v < s.graph.size → Removes update s level
    → Thinned (search_without update level s) (is_end update)
thinned-by update s level h l r =
    let up : update.u < update.v = update.ordered in
    graph-thinned s update.u update.v level h (λ e. absurd (omega (arith, up, e))) (omega (arith, up, l)) l r.there r.least

-- no vertex falls
pub plain-sure : (update : Update) (used : Used) (s : Ranked) (level : ℕ) (f : Falling) → update.add ≡ false → IsCertified s
    → update.v < s.graph.size → Removes update s level → HasEnded update level s f → f.seen.weak.items ≡ []
    → IsLocal s (record { update = update; used = used; moves = Plain }) × IsSparing s (record { update = update; used = used; moves = Plain })
plain-sure update used s level f removes h l r ended empty =
    let there : is_applied update s.graph ≡ true = applied-is update s.graph removes ∙ r.there in
    let after : updated update s.graph ≡ without_edge s.graph update.u update.v = updated-is update s.graph removes in
    let t = thinned-by update s level h l r in
    let c : Cascade (search_without update level s) [] 0 nobody (is_visited f) (support_at f) (has_looked f) nobody =
    subst (λ (xs : List ℕ). Cascade (search_without update level s) xs (length xs) nobody (is_visited f) (support_at f) (has_looked f) nobody) empty
    ended.falls in
    let local : IsLocal s (record { update = update; used = used; moves = Plain }) = record {
      ends = l;
      kept = sym (ap not there);
      moves_fit = plain_fits s;
      holds = λ z lz _. subst (λ (g : SimpleGraph). HoldsAt (record { graph = g; core = s.core; order = s.order }) z) (sym after)
          (plain-holds s (without_edge s.graph update.u update.v) level (is_end update) (is_visited f) (support_at f) (has_looked f) h refl t c
          ended.ends z lz);
    } in (
      local,
      record {
        moves = record {
          once = tt;
          kept = λ none. absurd (true≢false (sym there ∙ none));
          inserted = λ add. absurd (true≢false (sym add ∙ removes));
          removed = λ _ _ core are x lx.
              let same : core ≡ s.core = numbers-after s (record { update = update; used = used; moves = Plain }) h local core are in
              same_number (get_or core x 0) (get_or s.core x 0) (ap (λ (xs : List ℕ). get_or xs x 0) same);
        };
      },
    )

-- some do
pub fall-sure : (update : Update) (used : Used) (s : Ranked) (level : ℕ) (f : Falling) → update.add ≡ false → IsCertified s
    → update.v < s.graph.size → Removes update s level → HasEnded update level s f
    → IsLocal s (record { update = update; used = used; moves = Fall level f.seen.weak })
    × IsSparing s (record { update = update; used = used; moves = Fall level f.seen.weak })
fall-sure update used s level f removes h l r ended =
    let fall : List ℕ = f.seen.weak.items in
    let there : is_applied update s.graph ≡ true = applied-is update s.graph removes ∙ r.there in
    let after : updated update s.graph ≡ without_edge s.graph update.u update.v = updated-is update s.graph removes in
    let t = thinned-by update s level h l r in
    let c = ended.falls in
    let some : 0 < level = t.some_level in
    let local : IsLocal s (record { update = update; used = used; moves = Fall level f.seen.weak }) = record {
      ends = l;
      kept = sym (ap not there);
      moves_fit = fall_fits s level f.seen.weak c.distinct (λ x m. let k = c.fall_level x m in (record { vertex = k.here; of_level = k.level }, some));
      holds =
          λ z lz _.
          subst
          (λ (g : SimpleGraph).
          HoldsAt
          (record {
            graph = g;
            core = renumbered fall (level - 1) s.core;
            order = put_between (λ y. ltb (get_or s.core y 0) level) fall s.order;
          })
          z)
          (sym after)
          (fall-holds s (without_edge s.graph update.u update.v) level fall (is_end update) (is_visited f) (support_at f) (has_looked f) h refl
          t c ended.ends z lz);
    } in (
      local,
      record {
        moves = record {
          once = c.distinct;
          kept = λ none. absurd (true≢false (sym there ∙ none));
          inserted = λ add. absurd (true≢false (sym add ∙ removes));
          removed = λ _ _ core are x lx.
              let same : core ≡ renumbered fall (level - 1) s.core =
              numbers-after s (record { update = update; used = used; moves = Fall level f.seen.weak }) h local core are in
              let number : get_or core x 0 ≡ lowered (λ y. get_or s.core y 0) level fall x =
              ap (λ (xs : List ℕ). get_or xs x 0) same ∙ number_then-is s fall (level - 1) x h lx in
              elim (cases_Bool (member x fall)) [
                | inl m ↦
                    let down : get_or core x 0 ≡ level - 1 = number ∙ ap (λ b. cond b (level - 1) (get_or s.core x 0)) m in
                    let lvl : get_or s.core x 0 ≡ level = (c.fall_level x m).level in
                    m ∙ less_number (get_or core x 0) (get_or s.core x 0) (omega (arith, down, lvl, some))
                | inr n ↦
                    let kept : get_or core x 0 ≡ get_or s.core x 0 = number ∙ ap (λ b. cond b (level - 1) (get_or s.core x 0)) n in
                    n ∙ same_number (get_or core x 0) (get_or s.core x 0) kept
              ];
        };
      },
    )

-- the level is 1 at least
pub some-level : (update : Update) (s : Ranked) (level : ℕ) → IsCertified s → update.v < s.graph.size → Removes update s level → 0 < level
some-level update s level h l r = (thinned-by update s level h l r).some_level
