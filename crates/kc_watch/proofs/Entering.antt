-- The updates of a batch in turn do what the batch does: no two are of one edge, so none changes what another one meets.
use Rattle.std.proofs.Common.{◌≡◌, ◌≢◌, ◌≤◌, ◌<◌, ◌+◌, ◌-◌, ℕ, suc, Bool, true, false, cond, not, ◌&&◌, List, [], ◌∷◌, length, get_or, map}
use Rattle.std.proofs.Common.{refl, sym, ap, ap₂, ◌∙◌, arith, subst}
use Rattle.std.specs.Prelude.{All, AllPairs, count_by}
use Rattle.std.proofs.lemmas.List.{length-map}
use Rattle.std.proofs.lemmas.List.Sums.{sum_by-cons}
use Rattle.std.proofs.lemmas.Option.{get_or_from_slice_get, slice_get_within}
use Rattle.std.specs.FinSet as set
use Rattle.kc_graph.specs.SimpleGraph.{SimpleGraph, pair_cmp}
use Rattle.kc_graph.specs.Edges.{with_edge, without_edge}
use Rattle.kc_graph.specs.Plans.{is_applied, updated}
use Rattle.kc_graph.specs.declared.update.Update.{Update}
use Rattle.kc_text.specs.Deciding.{last_batch}
use Rattle.kc_text.specs.LastUpdates.{last_of_edges}
use Rattle.kc_text.specs.Inputs.{EdgeUpdate, edge_of, parts_of}
use Rattle.kc_batch_effects.specs.Batches.{added, changed_edge, graph_after_batch, graph_after_update, is_add, is_effective, kept, removed}
use Rattle.kc_batch_effects.proofs.Applying.{Spares, contains-ordered, contains-other, graph_after_batch-first, graph_after_batch-nil, graph_after_update-add}
use Rattle.kc_batch_effects.proofs.Applying.{graph_after_update-remove}
use Rattle.kc_report.specs.declared.Line.TheVariants as run
use Rattle.kc_text.specs.Inputs.{EdgeBatch}
use Rattle.kc_watch.specs.Accounts.{top_of}
use Rattle.kc_watch.specs.Text.{line_about}
use Rattle.kc_keeper.specs.Batches.{count_applied, made_in_turn}
use Rattle.kc_keeper.specs.Causes.{IsFirstOutside}
use Rattle.kc_watch.specs.Effects.{AreEffects}
use Rattle.kc_watch.specs.declared.batch.Effects.{Effects}

-- no two updates are of one edge
abbrev pub AreApart : List Update → Type 0
AreApart us = AllPairs (λ x y. edge_of x ≢ edge_of y) us

-- an update that is made is a single update more
updated-is : (g : SimpleGraph) (u : Update) → updated u g ≡ graph_after_update g (parts_of u)
updated-is g u =
    elim u.add as (λ b. cond b (with_edge g u.u u.v) (without_edge g u.u u.v) ≡ graph_after_update g (record { add = b; u = u.u; v = u.v })) [
      | true ↦ graph_after_update-add g u.u u.v u.ordered
      | false ↦ graph_after_update-remove g u.u u.v u.ordered
    ]

-- it is applied where it is effective
applied-is : (g : SimpleGraph) (u : Update) → is_applied u g ≡ is_effective g.edges (parts_of u)
applied-is g u = ap (λ (t : Bool). cond u.add (not t) t) (contains-ordered g u.u u.v u.ordered)

-- those behind the first are apart
apart-tail : (u : Update) (us : List Update) → AreApart (u ∷ us) → AreApart us
apart-tail u us apart = λ i j d l m. apart (suc i) (suc j) d (omega arith) (omega arith)

-- those behind the first are not of its edge
apart-spares : (u : Update) (us : List Update) → AreApart (u ∷ us) → Spares (edge_of u) (map parts_of us)
apart-spares u us apart = spares us (λ k l e. apart 0 (suc k) u (omega arith) (omega arith) (sym e))
  where
    spares : (vs : List Update) → ((k : ℕ) → k < length vs → edge_of (get_or vs k u) ≡ edge_of u → ⊥) → Spares (edge_of u) (map parts_of vs)
    spares [] f = tt
    spares (v ∷ vs) f = (f 0 (omega arith), spares vs (λ k l. f (suc k) (omega arith)))

-- the graph after the updates in turn
pub in-turn : (us : List Update) → AreApart us → (g : SimpleGraph) → made_in_turn g us ≡ graph_after_batch g (map parts_of us)
in-turn [] apart g = sym (graph_after_batch-nil g)
in-turn (u ∷ us) apart g =
    ap (λ (h : SimpleGraph). made_in_turn h us) (updated-is g u)
    ∙ (in-turn us (apart-tail u us apart) (graph_after_update g (parts_of u))
    ∙ graph_after_batch-first g (parts_of u) (map parts_of us) (apart-spares u us apart))

-- an update leaves it to one of another edge whether that one is effective
effective-other : (g : SimpleGraph) (x e : EdgeUpdate) → changed_edge e ≢ changed_edge x
    → is_effective (graph_after_update g x).edges e ≡ is_effective g.edges e
effective-other g x e differ = ap (λ (t : Bool). cond e.add (not t) t) (contains-other g x (changed_edge e) (λ same. differ (sym same)))

-- so it does to all of other edges
count-other : (is : EdgeUpdate → Bool) (g : SimpleGraph) (x : EdgeUpdate) (es : List EdgeUpdate) → Spares (changed_edge x) es
    → count_by (λ e. is e && is_effective (graph_after_update g x).edges e) es ≡ count_by (λ e. is e && is_effective g.edges e) es
count-other is g x [] spares = refl
count-other is g x (e ∷ es) spares =
    sum_by-cons (λ z. cond (is z && is_effective (graph_after_update g x).edges z) 1 0) e es
    ∙ ap₂ (λ (b : Bool) (n : ℕ). cond (is e && b) 1 0 + n) (effective-other g x e spares.0) (count-other is g x es spares.1)
    ∙ sym (sum_by-cons (λ z. cond (is z && is_effective g.edges z) 1 0) e es)

-- how many of the updates in turn are applied
pub count-in_turn : (is : EdgeUpdate → Bool) (us : List Update) → AreApart us → (g : SimpleGraph)
    → count_applied (λ u. is (parts_of u)) g us ≡ count_by (λ e. is e && is_effective g.edges e) (map parts_of us)
count-in_turn is [] apart g = refl
count-in_turn is (u ∷ us) apart g =
    ap₂ (λ (b : Bool) (n : ℕ). cond (is (parts_of u) && b) 1 0 + n) (applied-is g u)
    (ap (λ (h : SimpleGraph). count_applied (λ v. is (parts_of v)) h us) (updated-is g u)
    ∙ (count-in_turn is us (apart-tail u us apart) (graph_after_update g (parts_of u))
    ∙ count-other is g (parts_of u) (map parts_of us) (apart-spares u us apart)))
    ∙ sym (sum_by-cons (λ z. cond (is z && is_effective g.edges z) 1 0) (parts_of u) (map parts_of us))

-- what a batch adds, removes and keeps is all that it has
pub effects-add_up : (edges : set.FinSet pair_cmp) (es : List EdgeUpdate) → added edges es + removed edges es + kept edges es ≡ length es
effects-add_up edges [] = refl
effects-add_up edges (e ∷ es) =
    let whole = one (is_add e) (is_effective edges e) (added edges es) (removed edges es) (kept edges es) (length es) (effects-add_up edges es) in
    omega (
      arith,
      whole,
      sum_by-cons (λ z. cond (is_add z && is_effective edges z) 1 0) e es,
      sum_by-cons (λ z. cond (not (is_add z) && is_effective edges z) 1 0) e es,
      sum_by-cons (λ z. cond (not (is_effective edges z)) 1 0) e es,
    )
  where
    one : (a b : Bool) (x y z n : ℕ) → x + y + z ≡ n
        → (cond (a && b) 1 0 + x) + (cond (not a && b) 1 0 + y) + (cond (not b) 1 0 + z) ≡ suc n
    one true true x y z n h = omega arith
    one true false x y z n h = omega arith
    one false true x y z n h = omega arith
    one false false x y z n h = omega arith

-- the deciding updates of a batch were made in turn
pub made-batch : (g new : SimpleGraph) (all us : List Update) → us ≡ last_of_edges all → AreApart us → new ≡ made_in_turn g us
    → new ≡ graph_after_batch g (last_batch all).updates
made-batch g new all us is apart made = made ∙ in-turn us apart g ∙ ap (λ (vs : List Update). graph_after_batch g (map parts_of vs)) is

-- there are no more of them than were applied
pub applied-few : (g : SimpleGraph) (us : List Update) → AreApart us
    → count_applied (λ u. u.add) g us + count_applied (λ u. not u.add) g us ≤ length us
applied-few g us apart =
    omega (
      arith,
      count-in_turn is_add us apart g,
      count-in_turn (λ e. not (is_add e)) us apart g,
      effects-add_up g.edges (map parts_of us),
      length-map us parts_of,
    )

-- what they did is told by their counts
pub effects-of : (g : SimpleGraph) (all us : List Update) (effects : Effects) → us ≡ last_of_edges all → AreApart us
    → effects.added ≡ count_applied (λ u. u.add) g us → effects.removed ≡ count_applied (λ u. not u.add) g us
    → effects.kept ≡ length us - effects.added - effects.removed → length us + effects.overruled ≡ length all → AreEffects g (last_batch all) effects
effects-of g all us effects is apart a r k o =
    let count : length us ≡ length (last_of_edges all) = ap length is in
    subst (λ (vs : List Update). AreEffects g (record { updates = map parts_of vs; overruled = length all - length (last_of_edges all) }) effects) is (record {
      added_is = a ∙ count-in_turn is_add us apart g;
      removed_is = r ∙ count-in_turn (λ e. not (is_add e)) us apart g;
      kept_is = omega (
        arith,
        k,
        a,
        r,
        count-in_turn is_add us apart g,
        count-in_turn (λ e. not (is_add e)) us apart g,
        effects-add_up g.edges (map parts_of us),
        length-map us parts_of,
      );
      overruled_is = omega (arith, o, count);
    })

-- no update is outside where all ends are vertices
pub none-outside : (size : ℕ) (us : List Update) (place vertex : ℕ) → All (λ u. u.v < size) us → IsFirstOutside size us place vertex → ⊥
none-outside size us place vertex within f =
    let low : place < length us = slice_get_within us place f.update f.here in
    let is : get_or us place f.update ≡ f.update = get_or_from_slice_get us place f.update f.update f.here in
    omega (arith, within place f.update low, ap (λ (u : Update). u.v) is, f.vertex_is, f.outside)

-- the line of what a batch did, and of the graph after it
pub batch-line-is : (number : ℕ) (g : SimpleGraph) (batch : EdgeBatch) (effects : Effects) (after : SimpleGraph) (edges top : ℕ)
    → AreEffects g batch effects → edges ≡ set.len after.edges → top ≡ top_of after
    → run.Batch number effects.added effects.removed effects.kept effects.overruled edges top ≡ line_about number g batch after
batch-line-is number g batch effects after edges top e edges-are highest =
    λ i. run.Batch number (e.added_is i) (e.removed_is i) (e.kept_is i) (e.overruled_is i) (edges-are i) (highest i)
