-- What was read at different moments is true of now, where no stamp is less than that of now.
use Rattle.std.proofs.Common.{◌≡◌, ℕ, suc, ◌<◌, ◌≤◌, true, false, cond, List, [], ◌∷◌, get_or, eqb, ltb, refl, sym, ap, ◌∙◌, subst, inl, inr, arith}
use Rattle.std.proofs.Common.{lt-ltb, le-ltb, eqb-true}
use Rattle.std.specs.Prelude.{All, Some, is_some}
use Rattle.std.proofs.lemmas.Bool.{cases_Bool, false≢true}
use mathlib.Core.List.{IsPrefix}
use Rattle.kc_lists.specs.Lists.{place_of}
use Rattle.kc_graph.specs.SimpleGraph.{SimpleGraph}
use Rattle.kc_graph.specs.Lawful.{Ranked, IsCertified}
use Rattle.kc_graph.specs.Plans.{state_after}
use Rattle.kc_graph.specs.declared.plan.Plan.{Plan}
use Rattle.kc_cert.specs.Local.{IsLocal}
use Rattle.kc_cert.proofs.Keeping.{certified_after}
use Rattle.kc_graph.specs.Neighbours.{neighbours_of}
use Rattle.kc_graph.specs.declared.used.UsedEdges.{UsedEdges}
use Rattle.kc_graph.specs.declared.used.UsedPlace.{UsedPlace}
use Rattle.kc_graph.specs.declared.used.UsedOrder.{UsedOrder}
use Rattle.kc_graph.proofs.NeighbourLists.{neighbours_are}
use Rattle.kc_words.specs.VertexWord.{vertex_of}
use Rattle.kc_table.specs.declared.view.Event.{Event}
use Rattle.kc_table.specs.Edges.{edges_after}
use Rattle.kc_table.specs.Log.{TableName}
use Rattle.kc_table.proofs.Prefixes.{prefix_trans}
use Rattle.kc_table.proofs.Stamps.{same-stamp}
use Rattle.kc_view.specs.Answers.{Answers, Agrees, answers_in, core_in}
use Rattle.kc_view.specs.Sure.{IsSure, IsSparing}
use Rattle.kc_order.specs.Standing.{list_after}
use Rattle.kc_agree.specs.Moved.{StaysPut}
use Rattle.kc_agree.specs.Reads.{WasList, WasPlace, WasOrder, WereRead, From}
use Rattle.kc_agree.specs.Stamps.{place_stamp, edge_stamp}
use Rattle.kc_agree.specs.States.{IsStateOf, IsAtRest, AreCurrent, vertices_in}
use Rattle.kc_agree.proofs.Growing.{reads_stay}
use Rattle.kc_agree.proofs.Unmoved.{stays_put, stays_since}
use Rattle.kc_agree.proofs.Neighbouring.{current_list}
use Rattle.kc_agree.proofs.Bystanders.{first_of_two, filter-order, same_standing}

-- a place that was kept of a vertex
pub found_place : (P : UsedPlace → Type 0) (w : ℕ) (ps : List UsedPlace) → All P ps → is_some (core_in w ps) ≡ true → (p : UsedPlace) × (p.vertex ≡ w) × P p
found_place P w [] all h = absurd (false≢true h)
found_place P w (x ∷ ps) all h =
    elim (eqb w x.vertex) as (λ b. eqb w x.vertex ≡ b → is_some (cond b (Some x.core) (core_in w ps)) ≡ true → (p : UsedPlace) × (p.vertex ≡ w) × P p) [
      | true ↦ λ e _. (x, sym (eqb-true w x.vertex e), all 0 x (omega arith))
      | false ↦ λ _ k. found_place P w ps (λ i d l. all (suc i) d (omega (arith, l))) k
    ] refl h

module _ (table : TableName) (opened : SimpleGraph) (stamps : List ℕ) (log : List Event) (s : Ranked) (rest : IsAtRest table log)
    (state : IsStateOf table opened log s) where
  -- a list
  pub list_now : (e : UsedEdges) → WasList table opened log e → edge_stamp table opened stamps log e.vertex ≤ e.at
      → e.neighbours ≡ neighbours_of s.graph e.vertex
  list_now e was le =
      neighbours_are (edges_after opened table.shape table.opening log e.at) e.vertex e.neighbours was.list
      ∙ (sym (current_list table opened stamps log e.vertex e.at le) ∙ ap (λ g. neighbours_of g e.vertex) (sym state.graph))

  -- a core number
  pub place_now : (p : UsedPlace) → WasPlace table log p → place_stamp table log p.vertex ≤ p.stamp → p.core ≡ get_or s.core p.vertex 0
  place_now p was le =
      let word = same-stamp table.shape table.opening was.prefix log p.vertex was.begins rest.legal (omega (arith, le, was.stamp)) in
      sym was.core ∙ (ap (λ z. (vertex_of z).core) word ∙ sym (state.core p.vertex was.vertex))

  -- a vertex of which a place was read that is that of now has not been put since
  pub read_place-stays : (a : Answers) (prefix : List Event) (x : ℕ)
      → All (λ p. (p.vertex ≡ x) → WasPlace table prefix p) a.places
      → IsPrefix prefix log
      → All (λ p. place_stamp table log p.vertex ≤ p.stamp) a.places
      → is_some (core_in x a.places) ≡ true
      → StaysPut table prefix log x × (x < table.shape.fixed)
  read_place-stays a prefix x was begins le there =
      let Kept : UsedPlace → Type 0 = λ p. (p.vertex ≡ x → WasPlace table prefix p) × (place_stamp table log p.vertex ≤ p.stamp) in
      let (p, is, (read, current)) = found_place Kept x a.places (λ i d l. (was i d l, le i d l)) there in
      let w : WasPlace table prefix p = read is in
      let longer : IsPrefix w.prefix log = prefix_trans w.prefix prefix log w.begins begins in
      let still : StaysPut table w.prefix log p.vertex =
      stays_put table w.prefix log p.vertex w.vertex longer rest.legal rest.closed (omega (arith, current, w.stamp)) in (
        subst (λ v. StaysPut table prefix log v) is (stays_since table w.prefix prefix log p.vertex w.begins still),
        omega (arith, w.vertex, is),
      )

  -- an order
  pub order_now : (a : Answers) (o : UsedOrder) → WasOrder table log a o → All (λ p. place_stamp table log p.vertex ≤ p.stamp) a.places
      → (o.x < s.graph.size) × (o.y < s.graph.size) × (o.before ≡ ltb (place_of o.x s.order) (place_of o.y s.order))
  order_now a o was le =
      let x = read_place-stays a was.prefix o.x (λ i d l is. was.read_before i d l (inl is)) was.begins le was.first_read in
      let y = read_place-stays a was.prefix o.y (λ i d l is. was.read_before i d l (inr is)) was.begins le was.second_read in
      let list = list_after table log in
      let then = list_after table was.prefix in
      let same = same_standing o.x o.y table was.prefix log was.begins x.0 y.0 in
      let alone : first_of_two o.x o.y (vertices_in table.shape.fixed list) ≡ first_of_two o.x o.y list =
      filter-order (λ z. ltb z table.shape.fixed) o.x o.y list (lt-ltb o.x table.shape.fixed x.1) (lt-ltb o.y table.shape.fixed y.1) in
      let now : first_of_two o.x o.y s.order ≡ first_of_two o.x o.y then = ap (first_of_two o.x o.y) state.order ∙ (alone ∙ same.0) in
      let told : o.before ≡ first_of_two o.x o.y then = elim (cases_Bool o.before) [
        | inl t ↦ t ∙ sym (lt-ltb _ _ (was.stood.before t).before)
        | inr f ↦ f ∙ sym (le-ltb _ _ (omega (arith, (was.stood.after f).before)))
      ] in
      (omega (arith, x.1, state.size), omega (arith, y.1, state.size), told ∙ sym now)

  -- all of them
  pub answers-agreement : (a : Answers) → WereRead table opened log a → AreCurrent table opened stamps log a → Agrees a s
  answers-agreement a read current = record {
    edges = λ i d l.
        let was = read.edges i d l in
        (omega (arith, was.vertex, state.size), list_now (get_or a.edges i d) was (current.edges i d l));
    places = λ i d l.
        let was = read.places i d l in
        (omega (arith, was.vertex, state.size), place_now (get_or a.places i d) was (current.places i d l));
    orders = λ i d l. order_now a (get_or a.orders i d) (read.orders i d l) current.places;
  }

-- what was read of a log that has gone on since
pub agreement_since : (table : TableName) (opened : SimpleGraph) (stamps : List ℕ) (seen log : List Event) (s : Ranked) (a : Answers)
    → IsAtRest table log → IsStateOf table opened log s → IsPrefix seen log → WereRead table opened seen a
    → AreCurrent table opened stamps log a → Agrees a s
agreement_since table opened stamps seen log s a rest state pre read current =
    answers-agreement table opened stamps log s rest state a (reads_stay table opened seen log a pre read) current

-- a sure plan of such answers passes the local test, moves what it may, and keeps the state certified
pub right_now : (table : TableName) (opened : SimpleGraph) (stamps : List ℕ) (seen log : List Event) (s : Ranked) (plan : Plan)
    → IsAtRest table log → IsStateOf table opened log s → IsCertified s → plan.update.v < s.graph.size
    → IsPrefix seen log → From plan table opened seen → AreCurrent table opened stamps log (answers_in plan.used)
    → IsSure plan → IsLocal s plan × IsSparing s plan × IsCertified (state_after plan s)
right_now table opened stamps seen log s plan rest state certified ends pre read current sure =
    let agrees = agreement_since table opened stamps seen log s (answers_in plan.used) rest state pre read current in
    let right = sure s certified ends agrees in
    (right.0, right.1, certified_after s plan certified right.0)
