-- The answers of one who holds the state were read of its log.
use Rattle.std.proofs.Common.{◌≡◌, ◌≢◌, ℕ, suc, ◌<◌, ◌≤◌, true, cond, List, [], ◌∷◌, get_or, ltb, sym, ap, ◌∙◌, subst, inl, inr, arith, lt-ltb}
use Rattle.std.proofs.Common.{ltb-true, ltb-false, eq-eqb}
use Rattle.std.specs.Prelude.{All, is_some}
use Rattle.std.proofs.lemmas.Bool.{cases_eq, false≢true, ne_eqb}
use Rattle.kc_lists.specs.Lists.{member, place_of}
use Rattle.kc_lists.proofs.Members.{member-cases}
use Rattle.kc_graph.specs.SimpleGraph.{SimpleGraph}
use Rattle.kc_graph.specs.Lawful.{Ranked}
use Rattle.kc_graph.specs.Neighbours.{AreNeighbours}
use Rattle.kc_graph.specs.declared.used.UsedEdges.{UsedEdges}
use Rattle.kc_graph.specs.declared.used.UsedPlace.{UsedPlace}
use Rattle.kc_graph.specs.declared.used.UsedOrder.{UsedOrder}
use Rattle.kc_table.specs.declared.view.Event.{Event}
use Rattle.kc_table.specs.Log.{TableName}
use Rattle.kc_table.proofs.Listed.{list-stands}
use Rattle.kc_table.proofs.Prefixes.{prefix_self}
use Rattle.kc_view.specs.Answers.{Answers, core_in}
use Rattle.kc_order.specs.Standing.{list_after}
use Rattle.kc_agree.specs.Reads.{WasList, WasPlace, WasOrder, WereRead}
use Rattle.kc_agree.specs.Stamps.{made_by}
use Rattle.kc_agree.specs.States.{IsStateOf, IsAtRest, AreCurrent, AreOwn, OwnList, OwnPlace, OwnOrder}
use Rattle.kc_agree.proofs.Agreeing.{found_place}
use Rattle.kc_agree.proofs.Neighbouring.{current_neighbours, no_later}
use Rattle.kc_agree.proofs.Bystanders.{first_of_two, filter-order}

-- two items of a list stand at two places
places-apart : (x y : ℕ) (l : List ℕ) → x ≢ y → member x l ≡ true → place_of x l ≢ place_of y l
places-apart x y [] differ m e = false≢true m
places-apart x y (w ∷ l) differ m e = elim (cases_eq x w) [
  | inl here ↦
      let zero_x : place_of x (w ∷ l) ≡ 0 = ap (λ b. cond b 0 (suc (place_of x l))) (eq-eqb x w here) in
      let suc_y : place_of y (w ∷ l) ≡ suc (place_of y l) = ap (λ b. cond b 0 (suc (place_of y l))) (ne_eqb y w (λ k. differ (here ∙ sym k))) in
      omega (arith, e, zero_x, suc_y)
  | inr other ↦
      let suc_x : place_of x (w ∷ l) ≡ suc (place_of x l) = ap (λ b. cond b 0 (suc (place_of x l))) (ne_eqb x w other) in
      elim (cases_eq y w) [
        | inl there ↦
            let zero_y : place_of y (w ∷ l) ≡ 0 = ap (λ b. cond b 0 (suc (place_of y l))) (eq-eqb y w there) in
            omega (arith, e, suc_x, zero_y)
        | inr none ↦
            let suc_y : place_of y (w ∷ l) ≡ suc (place_of y l) = ap (λ b. cond b 0 (suc (place_of y l))) (ne_eqb y w none) in
            let rest : member x l ≡ true = elim (member-cases x w l m) [ inl k ↦ absurd (other k) | inr k ↦ k ] in
            places-apart x y l differ rest (omega (arith, e, suc_x, suc_y))
      ]
]

module _ (table : TableName) (opened : SimpleGraph) (stamps : List ℕ) (log : List Event) (s : Ranked) (rest : IsAtRest table log)
    (state : IsStateOf table opened log s) (early : (v : ℕ) → v < table.shape.fixed → get_or stamps v 0 ≤ table.shape.base) where
  -- a list of the state is one that was read
  own_list : (e : UsedEdges) → OwnList table opened stamps log s e → WasList table opened log e
  own_list e own =
      let low : e.vertex < table.shape.fixed = omega (arith, own.vertex, state.size) in
      let bound = no_later opened (made_by table log).entries table.shape.base e.vertex (get_or stamps e.vertex 0) (early e.vertex low) in
      let same = current_neighbours table opened stamps log e.vertex e.at e.neighbours (omega (arith, own.at)) in
      record {
        vertex = low;
        at = omega (arith, own.at, bound);
        list = same.1 (subst (λ g. AreNeighbours g e.vertex e.neighbours) state.graph own.list);
      }

  -- a place of the state is one that was read
  own_place : (p : UsedPlace) → OwnPlace table log s p → WasPlace table log p
  own_place p own = record {
    vertex = omega (arith, own.vertex, state.size);
    prefix = log;
    begins = prefix_self log;
    stamp = sym own.stamp;
    core = sym (state.core p.vertex (omega (arith, own.vertex, state.size))) ∙ sym own.core;
  }

  -- a vertex whose core number was told is one of the table
  low : (a : Answers) (x : ℕ) → All (OwnPlace table log s) a.places → is_some (core_in x a.places) ≡ true → x < table.shape.fixed
  low a x own there = let (p, is, h) = found_place (OwnPlace table log s) x a.places own there in omega (arith, is, h.vertex, state.size)

  -- an order of the state is one that was read
  own_order : (a : Answers) (o : UsedOrder) → All (OwnPlace table log s) a.places → OwnOrder s a o → WasOrder table log a o
  own_order a o places own =
      let lx = low a o.x places own.first_read in
      let ly = low a o.y places own.second_read in
      let listed = (list-stands table.shape table.opening log rest.legal).listed in
      let mx = listed.vertices o.x lx in
      let my = listed.vertices o.y ly in
      let list = list_after table log in
      let is : o.before ≡ ltb (place_of o.x list) (place_of o.y list) =
      own.stands
      ∙ (ap (first_of_two o.x o.y) state.order
      ∙ filter-order (λ z. ltb z table.shape.fixed) o.x o.y list (lt-ltb o.x table.shape.fixed lx) (lt-ltb o.y table.shape.fixed ly)) in
      record {
        differ = own.differ;
        first_read = own.first_read;
        second_read = own.second_read;
        prefix = log;
        begins = prefix_self log;
        stood = record {
          before = λ t. record { first = mx; second = my; before = ltb-true _ _ (sym is ∙ t) };
          after = λ f.
              let ne = places-apart o.x o.y list own.differ mx in
              let le = ltb-false _ _ (sym is ∙ f) in
              record { first = my; second = mx; before = omega (arith, ne, le) };
        };
        read_before = λ i d l _. own_place (get_or a.places i d) (places i d l);
      }

  -- what is answered from the state was read, and is current
  pub own_read : (a : Answers) → AreOwn table opened stamps log s a → WereRead table opened log a × AreCurrent table opened stamps log a
  own_read a own = (
    record {
      edges = λ i d l. own_list (get_or a.edges i d) (own.edges i d l);
      places = λ i d l. own_place (get_or a.places i d) (own.places i d l);
      orders = λ i d l. own_order a (get_or a.orders i d) own.places (own.orders i d l);
    },
    record {
      edges = λ i d l. omega (arith, (own.edges i d l).at);
      places = λ i d l. omega (arith, (own.places i d l).stamp);
    },
  )
