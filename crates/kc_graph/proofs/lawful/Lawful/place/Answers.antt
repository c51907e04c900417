-- A place that is kept is the number of those that stand before.
use Rattle.std.proofs.Common.{◌≡◌, ◌<◌, ℕ, List, length, get_or, ap, sym, ◌∙◌, arith, Some}
use Rattle.std.specs.List.{slice_get}
use Rattle.std.proofs.lemmas.Option.{slice_get-get_or}
use Rattle.kc_lists.specs.Lists.{place_of}
use Rattle.kc_lists.proofs.Counting.{Distinct-from_pairs}
use Rattle.kc_graph.specs.Lawful.{Ranked, IsCertified, ArePlaces}
use Rattle.kc_graph.proofs.Places.{length-enumerates, place_of-at}
use Rattle.kc_graph.proofs.lawful.Lawful.place.Goals as goal
use Rattle.kc_lists.proofs.Shared.{get_or-any}

-- The places of an order are kept, which callers see as that of `s`.
module _ (inside s : Ranked) (view : inside ≡ s) (places : List ℕ) (certified : IsCertified inside) (kept : ArePlaces inside.order places)
    (v : ℕ) (v_in : v < s.graph.size) where
  -- each vertex stands in the order
  stands : v < length inside.order
  stands = omega (arith, v_in, length-enumerates inside.graph.size inside.order certified.enumerates, ap (λ (r : Ranked). r.graph.size) view)

  -- so its place can be read
  place-in : v < length places
  place-in = omega (arith, stands, kept.one_each)

  -- The number that is read there is `p`.
  module _ (p : ℕ) (is : p ≡ get_or places v p) where
    -- it is the number at the place
    read : p ≡ get_or places v 0
    read = is ∙ get_or-any places v p 0 place-in

    -- so many stand before the vertex
    place-is : p ≡ place_of v s.order
    place-is =
        read
        ∙ sym (place_of-at inside.order (get_or places v 0) (Distinct-from_pairs inside.order certified.enumerates.distinct) (kept.within v stands))
        ∙ ap (λ x. place_of x inside.order) (kept.right v stands) ∙ ap (λ (r : Ranked). place_of v r.order) view

    -- and there the vertex stands
    vertex-is : slice_get s.order p ≡ Some v
    vertex-is =
        ap (λ (r : Ranked). slice_get r.order p) (sym view) ∙ ap (slice_get inside.order) read
        ∙ slice_get-get_or inside.order (get_or places v 0) 0 (kept.within v stands) ∙ ap Some (kept.right v stands)

pub index-requires : goal.index-requires
index-requires c =
    omega (arith, place-in _ _ c.self.view_is c.self.inside.places.items c.self.invariant.0 c.self.invariant.1 c.args.v (omega arith))

pub returns-clause-place : goal.returns-clause-place
returns-clause-place c =
    place-is _ _ c.self.view_is c.self.inside.places.items c.self.invariant.0 c.self.invariant.1 c.args.v (omega arith) c.index.result.now c.index.ensures

pub returns-clause-vertex : goal.returns-clause-vertex
returns-clause-vertex c =
    vertex-is _ _ c.self.view_is c.self.inside.places.items c.self.invariant.0 c.self.invariant.1 c.args.v (omega arith) c.index.result.now c.index.ensures
