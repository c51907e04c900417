-- What was read stays so as the log grows, and one answer more is one answer more.
use Rattle.std.proofs.Common.{◌≡◌, ◌≢◌, ◌⊎◌, ℕ, ◌<◌, ◌≤◌, true, false, List, [], ◌∷◌, take, take_all, ◌-◌, refl, sym, ap, ◌∙◌, subst, inl, inr, arith}
use Rattle.std.proofs.Common.{append-nil}
use Rattle.std.proofs.lemmas.Bool.{true≢false}
use Rattle.std.proofs.lemmas.List.Elements.{All-push, All-weaker}
use mathlib.Core.List.{IsPrefix}
use Rattle.kc_graph.specs.SimpleGraph.{SimpleGraph}
use Rattle.kc_graph.specs.Neighbours.{AreNeighbours}
use Rattle.kc_graph.specs.declared.used.UsedEdges.{UsedEdges}
use Rattle.kc_graph.specs.declared.used.UsedPlace.{UsedPlace}
use Rattle.kc_graph.specs.declared.used.UsedOrder.{UsedOrder}
use Rattle.kc_table.specs.declared.view.Event.{Event}
use Rattle.kc_table.specs.Edges.{after_entries}
use Rattle.kc_table.specs.Log.{TableName}
use Rattle.kc_table.proofs.Prefixes.{prefix_trans}
use Rattle.kc_table.proofs.Stamps.{number-grows}
use Rattle.kc_view.specs.Answers.{Answers, nothing_answered, has_core, with_list, with_place, with_order}
use Rattle.kc_view.proofs.Keeping.{still_has_core}
use Rattle.kc_order.specs.Standing.{list_after}
use Rattle.kc_agree.specs.Reads.{WasList, WasPlace, WasOrder, WereRead, IsTrueOrder}
use Rattle.kc_agree.specs.Stamps.{made_by, number_of}
use Rattle.kc_agree.proofs.Neighbouring.{same_edges}

module _ (table : TableName) (opened : SimpleGraph) where
  -- As the log grows. -----------------------------------------------------------------------------------

  -- a list that was read stays so in a longer log
  pub list_stays : (p q : List Event) (e : UsedEdges) → IsPrefix p q → WasList table opened p e → WasList table opened q e
  list_stays p q e pre h = record {
    vertex = h.vertex;
    at = omega (arith, h.at, number-grows table.shape table.opening p q pre);
    list = subst (λ g. AreNeighbours g e.vertex e.neighbours) (sym (same_edges table opened p q e.at pre h.at)) h.list;
  }

  -- a place that was read stays so in a longer log
  pub place_stays : (p q : List Event) (u : UsedPlace) → IsPrefix p q → WasPlace table p u → WasPlace table q u
  place_stays p q u pre h = record {
    vertex = h.vertex;
    prefix = h.prefix;
    begins = prefix_trans h.prefix p q h.begins pre;
    stamp = h.stamp;
    core = h.core;
  }

  -- an order that was read stays so in a longer log
  pub order_stays : (p q : List Event) (a : Answers) (o : UsedOrder) → IsPrefix p q → WasOrder table p a o → WasOrder table q a o
  order_stays p q a o pre h = record {
    differ = h.differ;
    first_read = h.first_read;
    second_read = h.second_read;
    prefix = h.prefix;
    begins = prefix_trans h.prefix p q h.begins pre;
    stood = h.stood;
    read_before = h.read_before;
  }

  -- what was read stays so in a longer log
  pub reads_stay : (p q : List Event) (a : Answers) → IsPrefix p q → WereRead table opened p a → WereRead table opened q a
  reads_stay p q a pre h = record {
    edges = All-weaker (WasList table opened p) (WasList table opened q) (λ e. list_stays p q e pre) a.edges h.edges;
    places = All-weaker (WasPlace table p) (WasPlace table q) (λ u. place_stays p q u pre) a.places h.places;
    orders = All-weaker (WasOrder table p a) (WasOrder table q a) (λ o. order_stays p q a o pre) a.orders h.orders;
  }

  -- One answer more. ------------------------------------------------------------------------------------

  -- where nothing was answered, all of it was read
  pub nothing_read : (log : List Event) → WereRead table opened log nothing_answered
  nothing_read log = record {
    edges = λ i d l. absurd (omega (arith, l));
    places = λ i d l. absurd (omega (arith, l));
    orders = λ i d l. absurd (omega (arith, l));
  }

  -- with one list more that was read, all was
  pub one_list : (log : List Event) (a : Answers) (e : UsedEdges) → WereRead table opened log a → WasList table opened log e
      → WereRead table opened log (with_list a e)
  one_list log a e h was = record {
    edges = All-push (WasList table opened log) a.edges e h.edges was;
    places = h.places;
    orders = All-weaker (WasOrder table log a) (WasOrder table log (with_list a e)) (λ o k. record {
      differ = k.differ;
      first_read = k.first_read;
      second_read = k.second_read;
      prefix = k.prefix;
      begins = k.begins;
      stood = k.stood;
      read_before = k.read_before;
    }) a.orders h.orders;
  }

  -- a core number that was told stays told with one more
  still_read : (a : Answers) (u : UsedPlace) (x : ℕ) → has_core a x ≡ true → has_core (with_place a u) x ≡ true
  still_read a u x h = still_has_core a (with_place a u) x record {
    edges = ([], sym (append-nil a.edges));
    places = (u ∷ [], refl);
    orders = ([], sym (append-nil a.orders));
  } h

  -- the core number of a vertex is read once
  other : (a : Answers) (u : UsedPlace) (x : ℕ) → has_core a u.vertex ≡ false → has_core a x ≡ true → u.vertex ≢ x
  other a u x none some e = true≢false (sym some ∙ (ap (has_core a) (sym e) ∙ none))

  -- an order that was read stays so with one place more
  place_more : (log : List Event) (a : Answers) (u : UsedPlace) (o : UsedOrder) → has_core a u.vertex ≡ false → WasOrder table log a o
      → WasOrder table log (with_place a u) o
  place_more log a u o none k = record {
    differ = k.differ;
    first_read = still_read a u o.x k.first_read;
    second_read = still_read a u o.y k.second_read;
    prefix = k.prefix;
    begins = k.begins;
    stood = k.stood;
    read_before = All-push (λ p. (p.vertex ≡ o.x) ⊎ (p.vertex ≡ o.y) → WasPlace table k.prefix p) a.places u k.read_before (λ e. elim e [
      | inl is ↦ absurd (other a u o.x none k.first_read is)
      | inr is ↦ absurd (other a u o.y none k.second_read is)
    ]);
  }

  -- with one place more that was read, all was
  pub one_place : (log : List Event) (a : Answers) (u : UsedPlace) → has_core a u.vertex ≡ false → WereRead table opened log a → WasPlace table log u
      → WereRead table opened log (with_place a u)
  one_place log a u none h was = record {
    edges = h.edges;
    places = All-push (WasPlace table log) a.places u h.places was;
    orders = All-weaker (WasOrder table log a) (WasOrder table log (with_place a u)) (λ o k. place_more log a u o none k) a.orders h.orders;
  }

  -- The order is that after a prefix which holds all that had been seen before the question.
  pub one_order : (old prefix new : List Event) (a : Answers) (o : UsedOrder) → IsPrefix old prefix → IsPrefix prefix new → o.x ≢ o.y
      → has_core a o.x ≡ true → has_core a o.y ≡ true → IsTrueOrder (list_after table prefix) o
      → WereRead table opened old a → WereRead table opened new (with_order a o)
  one_order old prefix new a o before after differ rx ry stood h =
      let later : WereRead table opened new a = reads_stay old new a (prefix_trans old prefix new before after) h in
      let was : WasOrder table new (with_order a o) o = record {
        differ = differ;
        first_read = rx;
        second_read = ry;
        prefix = prefix;
        begins = after;
        stood = stood;
        read_before = All-weaker (WasPlace table old) (λ p. (p.vertex ≡ o.x) ⊎ (p.vertex ≡ o.y) → WasPlace table prefix p)
            (λ p w _. place_stays old prefix p before w) a.places h.places;
      } in
      let same : (o' : UsedOrder) → WasOrder table new a o' → WasOrder table new (with_order a o) o' = λ o' k. record {
        differ = k.differ;
        first_read = k.first_read;
        second_read = k.second_read;
        prefix = k.prefix;
        begins = k.begins;
        stood = k.stood;
        read_before = k.read_before;
      } in
      record {
        edges = later.edges;
        places = later.places;
        orders = All-push (WasOrder table new (with_order a o)) a.orders o
            (All-weaker (WasOrder table new a) (WasOrder table new (with_order a o)) same a.orders later.orders) was;
      }

  -- Lists that are published. ---------------------------------------------------------------------------

  -- the present neighbours, under the number of all entries
  pub neighbours-published : (log : List Event) (e : UsedEdges) → e.vertex < table.shape.fixed → e.at ≡ number_of table log
      → AreNeighbours (after_entries opened (made_by table log).entries) e.vertex e.neighbours → WasList table opened log e
  neighbours-published log e low is h =
      let entries = (made_by table log).entries in
      let all : take (e.at - table.shape.base) entries ≡ entries = take_all (e.at - table.shape.base) entries (omega (arith, is)) in record {
        vertex = low;
        at = omega (arith, is);
        list = subst (λ es. AreNeighbours (after_entries opened es) e.vertex e.neighbours) (sym all) h;
      }

  -- the opening neighbours, under any number up to that of the last entry before the table
  pub opened_with : (log : List Event) (e : UsedEdges) → e.vertex < table.shape.fixed → e.at ≤ table.shape.base
      → AreNeighbours opened e.vertex e.neighbours → WasList table opened log e
  opened_with log e low early h =
      let none : e.at - table.shape.base ≡ 0 = omega (arith, early) in record {
        vertex = low;
        at = omega (arith, early);
        list = subst (λ n. AreNeighbours (after_entries opened (take n (made_by table log).entries)) e.vertex e.neighbours) (sym none) h;
      }
