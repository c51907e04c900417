-- The neighbours that are ahead of a vertex, in a state that agrees with the answers.
use Rattle.std.proofs.Common.{◌≡◌, ◌<◌, ℕ, true, ◌&&◌, ◌||◌, List, eqb, sym, ◌∙◌, ap, inl, inr, arith, eqb-true}
use Rattle.std.specs.Prelude.{count_by}
use Rattle.std.proofs.lemmas.Bool.{or_cases, and_parts}
use Rattle.kc_lists.specs.Lists.{member}
use Rattle.kc_graph.specs.Lawful.{Ranked}
use Rattle.kc_graph.specs.declared.update.Update.{Update}
use Rattle.kc_graph.proofs.NeighbourLists.{neighbours_within}
use Rattle.kc_graph.proofs.RowsLemmas.{Distinct-from_increasing}
use Rattle.kc_view.specs.Answers.{Answers, Agrees, has_list, list_of}
use Rattle.kc_view.specs.Lists.{IsListOf}
use Rattle.kc_view.proofs.Keeping.{list-true}
use Rattle.kc_insert.specs.Added.{search_with}
use Rattle.kc_graph.specs.Plans.{joins}
use Rattle.kc_insert.specs.Turns.{side_in, is_ahead, is_next, IsAheadOf}
use Rattle.kc_insert.specs.declared.ahead.Ahead.{Ahead}
use Rattle.kc_insert.proofs.Looking.{ahead-is}
use Rattle.kc_insert.proofs.Rows.{row-is}

-- the ends of the edge are vertices
added-within : (update : Update) (w y n : ℕ) → update.v < n → joins update w y ≡ true → y < n
added-within update w y n l t =
    let up : update.u < update.v = update.ordered in
    elim (or_cases (eqb w update.u && eqb y update.v) (eqb w update.v && eqb y update.u) t) [
      | inl k ↦ let e : y ≡ update.v = eqb-true y update.v (and_parts (eqb w update.u) (eqb y update.v) k).1 in omega (arith, e, l)
      | inr k ↦ let e : y ≡ update.u = eqb-true y update.u (and_parts (eqb w update.v) (eqb y update.u) k).1 in omega (arith, e, up, l)
    ]

-- a count made from what was told is the count of those ahead in each state that agrees
pub ahead-of : (a : Answers) (s : Ranked) (update : Update) (level size w : ℕ) (row : List ℕ) (ahead : Ahead) → Agrees a s
    → update.v < s.graph.size → has_list a w ≡ true → IsListOf size w row
    → ((y : ℕ) → member y row ≡ (member y (list_of a w) || joins update w y))
    → ahead.count ≡ count_by (λ y. is_ahead (side_in (search_with update level s) w y)) row
    → ((y : ℕ) → member y ahead.next.items ≡ (member y row && is_next (side_in (search_with update level s) w y)))
    → IsAheadOf (search_with update level s) w ahead
ahead-of a s update level size w row ahead g l h list has counted next =
    let within : (y : ℕ) → member y row ≡ true → y < s.graph.size = λ y m. elim (or_cases (member y (list_of a w)) (joins update w y) (sym (has y) ∙ m)) [
      | inl k ↦ (neighbours_within s.graph w y (sym (ap (member y) (list-true a s w g h).1) ∙ k)).0
      | inr k ↦ added-within update w y s.graph.size l k
    ] in
    ahead-is (search_with update level s) w row ahead (Distinct-from_increasing row list.ascends) within (row-is a s update w row g h has) counted next
