-- Lists that were made ahead of an entry, and when they are those that the entry makes.
use Rattle.std.proofs.Common.{◌≡◌, ℕ, ◌<◌, ◌≤◌, Bool, true, false, not, List, get_or, sym, ap, ◌∙◌, subst, arith, cond}
use Rattle.std.proofs.lemmas.Bool.{false≢true}
use Rattle.std.specs.Prelude.{Option, Result, Ok, Err, IfOk, IfSome}
use Rattle.std.specs.Result.{result_ok}
use mathlib.Core.List.{IsPrefix}
use Rattle.kc_lists.specs.Lists.{member}
use Rattle.kc_graph.specs.SimpleGraph.{SimpleGraph, adjacent}
use Rattle.kc_graph.specs.Neighbours.{AreNeighbours}
use Rattle.kc_graph.specs.Plans.{is_applied}
use Rattle.kc_graph.specs.Rows.{Deleted, Inserted, IsPlace}
use Rattle.kc_graph.specs.declared.update.Update.{Update}
use Rattle.kc_graph.specs.declared.used.UsedEdges.{UsedEdges}
use Rattle.kc_graph.proofs.RowsLemmas.{place-found}
use Rattle.kc_graph.proofs.SharedLists.{near-first, near-second}
use Rattle.kc_table.specs.declared.view.Event.{Event}
use Rattle.kc_table.specs.Log.{TableName}
use Rattle.kc_agree.specs.Reads.{WasList}
use Rattle.kc_agree.specs.Stamps.{edge_stamp}
use Rattle.kc_agree.proofs.Growing.{list_stays}
use Rattle.kc_agree.proofs.Neighbouring.{current_neighbours}
use Rattle.kc_levels.specs.Levels.{size_of}
use Rattle.kc_journal.specs.ListsAhead.{AreAhead, FitWherePresent, IsChangedList}
use Rattle.kc_journal.specs.Journals.{Journalled, Stands}
use Rattle.kc_journal.specs.declared.ahead.ListsAhead.{ListsAhead}
use Rattle.kc_journal.proofs.AfterEntry.{size-is}

-- One list. --------------------------------------------------------------------------------------------

-- what follows of the value in an `Ok`
pub in-ok : {E : Type 0} (r : Result (List ℕ) E) {P Q : List ℕ → Type 0} → ((xs : List ℕ) → P xs → Q xs) → IfOk r P → IfOk r Q
in-ok (Ok xs) f h = f xs h
in-ok (Err e) f h = tt

-- what follows of the value in an `Ok` follows where it was turned into a `Some`
pub in-some : {E : Type 0} (r : Result (List ℕ) E) (o : Option (List ℕ)) {P Q : List ℕ → Type 0} → o ≡ result_ok r
    → ((xs : List ℕ) → P xs → Q xs) → IfOk r P → IfSome o Q
in-some (Ok xs) o {P} {Q} e f h = subst (λ (z : Option (List ℕ)). IfSome z Q) (sym e) (f xs h)
in-some (Err x) o {P} {Q} e f h = subst (λ (z : Option (List ℕ)). IfSome z Q) (sym e) tt

-- a number that was not found is added
pub is-added : (xs : List ℕ) (w i : ℕ) (add : Bool) (new : List ℕ) → add ≡ true → IsPlace xs w (Err i) → Inserted xs new w → IsChangedList add xs new w
is-added xs w i true new e place h = record { applied = sym (place-found xs w (Err i) place); changed = h }
is-added xs w i false new e place h = absurd (false≢true e)

-- a number that was found is taken
pub is-taken : (xs : List ℕ) (w i : ℕ) (add : Bool) (new : List ℕ) → add ≡ false → IsPlace xs w (Ok i) → Deleted xs new w → IsChangedList add xs new w
is-taken xs w i true new e place h = absurd (false≢true (sym e))
is-taken xs w i false new e place h = record { applied = sym (place-found xs w (Ok i) place); changed = h }

-- Both lists. ------------------------------------------------------------------------------------------

-- what was made of lists that were read stays so as the log grows
pub ahead-stays : (table : TableName) (opened : SimpleGraph) (p q : List Event) (update : Update) (a : ListsAhead) → IsPrefix p q
    → AreAhead table opened p update a → AreAhead table opened q update a
ahead-stays table opened p q update a pre h = record {
  first_of = h.first_of;
  second_of = h.second_of;
  first_was = list_stays table opened p q a.first pre h.first_was;
  second_was = list_stays table opened p q a.second pre h.second_was;
  made = h.made;
}

-- a list that was read with a stamp that is no less than the present one is that of now
list-now : (j : Journalled) (e : UsedEdges) → Stands j → WasList j.levels.table j.opened j.levels.log e
    → get_or j.edge_stamps e.vertex 0 ≤ e.at → AreNeighbours j.graph e.vertex e.neighbours
list-now j e h was le =
    let low : e.vertex < size_of j.levels = was.vertex in
    let stamp : edge_stamp j.levels.table j.opened j.opening_stamps j.levels.log e.vertex ≤ e.at =
    omega (arith, h.edge_stamps_here e.vertex low, le) in
    subst (λ (g : SimpleGraph). AreNeighbours g e.vertex e.neighbours) (sym h.from_opening)
    ((current_neighbours j.levels.table j.opened j.opening_stamps j.levels.log e.vertex e.at e.neighbours stamp).0 was.list)

-- an edge that is there as the update needs it is one that the update changes
either-way : (add there : Bool) → there ≡ not add → cond add (not there) there ≡ true
either-way true there e = ap not e
either-way false there e = e

-- an update is applied where it adds an end that the list lacks, or takes one that it has
applied-so : (g : SimpleGraph) (update : Update) (list : List ℕ) → AreNeighbours g update.u list → member update.v list ≡ not update.add
    → is_applied update g ≡ true
applied-so g update list near lacks = either-way update.add (adjacent g update.u update.v) (sym (near.exact update.v) ∙ lacks)

-- so what was made ahead of present lists is what the update makes
pub fit-where-present : (j : Journalled) (update : Update) (a : ListsAhead) → Stands j → update.v < size_of j.levels
    → AreAhead j.levels.table j.opened j.levels.log update a → FitWherePresent j.edge_stamps update j.graph a
fit-where-present j update a h low ahead first-le second-le =
    let u : ℕ = update.u in
    let v : ℕ = update.v in
    let size = size-is j h in
    let ordered = update.ordered in
    let first : AreNeighbours j.graph u a.first.neighbours =
    subst (λ (w : ℕ). AreNeighbours j.graph w a.first.neighbours) ahead.first_of
    (list-now j a.first h ahead.first_was (subst (λ (w : ℕ). get_or j.edge_stamps w 0 ≤ a.first.at) (sym ahead.first_of) first-le)) in
    let second : AreNeighbours j.graph v a.second.neighbours =
    subst (λ (w : ℕ). AreNeighbours j.graph w a.second.neighbours) ahead.second_of
    (list-now j a.second h ahead.second_was (subst (λ (w : ℕ). get_or j.edge_stamps w 0 ≤ a.second.at) (sym ahead.second_of) second-le)) in
    let differ : u ≡ v → ⊥ = λ e. absurd (omega (arith, e, ordered)) in (
      applied-so j.graph update a.first.neighbours first ahead.made.first_after.applied,
      record {
        first = near-first update.add j.graph u v a.first.neighbours a.lists.first differ (omega (arith, low, size)) first ahead.made.first_after.changed;
        second =
            near-second update.add j.graph u v a.second.neighbours a.lists.second differ (omega (arith, low, size, ordered)) second
            ahead.made.second_after.changed;
      },
    )

-- the same of a pass that has seen a beginning of the journal's log
pub fit-as-told : {self now : Journalled} (seen : List Event) (stamps : List ℕ) (update : Update) (a : ListsAhead) → self ≡ now → Stands self
    → IsPrefix seen self.levels.log → update.v < size_of now.levels → stamps ≡ self.edge_stamps
    → AreAhead now.levels.table now.opened seen update a → FitWherePresent stamps update self.graph a
fit-as-told {self} {now} seen stamps update a is h pre low stamps-are ahead =
    let here : AreAhead self.levels.table self.opened seen update a =
    subst (λ (j : Journalled). AreAhead j.levels.table j.opened seen update a) (sym is) ahead in
    let within : update.v < size_of self.levels = subst (λ (j : Journalled). update.v < size_of j.levels) (sym is) low in
    subst (λ (s : List ℕ). FitWherePresent s update self.graph a) (sym stamps-are)
    (fit-where-present self update a h within (ahead-stays self.levels.table self.opened seen self.levels.log update a pre here))
