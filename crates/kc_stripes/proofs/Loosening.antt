-- What the steps of a loose view keep true.
use Rattle.std.proofs.Common.{◌≡◌, ◌≤◌, ◌<◌, ℕ, true, List, [], length, get_or, refl, sym, ◌∙◌, ap, subst, arith}
use Rattle.std.specs.Prelude.{Some, is_some}
use Rattle.std.specs.Option.{unwrap_or}
use mathlib.Core.List.{IsPrefix}
use Rattle.kc_words.specs.declared.layout.TheConstants.{ITEMS}
use Rattle.kc_lists.proofs.Members.{below_bound}
use Rattle.kc_graph.proofs.RowsLemmas.{Distinct-from_increasing}
use Rattle.kc_graph.specs.SimpleGraph.{SimpleGraph}
use Rattle.kc_graph.specs.declared.used.UsedEdges.{UsedEdges}
use Rattle.kc_graph.specs.declared.used.UsedOrder.{UsedOrder}
use Rattle.kc_table.specs.declared.view.Event.{Event}
use Rattle.kc_table.specs.Log.{TableName}
use Rattle.kc_table.proofs.Prefixes.{prefix_trans}
use Rattle.kc_view.specs.Answers.{Answers, nothing_answered, list_in, has_list, list_of, has_core, with_list, with_place, with_order}
use Rattle.kc_view.specs.Lists.{AreLists, IsListOf}
use Rattle.kc_view.specs.Memory.{Memory, keeping}
use Rattle.kc_view.specs.Views.{Further, GoesOn}
use Rattle.kc_view.proofs.Handing.{lists-push}
use Rattle.kc_view.proofs.Keeping.{Further-refl, kept-list, no-lists}
use Rattle.kc_view.proofs.Marking.{Further-list, Further-place, Further-order}
use Rattle.kc_agree.specs.Reads.{WasList, WereRead, place_after}
use Rattle.kc_table.specs.Log.{Opened}
use Rattle.kc_stripes.specs.Reads.{Loosely, loosely, shown_loosely}
use Rattle.kc_stripes.specs.Loose.{IsLoose}
use Rattle.kc_stripes.proofs.Giving.{nothing_since, since_grows, list_since, place_since, missed_grows, list_below, core_below}

-- A view after a call: it is a loose view still, what was known of it stays so, and each list is one of its vertex.
pub record Goes (o : Opened) (start : List Event) (old new : Loosely) : Type 0 where
  pub is : IsLoose o start new
  pub goes_on : GoesOn (shown_loosely o start old) (shown_loosely o start new)
  pub lists : AreLists new.size new.kept.edges

-- a view that keeps nothing
pub loose_none : (o : Opened) (start log : List Event) (size handed misses : ℕ) → size ≡ o.table.shape.fixed → IsPrefix start log
    → IsLoose o start (loosely (keeping size nothing_answered) handed misses log)
loose_none o start log size handed misses is begins = record {
  size = is;
  begins = begins;
  read = nothing_since o start log;
  lists = no-lists size;
}

-- no list of a vertex is longer than a table has vertices
pub short_list : (table : TableName) (w : ℕ) (ws : List ℕ) → IsListOf table.shape.fixed w ws → length ws ≤ ITEMS
short_list table w ws h =
    omega (arith, below_bound table.shape.fixed ws (Distinct-from_increasing ws h.ascends) h.within, table.shape.fixed_in, table.shape.few_items)

-- the view with these answers, which has seen the log and missed so often
abbrev after : Loosely → Answers → ℕ → List Event → Loosely
after l kept misses log = loosely (keeping l.size kept) l.handed misses log

module _ {o : Opened} {start : List Event} {l : Loosely} where
  -- with more answers that were read since `start`
  goes : (kept : Answers) (misses : ℕ) (log : List Event) → IsLoose o start l → IsPrefix l.seen log → l.misses ≤ misses → Further l.kept kept
      → IsLoose o start (after l kept misses log) → Goes o start l (after l kept misses log)
  goes kept misses log old seen more further is = record {
    is = is;
    goes_on = record {
      lasts = record {
        same_size = refl;
        misses = more;
        still_missed = λ again h. missed_grows o.table start l.seen log again h seen;
        still_given = λ a h. since_grows o start l.seen log a h seen;
      };
      handed = refl;
      further = further;
      lists = λ _. is.lists;
    };
    lists = is.lists;
  }

  -- where more was seen, and perhaps the call missed
  pub sees_more : {log : List Event} {memo : Memory} (misses : ℕ) → IsLoose o start l → IsPrefix l.seen log → l.misses ≤ misses
      → memo ≡ keeping l.size l.kept → Goes o start l (loosely memo l.handed misses log)
  sees_more {log} {memo} misses is seen more same =
      subst (λ (m : Memory). Goes o start l (loosely m l.handed misses log)) (sym same)
      (goes l.kept misses log is seen more (Further-refl l.kept) (record {
        size = is.size;
        begins = prefix_trans start l.seen log is.begins seen;
        read = since_grows o start l.seen log l.kept is.read seen;
        lists = is.lists;
      }))

  -- with a list more
  pub keeps_list : {log : List Event} {memo : Memory} {e : UsedEdges} → IsLoose o start l → IsPrefix l.seen log
      → memo ≡ keeping l.size (with_list l.kept e) → WasList o.table o.edges log e → get_or o.stamps e.vertex 0 ≤ e.at
      → IsListOf o.table.shape.fixed e.vertex e.neighbours → Goes o start l (loosely memo l.handed l.misses log)
  keeps_list {log} {memo} {e} is seen told was newer list =
      subst (λ (m : Memory). Goes o start l (loosely m l.handed l.misses log)) (sym told)
      (goes (with_list l.kept e) l.misses log is seen (omega arith) (Further-list l.kept e) (record {
        size = is.size;
        begins = prefix_trans start l.seen log is.begins seen;
        read = list_since o start log l.kept e (since_grows o start l.seen log l.kept is.read seen) was newer;
        lists = lists-push l.size l.kept.edges e is.lists (subst (λ (n : ℕ). IsListOf n e.vertex e.neighbours) (sym is.size) list);
      }))

  -- what was read under the table's name before a call was read under it after
  reads_on : {before now : TableName} (log : List Event) (a : Answers) → before ≡ o.table → now ≡ before → IsLoose o start l
      → ((g : SimpleGraph) → WereRead before g l.seen l.kept → WereRead now g log a) → WereRead o.table o.edges log a
  reads_on {before} {now} log a named same is read =
      let old : WereRead before o.edges l.seen l.kept = subst (λ (t : TableName). WereRead t o.edges l.seen l.kept) (sym named) is.read.read in
      subst (λ (t : TableName). WereRead t o.edges log a) (same ∙ named) (read o.edges old)

  -- with a place more, as it is after the log
  pub keeps_place : {before now : TableName} {log : List Event} {memo : Memory} (v : ℕ) → before ≡ o.table → now ≡ before → IsLoose o start l
      → IsPrefix l.seen log → memo ≡ keeping l.size (with_place l.kept (place_after now log v))
      → ((g : SimpleGraph) → WereRead before g l.seen l.kept → WereRead now g log memo.kept) → Goes o start l (loosely memo l.handed l.misses log)
  keeps_place {before} {now} {log} {memo} v named same is seen told read =
      let to : TableName → Memory = λ t. keeping l.size (with_place l.kept (place_after t log v)) in
      let kept : memo ≡ to o.table = told ∙ ap to (same ∙ named) in
      let begins : IsPrefix start log = prefix_trans start l.seen log is.begins seen in
      let were : WereRead o.table o.edges log (to o.table).kept =
      subst (λ (m : Memory). WereRead o.table o.edges log m.kept) kept (reads_on log memo.kept named same is read) in
      subst (λ (m : Memory). Goes o start l (loosely m l.handed l.misses log)) (sym kept)
      (goes (to o.table).kept l.misses log is seen (omega arith) (Further-place l.kept (place_after o.table log v)) (record {
        size = is.size;
        begins = begins;
        read = place_since o start l.seen log l.kept v is.read begins seen were;
        lists = is.lists;
      }))

  -- with an order more
  pub keeps_order : {before now : TableName} {log : List Event} {memo : Memory} (r : UsedOrder) → before ≡ o.table → now ≡ before
      → IsLoose o start l → IsPrefix l.seen log → memo ≡ keeping l.size (with_order l.kept r)
      → ((g : SimpleGraph) → WereRead before g l.seen l.kept → WereRead now g log memo.kept) → Goes o start l (loosely memo l.handed l.misses log)
  keeps_order {before} {now} {log} {memo} r named same is seen told read =
      let old = since_grows o start l.seen log l.kept is.read seen in
      let were : WereRead o.table o.edges log (with_order l.kept r) =
      subst (λ (m : Memory). WereRead o.table o.edges log m.kept) told (reads_on log memo.kept named same is read) in
      subst (λ (m : Memory). Goes o start l (loosely m l.handed l.misses log)) (sym told)
      (goes (with_order l.kept r) l.misses log is seen (omega arith) (Further-order l.kept r) (record {
        size = is.size;
        begins = prefix_trans start l.seen log is.begins seen;
        read = record { read = were; lists = old.lists; places = old.places };
        lists = is.lists;
      }))

  -- a vertex whose list was told is one of the table's, and so is one whose core number was
  pub listed_below : (w : ℕ) → IsLoose o start l → has_list l.kept w ≡ true → w < l.size
  listed_below w is told = omega (arith, is.size, list_below o start l.seen l.kept w is.read told)

  -- a vertex whose core number is kept is one of the table
  pub placed_below : (w : ℕ) → IsLoose o start l → has_core l.kept w ≡ true → w < o.table.shape.fixed
  placed_below w is told = core_below o start l.seen l.kept w is.read told

  -- no list that was told is longer than a table has vertices
  pub short_told : (w : ℕ) (ws : List ℕ) → IsLoose o start l → list_in w l.kept.edges ≡ Some ws → length ws ≤ ITEMS
  short_told w ws is told =
      let list : IsListOf l.size w (list_of l.kept w) = kept-list l.size w l.kept is.lists (ap is_some told) in
      let same : list_of l.kept w ≡ ws = ap (λ op. unwrap_or op []) told in
      short_list o.table w ws (subst (λ (n : ℕ). IsListOf n w ws) is.size (subst (IsListOf l.size w) same list))
