-- The tables over which a journal went on, and its own.
use Rattle.std.proofs.Common.{◌≡◌, ℕ, ◌+◌, List, [], ◌∷◌, ◌++◌, length, get_or}
use Rattle.std.proofs.Common.{sym, ap, ap₂, ◌∙◌, subst, arith, append_assoc, append-nil, length-append}
use mathlib.Core.List.{IsPrefix}
use Rattle.kc_graph.specs.SimpleGraph.{SimpleGraph}
use Rattle.kc_graph.specs.Lawful.{Ranked}
use Rattle.kc_table.specs.declared.entry.Entry.{Entry}
use Rattle.kc_table.specs.declared.view.Event.{Event}
use Rattle.kc_table.specs.Edges.{after_entries}
use Rattle.kc_table.specs.Log.{PassSeen, TableName}
use Rattle.kc_table.proofs.Prefixes.{prefix_self, prefix_trans}
use Rattle.kc_order.specs.Standing.{list_after}
use Rattle.kc_agree.specs.Stamps.{core_after}
use Rattle.kc_agree.specs.States.{IsStateOf}
use Rattle.kc_agree.proofs.Neighbouring.{size-after_all}
use Rattle.kc_levels.specs.Heads.{with_heads}
use Rattle.kc_levels.specs.Levels.{size_of}
use Rattle.kc_journal.specs.Journals.{Journalled, Renews, Stands, all_seen, entries_here, fresh_pass, ranked}
use Rattle.kc_journal.proofs.AfterEntry.{at-rest, size-is, state-of}
use Rattle.kc_batch.specs.Runs.{IsNearlySpent, IsRenewal, StaysIn, WentOn}
use Rattle.kc_run.specs.Tables.{AreTables, IsFollowed, IsCertifiedTable, TakesOver, entries_of, entries_seen}
use Rattle.kc_run.proofs.Lists.{same-beginning}

-- The table of a journal, with all of its log.
is-table : (j : Journalled) (base : ℕ) → Stands j → j.levels.table.shape.base ≡ base → j.levels.table.shape.version ≡ 0
    → IsCertifiedTable j.opened base (all_seen j)
is-table j base stands at zero =
    let rest = at-rest j.levels stands.levels stands.closed in
    record {
      size = sym (size-is j stands) ∙ (ap (λ (g : SimpleGraph). g.size) stands.from_opening ∙ size-after_all j.opened (entries_here j));
      base_is = at;
      version = zero;
      legal = rest.legal;
      closed = rest.closed;
      sound = stands.sound;
      sparing = stands.sparing;
    }

-- the table of a journal that stayed in it, with all of its log
table-stays : (old new : Journalled) (base : ℕ) → StaysIn old new → Stands new → old.levels.table.shape.base ≡ base → old.levels.table.shape.version ≡ 0
    → IsCertifiedTable old.opened base (all_seen new)
table-stays old new base stays stands at zero =
    subst (λ (g : SimpleGraph). IsCertifiedTable g base (all_seen new)) stays.opened
    (is-table new base stands (ap (λ (t : TableName). t.shape.base) stays.table ∙ at) (ap (λ (t : TableName). t.shape.version) stays.table ∙ zero))

-- Where a journal went on in a fresh table, that one opened with the list and the core numbers of now.
takes-over : (end next : Journalled) → Stands end → Renews end next 0 next.levels.table (fresh_pass next.levels.table)
    → TakesOver (all_seen end) (fresh_pass next.levels.table)
takes-over end next stands renews =
    let size : size_of next.levels ≡ size_of end.levels =
    sym (size-is next renews.stands) ∙ (ap (λ (s : Ranked). s.graph.size) renews.state ∙ size-is end stands) in
    let here : IsStateOf end.levels.table end.opened end.levels.log (ranked end) = state-of end stands in
    let there : IsStateOf next.levels.table next.opened [] (ranked next) =
    subst (λ (log : List Event). IsStateOf next.levels.table next.opened log (ranked next)) renews.log (state-of next renews.stands) in
    let heads : with_heads (size_of next.levels) next.levels.order next.levels.core ≡ with_heads (size_of end.levels) end.levels.order end.levels.core =
    ap (λ (n : ℕ). with_heads n next.levels.order next.levels.core) size
    ∙ ap (λ (s : Ranked). with_heads (size_of end.levels) s.order s.core) renews.state in
    record {
      list = ap (λ (log : List Event). list_after next.levels.table log) (sym renews.log)
          ∙ (renews.stands.levels.list ∙ (heads ∙ sym stands.levels.list));
      core = λ v low. sym (there.core v (omega (arith, low, size)))
          ∙ (ap (λ (s : Ranked). get_or s.core v 0) renews.state ∙ here.core v low);
    }

-- The next of the tables is the fresh one.
is-followed : (p : PassSeen) (more : List PassSeen) (next new : Journalled) → IsNearlySpent p.table p.log → TakesOver p (fresh_pass next.levels.table)
    → WentOn next more new → IsFollowed p (more ++ all_seen new ∷ [])
is-followed p [] next new spent takes went =
    let same : new.levels.table ≡ next.levels.table = went.table in (
      spent,
      record {
        list = ap (λ (t : TableName). list_after t []) same ∙ takes.list;
        core = λ v low. ap (λ (t : TableName). core_after t [] v) same ∙ takes.core v low;
      },
    )
is-followed p (q ∷ more) next new spent takes went =
    let renewal : IsRenewal next q went.0 went.1 = went.2 in
    let same : q.table ≡ next.levels.table = ap (λ (z : PassSeen). z.table) renewal.told ∙ renewal.stays.table in (
      spent,
      record {
        list = ap (λ (t : TableName). list_after t []) same ∙ takes.list;
        core = λ v low. ap (λ (t : TableName). core_after t [] v) same ∙ takes.core v low;
      },
    )

-- What a journal's entries are where its table begins behind `front`: those, and then the table's own.
entries-behind : (front : List Entry) (j : Journalled) → Stands j → length front ≡ j.levels.table.shape.base → IsPrefix front j.entries
    → j.entries ≡ front ++ entries_here j
entries-behind front j stands long begins =
    let before : front ≡ stands.before =
    same-beginning front stands.before j.entries begins (entries_here j, sym stands.entries) (long ∙ sym stands.base) in
    stands.entries ∙ ap (λ (es : List Entry). es ++ entries_here j) (sym before)

-- The entries of all tables follow one another.
pub entries-follow : (ended : List PassSeen) (front : List Entry) (old new : Journalled) → WentOn old ended new → Stands new
    → length front ≡ old.levels.table.shape.base → IsPrefix front old.entries → new.entries ≡ front ++ entries_of (ended ++ all_seen new ∷ [])
entries-follow [] front old new went stands long begins =
    entries-behind front new stands (long ∙ ap (λ (t : TableName). t.shape.base) (sym went.table))
    (prefix_trans front old.entries new.entries begins went.entries)
    ∙ ap (λ (es : List Entry). front ++ es) (sym (append-nil (entries_here new)))
entries-follow (last ∷ more) front old new went stands long begins =
    let end : Journalled = went.0 in
    let next : Journalled = went.1 in
    let renewal : IsRenewal old last end next = went.2 in
    let ended : end.entries ≡ front ++ entries_here end =
    entries-behind front end renewal.stands (long ∙ ap (λ (t : TableName). t.shape.base) (sym renewal.stays.table))
    (prefix_trans front old.entries end.entries begins renewal.stays.entries) in
    let rest : new.entries ≡ end.entries ++ entries_of (more ++ all_seen new ∷ []) =
    entries-follow more end.entries next new went.3 stands (sym renewal.renews.base)
    (subst (IsPrefix end.entries) (sym renewal.renews.entries) (prefix_self end.entries)) in
    let here : entries_here end ≡ entries_seen last = ap entries_seen (sym renewal.told) in
    rest ∙ (ap (λ (es : List Entry). es ++ entries_of (more ++ all_seen new ∷ [])) (ended ∙ ap (λ (es : List Entry). front ++ es) here)
    ∙ append_assoc front (entries_seen last) (entries_of (more ++ all_seen new ∷ [])))

-- the tables over which a journal went on follow one another, its own the last
pub tables-follow : (ended : List PassSeen) (old new : Journalled) (base : ℕ) → WentOn old ended new → Stands new
    → old.levels.table.shape.base ≡ base → old.levels.table.shape.version ≡ 0 → AreTables old.opened base (ended ++ all_seen new ∷ [])
tables-follow [] old new base went stands at zero = (table-stays old new base went stands at zero, tt, tt)
tables-follow (last ∷ more) old new base went stands at zero =
    let end : Journalled = went.0 in
    let next : Journalled = went.1 in
    let renewal : IsRenewal old last end next = went.2 in
    let stood : Stands end = renewal.stands in
    let told : all_seen end ≡ last = sym renewal.told in
    let table : IsCertifiedTable old.opened base last =
    subst (IsCertifiedTable old.opened base) told (table-stays old end base renewal.stays stood at zero) in
    let followed : IsFollowed last (more ++ all_seen new ∷ []) = is-followed last more next new
    (subst (λ (p : PassSeen). IsNearlySpent p.table p.log) told renewal.spent)
    (subst (λ (p : PassSeen). TakesOver p (fresh_pass next.levels.table)) told (takes-over end next stood renewal.renews)) went.3 in
    let graph : next.opened ≡ after_entries old.opened (entries_seen last) =
    renewal.renews.opened ∙ (stood.from_opening ∙ ap₂ after_entries renewal.stays.opened (ap entries_seen told)) in
    let behind : next.levels.table.shape.base ≡ base + length (entries_seen last) =
    renewal.renews.base ∙ (ap length stood.entries ∙ (length-append stood.before (entries_here end)
    ∙ ap₂ (λ (m n : ℕ). m + n) (stood.base ∙ (ap (λ (t : TableName). t.shape.base) renewal.stays.table ∙ at))
    (ap (λ (p : PassSeen). length (entries_seen p)) told))) in (
      table,
      followed,
      subst (λ (g : SimpleGraph). AreTables g (base + length (entries_seen last)) (more ++ all_seen new ∷ [])) graph
          (tables-follow more next new (base + length (entries_seen last)) went.3 stands behind renewal.renews.version_is),
    )
