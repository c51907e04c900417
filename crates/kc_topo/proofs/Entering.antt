-- What adding an arc leaves: after each prefix of the longer log the list is topological still.
use Rattle.std.proofs.Common.{◌≡◌, ◌<◌, ◌≤◌, ◌+◌, ◌*◌, ◌⊎◌, ℕ, true, false, List, [], ◌∷◌, ◌++◌, length, map, set, refl, sym, ap, ◌∙◌, subst, arith, inl, inr}
use Rattle.std.proofs.Common.{append-nil, length-append, length-set, get_or-set_other, get_or-set_same}
use Rattle.std.proofs.lemmas.Bool.{cases_eq}
use mathlib.Core.List.{IsPrefix}
use Rattle.kc_lists.specs.Lists.{Distinct, member}
use Rattle.kc_lists.proofs.Counting.{member-push_cases, member-push_left}
use Rattle.kc_lists.proofs.Members.{below_bound, member-append_right, member-head}
use Rattle.kc_graph.specs.Rows.{row}
use Rattle.kc_words.specs.NoteWord.{note_word}
use Rattle.kc_words.specs.declared.layout.TheConstants.{LAST_VERSION, VERTICES}
use Rattle.kc_words.specs.declared.note.NoteWord.{NoteWord}
use Rattle.kc_table.specs.declared.entry.Entry.{Entry}
use Rattle.kc_table.specs.declared.view.Event.{Event}
use Rattle.kc_table.specs.Log.{Seen, TableName, event}
use Rattle.kc_table.specs.TableState.{TableState}
use Rattle.kc_table.proofs.Entries.{state_of-index}
use Rattle.kc_table.proofs.LegalLogs.{state_of-push}
use Rattle.kc_table.proofs.Prefixes.{prefix_either, prefix_self}
use Rattle.kc_order.specs.Runs.{MovesRun, with_run_after}
use Rattle.kc_order.specs.Standing.{Between, StandsBefore, list_after}
use Rattle.kc_order.specs.Writers.{HasRoom, IsHighest, LeavesBeside, StoresEntry, entries_after, vertex_word_after}
use Rattle.kc_order.proofs.Orders.{same_test}
use Rattle.kc_order.proofs.RunMoves.{list-distinct, turn-distinct}
use Rattle.kc_topo.specs.Arcs.{IsTopological, Reaches, StandOnce, arc_of, arcs_after, entry_of, has_arc, note_of_arc}
use Rattle.kc_topo.specs.Dags.{AddsArc, IsDag, IsDagAlong, IsRunFor, KeepsRows}
use Rattle.kc_topo.proofs.Adding.{new-leads, still-topological}
use Rattle.kc_topo.proofs.ArcLists.{arc-push_cases, arc-push_new, arc-push_old, arcs-push, once-push}
use Rattle.kc_topo.proofs.Looking.{listed-low}

-- a prefix that is no shorter is the whole
whole-prefix : (xs ps : List Event) → IsPrefix xs ps → length ps ≤ length xs → xs ≡ ps
whole-prefix xs ps q le = elim q.0 as (λ rest. xs ++ rest ≡ ps → xs ≡ ps) [
  | [] ↦ λ is. sym (append-nil xs) ∙ is
  | z ∷ rest ↦ λ is. absurd (omega (arith, ap length is, length-append xs (z ∷ rest), le))
] q.1

-- a prefix of a log with one store more is a prefix of the log, or all of it
prefix-last : (xs ps : List Event) (e : Event) → IsPrefix ps (xs ++ e ∷ []) → IsPrefix ps xs ⊎ (ps ≡ xs ++ e ∷ [])
prefix-last xs ps e p = elim (prefix_either ps xs (xs ++ e ∷ []) p (e ∷ [], refl)) [
  | inl q ↦ inl q
  | inr q ↦ elim p.0 as (λ rest. ps ++ rest ≡ xs ++ e ∷ [] → IsPrefix ps xs ⊎ (ps ≡ xs ++ e ∷ [])) [
    | [] ↦ λ is. inr (sym (append-nil ps) ∙ is)
    | z ∷ rest ↦ λ is. inl (
      [],
      append-nil ps ∙ sym (whole-prefix xs ps q
          (omega (arith, ap length is, length-append ps (z ∷ rest), length-append xs (e ∷ [])))),
    )
  ] p.1
]

-- the rows with one arc more stand for the arcs with that one more
rows-push : (rows : List (List ℕ)) (arcs : List (ℕ × ℕ)) (a b : ℕ) → a < length rows → ((x y : ℕ) → member y (row rows x) ≡ has_arc arcs x y)
    → (x y : ℕ) → member y (row (set rows a (row rows a ++ b ∷ [])) x) ≡ has_arc (arcs ++ (a, b) ∷ []) x y
rows-push rows arcs a b low are x y = elim (cases_eq x a) [
  | inl e ↦
      let is : row (set rows a (row rows a ++ b ∷ [])) x ≡ row rows a ++ b ∷ [] =
      ap (λ k. row (set rows a (row rows a ++ b ∷ [])) k) e ∙ get_or-set_same rows a (row rows a ++ b ∷ []) [] low in
      ap (member y) is ∙ same_test (member y (row rows a ++ b ∷ [])) (has_arc (arcs ++ (a, b) ∷ []) x y)
      (λ m. elim (member-push_cases y b (row rows a) m) [
        | inl old ↦ arc-push_old arcs a b x y (ap (λ z. has_arc arcs z y) e ∙ (sym (are a y) ∙ old))
        | inr new ↦ (λ i. has_arc (arcs ++ (a, b) ∷ []) (e i) (new i)) ∙ arc-push_new arcs a b
      ])
      (λ h. elim (arc-push_cases arcs a b x y h) [
        | inl old ↦ member-push_left y b (row rows a) (are a y ∙ (ap (λ z. has_arc arcs z y) (sym e) ∙ old))
        | inr new ↦ subst (λ (z : ℕ). member z (row rows a ++ b ∷ []) ≡ true) (sym new.1) (member-append_right b (row rows a) (b ∷ []) (member-head b []))
      ])
  | inr ne ↦
      let is : row (set rows a (row rows a ++ b ∷ [])) x ≡ row rows x = get_or-set_other rows a x (row rows a ++ b ∷ []) [] ne in
      ap (member y) is ∙ (are x y ∙ same_test (has_arc arcs x y) (has_arc (arcs ++ (a, b) ∷ []) x y) (arc-push_old arcs a b x y)
      (λ h. elim (arc-push_cases arcs a b x y h) [ inl old ↦ old | inr new ↦ absurd (ne new.0) ]))
]

module _ (old moved new : Seen) (rows : List (List ℕ)) (run : List ℕ) (a b : ℕ) (k : KeepsRows old rows)
    (low : (a < old.table.shape.items) × (b < old.table.shape.items)) (fresh : has_arc (arcs_after old.table old.log) a b ≡ false)
    (acyclic : Reaches (arcs_after old.table old.log) b a → ⊥) (is : IsRunFor old a b run) (moves : MovesRun old moved run a)
    (stores : StoresEntry moved new 0 (note_word (note_of_arc a b)))
    (leaves : LeavesBeside new (entries_after moved ++ entry_of a b ∷ []) [] (vertex_word_after moved)) where
  -- the arcs before
  abbrev arcs : List (ℕ × ℕ)
  arcs = arcs_after old.table old.log

  -- the list after
  abbrev after : List ℕ
  after = with_run_after run a (list_after old.table old.log)

  -- the word that is stored last
  abbrev value : ℕ
  value = note_word (note_of_arc a b)

  -- the log once the run has moved and the index of the entry is stored
  abbrev indexed : List Event
  indexed = moved.log ++ event 0 0 ∷ []

  -- arcs and list are a dag before
  begun : IsDag old.table old.log
  begun = k.dag old.log (prefix_self old.log)

  -- the table stays
  to : new.table ≡ old.table
  to = ap (λ (s : Seen). s.table) stores.noted.is ∙ moves.table

  -- there is one entry more
  entries : entries_after new ≡ entries_after old ++ entry_of a b ∷ []
  entries = leaves.entries_are ∙ ap (λ (es : List Entry). es ++ entry_of a b ∷ []) moves.leaves.entries_are

  -- there is one arc more
  arcs-new : arcs_after new.table new.log ≡ arcs ++ (a, b) ∷ []
  arcs-new = ap (map arc_of) entries ∙ arcs-push (entries_after old) a b

  -- the list is the one that was made
  list-new : list_after new.table new.log ≡ after
  list-new = ap (λ (s : Seen). list_after s.table s.log) stores.noted.is
      ∙ (ap (λ (z : TableState). z.list) (state_of-push moved.table.shape moved.table.opening indexed (event 0 value))
      ∙ (ap (λ (z : TableState). z.list) (state_of-push moved.table.shape moved.table.opening moved.log (event 0 0)) ∙ moves.list))

  -- the list is topological for the arcs before
  still : IsTopological arcs after
  still = still-topological old a b run is begun.topological acyclic (begun.vertices a low.0) (begun.vertices b low.1)
      (list-distinct old.table old.log k.legal) (subst Distinct moves.list (list-distinct moved.table moved.log moves.legal))

  -- the arc leads forwards
  leads : StandsBefore a b after
  leads = new-leads old a b run is begun.topological acyclic (begun.vertices a low.0) (begun.vertices b low.1)
      (list-distinct old.table old.log k.legal) (subst Distinct moves.list (list-distinct moved.table moved.log moves.legal))

  -- while the run moves
  while-moving : (prefix : List Event) → Between old.log moved.log prefix → IsDag old.table prefix
  while-moving prefix between =
      let u = moves.underway prefix between in
      let same : arcs_after old.table prefix ≡ arcs = ap (map arc_of) u.entries in
      record {
        vertices = λ v l. u.members v ∙ begun.vertices v l;
        once = subst StandOnce (sym same) begun.once;
        topological = λ x y arc.
            let arc' : has_arc arcs x y ≡ true = ap (λ zs. has_arc zs x y) (sym same) ∙ arc in
            elim (u.stands x y) [
              | inl alike ↦ alike.1 (begun.topological x y arc')
              | inr alike ↦ alike.1 (subst (StandsBefore x y) (sym moves.list) (still x y arc'))
            ];
      }

  -- and once the index is stored, which changes neither arcs nor list
  once-indexed : IsDag old.table indexed
  once-indexed =
      let whole = while-moving moved.log record { extends = moves.longer; extended = prefix_self moved.log } in
      let state = state_of-index old.table.shape old.table.opening moved.log 0 (omega arith) in
      let list : list_after old.table indexed ≡ list_after old.table moved.log = ap (λ (z : TableState). z.list) state in
      let same : arcs_after old.table indexed ≡ arcs_after old.table moved.log = ap (λ (z : TableState). map arc_of z.entries) state in
      record {
        vertices = λ v l. ap (member v) list ∙ whole.vertices v l;
        once = subst StandOnce (sym same) whole.once;
        topological = λ x y arc. subst (StandsBefore x y) (sym list) (whole.topological x y (ap (λ zs. has_arc zs x y) (sym same) ∙ arc));
      }

  -- and at the end
  ended : IsDag new.table new.log
  ended =
      let whole = while-moving moved.log record { extends = moves.longer; extended = prefix_self moved.log } in
      let stood : list_after old.table moved.log ≡ after = ap (λ t. list_after t moved.log) (sym moves.table) ∙ moves.list in
      record {
        vertices = λ v l. ap (member v) (list-new ∙ sym stood) ∙ whole.vertices v (subst (λ (t : TableName). v < t.shape.items) to l);
        once = subst StandOnce (sym arcs-new) (once-push arcs a b begun.once fresh);
        topological = λ x y arc. subst (StandsBefore x y) (sym list-new) (elim (arc-push_cases arcs a b x y (ap (λ zs. has_arc zs x y) (sym arcs-new) ∙ arc)) [
          | inl before ↦ still x y before
          | inr this ↦ subst (λ (z : ℕ). StandsBefore z y after) (sym this.0) (subst (λ (z : ℕ). StandsBefore a z after) (sym this.1) leads)
        ]);
      }

  -- all is sound along the whole log
  along : IsDagAlong new.table new.log
  along prefix p =
      let grown : new.log ≡ indexed ++ event 0 value ∷ [] = ap (λ (s : Seen). s.log) stores.noted.is in
      elim (prefix-last indexed prefix (event 0 value) (subst (IsPrefix prefix) grown p)) [
        | inl early ↦ subst (λ (t : TableName). IsDag t prefix) (sym to) (elim (prefix-last moved.log prefix (event 0 0) early) [
          | inl moving ↦ elim (prefix_either prefix old.log moved.log moving moves.longer) [
            | inl before ↦ k.dag prefix before
            | inr after-old ↦ while-moving prefix record { extends = after-old; extended = moving }
          ]
          | inr at-index ↦ subst (IsDag old.table) (sym at-index) once-indexed
        ])
        | inr whole ↦ subst (IsDag new.table) (grown ∙ sym whole) ended
      ]

  -- the arc was added
  pub adds-arc : HasRoom old.table old.log (3 * length run) → AddsArc old new a b
  adds-arc room = record {
    fresh = fresh;
    acyclic = acyclic;
    run = run;
    run_is = is;
    room = room;
    moved = moved;
    moves = moves;
    stores = stores;
    entries = entries;
    arcs = arcs-new;
    list = list-new;
  }

  -- and what is kept is right again
  pub keeps-on : KeepsRows new (set rows a (row rows a ++ b ∷ []))
  keeps-on = record {
    dag = along;
    legal = stores.noted.legal;
    free = ap (λ (t : TableName). t.shape.fixed) to ∙ k.free;
    few = subst (λ (t : TableName). t.shape.items ≤ VERTICES) (sym to) k.few;
    closed = leaves.unsealed_are;
    long = length-set rows a (row rows a ++ b ∷ []) ∙ (k.long ∙ ap (λ (t : TableName). t.shape.items) (sym to));
    rows_are = λ x y. rows-push rows arcs a b (omega (arith, k.long, low.0)) k.rows_are x y ∙ ap (λ zs. has_arc zs x y) (sym arcs-new);
  }

-- The same, where the state before is seen as `now`, and the note and the entry are those of an update.
pub entered-now : (old now moved new : Seen) (rows more : List (List ℕ)) (run : List ℕ) (a b : ℕ) (note : NoteWord) (entry : Entry) → old ≡ now
    → KeepsRows old rows → (a < now.table.shape.items) × (b < now.table.shape.items) → has_arc (arcs_after now.table now.log) a b ≡ false
    → (Reaches (arcs_after now.table now.log) b a → ⊥) → IsRunFor now a b run → HasRoom now.table now.log (3 * length run) → MovesRun old moved run a
    → note_of_arc a b ≡ note → StoresEntry moved new 0 (note_word note) → entry_of a b ≡ entry
    → LeavesBeside new (entries_after moved ++ entry ∷ []) [] (vertex_word_after moved) → more ≡ set rows a (row rows a ++ b ∷ [])
    → AddsArc now new a b × KeepsRows new more
entered-now old now moved new rows more run a b note entry same k low fresh acyclic is room moves note-is stores entry-is leaves more-is =
    let back = sym same in
    let low' = subst (λ (s : Seen). (a < s.table.shape.items) × (b < s.table.shape.items)) back low in
    let fresh' = subst (λ (s : Seen). has_arc (arcs_after s.table s.log) a b ≡ false) back fresh in
    let acyclic' = subst (λ (s : Seen). Reaches (arcs_after s.table s.log) b a → ⊥) back acyclic in
    let is' = subst (λ (s : Seen). IsRunFor s a b run) back is in
    let room' = subst (λ (s : Seen). HasRoom s.table s.log (3 * length run)) back room in
    let stores' = subst (λ (n : NoteWord). StoresEntry moved new 0 (note_word n)) (sym note-is) stores in
    let leaves' = subst (λ (e : Entry). LeavesBeside new (entries_after moved ++ e ∷ []) [] (vertex_word_after moved)) (sym entry-is) leaves in (
      subst (λ (s : Seen). AddsArc s new a b) same (adds-arc old moved new rows run a b k low' fresh' acyclic' is' moves stores' leaves' room'),
      subst (KeepsRows new) (sym more-is) (keeps-on old moved new rows run a b k low' fresh' acyclic' is' moves stores' leaves'),
    )

-- a run has no more members than there are vertices
pub run-short : (seen : Seen) (rows : List (List ℕ)) (a b : ℕ) (run : List ℕ) → KeepsRows seen rows → IsRunFor seen a b run → length run ≤ VERTICES
run-short seen rows a b run k is =
    let short = below_bound seen.table.shape.items run (turn-distinct run (list_after seen.table seen.log) is.turn)
    (λ v m. listed-low seen.table seen.log k.legal v ((is.members v).0 m).1.first) in
    omega (arith, short, k.few)

-- the greatest version leaves room for a run
pub room-for : (old now : Seen) (highest n : ℕ) → old ≡ now → IsHighest old.table old.log highest → highest + 3 * n ≤ LAST_VERSION
    → HasRoom now.table now.log (3 * n)
room-for old now highest n same is enough =
    subst (λ (s : Seen). HasRoom s.table s.log (3 * n)) same (λ word v. omega (arith, is.bound word v, enough))
