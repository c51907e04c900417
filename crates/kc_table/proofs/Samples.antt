-- What the written-out logs make of the small table, and why those that break a condition are not legal.
use Rattle.std.proofs.Common.{◌≡◌, ◌<◌, ◌≤◌, ℕ, true, false, List, [], ◌∷◌, ◌++◌, refl, sym, ◌∙◌, ap, arith, ◌⊎◌, inl, inr, length}
use Rattle.std.specs.Prelude.{Bool, not, ◌&&◌, ◌||◌}
use Rattle.std.specs.Ordering.{eq_by_cmp}
use Rattle.std.specs.FinSet as set
use Rattle.kc_graph.specs.SimpleGraph.{pair_cmp}
use Rattle.kc_graph.proofs.RowsLemmas.{pair_total, pair_exact}
use Rattle.std.proofs.lemmas.Bool.{false≢true}
use Rattle.kc_words.specs.ItemWord.{item_of, item_word}
use Rattle.kc_words.specs.GroupWord.{group_of, group_word}
use Rattle.kc_words.specs.VertexWord.{vertex_of, vertex_word}
use Rattle.kc_words.specs.NoteWord.{note_of, note_word}
use Rattle.kc_words.specs.declared.note.NoteWord.TheVariants.{Enter, Put, Take}
use Rattle.kc_table.specs.Log.{event}
use Rattle.kc_table.specs.Edges.{edges_after}
use Rattle.kc_table.specs.Sections.{puts_in}
use Rattle.kc_table.specs.TableState.{state_of}
use Rattle.kc_table.specs.Legal.{Legal, IsTableOpening}
use Rattle.kc_table.specs.Samples.{shape, item, vertex, note, opening, one_put, put_and_take, open_section, sealed_section, sealed_unmoved}
use Rattle.kc_table.specs.Samples.{two_entries, next_index}
use Rattle.kc_table.specs.Samples.{pair_shape, pair_opening, pair_put, no_edges, one_edge, longer_opening, noted_opening, ahead_opening, missing_opening}
use Rattle.kc_table.specs.Samples.{tied_opening, stamped_opening}
use Rattle.kc_table.proofs.LegalLogs.{legal-last, legal-holds}

-- the opening words of the small table list its items 0 and 1
pub opening_list : (state_of shape opening []).list ≡ 0 ∷ 1 ∷ []
unfolding state_of item_of item_word group_of group_word
opening_list = refl

-- a put of item 1 after item 0 in the table of two items makes the list 0, 1
pub pair_put-list : (state_of pair_shape pair_opening pair_put).list ≡ 0 ∷ 1 ∷ []
unfolding state_of item_of item_word group_of group_word note_of note_word
pair_put-list = refl

-- item 2 put right after item 0 makes the list 0, 2, 1
pub one_put-list : (state_of shape opening one_put).list ≡ 0 ∷ 2 ∷ 1 ∷ []
unfolding state_of item_of item_word group_of group_word note_of note_word
one_put-list = refl

-- with item 2 put and item 1 taken the list is 0, 2
pub put_and_take-list : (state_of shape opening put_and_take).list ≡ 0 ∷ 2 ∷ []
unfolding state_of item_of item_word group_of group_word note_of note_word
put_and_take-list = refl

-- a section that has put vertex 0 and not stored its word leaves it open
pub open_section-unsealed : (state_of shape opening open_section).unsealed ≡ 0 ∷ []
unfolding state_of item_of item_word group_of group_word note_of note_word
open_section-unsealed = refl

-- vertex 0 put behind item 1 makes the list 1, 0
pub two_entries-list : (state_of shape opening two_entries).list ≡ 1 ∷ 0 ∷ []
unfolding state_of item_of item_word group_of group_word note_of note_word
two_entries-list = refl

-- the log with two Enter notes has made these two entries
pub two_entries-entries : (state_of shape opening two_entries).entries ≡ record { index = 7; add = true; u = 0; v = 1 } ∷ record
    { index = 8; add = false; u = 0; v = 1 } ∷ []
unfolding state_of item_of item_word group_of group_word note_of note_word
two_entries-entries = refl

-- the log with two entries leaves no vertex open
pub two_entries-unsealed : (state_of shape opening two_entries).unsealed ≡ []
unfolding state_of item_of item_word group_of group_word note_of note_word
two_entries-unsealed = refl

-- before the first entry of the table item 2 was put
pub puts-before : puts_in shape opening put_and_take 1 ≡ 2 ∷ []
unfolding puts_in item_of item_word group_of group_word note_of note_word
puts-before = refl

-- the section of the first entry has put vertex 0
pub puts-first : puts_in shape opening two_entries 2 ≡ 0 ∷ []
unfolding puts_in item_of item_word group_of group_word note_of note_word
puts-first = refl

-- the section of the second entry has put nothing
pub puts-second : puts_in shape opening two_entries 3 ≡ []
unfolding puts_in item_of item_word group_of group_word note_of note_word
puts-second = refl

-- what was put into an empty set and taken out again
removed_again : (p : ℕ × ℕ) → set.remove (set.insert (set.empty {R = pair_cmp}) p) p ≡ set.empty
removed_again p = set.same_set pair_total pair_exact _ _ (λ q.
    set.contains-remove pair_total (set.insert set.empty p) p q
    ∙ (ap (λ b. not (eq_by_cmp pair_cmp q p) && b) (set.contains-insert pair_total set.empty p q
    ∙ ap (λ b. eq_by_cmp pair_cmp q p || b) (set.contains-empty pair_cmp q))
    ∙ (neither (eq_by_cmp pair_cmp q p) ∙ sym (set.contains-empty pair_cmp q))))
  where
    neither : (b : Bool) → (not b && (b || false)) ≡ false
    neither true = refl
    neither false = refl

-- before the first entry of the table there is no edge
pub edges-before : edges_after no_edges shape opening two_entries 1 ≡ no_edges
unfolding state_of item_of item_word group_of group_word note_of note_word
edges-before = refl

-- after the first entry there is the one edge
pub edges-first : edges_after no_edges shape opening two_entries 2 ≡ one_edge
unfolding state_of item_of item_word group_of group_word note_of note_word
edges-first = refl

-- after the second entry the edge is gone
pub edges-second : edges_after no_edges shape opening two_entries 3 ≡ no_edges
unfolding state_of item_of item_word group_of group_word note_of note_word
edges-second = ap (λ edges. record { size = 2; edges = edges }) (removed_again (0, 1))

-- a number past the last entry gives the edges after the last
pub edges-later : edges_after no_edges shape opening two_entries 9 ≡ no_edges
unfolding state_of item_of item_word group_of group_word note_of note_word
edges-later = ap (λ edges. record { size = 2; edges = edges }) (removed_again (0, 1))

-- opening words that are one too many open no table
pub longer_opening-refused : IsTableOpening shape longer_opening → ⊥
longer_opening-refused h = omega (arith, h.one_each)

-- opening words with a note open no table
pub noted_opening-refused : IsTableOpening shape noted_opening → ⊥
noted_opening-refused h = omega (arith, h.no_note)

-- opening words with a version that is not the shape's open no table
pub ahead_opening-refused : IsTableOpening shape ahead_opening → ⊥
unfolding item_of item_word
ahead_opening-refused h = let e : ◌≡◌ {A = ℕ} 1 0 = h.versions 2 (omega arith, omega arith) in omega (arith, e)

-- opening words whose list lacks a vertex open no table
pub missing_opening-refused : IsTableOpening shape missing_opening → ⊥
unfolding item_of item_word group_of group_word
missing_opening-refused h = let e : false ≡ true = h.vertices 0 (omega arith) in false≢true e

-- opening words in which two items have one pair open no table
pub tied_opening-refused : IsTableOpening shape tied_opening → ⊥
unfolding item_of item_word group_of group_word
tied_opening-refused h =
    let k : ((100 < 100) ⊎ ((◌≡◌ {A = ℕ} 100 100) × (20 < 20))) = h.holds.ordered.pairs.0 in
    elim k [ inl l ↦ omega (arith, l) | inr l ↦ omega (arith, l.1) ]

-- opening words with a stamp beyond the last entry open no table
pub stamped_opening-refused : IsTableOpening shape stamped_opening → ⊥
unfolding vertex_of vertex_word
stamped_opening-refused h = let l : 2 ≤ 1 = h.holds.stamps 0 (omega arith) in omega (arith, l)

-- no word may be stored that the table does not have
pub word-there : Legal shape opening (event 9 0 ∷ []) → ⊥
word-there h = let l : 9 < 9 = (legal-last shape opening [] (event 9 0) h).there in omega (arith, l)

-- no value of more than 64 bits may be stored
pub value-fits : Legal shape opening (event 0 18446744073709551617 ∷ []) → ⊥
value-fits h = let l : 18446744073709551617 < 18446744073709551616 = (legal-last shape opening [] (event 0 18446744073709551617) h).fits in omega (arith, l)

-- after a put's note no other word may be stored than its item's
pub store-follows : Legal shape opening (note (Put 2 0) ∷ event 2 (item 1 1 12) ∷ []) → ⊥
unfolding state_of note_of note_word
store-follows h = let e : ◌≡◌ {A = ℕ} 2 3 = (legal-last shape opening (note (Put 2 0) ∷ []) (event 2 (item 1 1 12)) h).follows in omega (arith, e)

-- no item may be put that the table does not have
pub put_of_an_item : Legal shape opening (note (Put 3 0) ∷ []) → ⊥
unfolding state_of item_of item_word group_of group_word note_of note_word
put_of_an_item h = let l : 3 < 3 = ((legal-last shape opening [] (note (Put 3 0)) h).note refl).0 in omega (arith, l)

-- no item may be put after one that is not in the list
pub put_after_a_listed_item : Legal shape opening (note (Put 1 2) ∷ []) → ⊥
unfolding state_of item_of item_word group_of group_word note_of note_word
put_after_a_listed_item h = let e : false ≡ true = ((legal-last shape opening [] (note (Put 1 2)) h).note refl).1 in false≢true e

-- no item may be put after itself
pub put_after_another : Legal shape opening (note (Put 1 1) ∷ []) → ⊥
unfolding state_of item_of item_word group_of group_word note_of note_word
put_after_another h = let ne : (◌≡◌ {A = ℕ} 1 1) → ⊥ = ((legal-last shape opening [] (note (Put 1 1)) h).note refl).2 in ne refl

-- no vertex may be put before the table's first entry
pub put_in_a_section : Legal shape opening (note (Put 0 1) ∷ []) → ⊥
unfolding state_of item_of item_word group_of group_word note_of note_word
put_in_a_section h = let l : 0 < 0 = (((legal-last shape opening [] (note (Put 0 1)) h).note refl).3 (omega arith)).inside in omega (arith, l)

-- no vertex may be put again in a section that has stored its word
pub put_once : Legal shape opening (sealed_section ++ note (Put 0 1) ∷ []) → ⊥
unfolding state_of item_of item_word group_of group_word note_of note_word vertex_of vertex_word
put_once h = let l : 2 < 2 = (((legal-last shape opening sealed_section (note (Put 0 1)) h).note refl).3 (omega arith)).once in omega (arith, l)

-- no item may be taken that is not in the list
pub take_of_a_listed_item : Legal shape opening (note (Take 2) ∷ []) → ⊥
unfolding state_of item_of item_word group_of group_word note_of note_word
take_of_a_listed_item h = let e : false ≡ true = ((legal-last shape opening [] (note (Take 2)) h).note refl).0 in false≢true e

-- no vertex may be taken
pub take_of_no_vertex : Legal shape opening (note (Take 0) ∷ []) → ⊥
unfolding state_of item_of item_word group_of group_word note_of note_word
take_of_no_vertex h = let l : 1 ≤ 0 = ((legal-last shape opening [] (note (Take 0)) h).note refl).1 in omega (arith, l)

-- no section may begin while a vertex of the one before is open
pub section-closed : Legal shape opening (open_section ++ note (Enter false 0 1) ∷ []) → ⊥
unfolding state_of item_of item_word group_of group_word note_of note_word
section-closed h = let e : ◌≡◌ {A = List ℕ} (0 ∷ []) [] =
    (legal-last shape opening open_section (note (Enter false 0 1)) h).note refl in omega (arith, ap length e)

-- no item's word may be stored with the version that it has
pub version_stays : Legal shape opening (event 2 (item 0 1 25) ∷ []) → ⊥
unfolding state_of item_of item_word
version_stays h = let e : ◌≡◌ {A = ℕ} 0 1 = (legal-last shape opening [] (event 2 (item 0 1 25)) h).fresh (omega arith, omega arith) in omega (arith, e)

-- no item's word may be stored with a version that is greater by two
pub version_leaps : Legal shape opening (event 2 (item 2 1 25) ∷ []) → ⊥
unfolding state_of item_of item_word
version_leaps h = let e : ◌≡◌ {A = ℕ} 2 1 = (legal-last shape opening [] (event 2 (item 2 1 25)) h).fresh (omega arith, omega arith) in omega (arith, e)

-- no vertex's word may be stored before the table's first entry
pub sealed_in_a_section : Legal shape opening (event 8 (vertex 1 0) ∷ []) → ⊥
unfolding state_of
sealed_in_a_section h = let l : 0 < 0 = ((legal-last shape opening [] (event 8 (vertex 1 0)) h).seals 0 refl).inside in omega (arith, l)

-- no vertex's word may be stored with the stamp of the section before
pub own_stamp : Legal shape opening (open_section ++ event 8 (vertex 1 0) ∷ []) → ⊥
unfolding state_of note_of note_word vertex_of vertex_word
own_stamp h =
    let e : ◌≡◌ {A = ℕ} 1 2 = ((legal-last shape opening open_section (event 8 (vertex 1 0)) h).seals 0 refl).stamp in
    omega (arith, e)

-- no vertex's word may be stored in a section that has not put the vertex
pub sealed_where_put : Legal shape opening sealed_unmoved → ⊥
unfolding state_of note_of note_word vertex_of vertex_word
sealed_where_put h =
    let e : false ≡ true = ((legal-last shape opening (next_index 7 ∷ note (Enter true 0 1) ∷ []) (event 8 (vertex 2 0)) h).seals 0 refl).put in
    false≢true e

-- no vertex's word may be stored twice in a section
pub sealed_once : Legal shape opening (sealed_section ++ event 8 (vertex 2 0) ∷ []) → ⊥
unfolding state_of note_of note_word vertex_of vertex_word
sealed_once h = let l : 2 < 2 = ((legal-last shape opening sealed_section (event 8 (vertex 2 0)) h).seals 0 refl).later in omega (arith, l)

-- no store may give two items of the list one pair
pub list-ordered : Legal shape opening (event 2 (item 1 1 10) ∷ []) → ⊥
unfolding state_of item_of item_word group_of group_word
list-ordered h =
    let k : ((100 < 100) ⊎ ((◌≡◌ {A = ℕ} 100 100) × (10 < 10))) = (legal-holds shape opening (event 2 (item 1 1 10) ∷ []) h).ordered.pairs.0 in
    elim k [ inl l ↦ omega (arith, l) | inr l ↦ omega (arith, l.1) ]

-- no store may leave an item of the list without a group
pub item-inside : Legal shape opening (event 2 (item 1 0 25) ∷ []) → ⊥
unfolding state_of item_of item_word group_of group_word
item-inside h = let l : 0 < 0 = ((legal-holds shape opening (event 2 (item 1 0 25) ∷ []) h).ordered.inside 1 refl).0 in omega (arith, l)

-- no store may give an item of the list a group that the table does not have
pub item-inside_the_groups : Legal shape opening (event 1 (item 1 5 10) ∷ []) → ⊥
unfolding state_of item_of item_word group_of group_word
item-inside_the_groups h = let l : 5 ≤ 4 = ((legal-holds shape opening (event 1 (item 1 5 10) ∷ []) h).ordered.inside 0 refl).1 in omega (arith, l)

-- no store may give a group to an item that is out of the list
pub item-outside : Legal shape opening (event 3 (item 1 1 40) ∷ []) → ⊥
unfolding state_of item_of item_word group_of group_word
item-outside h = let e : ◌≡◌ {A = ℕ} 1 0 = (legal-holds shape opening (event 3 (item 1 1 40) ∷ []) h).ordered.outside 2 (omega arith) refl in omega (arith, e)
