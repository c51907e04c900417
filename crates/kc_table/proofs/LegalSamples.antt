-- Why the written-out logs of the small table are legal: each store is one that may follow, and the rules hold after it.
use Rattle.std.proofs.Common.{◌≡◌, ◌+◌, ◌<◌, ◌≤◌, ◌^◌, ℕ, zero, suc, true, false, List, [], ◌∷◌, ◌++◌, length, set, refl, sym, ap, subst, arith, inl, inr, lit<}
use Rattle.std.specs.Prelude.{slice_index}
use Rattle.std.proofs.lemmas.Bool.{cases_eq, false≢true}
use Rattle.kc_lists.specs.Lists.{member, InOrder}
use Rattle.kc_lists.proofs.Members.{member-cases}
use Rattle.kc_words.specs.ItemWord.{item_of, item_word}
use Rattle.kc_words.specs.GroupWord.{group_of, group_word}
use Rattle.kc_words.specs.VertexWord.{vertex_of, vertex_word}
use Rattle.kc_words.specs.NoteWord.{note_of, note_word}
use Rattle.kc_words.specs.Order.{PairBelow, labels}
use Rattle.kc_words.specs.declared.note.NoteWord.{NoteWord}
use Rattle.kc_words.specs.declared.note.NoteWord.TheVariants.{Nothing, Enter, Put, Take}
use Rattle.kc_table.specs.declared.entry.Entry.{Entry}
use Rattle.kc_table.specs.Log.{event}
use Rattle.kc_table.specs.TableState.{TableState, opened, state_of}
use Rattle.kc_table.specs.Legal.{FollowsNote, StateHolds, IsNewer, Legal, MayNote, MayStore, IsTableOpening, Seals, last_entry, stamp_in}
use Rattle.kc_table.specs.Samples.{shape, item, vertex, note, opening, one_put, put_and_take, open_section, sealed_section, two_entries, next_index}
use Rattle.kc_table.proofs.LegalLogs.{legal-nil, legal-push}

-- what holds of each that stands in a list
abbrev HoldsOfEach : (ℕ → Type 0) → List ℕ → Type 0
HoldsOfEach P [] = Unit {0}
HoldsOfEach P (x ∷ xs) = P x × HoldsOfEach P xs

-- what holds of each that stands in a list holds of each member
each-member : (P : ℕ → Type 0) (xs : List ℕ) → HoldsOfEach P xs → (x : ℕ) → member x xs ≡ true → P x
each-member P [] h x m = absurd (false≢true m)
each-member P (y ∷ ys) h x m = elim (member-cases x y ys m) [ inl e ↦ subst P (sym e) h.0 | inr k ↦ each-member P ys h.1 x k ]

-- what holds of each number below another
abbrev HoldsBelow : (ℕ → Type 0) → ℕ → Type 0
HoldsBelow P zero = Unit {0}
HoldsBelow P (suc n) = P n × HoldsBelow P n

-- what holds of each below `n`, one by one, holds of any below `n`
each-below : (P : ℕ → Type 0) (n : ℕ) → HoldsBelow P n → (x : ℕ) → x < n → P x
each-below P zero h x low = absurd (omega (arith, low))
each-below P (suc n) h x low = elim (cases_eq x n) [ inl e ↦ subst P (sym e) h.0 | inr ne ↦ each-below P n h.1 x (omega (arith, low, ne)) ]

-- the group of item x by the words of a state
abbrev group_in : TableState → ℕ → ℕ
group_in s x = (labels 3 s.words).group x

-- the item has one of the four groups
abbrev HasGroup : TableState → ℕ → Type 0
HasGroup s x = (0 < group_in s x) × (group_in s x ≤ 4)

-- where the item is out, it has no group
abbrev IsOut : TableState → ℕ → Type 0
IsOut s x = member x s.list ≡ false → group_in s x ≡ 0

-- the rules hold of a state of the small table by what its pairs, its groups and its one stamp are
holds-of : (s : TableState) → InOrder (PairBelow (labels 3 s.words)) s.list → HoldsOfEach (HasGroup s) s.list → HoldsBelow (IsOut s) 3
    → stamp_in shape s 0 ≤ last_entry shape s → StateHolds shape s
holds-of s pairs groups others stamp = record {
  ordered = record {
    pairs = pairs;
    inside = each-member (HasGroup s) s.list groups;
    outside = each-below (IsOut s) 3 others;
  };
  stamps = λ v low. let is : v ≡ 0 = omega (arith, low) in subst (λ k. stamp_in shape s k ≤ last_entry shape s) (sym is) stamp;
}

-- a word of a note may be stored that the note before it and the rule of notes allow
word-may : (s : TableState) (value : ℕ) → value < 2 ^ 64 → FollowsNote s.note 0 → MayNote shape s (note_of value) → MayStore shape s (event 0 value)
word-may s value fits follows may = record {
  there = omega arith;
  fits = fits;
  follows = follows;
  note = λ is. may;
  fresh = λ versioned. absurd (omega (arith, versioned.0));
  seals = λ v is. absurd (omega (arith, is));
}

-- and so may a note
note-may : (s : TableState) (n : NoteWord) → note_word n < 2 ^ 64 → FollowsNote s.note 0 → MayNote shape s (note_of (note_word n)) → MayStore shape s (note n)
note-may s n = word-may s (note_word n)

-- the word of an item may be stored with the next version
item-may : (s : TableState) (x value : ℕ) → x < 3 → value < 2 ^ 64 → FollowsNote s.note (1 + x) → IsNewer (slice_index s.words (1 + x)) value
    → MayStore shape s (event (1 + x) value)
item-may s x value low fits follows newer = record {
  there = omega (arith, low);
  fits = fits;
  follows = follows;
  note = λ is. absurd (omega (arith, is));
  fresh = λ versioned. newer;
  seals = λ v is. absurd (omega (arith, is, low));
}

-- the word of the vertex may be stored where that seals it
vertex-may : (s : TableState) (value : ℕ) → value < 2 ^ 64 → FollowsNote s.note 8 → Seals shape s 0 value → MayStore shape s (event 8 value)
vertex-may s value fits follows seals = record {
  there = omega arith;
  fits = fits;
  follows = follows;
  note = λ is. absurd (omega (arith, is));
  fresh = λ versioned. absurd (omega (arith, versioned.1));
  seals = λ v is. let zeroth : v ≡ 0 = omega (arith, is) in subst (λ k. Seals shape s k value) (sym zeroth) seals;
}

-- The opening. -----------------------------------------------------------------------------------

-- the rules hold of a state with the opening words, whatever is announced and entered
opening-holds : (note : NoteWord) (entries : List Entry) (unsealed : List ℕ) (first : ℕ)
    → StateHolds shape (record { words = set opening 0 first; list = 0 ∷ 1 ∷ []; note = note; entries = entries; unsealed = unsealed })
unfolding item_of item_word group_of group_word vertex_of vertex_word
opening-holds note entries unsealed first =
    holds-of _ (inr (refl, omega arith), tt) ((omega arith, omega arith), ((omega arith, omega arith), tt))
    ((λ out. refl), ((λ out. absurd (false≢true (sym out))), ((λ out. absurd (false≢true (sym out))), tt))) (omega arith)

-- the small table is opened rightly
pub opening-opens : IsTableOpening shape opening
unfolding item_of item_word group_of group_word vertex_of vertex_word
opening-opens = record {
  one_each = refl;
  no_note = refl;
  versions = λ word versioned. each-below (λ k. (item_of (slice_index opening k)).version ≡ 0) 8
      (refl, (refl, (refl, (refl, (refl, (refl, (refl, (refl, tt)))))))) word versioned.1;
  vertices = λ v low. let is : v ≡ 0 = omega (arith, low) in ap (λ k. member k (opened shape opening).list) is;
  holds = opening-holds Nothing [] [] 0;
}

-- A put and a take. --------------------------------------------------------------------------------

-- the rules hold where item 2 stands between the items 0 and 1
between-holds : (first : ℕ) (note : NoteWord)
    → StateHolds shape (record { words = set (set opening 3 (item 1 1 15)) 0 first; list = 0 ∷ 2 ∷ 1 ∷ []; note = note; entries = []; unsealed = [] })
unfolding item_of item_word group_of group_word vertex_of vertex_word
between-holds first note =
    holds-of _ (inr (refl, omega arith), (inr (refl, omega arith), tt))
    ((omega arith, omega arith), ((omega arith, omega arith), ((omega arith, omega arith), tt)))
    ((λ out. absurd (false≢true (sym out))), ((λ out. absurd (false≢true (sym out))), ((λ out. absurd (false≢true (sym out))), tt))) (omega arith)

-- item 2 may be put right after item 0
pub one_put-legal : Legal shape opening one_put
unfolding state_of item_of item_word group_of group_word note_of note_word vertex_of vertex_word
one_put-legal =
    let noted : Legal shape opening (note (Put 2 0) ∷ []) =
    legal-push shape opening [] (note (Put 2 0)) (legal-nil shape opening opening-opens)
    (note-may (state_of shape opening []) (Put 2 0) (lit< tt) tt (omega arith, refl, λ e. omega (arith, e), λ low. absurd (omega (arith, low))))
    (opening-holds (Put 2 0) [] [] (note_word (Put 2 0))) in
    legal-push shape opening (note (Put 2 0) ∷ []) (event 3 (item 1 1 15)) noted
    (item-may (state_of shape opening (note (Put 2 0) ∷ [])) 2 (item 1 1 15) (omega arith) (lit< tt) refl refl)
    (between-holds (note_word (Put 2 0)) Nothing)

-- then item 1 may be taken
pub put_and_take-legal : Legal shape opening put_and_take
unfolding state_of item_of item_word group_of group_word note_of note_word vertex_of vertex_word
put_and_take-legal =
    let noted : Legal shape opening (one_put ++ note (Take 1) ∷ []) =
    legal-push shape opening one_put (note (Take 1)) one_put-legal
    (note-may (state_of shape opening one_put) (Take 1) (lit< tt) tt (refl, omega arith))
    (between-holds (note_word (Take 1)) (Take 1)) in
    legal-push shape opening (one_put ++ note (Take 1) ∷ []) (event 2 (item 1 0 0)) noted
    (item-may (state_of shape opening (one_put ++ note (Take 1) ∷ [])) 1 (item 1 0 0) (omega arith) (lit< tt) refl refl)
    (holds-of (state_of shape opening put_and_take) (inr (refl, omega arith), tt) ((omega arith, omega arith), ((omega arith, omega arith), tt))
    ((λ out. absurd (false≢true (sym out))), ((λ out. refl), ((λ out. absurd (false≢true (sym out))), tt))) (omega arith))

-- A section. ---------------------------------------------------------------------------------------

-- the opening words after the stores of a section, of which the word of the note is `first` and that of the vertex is `stamped`
abbrev section_words : ℕ → ℕ → List ℕ
section_words first stamped = set (set (set opening 1 (item 1 1 30)) 8 stamped) 0 first

-- the rules hold where item 0 stands behind item 1
behind-holds : (first stamped : ℕ) (note : NoteWord) (entries : List Entry) (unsealed : List ℕ) → (vertex_of stamped).stamp ≤ 1 + length entries
    → StateHolds shape (record { words = section_words first stamped; list = 1 ∷ 0 ∷ []; note = note; entries = entries; unsealed = unsealed })
unfolding item_of item_word group_of group_word
behind-holds first stamped note entries unsealed stamp =
    holds-of _ (inr (refl, omega arith), tt) ((omega arith, omega arith), ((omega arith, omega arith), tt))
    ((λ out. refl), ((λ out. absurd (false≢true (sym out))), ((λ out. absurd (false≢true (sym out))), tt))) stamp

-- an edge may be entered, and vertex 0 put behind item 1
pub open_section-legal : Legal shape opening open_section
unfolding state_of item_of item_word group_of group_word note_of note_word vertex_of vertex_word
open_section-legal =
    let edge : Entry = record { index = 7; add = true; u = 0; v = 1 } in
    let first = next_index 7 ∷ [] in
    let second = first ++ note (Enter true 0 1) ∷ [] in
    let third = second ++ note (Put 0 1) ∷ [] in
    let indexed : Legal shape opening first =
    legal-push shape opening [] (next_index 7) (legal-nil shape opening opening-opens)
    (word-may (state_of shape opening []) 7 (lit< tt) tt tt) (opening-holds Nothing [] [] 7) in
    let entered : Legal shape opening second =
    legal-push shape opening first (note (Enter true 0 1)) indexed (note-may (state_of shape opening first) (Enter true 0 1) (lit< tt) tt refl)
    (opening-holds (Enter true 0 1) (edge ∷ []) [] (note_word (Enter true 0 1))) in
    let noted : Legal shape opening third =
    legal-push shape opening second (note (Put 0 1)) entered
    (note-may (state_of shape opening second) (Put 0 1) (lit< tt) tt
    (omega arith, refl, λ e. omega (arith, e), λ low. record { inside = omega arith; once = omega arith }))
    (opening-holds (Put 0 1) (edge ∷ []) [] (note_word (Put 0 1))) in
    legal-push shape opening third (event 1 (item 1 1 30)) noted
    (item-may (state_of shape opening third) 0 (item 1 1 30) (omega arith) (lit< tt) refl refl)
    (behind-holds (note_word (Put 0 1)) (vertex 0 0) Nothing (edge ∷ []) (0 ∷ []) (omega arith))

-- then the vertex may be sealed
pub sealed_section-legal : Legal shape opening sealed_section
unfolding state_of item_of item_word group_of group_word note_of note_word vertex_of vertex_word
sealed_section-legal =
    legal-push shape opening open_section (event 8 (vertex 2 1)) open_section-legal
    (vertex-may (state_of shape opening open_section) (vertex 2 1) (lit< tt) tt
    record { inside = omega arith; stamp = refl; later = omega arith; put = refl })
    (behind-holds (note_word (Put 0 1)) (vertex 2 1) Nothing (record { index = 7; add = true; u = 0; v = 1 } ∷ []) [] (omega arith))

-- and then the edge may be taken out
pub two_entries-legal : Legal shape opening two_entries
unfolding state_of item_of item_word group_of group_word note_of note_word vertex_of vertex_word
two_entries-legal =
    let edge : Entry = record { index = 7; add = true; u = 0; v = 1 } in
    let first = sealed_section ++ next_index 8 ∷ [] in
    let indexed : Legal shape opening first =
    legal-push shape opening sealed_section (next_index 8) sealed_section-legal
    (word-may (state_of shape opening sealed_section) 8 (lit< tt) tt tt) (behind-holds 8 (vertex 2 1) Nothing (edge ∷ []) [] (omega arith)) in
    legal-push shape opening first (note (Enter false 0 1)) indexed
    (note-may (state_of shape opening first) (Enter false 0 1) (lit< tt) tt refl)
    (behind-holds (note_word (Enter false 0 1)) (vertex 2 1) (Enter false 0 1)
    (edge ∷ record { index = 8; add = false; u = 0; v = 1 } ∷ []) [] (omega arith))
