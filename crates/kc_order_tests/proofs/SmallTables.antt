-- The tables of the tests open rightly, and their stores keep the logs legal.
use Rattle.std.proofs.Common.{◌≡◌, ◌<◌, ◌≤◌, ◌+◌, ◌*◌, ◌/◌, ℕ, suc, zero, true, false, List, [], ◌∷◌, ◌++◌, refl, sym, ◌∙◌, ap, subst, arith, inl, inr, get_or}
use Rattle.std.proofs.lemmas.Bool.{false≢true, true≢false}
use Rattle.kc_lists.specs.Lists.{member}
use Rattle.kc_lists.proofs.Members.{member-cases}
use Rattle.kc_words.specs.ItemWord.{item_of, item_word}
use Rattle.kc_words.specs.GroupWord.{group_of, group_word}
use Rattle.kc_words.specs.VertexWord.{vertex_of}
use Rattle.kc_words.specs.NoteWord.{note_of, note_word}
use Rattle.kc_words.specs.Order.{Ordered}
use Rattle.kc_words.specs.declared.layout.TheConstants.{ITEMS, LAST_VERSION, BOTTOM_ROOM, TOP_ROOM}
use Rattle.kc_words.specs.declared.shape.Shape.{Shape}
use Rattle.std.proofs.Math.Bridge.{le_prop}
use Rattle.kc_words.specs.declared.note.NoteWord.TheVariants.{Nothing, Put}
use Rattle.kc_table.specs.declared.view.Event.{Event}
use Rattle.kc_table.specs.Log.{event, Seen}
use Rattle.kc_table.specs.TableState.{TableState, after_store, state_of}
use Rattle.kc_table.specs.Legal.{Legal, IsTableOpening, StateHolds, MayStore, IsVersioned, version_of}
use Rattle.kc_table.specs.Samples.{item, group, note, pair_shape, pair_opening, pair_put}
use Rattle.kc_order_tests.specs.Lone.{lone_shape, lone_group, lone_words}
use Rattle.kc_table.proofs.LegalLogs.{legal-nil, legal-push, state_of-nil, state_of-push}

-- the words of the table of two items with this note and this word of item 1
abbrev pair_words : ℕ → ℕ → List ℕ
pair_words n second = n ∷ item 0 1 (BOTTOM_ROOM / 2) ∷ second ∷ group 0 (TOP_ROOM / 2) ∷ group 0 0 ∷ group 0 0 ∷ []

-- the word of item 1 once it is put right after item 0
abbrev pub second_put : ℕ
second_put = item 1 1 (BOTTOM_ROOM / 4 * 3)

-- each item's and each group's word of the table of two items opens with version 0
pair_versions : (word : ℕ) → IsVersioned pair_shape word → version_of (get_or pair_opening word 0) ≡ 0
unfolding item_of item_word group_of group_word
pair_versions zero h = absurd (omega (arith, h.0))
pair_versions (suc zero) h = refl
pair_versions (suc (suc zero)) h = refl
pair_versions (suc (suc (suc zero))) h = refl
pair_versions (suc (suc (suc (suc zero)))) h = refl
pair_versions (suc (suc (suc (suc (suc zero))))) h = refl
pair_versions (suc (suc (suc (suc (suc (suc w)))))) h = absurd (omega (arith, h.1))

-- an item from 1 on is not in the list 0
others_out : (x : ℕ) → member (suc x) (0 ∷ []) ≡ true → ⊥
others_out x m = elim (member-cases (suc x) 0 [] m) [ inl e ↦ omega (arith, e) | inr k ↦ false≢true k ]

-- an item from 2 on is not in the list 0, 1
thirds_out : (x : ℕ) → member (suc (suc x)) (0 ∷ 1 ∷ []) ≡ true → ⊥
thirds_out x m = elim (member-cases (suc (suc x)) 0 (1 ∷ []) m) [
  | inl e ↦ omega (arith, e)
  | inr k ↦ elim (member-cases (suc (suc x)) 1 [] k) [ inl e ↦ omega (arith, e) | inr n ↦ false≢true n ]
]

-- the table of two items opens with its list in order, whatever the note is
pair_ordered : (n : ℕ) → Ordered 2 (pair_words n (item 0 0 0)) (0 ∷ [])
unfolding item_of item_word group_of group_word
pair_ordered n = record { pairs = tt; inside = inside; outside = outside }
  where
    inside : (x : ℕ) → member x (0 ∷ []) ≡ true
        → (0 < (item_of (get_or (pair_words n (item 0 0 0)) (1 + x) 0)).group)
        × ((item_of (get_or (pair_words n (item 0 0 0)) (1 + x) 0)).group ≤ 3)
    inside zero m = (omega arith, omega arith)
    inside (suc x) m = absurd (others_out x m)

    outside : (x : ℕ) → x < 2 → member x (0 ∷ []) ≡ false → (item_of (get_or (pair_words n (item 0 0 0)) (1 + x) 0)).group ≡ 0
    outside zero l m = absurd (true≢false m)
    outside (suc zero) l m = refl
    outside (suc (suc x)) l m = absurd (omega (arith, l))

-- the table of two items opens rightly
pub pair_opens : IsTableOpening pair_shape pair_opening
unfolding item_of item_word group_of group_word
pair_opens = record {
  one_each = refl;
  no_note = refl;
  versions = pair_versions;
  vertices = λ v l. absurd (omega (arith, l));
  holds = record { ordered = pair_ordered 0; stamps = λ v l. absurd (omega (arith, l)) };
}

-- the note that puts item 1 after item 0 may be its first store
pub pair_first : Legal pair_shape pair_opening (note (Put 1 0) ∷ [])
unfolding state_of item_of item_word note_of note_word group_of group_word vertex_of
pair_first =
    let may : MayStore pair_shape (state_of pair_shape pair_opening []) (note (Put 1 0)) = record {
      there = omega arith;
      fits = omega arith;
      follows = tt;
      note = λ _. (omega arith, refl, λ e. omega (arith, e), λ l. absurd (omega (arith, l)));
      fresh = λ v. absurd (omega (arith, v.0));
      seals = λ v e. absurd (omega (arith, e));
    } in
    legal-push pair_shape pair_opening [] (note (Put 1 0)) (legal-nil pair_shape pair_opening pair_opens) may record
    { ordered = pair_ordered (note_word (Put 1 0)); stamps = λ v l. absurd (omega (arith, l)) }

-- with both stores made the list 0, 1 is in order
pair_put-ordered : Ordered 2 (pair_words (note_word (Put 1 0)) second_put) (0 ∷ 1 ∷ [])
unfolding item_of item_word group_of group_word
pair_put-ordered = record { pairs = (inr (refl, omega arith), tt); inside = inside; outside = outside }
  where
    inside : (x : ℕ) → member x (0 ∷ 1 ∷ []) ≡ true
        → (0 < (item_of (get_or (pair_words (note_word (Put 1 0)) second_put) (1 + x) 0)).group)
        × ((item_of (get_or (pair_words (note_word (Put 1 0)) second_put) (1 + x) 0)).group ≤ 3)
    inside zero m = (omega arith, omega arith)
    inside (suc zero) m = (omega arith, omega arith)
    inside (suc (suc x)) m = absurd (thirds_out x m)

    outside : (x : ℕ) → x < 2 → member x (0 ∷ 1 ∷ []) ≡ false → (item_of (get_or (pair_words (note_word (Put 1 0)) second_put) (1 + x) 0)).group ≡ 0
    outside zero l m = absurd (true≢false m)
    outside (suc zero) l m = absurd (true≢false m)
    outside (suc (suc x)) l m = absurd (omega (arith, l))

-- item 1's word may be stored after the note that puts it
pub pair_second : Legal pair_shape pair_opening pair_put
unfolding state_of item_of item_word note_of note_word group_of group_word vertex_of
pair_second =
    let may : MayStore pair_shape (state_of pair_shape pair_opening (note (Put 1 0) ∷ [])) (event 2 second_put) = record {
      there = omega arith;
      fits = omega arith;
      follows = refl;
      note = λ e. absurd (omega (arith, e));
      fresh = λ v. refl;
      seals = λ v e. absurd (omega (arith, e));
    } in
    legal-push pair_shape pair_opening (note (Put 1 0) ∷ []) (event 2 second_put) pair_first may record
    { ordered = pair_put-ordered; stamps = λ v l. absurd (omega (arith, l)) }

-- the table of one item has its list in order, whatever version the group's word has
lone_ordered : (version : ℕ) → Ordered 1 (lone_words version) (0 ∷ [])
unfolding item_of item_word group_of group_word
lone_ordered version = record { pairs = tt; inside = inside; outside = outside }
  where
    inside : (x : ℕ) → member x (0 ∷ []) ≡ true
        → (0 < (item_of (get_or (lone_words version) (1 + x) 0)).group) × ((item_of (get_or (lone_words version) (1 + x) 0)).group ≤ 2)
    inside zero m = (omega arith, omega arith)
    inside (suc x) m = absurd (others_out x m)

    outside : (x : ℕ) → x < 1 → member x (0 ∷ []) ≡ false → (item_of (get_or (lone_words version) (1 + x) 0)).group ≡ 0
    outside zero l m = absurd (true≢false m)
    outside (suc x) l m = absurd (omega (arith, l))

-- each item's and each group's word of the table of one item opens with version 0
lone_versions : (word : ℕ) → IsVersioned lone_shape word → version_of (get_or (lone_words 0) word 0) ≡ 0
unfolding item_of item_word group_of group_word
lone_versions zero h = absurd (omega (arith, h.0))
lone_versions (suc zero) h = refl
lone_versions (suc (suc zero)) h = refl
lone_versions (suc (suc (suc zero))) h = refl
lone_versions (suc (suc (suc (suc w)))) h = absurd (omega (arith, h.1))

-- the table of one item opens rightly
pub lone_opens : IsTableOpening lone_shape (lone_words 0)
unfolding item_of item_word group_of group_word
lone_opens = record {
  one_each = refl;
  no_note = refl;
  versions = lone_versions;
  vertices = λ v l. absurd (omega (arith, l));
  holds = record { ordered = lone_ordered 0; stamps = λ v l. absurd (omega (arith, l)) };
}

-- a legal log that stored the group's word `version` times, and nothing else
pub record Stored (version : ℕ) (log : List Event) : Type 0 where
  pub legal : Legal lone_shape (lone_words 0) log
  pub state : state_of lone_shape (lone_words 0) log ≡ record { words = lone_words version; list = 0 ∷ []; note = Nothing; entries = []; unsealed = [] }

-- the empty log has stored the group's word no times
pub stored-none : Stored 0 []
unfolding item_of item_word group_of group_word
stored-none = record { legal = legal-nil lone_shape (lone_words 0) lone_opens; state = state_of-nil lone_shape (lone_words 0) }

-- below the last version the group's word may be stored once more
pub stored-more : (version : ℕ) (log : List Event) → version < LAST_VERSION → Stored version log
    → Stored (version + 1) (log ++ event 2 (lone_group (version + 1)) ∷ [])
unfolding item_of item_word group_of group_word
stored-more version log few h =
    let e = event 2 (lone_group (version + 1)) in
    let now : TableState = record { words = lone_words version; list = 0 ∷ []; note = Nothing; entries = []; unsealed = [] } in
    let may : MayStore lone_shape now e = record {
      there = omega arith;
      fits = omega arith;
      follows = tt;
      note = λ k. absurd (omega (arith, k));
      fresh = λ v. omega arith;
      seals = λ v k. absurd (omega (arith, k));
    } in
    let next : state_of lone_shape (lone_words 0) (log ++ e ∷ []) ≡ after_store lone_shape now e =
    state_of-push lone_shape (lone_words 0) log e ∙ ap (λ s. after_store lone_shape s e) h.state in
    record {
      legal = legal-push lone_shape (lone_words 0) log e h.legal (subst (λ s. MayStore lone_shape s e) (sym h.state) may)
          (subst (λ s. StateHolds lone_shape (after_store lone_shape s e)) (sym h.state) record
          { ordered = lone_ordered (version + 1); stamps = λ v l. absurd (omega (arith, l)) });
      state = next;
    }

-- a shape with the numbers of the table of two items is its shape
pub pair_is : (a : 1 ≤ 2) (b : 2 ≤ ITEMS) (c : 0 ≤ 2) (d : 0 ≤ LAST_VERSION)
    → ◌≡◌ {A = Shape} (record { items = 2; fixed = 0; base = 0; version = 0; some_items = a; few_items = b; fixed_in = c; version_in = d }) pair_shape
pair_is a b c d i =
    record {
      items = 2;
      fixed = 0;
      base = 0;
      version = 0;
      some_items = le_prop a pair_shape.some_items i;
      few_items = le_prop b pair_shape.few_items i;
      fixed_in = le_prop c pair_shape.fixed_in i;
      version_in = le_prop d pair_shape.version_in i;
    }

-- a shape with the numbers of the table of one item is its shape
pub lone_is : (a : 1 ≤ 1) (b : 1 ≤ ITEMS) (c : 0 ≤ 1) (d : 0 ≤ LAST_VERSION)
    → ◌≡◌ {A = Shape} (record { items = 1; fixed = 0; base = 0; version = 0; some_items = a; few_items = b; fixed_in = c; version_in = d }) lone_shape
lone_is a b c d i =
    record {
      items = 1;
      fixed = 0;
      base = 0;
      version = 0;
      some_items = le_prop a lone_shape.some_items i;
      few_items = le_prop b lone_shape.few_items i;
      fixed_in = le_prop c lone_shape.fixed_in i;
      version_in = le_prop d lone_shape.version_in i;
    }

-- a log of a table that is one of the samples
pub legal_at : (seen : Seen) (e : Event) (shape : Shape) (opening : List ℕ) (log : List Event) → seen.table.shape ≡ shape
    → seen.table.opening ≡ opening → seen.log ≡ log → Legal shape opening (log ++ e ∷ [])
    → Legal seen.table.shape seen.table.opening (seen.log ++ e ∷ [])
legal_at seen e shape opening log s o l h =
    subst (λ (x : Shape × (List ℕ × List Event)). Legal x.0 x.1.0 (x.1.1 ++ e ∷ [])) (λ i. (sym s i, (sym o i, sym l i))) h
