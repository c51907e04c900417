-- The marks of a memo: where the answers of a vertex are kept.
use Rattle.std.proofs.Common.{◌≡◌, ◌≤◌, ◌<◌, ℕ, zero, suc, true, false, cond, List, [], ◌∷◌, ◌++◌, length, get_or, map, set}
use Rattle.std.proofs.Common.{◌^◌, take, drop, refl, sym, ◌∙◌, ap, subst, inl, inr, arith, eqb, eqb-true, length-append, length-set}
use Rattle.std.specs.Prelude.{All, Option, Some, is_some}
use Rattle.std.proofs.lemmas.Bool.{cases_Bool, cases_eq, false≢true, or_cases, true≢false}
use Rattle.std.proofs.lemmas.List.{get_or-set_same, get_or-set_other, get_or_append_left, get_or_push, append-nil, drop_all, length-map, map-append}
use Rattle.std.proofs.lemmas.List.{take_all}
use Rattle.std.proofs.lemmas.List.Elements.{All-push}
use Rattle.kc_lists.specs.Lists.{Distinct, member}
use Rattle.kc_lists.proofs.Counting.{Distinct-push}
use Rattle.kc_lists.proofs.Members.{below_bound}
use Rattle.kc_graph.specs.declared.used.UsedEdges.{UsedEdges}
use Rattle.kc_graph.specs.declared.used.UsedPlace.{UsedPlace}
use Rattle.kc_view.specs.Answers.{Answers, nothing_answered, list_in, core_in, has_list, has_core, with_list, with_place}
use Rattle.kc_view.specs.Lists.{AreLists, IsListOf}
use Rattle.kc_view.specs.Marks.{AreClear, Marks, told_at}
use Rattle.kc_view.specs.Memory.{Memory, keeping}
use Rattle.kc_view.proofs.Handing.{lists-push}
use Rattle.kc_view.proofs.Keeping.{no-lists}
use Rattle.kc_view.proofs.Lookups.{AnswerKind, list_answers, core_answers, found-new, found-other, found-member}

-- a vertex of which something was kept is a number below that of all vertices
vertices-below : {X : Type 0} (vertex : X → ℕ) (n : ℕ) (xs : List X) → All (λ x. vertex x < n) xs → (w : ℕ) → member w (map vertex xs) ≡ true → w < n
vertices-below vertex n [] h w m = absurd (false≢true m)
vertices-below vertex n (x ∷ xs) h w m = elim (or_cases (eqb w (vertex x)) (member w (map vertex xs)) m) [
  | inl e ↦ omega (arith, eqb-true w (vertex x) e, h 0 x (omega arith))
  | inr k ↦ vertices-below vertex n xs (λ i d l. h (suc i) d (omega arith)) w k
]

-- The marks of one kind of answers: for each vertex the place of what was kept of it, or 0. Nothing was kept twice, and all of it is of
-- vertices.
record Places (X A : Type 0) (k : AnswerKind X A) (size : ℕ) (xs : List X) (marks : List ℕ) : Type 0 where
  long : length marks ≡ size
  within : (w : ℕ) → w < size → get_or marks w 0 ≤ length xs
  finds : (w : ℕ) → w < size → told_at k.tells k.nothing xs (get_or marks w 0) ≡ k.found w xs
  once : Distinct (map k.vertex xs)
  below : All (λ x. k.vertex x < size) xs

module _ {X A : Type 0} (k : AnswerKind X A) where
  -- what stands at a place, counted from 1
  abbrev at : List X → ℕ → Option A
  at xs place = told_at k.tells k.nothing xs place

  -- it stays with more kept behind
  at-front : (xs ys : List X) (m : ℕ) → m ≤ length xs → at (xs ++ ys) m ≡ at xs m
  at-front xs ys zero l = refl
  at-front xs ys (suc i) l = ap (λ (x : X). Some (k.tells x)) (get_or_append_left xs ys k.nothing i (omega arith))

  -- what was pushed stands at the last place
  at-last : (xs : List X) (x : X) (m : ℕ) → m ≡ length (xs ++ x ∷ []) → at (xs ++ x ∷ []) m ≡ Some (k.tells x)
  at-last xs x m last =
      let same : m ≡ suc (length xs) = omega (arith, last, length-append xs (x ∷ [])) in
      subst (λ (n : ℕ). at (xs ++ x ∷ []) n ≡ Some (k.tells x)) (sym same)
      (ap (λ (y : X). Some (k.tells y)) (get_or_push xs x k.nothing (length xs) refl))

  -- where nothing stands at a place, it is 0
  at-zero : (xs : List X) (m : ℕ) → is_some (at xs m) ≡ false → m ≡ 0
  at-zero xs zero h = refl
  at-zero xs (suc i) h = absurd (true≢false h)

  -- where nothing was kept, clear marks are right
  places-none : {size : ℕ} (marks : List ℕ) → AreClear size marks → Places X A k size [] marks
  places-none marks clear = record {
    long = clear.one_each;
    within = λ w l. omega (arith, clear.clear w l);
    finds = λ w l. ap (at []) (clear.clear w l) ∙ sym (k.found-none w);
    once = tt;
    below = λ i d l. absurd (omega arith);
  }

  module _ {size : ℕ} {xs : List X} {marks : List ℕ} (is : Places X A k size xs marks) where
    -- The mark of the vertex of what is pushed is its place: there it is found, and the rest where it was.
    places-push : (x : X) (mark : ℕ) → k.vertex x < size → is_some (k.found (k.vertex x) xs) ≡ false → mark ≡ length (xs ++ x ∷ [])
        → Places X A k size (xs ++ x ∷ []) (set marks (k.vertex x) mark)
    places-push x mark here none last =
        let v : ℕ = k.vertex x in
        let more : List X = xs ++ x ∷ [] in
        let now : List ℕ = set marks v mark in
        let set-here : get_or now v 0 ≡ mark = get_or-set_same marks v mark 0 (omega (arith, is.long, here)) in
        record {
          long = length-set marks v mark ∙ is.long;
          within = λ w l. elim (cases_eq w v) [
            | inl same ↦ omega (arith, ap (λ n. get_or now n 0) same, set-here, last)
            | inr other ↦ omega (arith, get_or-set_other marks v w mark 0 other, is.within w l, length-append xs (x ∷ []))
          ];
          finds = λ w l. elim (cases_eq w v) [
            | inl same ↦
                ap (at more) (ap (λ n. get_or now n 0) same ∙ set-here)
                ∙ (at-last xs x mark last ∙ (sym (found-new k xs x none) ∙ ap (λ n. k.found n more) (sym same)))
            | inr other ↦
                ap (at more) (get_or-set_other marks v w mark 0 other)
                ∙ (at-front xs (x ∷ []) (get_or marks w 0) (is.within w l) ∙ (is.finds w l ∙ sym (found-other k w xs x other)))
          ];
          once =
              subst Distinct (sym (map-append k.vertex xs (x ∷ [])))
              (Distinct-push (map k.vertex xs) v is.once (found-member k v xs ∙ none));
          below = All-push (λ y. k.vertex y < size) xs x is.below here;
        }

    -- all marks go
    places-clear_all : size < 2 ^ 32 → (now : List ℕ) → length now ≡ length marks
        → ((w : ℕ) → get_or now w 0 ≡ cond (is_some (k.found w xs)) 0 (get_or marks w 0)) → AreClear size now
    places-clear_all few now long gone = record {
      few = few;
      one_each = long ∙ is.long;
      clear = λ w l. elim (cases_Bool (is_some (k.found w xs))) [
        | inl t ↦ gone w ∙ ap (λ b. cond b 0 (get_or marks w 0)) t
        | inr f ↦ gone w ∙ (ap (λ b. cond b 0 (get_or marks w 0)) f ∙ at-zero xs (get_or marks w 0) (ap is_some (is.finds w l) ∙ f))
      ];
    }

    -- no more was kept than there are vertices
    places-few : length xs ≤ size
    places-few = omega (arith, below_bound size (map k.vertex xs) is.once (vertices-below k.vertex size xs is.below), length-map xs k.vertex)

-- the marks of lists
abbrev ListPlaces : ℕ → List UsedEdges → List ℕ → Type 0
ListPlaces size xs marks = Places UsedEdges (List ℕ) list_answers size xs marks

-- the marks of core numbers
abbrev CorePlaces : ℕ → List UsedPlace → List ℕ → Type 0
CorePlaces size xs marks = Places UsedPlace ℕ core_answers size xs marks

-- both together, and what the lists are
marks-of : (m : Memory) (listed placed : List ℕ) → m.size < 2 ^ 32 → ListPlaces m.size m.kept.edges listed → CorePlaces m.size m.kept.places placed
    → AreLists m.size m.kept.edges → Marks m listed placed
marks-of m listed placed few lists cores are_lists = record {
  few = few;
  lists_long = lists.long;
  places_long = cores.long;
  lists_in = lists.within;
  places_in = cores.within;
  lists = lists.finds;
  places = cores.finds;
  lists_once = lists.once;
  places_once = cores.once;
  lists_below = lists.below;
  places_below = cores.below;
  are_lists = are_lists;
}

-- How an answer more is marked. What is marked is the memory `m`, whose marks are `listed` and `placed`.
module _ (m : Memory) (listed placed : List ℕ) (is : Marks m listed placed) where
  -- the marks of lists among all marks
  of-lists : ListPlaces m.size m.kept.edges listed
  of-lists = record { long = is.lists_long; within = is.lists_in; finds = is.lists; once = is.lists_once; below = is.lists_below }

  -- the marks of core numbers among all marks
  of-cores : CorePlaces m.size m.kept.places placed
  of-cores = record { long = is.places_long; within = is.places_in; finds = is.places; once = is.places_once; below = is.places_below }

  -- a list more, with its mark
  pub mark-list : (e : UsedEdges) (mark : ℕ) → e.vertex < m.size → has_list m.kept e.vertex ≡ false → IsListOf m.size e.vertex e.neighbours
      → mark ≡ length (m.kept.edges ++ e ∷ []) → Marks (keeping m.size (with_list m.kept e)) (set listed e.vertex mark) placed
  mark-list e mark here none list last =
      marks-of (keeping m.size (with_list m.kept e)) (set listed e.vertex mark) placed is.few (places-push list_answers of-lists e mark here none last)
      of-cores (lists-push m.size m.kept.edges e is.are_lists list)

  -- a core number more
  pub mark-place : (p : UsedPlace) (mark : ℕ) → p.vertex < m.size → has_core m.kept p.vertex ≡ false → mark ≡ length (m.kept.places ++ p ∷ [])
      → Marks (keeping m.size (with_place m.kept p)) listed (set placed p.vertex mark)
  mark-place p mark here none last =
      marks-of (keeping m.size (with_place m.kept p)) listed (set placed p.vertex mark) is.few of-lists
      (places-push core_answers of-cores p mark here none last) is.are_lists

  -- all marks of lists go
  pub lists-clear : (now : List ℕ) → length now ≡ length listed
      → ((w : ℕ) → get_or now w 0 ≡ cond (is_some (list_in w m.kept.edges)) 0 (get_or listed w 0)) → AreClear m.size now
  lists-clear now long gone = places-clear_all list_answers of-lists is.few now long gone

  -- all marks of core numbers go
  pub places-clear : (now : List ℕ) → length now ≡ length placed
      → ((w : ℕ) → get_or now w 0 ≡ cond (is_some (core_in w m.kept.places)) 0 (get_or placed w 0)) → AreClear m.size now
  places-clear now long gone = places-clear_all core_answers of-cores is.few now long gone

  -- No more lists were kept than there are vertices.
  pub few-lists : length m.kept.edges ≤ m.size
  few-lists = places-few list_answers of-lists

  -- no more core numbers were kept than there are vertices
  pub few-places : length m.kept.places ≤ m.size
  few-places = places-few core_answers of-cores

-- So it is where contracts see the memory as `seen`, and the longer list is the one that a push made.
pub marked-list : (m seen : Memory) (listed placed : List ℕ) (e : UsedEdges) (mark : ℕ) (edges : List UsedEdges) → m ≡ seen → Marks m listed placed
    → e.vertex < seen.size → has_list seen.kept e.vertex ≡ false → IsListOf seen.size e.vertex e.neighbours
    → edges ≡ m.kept.edges ++ e ∷ [] → mark ≡ length edges
    → Marks (keeping (length (set listed e.vertex mark)) (record { edges = edges; places = m.kept.places; orders = m.kept.orders }))
    (set listed e.vertex mark) placed
marked-list m seen listed placed e mark edges same is here none list more size =
    let now : Marks (keeping m.size (with_list m.kept e)) (set listed e.vertex mark) placed =
    mark-list m listed placed is e mark (omega (arith, ap (λ (x : Memory). x.size) same, here)) (ap (λ (x : Memory). has_list x.kept e.vertex) same ∙ none)
    (subst (λ (x : Memory). IsListOf x.size e.vertex e.neighbours) (sym same) list) (size ∙ ap (length {A = UsedEdges}) more) in
    let long : m.size ≡ length (set listed e.vertex mark) = sym (length-set listed e.vertex mark ∙ is.lists_long) in
    subst (λ (n : ℕ). Marks (keeping n (record { edges = edges; places = m.kept.places; orders = m.kept.orders })) (set listed e.vertex mark) placed) long
    (subst (λ (es : List UsedEdges). Marks (keeping m.size (record {
      edges = es;
      places = m.kept.places;
      orders =
          m.kept.orders;
    })) (set listed e.vertex mark) placed)
    (sym more) now)

-- so it is too where the longer list of core numbers is the one that a push made
pub marked-place : (m seen : Memory) (listed placed : List ℕ) (p : UsedPlace) (mark : ℕ) (places : List UsedPlace) → m ≡ seen → Marks m listed placed
    → p.vertex < seen.size → has_core seen.kept p.vertex ≡ false → places ≡ m.kept.places ++ p ∷ [] → mark ≡ length places
    → Marks (keeping m.size (record { edges = m.kept.edges; places = places; orders = m.kept.orders })) listed (set placed p.vertex mark)
marked-place m seen listed placed p mark places same is here none more size =
    let now : Marks (keeping m.size (with_place m.kept p)) listed (set placed p.vertex mark) =
    mark-place m listed placed is p mark (omega (arith, ap (λ (x : Memory). x.size) same, here)) (ap (λ (x : Memory). has_core x.kept p.vertex) same ∙ none)
    (size ∙ ap (length {A = UsedPlace}) more) in
    subst
    (λ (ps : List UsedPlace).
    Marks (keeping m.size (record { edges = m.kept.edges; places = ps; orders = m.kept.orders })) listed (set placed p.vertex mark))
    (sym more) now

-- A list more can still be counted.
pub few-with-list : (m seen : Memory) (listed placed : List ℕ) (e : UsedEdges) → m ≡ seen → Marks m listed placed → e.vertex < seen.size
    → has_list seen.kept e.vertex ≡ false → IsListOf seen.size e.vertex e.neighbours → length (m.kept.edges ++ e ∷ []) ≤ m.size
few-with-list m seen listed placed e same is here none list =
    few-lists (keeping m.size (with_list m.kept e)) (set listed e.vertex (length (m.kept.edges ++ e ∷ []))) placed
    (mark-list m listed placed is e (length (m.kept.edges ++ e ∷ [])) (omega (arith, ap (λ (x : Memory). x.size) same, here))
    (ap (λ (x : Memory). has_list x.kept e.vertex) same ∙ none) (subst (λ (x : Memory). IsListOf x.size e.vertex e.neighbours) (sym same) list) refl)

-- a core number more can still be counted
pub few-with-place : (m seen : Memory) (listed placed : List ℕ) (p : UsedPlace) → m ≡ seen → Marks m listed placed → p.vertex < seen.size
    → has_core seen.kept p.vertex ≡ false → length (m.kept.places ++ p ∷ []) ≤ m.size
few-with-place m seen listed placed p same is here none =
    few-places (keeping m.size (with_place m.kept p)) listed (set placed p.vertex (length (m.kept.places ++ p ∷ [])))
    (mark-place m listed placed is p (length (m.kept.places ++ p ∷ [])) (omega (arith, ap (λ (x : Memory). x.size) same, here))
    (ap (λ (x : Memory). has_core x.kept p.vertex) same ∙ none) refl)

-- no marks, where nothing was kept
pub no-marks : (size : ℕ) (listed placed : List ℕ) → AreClear size listed → AreClear size placed → Marks (keeping size nothing_answered) listed placed
no-marks size listed placed l p =
    marks-of (keeping size nothing_answered) listed placed l.few (places-none list_answers listed l) (places-none core_answers placed p) (no-lists size)

-- Clear marks are those of a memory that keeps nothing.
pub fresh-marks : (size : ℕ) (listed placed : List ℕ) (a : Answers) → a ≡ nothing_answered → AreClear size listed → AreClear size placed
    → Marks (keeping (length listed) a) listed placed
fresh-marks size listed placed a none l p =
    subst (λ (n : ℕ). Marks (keeping n a) listed placed) (sym l.one_each)
    (subst (λ (x : Answers). Marks (keeping size x) listed placed) (sym none) (no-marks size listed placed l p))

-- a whole list that was written over
pub list-overwritten : (n : ℕ) (old new : List ℕ) → n ≡ length old → length new ≡ length old → take n (new ++ drop (length new) old) ≡ new
list-overwritten n old new e l =
    ap (λ (ys : List ℕ). take n (new ++ ys)) (drop_all (length new) old (omega (arith, l)))
    ∙ (ap (take n) (append-nil new) ∙ take_all n new (omega (arith, e, l)))
