-- The list of a vertex as a view tells it, and how much support is found on its front.
use Rattle.std.proofs.Common.{◌≡◌, ◌≢◌, ◌≤◌, ◌<◌, ◌⊎◌, ◌+◌, ℕ, suc, zero, Bool, true, false, cond, not, ◌&&◌, ◌||◌, List, [], ◌∷◌, ◌++◌, take, length}
use Rattle.std.proofs.Common.{get_or, eqb, ltb, leb, sym, ◌∙◌, ap, subst, inl, inr, arith, eqb-true, eq-eqb, ne_eqb}
use Rattle.std.specs.List.{list_any}
use Rattle.std.specs.List.Sorted.{IsStrictlyIncreasing}
use Rattle.std.proofs.Math.Bool.{or-false}
use Rattle.std.proofs.lemmas.Bool.{cases_Bool, cases_eq, cases_lt, false≢true, false_from_ne_true, or_cases, or_left, or_right, and_parts, and_from}
use Rattle.std.proofs.lemmas.Bool.{lt-ltb, le-ltb}
use Rattle.std.proofs.lemmas.List.{take_all}
use Rattle.std.proofs.lemmas.List.Kept.{AllPairs-from_increasing}
use Rattle.kc_lists.specs.Lists.{member, below}
use Rattle.kc_lists.proofs.Members.{member-head, member-tail}
use Rattle.kc_lists.proofs.Counting.{member-get_or, member-other, member-push, take-not_here, one_if}
use Rattle.kc_lists.proofs.Shared.{and-fails, never_falls}
use Rattle.kc_graph.specs.SimpleGraph.{adjacent}
use Rattle.kc_graph.specs.Neighbours.{neighbours_of}
use Rattle.kc_graph.specs.Edges.{without_edge}
use Rattle.kc_graph.specs.Lawful.{Ranked}
use Rattle.kc_graph.specs.declared.update.Update.{Update}
use Rattle.kc_graph.proofs.EdgeChanges.{adjacent-without}
use Rattle.kc_graph.proofs.NeighbourLists.{neighbours_has, neighbours_within}
use Rattle.kc_graph.proofs.RowsLemmas.{Distinct-from_increasing}
use Rattle.kc_cert.specs.Ranks.{rank_in}
use Rattle.kc_cert.proofs.Ordered.{rank-here, rank-other}
use Rattle.kc_cert.proofs.Sums.{count-none}
use Rattle.kc_view.specs.Answers.{has_list, list_of}
use Rattle.kc_view.specs.Lists.{IsListOf}
use Rattle.kc_view.specs.Search.{Search}
use Rattle.kc_view.specs.Views.{Shown, KeepsLists, GoesOn}
use Rattle.kc_view.proofs.Among.{among-one, among-agree}
use Rattle.kc_view.proofs.Keeping.{kept-list, still_has_list, same_list}
use Rattle.kc_remove.specs.Cascade.{found}
use Rattle.kc_remove.specs.Removed.{search_without, is_counted}
use Rattle.kc_graph.specs.Plans.{joins}
use Rattle.kc_remove.specs.Visits.{IsBound, IsSupport, nothing_counted}
use Rattle.kc_remove.proofs.Falls.{take-more}

-- of a neighbour the test with the edge that goes says the same as the test in the graph without it
same_there : (a a' j t : Bool) → a' ≡ (a && not j) → a ≡ true → (not j && t) ≡ (a' && t)
same_there a a' j t e h = grind arith

-- a second test that passes changes no count
kept_one : (a t : Bool) → t ≡ true → one_if (a && t) ≡ one_if a
kept_one a t h = grind arith

-- who stands among the first `n` of a list has a place below `n`
pub rank-taken : (n y : ℕ) (xs : List ℕ) → member y (take n xs) ≡ true → rank_in xs y < n
rank-taken zero y xs m = absurd (false≢true m)
rank-taken (suc n) y [] m = absurd (false≢true m)
rank-taken (suc n) y (x ∷ xs) m = elim (cases_eq y x) [
  | inl e ↦ let z : rank_in (x ∷ xs) y ≡ 0 = ap (λ b. cond b 0 (suc (rank_in xs y))) (eq-eqb y x e) in omega (arith, z)
  | inr ne ↦ omega (arith, rank-other y x xs ne, rank-taken n y xs (member-other y x (take n xs) ne m))
]

-- and who has a place below `n` stands among them
taken-member : (r n : ℕ) (xs : List ℕ) → r < n → r < length xs → member (get_or xs r 0) (take n xs) ≡ true
taken-member r zero xs l k = absurd (omega arith)
taken-member r (suc n) [] l k = absurd (omega arith)
taken-member zero (suc n) (x ∷ xs) l k = member-head x (take n xs)
taken-member (suc r) (suc n) (x ∷ xs) l k = member-tail (get_or xs r 0) x (take n xs) (taken-member r n xs (omega arith) (omega arith))

-- `z` stands at the place `i` of the list of `y`: it is a vertex, and stands on no lower place
pub record StandsAt (size y i z : ℕ) (row : List ℕ) : Type 0 where
  pub list : IsListOf size y row
  pub here : i < length row
  pub at : z ≡ get_or row i 0
  pub on : member z row ≡ true
  pub vertex : z < size
  pub seam : take (i + 1) row ≡ take i row ++ z ∷ []
  pub first : member z (take i row) ≡ false

-- the vertex that a view tells at a place of a list that it told at first stands there
pub listed-stands : (first shown : Shown) (y i : ℕ) (told : List ℕ) → GoesOn first shown → KeepsLists shown → has_list first.kept y ≡ true
    → told ≡ list_of shown.kept y → i < length (list_of first.kept y) → StandsAt shown.size y i (get_or told i 0) (list_of first.kept y)
listed-stands first shown y i told goes lists read is l =
    let row : List ℕ = list_of first.kept y in
    let same : list_of shown.kept y ≡ row = same_list first.kept shown.kept y goes.further read in
    let list : IsListOf shown.size y row =
    subst (λ (xs : List ℕ). IsListOf shown.size y xs) same
    (kept-list shown.size y shown.kept lists (still_has_list first.kept shown.kept y goes.further read)) in
    let at : get_or told i 0 ≡ get_or row i 0 = ap (λ xs. get_or xs i 0) (is ∙ same) in
    let on : member (get_or told i 0) row ≡ true = ap (λ n. member n row) at ∙ member-get_or row i 0 l in
    record {
      list = list;
      here = l;
      at = at;
      on = on;
      vertex = list.within (get_or told i 0) on;
      seam = take-more i row l ∙ ap (λ n. take i row ++ n ∷ []) (sym at);
      first = ap (λ n. member n (take i row)) at ∙ take-not_here i row l (Distinct-from_increasing row list.ascends);
    }

-- of an ascending list just the first `i + 1` are below the number after the last of them
pub bound-next : (i v : ℕ) (row : List ℕ) → IsStrictlyIncreasing row → i < length row → v ≡ get_or row i 0 → IsBound row (i + 1) (v + 1)
bound-next i v row up l at = λ z m.
    let r : ℕ = rank_in row z in
    let h = rank-here z row m in
    let is : get_or row r 0 ≡ z = h.1 in
    elim (cases_lt i r) [
      | inl lt ↦
          let rises : get_or row i 0 < get_or row r 0 = AllPairs-from_increasing row up i r 0 lt h.0 in
          le-ltb z (v + 1) (omega (arith, rises, is, at))
          ∙ sym (false_from_ne_true _ (λ k. let q : r < i + 1 = rank-taken (i + 1) z row k in absurd (omega arith)))
      | inr ge ↦
          let low : get_or row r 0 ≤ get_or row i 0 = never_falls row up r i ge l in
          lt-ltb z (v + 1) (omega (arith, low, is, at))
          ∙ sym (ap (λ k. member k (take (i + 1) row)) (sym is) ∙ taken-member r (i + 1) row (omega (arith, ge)) h.0)
    ]

-- where one more neighbour was looked at, one more is found if it supports `y`
next-found : (q : Search) (gone : List ℕ) (y v : ℕ) (looked more : ℕ → Bool) → v < q.size → looked v ≡ false → more v ≡ true
    → ((z : ℕ) → z < q.size → q.adj y z ≡ true → z ≢ v → more z ≡ looked z)
    → found q more gone y ≡ found q looked gone y + one_if (q.adj y v && (leb q.level (q.core v) && not (member v gone)))
next-found q gone y v looked more l new now same =
    let test : ℕ → Bool = λ z. leb q.level (q.core z) && not (member z gone) in
    let keeps : (z : ℕ) → z < q.size → q.adj y z ≡ true → z ≢ v → (more z && test z) ≡ (looked z && test z) =
    λ z lz a ne. ap (λ b. b && test z) (same z lz a ne) in
    elim (cases_Bool (test v)) [
      | inl t ↦
          let one : found q more gone y ≡ found q looked gone y + one_if (q.adj y v) =
          among-one q y v (λ z. more z && test z) (λ z. looked z && test z) l (ap (λ b. b && test v) new)
          (and_from (more v) (test v) now t) keeps in
          let here : one_if (q.adj y v && test v) ≡ one_if (q.adj y v) = kept_one (q.adj y v) (test v) t in
          omega (arith, one, here)
      | inr n ↦
          let none : one_if (q.adj y v && test v) ≡ 0 = ap one_if (and-fails (q.adj y v) (test v) n) in
          let all : found q more gone y ≡ found q looked gone y =
          among-agree q y (λ z. more z && test z) (λ z. looked z && test z) (λ z lz a. elim (cases_eq z v) [
            | inl e ↦ and-fails (more z) (test z) (ap test e ∙ n) ∙ sym (and-fails (looked z) (test z) (ap test e ∙ n))
            | inr ne ↦ keeps z lz a ne
          ]) in
          omega (arith, all, none)
    ]

-- a neighbour in the graph without the edge stands on the list
left-listed : (update : Update) (s : Ranked) (y z : ℕ) (row : List ℕ) → row ≡ neighbours_of s.graph y → z < s.graph.size
    → adjacent (without_edge s.graph update.u update.v) y z ≡ true → member z row ≡ true
left-listed update s y z row same l a =
    let apart : update.u ≢ update.v = λ e. let lt : update.u < update.v = update.ordered in absurd (omega (arith, e)) in
    let was : adjacent s.graph y z ≡ true =
    (and_parts (adjacent s.graph y z) (not (joins update y z)) (sym (adjacent-without s.graph update.u update.v y z apart) ∙ a)).0 in
    ap (member z) same ∙ (neighbours_has s.graph y z l ∙ was)

-- the next neighbour of the list adds one to what is found just where it counts
look-next : (update : Update) (level : ℕ) (s : Ranked) (gone : List ℕ) (size y i v bound : ℕ) (row : List ℕ) → StandsAt size y i v row
    → row ≡ neighbours_of s.graph y → IsBound row i bound
    → found (search_without update level s) (λ z. ltb z (v + 1)) gone y
    ≡ found (search_without update level s) (λ z. ltb z bound) gone y + one_if (is_counted update level s gone y v)
look-next update level s gone size y i v bound row stands same below =
    let now : ℕ → ℕ → Bool = adjacent (without_edge s.graph update.u update.v) in
    let test : ℕ → Bool = λ z. leb level (get_or s.core z 0) && not (member z gone) in
    let apart : update.u ≢ update.v = λ e. let lt : update.u < update.v = update.ordered in absurd (omega (arith, e)) in
    let is : (v < s.graph.size) × (adjacent s.graph y v ≡ true) = neighbours_within s.graph y v (sym (ap (member v) same) ∙ stands.on) in
    let next : IsBound row (i + 1) (v + 1) = bound-next i v row stands.list.ascends stands.here stands.at in
    let step =
    next-found (search_without update level s) gone y v (λ z. ltb z bound) (λ z. ltb z (v + 1)) is.0 (below v stands.on ∙ stands.first)
    (lt-ltb v (v + 1) (omega arith))
    (λ z lz a ne.
    let m : member z row ≡ true = left-listed update s y z row same lz a in
    next z m ∙ (ap (member z) stands.seam ∙ (member-push z v (take i row)
    ∙ (ap (λ b. member z (take i row) || b) (ne_eqb z v ne) ∙ (or-false (member z (take i row)) ∙ sym (below z m)))))) in
    let counted : (now y v && test v) ≡ is_counted update level s gone y v =
    sym (same_there (adjacent s.graph y v) (now y v) (joins update y v) (test v) (adjacent-without s.graph update.u update.v y v apart) is.1) in
    step ∙ ap (λ b. found (search_without update level s) (λ z. ltb z bound) gone y + one_if b) counted

-- so a count that adds one just there is right with one neighbour more
pub looked-one : (update : Update) (level : ℕ) (s : Ranked) (gone : List ℕ) (size y i v was bound more next : ℕ) (row : List ℕ) (counts : Bool)
    → StandsAt size y i v row → row ≡ neighbours_of s.graph y → IsBound row i bound → next ≡ v
    → was ≡ found (search_without update level s) (λ z. ltb z bound) gone y → counts ≡ is_counted update level s gone y v
    → (counts ≡ true) × (more ≡ was + 1) ⊎ (counts ≡ false) × (more ≡ was)
    → more ≡ found (search_without update level s) (λ z. ltb z (next + 1)) gone y
looked-one update level s gone size y i v was bound more next row counts stands same below to found_so is adds =
    let one_more = look-next update level s gone size y i v bound row stands same below in
    let moved : found (search_without update level s) (λ z. ltb z (next + 1)) gone y ≡ found (search_without update level s) (λ z. ltb z (v + 1)) gone y =
    ap (λ n. found (search_without update level s) (λ z. ltb z (n + 1)) gone y) to in
    elim adds [
      | inl (t, grown) ↦
          let one : one_if (is_counted update level s gone y v) ≡ 1 = ap one_if (sym is ∙ t) in
          omega (arith, found_so, one_more, moved, one, grown)
      | inr (f, same_sum) ↦
          let none : one_if (is_counted update level s gone y v) ≡ 0 = ap one_if (sym is ∙ f) in
          omega (arith, found_so, one_more, moved, none, same_sum)
    ]

-- once the list is at its end each neighbour was looked at
pub looked-all : (update : Update) (s : Ranked) (y looked bound : ℕ) (row : List ℕ) → row ≡ neighbours_of s.graph y → IsBound row looked bound
    → length row ≤ looked → (z : ℕ) → z < s.graph.size → adjacent (without_edge s.graph update.u update.v) y z ≡ true → ltb z bound ≡ true
looked-all update s y looked bound row same below le z l a =
    let m : member z row ≡ true = left-listed update s y z row same l a in
    below z m ∙ (ap (member z) (take_all looked row le) ∙ m)

-- before any neighbour was looked at none is below the bound
pub none-looked : (row : List ℕ) → IsBound row 0 0
none-looked row z m = le-ltb z 0 (omega arith)

-- and no support is found
pub none-found : (update : Update) (level : ℕ) (s : Ranked) (gone : List ℕ) (y : ℕ) → IsSupport update level s gone y nothing_counted
none-found update level s gone y =
    let test : ℕ → Bool = λ z. leb level (get_or s.core z 0) && not (member z gone) in
    let now : ℕ → Bool = adjacent (without_edge s.graph update.u update.v) y in
    sym (count-none (λ z. now z && (ltb z 0 && test z)) (below s.graph.size)
    (λ z m. and-fails (now z) (ltb z 0 && test z) (ap (λ b. b && test z) (le-ltb z 0 (omega arith)))))

-- a test that one member passes is passed by some member
pub some-any : (p : ℕ → Bool) (x : ℕ) (xs : List ℕ) → member x xs ≡ true → p x ≡ true → list_any p xs ≡ true
some-any p x [] m t = absurd (false≢true m)
some-any p x (y ∷ ys) m t = elim (or_cases (eqb x y) (member x ys) m) [
  | inl e ↦ or_left (p y) (list_any p ys) (ap p (sym (eqb-true x y e)) ∙ t)
  | inr k ↦ or_right (p y) (list_any p ys) (some-any p x ys k t)
]
