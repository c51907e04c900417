-- The steps of the code are steps of the search for the vertices that fall.
use Rattle.std.proofs.Common.{◌≡◌, ◌≢◌, ◌≤◌, ◌<◌, ◌+◌, ◌-◌, ℕ, Bool, true, false, cond, not, ◌&&◌, ◌||◌, List, [], ◌∷◌, ◌++◌, length, take}
use Rattle.std.proofs.Common.{get_or, eqb, ltb, refl, sym, ◌∙◌, ap, subst, inl, inr, arith, ltb-true, ne_eqb, eq-eqb}
use Rattle.std.specs.Prelude.{Option, Some, is_some}
use Rattle.std.proofs.lemmas.Bool.{cases_Bool, cases_eq, and_parts, and_from, or_right}
use Rattle.std.proofs.Math.Bool.{or-false}
use Rattle.kc_lists.specs.Lists.{member}
use Rattle.kc_lists.proofs.Counting.{member-push, member-get_or, one_if}
use Rattle.kc_lists.proofs.Shared.{and-fails}
use Rattle.kc_marks.specs.Maps.{value_of}
use Rattle.kc_graph.specs.SimpleGraph.{adjacent}
use Rattle.kc_graph.specs.Edges.{without_edge}
use Rattle.kc_graph.specs.Neighbours.{neighbours_of}
use Rattle.kc_graph.specs.Lawful.{Ranked}
use Rattle.kc_graph.specs.declared.update.Update.{Update}
use Rattle.kc_graph.proofs.EdgeChanges.{adjacent-without}
use Rattle.kc_graph.proofs.Law.{adjacent-sym}
use Rattle.kc_graph.proofs.NeighbourLists.{neighbours_has, neighbours_within}
use Rattle.kc_view.specs.Answers.{Answers, Agrees, has_list, list_of}
use Rattle.kc_view.specs.Search.{Search, OnLevel}
use Rattle.kc_view.proofs.Keeping.{list-true}
use Rattle.kc_remove.specs.Cascade.{Cascade, found, taken, nobody}
use Rattle.kc_remove.specs.Removed.{search_without, has_come}
use Rattle.kc_graph.specs.Plans.{joins}
use Rattle.kc_remove.specs.Visits.{count_in, IsSupport}
use Rattle.kc_remove.specs.Falling.{is_visited, support_at, bound_at, has_looked, Settles, FallsIn}
use Rattle.kc_remove.specs.declared.falling.Count.{Count}
use Rattle.kc_remove.specs.declared.falling.Falling.{Falling}
use Rattle.kc_remove.specs.declared.falling.Visit.{Visit}
use Rattle.kc_remove.proofs.Falls.{found-one, found-same, taken-yes, taken-no, known-renewed, known-passed, supported-stays, fall_one, turn_over}

-- the ends of an edge are two vertices
ends-differ : (update : Update) → update.u ≢ update.v
ends-differ update e = let l : update.u < update.v = update.ordered in absurd (omega (arith, e))

-- an edge other than the one that goes is left
left_in : (a j : Bool) → a ≡ true → j ≡ false → (a && not j) ≡ true
left_in a j h n = grind arith

-- and that one is not
left_out : (a j : Bool) → j ≡ true → (a && not j) ≡ false
left_out a j h = grind arith

-- a number that is not less than another is as great
not_low : (a b : ℕ) → ltb a b ≡ false → b ≤ a
not_low a b h = grind arith

-- a vertex that was counted anew is settled: it stays, or it has looked at all its neighbours and falls
recounted-settled : (q : Search) (turn : ℕ) (part : ℕ → Bool) (y : ℕ) (count : Count) (old new : Falling) → Settles q.level y count old new
    → member y old.seen.weak.items ≡ false → (count.support < q.level → (z : ℕ) → z < q.size → q.adj y z ≡ true → ltb z count.bound ≡ true)
    → Cascade q old.seen.weak.items turn part (is_visited new) (support_at new) (has_looked new) (λ z. eqb z y)
    → Cascade q new.seen.weak.items turn part (is_visited new) (support_at new) (has_looked new) nobody
recounted-settled q turn part y count old new s out all c =
    let here : support_at new y ≡ count.support = ap (λ (o : Option Visit). (count_in o).support) s.marks.here in
    let bound : bound_at new y ≡ count.bound = ap (λ (o : Option Visit). (count_in o).bound) s.marks.here in
    let v : is_visited new y ≡ true = ap is_some s.marks.here in
    elim (cases_Bool (ltb count.support q.level)) [
      | inl low ↦
          let lt : count.support < q.level = ltb-true count.support q.level low in
          let longer : new.seen.weak.items ≡ old.seen.weak.items ++ y ∷ [] =
          s.weak ∙ ap (λ b. cond b (old.seen.weak.items ++ y ∷ []) old.seen.weak.items) low in
          subst (λ (xs : List ℕ). Cascade q xs turn part (is_visited new) (support_at new) (has_looked new) nobody) (sym longer)
          (fall_one q old.seen.weak.items turn part (is_visited new) (support_at new) (has_looked new) y c v out (omega (arith, here, lt))
          (λ z l a. ap (ltb z) bound ∙ all lt z l a))
      | inr high ↦
          let le : q.level ≤ count.support = not_low count.support q.level high in
          let same : new.seen.weak.items ≡ old.seen.weak.items = s.weak ∙ ap (λ b. cond b (old.seen.weak.items ++ y ∷ []) old.seen.weak.items) high in
          subst (λ (xs : List ℕ). Cascade q xs turn part (is_visited new) (support_at new) (has_looked new) nobody) (sym same)
          (supported-stays q old.seen.weak.items turn part (is_visited new) (support_at new) (has_looked new) y c (omega (arith, here, le)))
    ]

-- an edge that is not the removed one is an edge of the graph without that
pub edge-left : (update : Update) (s : Ranked) (x y : ℕ) → joins update x y ≡ false → adjacent s.graph x y ≡ true
    → adjacent (without_edge s.graph update.u update.v) x y ≡ true
edge-left update s x y n a =
    let k = adjacent-without s.graph update.u update.v x y (ends-differ update) in
    k ∙ left_in (adjacent s.graph x y) (joins update x y) a n

-- and the removed one is none
pub edge-gone : (update : Update) (s : Ranked) (x y : ℕ) → joins update x y ≡ true → adjacent (without_edge s.graph update.u update.v) x y ≡ false
edge-gone update s x y j =
    let k = adjacent-without s.graph update.u update.v x y (ends-differ update) in
    k ∙ left_out (adjacent s.graph x y) (joins update x y) j

-- where the turn comes to one vertex more, it has come to the others just where it had before
pub come-other : (update : Update) (s : Ranked) (x y z : ℕ) (row : List ℕ) → z ≢ y → has_come update s x (row ++ y ∷ []) z ≡ has_come update s x row z
come-other update s x y z row ne =
    ap (λ b. b && adjacent (without_edge s.graph update.u update.v) x z)
    (member-push z y row ∙ (ap (λ b. member z row || b) (ne_eqb z y ne) ∙ or-false (member z row)))

-- it has come to a neighbour that it comes to now
pub come-now : (update : Update) (s : Ranked) (x y : ℕ) (row : List ℕ) → adjacent (without_edge s.graph update.u update.v) x y ≡ true
    → has_come update s x (row ++ y ∷ []) y ≡ true
come-now update s x y row a = and_from _ _ (member-push y y row ∙ or_right (member y row) (eqb y y) (eq-eqb y y refl)) a

-- it comes to no vertex that is no neighbour
pub come-not : (update : Update) (s : Ranked) (x y : ℕ) (row : List ℕ) → adjacent (without_edge s.graph update.u update.v) x y ≡ false
    → has_come update s x row y ≡ false
come-not update s x y row n = and-fails (member y row) (adjacent (without_edge s.graph update.u update.v) x y) n

-- and has not come to one that stands later on the list
pub come-late : (update : Update) (s : Ranked) (x y : ℕ) (row : List ℕ) → member y row ≡ false → has_come update s x row y ≡ false
come-late update s x y row n = ap (λ b. b && adjacent (without_edge s.graph update.u update.v) x y) n

-- the turn may come to a vertex that is not of the level, has fallen or has not looked at `x` yet: nothing is lost by it
pub pass-by : (update : Update) (level : ℕ) (s : Ranked) (turn x y : ℕ) (row : List ℕ) (f : Falling) → turn < length f.seen.weak.items
    → get_or f.seen.weak.items turn 0 ≡ x
    → (adjacent (without_edge s.graph update.u update.v) x y ≡ true → OnLevel (search_without update level s) y
    → (is_visited f y ≡ true) × (member y f.seen.weak.items ≡ false → has_looked f y x ≡ false))
    → FallsIn update level s f turn (has_come update s x row) → FallsIn update level s f turn (has_come update s x (row ++ y ∷ []))
pass-by update level s turn x y row f l at only c =
    let q : Search = search_without update level s in
    let now : ℕ → ℕ → Bool = adjacent (without_edge s.graph update.u update.v) in
    let part : ℕ → Bool = has_come update s x row in
    let later : ℕ → Bool = has_come update s x (row ++ y ∷ []) in
    let fall : List ℕ = f.seen.weak.items in
    let same : (z : ℕ) → later z ≡ part z
    → found q (has_looked f z) (take (taken part turn z) fall) z ≡ found q (has_looked f z) (take (taken later turn z) fall) z =
    λ z e. ap (λ (b : Bool). found q (has_looked f z) (take (cond b (turn + 1) turn) fall) z) (sym e) in
    known-passed q fall turn part later (is_visited f) (support_at f) (has_looked f) c
    (λ z v out. elim (cases_eq z y) [
      | inr ne ↦ same z (come-other update s x y z row ne)
      | inl e ↦ elim (cases_Bool (now x y)) [
        | inr apart ↦
            same z (ap later e ∙ (come-not update s x y (row ++ y ∷ []) apart ∙ sym (ap part e ∙ come-not update s x y row apart)))
        | inl a ↦
            let comes : later z ≡ true = ap later e ∙ come-now update s x y row a in
            elim (cases_Bool (part z)) [
              | inl p ↦ same z (comes ∙ sym p)
              | inr p ↦
                  let oy : OnLevel q y = subst (λ (k : ℕ). OnLevel q k) e (c.visited_level z v) in
                  let unseen : has_looked f z (get_or fall turn 0) ≡ false =
                  ap (λ n. ltb n (bound_at f z)) at
                  ∙ (ap (λ k. has_looked f k x) e ∙ (only a oy).1 (ap (λ k. member k fall) (sym e) ∙ out)) in
                  ap (λ b. found q (has_looked f z) (take b fall) z) (taken-no part turn z p)
                  ∙ (found-same q (has_looked f z) fall turn z l (λ j. unseen)
                  ∙ ap (λ b. found q (has_looked f z) (take b fall) z) (sym (taken-yes later turn z comes)))
            ]
      ]
    ])
    (λ z p. let k = and_parts (member z (row ++ y ∷ [])) (now x z) p in (l, ap (λ n. now n z) at ∙ k.1))
    (λ z p oz. elim (cases_eq z y) [
      | inr ne ↦ c.part_visited z (sym (come-other update s x y z row ne) ∙ p) oz
      | inl e ↦
          let a : now x y ≡ true = ap (now x) (sym e) ∙ (and_parts (member z (row ++ y ∷ [])) (now x z) p).1 in
          ap (is_visited f) e ∙ (only a (subst (λ (k : ℕ). OnLevel q k) e oz)).0
    ])

-- what is known is kept where the support of a vertex that has not fallen was counted as far as needed
pub counted-falls : (update : Update) (level : ℕ) (s : Ranked) (turn turns : ℕ) (part later : ℕ → Bool) (y : ℕ) (count : Count) (old new : Falling)
    → Settles level y count old new → member y old.seen.weak.items ≡ false → OnLevel (search_without update level s) y
    → IsSupport update level s (take turns old.seen.weak.items) y count → turns ≡ taken later turn y
    → (count.support < level → (z : ℕ) → z < s.graph.size → adjacent (without_edge s.graph update.u update.v) y z ≡ true → ltb z count.bound ≡ true)
    → FallsIn update level s old turn part → ((z : ℕ) → z ≢ y → later z ≡ part z)
    → (later y ≡ true → (turn < length old.seen.weak.items) × (adjacent (without_edge s.graph update.u update.v) (get_or old.seen.weak.items turn 0) y ≡ true))
    → FallsIn update level s new turn later
counted-falls update level s turn turns part later y count old new h out oy is when all c same came =
    let q : Search = search_without update level s in
    let sup : support_at new y ≡ count.support = ap (λ (o : Option Visit). (count_in o).support) h.marks.here in
    let bound : bound_at new y ≡ count.bound = ap (λ (o : Option Visit). (count_in o).bound) h.marks.here in
    let looked : Option Visit → ℕ → Bool = λ o x. ltb x (count_in o).bound in
    recounted-settled q turn later y count old new h out all
    (known-renewed q old.seen.weak.items turn part later (is_visited old) (support_at old) (has_looked old) c y oy
    (is_visited new) (support_at new) (has_looked new)
    (ap is_some h.marks.here)
    (sup ∙ (is ∙ (ap (λ n. found q (λ z. ltb z count.bound) (take n old.seen.weak.items) y) when
    ∙ ap (λ n. found q (λ z. ltb z n) (take (taken later turn y) old.seen.weak.items) y) (sym bound))))
    came
    (λ z ne. (
      ap is_some (h.marks.others z ne),
      ap (λ (o : Option Visit). (count_in o).support) (h.marks.others z ne),
      ap looked (h.marks.others z ne),
      same z ne,
    )))

-- a vertex that had looked at `x` has one less when the turn of `x` comes to it
pub one-less : (update : Update) (level : ℕ) (s : Ranked) (turn x y : ℕ) (v : Visit) (row : List ℕ) (f : Falling)
    → FallsIn update level s f turn (has_come update s x row) → turn < length f.seen.weak.items → get_or f.seen.weak.items turn 0 ≡ x
    → value_of f.seen.marks y ≡ Some v → member y f.seen.weak.items ≡ false
    → ltb x v.count.bound ≡ true → adjacent (without_edge s.graph update.u update.v) x y ≡ true → member y row ≡ false
    → IsSupport update level s (take (turn + 1) f.seen.weak.items) y (record v.count { support = v.count.support - 1 })
one-less update level s turn x y v row f c l at kept out here a new_row =
    let count : Count = v.count in
    let q : Search = search_without update level s in
    let fall : List ℕ = f.seen.weak.items in
    let part : ℕ → Bool = has_come update s x row in
    let number : support_at f y ≡ count.support = ap (λ (o : Option Visit). (count_in o).support) kept in
    let bound : bound_at f y ≡ count.bound = ap (λ (o : Option Visit). (count_in o).bound) kept in
    let was : support_at f y ≡ found q (λ z. ltb z count.bound) (take turn fall) y =
    c.exact y (ap is_some kept) out
    ∙ (ap (λ b. found q (has_looked f y) (take b fall) y) (taken-no part turn y (come-late update s x y row new_row))
    ∙ ap (λ n. found q (λ z. ltb z n) (take turn fall) y) bound) in
    let one =
    found-one q (λ z. ltb z count.bound) fall turn y l c.distinct (c.fall_level (get_or fall turn 0) (member-get_or fall turn 0 l))
    (ap (λ n. ltb n count.bound) at ∙ here) in
    let joined : one_if (adjacent (without_edge s.graph update.u update.v) y (get_or fall turn 0)) ≡ 1 =
    ap one_if (ap (adjacent (without_edge s.graph update.u update.v) y) at ∙ (adjacent-sym (without_edge s.graph update.u update.v) y x ∙ a)) in
    omega (arith, number, was, one, joined)

-- a turn that has come to each of the list is done
pub turn-over : (update : Update) (level : ℕ) (s : Ranked) (turn x : ℕ) (row : List ℕ) (f : Falling) → turn < length f.seen.weak.items
    → get_or f.seen.weak.items turn 0 ≡ x → row ≡ neighbours_of s.graph x
    → FallsIn update level s f turn (has_come update s x row) → FallsIn update level s f (turn + 1) nobody
turn-over update level s turn x row f l at same c =
    let now : ℕ → ℕ → Bool = adjacent (without_edge s.graph update.u update.v) in
    turn_over (search_without update level s) f.seen.weak.items turn (has_come update s x row) (is_visited f) (support_at f) (has_looked f)
    (adjacent-sym (without_edge s.graph update.u update.v)) c l
    (λ y oy a out.
    let here : now x y ≡ true = ap (λ n. now n y) (sym at) ∙ a in
    let was : adjacent s.graph x y ≡ true =
    (and_parts (adjacent s.graph x y) (not (joins update x y))
    (sym (adjacent-without s.graph update.u update.v x y (ends-differ update)) ∙ here)).0 in
    and_from _ _ (ap (member y) same ∙ (neighbours_has s.graph x y oy.here ∙ was)) here)

-- a neighbour that a list tells is one in each state that agrees
pub listed-adjacent : (a : Answers) (s : Ranked) (x y : ℕ) → Agrees a s → has_list a x ≡ true → member y (list_of a x) ≡ true → adjacent s.graph x y ≡ true
listed-adjacent a s x y agrees read m = (neighbours_within s.graph x y (sym (ap (member y) (list-true a s x agrees read).1) ∙ m)).1
