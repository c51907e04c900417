-- What holds for every view, from step to step.
use Rattle.std.proofs.Common.{◌≡◌, ◌≢◌, ◌≤◌, ◌<◌, ◌⊎◌, ℕ, suc, Bool, true, false, cond, List, [], ◌∷◌, ◌++◌, ◌||◌, length, take, get_or, eqb, ltb, refl}
use Rattle.std.proofs.Common.{sym, ◌∙◌, ap, subst, inl, inr, arith, true≢false, eq-eqb, ne_eqb, length-append}
use Rattle.std.specs.Prelude.{Option, Some, None, is_some}
use Rattle.std.proofs.Math.Bool.{or-false}
use Rattle.std.proofs.Math.Seq.{take-length}
use Rattle.std.proofs.lemmas.Bool.{cases_Bool, cases_eq, cases_lt, false≢true, or_right, false_from_ne_true, lt-ltb, le-ltb}
use Rattle.std.proofs.lemmas.List.{get_or_append_left, take-append-le, take_all}
use Rattle.std.proofs.lemmas.List.Elements.{All-push, All-weaker}
use Rattle.kc_lists.specs.Lists.{member}
use Rattle.kc_lists.proofs.Members.{below_bound}
use Rattle.kc_lists.proofs.Counting.{member-push}
use Rattle.kc_lists.proofs.Shared.{list_any-some, member-grown_left, Distinct-grown}
use Rattle.kc_marks.specs.Maps.{value_of}
use Rattle.kc_graph.specs.declared.update.Update.{Update}
use Rattle.kc_view.specs.Answers.{Answers, has_list, list_of, has_core, with_list}
use Rattle.kc_view.specs.Sure.{AsksOneList, is_listed, AsksCores}
use Rattle.kc_view.specs.Views.{Shown, Further, GoesOn, TellsList, TellsCore}
use Rattle.kc_view.proofs.Asked.{is_listed-from, cores-none, cores-more, cores-listed}
use Rattle.kc_view.proofs.Fronts.{take-member}
use Rattle.kc_view.proofs.Keeping.{still_has_list, same_list, Further-refl}
use Rattle.kc_view.proofs.Marking.{Further-list}
use Rattle.kc_remove.specs.Visits.{count_in, fallen_in, gone_in, is_place_below, IsBound}
use Rattle.kc_remove.specs.Falling.{is_visited, has_fallen, is_gone, looked_at, bound_at, Settles, IsNear, AsksNear, IsTidyFalling}
use Rattle.kc_remove.specs.declared.falling.Count.{Count}
use Rattle.kc_remove.specs.declared.falling.Falling.{Falling}
use Rattle.kc_remove.specs.declared.falling.Visit.{Visit}
use Rattle.kc_remove.proofs.Listed.{some-any}

-- what is near stays near
pub near-grows : (update : Update) (a b : Answers) (fall more : List ℕ) (y : ℕ) → Further a b
    → ((x : ℕ) → member x fall ≡ true → has_list a x ≡ true) → ((x : ℕ) → member x fall ≡ true → member x more ≡ true)
    → IsNear update a fall y → IsNear update b more y
near-grows update a b fall more y f read grows near = elim near [
  | inl e ↦ inl e
  | inr (inl e) ↦ inr (inl e)
  | inr (inr h) ↦
      let (x, m, t) = list_any-some (λ x. member y (list_of a x)) fall h in
      inr (inr (some-any (λ x. member y (list_of b x)) x more (grows x m) (ap (member y) (same_list a b x f (read x m)) ∙ t)))
]

-- the list of the lesser end alone
pub asks-first : (update : Update) (a : Answers) → AsksOneList a update.u → AsksNear update a []
asks-first update a asks = record {
  lists = All-weaker (λ e. e.vertex ≡ update.u) (λ e. IsNear update a [] e.vertex) (λ e is. inl is) a.edges asks.lists;
  cores = cores-none update a update.u asks;
  orders = asks.orders;
}

-- a core number more
pub asks-core : (update : Update) (a b : Answers) (fall : List ℕ) (y : ℕ) → AsksNear update a fall → TellsCore a b y
    → (y ≡ update.u) ⊎ (y ≡ update.v) ⊎ (is_listed a y ≡ true) → AsksNear update b fall
asks-core update a b fall y asks tells near = elim (cases_Bool (has_core a y)) [
  | inl h ↦ subst (λ (x : Answers). AsksNear update x fall) (sym (tells.before h)) asks
  | inr n ↦
      let (p, is, eq) = tells.now n in
      subst (λ (x : Answers). AsksNear update x fall) (sym eq) (record {
        lists = asks.lists;
        cores = subst (AsksCores update) eq (cores-more update a b y asks.cores tells near);
        orders = asks.orders;
      })
]

-- a list more
pub asks-list : (update : Update) (a b : Answers) (fall : List ℕ) (y : ℕ) → AsksNear update a fall → TellsList a b y
    → IsNear update a fall y → ((x : ℕ) → member x fall ≡ true → has_list a x ≡ true) → AsksNear update b fall
asks-list update a b fall y asks tells near read = elim (cases_Bool (has_list a y)) [
  | inl h ↦ subst (λ (x : Answers). AsksNear update x fall) (sym (tells.before h)) asks
  | inr n ↦
      let (e, is, eq) = tells.now n in
      let c : Answers = with_list a e in
      let grown : (z : ℕ) → IsNear update a fall z → IsNear update c fall z = λ z k. near-grows update a c fall fall z (Further-list a e) read (λ _ m. m) k in
      subst (λ (x : Answers). AsksNear update x fall) (sym eq) (record {
        lists =
            All-push (λ q. IsNear update c fall q.vertex) a.edges e
            (All-weaker (λ q. IsNear update a fall q.vertex) (λ q. IsNear update c fall q.vertex) (λ q k. grown q.vertex k) a.edges
            asks.lists)
            (subst (IsNear update c fall) (sym is) (grown y near));
        cores = subst (AsksCores update) eq (cores-listed update a b y asks.cores tells);
        orders = asks.orders;
      })
]

-- more have fallen
pub asks-fallen : (update : Update) (a : Answers) (fall more : List ℕ) → AsksNear update a fall
    → ((x : ℕ) → member x fall ≡ true → has_list a x ≡ true) → ((x : ℕ) → member x fall ≡ true → member x more ≡ true)
    → AsksNear update a more
asks-fallen update a fall more asks read grows = record {
  lists =
      All-weaker (λ q. IsNear update a fall q.vertex) (λ q. IsNear update a more q.vertex)
      (λ q k. near-grows update a a fall more q.vertex (Further-refl a) read grows k) a.edges asks.lists;
  cores = asks.cores;
  orders = asks.orders;
}

-- who is gone was visited
visited_in : (turns : ℕ) (o : Option Visit) → gone_in turns o ≡ true → is_some o ≡ true
visited_in turns None h = absurd (false≢true h)
visited_in turns (Some v) h = refl

-- a place is below some number of turns
placed_in : (p : Option ℕ) → is_some p ≡ true → (turns : ℕ) × (is_place_below turns p ≡ true)
placed_in None h = absurd (false≢true h)
placed_in (Some k) h = (suc k, lt-ltb k (suc k) (omega arith))

-- so who has fallen is gone after some number of turns
fallen_gone : (o : Option Visit) → fallen_in o ≡ true → (turns : ℕ) × (gone_in turns o ≡ true)
fallen_gone None h = absurd (false≢true h)
fallen_gone (Some v) h = placed_in v.fallen h

-- where there is no place none is below any number of turns
placed_out : (turns : ℕ) (p : Option ℕ) → is_some p ≡ false → is_place_below turns p ≡ false
placed_out turns None h = refl
placed_out turns (Some k) h = absurd (true≢false h)

-- so who has not fallen is never gone
fallen_out : (turns : ℕ) (o : Option Visit) → fallen_in o ≡ false → gone_in turns o ≡ false
fallen_out turns None h = refl
fallen_out turns (Some v) h = placed_out turns v.fallen h

-- a vertex whose visit does not say that it has fallen is not on the list
pub fallen-out : (update : Update) (shown : Shown) (f : Falling) → IsTidyFalling update shown f → (y : ℕ) → has_fallen f y ≡ false
    → member y f.seen.weak.items ≡ false
fallen-out update shown f t y n =
    ap (member y) (sym (take-length f.seen.weak.items))
    ∙ (sym (t.marked y (length f.seen.weak.items)) ∙ fallen_out (length f.seen.weak.items) (value_of f.seen.marks y) n)

-- and the visit of a vertex that is not on the list does not say so
pub out-fallen : (update : Update) (shown : Shown) (f : Falling) → IsTidyFalling update shown f → (y : ℕ) → member y f.seen.weak.items ≡ false
    → has_fallen f y ≡ false
out-fallen update shown f t y out = false_from_ne_true _ (λ h.
    let (turns, g) = fallen_gone (value_of f.seen.marks y) h in
    true≢false (sym (take-member turns f.seen.weak.items y (sym (t.marked y turns) ∙ g)) ∙ out))

-- who has fallen was visited
pub fallen-visited : (update : Update) (shown : Shown) (f : Falling) → IsTidyFalling update shown f → (x : ℕ) → member x f.seen.weak.items ≡ true
    → is_visited f x ≡ true
fallen-visited update shown f t x m =
    visited_in (length f.seen.weak.items) (value_of f.seen.marks x)
    (t.marked x (length f.seen.weak.items) ∙ (ap (member x) (take-length f.seen.weak.items) ∙ m))

-- so the lists of the fallen were read
pub fallen-read : (update : Update) (shown : Shown) (f : Falling) → IsTidyFalling update shown f → (x : ℕ) → member x f.seen.weak.items ≡ true
    → has_list shown.kept x ≡ true
fallen-read update shown f t x m = t.listed x (fallen-visited update shown f t x m)

-- who was not visited has not fallen
pub unvisited-out : (update : Update) (shown : Shown) (f : Falling) → IsTidyFalling update shown f → (x : ℕ) → is_visited f x ≡ false
    → member x f.seen.weak.items ≡ false
unvisited-out update shown f t x n = false_from_ne_true _ (λ m. true≢false (sym (fallen-visited update shown f t x m) ∙ n))

-- the view goes on
tidy-view : (update : Update) (old new : Shown) (f : Falling) → IsTidyFalling update old f → GoesOn old new
    → AsksNear update new.kept f.seen.weak.items → IsTidyFalling update new f
tidy-view update old new f t goes asks = record {
  marked = t.marked;
  once = t.once;
  within = λ z v. let l : z < old.size = t.within z v in omega (arith, l, goes.lasts.same_size);
  listed = λ z v. still_has_list old.kept new.kept z goes.further (t.listed z v);
  looked = λ z v.
      subst (λ (row : List ℕ). IsBound row (looked_at f z) (bound_at f z)) (sym (same_list old.kept new.kept z goes.further (t.listed z v)))
      (t.looked z v);
  asks = asks;
}

-- a list was asked
pub tidy-list : (update : Update) (old new : Shown) (f : Falling) (y : ℕ) → IsTidyFalling update old f → GoesOn old new
    → TellsList old.kept new.kept y → IsNear update old.kept f.seen.weak.items y → IsTidyFalling update new f
tidy-list update old new f y t goes tells near =
    tidy-view update old new f t goes (asks-list update old.kept new.kept f.seen.weak.items y t.asks tells near (fallen-read update old f t))

-- a list that was asked again changes nothing
pub tidy-again : (update : Update) (old new : Shown) (f : Falling) (y : ℕ) → IsTidyFalling update old f → GoesOn old new
    → TellsList old.kept new.kept y → has_list old.kept y ≡ true → IsTidyFalling update new f
tidy-again update old new f y t goes tells read =
    tidy-view update old new f t goes (subst (λ (a : Answers). AsksNear update a f.seen.weak.items) (sym (tells.before read)) t.asks)

-- a core number was asked
tidy-core : (update : Update) (old new : Shown) (f : Falling) (y : ℕ) → IsTidyFalling update old f → GoesOn old new
    → TellsCore old.kept new.kept y → (y ≡ update.u) ⊎ (y ≡ update.v) ⊎ (is_listed old.kept y ≡ true) → IsTidyFalling update new f
tidy-core update old new f y t goes tells near = tidy-view update old new f t goes (asks-core update old.kept new.kept f.seen.weak.items y t.asks tells near)

-- the core number of an end was asked
pub tidy-end : (update : Update) (old new : Shown) (f : Falling) (y : ℕ) → IsTidyFalling update old f → GoesOn old new
    → TellsCore old.kept new.kept y → (y ≡ update.u) ⊎ (y ≡ update.v) → IsTidyFalling update new f
tidy-end update old new f y t goes tells is = tidy-core update old new f y t goes tells (elim is [ inl e ↦ inl e | inr e ↦ inr (inl e) ])

-- the core number of a neighbour was asked
pub tidy-neighbour : (update : Update) (old new : Shown) (f : Falling) (x y : ℕ) → IsTidyFalling update old f → GoesOn old new
    → TellsCore old.kept new.kept y → has_list old.kept x ≡ true → member y (list_of old.kept x) ≡ true → IsTidyFalling update new f
tidy-neighbour update old new f x y t goes tells read m = tidy-core update old new f y t goes tells (inr (inr (is_listed-from old.kept x y read m)))

-- who is not on a list is not in its front
out-front : (turns y : ℕ) (xs : List ℕ) → member y xs ≡ false → member y (take turns xs) ≡ false
out-front turns y xs n = false_from_ne_true _ (λ m. true≢false (sym (take-member turns xs y m) ∙ n))

-- a vertex that may be new on the list is among the first just where it is new and its place is below their number
member-settled : (low : Bool) (turns y : ℕ) (fall next : List ℕ) → next ≡ cond low (fall ++ y ∷ []) fall → member y fall ≡ false
    → is_place_below turns (cond low (Some (length fall)) None) ≡ member y (take turns next)
member-settled true turns y fall next e n = elim (cases_lt (length fall) turns) [
  | inl lt ↦
      let whole : take turns (fall ++ y ∷ []) ≡ fall ++ y ∷ [] = take_all turns (fall ++ y ∷ []) (omega (arith, lt, length-append fall (y ∷ []))) in
      lt-ltb (length fall) turns lt
      ∙ sym (ap (λ xs. member y (take turns xs)) e ∙ (ap (member y) whole
      ∙ (member-push y y fall ∙ or_right (member y fall) (eqb y y) (eq-eqb y y refl))))
  | inr ge ↦
      le-ltb (length fall) turns ge
      ∙ sym (ap (λ xs. member y (take turns xs)) e ∙ (ap (member y) (take-append-le turns fall (y ∷ []) ge) ∙ out-front turns y fall n))
]
member-settled false turns y fall next e n = sym (ap (λ xs. member y (take turns xs)) e ∙ out-front turns y fall n)

-- and any other vertex is among them just where it was before
member-kept : (low : Bool) (turns y z : ℕ) (fall next : List ℕ) → next ≡ cond low (fall ++ y ∷ []) fall → z ≢ y
    → member z (take turns next) ≡ member z (take turns fall)
member-kept true turns y z fall next e ne = elim (cases_lt (length fall) turns) [
  | inl lt ↦
      let whole : take turns (fall ++ y ∷ []) ≡ fall ++ y ∷ [] = take_all turns (fall ++ y ∷ []) (omega (arith, lt, length-append fall (y ∷ []))) in
      ap (λ xs. member z (take turns xs)) e ∙ (ap (member z) whole
      ∙ (member-push z y fall ∙ (ap (λ b. member z fall || b) (ne_eqb z y ne) ∙ (or-false (member z fall)
      ∙ ap (member z) (sym (take_all turns fall (omega (arith, lt))))))))
  | inr ge ↦ ap (λ xs. member z (take turns xs)) e ∙ ap (member z) (take-append-le turns fall (y ∷ []) ge)
]
member-kept false turns y z fall next e ne = ap (λ xs. member z (take turns xs)) e

-- what was on the list keeps its place
further-grown : (low : Bool) (y : ℕ) (fall next : List ℕ) → next ≡ cond low (fall ++ y ∷ []) fall → (j : ℕ) → j < length fall
    → (j < length next) × (get_or next j 0 ≡ get_or fall j 0)
further-grown true y fall next e j l = (
  let k : length next ≡ length (fall ++ y ∷ []) = ap length e in omega (arith, l, k, length-append fall (y ∷ [])),
  ap (λ xs. get_or xs j 0) e ∙ get_or_append_left fall (y ∷ []) 0 j l,
)
further-grown false y fall next e j l = (let k : length next ≡ length fall = ap length e in omega (arith, l, k), ap (λ xs. get_or xs j 0) e)

-- so it does where a vertex is settled
pub settled-further : (level y : ℕ) (count : Count) (old new : Falling) → Settles level y count old new → (j : ℕ)
    → j < length old.seen.weak.items → (j < length new.seen.weak.items) × (get_or new.seen.weak.items j 0 ≡ get_or old.seen.weak.items j 0)
settled-further level y count old new s j l = further-grown (ltb count.support level) y old.seen.weak.items new.seen.weak.items s.weak j l

-- who was visited stays visited where a vertex is settled
pub settled-still : (level y : ℕ) (count : Count) (old new : Falling) → Settles level y count old new → (z : ℕ)
    → is_visited old z ≡ true → is_visited new z ≡ true
settled-still level y count old new s z v = elim (cases_eq z y) [
  | inl e ↦ ap (λ k. is_visited new k) e ∙ ap is_some s.marks.here
  | inr ne ↦ ap is_some (s.marks.others z ne) ∙ v
]

-- what holds for every view still holds where a vertex that is not on the list is settled
pub settled-tidy : (update : Update) (shown : Shown) (level y : ℕ) (count : Count) (old new : Falling) → IsTidyFalling update shown old
    → Settles level y count old new → y < shown.size → has_list shown.kept y ≡ true → member y old.seen.weak.items ≡ false
    → IsBound (list_of shown.kept y) count.looked count.bound
    → IsTidyFalling update shown new
settled-tidy update shown level y count old new t s l read out looked =
    let low : Bool = ltb count.support level in
    record {
      marked = λ z turns. elim (cases_eq z y) [
        | inl e ↦
            ap (is_gone new turns) e ∙ (ap (gone_in turns) s.marks.here
            ∙ (member-settled low turns y old.seen.weak.items new.seen.weak.items s.weak out ∙ ap (λ k. member k (take turns new.seen.weak.items)) (sym e)))
        | inr ne ↦
            ap (gone_in turns) (s.marks.others z ne)
            ∙ (t.marked z turns ∙ sym (member-kept low turns y z old.seen.weak.items new.seen.weak.items s.weak ne))
      ];
      once = Distinct-grown low y old.seen.weak.items new.seen.weak.items s.weak t.once out;
      within = λ z v. elim (cases_eq z y) [ inl e ↦ omega (arith, l, e) | inr ne ↦ t.within z (sym (ap is_some (s.marks.others z ne)) ∙ v) ];
      listed = λ z v. elim (cases_eq z y) [ inl e ↦ ap (has_list shown.kept) e ∙ read | inr ne ↦ t.listed z (sym (ap is_some (s.marks.others z ne)) ∙ v) ];
      looked = λ z v. elim (cases_eq z y) [
        | inl e ↦
            subst (λ (k : ℕ). IsBound (list_of shown.kept k) (looked_at new k) (bound_at new k)) (sym e)
            (subst (λ (o : Option Visit). IsBound (list_of shown.kept y) (count_in o).looked (count_in o).bound) (sym s.marks.here) looked)
        | inr ne ↦
            subst (λ (o : Option Visit). IsBound (list_of shown.kept z) (count_in o).looked (count_in o).bound) (sym (s.marks.others z ne))
            (t.looked z (sym (ap is_some (s.marks.others z ne)) ∙ v))
      ];
      asks =
          asks-fallen update shown.kept old.seen.weak.items new.seen.weak.items t.asks (fallen-read update shown old t)
          (λ x m. member-grown_left low y x old.seen.weak.items new.seen.weak.items s.weak m);
    }

-- no more fall than there are vertices
pub list-fits : (update : Update) (shown : Shown) (f : Falling) → IsTidyFalling update shown f → length f.seen.weak.items ≤ shown.size
list-fits update shown f t = below_bound shown.size f.seen.weak.items t.once (λ x m. t.within x (fallen-visited update shown f t x m))
