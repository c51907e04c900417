-- Updates in turn, as C names them and as a keeper makes them: one more at the end of those that were made.
use Rattle.std.proofs.Common.{◌≡◌, ◌<◌, ◌+◌, ℕ, Bool, true, false, not, ◌&&◌, List, [], ◌∷◌, ◌++◌, length, take, get_or, cond}
use Rattle.std.proofs.Common.{refl, sym, ap, ◌∙◌, arith, subst, length-append, below_more, eq-eqb}
use Rattle.std.specs.Prelude.{◌==◌}
use Rattle.std.proofs.lemmas.List.{get_or_append_left, length-take, take-append-le, take_more}
use Rattle.std.proofs.Math.Seq.{get_or-append_seam, take-length}
use Rattle.std.proofs.lemmas.List.Elements.{All-push}
use Rattle.kc_lists.proofs.Shared.{All-end, All-front}
use Rattle.kc_graph.specs.SimpleGraph.{SimpleGraph, adjacent}
use Rattle.kc_graph.specs.Edges.{with_edge, without_edge}
use Rattle.kc_graph.specs.Plans.{is_applied, updated}
use Rattle.kc_graph.specs.declared.update.Update.{Update}
use Rattle.kc_keeper.specs.Batches.{applied_in_turn, made_in_turn}
use Rattle.kc_keeper.proofs.InTurn.{applied-push, made-push}
use Rattle.kc_c.specs.Listing.{AreListed, StandsFor}
use Rattle.kc_c.specs.Updating.{after_all_given, after_given, are_vertices, count_changing, is_changing}
use Rattle.kc_c.specs.declared.updates.GivenUpdate.{GivenUpdate}

-- 1 or 0
abbrev bit : Bool → ℕ
bit b = cond b 1 0

-- the graph after one update more
given-push : (g : SimpleGraph) (us : List GivenUpdate) (u : GivenUpdate) → after_all_given g (us ++ u ∷ []) ≡ after_given u (after_all_given g us)
given-push g [] u = refl
given-push g (x ∷ us) u = given-push (after_given x g) us u

-- how many change the graph, with one update more
count-push : (g : SimpleGraph) (us : List GivenUpdate) (u : GivenUpdate)
    → count_changing g (us ++ u ∷ []) ≡ count_changing g us + cond (is_changing u (after_all_given g us)) 1 0
count-push g [] u = omega arith
count-push g (x ∷ us) u = omega (arith, count-push (after_given x g) us u)

-- the front of a list stays with one more behind it
front-stays : {A : Type 0} (xs : List A) (x : A) (k : ℕ) → k < length xs → take k (xs ++ x ∷ []) ≡ take k xs
front-stays xs x k low = take-append-le k xs (x ∷ []) (omega (arith, low))

-- what stands before the last is all of the list before
front-is : {A : Type 0} (xs : List A) (x : A) → take (length xs) (xs ++ x ∷ []) ≡ xs
front-is xs x = take-append-le (length xs) xs (x ∷ []) (omega arith) ∙ take-length xs

-- so long is a list that may get one more
pushed : (b : Bool) (us : List Update) (u : Update) → length (cond b (us ++ u ∷ []) us) ≡ length us + cond b 1 0
pushed true us u = length-append us (u ∷ [])
pushed false us u = omega arith

-- a loop leaves the graph
after-loop : (u : GivenUpdate) (g : SimpleGraph) → u.u ≡ u.v → after_given u g ≡ g
after-loop u g e = ap (λ (b : Bool). cond b g (cond (u.add == 0) (without_edge g u.u u.v) (with_edge g u.u u.v))) (eq-eqb u.u u.v e)

-- and changes nothing
changing-loop : (u : GivenUpdate) (g : SimpleGraph) → u.u ≡ u.v → is_changing u g ≡ false
changing-loop u g e = ap (λ (b : Bool). not b && cond (u.add == 0) (adjacent g u.u u.v) (not (adjacent g u.u u.v))) (eq-eqb u.u u.v e)

-- nothing is listed yet
pub listed-none : AreListed [] [] []
listed-none = record {
  after = λ g. refl;
  count = λ g. refl;
  within = λ vertices all k d low. absurd (omega (arith, low));
  one_each = refl;
  below = λ j low. absurd (omega (arith, low));
  before = λ j low g. absurd (omega (arith, low));
}

-- a loop is not listed
pub listed-loop : {gs : List GivenUpdate} {us : List Update} {places : List ℕ} (u : GivenUpdate) → u.u ≡ u.v → AreListed gs us places
    → AreListed (gs ++ u ∷ []) us places
listed-loop {gs} {us} {places} u e h = record {
  after = λ g. h.after g ∙ sym (given-push g gs u ∙ after-loop u (after_all_given g gs) e);
  count = λ g. omega (arith, h.count g, count-push g gs u, ap bit (changing-loop u (after_all_given g gs) e));
  within = λ vertices all. h.within vertices (All-front (λ (x : GivenUpdate). are_vertices vertices x ≡ true) gs (u ∷ []) all);
  one_each = h.one_each;
  below = λ j low. omega (arith, h.below j low, length-append gs (u ∷ []));
  before = λ j low g. h.before j low g ∙ ap (after_all_given g) (sym (front-stays gs u (get_or places j 0) (h.below j low)));
}

-- how many change the graph, with one update more that a keeper makes
applied-length : (g : SimpleGraph) (us : List Update) (u : Update)
    → length (applied_in_turn g (us ++ u ∷ [])) ≡ length (applied_in_turn g us) + cond (is_applied u (made_in_turn g us)) 1 0
applied-length g us u = ap (length {A = Update}) (applied-push g us u) ∙ pushed (is_applied u (made_in_turn g us)) (applied_in_turn g us) u

-- an update more is listed
pub listed-more : {gs : List GivenUpdate} {us : List Update} {places : List ℕ} (u : GivenUpdate) (update : Update) → StandsFor u update
    → AreListed gs us places → AreListed (gs ++ u ∷ []) (us ++ update ∷ []) (places ++ length gs ∷ [])
listed-more {gs} {us} {places} u update is h =
    let upTo : ℕ → List GivenUpdate = λ j. take (get_or (places ++ length gs ∷ []) j 0) (gs ++ u ∷ []) in
    let Right : ℕ → Type 0 = λ j. (get_or (places ++ length gs ∷ []) j 0 < length (gs ++ u ∷ []))
    × ((g : SimpleGraph) → made_in_turn g (take j (us ++ update ∷ [])) ≡ after_all_given g (upTo j)) in
    let longer = length-append gs (u ∷ []) in
    let right : (j : ℕ) → j < length us + 1 → Right j = below_more Right (length us)
    (λ j low.
    let place : get_or (places ++ length gs ∷ []) j 0 ≡ get_or places j 0 =
    get_or_append_left places (length gs ∷ []) 0 j (omega (arith, low, h.one_each)) in (
      omega (arith, h.below j low, place, longer),
      λ g. ap (made_in_turn g) (front-stays us update j low) ∙ (h.before j low g
          ∙ ap (after_all_given g) (sym (ap (λ (k : ℕ). take k (gs ++ u ∷ [])) place ∙ front-stays gs u (get_or places j 0) (h.below j low)))),
    ))
    (let place : get_or (places ++ length gs ∷ []) (length us) 0 ≡ length gs =
    ap (λ (k : ℕ). get_or (places ++ length gs ∷ []) k 0) (sym h.one_each) ∙ get_or-append_seam places (length gs) [] 0 in (
      omega (arith, place, longer),
      λ g. ap (made_in_turn g) (front-is us update) ∙ (h.after g
          ∙ ap (after_all_given g) (sym (ap (λ (k : ℕ). take k (gs ++ u ∷ [])) place ∙ front-is gs u))),
    )) in
    let more : length (us ++ update ∷ []) ≡ length us + 1 = length-append us (update ∷ []) in
    record {
      after = λ g. made-push g us update ∙ (ap (updated update) (h.after g) ∙ (is.after (after_all_given g gs) ∙ sym (given-push g gs u)));
      count = λ g. omega (
        arith,
        h.count g,
        applied-length g us update,
        count-push g gs u,
        ap bit (ap (is_applied update) (h.after g) ∙ is.changing (after_all_given g gs)),
      );
      within = λ vertices all.
          let Are : GivenUpdate → Type 0 = λ x. are_vertices vertices x ≡ true in
          All-push (λ (x : Update). x.v < vertices) us update (h.within vertices (All-front Are gs (u ∷ []) all))
          (is.within vertices (All-end Are gs u all));
      one_each = omega (arith, length-append places (length gs ∷ []), h.one_each, more);
      below = λ j low. (right j (omega (arith, low, more))).0;
      before = λ j low. (right j (omega (arith, low, more))).1;
    }

-- the front of a list has so many
front-length : {A : Type 0} (xs : List A) (i : ℕ) → i < length xs → length (take i xs) ≡ i
front-length xs i low = omega (arith, low, length-take i xs)

-- one more is listed
pub listed-next : (given : List GivenUpdate) {us us' : List Update} {places places' : List ℕ} {i : ℕ} (d : GivenUpdate) (update : Update)
    → i < length given → StandsFor (get_or given i d) update → AreListed (take i given) us places → us' ≡ us ++ update ∷ []
    → places' ≡ places ++ i ∷ [] → AreListed (take (i + 1) given) us' places'
listed-next given {us} {us'} {places} {places'} {i} d update low is h us-is places-is =
    let more : take (i + 1) given ≡ take i given ++ get_or given i d ∷ [] = take_more given i d low in
    let next : AreListed (take i given ++ get_or given i d ∷ []) (us ++ update ∷ []) (places ++ length (take i given) ∷ []) =
    listed-more (get_or given i d) update is h in
    let last : places ++ length (take i given) ∷ [] ≡ places' =
    ap (λ (k : ℕ). places ++ k ∷ []) (front-length given i low) ∙ sym places-is in
    subst (λ (gs : List GivenUpdate). AreListed gs us' places') (sym more)
    (subst (λ (zs : List Update). AreListed (take i given ++ get_or given i d ∷ []) zs places') (sym us-is)
    (subst (λ (ps : List ℕ). AreListed (take i given ++ get_or given i d ∷ []) (us ++ update ∷ []) ps) last next))

-- a loop is passed over
pub listed-skip : (given : List GivenUpdate) {us : List Update} {places : List ℕ} {i : ℕ} (d : GivenUpdate) → i < length given
    → (get_or given i d).u ≡ (get_or given i d).v → AreListed (take i given) us places → AreListed (take (i + 1) given) us places
listed-skip given {us} {places} {i} d low e h =
    subst (λ (gs : List GivenUpdate). AreListed gs us places) (sym (take_more given i d low)) (listed-loop (get_or given i d) e h)
