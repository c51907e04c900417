-- A number that the map has keeps its first place and comes twice; a new one is mapped to its own place and keeps the list distinct.
use Rattle.std.proofs.Common.{◌≡◌, ◌+◌, ℕ, true, false, cond, List, [], ◌∷◌, ◌++◌, Some, length, get_or, take, nat_eq, eqb, sym, ◌∙◌, ap, subst, arith}
use Rattle.std.specs.Prelude.{is_some}
use Rattle.std.specs.HashMap.{get}
use Rattle.std.proofs.lemmas.Bool.{false≢true}
use Rattle.std.proofs.lemmas.List.{take_more, length-take-le}
use Rattle.kc_lists.specs.Lists.{member, Distinct}
use Rattle.kc_lists.proofs.Counting.{Distinct-push}
use Rattle.kc_cert.specs.Shifting.{place_in}
use Rattle.kc_cert.proofs.Listing.{place_in-some, place_in-again, place_in-push, Distinct-pushed}
use Rattle.kc_cert.proofs.places.Places.in_list.Goals as goal
use Rattle.kc_cert.proofs.places.Places.in_list.Goals.{then-contains_key, else-contains_key+in_ok-insert}

pub loop-place-preserved : goal.loop-place-preserved
loop-place-preserved c =
    let list : List ℕ = c.args.list.now in
    let i : ℕ = c.loop-place.place in
    let x : ℕ = get_or list i 0 in
    let xs : List ℕ = take i list in
    let next : take (i + 1) list ≡ xs ++ x ∷ [] = take_more list i 0 c.loop-place-test.true in
    let has : is_some (get nat_eq c.loop-place.of x) ≡ member x xs = ap is_some (c.loop-place.invariant.each x) ∙ place_in-some xs x in
    elim c.if-contains_key.branch [
      | then-contains_key w ↦
          let m : member x xs ≡ true = sym has ∙ (sym c.contains_key.ensures ∙ w.if-contains_key.true) in
          record {
            each = λ q. ap (λ t. get nat_eq t q) w.of-is ∙ (c.loop-place.invariant.each q ∙ sym (ap (λ t. place_in t q) next ∙ place_in-again x q xs m));
            once = (
              λ t. absurd (false≢true (sym w.once-is ∙ t)),
              λ d. absurd (false≢true (sym (Distinct-pushed xs x (subst Distinct next d)).1 ∙ m)),
            );
          }
      | else-contains_key+in_ok-insert w ↦
          let n : member x xs ≡ false = sym has ∙ (sym c.contains_key.ensures ∙ w.if-contains_key.false) in
          let long : length xs ≡ i = length-take-le i list (omega (arith, c.loop-place-test.true)) in
          record {
            each = λ q. ap (λ t. get nat_eq t q) w.of-is
                ∙ (w.in_ok-insert.ensures.updates.0 q ∙ (ap (λ o. cond (eqb x q) (Some i) o) (c.loop-place.invariant.each q)
                ∙ sym (ap (λ t. place_in t q) next ∙ (place_in-push x q xs n ∙ ap (λ k. cond (eqb x q) (Some k) (place_in xs q)) long))));
            once = (
              λ t. subst Distinct (sym next) (Distinct-push xs x (c.loop-place.invariant.once.0 (sym w.once-is ∙ t)) n),
              λ d. w.once-is ∙ c.loop-place.invariant.once.1 (Distinct-pushed xs x (subst Distinct next d)).0,
            );
          }
    ]
