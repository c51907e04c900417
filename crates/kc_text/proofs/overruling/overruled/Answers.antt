-- The updates that a later one overrules are marked among the sorted ranks.
use Rattle.std.proofs.Common.{◌≡◌, ◌<◌, ◌%◌, ℕ, List, length, sym, ap, subst, ◌∙◌, arith}
use Rattle.std.specs.Prelude.{All}
use Rattle.std.specs.List.Sorted.{IsNonDecreasingBy}
use Rattle.std.proofs.lemmas.List.Sorted.{IsNonDecreasingBy-from_sort, length_permutation}
use Rattle.kc_text.specs.Deciding.{MarksFollowed}
use Rattle.kc_text.specs.declared.overruling.TheConstants.{NUMBERS}
use Rattle.kc_text.proofs.Ranked.{both-ok, overruled-are, places-within}
use Rattle.kc_text.proofs.overruling.overruled.Goals as goal

pub mark_followed-requires : goal.mark_followed-requires
mark_followed-requires c =
    let ranks : List ℕ = c.in_ok-ranks.ranks.items in
    let sorted : List ℕ = c.sort_unstable.new.self.items in
    let count : length sorted ≡ length c.args.updates.now = length_permutation ranks sorted c.sort_unstable.ensures.permutation ∙ c.in_ok-ranks.ensures.count in
    subst (λ (t : List ℕ). All (λ r. r % NUMBERS < length t) t) (sym c.deref.ensures.value)
    (subst (λ n. All (λ r. r % NUMBERS < n) sorted) (sym count) (places-within c.args.updates.now ranks sorted (omega arith) c.in_ok-ranks.ensures
    c.sort_unstable.ensures.permutation))

pub returns : goal.returns
returns c =
    let ranks : List ℕ = c.in_ok-ranks.ranks.items in
    let sorted : List ℕ = c.sort_unstable.new.self.items in
    let up : IsNonDecreasingBy (λ (x : ℕ). x) sorted = IsNonDecreasingBy-from_sort (λ (x : ℕ). x) sorted c.sort_unstable.ensures.sorted in
    both-ok c.mark_followed.result c.mark_followed.ensures.count c.mark_followed.ensures.marks (λ marks count followed.
    overruled-are c.args.updates.now ranks sorted marks.items (omega arith) c.in_ok-ranks.ensures c.sort_unstable.ensures.permutation up
    (count ∙ (ap (length) c.deref.ensures.value ∙ (length_permutation ranks sorted c.sort_unstable.ensures.permutation ∙ c.in_ok-ranks.ensures.count)))
    (subst (λ (t : List ℕ). MarksFollowed t marks.items) c.deref.ensures.value followed))
