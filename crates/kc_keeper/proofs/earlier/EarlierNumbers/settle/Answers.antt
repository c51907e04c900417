-- The numbers of now are put beside the others, those that are the same go, and the rest is sorted.
use Rattle.std.proofs.Common.{rules, ◌≡◌, ◌++◌, ℕ, List, length, drop, map, ap, ◌∙◌, subst, take, arith}
use Rattle.std.specs.List.{filter}
use Rattle.std.specs.List.Sorted.{IsNonDecreasingBy, IsPermutation}
use Rattle.std.proofs.lemmas.Fn.{filter_same}
use Rattle.std.proofs.lemmas.List.{append-nil, drop_all, length-map, take_all}
use Rattle.std.proofs.lemmas.List.Sorted.{IsNonDecreasingBy-from_sort_by_key}
use Rattle.kc_keeper.specs.Earlier.{with_number_now}
use Rattle.kc_keeper.specs.declared.changes.CoreChange.{CoreChange}
use Rattle.kc_keeper.proofs.Settling.{differs, settled, settled-changes}
use Rattle.kc_keeper.proofs.earlier.EarlierNumbers.settle.Goals as goal

-- a list that is written over by one of the same length is that one
written-over : (n : ℕ) (old new : List CoreChange) → n ≡ length old → length new ≡ length old → take n (new ++ drop (length new) old) ≡ new
written-over n old new is same =
    ap (take n) (ap (λ (rest : List CoreChange). new ++ rest) (drop_all (length new) old (omega (arith, same))) ∙ append-nil new)
    ∙ take_all n new (omega (arith, is, same))

pub returns : goal.returns
returns c start h =
    let cs : List CoreChange = c.args.self.now.cores.items in
    let core : List ℕ = c.args.core.now in
    let put : c.put_numbers.new.changes ≡ map (with_number_now core) cs =
    c.put_numbers.ensures ∙ ap (map (with_number_now core)) c.deref_mut.ensures.value in
    let same : length c.put_numbers.new.changes ≡ length cs = ap (length {A = CoreChange}) put ∙ length-map cs (with_number_now core) in
    let written = written-over c.args.self.now.cores.len cs c.put_numbers.new.changes c.args.self.now.cores.ok.0 same ∙ put in
    let is : c.retain.new.self.items ≡ settled core cs =
    filter_same _ differs _ (λ x b f' r. search rules) _ _ c.retain.ensures.filtered ∙ ap (filter differs) written in
    let sorted : List CoreChange = c.sort_unstable_by_key.new.self.items in
    let rises : IsNonDecreasingBy (λ (x : CoreChange). x.vertex) sorted =
    IsNonDecreasingBy-from_sort_by_key (λ (x : CoreChange). x.vertex) sorted c.sort_unstable_by_key.ensures.sorted (λ a r f' k. search rules) in
    settled-changes sorted h (subst (λ (zs : List CoreChange). IsPermutation zs sorted) is c.sort_unstable_by_key.ensures.permutation) rises
