-- Sorted by their places the vertices stand in the list's order.
use Rattle.std.proofs.Common.{rules, ℕ, List, eqb, sym, ◌∙◌, subst}
use Rattle.std.specs.List.Sorted.{IsPermutation}
use Rattle.std.proofs.lemmas.List.Sorted.{IsNonDecreasingBy-from_sort_by, list_any-IsPermutation}
use Rattle.kc_lists.specs.Lists.{place_of}
use Rattle.kc_lists.proofs.Counting.{Distinct-permutation}
use Rattle.kc_order.specs.Standing.{list_after}
use Rattle.kc_topo.proofs.Sorting.{sorted-turn}
use Rattle.kc_topo.proofs.searching.in_list_order.Goals as goal

pub returns-clause-turn : goal.returns-clause-turn
returns-clause-turn c =
    let list = list_after c.args.writer.now.table c.args.writer.now.log in
    let run = c.sort_unstable_by.new.self.items in
    let p : IsPermutation c.args.vertices.now run = subst (λ (zs : List ℕ). IsPermutation zs run) c.in_ok-run.ensures.items
    c.sort_unstable_by.ensures.permutation in
    sorted-turn list run (IsNonDecreasingBy-from_sort_by (λ x. place_of x list) _ c.sort_unstable_by.ensures.sorted (λ a r q k. search rules))
    (Distinct-permutation c.args.vertices.now run p c.requires.distinct)
    (λ v m. c.requires.listed v (list_any-IsPermutation (eqb v) c.args.vertices.now run p ∙ m))

pub returns-clause-members : goal.returns-clause-members
returns-clause-members c = λ v.
    let run = c.sort_unstable_by.new.self.items in
    let p : IsPermutation c.args.vertices.now run = subst (λ (zs : List ℕ). IsPermutation zs run) c.in_ok-run.ensures.items
    c.sort_unstable_by.ensures.permutation in
    sym (list_any-IsPermutation (eqb v) c.args.vertices.now run p)
