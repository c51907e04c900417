-- Sorted by their ids, the changes stand in order.
use Rattle.std.proofs.Common.{rules, List}
use Rattle.std.specs.List.Sorted.{IsNonDecreasingBy}
use Rattle.std.proofs.lemmas.List.Sorted.{IsNonDecreasingBy-from_sort_by_key}
use Rattle.kc_changes.specs.declared.id_change.IdChange.{IdChange}
use Rattle.kc_changes.proofs.InOrder.{sorted-in_order}
use Rattle.kc_changes.proofs.telling.sort_by_id.Goals as goal

pub returns : goal.returns
returns c before after ids are =
    let sorted : List IdChange = c.sort_unstable_by_key.new.self in
    let rises : IsNonDecreasingBy (λ (x : IdChange). x.id) sorted =
    IsNonDecreasingBy-from_sort_by_key (λ (x : IdChange). x.id) sorted c.sort_unstable_by_key.ensures.sorted (λ a r f' k. search rules) in
    sorted-in_order before after ids c.args.changes.now sorted are c.sort_unstable_by_key.ensures.permutation rises
