-- A sort keeps the members, and without their repeats they ascend strictly and are the same numbers.
use Rattle.std.proofs.Common.{◌≡◌, ℕ, List, eqb, nat_eq, sym, ap, subst, ◌∙◌}
use Rattle.std.specs.List.{dedup}
use Rattle.std.specs.List.Sorted.{IsStrictlyIncreasing}
use Rattle.std.specs.Set.{is_member}
use Rattle.std.proofs.lemmas.List.Filters.{dedup_is}
use Rattle.std.proofs.lemmas.List.Sorted.{list_any-IsPermutation}
use Rattle.std.proofs.lemmas.Map.Keys.{IsStrictlyIncreasing-dedup}
use Rattle.kc_text.proofs.Members.{is_member-dedup}
use Rattle.kc_changes.proofs.Ascending.{ascending-is}
use Rattle.kc_answers.proofs.listing.put_in_order.Goals as goal

pub returns : goal.returns
returns c =
    let old : List ℕ = c.args.ids.now.items in
    let sorted : List ℕ = c.sort_unstable.new.self.items in
    let e : c.dedup.new.self.items ≡ dedup eqb sorted = dedup_is eqb sorted c.dedup.new.self.items c.dedup.ensures.filtered in
    sym (ascending-is c.dedup.new.self.items old
    (subst IsStrictlyIncreasing (sym e) (IsStrictlyIncreasing-dedup sorted c.sort_unstable.ensures.sorted))
    (λ q. ap (λ (t : List ℕ). is_member nat_eq t q) e ∙ is_member-dedup sorted q
    ∙ sym (list_any-IsPermutation (eqb q) _ sorted c.sort_unstable.ensures.permutation)))
