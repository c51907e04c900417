-- A sort and the loss of repeats make ids that ascend.
use Rattle.std.proofs.Common.{◌≡◌, ℕ, List, eqb, subst, sym}
use Rattle.std.specs.List.{dedup}
use Rattle.std.specs.List.Sorted.{IsStrictlyIncreasing}
use Rattle.std.proofs.lemmas.List.Filters.{dedup_is}
use Rattle.std.proofs.lemmas.Map.Keys.{IsStrictlyIncreasing-dedup}
use Rattle.kc_claims.proofs.claimed.ascending.Goals as goal

pub returns : goal.returns
returns c =
    let sorted : List ℕ = c.sort_unstable.new.self.items in
    let e : c.dedup.new.self.items ≡ dedup eqb sorted = dedup_is eqb sorted c.dedup.new.self.items c.dedup.ensures.filtered in
    subst IsStrictlyIncreasing (sym e) (IsStrictlyIncreasing-dedup sorted c.sort_unstable.ensures.sorted)
