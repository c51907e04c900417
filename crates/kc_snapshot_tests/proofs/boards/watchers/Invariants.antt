-- The readers that are left have seen the first list.
use Rattle.std.proofs.Common.{◌≡◌, ◌∷◌, [], All, List}
use Rattle.kc_snapshot.specs.declared.member.Member.{Member}
use Rattle.kc_snapshot.specs.Histories.{member}
use Rattle.kc_snapshot_tests.proofs.boards.watchers.Given as goal

abbrev pub invariant-loop : goal.invariant-loop
invariant-loop g l = All (λ (reader : List Member). reader ≡ member l.first ∷ []) l.readers.items
