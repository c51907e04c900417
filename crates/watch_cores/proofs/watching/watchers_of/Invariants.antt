-- The readers that are left have seen the first list.
use Rattle.std.proofs.Common.{◌≡◌, ◌∷◌, [], All, List}
use Rattle.kc_snapshot.specs.declared.member.Member.{Member}
use Rattle.kc_snapshot.specs.Histories.{member}
use Rattle.watch_cores.proofs.watching.watchers_of.Given as goal

abbrev pub invariant-loop-vertex : goal.invariant-loop-vertex
invariant-loop-vertex g l = All (λ (reader : List Member). reader ≡ member l.first ∷ []) l.readers.items
