-- The one writer has seen the whole log, so a store that is legal behind what it has seen is legal in the table.
use Rattle.std.proofs.Common.{[], ◌∷◌, ◌++◌, sym, subst, rules}
use Rattle.kc_table.specs.Log.{Seen, event}
use Rattle.kc_table.specs.Legal.{Legal}
use Rattle.kc_table.proofs.Steps.{store-keeps_rule}
use Rattle.kc_table.proofs.table.store.Goals as goal

pub store-requires : goal.store-requires
store-requires c = (
  search rules,
  search rules,
  store-keeps_rule _ _ _ _ _ _ c.writer.invariant.1 c.writer.invariant.2
      (subst (λ (x : Seen). Legal x.table.shape x.table.opening (x.log ++ event c.args.word c.args.value ∷ [])) (sym c.writer.view_is) c.requires.legal),
)
