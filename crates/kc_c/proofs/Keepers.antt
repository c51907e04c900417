-- What lies at a place, where a keeper lies there.
use Rattle.std.proofs.Common.{◌≡◌, sym, subst}
use Rattle.std.specs.Prelude.{Option, Some}
use Rattle.kc_graph.specs.Lawful.{Ranked}
use Rattle.kc_c.specs.Keeping.{AtKeeper}
use Rattle.kc_c.specs.declared.answer.CallResult.{CallResult}

-- what becomes of the keeper that is known to lie there becomes of the place
pub at-place : (Becomes : Ranked → Ranked → CallResult → Type 0) (content : Option Ranked) (keeper old new : Ranked) (answer told : CallResult)
    → content ≡ Some keeper → old ≡ keeper → told ≡ answer → Becomes old new answer → AtKeeper Becomes content (Some new) told
at-place Becomes content keeper old new answer told is keeper-is told-is h =
    subst (λ (o : Option Ranked). AtKeeper Becomes o (Some new) told) (sym is)
    (subst (λ (k : Ranked). Becomes k new told) keeper-is (subst (λ (a : CallResult). Becomes old new a) (sym told-is) h))
