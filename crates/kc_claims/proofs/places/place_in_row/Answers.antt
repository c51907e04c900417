-- A number of the row stands at its distance from the first, and another one at no place.
use Rattle.std.proofs.Common.{◌-◌, ◌∙◌, arith}
use Rattle.kc_claims.proofs.Rising.{no_id}
use Rattle.kc_claims.proofs.places.place_in_row.Goals as goal

pub returns-clause-found : goal.returns-clause-found
returns-clause-found c = (omega arith, c.requires (c.args.id - c.args.first) (omega arith) ∙ omega arith)

pub returns-then-id-first-clause-none : goal.returns-then-id-first-clause-none
returns-then-id-first-clause-none c = λ _. no_id c.args.ids.now c.args.id (λ v l e. absurd (omega (arith, c.requires v l, e)))

pub returns-then-v-ids-clause-none : goal.returns-then-v-ids-clause-none
returns-then-v-ids-clause-none c = λ _. no_id c.args.ids.now c.args.id (λ v l e. absurd (omega (arith, c.requires v l, e)))
