-- The id is new, so it stands behind the others, and none stands twice.
use Rattle.std.proofs.Common.{◌≡◌, ◌<◌, ◌++◌, ℕ, true, false, Bool, List, [], ◌∷◌, length, arith, cond, nat_eq, rules, subst, sym, Some, None}
use Rattle.std.proofs.lemmas.Bool.{true≢false}
use Rattle.std.proofs.lemmas.Grind.{common_steps}
use Rattle.std.specs.Prelude.{MatchOption, Option, is_none}
use Rattle.std.specs.Set.{is_member}
use Rattle.kc_lists.specs.Lists.{Distinct}
use Rattle.kc_lists.proofs.Counting.{Distinct-push}
use Rattle.kc_text.specs.Inputs.{place}
use Rattle.kc_words.specs.declared.layout.TheConstants.{VERTICES}
use Rattle.kc_stream.specs.Ids.{with_name}
use Rattle.kc_state.proofs.vertices.take_vertex.Goals as goal

-- a new id behind the others is none of them
new-once : (found : Bool) (ids new : List ℕ) (id : ℕ) → found ≡ false → is_member nat_eq ids id ≡ false → new ≡ cond found ids (ids ++ id ∷ [])
    → Distinct ids → Distinct new
new-once true ids new id none out e once = absurd (true≢false none)
new-once false ids new id none out e once = subst Distinct (sym e) (Distinct-push ids id once out)

-- an id that was named and is new leaves no id twice
named-once : (number : Option ℕ) (ids new : List ℕ) (id : ℕ) → is_none number ≡ false → is_member nat_eq ids id ≡ false
    → MatchOption number (VERTICES < length (with_name ids id)) (λ v. (new ≡ with_name ids id) × (v ≡ place new id) × (is_member nat_eq new id ≡ true))
    → Distinct ids → Distinct new
named-once None ids new id some out named once = absurd (true≢false some)
named-once (Some v) ids new id some out named once = new-once (is_member nat_eq ids id) ids new id out out named.0 once

pub returns-clause-once : goal.returns-clause-once
returns-clause-once c = λ once.
    let some : is_none c.in_ok-name.field-0 ≡ false = first_of (search rules, grind (arith, common_steps)) in
    let out : is_member nat_eq c.args.told.now.ids c.args.triple.0 ≡ false = first_of (search rules, grind (arith, common_steps)) in
    named-once c.in_ok-name.field-0 c.args.told.now.ids c.name.new.self c.args.triple.0 some out c.in_ok-name.ensures.number once
