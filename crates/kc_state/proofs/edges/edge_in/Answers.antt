-- The second end is the number of an id.
use Rattle.std.proofs.Common.{◌≡◌, ◌<◌, ℕ, true, false, Bool, List, length, cond, nat_eq, refl, subst, sym, Some, None}
use Rattle.std.specs.Prelude.{IfOk, Result, Ok, Err}
use Rattle.std.specs.Set.{is_member}
use Rattle.kc_text.specs.Inputs.{place}
use Rattle.kc_text.proofs.Places.{place-below}
use Rattle.kc_stream.specs.Ids.{number_of}
use Rattle.kc_state.proofs.edges.edge_in.Goals as goal

-- the number of an id is one of those that are given
number-within : (ids : List ℕ) (id v : ℕ) → number_of ids id ≡ Some v → v < length ids
number-within ids id v e = go (is_member nat_eq ids id) (place-below ids id) e
  where
    go : (b : Bool) → (b ≡ true → place ids id < length ids) → cond b (Some (place ids id)) None ≡ Some v → v < length ids
    go true h is = let same : place ids id ≡ v = cc in subst (λ n. n < length ids) same (h refl)
    go false h is = absurd (cc)

-- an edge between two vertices has its ends below what the second is below
edge-within : {E : Type 0} (r : Result (ℕ × ℕ) E) (u v n : ℕ) → v < n → IfOk r (λ (edge : ℕ × ℕ). (edge ≡ (u, v)) × (u < v))
    → IfOk r (λ (edge : ℕ × ℕ). (edge.0 < edge.1) × (edge.1 < n))
edge-within (Ok edge) u v n l (is, less) = subst (λ (e : ℕ × ℕ). (e.0 < e.1) × (e.1 < n)) (sym is) (less, l)
edge-within (Err kind) u v n l h = tt

pub returns-in-Some-Some : goal.returns-in-Some-Some
returns-in-Some-Some c =
    edge-within c.edge_behind.result c.in-Some-Some.u c.in-Some-Some.v (length c.args.ids.now)
    (number-within c.args.ids.now c.in-Some.b c.in-Some-Some.v (cc)) c.edge_behind.ensures
