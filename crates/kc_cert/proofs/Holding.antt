-- What the certificate asks at a vertex of the state after a plan, by counts over all vertices.
use Rattle.std.proofs.Common.{◌≡◌, ◌≤◌, ◌<◌, ◌+◌, ℕ, Bool, true, false, ◌&&◌, ◌||◌, List, [], ◌∷◌, drop, length, get_or, set, eqb, leb, refl, sym}
use Rattle.std.proofs.Common.{◌∙◌, ap, inl, inr, arith, true≢false, eq-eqb, ne_eqb, length-set}
use Rattle.std.specs.Prelude.{count_by}
use Rattle.std.proofs.lemmas.Bool.{cases_Bool, cases_eq, or_parts}
use Rattle.std.proofs.lemmas.List.{get_or-set_same, get_or-set_other}
use Rattle.kc_lists.specs.Lists.{member, Distinct, below, place_of}
use Rattle.kc_lists.proofs.Counting.{member-below, Distinct-below}
use Rattle.kc_graph.specs.SimpleGraph.{SimpleGraph, adjacent, degree_among}
use Rattle.kc_graph.specs.Plans.{renumbered}
use Rattle.kc_cert.specs.Local.{HoldsAt}
use Rattle.kc_cert.specs.Ranks.{Orders}
use Rattle.kc_cert.proofs.Placing.{Orders-distinct, later-count}
use Rattle.kc_cert.proofs.Sums.{count-same}

-- there are as many numbers after some were written
pub length-renumbered : (moved : List ℕ) (k : ℕ) (core : List ℕ) → length (renumbered moved k core) ≡ length core
length-renumbered [] k core = refl
length-renumbered (v ∷ moved) k core = length-renumbered moved k (set core v k) ∙ length-set core v k

-- the number of a vertex that did not move
pub renumbered-other : (moved : List ℕ) (k : ℕ) (core : List ℕ) (y : ℕ) → member y moved ≡ false → get_or (renumbered moved k core) y 0 ≡ get_or core y 0
renumbered-other [] k core y n = refl
renumbered-other (v ∷ moved) k core y n =
    let p = or_parts (eqb y v) (member y moved) n in
    renumbered-other moved k (set core v k) y p.1 ∙ get_or-set_other core v y k 0 (λ e. true≢false (sym (eq-eqb y v e) ∙ p.0))

-- the number of one that did
pub renumbered-moved : (moved : List ℕ) (k : ℕ) (core : List ℕ) (y : ℕ) → y < length core → (member y moved ≡ true) → get_or (renumbered moved k core) y 0 ≡ k
renumbered-moved [] k core y l m = absurd (true≢false (sym m))
renumbered-moved (v ∷ moved) k core y l m = elim (cases_Bool (member y moved)) [
  | inl there ↦ renumbered-moved moved k (set core v k) y (omega (arith, l, length-set core v k)) there
  | inr none ↦ elim (cases_eq y v) [
    | inl e ↦ renumbered-other moved k (set core v k) y none ∙ (ap (λ n. get_or (set core n k) y 0) (sym e) ∙ get_or-set_same core y k 0 l)
    | inr ne ↦ absurd (true≢false (sym m ∙ (ap (λ b. b || member y moved) (ne_eqb y v ne) ∙ none)))
  ]
]

-- an order by a test, and counts over all vertices
pub holds-from : (g : SimpleGraph) (core order : List ℕ) (lt : ℕ → ℕ → Bool) → ((y : ℕ) → lt y y ≡ false) → Orders lt order
    → ((y : ℕ) → member y order ≡ member y (below g.size)) → (z : ℕ) → z < g.size
    → count_by (λ y. adjacent g z y && lt z y) (below g.size) ≤ get_or core z 0
    → get_or core z 0 ≤ count_by (λ y. adjacent g z y && leb (get_or core z 0) (get_or core y 0)) (below g.size)
    → HoldsAt (record { graph = g; core = core; order = order }) z
holds-from g core order lt none orders all z l few enough =
    let once : Distinct order = Orders-distinct lt order none orders in
    let there : member z order ≡ true = all z ∙ member-below z g.size l in
    let high : ℕ → Bool = λ y. adjacent g z y && leb (get_or core z 0) (get_or core y 0) in
    let late : ℕ → Bool = λ y. adjacent g z y && lt z y in
    let passing : degree_among g (drop (place_of z order + 1) order) z ≡ count_by late order = later-count lt (adjacent g z) z order none orders there in
    let same : count_by late order ≡ count_by late (below g.size) = count-same late order (below g.size) once (Distinct-below g.size) all in
    let same' : count_by high order ≡ count_by high (below g.size) = count-same high order (below g.size) once (Distinct-below g.size) all in
    record { few_later = omega (arith, passing, same, few); enough_as_high = omega (arith, same', enough) }
