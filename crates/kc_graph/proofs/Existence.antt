-- Each graph has core numbers: vertices are taken one by one, with no code.
use Rattle.std.proofs.Common.{◌≡◌, ◌≢◌, ◌≤◌, ◌<◌, ◌+◌, ◌-◌, ℕ, suc, zero, Bool, true, false, not, ◌&&◌, ◌++◌, ◌⊎◌, List, [], ◌∷◌, length, set}
use Rattle.std.proofs.Common.{replicate, sym, ap, ◌∙◌, inl, inr, arith, nat_le, leb-true, le-leb, length-append, length-set, true≢false}
use Rattle.std.proofs.lemmas.Bool.{cases_Bool, cases_eq, cases_lt, and_parts, and_from, false≢true, not-true, true_from_ne_false, eqb-false}
use Rattle.std.proofs.lemmas.List.{get_or-set_same, get_or-set_other, get_or-replicate, length-replicate}
use Rattle.kc_lists.specs.Lists.{member}
use Rattle.kc_lists.proofs.Members.{below_bound}
use Rattle.kc_lists.proofs.Counting.{member-push_none}
use Rattle.kc_graph.specs.SimpleGraph.{SimpleGraph}
use Rattle.kc_graph.specs.Certificate.{Certifies}
use Rattle.kc_graph.specs.Peeling.{at, IsPeeledTo, remaining}
use Rattle.kc_graph.proofs.PeelingLemmas.{peeling-starts, level-raised, take_one, peeling-finishes, remaining-lt}

-- one of the first numbers that passes, or none does
first_of_them : (p : ℕ → Bool) (n : ℕ) → ((v : ℕ) × (v < n) × (p v ≡ true)) ⊎ ((v : ℕ) → v < n → p v ≡ false)
first_of_them p zero = inr (λ v l. absurd (omega arith))
first_of_them p (suc n) = elim (cases_Bool (p n)) [
  | inl t ↦ inl (n, omega arith, t)
  | inr f ↦ elim (first_of_them p n) [
    | inl w ↦ inl (w.0, omega (arith, w.1), w.2)
    | inr none ↦ inr (λ v l. elim (cases_eq v n) [ inl e ↦ ap p e ∙ f | inr ne ↦ none v (omega arith) ])
  ]
]

-- no more vertices are taken than there are
few_taken : (g : SimpleGraph) (level : ℕ) (core taken : List ℕ) → IsPeeledTo g level core taken → length taken ≤ g.size
few_taken g level core taken p = below_bound g.size taken p.distinct p.within

-- the number of each vertex that is left is the number of vertices
abbrev IsUntouched : SimpleGraph → List ℕ → List ℕ → Type 0
IsUntouched g core taken = (v : ℕ) → v < g.size → member v taken ≡ false → at core v ≡ g.size

-- whether a vertex is left and has at most this many neighbours left
abbrev is_next : SimpleGraph → ℕ → List ℕ → ℕ → Bool
is_next g level taken v = not (member v taken) && nat_le (remaining g taken v) level

-- a vertex that is left with few neighbours may be taken, and those left stay untouched
take_next : (g : SimpleGraph) (level v : ℕ) (core taken : List ℕ) → IsPeeledTo g level core taken → IsUntouched g core taken → level ≤ g.size
    → v < g.size → member v taken ≡ false → remaining g taken v ≤ level
    → IsPeeledTo g level (set core v level) (taken ++ v ∷ []) × IsUntouched g (set core v level) (taken ++ v ∷ [])
take_next g level v core taken p high fits l left few =
    let same : (w : ℕ) → w ≢ v → at (set core v level) w ≡ at core w = λ w ne. get_or-set_other core v w level 0 ne in (
      take_one g level v core taken (set core v level) p l left few
          (record {
            one_each = length-set core v level;
            taken_same = λ w m. same w (λ e. true≢false (sym m ∙ (ap (λ n. member n taken) e ∙ left)));
            here = get_or-set_same core v level 0 (omega (arith, p.one_each));
            left = λ w lw out ne. omega (arith, same w ne, high w lw out);
          }),
      λ w lw out. let k = member-push_none w v taken out in same w (eqb-false w v k.1) ∙ high w lw k.0,
    )

-- where some are taken and the others untouched, the rest can be taken, in an order that certifies the numbers
rest-peeled : (fuel : ℕ) (g : SimpleGraph) (level : ℕ) (core taken : List ℕ) → IsPeeledTo g level core taken → IsUntouched g core taken
    → level ≤ g.size → (g.size - level) + (g.size - length taken) < fuel
    → (core' : List ℕ) × (order : List ℕ) × Certifies g core' order
rest-peeled zero g level core taken p high fits h = absurd (omega arith)
rest-peeled (suc fuel) g level core taken p high fits h = elim (first_of_them (is_next g level taken) g.size) [
  | inl w ↦
      let parts = and_parts (not (member w.0 taken)) (nat_le (remaining g taken w.0) level) w.2 in
      let left : member w.0 taken ≡ false = not-true (member w.0 taken) parts.0 in
      let more = take_next g level w.0 core taken p high fits w.1 left (leb-true (remaining g taken w.0) level parts.1) in
      rest-peeled fuel g level (set core w.0 level) (taken ++ w.0 ∷ []) more.0 more.1 fits
      (omega (arith, few_taken g level (set core w.0 level) (taken ++ w.0 ∷ []) more.0, length-append taken (w.0 ∷ [])))
  | inr none ↦
      let many : (v : ℕ) → v < g.size → member v taken ≡ false → level < remaining g taken v = λ v l left. elim (cases_lt level (remaining g taken v)) [
        | inl lt ↦ lt
        | inr le ↦
            absurd
            (false≢true
            (sym (none v l)
            ∙ and_from (not (member v taken)) (nat_le (remaining g taken v) level) (ap not left)
            (le-leb (remaining g taken v) level le)))
      ] in
      elim (cases_lt level g.size) [
        | inl lt ↦
            rest-peeled fuel g (level + 1) core taken (level-raised g level core taken p (λ v l left. (omega (arith, high v l left), many v l left))) high
            (omega arith) (omega arith)
        | inr ge ↦ (
          core,
          taken,
          peeling-finishes g level core taken p
              (λ v l.
              true_from_ne_false (member v taken)
              (λ left.
              let a : level < remaining g taken v = many v l left in
              let b : remaining g taken v < g.size = remaining-lt g taken v l in absurd (omega arith))),
        )
      ]
]

-- each graph has numbers with an order that certifies them
pub certificate_exists : (g : SimpleGraph) → (core : List ℕ) × (order : List ℕ) × Certifies g core order
certificate_exists g =
    let full : List ℕ = replicate g.size g.size in
    rest-peeled (g.size + g.size + 1) g 0 full [] (peeling-starts g full (length-replicate g.size g.size)) (λ v l _. get_or-replicate g.size v g.size 0 l)
    (omega arith) (omega arith)
