-- Counts of neighbours in a search.
use Rattle.std.proofs.Common.{◌≡◌, ◌≢◌, ◌≤◌, ◌<◌, ◌+◌, ℕ, Bool, true, false, ◌&&◌, inl, inr, arith}
use Rattle.std.proofs.lemmas.Bool.{cases_Bool, and_parts, and_from}
use Rattle.kc_lists.specs.Lists.{below}
use Rattle.kc_lists.proofs.Counting.{member-below, below-member, Distinct-below, count-agree, count-mono, one_if}
use Rattle.kc_cert.proofs.Sums.{count-one-in, count-some, count-sum}
use Rattle.kc_view.specs.Search.{Search, among}

-- where a first condition holds, a second may be replaced by one that agrees with it
and-agree : (a b b' : Bool) → (a ≡ true → b ≡ b') → (a && b) ≡ (a && b')
and-agree a b b' h = grind arith

-- tests that agree at each neighbour
pub among-agree : (s : Search) (z : ℕ) (p q : ℕ → Bool) → ((y : ℕ) → y < s.size → s.adj z y ≡ true → p y ≡ q y) → among s z p ≡ among s z q
among-agree s z p q same =
    count-agree (λ y. s.adj z y && p y) (λ y. s.adj z y && q y) (below s.size) (λ y m. and-agree (s.adj z y) (p y) (q y) (same y (below-member y s.size m)))

-- tests that differ at one vertex
pub among-one : (s : Search) (z v : ℕ) (p q : ℕ → Bool) → v < s.size → q v ≡ false → p v ≡ true
    → ((y : ℕ) → y < s.size → s.adj z y ≡ true → y ≢ v → p y ≡ q y) → among s z p ≡ among s z q + one_if (s.adj z v)
among-one s z v p q l qv pv same =
    let one =
    count-one-in (λ y. s.adj z y && p y) (λ y. s.adj z y && q y) v (below s.size) (Distinct-below s.size) (member-below v s.size l)
    (grind (arith, qv))
    (λ y m ne. and-agree (s.adj z y) (p y) (q y) (λ a. same y (below-member y s.size m) a ne)) in
    let here : one_if (s.adj z v && p v) ≡ one_if (s.adj z v) = grind (arith, pv) in
    omega (arith, one, here)

-- a test that passes wherever another does
pub among-mono : (s : Search) (z : ℕ) (p q : ℕ → Bool) → ((y : ℕ) → y < s.size → s.adj z y ≡ true → p y ≡ true → q y ≡ true) → among s z p ≤ among s z q
among-mono s z p q more =
    count-mono (λ y. s.adj z y && p y) (λ y. s.adj z y && q y) (below s.size)
    (λ y m t. let k = and_parts (s.adj z y) (p y) t in and_from _ _ k.0 (more y (below-member y s.size m) k.0 k.1))

-- where a neighbour passes, the count is above 0
pub among-some : (s : Search) (z : ℕ) (p : ℕ → Bool) (v : ℕ) → v < s.size → s.adj z v ≡ true → p v ≡ true → 0 < among s z p
among-some s z p v l a pv = count-some (λ y. s.adj z y && p y) v (below s.size) (member-below v s.size l) (and_from (s.adj z v) (p v) a pv)

-- what two tests say of a neighbour sums up to what one does, where it does so of any vertex that is one
and-sum : (a p q r : Bool) → (a ≡ true → one_if r ≡ one_if p + one_if q) → one_if (a && r) ≡ one_if (a && p) + one_if (a && q)
and-sum a p q r h = elim (cases_Bool a) [ inl t ↦ let k = h t in grind (arith, t, k) | inr f ↦ grind (arith, f) ]

-- two tests that never both pass
pub among-sum : (s : Search) (z : ℕ) (p q r : ℕ → Bool)
    → ((y : ℕ) → y < s.size → s.adj z y ≡ true → one_if (r y) ≡ one_if (p y) + one_if (q y)) → among s z r ≡ among s z p + among s z q
among-sum s z p q r h =
    count-sum (λ y. s.adj z y && p y) (λ y. s.adj z y && q y) (λ y. s.adj z y && r y) (below s.size)
    (λ y m. and-sum (s.adj z y) (p y) (q y) (r y) (h y (below-member y s.size m)))

-- a test counts at most once
pub at_most_one : (b : Bool) → one_if b ≤ 1
at_most_one b = grind arith
