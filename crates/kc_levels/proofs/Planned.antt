-- The puts of a plan's moves give the list with heads of the state after the plan.
use Rattle.std.proofs.Common.{◌⊎◌, ◌≡◌, ◌≢◌, ◌<◌, ◌+◌, ◌-◌, ℕ, zero, suc, Bool, true, false, not, ◌&&◌, ◌||◌, List, [], ◌∷◌, ◌++◌, length, get_or}
use Rattle.std.proofs.Common.{set, eqb, ltb, leb, refl, sym, ◌∙◌, ap, ap₂, subst, inl, inr, arith, true≢false, ne_eqb, append-nil, append_assoc}
use Rattle.std.specs.List.{filter}
use Rattle.std.proofs.lemmas.Bool.{cases_Bool, cases_lt, false_from_ne_true, lt-ltb, le-ltb, le-leb, lt-leb, not-true, and_parts}
use Rattle.std.proofs.lemmas.List.{set-get_or}
use Rattle.std.proofs.lemmas.List.Elements.{filter-append}
use Rattle.kc_lists.specs.Lists.{member, Distinct, without, prev_of}
use Rattle.kc_lists.proofs.Members.{member-head, member-tail, member-append_left, member-append_right, append-not_member}
use Rattle.kc_lists.proofs.Members.{Distinct-cut, Distinct-right_after, Distinct-without, not_member-without}
use Rattle.kc_lists.proofs.Counting.{member-filter, member-below, below-member, Distinct-filter, member-push}
use Rattle.kc_lists.proofs.Shared.{Distinct-append, Distinct-front, or-turned}
use Rattle.kc_graph.specs.Lawful.{Ranked}
use Rattle.kc_graph.specs.Certificate.{Enumerates}
use Rattle.kc_graph.specs.Plans.{put_between, shifted, renumbered, moved_by}
use Rattle.kc_graph.specs.declared.plan.Moves.{Moves}
use Rattle.kc_graph.specs.declared.plan.Moves.TheVariants.{Kept, Plain, Rise, Fall}
use Rattle.kc_cert.specs.Local.{firsts, seconds, AreInTurn, MovesFit}
use Rattle.kc_cert.proofs.Placing.{put_after-has, shifted-has}
use Rattle.kc_cert.proofs.Ordered.{order-has, order-distinct}
use Rattle.kc_cert.proofs.Final.{final-has}
use Rattle.kc_cert.proofs.Holding.{length-renumbered, renumbered-other, renumbered-moved}
use Rattle.kc_levels.specs.Heads.{level_part, with_heads, put, put_each_first, put_each_last, after_puts, up_to, under}
use Rattle.kc_levels.proofs.Cuts.{filter-all, filter-alike, filter-none, filter-filter, filter-swap}
use Rattle.kc_levels.proofs.Heading.{parts-alike, low-part, high-part, put-after, put-front, put-back}

-- vertices of one level, each below `n`
abbrev pub AreOf : ℕ → List ℕ → ℕ → List ℕ → Type 0
AreOf n core level xs = (x : ℕ) → member x xs ≡ true → (x < n) × (get_or core x 0 ≡ level)

-- shifts within a level
pub shifts-made : (n level : ℕ) (core : List ℕ) (shifts : List (ℕ × ℕ)) (order : List ℕ) → length core ≡ n
    → ((y : ℕ) → member y order ≡ true → y < n) → ((y : ℕ) → y < n → member y order ≡ true)
    → AreInTurn shifts → AreOf n core level (firsts shifts) → AreOf n core level (seconds shifts)
    → shifted shifts (with_heads n order core) ≡ with_heads n (shifted shifts order) core
shifts-made n level core [] order long within all turn f s = refl
shifts-made n level core (shift ∷ shifts) order long within all turn f s =
    let x : ℕ = shift.0 in
    let w : ℕ = shift.1 in
    let hx = f x (member-head x (firsts shifts)) in
    let hw = s w (member-head w (seconds shifts)) in
    let ne : w ≢ x = λ e. true≢false (sym (ap (λ (k : ℕ). member k (x ∷ firsts shifts)) e ∙ member-head x (firsts shifts)) ∙ turn.0) in
    let same : (y : ℕ) → member y (put x w order) ≡ member y order = put_after-has x w order (all x hx.0) (all w hw.0) ne in
    let core-same : set core x (get_or core w 0) ≡ core = ap (set core x) (hw.1 ∙ sym hx.1) ∙ set-get_or core x 0 in
    let one : put x w (with_heads n order core) ≡ with_heads n (put x w order) core =
    put-after n x w order core within hx.0 hw.0 (omega (arith, hx.0, long)) ne ∙ ap (with_heads n (put x w order)) core-same in
    ap (shifted shifts) one
    ∙ shifts-made n level core shifts (put x w order) long (λ y m. within y (sym (same y) ∙ m)) (λ y l. same y ∙ all y l) turn.1
    (λ y m. f y (member-tail y x (firsts shifts) m)) (λ y m. s y (member-tail y w (seconds shifts) m))

-- sets of one number commute
set-both : (xs : List ℕ) (i j k : ℕ) → set (set xs i k) j k ≡ set (set xs j k) i k
set-both [] i j k = refl
set-both (x ∷ xs) zero zero k = refl
set-both (x ∷ xs) zero (suc j) k = refl
set-both (x ∷ xs) (suc i) zero k = refl
set-both (x ∷ xs) (suc i) (suc j) k = ap (λ (zs : List ℕ). x ∷ zs) (set-both xs i j k)

-- one more is renumbered, as the first
pub renumbered-set : (moved : List ℕ) (v k : ℕ) (core : List ℕ) → set (renumbered moved k core) v k ≡ renumbered (v ∷ moved) k core
renumbered-set [] v k core = refl
renumbered-set (x ∷ moved) v k core = renumbered-set moved v k (set core x k) ∙ ap (renumbered moved k) (set-both core x v k)

-- one more is renumbered, as the last
pub renumbered-push : (moved : List ℕ) (v k : ℕ) (core : List ℕ) → set (renumbered moved k core) v k ≡ renumbered (moved ++ v ∷ []) k core
renumbered-push [] v k core = refl
renumbered-push (x ∷ moved) v k core = renumbered-push moved v k (set core x k)

-- tests of the three parts of an order with `moved` between
low_test : (low r t e : Bool) → (r ≡ false → t ≡ low) → ((low && not r) && (t && not (e || false))) ≡ (low && not (e || r))
low_test low r t e h = elim (cases_Bool r) [ inl q ↦ grind (arith, q) | inr q ↦ let k = h q in grind (arith, q, k) ]

-- the test of what stands behind
high_test : (low r t e : Bool) → (r ≡ false → t ≡ low) → ((not low && not r) && (not t && not (e || false))) ≡ (not low && not (e || r))
high_test low r t e h = elim (cases_Bool r) [ inl q ↦ grind (arith, q) | inr q ↦ let k = h q in grind (arith, q, k) ]

-- what stands behind does not stand before
no_low_test : (low r t e : Bool) → (r ≡ false → t ≡ low) → ((not low && not r) && (t && not (e || false))) ≡ false
no_low_test low r t e h = elim (cases_Bool r) [ inl q ↦ grind (arith, q) | inr q ↦ let k = h q in grind (arith, q, k) ]

-- what stands before does not stand behind
no_high_test : (low r t e : Bool) → (r ≡ false → t ≡ low) → ((low && not r) && (not t && not (e || false))) ≡ false
no_high_test low r t e h = elim (cases_Bool r) [ inl q ↦ grind (arith, q) | inr q ↦ let k = h q in grind (arith, q, k) ]

-- a test that all fail leaves nothing
nothing-left : (p : ℕ → Bool) (xs : List ℕ) → ((y : ℕ) → p y ≡ false) → filter p xs ≡ []
nothing-left p xs h = filter-none p xs (λ y _. h y)

-- one more between, before or behind those that are there
module _ (low test : ℕ → Bool) (moved : List ℕ) (v : ℕ) (order : List ℕ) (out : member v moved ≡ false)
    (agree : (y : ℕ) → member y moved ≡ false → test y ≡ low y) where
  -- the low ones of the order, apart from a list
  abbrev lows : List ℕ → List ℕ
  lows xs = filter (λ y. low y && not (member y xs)) order

  -- the others of the order, apart from a list
  abbrev highs : List ℕ → List ℕ
  highs xs = filter (λ y. not (low y) && not (member y xs)) order

  -- who passes, apart from the vertex
  abbrev passes : ℕ → Bool
  passes y = test y && not (member y (v ∷ []))

  -- who fails, apart from the vertex
  abbrev fails : ℕ → Bool
  fails y = not (test y) && not (member y (v ∷ []))

  -- a filter of the three parts
  three : (p : ℕ → Bool) → filter p (put_between low moved order) ≡ filter p (lows moved) ++ (filter p moved ++ filter p (highs moved))
  three p = filter-append p (lows moved) (moved ++ highs moved) ∙ ap (λ (zs : List ℕ). filter p (lows moved) ++ zs) (filter-append p moved (highs moved))

  -- those before still stand before
  low-passes : filter passes (lows moved) ≡ lows (v ∷ moved)
  low-passes = filter-filter passes (λ y. low y && not (member y moved)) order
      ∙ filter-alike (λ y. (low y && not (member y moved)) && passes y) (λ y. low y && not (member y (v ∷ moved))) order
      (λ y _. low_test (low y) (member y moved) (test y) (eqb y v) (agree y))

  -- none of those behind stands before
  high-passes : filter passes (highs moved) ≡ []
  high-passes = filter-filter passes (λ y. not (low y) && not (member y moved)) order
      ∙ nothing-left (λ y. (not (low y) && not (member y moved)) && passes y) order (λ y. no_low_test (low y) (member y moved) (test y) (eqb y v) (agree y))

  -- none of those before stands behind
  low-fails : filter fails (lows moved) ≡ []
  low-fails = filter-filter fails (λ y. low y && not (member y moved)) order
      ∙ nothing-left (λ y. (low y && not (member y moved)) && fails y) order (λ y. no_high_test (low y) (member y moved) (test y) (eqb y v) (agree y))

  -- those behind still stand behind
  high-fails : filter fails (highs moved) ≡ highs (v ∷ moved)
  high-fails = filter-filter fails (λ y. not (low y) && not (member y moved)) order
      ∙ filter-alike (λ y. (not (low y) && not (member y moved)) && fails y) (λ y. not (low y) && not (member y (v ∷ moved))) order
      (λ y _. high_test (low y) (member y moved) (test y) (eqb y v) (agree y))

  -- those that moved are others
  not_v : (y : ℕ) → member y moved ≡ true → member y (v ∷ []) ≡ false
  not_v y m = let k : eqb y v ≡ false = ne_eqb y v (λ e. true≢false (sym m ∙ (ap (λ (z : ℕ). member z moved) e ∙ out))) in grind (arith, k)

  -- one more before those that moved
  pub between-before : ((y : ℕ) → member y moved ≡ true → test y ≡ false)
      → put_between test (v ∷ []) (put_between low moved order) ≡ put_between low (v ∷ moved) order
  between-before none =
      let mp : filter passes moved ≡ [] = filter-none passes moved (λ y m. let k = none y m in grind (arith, k)) in
      let mf : filter fails moved ≡ moved = filter-all fails moved (λ y m. let k = none y m in let k' = not_v y m in grind (arith, k, k')) in
      ap₂ (λ (xs ys : List ℕ). xs ++ v ∷ ys)
      (three passes ∙ (ap₂ (λ (xs ys : List ℕ). xs ++ ys) low-passes (ap₂ (λ (xs ys : List ℕ). xs ++ ys) mp high-passes) ∙ append-nil (lows (v ∷ moved))))
      (three fails ∙ ap₂ (λ (xs ys : List ℕ). xs ++ ys) low-fails (ap₂ (λ (xs ys : List ℕ). xs ++ ys) mf high-fails))

  -- one more behind those that moved
  pub between-behind : ((y : ℕ) → member y moved ≡ true → test y ≡ true)
      → put_between test (v ∷ []) (put_between low moved order) ≡ put_between low (moved ++ v ∷ []) order
  between-behind all =
      let mp : filter passes moved ≡ moved = filter-all passes moved (λ y m. let k = all y m in let k' = not_v y m in grind (arith, k, k')) in
      let mf : filter fails moved ≡ [] = filter-none fails moved (λ y m. let k = all y m in grind (arith, k)) in
      let same : (y : ℕ) → member y (v ∷ moved) ≡ member y (moved ++ v ∷ []) = λ y. or-turned (eqb y v) (member y moved) ∙ sym (member-push y v moved) in
      let lows-same : lows (v ∷ moved) ≡ lows (moved ++ v ∷ []) =
      filter-alike (λ y. low y && not (member y (v ∷ moved))) (λ y. low y && not (member y (moved ++ v ∷ []))) order
      (λ y _. ap (λ b. low y && not b) (same y)) in
      let highs-same : highs (v ∷ moved) ≡ highs (moved ++ v ∷ []) =
      filter-alike (λ y. not (low y) && not (member y (v ∷ moved))) (λ y. not (low y) && not (member y (moved ++ v ∷ []))) order
      (λ y _. ap (λ b. not (low y) && not b) (same y)) in
      ap₂ (λ (xs ys : List ℕ). xs ++ v ∷ ys)
      (three passes ∙ ap₂ (λ (xs ys : List ℕ). xs ++ ys) (low-passes ∙ lows-same) (ap₂ (λ (xs ys : List ℕ). xs ++ ys) mp high-passes ∙ append-nil moved))
      (three fails ∙ (ap₂ (λ (xs ys : List ℕ). xs ++ ys) low-fails (ap₂ (λ (xs ys : List ℕ). xs ++ ys) mf high-fails) ∙ highs-same))
      ∙ (append_assoc (lows (moved ++ v ∷ [])) moved (v ∷ highs (moved ++ v ∷ []))
      ∙ ap (λ (zs : List ℕ). lows (moved ++ v ∷ []) ++ zs) (sym (append_assoc moved (v ∷ []) (highs (moved ++ v ∷ [])))))

-- what moves do to a certified order and its numbers, one level up or down
pub record Fits (n level : ℕ) (core order moved : List ℕ) : Type 0 where
  pub long : length core ≡ n
  pub within : (y : ℕ) → member y order ≡ true → y < n
  pub all : (y : ℕ) → y < n → member y order ≡ true
  pub distinct : Distinct order
  pub once : Distinct moved
  pub of_level : AreOf n core level moved
  pub low : (v : ℕ) → v < n → get_or core v 0 < n

-- an order cut where a level ends is the same list with heads
cut-same : (n : ℕ) (core order : List ℕ) (test : ℕ → Bool)
    → ((j : ℕ) → ((y : ℕ) → get_or core y 0 ≡ j → test y ≡ true) ⊎ ((y : ℕ) → get_or core y 0 ≡ j → test y ≡ false))
    → with_heads n order core ≡ with_heads n (put_between test [] order) core
unfolding with_heads
cut-same n core order test h =
    parts-alike n (level_part core order) (level_part core (put_between test [] order)) 0 (suc n) (λ j _.
    let p : ℕ → Bool = λ y. eqb (get_or core y 0) j in
    let lows : List ℕ = filter (λ y. test y && not (member y [])) order in
    let highs : List ℕ = filter (λ y. not (test y) && not (member y [])) order in
    let low-is : filter p lows ≡ filter test (level_part core order j) =
    ap (filter p) (filter-alike (λ y. test y && not (member y [])) test order (λ y _. and_true (test y))) ∙ filter-swap p test order in
    let high-is : filter p highs ≡ filter (λ y. not (test y)) (level_part core order j) =
    ap (filter p) (filter-alike (λ y. not (test y) && not (member y [])) (λ y. not (test y)) order (λ y _. and_true (not (test y))))
    ∙ filter-swap p (λ y. not (test y)) order in
    sym (filter-append p lows highs ∙ (ap₂ (λ (xs ys : List ℕ). xs ++ ys) low-is high-is ∙ elim (h j) [
      | inl t ↦ let k = low-part core order test j t in ap₂ (λ (xs ys : List ℕ). xs ++ ys) k.0 k.1 ∙ append-nil (level_part core order j)
      | inr f ↦ let k = high-part core order test j f in ap₂ (λ (xs ys : List ℕ). xs ++ ys) k.0 k.1
    ])))
  where
    -- a test and nothing more
    and_true : (a : Bool) → (a && true) ≡ a
    and_true a = grind arith

-- a level is at most another as a whole, or not at all
up_to-cuts : (core : List ℕ) (level j : ℕ) → ((y : ℕ) → get_or core y 0 ≡ j → up_to core level y ≡ true)
    ⊎ ((y : ℕ) → get_or core y 0 ≡ j → up_to core level y ≡ false)
up_to-cuts core level j = elim (cases_lt level j) [
  | inl l ↦ inr (λ y e. lt-leb (get_or core y 0) level (omega (arith, e, l)))
  | inr g ↦ inl (λ y e. le-leb (get_or core y 0) level (omega (arith, e, g)))
]

-- a level is below another as a whole, or not at all
under-cuts : (core : List ℕ) (level j : ℕ) → ((y : ℕ) → get_or core y 0 ≡ j → under core level y ≡ true)
    ⊎ ((y : ℕ) → get_or core y 0 ≡ j → under core level y ≡ false)
under-cuts core level j = elim (cases_lt j level) [
  | inl l ↦ inl (λ y e. lt-ltb (get_or core y 0) level (omega (arith, e, l)))
  | inr g ↦ inr (λ y e. le-ltb (get_or core y 0) level (omega (arith, e, g)))
]

-- one more rises, before those that have risen
pub rise-step : (n level v : ℕ) (core order moved : List ℕ) → length core ≡ n → ((x : ℕ) → member x moved ≡ true → x < n) → member v moved ≡ false
    → put_between (under (renumbered moved (level + 1) core) (level + 1)) (v ∷ []) (put_between (up_to core level) moved order)
    ≡ put_between (up_to core level) (v ∷ moved) order
rise-step n level v core order moved long within out =
    let now : List ℕ = renumbered moved (level + 1) core in
    between-before (up_to core level) (under now (level + 1)) moved v order out
    (λ y none. ap (λ (c : ℕ). ltb c (level + 1)) (renumbered-other moved (level + 1) core y none) ∙ same (get_or core y 0))
    (λ y m. le-ltb (get_or now y 0) (level + 1) (omega (arith, renumbered-moved moved (level + 1) core y (omega (arith, within y m, long)) m)))
  where
    -- below the next level is up to this one
    same : (c : ℕ) → ltb c (level + 1) ≡ leb c level
    same c = elim (cases_lt level c) [
      | inl l ↦ le-ltb c (level + 1) (omega (arith, l)) ∙ sym (lt-leb c level l)
      | inr g ↦
          lt-ltb c (level + 1) (omega (arith, g)) ∙ sym (le-leb c level g)
    ]

-- one more falls, behind those that have fallen
pub fall-step : (n level v : ℕ) (core order moved : List ℕ) → length core ≡ n → 0 < level → ((x : ℕ) → member x moved ≡ true → x < n) → member v moved ≡ false
    → put_between (up_to (renumbered moved (level - 1) core) (level - 1)) (v ∷ []) (put_between (under core level) moved order)
    ≡ put_between (under core level) (moved ++ v ∷ []) order
fall-step n level v core order moved long some within out =
    let now : List ℕ = renumbered moved (level - 1) core in
    between-behind (under core level) (up_to now (level - 1)) moved v order out
    (λ y none. ap (λ (c : ℕ). leb c (level - 1)) (renumbered-other moved (level - 1) core y none) ∙ same (get_or core y 0))
    (λ y m. le-leb (get_or now y 0) (level - 1) (omega (arith, renumbered-moved moved (level - 1) core y (omega (arith, within y m, long)) m)))
  where
    -- below the next level is up to this one
    same : (c : ℕ) → leb c (level - 1) ≡ ltb c level
    same c = elim (cases_lt c level) [
      | inl l ↦ le-leb c (level - 1) (omega (arith, l)) ∙ sym (lt-ltb c level l)
      | inr g ↦
          lt-leb c (level - 1) (omega (arith, g, some)) ∙ sym (le-ltb c level g)
    ]

-- the new order has vertices alone
between-within : (n : ℕ) (test : ℕ → Bool) (moved order : List ℕ) → ((y : ℕ) → member y order ≡ true → y < n)
    → ((y : ℕ) → member y moved ≡ true → member y order ≡ true) → (y : ℕ) → member y (put_between test moved order) ≡ true → y < n
between-within n test moved order within sub y m = within y (sym (final-has test moved order sub y) ∙ m)

-- the risen, the last one first
pub rise-made : (n level : ℕ) (core order moved : List ℕ) → Fits n level core order moved
    → put_each_first (n + (level + 1)) moved (with_heads n order core)
    ≡ with_heads n (put_between (up_to core level) moved order) (renumbered moved (level + 1) core)
rise-made n level core order [] h = cut-same n core order (up_to core level) (up_to-cuts core level)
rise-made n level core order (v ∷ moved) h =
    let hv = h.of_level v (member-head v moved) in
    let rest : Fits n level core order moved =
    record {
      long = h.long;
      within = h.within;
      all = h.all;
      distinct = h.distinct;
      once = h.once.1;
      of_level = λ x m. h.of_level x (member-tail x v moved m);
      low = h.low;
    } in
    let now : List ℕ = renumbered moved (level + 1) core in
    let there : List ℕ = put_between (up_to core level) moved order in
    let inside : (y : ℕ) → member y there ≡ true → y < n = between-within n (up_to core level) moved order h.within (λ y m. h.all y (rest.of_level y m).0) in
    ap (put v (n + (level + 1))) (rise-made n level core order moved rest)
    ∙ (put-front n v (level + 1) there now inside hv.0 (omega (arith, length-renumbered moved (level + 1) core, h.long, hv.0))
    (omega (arith, h.low v hv.0, hv.1))
    ∙ ap₂ (with_heads n) (rise-step n level v core order moved h.long (λ x m. (rest.of_level x m).0) h.once.0) (renumbered-set moved v (level + 1) core))

-- the new order has each once
pub Distinct-between : (test : ℕ → Bool) (moved order : List ℕ) → Distinct order → Distinct moved → Distinct (put_between test moved order)
Distinct-between test moved order d once =
    let low : ℕ → Bool = λ y. test y && not (member y moved) in
    let high : ℕ → Bool = λ y. not (test y) && not (member y moved) in
    let in-low : (y : ℕ) → member y (filter low order) ≡ true → (test y ≡ true) × (member y moved ≡ false) = λ y m. let k =
    and_parts (test y) (not (member y moved)) (member-filter low y order m).1 in (k.0, not-true (member y moved) k.1) in
    let not-high : (y : ℕ) → (test y ≡ true) ⊎ (member y moved ≡ true) → member y (filter high order) ≡ false = λ y h.
    false_from_ne_true (member y (filter high order))
    (λ m. let k = and_parts (not (test y)) (not (member y moved)) (member-filter high y order m).1 in elim h
    [ inl t ↦ true≢false (sym t ∙ not-true (test y) k.0) | inr t ↦ true≢false (sym t ∙ not-true (member y moved) k.1) ]) in
    Distinct-append (filter low order) (moved ++ filter high order) (Distinct-filter low order d)
    (Distinct-append moved (filter high order) once (Distinct-filter high order d) (λ y m. not-high y (inr m)))
    (λ y m. let k = in-low y m in append-not_member y moved (filter high order) k.1 (not-high y (inl k.0)))

-- the fallen in turn, behind those that have fallen
fall-from : (n level : ℕ) (core order done moved : List ℕ) → ((x : ℕ) → member x (done ++ moved) ≡ true → 0 < level) → Fits n level core order (done ++ moved)
    → put_each_last (n + level) moved (with_heads n (put_between (under core level) done order) (renumbered done (level - 1) core))
    ≡ with_heads n (put_between (under core level) (done ++ moved) order) (renumbered (done ++ moved) (level - 1) core)
fall-from n level core order done [] some h =
    ap (λ (xs : List ℕ). with_heads n (put_between (under core level) xs order) (renumbered xs (level - 1) core)) (sym (append-nil done))
fall-from n level core order done (v ∷ moved) some h =
    let v-in = member-append_right v done (v ∷ moved) (member-head v moved) in
    let some-v : 0 < level = some v v-in in
    let hv = h.of_level v v-in in
    let now : List ℕ = renumbered done (level - 1) core in
    let there : List ℕ = put_between (under core level) done order in
    let in-done : (x : ℕ) → member x done ≡ true → x < n = λ x m. (h.of_level x (member-append_left x done (v ∷ moved) m)).0 in
    let inside : (y : ℕ) → member y there ≡ true → y < n = between-within n (under core level) done order h.within (λ y m. h.all y (in-done y m)) in
    let same : done ++ v ∷ moved ≡ (done ++ v ∷ []) ++ moved = sym (append_assoc done (v ∷ []) moved) in
    let out : member v done ≡ false = (Distinct-cut v done moved h.once).0 in
    let head : n + suc (level - 1) ≡ n + level = omega (arith, some-v) in
    let one : put v (prev_of (n + level) (n + level) (without v (with_heads n there now))) (with_heads n there now)
    ≡ with_heads n (put_between (under core level) (done ++ v ∷ []) order) (renumbered (done ++ v ∷ []) (level - 1) core) =
    ap (λ (k : ℕ). put v (prev_of (n + level) k (without v (with_heads n there now))) (with_heads n there now)) (sym head)
    ∙ (put-back n (n + level) v (level - 1) there now inside
    (Distinct-between (under core level) done order h.distinct (Distinct-front done (v ∷ moved) h.once)) hv.0
    (omega (arith, length-renumbered done (level - 1) core, h.long, hv.0)) (omega (arith, h.low v hv.0, hv.1))
    ∙ ap₂ (with_heads n) (fall-step n level v core order done h.long some-v in-done out) (renumbered-push done v (level - 1) core)) in
    ap (put_each_last (n + level) moved) one
    ∙ (fall-from n level core order (done ++ v ∷ []) moved (λ x m. some x (ap (member x) same ∙ m)) (subst (Fits n level core order) same h)
    ∙ ap (λ (xs : List ℕ). with_heads n (put_between (under core level) xs order) (renumbered xs (level - 1) core)) (sym same))

-- all of the fallen, in turn
pub fall-made : (n level : ℕ) (core order moved : List ℕ) → ((x : ℕ) → member x moved ≡ true → 0 < level) → Fits n level core order moved
    → put_each_last (n + level) moved (with_heads n order core) ≡ with_heads n (put_between (under core level) moved order) (renumbered moved (level - 1) core)
fall-made n level core order moved some h = ap (put_each_last (n + level) moved) (cut-same n core order (under core level) (under-cuts core level))
    ∙ fall-from n level core order [] moved some h

-- the state's numbers and order, as far as puts need them
pub record IsOrdered (s : Ranked) : Type 0 where
  pub long : length s.core ≡ s.graph.size
  pub enumerates : Enumerates s.graph.size s.order
  pub low : (v : ℕ) → v < s.graph.size → get_or s.core v 0 < s.graph.size

-- The puts of moves that fit give the list with heads of the state after them.
pub moves-made : (s : Ranked) (moves : Moves) → IsOrdered s → MovesFit s moves
    → after_puts s.graph.size moves (with_heads s.graph.size s.order s.core) ≡ with_heads s.graph.size (moved_by moves s).order (moved_by moves s).core
moves-made s Kept h fit = refl
moves-made s Plain h fit = refl
moves-made s (Rise level rise shifts) h fit =
    let n : ℕ = s.graph.size in
    let all : (y : ℕ) → y < n → member y s.order ≡ true = λ y l. order-has n s.order h.enumerates y ∙ member-below y n l in
    let within : (y : ℕ) → member y s.order ≡ true → y < n = λ y m. below-member y n (sym (order-has n s.order h.enumerates y) ∙ m) in
    let f : AreOf n s.core level (firsts shifts.items) = λ x m. let k =
    fit.of_level x (member-append_right x rise.items (firsts shifts.items) m) in (k.vertex, k.of_level) in
    let g : AreOf n s.core level (seconds shifts.items) = λ x m. let k = fit.after_level x m in (k.vertex, k.of_level) in
    let there : List ℕ = shifted shifts.items s.order in
    let same : (y : ℕ) → member y there ≡ member y s.order = shifted-has shifts.items s.order fit.in_turn (λ x m. all x (f x m).0) (λ x m. all x (g x m).0) in
    ap (put_each_first (n + (level + 1)) rise.items) (shifts-made n level s.core shifts.items s.order h.long within all fit.in_turn f g)
    ∙ rise-made n level s.core there rise.items record {
      long = h.long;
      within = λ y m. within y (sym (same y) ∙ m);
      all = λ y l. same y ∙ all y l;
      distinct = shifted-distinct shifts.items s.order (order-distinct n s.order h.enumerates);
      once = Distinct-front rise.items (firsts shifts.items) fit.once;
      of_level = λ x m. let k = fit.of_level x (member-append_left x rise.items (firsts shifts.items) m) in (k.vertex, k.of_level);
      low = h.low;
    }
  where
    -- shifts keep each once
    shifted-distinct : (shifts : List (ℕ × ℕ)) (order : List ℕ) → Distinct order → Distinct (shifted shifts order)
    shifted-distinct [] order d = d
    shifted-distinct (shift ∷ shifts) order d =
        shifted-distinct shifts (put shift.0 shift.1 order)
        (Distinct-right_after shift.0 shift.1 (without shift.0 order) (Distinct-without shift.0 order d) (not_member-without shift.0 order))
moves-made s (Fall level fall) h fit =
    let n : ℕ = s.graph.size in
    fall-made n level s.core s.order fall.items (λ x m. fit.above_0 x m) record {
      long = h.long;
      within = λ y m. below-member y n (sym (order-has n s.order h.enumerates y) ∙ m);
      all = λ y l. order-has n s.order h.enumerates y ∙ member-below y n l;
      distinct = order-distinct n s.order h.enumerates;
      once = fit.once;
      of_level = λ x m. let k = fit.of_level x m in (k.vertex, k.of_level);
      low = h.low;
    }
