-- How two items stand in a list, and what is left of that where items are taken out and put elsewhere.
use Rattle.std.proofs.Common.{◌≡◌, ◌≢◌, ◌↔◌, ℕ, Bool, true, false, cond, ◌&&◌, ◌||◌, List, [], ◌∷◌, ◌++◌, eqb}
use Rattle.std.proofs.Common.{refl, sym, ap, ◌∙◌, subst, arith, inl, inr, ◌⊎◌, eq-eqb, ne_eqb, eqb-true, true≢false}
use Rattle.std.proofs.lemmas.Bool.{cases_Bool, cases_eq, false≢true, false_from_ne_true, and_from, and_parts, or_left, or_right, or_cases}
use Rattle.kc_lists.specs.Lists.{Distinct, member, right_after, without}
use Rattle.kc_lists.proofs.Members.{member-head, member-tail, member-cases, not_member-parts, member-append, member-append_left, place_of-first}
use Rattle.kc_lists.proofs.Members.{member-append_right, Distinct-without, place_of-next, member-without_other, without-here}
use Rattle.kc_lists.proofs.Members.{without-next}
use Rattle.kc_order.specs.Runs.{all_after, with_run_after, without_each}
use Rattle.kc_order.specs.Standing.{StandsBefore}

-- whether x comes in the list, and y after it
abbrev pub is_before : ℕ → ℕ → List ℕ → Bool
is_before x y [] = false
is_before x y (z ∷ zs) = (eqb x z && member y zs) || is_before x y zs

-- two tests that tell the same
pub same_test : (a b : Bool) → (a ≡ true → b ≡ true) → (b ≡ true → a ≡ true) → a ≡ b
same_test true b f g = sym (f refl)
same_test false true f g = g refl
same_test false false f g = refl

-- the head of a list comes before each item behind it
pub before-here : (x y z : ℕ) (zs : List ℕ) → x ≡ z → member y zs ≡ true → is_before x y (z ∷ zs) ≡ true
before-here x y z zs e m = or_left (eqb x z && member y zs) (is_before x y zs) (and_from (eqb x z) (member y zs) (eq-eqb x z e) m)

-- what comes before another in a list does so with one more at the head
pub before-later : (x y z : ℕ) (zs : List ℕ) → is_before x y zs ≡ true → is_before x y (z ∷ zs) ≡ true
before-later x y z zs h = or_right (eqb x z && member y zs) (is_before x y zs) h

-- where x comes before y, x is the head and y is behind it, or this is so without the head
pub before-cases : (x y z : ℕ) (zs : List ℕ) → is_before x y (z ∷ zs) ≡ true → ((x ≡ z) × (member y zs ≡ true)) ⊎ (is_before x y zs ≡ true)
before-cases x y z zs h = elim (or_cases (eqb x z && member y zs) (is_before x y zs) h) [
  | inl b ↦ (let p = and_parts (eqb x z) (member y zs) b in inl (eqb-true x z p.0, p.1))
  | inr k ↦ inr k
]

-- where x comes before y, x is in the list
pub before-first : (x y : ℕ) (zs : List ℕ) → is_before x y zs ≡ true → member x zs ≡ true
before-first x y [] h = absurd (false≢true h)
before-first x y (z ∷ zs) h = elim (before-cases x y z zs h) [
  | inl b ↦ subst (λ (w : ℕ). member w (z ∷ zs) ≡ true) (sym b.0) (member-head z zs)
  | inr k ↦ member-tail x z zs (before-first x y zs k)
]

-- where x comes before y, y is in the list
pub before-second : (x y : ℕ) (zs : List ℕ) → is_before x y zs ≡ true → member y zs ≡ true
before-second x y [] h = absurd (false≢true h)
before-second x y (z ∷ zs) h = elim (before-cases x y z zs h) [
  | inl b ↦ member-tail y z zs b.1
  | inr k ↦ member-tail y z zs (before-second x y zs k)
]

-- what stands behind the head of a list without repetition is not the head
member-other : (y z : ℕ) (zs : List ℕ) → Distinct (z ∷ zs) → member y zs ≡ true → y ≢ z
member-other y z zs d m = λ e. true≢false (sym (subst (λ (w : ℕ). member w zs ≡ true) e m) ∙ d.0)

-- in a list without repetition, x stands before y where the test says that x comes before y
pub before-stands : (x y : ℕ) (zs : List ℕ) → Distinct zs → is_before x y zs ≡ true → StandsBefore x y zs
before-stands x y [] d h = absurd (false≢true h)
before-stands x y (z ∷ zs) d h = elim (before-cases x y z zs h) [
  | inl b ↦ record {
    first = before-first x y (z ∷ zs) h;
    second = member-tail y z zs b.1;
    before = omega (arith, place_of-first x z zs b.0, place_of-next y z zs (member-other y z zs d b.1));
  }
  | inr k ↦ let s = before-stands x y zs d.1 k in record {
    first = member-tail x z zs s.first;
    second = member-tail y z zs s.second;
    before = omega (arith, place_of-next x z zs (member-other x z zs d s.first), place_of-next y z zs (member-other y z zs d s.second), s.before);
  }
]

-- where x stands before y, the test says that x comes before y
pub stands-before : (x y : ℕ) (zs : List ℕ) → StandsBefore x y zs → is_before x y zs ≡ true
stands-before x y [] s = absurd (false≢true s.first)
stands-before x y (z ∷ zs) s = elim (cases_eq y z) [
  | inl e ↦ absurd (omega (arith, place_of-first y z zs e, s.before))
  | inr ny ↦ elim (member-cases y z zs s.second) [
    | inl e ↦ absurd (ny e)
    | inr y-in ↦ elim (cases_eq x z) [
      | inl e ↦ before-here x y z zs e y-in
      | inr nx ↦ elim (member-cases x z zs s.first) [
        | inl e ↦ absurd (nx e)
        | inr x-in ↦ before-later x y z zs (stands-before x y zs record {
          first = x-in;
          second = y-in;
          before = omega (arith, place_of-next x z zs nx, place_of-next y z zs ny, s.before);
        })
      ]
    ]
  ]
]

-- in two lists without repetition for which the test tells the same, two items stand alike
pub stands-alike : (x y : ℕ) (xs ys : List ℕ) → Distinct xs → Distinct ys → is_before x y xs ≡ is_before x y ys → StandsBefore x y xs ↔ StandsBefore x y ys
stands-alike x y xs ys dx dy e = (
  (λ s. before-stands x y ys dy (sym e ∙ stands-before x y xs s)),
  (λ s. before-stands x y xs dx (e ∙ stands-before x y ys s)),
)

-- where x stands before y, y does not stand before x
pub stands-once : (x y : ℕ) (zs : List ℕ) → StandsBefore x y zs → StandsBefore y x zs → ⊥
stands-once x y zs s t = omega (arith, s.before, t.before)

-- Lists one after the other. ----------------------------------------------------------------------

-- what comes before another in the first of two lists does so in both joined
pub before-append_left : (x y : ℕ) (xs ys : List ℕ) → is_before x y xs ≡ true → is_before x y (xs ++ ys) ≡ true
before-append_left x y [] ys h = absurd (false≢true h)
before-append_left x y (z ∷ xs) ys h = elim (before-cases x y z xs h) [
  | inl b ↦ before-here x y z (xs ++ ys) b.0 (member-append_left y xs ys b.1)
  | inr k ↦ before-later x y z (xs ++ ys) (before-append_left x y xs ys k)
]

-- what comes before another in the second of two lists does so in both joined
pub before-append_right : (x y : ℕ) (xs ys : List ℕ) → is_before x y ys ≡ true → is_before x y (xs ++ ys) ≡ true
before-append_right x y [] ys h = h
before-append_right x y (z ∷ xs) ys h = before-later x y z (xs ++ ys) (before-append_right x y xs ys h)

-- each of the first of two lists comes before each of the second in both joined
pub before-append_both : (x y : ℕ) (xs ys : List ℕ) → member x xs ≡ true → member y ys ≡ true → is_before x y (xs ++ ys) ≡ true
before-append_both x y [] ys h m = absurd (false≢true h)
before-append_both x y (z ∷ xs) ys h m = elim (member-cases x z xs h) [
  | inl e ↦ before-here x y z (xs ++ ys) e (member-append_right y xs ys m)
  | inr k ↦ before-later x y z (xs ++ ys) (before-append_both x y xs ys k m)
]

-- items that the first list lacks stand as in the second
pub before-append_other : (x y : ℕ) (xs ys : List ℕ) → member x xs ≡ false → is_before x y (xs ++ ys) ≡ is_before x y ys
before-append_other x y [] ys h = refl
before-append_other x y (z ∷ xs) ys h =
    let p = not_member-parts x z xs h in
    ap (λ b. (b && member y (xs ++ ys)) || is_before x y (xs ++ ys)) (ne_eqb x z p.0) ∙ before-append_other x y xs ys p.1

-- what the first list lacks is in both joined just where it is in the second
member-append_other : (y : ℕ) (xs ys : List ℕ) → member y xs ≡ false → member y (xs ++ ys) ≡ member y ys
member-append_other y xs ys h = same_test (member y (xs ++ ys)) (member y ys)
    (λ m. elim (member-append y xs ys m) [ inl k ↦ absurd (true≢false (sym k ∙ h)) | inr k ↦ k ])
    (member-append_right y xs ys)

-- Items taken out. ---------------------------------------------------------------------------------

-- where one item is taken out, two others stand as they did
before-without : (x y z : ℕ) (zs : List ℕ) → x ≢ z → y ≢ z → is_before x y (without z zs) ≡ is_before x y zs
before-without x y z [] nx ny = refl
before-without x y z (w ∷ zs) nx ny = elim (cases_eq z w) [
  | inl e ↦ ap (λ b. is_before x y (cond b (without z zs) (w ∷ without z zs))) (eq-eqb z w e)
      ∙ (before-without x y z zs nx ny ∙ sym (ap (λ b. (b && member y zs) || is_before x y zs) (ne_eqb x w (λ k. nx (k ∙ sym e)))))
  | inr ne ↦ ap (λ b. is_before x y (cond b (without z zs) (w ∷ without z zs))) (ne_eqb z w ne)
      ∙ (λ i. (eqb x w && member-without_other y z zs ny i) || before-without x y z zs nx ny i)
]

-- what is not among the items taken out is in the list just where it was
pub member-without_each : (y : ℕ) (run zs : List ℕ) → member y run ≡ false → member y (without_each run zs) ≡ member y zs
member-without_each y [] zs h = refl
member-without_each y (z ∷ run) zs h =
    let p = not_member-parts y z run h in
    member-without_other y z (without_each run zs) p.0 ∙ member-without_each y run zs p.1

-- where some items are taken out, two others stand as they did
pub before-without_each : (x y : ℕ) (run zs : List ℕ) → member x run ≡ false → member y run ≡ false → is_before x y (without_each run zs) ≡ is_before x y zs
before-without_each x y [] zs hx hy = refl
before-without_each x y (z ∷ run) zs hx hy =
    let p = not_member-parts x z run hx in
    let q = not_member-parts y z run hy in
    before-without x y z (without_each run zs) p.0 q.0 ∙ before-without_each x y run zs p.1 q.1

-- a list without repetition has none with some items taken out
pub Distinct-without_each : (run zs : List ℕ) → Distinct zs → Distinct (without_each run zs)
Distinct-without_each [] zs d = d
Distinct-without_each (z ∷ run) zs d = Distinct-without z (without_each run zs) (Distinct-without_each run zs d)

-- Items put right after another. ---------------------------------------------------------------------

-- a run is put right after the head where this is p
after-here : (run : List ℕ) (p z : ℕ) (zs : List ℕ) → p ≡ z → all_after run p (z ∷ zs) ≡ z ∷ (run ++ zs)
after-here run p z zs e = ap (λ b. cond b (z ∷ (run ++ zs)) (z ∷ all_after run p zs)) (eq-eqb p z e)

-- a run is put behind the head where this is not p
after-next : (run : List ℕ) (p z : ℕ) (zs : List ℕ) → p ≢ z → all_after run p (z ∷ zs) ≡ z ∷ all_after run p zs
after-next run p z zs ne = ap (λ b. cond b (z ∷ (run ++ zs)) (z ∷ all_after run p zs)) (ne_eqb p z ne)

-- where a run is put into a list, another item is in it just where it was
after-other : (y : ℕ) (run : List ℕ) (p : ℕ) (zs : List ℕ) → member y run ≡ false → member y (all_after run p zs) ≡ member y zs
after-other y run p [] h = refl
after-other y run p (z ∷ zs) h = elim (cases_eq p z) [
  | inl e ↦ ap (member y) (after-here run p z zs e) ∙ ap (λ b. eqb y z || b) (member-append_other y run zs h)
  | inr ne ↦ ap (member y) (after-next run p z zs ne) ∙ ap (λ b. eqb y z || b) (after-other y run p zs h)
]

-- where a run is put right after p, each of it is in the list
after-member : (y : ℕ) (run : List ℕ) (p : ℕ) (zs : List ℕ) → member y run ≡ true → member p zs ≡ true → member y (all_after run p zs) ≡ true
after-member y run p [] h m = absurd (false≢true m)
after-member y run p (z ∷ zs) h m = elim (cases_eq p z) [
  | inl e ↦ ap (member y) (after-here run p z zs e) ∙ member-tail y z (run ++ zs) (member-append_left y run zs h)
  | inr ne ↦ elim (member-cases p z zs m) [
    | inl e ↦ absurd (ne e)
    | inr k ↦ ap (member y) (after-next run p z zs ne) ∙ member-tail y z (all_after run p zs) (after-member y run p zs h k)
  ]
]

-- where a run is put right after p, two others stand as they did
after-others : (x y : ℕ) (run : List ℕ) (p : ℕ) (zs : List ℕ) → member x run ≡ false → member y run ≡ false
    → is_before x y (all_after run p zs) ≡ is_before x y zs
after-others x y run p [] hx hy = refl
after-others x y run p (z ∷ zs) hx hy = elim (cases_eq p z) [
  | inl e ↦ ap (is_before x y) (after-here run p z zs e)
      ∙ (λ i. (eqb x z && member-append_other y run zs hy i) || before-append_other x y run zs hx i)
  | inr ne ↦ ap (is_before x y) (after-next run p z zs ne)
      ∙ (λ i. (eqb x z && after-other y run p zs hy i) || after-others x y run p zs hx hy i)
]

-- what stands before p stands before each of a run put right after p
after-front : (x y : ℕ) (run : List ℕ) (p : ℕ) (zs : List ℕ) → Distinct zs → member y run ≡ true → is_before x p zs ≡ true
    → is_before x y (all_after run p zs) ≡ true
after-front x y run p [] d m h = absurd (false≢true h)
after-front x y run p (z ∷ zs) d m h = elim (cases_eq p z) [
  | inl e ↦ absurd (elim (before-cases x p z zs h) [
    | inl b ↦ member-other p z zs d b.1 e
    | inr k ↦ member-other p z zs d (before-second x p zs k) e
  ])
  | inr ne ↦ ap (is_before x y) (after-next run p z zs ne) ∙ elim (before-cases x p z zs h) [
    | inl b ↦ before-here x y z (all_after run p zs) b.0 (after-member y run p zs m b.1)
    | inr k ↦ before-later x y z (all_after run p zs) (after-front x y run p zs d.1 m k)
  ]
]

-- p stands before each of a run put right after it
after-p : (y : ℕ) (run : List ℕ) (p : ℕ) (zs : List ℕ) → member y run ≡ true → member p zs ≡ true → is_before p y (all_after run p zs) ≡ true
after-p y run p [] m h = absurd (false≢true h)
after-p y run p (z ∷ zs) m h = elim (cases_eq p z) [
  | inl e ↦ ap (is_before p y) (after-here run p z zs e) ∙ before-here p y z (run ++ zs) e (member-append_left y run zs m)
  | inr ne ↦ ap (is_before p y) (after-next run p z zs ne) ∙ elim (member-cases p z zs h) [
    | inl e ↦ absurd (ne e)
    | inr k ↦ before-later p y z (all_after run p zs) (after-p y run p zs m k)
  ]
]

-- each of a run put right after p stands before what p stands before
after-back : (x y : ℕ) (run : List ℕ) (p : ℕ) (zs : List ℕ) → member x run ≡ true → is_before p y zs ≡ true → is_before x y (all_after run p zs) ≡ true
after-back x y run p [] m h = absurd (false≢true h)
after-back x y run p (z ∷ zs) m h = elim (cases_eq p z) [
  | inl e ↦ ap (is_before x y) (after-here run p z zs e) ∙ before-later x y z (run ++ zs) (before-append_both x y run zs m (elim (before-cases p y z zs h) [
    | inl b ↦ b.1
    | inr k ↦ before-second p y zs k
  ]))
  | inr ne ↦ ap (is_before x y) (after-next run p z zs ne) ∙ elim (before-cases p y z zs h) [
    | inl b ↦ absurd (ne b.0)
    | inr k ↦ before-later x y z (all_after run p zs) (after-back x y run p zs m k)
  ]
]

-- the members of a run put right after p stand in the run's order
after-inside : (x y : ℕ) (run : List ℕ) (p : ℕ) (zs : List ℕ) → is_before x y run ≡ true → member p zs ≡ true → is_before x y (all_after run p zs) ≡ true
after-inside x y run p [] m h = absurd (false≢true h)
after-inside x y run p (z ∷ zs) m h = elim (cases_eq p z) [
  | inl e ↦ ap (is_before x y) (after-here run p z zs e) ∙ before-later x y z (run ++ zs) (before-append_left x y run zs m)
  | inr ne ↦ ap (is_before x y) (after-next run p z zs ne) ∙ elim (member-cases p z zs h) [
    | inl e ↦ absurd (ne e)
    | inr k ↦ before-later x y z (all_after run p zs) (after-inside x y run p zs m k)
  ]
]

-- A run that moved. -----------------------------------------------------------------------------------

module _ (run : List ℕ) (p : ℕ) (zs : List ℕ) (apart : member p run ≡ false) where
  -- others stand as they did
  pub run-others : (x y : ℕ) → member x run ≡ false → member y run ≡ false → is_before x y (with_run_after run p zs) ≡ is_before x y zs
  run-others x y hx hy = after-others x y run p (without_each run zs) hx hy ∙ before-without_each x y run zs hx hy

  -- an item apart from the run stays in a list without it
  p-in : member p zs ≡ true → member p (without_each run zs) ≡ true
  p-in h = member-without_each p run zs apart ∙ h

  -- what stood before p stands before the run
  pub run-front : (x y : ℕ) → Distinct zs → member x run ≡ false → member y run ≡ true → is_before x p zs ≡ true
      → is_before x y (with_run_after run p zs) ≡ true
  run-front x y d hx m h = after-front x y run p (without_each run zs) (Distinct-without_each run zs d) m (before-without_each x p run zs hx apart ∙ h)

  -- and so does p
  pub run-p : (y : ℕ) → member y run ≡ true → member p zs ≡ true → is_before p y (with_run_after run p zs) ≡ true
  run-p y m h = after-p y run p (without_each run zs) m (p-in h)

  -- the run stands before what p stood before
  pub run-back : (x y : ℕ) → member x run ≡ true → member y run ≡ false → is_before p y zs ≡ true → is_before x y (with_run_after run p zs) ≡ true
  run-back x y m hy h = after-back x y run p (without_each run zs) m (before-without_each p y run zs apart hy ∙ h)

  -- the run stands in its own order
  pub run-inside : (x y : ℕ) → is_before x y run ≡ true → member p zs ≡ true → is_before x y (with_run_after run p zs) ≡ true
  run-inside x y h m = after-inside x y run p (without_each run zs) h (p-in m)

  -- no item comes or goes
  pub run-members : ((x : ℕ) → member x run ≡ true → member x zs ≡ true) → member p zs ≡ true → (y : ℕ) → member y (with_run_after run p zs) ≡ member y zs
  run-members all h y = elim (cases_Bool (member y run)) [
    | inl m ↦ after-member y run p (without_each run zs) m (p-in h) ∙ sym (all y m)
    | inr n ↦ after-other y run p (without_each run zs) n ∙ member-without_each y run zs n
  ]

-- a run of none moves nothing
pub run-none : (p : ℕ) (zs : List ℕ) → with_run_after [] p zs ≡ zs
run-none p [] = refl
run-none p (z ∷ zs) = elim (cases_eq p z) [
  | inl e ↦ after-here [] p z zs e
  | inr ne ↦ after-next [] p z zs ne ∙ ap (λ ws. z ∷ ws) (run-none p zs)
]

-- One more, put right after p. ------------------------------------------------------------------------

-- two lists joined, the first without x in it, lose x where the second does
without-append : (x : ℕ) (xs ys : List ℕ) → member x xs ≡ false → without x (xs ++ ys) ≡ xs ++ without x ys
without-append x [] ys h = refl
without-append x (z ∷ xs) ys h =
    let q = not_member-parts x z xs h in
    without-next x z (xs ++ ys) q.0 ∙ ap (λ ws. z ∷ ws) (without-append x xs ys q.1)

-- x, which is not p nor in the run, may be taken out before the run is put in or after it
without-after : (x : ℕ) (run : List ℕ) (p : ℕ) (zs : List ℕ) → member x run ≡ false → x ≢ p → without x (all_after run p zs) ≡ all_after run p (without x zs)
without-after x run p [] h ne = refl
without-after x run p (z ∷ zs) h ne = elim (cases_eq p z) [
  | inl e ↦ ap (without x) (after-here run p z zs e) ∙ (without-next x z (run ++ zs) (λ k. ne (k ∙ sym e)) ∙ (ap (λ ws. z ∷ ws) (without-append x run zs h)
      ∙ (sym (after-here run p z (without x zs) e) ∙ ap (all_after run p) (sym (without-next x z zs (λ k. ne (k ∙ sym e)))))))
  | inr nz ↦ ap (without x) (after-next run p z zs nz) ∙ elim (cases_eq x z) [
    | inl e ↦ without-here x z (all_after run p zs) e ∙ (without-after x run p zs h ne ∙ ap (all_after run p) (sym (without-here x z zs e)))
    | inr nx ↦ without-next x z (all_after run p zs) nx ∙ (ap (λ ws. z ∷ ws) (without-after x run p zs h ne)
        ∙ (sym (after-next run p z (without x zs) nz) ∙ ap (all_after run p) (sym (without-next x z zs nx))))
  ]
]

-- one item put right after p, behind which a run was put, makes a run with the item in front
one-after : (x : ℕ) (run : List ℕ) (p : ℕ) (zs : List ℕ) → right_after x p (all_after run p zs) ≡ all_after (x ∷ run) p zs
one-after x run p [] = refl
one-after x run p (z ∷ zs) = elim (cases_eq p z) [
  | inl e ↦ ap (right_after x p) (after-here run p z zs e)
      ∙ (ap (λ b. cond b (z ∷ x ∷ (run ++ zs)) (z ∷ right_after x p (run ++ zs))) (eq-eqb p z e) ∙ sym (after-here (x ∷ run) p z zs e))
  | inr ne ↦ ap (right_after x p) (after-next run p z zs ne)
      ∙ (ap (λ b. cond b (z ∷ x ∷ all_after run p zs) (z ∷ right_after x p (all_after run p zs))) (ne_eqb p z ne)
      ∙ (ap (λ ws. z ∷ ws) (one-after x run p zs) ∙ sym (after-next (x ∷ run) p z zs ne)))
]

-- a put of one more right after p, where the others of the run stand already, moves the longer run
pub run-more : (x : ℕ) (run : List ℕ) (p : ℕ) (zs : List ℕ) → member x run ≡ false → x ≢ p
    → right_after x p (without x (with_run_after run p zs)) ≡ with_run_after (x ∷ run) p zs
run-more x run p zs h ne = ap (right_after x p) (without-after x run p (without_each run zs) h ne) ∙ one-after x run p (without x (without_each run zs))

-- a run moves as its back does, and then its front
pub run-parts : (front back : List ℕ) (p : ℕ) (zs : List ℕ) → Distinct (front ++ back) → member p front ≡ false
    → with_run_after (front ++ back) p zs ≡ with_run_after front p (with_run_after back p zs)
run-parts [] back p zs d apart = sym (run-none p (with_run_after back p zs))
run-parts (x ∷ front) back p zs d apart =
    let q = not_member-parts p x front apart in
    sym (run-more x (front ++ back) p zs d.0 (λ e. q.0 (sym e)))
    ∙ (ap (λ ws. right_after x p (without x ws)) (run-parts front back p zs d.1 q.1)
    ∙ run-more x front p (with_run_after back p zs) (false_from_ne_true (member x front) (λ m. true≢false (sym (member-append_left x front back m) ∙ d.0)))
    (λ e. q.0 (sym e)))
