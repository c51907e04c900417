-- The comparison by chains is that of the ranks after the shifts.
use Rattle.std.proofs.Common.{◌≡◌, ◌≢◌, ◌<◌, ◌+◌, ℕ, suc, zero, Bool, true, false, cond, not, ◌||◌, List, [], ◌∷◌, ◌++◌, Option, Some, None, length}
use Rattle.std.proofs.Common.{get_or, drop, subst, eqb, ltb, refl, sym, ◌∙◌, ◌⊎◌, ap, ap₂, inl, inr, arith, true≢false, eq-eqb, ne_eqb, eqb-true, lt-ltb}
use Rattle.std.specs.Prelude.{is_some, unwrap_or}
use Rattle.std.specs.List.{insert}
use Rattle.std.proofs.lemmas.List.{drop_more}
use mathlib.Core.Path.{fun_ext}
use Rattle.std.proofs.lemmas.Bool.{cases_Bool, cases_eq, cases_lt, or_cases, or_right, or_left, or_from, false≢true, le-ltb, true_from_ne_false}
use Rattle.std.proofs.Math.Bool.{or-false}
use Rattle.kc_lists.specs.Lists.{member, Distinct, right_after, place_of}
use Rattle.kc_lists.proofs.Members.{member-head, member-tail, not_member-parts, Distinct-right_after, place_of-first, place_of-next}
use Rattle.kc_lists.proofs.Counting.{member-push, member-push_cases, Distinct-push, member-other, member-get_or, one_if}
use Rattle.kc_cert.specs.Local.{firsts, seconds, AreInTurn}
use Rattle.kc_cert.specs.Ranks.{moved, place_after}
use Rattle.kc_cert.specs.Shifting.{place_in, anchor_of, with_anchor, line_with, home_with, line_after, home_after, no_home, chain_after}
use Rattle.kc_cert.proofs.Placing.{moved-itself, moved-other, placed_has}
use Rattle.kc_lists.proofs.Shared.{ltb-double, ltb-next}

-- a line and anchors that the shifts to come can go on with
pub record Linked (line : List ℕ) (home : ℕ → Option ℕ) (shifts : List (ℕ × ℕ)) : Type 0 where
  pub once : Distinct line
  pub held : (y : ℕ) → is_some (home y) ≡ member y line
  pub free : (y : ℕ) → member y (firsts shifts) ≡ true → member y line ≡ false
  pub in_turn : AreInTurn shifts
  pub apart : Distinct (firsts shifts)

-- the line and the anchors tell how the vertices below `n` stand by the ranks `now`
pub record Chained (place now : ℕ → ℕ) (n : ℕ) (line : List ℕ) (home : ℕ → Option ℕ) : Type 0 where
  pub vertices : (y : ℕ) → y < n → anchor_of home y < n
  pub anchor_held : (y : ℕ) → member y line ≡ true → member (anchor_of home y) line ≡ true
  pub apart : (y z : ℕ) → y < n → z < n → now y ≡ now z → y ≡ z
  pub far : (y z : ℕ) → y < n → z < n → anchor_of home y ≢ anchor_of home z → ltb (now y) (now z) ≡ ltb (place (anchor_of home y)) (place (anchor_of home z))
  pub near : (y z : ℕ) → y < n → z < n → member y line ≡ true → member z line ≡ true → anchor_of home y ≡ anchor_of home z
      → ltb (now y) (now z) ≡ ltb (place_of y line) (place_of z line)

-- the empty line can go on with shifts that come in turn and move each vertex once
pub linked_none : (shifts : List (ℕ × ℕ)) → AreInTurn shifts → Distinct (firsts shifts) → Linked [] no_home shifts
linked_none shifts t d = record { once = tt; held = λ y. refl; free = λ y m. refl; in_turn = t; apart = d }

-- before any shift, the empty line tells how the vertices stand
pub chained_none : (place : ℕ → ℕ) (n : ℕ) → ((y z : ℕ) → y < n → z < n → place y ≡ place z → y ≡ z) → Chained place place n [] no_home
chained_none place n apart = record {
  vertices = λ y l. l;
  anchor_held = λ y m. absurd (false≢true m);
  apart = apart;
  far = λ y z ly lz ne. refl;
  near = λ y z ly lz my mz e. absurd (false≢true my);
}

-- what stands in the line with an anchor
pub with_anchor-has : (w : ℕ) (line : List ℕ) (y : ℕ) → member y (with_anchor w line) ≡ (member y line || eqb y w)
with_anchor-has w line y = elim (cases_Bool (member w line)) [
  | inl m ↦ ap (λ b. member y (cond b line (line ++ w ∷ []))) m ∙ elim (cases_eq y w) [
    | inl e ↦ (ap (λ k. member k line) e ∙ m) ∙ sym (or_right (member y line) (eqb y w) (eq-eqb y w e))
    | inr ne ↦ sym (or-false (member y line)) ∙ ap (λ b. member y line || b) (sym (ne_eqb y w ne))
  ]
  | inr n ↦ ap (λ b. member y (cond b line (line ++ w ∷ []))) n ∙ member-push y w line
]

-- the line with an anchor in it has each number once
pub Distinct-with_anchor : (w : ℕ) (line : List ℕ) → Distinct line → Distinct (with_anchor w line)
Distinct-with_anchor w line d =
    elim (member w line) as (λ b. member w line ≡ b → Distinct (cond b line (line ++ w ∷ []))) [ true ↦ λ _. d | false ↦ λ n. Distinct-push line w d n ] refl

-- what is put right after the first number comes second
pub right_after-here : (x w v : ℕ) (vs : List ℕ) → w ≡ v → right_after x w (v ∷ vs) ≡ v ∷ x ∷ vs
right_after-here x w v vs e = ap (λ b. cond b (v ∷ x ∷ vs) (v ∷ right_after x w vs)) (eq-eqb w v e)

-- what is put right after another number leaves the first in front
pub right_after-next : (x w v : ℕ) (vs : List ℕ) → w ≢ v → right_after x w (v ∷ vs) ≡ v ∷ right_after x w vs
right_after-next x w v vs ne = ap (λ b. cond b (v ∷ x ∷ vs) (v ∷ right_after x w vs)) (ne_eqb w v ne)

-- places after one is put right behind another
pub place_of-put : (x w y : ℕ) (line : List ℕ) → member x line ≡ false → member w line ≡ true → y ≢ x
    → place_of y (right_after x w line) ≡ place_of y line + one_if (ltb (place_of w line) (place_of y line))
place_of-put x w y [] mx mw ne = absurd (false≢true mw)
place_of-put x w y (v ∷ vs) mx mw ne =
    let out = not_member-parts x v vs mx in
    elim (cases_eq y v) [
      | inl e ↦
          let z : place_of y (v ∷ vs) ≡ 0 = place_of-first y v vs e in
          let none : one_if (ltb (place_of w (v ∷ vs)) (place_of y (v ∷ vs))) ≡ 0 =
          ap one_if (le-ltb (place_of w (v ∷ vs)) (place_of y (v ∷ vs)) (omega (arith, z))) in
          elim (cases_eq w v) [
            | inl here ↦ omega (arith, z, none, ap (place_of y) (right_after-here x w v vs here), place_of-first y v (x ∷ vs) e)
            | inr on ↦ omega (arith, z, none, ap (place_of y) (right_after-next x w v vs on), place_of-first y v (right_after x w vs) e)
          ]
      | inr other ↦
          let z : place_of y (v ∷ vs) ≡ suc (place_of y vs) = place_of-next y v vs other in
          elim (cases_eq w v) [
            | inl here ↦
                let zw : place_of w (v ∷ vs) ≡ 0 = place_of-first w v vs here in
                let one : one_if (ltb (place_of w (v ∷ vs)) (place_of y (v ∷ vs))) ≡ 1 =
                ap one_if (lt-ltb (place_of w (v ∷ vs)) (place_of y (v ∷ vs)) (omega (arith, z, zw))) in
                omega (arith, z, one, ap (place_of y) (right_after-here x w v vs here), place_of-next y v (x ∷ vs) other, place_of-next y x vs ne)
            | inr on ↦
                let zw : place_of w (v ∷ vs) ≡ suc (place_of w vs) = place_of-next w v vs on in
                let same : ltb (place_of w (v ∷ vs)) (place_of y (v ∷ vs)) ≡ ltb (place_of w vs) (place_of y vs) =
                ap₂ ltb zw z ∙ ltb-next (place_of w vs) (place_of y vs) in
                let step : one_if (ltb (place_of w (v ∷ vs)) (place_of y (v ∷ vs))) ≡ one_if (ltb (place_of w vs) (place_of y vs)) = ap one_if same in
                omega (
                  arith,
                  z,
                  step,
                  ap (place_of y) (right_after-next x w v vs on),
                  place_of-next y v (right_after x w vs) other,
                  place_of-put x w y vs out.1 (member-other w v vs on mw) ne,
                )
          ]
    ]

-- what is put right behind another stands one place after it
place_of-itself : (x w : ℕ) (line : List ℕ) → member x line ≡ false → member w line ≡ true → place_of x (right_after x w line) ≡ place_of w line + 1
place_of-itself x w [] mx mw = absurd (false≢true mw)
place_of-itself x w (v ∷ vs) mx mw =
    let out = not_member-parts x v vs mx in
    elim (cases_eq w v) [
      | inl here ↦
          omega (
            arith,
            ap (place_of x) (right_after-here x w v vs here),
            place_of-next x v (x ∷ vs) out.0,
            place_of-first x x vs refl,
            place_of-first w v vs here,
          )
      | inr on ↦
          omega (
            arith,
            ap (place_of x) (right_after-next x w v vs on),
            place_of-next x v (right_after x w vs) out.0,
            place_of-next w v vs on,
            place_of-itself x w vs out.1 (member-other w v vs on mw),
          )
    ]

-- the order of two others stays
others_stay : (pw py pz : ℕ) → ltb (py + one_if (ltb pw py)) (pz + one_if (ltb pw pz)) ≡ ltb py pz
others_stay pw py pz = grind arith

-- what is put right behind `w` stands before what stood behind it
put_before : (pw pz : ℕ) → ltb (pw + 1) (pz + one_if (ltb pw pz)) ≡ ltb pw pz
put_before pw pz = grind arith

-- what stood behind a place stands behind what is put right there, and what stood up to it before
put_behind : (pw pz : ℕ) → ltb (pz + one_if (ltb pw pz)) (pw + 1) ≡ not (ltb pw pz)
put_behind pw pz = grind arith

-- the odd number after a doubled one is less than another doubled one just where the first is less
doubled_before : (w z : ℕ) → ltb (w + w + 1) (z + z) ≡ ltb w z
doubled_before w z = elim (cases_lt w z) [
  | inl l ↦ lt-ltb (w + w + 1) (z + z) (omega arith) ∙ sym (lt-ltb w z l)
  | inr l ↦ le-ltb (w + w + 1) (z + z) (omega arith) ∙ sym (le-ltb w z l)
]

-- a doubled number is less than the odd one after another just where the other is not less
doubled_behind : (w z : ℕ) → ltb (z + z) (w + w + 1) ≡ not (ltb w z)
doubled_behind w z = elim (cases_lt w z) [
  | inl l ↦ le-ltb (z + z) (w + w + 1) (omega arith) ∙ ap not (sym (lt-ltb w z l))
  | inr l ↦ lt-ltb (z + z) (w + w + 1) (omega arith) ∙ ap not (sym (le-ltb w z l))
]

-- the line with an anchor in it has the anchor
anchor_itself : (w : ℕ) (line : List ℕ) → member w (with_anchor w line) ≡ true
anchor_itself w line = with_anchor-has w line w ∙ or_right (member w line) (eqb w w) (eq-eqb w w refl)

-- the line after a shift has what it had, the vertex shifted, and the one that this comes behind
pub line_with-has : (x w : ℕ) (line : List ℕ) (y : ℕ) → member y (line_with x w line) ≡ ((member y line || eqb y w) || eqb y x)
line_with-has x w line y = placed_has x w (with_anchor w line) (anchor_itself w line) y ∙ ap (λ b. b || eqb y x) (with_anchor-has w line y)

-- there is an anchor then where one of two tests passes, or where there was one
some_if : (a b : Bool) (k : ℕ) (o : Option ℕ) → is_some (cond a (Some k) (cond b (Some k) o)) ≡ ((is_some o || b) || a)
some_if true true k None = refl
some_if true true k (Some i) = refl
some_if true false k None = refl
some_if true false k (Some i) = refl
some_if false true k None = refl
some_if false true k (Some i) = refl
some_if false false k None = refl
some_if false false k (Some i) = refl

-- a vertex that is shifted is not in the line yet, nor the one that it comes behind
apart-shift : (line : List ℕ) (home : ℕ → Option ℕ) (shift : ℕ × ℕ) (shifts : List (ℕ × ℕ)) → Linked line home (shift ∷ shifts)
    → (shift.1 ≢ shift.0) × (member shift.0 line ≡ false) × (member shift.0 (with_anchor shift.1 line) ≡ false)
apart-shift line home shift shifts h =
    let p = not_member-parts shift.1 shift.0 (firsts shifts) h.in_turn.0 in
    let out : member shift.0 line ≡ false = h.free shift.0 (member-head shift.0 (firsts shifts)) in
    (p.0, out, with_anchor-has shift.1 line shift.0 ∙ or_from (member shift.0 line) (eqb shift.0 shift.1) out (ne_eqb shift.0 shift.1 (λ e. p.0 (sym e))))

-- after one shift more, line and anchors can go on with the shifts to come
pub linked_more : (line : List ℕ) (home : ℕ → Option ℕ) (shift : ℕ × ℕ) (shifts : List (ℕ × ℕ)) → Linked line home (shift ∷ shifts)
    → Linked (line_with shift.0 shift.1 line) (home_with shift.0 shift.1 home) shifts
linked_more line home shift shifts h =
    let x : ℕ = shift.0 in
    let w : ℕ = shift.1 in
    let p = not_member-parts w x (firsts shifts) h.in_turn.0 in
    let a = apart-shift line home shift shifts h in
    record {
      once = Distinct-right_after x w (with_anchor w line) (Distinct-with_anchor w line h.once) a.2;
      held = λ y. some_if (eqb y x) (eqb y w) (anchor_of home w) (home y) ∙ (ap (λ t. (t || eqb y w) || eqb y x) (h.held y) ∙ sym (line_with-has x w line y));
      free = λ y m.
          let y-w : y ≢ w = λ e. true≢false (sym m ∙ (ap (λ k. member k (firsts shifts)) e ∙ p.1)) in
          let y-x : y ≢ x = λ e. true≢false (sym m ∙ (ap (λ k. member k (firsts shifts)) e ∙ h.apart.0)) in
          line_with-has x w line y
          ∙ or_from (member y line || eqb y w) (eqb y x)
          (or_from (member y line) (eqb y w) (h.free y (member-tail y x (firsts shifts) m)) (ne_eqb y w y-w)) (ne_eqb y x y-x);
      in_turn = h.in_turn.1;
      apart = h.apart.1;
    }

-- the anchor of a shifted vertex is that of the one that it comes behind
anchor_with-itself : (x w y : ℕ) (home : ℕ → Option ℕ) → y ≡ x → anchor_of (home_with x w home) y ≡ anchor_of home w
anchor_with-itself x w y home e = ap (λ b. unwrap_or (cond b (Some (anchor_of home w)) (cond (eqb y w) (Some (anchor_of home w)) (home y))) y) (eq-eqb y x e)

-- the anchors of the others stay
anchor_with-other : (x w y : ℕ) (home : ℕ → Option ℕ) → y ≢ x → anchor_of (home_with x w home) y ≡ anchor_of home y
anchor_with-other x w y home ne = ap (λ b. unwrap_or (cond b (Some (anchor_of home w)) (cond (eqb y w) (Some (anchor_of home w)) (home y)))
    y) (ne_eqb y x ne) ∙ elim (cases_eq y w) [
      | inl e ↦ ap (λ b. unwrap_or (cond b (Some (anchor_of home w)) (home y)) y) (eq-eqb y w e) ∙ ap (anchor_of home) (sym e)
      | inr other ↦ ap (λ b. unwrap_or (cond b (Some (anchor_of home w)) (home y)) y) (ne_eqb y w other)
    ]

-- a shift gives the vertex shifted the anchor of the one it comes behind, and leaves the anchors and the order of the others
cases_shifted : (now : ℕ → ℕ) (x w y : ℕ) (home : ℕ → Option ℕ)
    → ((y ≡ x) × (anchor_of (home_with x w home) y ≡ anchor_of home w) × (moved now x w y ≡ now w + now w + 1))
    ⊎ ((y ≢ x) × (anchor_of (home_with x w home) y ≡ anchor_of home y) × (moved now x w y ≡ now y + now y))
cases_shifted now x w y home = elim (cases_eq y x) [
  | inl e ↦ inl (e, anchor_with-itself x w y home e, moved-itself now x w y e)
  | inr ne ↦ inr (ne, anchor_with-other x w y home ne, moved-other now x w y ne)
]

-- where nothing is there, the default is read
unwrap-none : (o : Option ℕ) (y : ℕ) → is_some o ≡ false → unwrap_or o y ≡ y
unwrap-none None y n = refl
unwrap-none (Some k) y n = absurd (true≢false n)

-- a vertex that is not in the line is its own anchor
pub anchor-alone : (line : List ℕ) (home : ℕ → Option ℕ) (y : ℕ) → ((y : ℕ) → is_some (home y) ≡ member y line) → member y line ≡ false → anchor_of home y ≡ y
anchor-alone line home y held n = unwrap-none (home y) y (held y ∙ n)

-- of two different numbers one is less just where the other is not
less-opposite : (p q : ℕ) → p ≢ q → not (ltb p q) ≡ ltb q p
less-opposite p q ne = elim (cases_lt p q) [
  | inl l ↦ ap not (lt-ltb p q l) ∙ sym (le-ltb q p (omega arith))
  | inr l ↦ ap not (le-ltb p q l) ∙ sym (lt-ltb q p (omega arith))
]

-- one number more at the end leaves the places of the others
pub place_of-push : (y w : ℕ) (line : List ℕ) → member y line ≡ true → place_of y (line ++ w ∷ []) ≡ place_of y line
place_of-push y w [] m = absurd (false≢true m)
place_of-push y w (v ∷ vs) m = elim (cases_eq y v) [
  | inl e ↦ place_of-first y v (vs ++ w ∷ []) e ∙ sym (place_of-first y v vs e)
  | inr ne ↦ place_of-next y v (vs ++ w ∷ []) ne ∙ (ap suc (place_of-push y w vs (member-other y v vs ne m)) ∙ sym (place_of-next y v vs ne))
]

-- with an anchor more in the line
near-open : (place now : ℕ → ℕ) (n : ℕ) (line : List ℕ) (home : ℕ → Option ℕ) (w : ℕ) → ((y : ℕ) → is_some (home y) ≡ member y line)
    → Chained place now n line home
    → (y z : ℕ) → y < n → z < n → member y (with_anchor w line) ≡ true → member z (with_anchor w line) ≡ true → anchor_of home y ≡ anchor_of home z
    → ltb (now y) (now z) ≡ ltb (place_of y (with_anchor w line)) (place_of z (with_anchor w line))
near-open place now n line home w held h y z ly lz my mz e =
    elim (member w line) as (λ b. member w line ≡ b → member y (cond b line (line ++ w ∷ [])) ≡ true → member z (cond b line (line ++ w ∷ [])) ≡ true
    → ltb (now y) (now z) ≡ ltb (place_of y (cond b line (line ++ w ∷ []))) (place_of z (cond b line (line ++ w ∷ [])))) [
      | true ↦ λ _ ny nz. h.near y z ly lz ny nz e
      | false ↦ λ out ny nz.
          let alone : anchor_of home w ≡ w = anchor-alone line home w held out in
          elim (member-push_cases y w line ny) [
            | inl ky ↦ elim (member-push_cases z w line nz) [
              | inl kz ↦ h.near y z ly lz ky kz e ∙ sym (ap₂ ltb (place_of-push y w line ky) (place_of-push z w line kz))
              | inr z-w ↦ absurd (true≢false (sym (h.anchor_held y ky) ∙ (ap (λ k. member k line) (e ∙ (ap (anchor_of home) z-w ∙ alone)) ∙ out)))
            ]
            | inr y-w ↦ elim (member-push_cases z w line nz) [
              | inl kz ↦ absurd (true≢false (sym (h.anchor_held z kz) ∙ (ap (λ k. member k line) (sym e ∙ (ap (anchor_of home) y-w ∙ alone)) ∙ out)))
              | inr z-w ↦
                  let same : z ≡ y = z-w ∙ sym y-w in
                  le-ltb (now y) (now z) (omega (arith, ap now same))
                  ∙ sym
                  (le-ltb (place_of y (line ++ w ∷ [])) (place_of z (line ++ w ∷ []))
                  (omega (arith, ap (λ k. place_of k (line ++ w ∷ [])) same)))
            ]
          ]
    ] refl my mz

-- the anchor of the one behind which `x` comes stands in the line
anchor-in : (place now : ℕ → ℕ) (n : ℕ) (line : List ℕ) (home : ℕ → Option ℕ) (x w : ℕ) → ((y : ℕ) → is_some (home y) ≡ member y line)
    → Chained place now n line home → member (anchor_of home w) (line_with x w line) ≡ true
anchor-in place now n line home x w held h = line_with-has x w line (anchor_of home w)
    ∙ or_left (member (anchor_of home w) line || eqb (anchor_of home w) w) _ (elim (cases_Bool (member w line)) [
      | inl m ↦ or_left (member (anchor_of home w) line) _ (h.anchor_held w m)
      | inr out ↦ or_right (member (anchor_of home w) line) _ (eq-eqb (anchor_of home w) w (anchor-alone line home w held out))
    ])

-- no number is less than itself
itself_last : (p : ℕ) → ltb p p ≡ false
itself_last p = le-ltb p p (omega arith)

-- after one shift more, vertices with different anchors stand as their anchors do
far-more : (place now : ℕ → ℕ) (n : ℕ) (line : List ℕ) (home : ℕ → Option ℕ) (x w : ℕ) → w < n → Chained place now n line home → (y z : ℕ) → y < n → z < n
    → anchor_of (home_with x w home) y ≢ anchor_of (home_with x w home) z
    → ltb (moved now x w y) (moved now x w z) ≡ ltb (place (anchor_of (home_with x w home) y)) (place (anchor_of (home_with x w home) z))
far-more place now n line home x w lw h y z ly lz ne =
    let as_anchors : (u v : ℕ) → anchor_of (home_with x w home) y ≡ anchor_of home u → anchor_of (home_with x w home) z ≡ anchor_of home v
    → u < n → v < n → ltb (now u) (now v) ≡ ltb (place (anchor_of (home_with x w home) y)) (place (anchor_of (home_with x w home) z)) =
    λ u v ay az lu lv. h.far u v lu lv (λ e. ne (ay ∙ (e ∙ sym az))) ∙ ap₂ ltb (ap place (sym ay)) (ap place (sym az)) in
    elim (cases_shifted now x w y home) [
      | inl (y-x, ay, y-now) ↦ elim (cases_shifted now x w z home) [
        | inl (z-x, az, z-now) ↦ absurd (ne (ay ∙ sym az))
        | inr (nz, az, z-now) ↦ ap₂ ltb y-now z-now ∙ (doubled_before (now w) (now z) ∙ as_anchors w z ay az lw lz)
      ]
      | inr (ny, ay, y-now) ↦ elim (cases_shifted now x w z home) [
        | inl (z-x, az, z-now) ↦
            let apart : now w ≢ now y = λ e. ne (ay ∙ (ap (anchor_of home) (sym (h.apart w y lw ly e)) ∙ sym az)) in
            ap₂ ltb y-now z-now ∙ (doubled_behind (now w) (now y) ∙ (less-opposite (now w) (now y) apart ∙ as_anchors y w ay az ly lw))
        | inr (nz, az, z-now) ↦ ap₂ ltb y-now z-now ∙ (ltb-double (now y) (now z) ∙ as_anchors y z ay az ly lz)
      ]
    ]

-- who is in the line after a shift, and is not the one shifted, was there with the anchor
still-in : (x w : ℕ) (line : List ℕ) (y : ℕ) → y ≢ x → member y (line_with x w line) ≡ true → member y (with_anchor w line) ≡ true
still-in x w line y ne m = elim (or_cases (member y (with_anchor w line)) (eqb y x) (sym (placed_has x w (with_anchor w line) (anchor_itself w line) y) ∙ m)) [
  | inl k ↦ k
  | inr e ↦ absurd (ne (eqb-true y x e))
]

-- after one shift more, vertices with one anchor stand as they do in the line
near-more : (place now : ℕ → ℕ) (n : ℕ) (line : List ℕ) (home : ℕ → Option ℕ) (x w : ℕ) → w < n
    → ((y : ℕ) → is_some (home y) ≡ member y line) → member x (with_anchor w line) ≡ false → Chained place now n line home
    → (y z : ℕ) → y < n → z < n → member y (line_with x w line) ≡ true → member z (line_with x w line) ≡ true
    → anchor_of (home_with x w home) y ≡ anchor_of (home_with x w home) z
    → ltb (moved now x w y) (moved now x w z) ≡ ltb (place_of y (line_with x w line)) (place_of z (line_with x w line))
near-more place now n line home x w lw held out h y z ly lz my mz e =
    let opened : List ℕ = with_anchor w line in
    let there : member w opened ≡ true = anchor_itself w line in
    let put : (v : ℕ) → v ≢ x → place_of v (line_with x w line) ≡ place_of v opened + one_if (ltb (place_of w opened) (place_of v opened)) =
    λ v ne. place_of-put x w v opened out there ne in
    let itself : (v : ℕ) → v ≡ x → place_of v (line_with x w line) ≡ place_of w opened + 1 =
    λ v v-x. ap (λ k. place_of k (line_with x w line)) v-x ∙ place_of-itself x w opened out there in
    elim (cases_shifted now x w y home) [
      | inl (y-x, ay, y-now) ↦ elim (cases_shifted now x w z home) [
        | inl (z-x, az, z-now) ↦
            ap₂ ltb y-now z-now ∙ (itself_last (now w + now w + 1) ∙ sym (ap₂ ltb (itself y y-x) (itself z z-x) ∙ itself_last (place_of w opened + 1)))
        | inr (nz, az, z-now) ↦
            ap₂ ltb y-now z-now
            ∙ (doubled_before (now w) (now z) ∙ (near-open place now n line home w held h w z lw lz there (still-in x w line z nz mz) (sym ay ∙ (e ∙ az))
            ∙ sym (ap₂ ltb (itself y y-x) (put z nz) ∙ put_before (place_of w opened) (place_of z opened))))
      ]
      | inr (ny, ay, y-now) ↦ elim (cases_shifted now x w z home) [
        | inl (z-x, az, z-now) ↦
            ap₂ ltb y-now z-now
            ∙ (doubled_behind (now w) (now y)
            ∙ (ap not (near-open place now n line home w held h w y lw ly there (still-in x w line y ny my) (sym az ∙ (sym e ∙ ay)))
            ∙ sym (ap₂ ltb (put y ny) (itself z z-x) ∙ put_behind (place_of w opened) (place_of y opened))))
        | inr (nz, az, z-now) ↦
            ap₂ ltb y-now z-now
            ∙ (ltb-double (now y) (now z)
            ∙ (near-open place now n line home w held h y z ly lz (still-in x w line y ny my) (still-in x w line z nz mz) (sym ay ∙ (e ∙ az))
            ∙ sym (ap₂ ltb (put y ny) (put z nz) ∙ others_stay (place_of w opened) (place_of y opened) (place_of z opened))))
      ]
    ]

-- after one shift more, line and anchors tell how the vertices stand
pub chained_more : (place now : ℕ → ℕ) (n : ℕ) (line : List ℕ) (home : ℕ → Option ℕ) (shift : ℕ × ℕ) (shifts : List (ℕ × ℕ)) → shift.1 < n
    → Linked line home (shift ∷ shifts) → Chained place now n line home
    → Chained place (moved now shift.0 shift.1) n (line_with shift.0 shift.1 line) (home_with shift.0 shift.1 home)
chained_more place now n line home shift shifts lw linked h =
    let x : ℕ = shift.0 in
    let w : ℕ = shift.1 in
    let a = apart-shift line home shift shifts linked in
    record {
      vertices = λ y ly. elim (cases_eq y x) [
        | inl e ↦ omega (arith, anchor_with-itself x w y home e, h.vertices w lw)
        | inr ne ↦ omega (arith, anchor_with-other x w y home ne, h.vertices y ly)
      ];
      anchor_held = λ y m. elim (cases_eq y x) [
        | inl e ↦ ap (λ k. member k (line_with x w line)) (anchor_with-itself x w y home e) ∙ anchor-in place now n line home x w linked.held h
        | inr ne ↦ ap (λ k. member k (line_with x w line)) (anchor_with-other x w y home ne)
            ∙ elim (or_cases (member y line) (eqb y w) (sym (with_anchor-has w line y) ∙ still-in x w line y ne m)) [
              | inl k ↦ line_with-has x w line (anchor_of home y) ∙ or_left _ _ (or_left _ _ (h.anchor_held y k))
              | inr e ↦ ap (λ k. member (anchor_of home k) (line_with x w line)) (eqb-true y w e) ∙ anchor-in place now n line home x w linked.held h
            ]
      ];
      apart = λ y z ly lz e. elim (cases_eq y x) [
        | inl y-x ↦ elim (cases_eq z x) [
          | inl z-x ↦ y-x ∙ sym z-x
          | inr nz ↦ absurd (omega (arith, e, moved-itself now x w y y-x, moved-other now x w z nz))
        ]
        | inr ny ↦ elim (cases_eq z x) [
          | inl z-x ↦ absurd (omega (arith, e, moved-other now x w y ny, moved-itself now x w z z-x))
          | inr nz ↦ h.apart y z ly lz (omega (arith, e, moved-other now x w y ny, moved-other now x w z nz))
        ]
      ];
      far = far-more place now n line home x w lw h;
      near = near-more place now n line home x w lw linked.held a.2 h;
    }

-- line and anchors that shifts can go on with are such after all of them too, with none to come
pub linked_all : (shifts : List (ℕ × ℕ)) (line : List ℕ) (home : ℕ → Option ℕ) → Linked line home shifts
    → Linked (line_after line shifts) (home_after home shifts) []
linked_all [] line home h = h
linked_all (shift ∷ shifts) line home h =
    linked_all shifts (line_with shift.0 shift.1 line) (home_with shift.0 shift.1 home) (linked_more line home shift shifts h)

-- after all shifts, line and anchors tell how the vertices stand
pub chained_all : (shifts : List (ℕ × ℕ)) (place now : ℕ → ℕ) (n : ℕ) (line : List ℕ) (home : ℕ → Option ℕ)
    → ((w : ℕ) → member w (seconds shifts) ≡ true → w < n) → Linked line home shifts → Chained place now n line home
    → Chained place (place_after now shifts) n (line_after line shifts) (home_after home shifts)
chained_all [] place now n line home within linked h = h
chained_all (shift ∷ shifts) place now n line home within linked h =
    chained_all shifts place (moved now shift.0 shift.1) n (line_with shift.0 shift.1 line) (home_with shift.0 shift.1 home)
    (λ w m. within w (member-tail w shift.1 (seconds shifts) m))
    (linked_more line home shift shifts linked)
    (chained_more place now n line home shift shifts (within shift.1 (member-head shift.1 (seconds shifts))) linked h)

-- of two vertices with one anchor each is in the line
both_in : (place now : ℕ → ℕ) (n : ℕ) (line : List ℕ) (home : ℕ → Option ℕ) → ((y : ℕ) → is_some (home y) ≡ member y line)
    → Chained place now n line home → (y z : ℕ) → y ≢ z → anchor_of home y ≡ anchor_of home z → member y line ≡ true
both_in place now n line home held h y z ne e = true_from_ne_false (member y line) (λ out.
    let alone : anchor_of home y ≡ y = anchor-alone line home y held out in
    elim (cases_Bool (member z line)) [
      | inl m ↦ true≢false (sym (h.anchor_held z m) ∙ (ap (λ k. member k line) (sym e ∙ alone) ∙ out))
      | inr n ↦ ne (sym alone ∙ (e ∙ anchor-alone line home z held n))
    ])

-- the place of a member that is found is its place
place_in-is : (xs : List ℕ) (x : ℕ) → member x xs ≡ true → unwrap_or (place_in xs x) 0 ≡ place_of x xs
place_in-is xs x m = ap (λ b. unwrap_or (cond b (Some (place_of x xs)) None) 0) m

-- the comparison by chains
pub chain_after-is : (place now : ℕ → ℕ) (n : ℕ) (line : List ℕ) (home : ℕ → Option ℕ) → ((y : ℕ) → is_some (home y) ≡ member y line)
    → Chained place now n line home → (y z : ℕ) → y < n → z < n → y ≢ z
    → chain_after place home (place_in line) y z ≡ ltb (now y) (now z)
chain_after-is place now n line home held h y z ly lz ne = elim (cases_eq (anchor_of home y) (anchor_of home z)) [
  | inl e ↦
      let my : member y line ≡ true = both_in place now n line home held h y z ne e in
      let mz : member z line ≡ true = both_in place now n line home held h z y (λ k. ne (sym k)) (sym e) in
      ap
      (λ b.
      cond b (ltb (unwrap_or (place_in line y) 0) (unwrap_or (place_in line z) 0))
      (ltb (place (anchor_of home y)) (place (anchor_of home z))))
      (eq-eqb (anchor_of home y) (anchor_of home z) e)
      ∙ (ap₂ ltb (place_in-is line y my) (place_in-is line z mz) ∙ sym (h.near y z ly lz my mz e))
  | inr other ↦
      ap
      (λ b.
      cond b (ltb (unwrap_or (place_in line y) 0) (unwrap_or (place_in line z) 0))
      (ltb (place (anchor_of home y)) (place (anchor_of home z))))
      (ne_eqb (anchor_of home y) (anchor_of home z) other)
      ∙ sym (h.far y z ly lz other)
]

-- what an insert right behind a place makes of a list
pub inserted-behind : (x w k : ℕ) (line : List ℕ) → Distinct line → k < length line → get_or line k 0 ≡ w → insert line (k + 1) x ≡ right_after x w line
inserted-behind x w k [] d l e = absurd (omega arith)
inserted-behind x w zero (v ∷ vs) d l e = sym (right_after-here x w v vs (sym e))
inserted-behind x w (suc k) (v ∷ vs) d l e =
    let ne : w ≢ v = λ same. true≢false (sym (member-get_or vs k 0 (omega arith)) ∙ (ap (λ n. member n vs) (e ∙ same) ∙ d.0)) in
    let next : suc k + 1 ≡ suc (k + 1) = omega arith in
    ap (λ j. insert (v ∷ vs) j x) next ∙ (ap (λ rest. v ∷ rest) (inserted-behind x w k vs d.1 (omega arith) e) ∙ sym (right_after-next x w v vs ne))

-- the line and the anchors after the first shifts, and one more
pub linked_next : (shifts : List (ℕ × ℕ)) (i : ℕ) (line line' : List ℕ) (home home' : ℕ → Option ℕ) → i < length shifts → let p : ℕ × ℕ =
    get_or shifts i (0, 0) in
    Linked line home (drop i shifts) → line' ≡ line_with p.0 p.1 line → ((y : ℕ) → home' y ≡ home_with p.0 p.1 home y)
    → Linked line' home' (drop (i + 1) shifts) × (line_after line' (drop (i + 1) shifts) ≡ line_after line (drop i shifts))
    × (home_after home' (drop (i + 1) shifts) ≡ home_after home (drop i shifts))
linked_next shifts i line line' home home' l h e f =
    let p : ℕ × ℕ = get_or shifts i (0, 0) in
    let rest : List (ℕ × ℕ) = drop (i + 1) shifts in
    let next : drop i shifts ≡ p ∷ rest = drop_more shifts i (0, 0) l in
    let g : home' ≡ home_with p.0 p.1 home = fun_ext f in
    let more : Linked (line_with p.0 p.1 line) (home_with p.0 p.1 home) rest =
    linked_more line home p rest (subst (λ (t : List (ℕ × ℕ)). Linked line home t) next h) in
    let at : Linked line' (home_with p.0 p.1 home) rest = subst (λ (t : List ℕ). Linked t (home_with p.0 p.1 home) rest) (sym e) more in (
      subst (λ (t : ℕ → Option ℕ). Linked line' t rest) (sym g) at,
      ap (λ (t : List ℕ). line_after t rest) e ∙ ap (line_after line) (sym next),
      ap (λ (t : ℕ → Option ℕ). home_after t rest) g ∙ ap (home_after home) (sym next),
    )
