-- The order and the core numbers after moves.
use Rattle.std.proofs.Common.{◌≡◌, ◌≢◌, ◌≤◌, ◌<◌, ◌+◌, ◌-◌, ℕ, suc, zero, Bool, true, false, cond, ◌&&◌, ◌||◌, List, [], ◌∷◌, ◌++◌, length, get_or}
use Rattle.std.proofs.Common.{eqb, ltb, leb, refl, sym, ◌∙◌, ap, ap₂, inl, inr, arith, true≢false, eq-eqb, lt-ltb}
use Rattle.std.specs.Prelude.{AllPairs}
use Rattle.std.proofs.lemmas.Bool.{cases_Bool, cases_eq, cases_lt, or_parts, false≢true, ltb-true, ltb-false, leb-true, leb-false, le-ltb}
use Rattle.kc_lists.specs.Lists.{member, Distinct, below}
use Rattle.kc_lists.proofs.Members.{member-head, member-tail, not_member-append, member-append_left, member-append_right}
use Rattle.kc_lists.proofs.Counting.{member-get_or, member-below}
use Rattle.kc_graph.specs.Lawful.{Ranked, IsCertified}
use Rattle.kc_graph.specs.Plans.{put_between, shifted, renumbered, moved_by}
use Rattle.kc_graph.specs.declared.plan.Moves.{Moves}
use Rattle.kc_graph.specs.declared.plan.Moves.TheVariants.{Kept, Plain, Rise, Fall}
use Rattle.kc_cert.specs.Local.{firsts, seconds, AreInTurn, moved_vertices, MovesFit}
use Rattle.kc_cert.specs.Ranks.{rank_in, AscendsBy, Orders, moved, place_after, then_after}
use Rattle.kc_cert.specs.Stands.{leaving, stands_after}
use Rattle.kc_cert.proofs.Placing.{moved-itself, moved-other, shifted-has, shifted-ascends, Orders-from_Ascends}
use Rattle.kc_cert.proofs.Ordered.{rank-ascends, order-has, order-distinct, ranks-rise}
use Rattle.kc_cert.proofs.Final.{final-orders, final-has, after-itself}
use Rattle.kc_cert.proofs.Holding.{length-renumbered, renumbered-other, renumbered-moved}
use Rattle.kc_lists.proofs.Shared.{ltb-double, Distinct-front}

-- two vertices that no shift moves stand as before
pub place_after-still : (place : ℕ → ℕ) (shifts : List (ℕ × ℕ)) (y z : ℕ) → member y (firsts shifts) ≡ false → member z (firsts shifts) ≡ false
    → ltb (place_after place shifts y) (place_after place shifts z) ≡ ltb (place y) (place z)
place_after-still place [] y z my mz = refl
place_after-still place (p ∷ shifts) y z my mz =
    let ny = or_parts (eqb y p.0) (member y (firsts shifts)) my in
    let nz = or_parts (eqb z p.0) (member z (firsts shifts)) mz in
    let ey : moved place p.0 p.1 y ≡ place y + place y = moved-other place p.0 p.1 y (λ e. true≢false (sym (eq-eqb y p.0 e) ∙ ny.0)) in
    let ez : moved place p.0 p.1 z ≡ place z + place z = moved-other place p.0 p.1 z (λ e. true≢false (sym (eq-eqb z p.0 e) ∙ nz.0)) in
    place_after-still (moved place p.0 p.1) shifts y z ny.1 nz.1 ∙ (ap₂ ltb ey ez ∙ ltb-double (place y) (place z))

-- of two of the vertices below `n`, one with a lesser number stands first
abbrev pub GoByNumber : List ℕ → ℕ → (ℕ → ℕ) → Type 0
GoByNumber core n place = (a b : ℕ) → a < n → b < n → get_or core a 0 < get_or core b 0 → place a < place b

-- vertices of a number
abbrev pub HaveNumber : List ℕ → ℕ → ℕ → List ℕ → Type 0
HaveNumber core n k xs = (x : ℕ) → member x xs ≡ true → (x < n) × (get_or core x 0 ≡ k)

-- ranks that go by the numbers still do once a vertex is put right after one of its number
moved-by_number : (core : List ℕ) (n k : ℕ) (place : ℕ → ℕ) (x w : ℕ) → (x < n) × (get_or core x 0 ≡ k) → (w < n) × (get_or core w 0 ≡ k)
    → GoByNumber core n place → GoByNumber core n (moved place x w)
moved-by_number core n k place x w hx hw up a b la lb lt = elim (cases_eq a x) [
  | inl e ↦
      let nb : b ≢ x = λ e'. omega (arith, ap (λ j. get_or core j 0) (e ∙ sym e')) in
      omega (arith, moved-itself place x w a e, moved-other place x w b nb, up w b hw.0 lb (omega (arith, ap (λ j. get_or core j 0) e)))
  | inr na ↦ elim (cases_eq b x) [
    | inl e ↦ omega (arith, moved-itself place x w b e, moved-other place x w a na, up a w la hw.0 (omega (arith, ap (λ j. get_or core j 0) e)))
    | inr nb ↦ omega (arith, moved-other place x w a na, moved-other place x w b nb, up a b la lb lt)
  ]
]

-- shifts between vertices of one number keep that
pub place_after-by_number : (core : List ℕ) (n k : ℕ) (place : ℕ → ℕ) (shifts : List (ℕ × ℕ)) → HaveNumber core n k (firsts shifts)
    → HaveNumber core n k (seconds shifts) → GoByNumber core n place
    → GoByNumber core n (place_after place shifts)
place_after-by_number core n k place [] f s up = up
place_after-by_number core n k place (p ∷ shifts) f s up =
    place_after-by_number core n k (moved place p.0 p.1) shifts (λ x m. f x (member-tail x p.0 (firsts shifts) m))
    (λ x m. s x (member-tail x p.1 (seconds shifts) m))
    (moved-by_number core n k place p.0 p.1 (f p.0 (member-head p.0 (firsts shifts))) (s p.1 (member-head p.1 (seconds shifts))) up)

-- each stands before each later one
pub Orders-pairs : (lt : ℕ → ℕ → Bool) (xs : List ℕ) → Orders lt xs → AllPairs (λ v w. lt v w ≡ true) xs
Orders-pairs lt [] o i j d l lj = absurd (omega arith)
Orders-pairs lt (x ∷ xs) o zero zero d l lj = absurd (omega arith)
Orders-pairs lt (x ∷ xs) o (suc i) zero d l lj = absurd (omega arith)
Orders-pairs lt (x ∷ xs) o zero (suc j) d l lj = (o.0 (get_or xs j d) (member-get_or xs j d (omega arith))).0
Orders-pairs lt (x ∷ xs) o (suc i) (suc j) d l lj = Orders-pairs lt xs o.1 i j d (omega arith) (omega arith)

-- an order of the vertices, the core numbers that go with it, and what became of those that did not move
pub record Arranged (s : Ranked) (core order moved : List ℕ) (lt : ℕ → ℕ → Bool) : Type 0 where
  pub one_each : length core ≡ s.graph.size
  pub itself : (y : ℕ) → lt y y ≡ false
  pub orders : Orders lt order
  pub all : (y : ℕ) → member y order ≡ member y (below s.graph.size)
  pub rising : (y z : ℕ) → y < s.graph.size → z < s.graph.size → lt y z ≡ true → get_or core y 0 ≤ get_or core z 0
  pub numbers_stay : (y : ℕ) → member y moved ≡ false → get_or core y 0 ≡ get_or s.core y 0
  pub order_stays : (y z : ℕ) → y < s.graph.size → z < s.graph.size → member y moved ≡ false → member z moved ≡ false
      → lt y z ≡ ltb (rank_in s.order y) (rank_in s.order z)

-- how `then_after` compares, of what it asks
abbrev pub after_by : Bool → Bool → Bool → Bool → ℕ → ℕ → ℕ → ℕ → Bool
after_by mz lz my ly iz iy pz py =
    ltb (cond mz 1 (cond lz 0 2)) (cond my 1 (cond ly 0 2))
    || (eqb (cond mz 1 (cond lz 0 2)) (cond my 1 (cond ly 0 2)) && cond mz (ltb iz iy) (ltb pz py))

-- where one vertex stands after another, its number then is no less, as comparisons of their parts tell
rising_at : (mz lz my ly : Bool) (iz iy pz py cz cy next : ℕ) → (lz ≡ true → cz ≤ next) → (ly ≡ false → next ≤ cy) → (cy < cz → py < pz)
    → after_by mz lz my ly iz iy pz py ≡ true → cond mz next cz ≤ cond my next cy
rising_at true lz true ly iz iy pz py cz cy next low high up a = omega arith
rising_at true lz false true iz iy pz py cz cy next low high up a = absurd (false≢true a)
rising_at true lz false false iz iy pz py cz cy next low high up a = high refl
rising_at false true true ly iz iy pz py cz cy next low high up a = low refl
rising_at false false true ly iz iy pz py cz cy next low high up a = absurd (false≢true a)
rising_at false true false true iz iy pz py cz cy next low high up a =
    let l : pz < py = ltb-true pz py a in elim (cases_lt cy cz) [ inl k ↦ absurd (omega (arith, up k)) | inr k ↦ k ]
rising_at false true false false iz iy pz py cz cy next low high up a = omega (arith, low refl, high refl)
rising_at false false false true iz iy pz py cz cy next low high up a = absurd (false≢true a)
rising_at false false false false iz iy pz py cz cy next low high up a =
    let l : pz < py = ltb-true pz py a in elim (cases_lt cy cz) [ inl k ↦ absurd (omega (arith, up k)) | inr k ↦ k ]

-- two vertices that don't leave their level compare as they did, as comparisons of their parts tell
still_at : (lz ly : Bool) (iz iy pz py rz ry : ℕ) → ltb pz py ≡ ltb rz ry → (lz ≡ true → ly ≡ false → rz < ry)
    → (lz ≡ false → ly ≡ true → ry < rz) → after_by false lz false ly iz iy pz py ≡ ltb rz ry
still_at true true iz iy pz py rz ry same up down = same
still_at true false iz iy pz py rz ry same up down = sym (lt-ltb rz ry (up refl refl))
still_at false true iz iy pz py rz ry same up down = sym (le-ltb rz ry (omega (arith, down refl refl)))
still_at false false iz iy pz py rz ry same up down = same

-- vertices of one level that leave it, and others that are shifted in it
pub record Leaving (s : Ranked) (low : ℕ → Bool) (front : List ℕ) (shifts : List (ℕ × ℕ)) (level next : ℕ) : Type 0 where
  pub once : Distinct front
  pub front_level : HaveNumber s.core s.graph.size level front
  pub firsts_level : HaveNumber s.core s.graph.size level (firsts shifts)
  pub seconds_level : HaveNumber s.core s.graph.size level (seconds shifts)
  pub in_turn : AreInTurn shifts
  pub low_below : (y : ℕ) → low y ≡ true → get_or s.core y 0 ≤ next
  pub high_above : (y : ℕ) → low y ≡ false → next ≤ get_or s.core y 0
  pub low_first : (y z : ℕ) → low y ≡ true → low z ≡ false → get_or s.core y 0 < get_or s.core z 0

-- in a certified state the ranks go by the core numbers
ranks_by_number : (s : Ranked) → IsCertified s → GoByNumber s.core s.graph.size (rank_in s.order)
ranks_by_number s h a b la lb lt =
    let all : (y : ℕ) → member y s.order ≡ member y (below s.graph.size) = order-has s.graph.size s.order h.enumerates in
    ranks-rise s.core s.order h.rising a b (all a ∙ member-below a s.graph.size la) (all b ∙ member-below b s.graph.size lb) lt

-- the number of a vertex after the moves is the new one where it moved, and what it was else
pub renumbered-at : (front : List ℕ) (next : ℕ) (core : List ℕ) (y : ℕ) → y < length core
    → get_or (renumbered front next core) y 0 ≡ cond (member y front) next (get_or core y 0)
renumbered-at front next core y l = elim (cases_Bool (member y front)) [
  | inl m ↦ renumbered-moved front next core y l m ∙ sym (ap (λ b. cond b next (get_or core y 0)) m)
  | inr n ↦ renumbered-other front next core y n ∙ sym (ap (λ b. cond b next (get_or core y 0)) n)
]

-- vertices that leave their level and shifts within it give an arrangement, by the order of `then_after`
pub arranged_by : (s : Ranked) (low : ℕ → Bool) (front : List ℕ) (shifts : List (ℕ × ℕ)) (level next : ℕ) (moved : List ℕ) → IsCertified s
    → Leaving s low front shifts level next
    → ((y : ℕ) → member y moved ≡ false → (member y front ≡ false) × (member y (firsts shifts) ≡ false))
    → Arranged s (renumbered front next s.core) (put_between low front (shifted shifts s.order)) moved
    (then_after low front (rank_in front) (place_after (rank_in s.order) shifts))
arranged_by s low front shifts level next moved h leaving others =
    let n : ℕ = s.graph.size in
    let place : ℕ → ℕ = place_after (rank_in s.order) shifts in
    let all : (y : ℕ) → member y s.order ≡ member y (below n) = order-has n s.order h.enumerates in
    let in_order : (x : ℕ) → x < n → member x s.order ≡ true = λ x l. all x ∙ member-below x n l in
    let f : (x : ℕ) → member x (firsts shifts) ≡ true → member x s.order ≡ true = λ x m. in_order x (leaving.firsts_level x m).0 in
    let w : (x : ℕ) → member x (seconds shifts) ≡ true → member x s.order ≡ true = λ x m. in_order x (leaving.seconds_level x m).0 in
    let up : AscendsBy place (shifted shifts s.order) = shifted-ascends (rank_in s.order) shifts s.order
    (rank-ascends s.order (order-distinct n s.order h.enumerates)) leaving.in_turn f w in
    let same : (y : ℕ) → member y (shifted shifts s.order) ≡ member y s.order = shifted-has shifts s.order leaving.in_turn f w in
    let by_number : GoByNumber s.core n place =
    place_after-by_number s.core n level (rank_in s.order) shifts leaving.firsts_level leaving.seconds_level (ranks_by_number s h) in
    record {
      one_each = length-renumbered front next s.core ∙ h.one_each;
      itself = after-itself low front (rank_in front) place;
      orders = final-orders low front (rank_in front) place (shifted shifts s.order) (rank-ascends front leaving.once) up;
      all = λ y. final-has low front (shifted shifts s.order) (λ x m. same x ∙ in_order x (leaving.front_level x m).0) y ∙ (same y ∙ all y);
      rising = λ y z ly lz t.
          let r =
          rising_at (member y front) (low y) (member z front) (low z) (rank_in front y) (rank_in front z) (place y) (place z)
          (get_or s.core y 0) (get_or s.core z 0) next
          (leaving.low_below y) (leaving.high_above z) (by_number z y lz ly) t in
          omega (arith, r, renumbered-at front next s.core y (omega (arith, h.one_each)), renumbered-at front next s.core z (omega (arith, h.one_each)));
      numbers_stay = λ y m. renumbered-other front next s.core y (others y m).0;
      order_stays = λ y z ly lz my mz.
          let oy = others y my in
          let oz = others z mz in
          ap₂ (λ (a b : Bool). after_by a (low y) b (low z) (rank_in front y) (rank_in front z) (place y) (place z)) oy.0 oz.0
          ∙ still_at (low y) (low z) (rank_in front y) (rank_in front z) (place y) (place z) (rank_in s.order y) (rank_in s.order z)
          (place_after-still (rank_in s.order) shifts y z oy.1 oz.1)
          (λ a b. ranks_by_number s h y z ly lz (leaving.low_first y z a b)) (λ a b. ranks_by_number s h z y lz ly (leaving.low_first z y b a));
    }

-- an order that stays as it is
arranged-still : (s : Ranked) → IsCertified s → Arranged s s.core s.order [] (λ z y. ltb (rank_in s.order z) (rank_in s.order y))
arranged-still s h =
    let all : (y : ℕ) → member y s.order ≡ member y (below s.graph.size) = order-has s.graph.size s.order h.enumerates in
    let lt : ℕ → ℕ → Bool = λ z y. ltb (rank_in s.order z) (rank_in s.order y) in
    record {
      one_each = h.one_each;
      itself = λ y. le-ltb (rank_in s.order y) (rank_in s.order y) (omega arith);
      orders =
          Orders-from_Ascends lt (rank_in s.order) s.order
          (λ y z my mz l. (lt-ltb _ _ l, le-ltb (rank_in s.order z) (rank_in s.order y) (omega arith)))
          (rank-ascends s.order (order-distinct s.graph.size s.order h.enumerates));
      all = all;
      rising =
          λ y z ly lz t.
          let l = ltb-true (rank_in s.order y) (rank_in s.order z) t in
          elim (cases_lt (get_or s.core z 0) (get_or s.core y 0))
          [ inl k ↦ absurd (omega (arith, ranks_by_number s h z y lz ly k)) | inr k ↦ k ];
      numbers_stay = λ y m. refl;
      order_stays = λ y z ly lz my mz. refl;
    }

-- what moves that fit make of the order and the numbers
pub moves-arranged : (s : Ranked) (moves : Moves) → IsCertified s → MovesFit s moves
    → Arranged s (moved_by moves s).core (moved_by moves s).order (moved_vertices moves) (stands_after moves s)
moves-arranged s Kept h fit = arranged-still s h
moves-arranged s Plain h fit = arranged-still s h
moves-arranged s (Rise level rise shifts) h fit =
    let low : ℕ → Bool = λ y. leb (get_or s.core y 0) level in
    arranged_by s low rise.items shifts.items level (level + 1) (rise.items ++ firsts shifts.items) h (record {
      once = Distinct-front rise.items (firsts shifts.items) fit.once;
      front_level = λ x m. let k = fit.of_level x (member-append_left x rise.items (firsts shifts.items) m) in (k.vertex, k.of_level);
      firsts_level = λ x m. let k = fit.of_level x (member-append_right x rise.items (firsts shifts.items) m) in (k.vertex, k.of_level);
      seconds_level = λ w m. let k = fit.after_level w m in (k.vertex, k.of_level);
      in_turn = fit.in_turn;
      low_below = λ y t. omega (arith, leb-true (get_or s.core y 0) level t);
      high_above = λ y t. omega (arith, leb-false (get_or s.core y 0) level t);
      low_first = λ y z a b. omega (arith, leb-true (get_or s.core y 0) level a, leb-false (get_or s.core z 0) level b);
    }) (λ y m. not_member-append y rise.items (firsts shifts.items) m)
moves-arranged s (Fall level fall) h fit =
    let low : ℕ → Bool = λ y. ltb (get_or s.core y 0) level in
    arranged_by s low fall.items [] level (level - 1) fall.items h (record {
      once = fit.once;
      front_level = λ x m. let k = fit.of_level x m in (k.vertex, k.of_level);
      firsts_level = λ x m. absurd (false≢true m);
      seconds_level = λ x m. absurd (false≢true m);
      in_turn = tt;
      low_below = λ y t. omega (arith, ltb-true (get_or s.core y 0) level t);
      high_above = λ y t. omega (arith, ltb-false (get_or s.core y 0) level t);
      low_first = λ y z a b. omega (arith, ltb-true (get_or s.core y 0) level a, ltb-false (get_or s.core z 0) level b);
    }) (λ y m. (m, refl))
