-- Vertices are taken in the order of their numbers, and their neighbours lose one.
use Rattle.std.proofs.Common.{◌≡◌, ◌≤◌, ◌<◌, ◌+◌, ◌-◌, ℕ, suc, zero, max, true, false, cond, ◌&&◌, List, [], ◌∷◌}
use Rattle.std.proofs.Common.{◌++◌, length, get_or, set, take, eqb}
use Rattle.std.proofs.Common.{ltb, refl, sym, ◌∙◌, ap, subst, inl, inr, arith, length-set, eq-eqb, lt-ltb, le-ltb, true≢false}
use Rattle.std.proofs.lemmas.List.{take_more, take_all, get_or-set_same, get_or-set_other, get_or-take, length-take-le, ext_get_or}
use Rattle.std.proofs.lemmas.Bool.{cases_Bool, cases_eq, cases_lt, and_from, and_left, and_right, or_right}
use Rattle.std.proofs.Math.Bool.{and-true}
use Rattle.kc_lists.specs.Lists.{Distinct, member}
use Rattle.kc_lists.proofs.Counting.{member-push, take-not_here, member-push_other, member-push_none, one_if, member-get_or}
use Rattle.kc_lists.proofs.Counting.{Distinct-from_pairs}
use Rattle.kc_lists.proofs.Shared.{get_or-any}
use Rattle.kc_graph.specs.SimpleGraph.{SimpleGraph, adjacent}
use Rattle.kc_graph.specs.Certificate.{Certifies}
use Rattle.kc_graph.specs.Neighbours.{AreNeighbours}
use Rattle.kc_graph.specs.Peeling.{at, remaining, IsPeeledTo, LeftAreCounted}
use Rattle.kc_graph.proofs.Law.{adjacent-sym}
use Rattle.kc_graph.proofs.PeelingLemmas.{peeling-starts, level-raised, take_one, peeling-finishes, remaining-taken}
use Rattle.kc_flat.specs.Bins.{AreBinned, LoseOne}
use Rattle.kc_flat.proofs.Swapping.{binned-rises}

-- Some lose one. -----------------------------------------------------------------------------------

-- where no vertex is to lose one, nothing changed
pub lose-none : (level : ℕ) (core : List ℕ) → LoseOne level [] core core
lose-none level core = record { one_each = refl; lowered = λ u. omega arith }

module _ (level w : ℕ) (ws core core' : List ℕ) (h : LoseOne level ws core core') (same : at core w ≡ at core' w) where
  -- a vertex that has no more than the level loses none
  pub lose-skip : at core' w ≤ level → LoseOne level (ws ++ w ∷ []) core core'
  lose-skip low =
      let not_above : ltb level (at core w) ≡ false = le-ltb level (at core w) (omega arith) in
      record {
        one_each = h.one_each;
        lowered = λ u. elim (cases_eq u w) [
          | inl e ↦
              let z : member u (ws ++ w ∷ []) && ltb level (at core u) ≡ false = and_right _ _ (ap (λ x. ltb level (at core x)) e ∙ not_above) in
              omega (arith, ap one_if z, ap (at core) e, ap (at core') e)
          | inr ne ↦ h.lowered u ∙ ap (λ b. at core' u + cond (b && ltb level (at core u)) 1 0) (sym (member-push_other u w ws ne))
        ];
      }

  -- a vertex above the level loses one
  pub lose-step : level < at core' w → w < length core' → LoseOne level (ws ++ w ∷ []) core (set core' w (at core' w - 1))
  lose-step up lw =
      let c : ℕ = at core' w - 1 in
      let less : List ℕ = set core' w c in
      let at-w : at less w ≡ c = get_or-set_same core' w c 0 lw in
      let above : ltb level (at core w) ≡ true = lt-ltb level (at core w) (omega arith) in
      record {
        one_each = length-set core' w c ∙ h.one_each;
        lowered = λ u. elim (cases_eq u w) [
          | inl e ↦
              let t : member u (ws ++ w ∷ []) && ltb level (at core u) ≡ true =
              and_from _ _ (member-push u w ws ∙ or_right (member u ws) (eqb u w) (eq-eqb u w e)) (ap (λ x. ltb level (at core x)) e ∙ above) in
              omega (arith, ap one_if t, at-w, ap (at less) e, ap (at core) e)
          | inr ne ↦
              h.lowered u ∙ ap (λ b. at core' u + cond (b && ltb level (at core u)) 1 0) (sym (member-push_other u w ws ne))
              ∙ ap (λ (k : ℕ). k + cond (member u (ws ++ w ∷ []) && ltb level (at core u)) 1 0) (sym (get_or-set_other core' w u c 0 ne))
        ];
      }

-- one more of the list
pub lose-next : (level : ℕ) (core core' ws : List ℕ) (i : ℕ) → i < length ws → LoseOne level (take i ws ++ get_or ws i 0 ∷ []) core core'
    → LoseOne level (take (i + 1) ws) core core'
lose-next level core core' ws i l h = subst (λ (t : List ℕ). LoseOne level t core core') (sym (take_more ws i 0 l)) h

-- a vertex whose turn has not come has what it had
pub lose-here : (level : ℕ) (core core' ws : List ℕ) (i : ℕ) → i < length ws → Distinct ws → LoseOne level (take i ws) core core'
    → at core (get_or ws i 0) ≡ at core' (get_or ws i 0)
lose-here level core core' ws i l d h =
    let w : ℕ = get_or ws i 0 in
    let z : member w (take i ws) && ltb level (at core w) ≡ false = and_left _ _ (take-not_here i ws l d) in
    omega (arith, h.lowered w, ap one_if z)

-- all of the list
pub lose-all : (level : ℕ) (core core' ws : List ℕ) (i : ℕ) → length ws ≤ i → LoseOne level (take i ws) core core' → LoseOne level ws core core'
lose-all level core core' ws i l h = subst (λ (t : List ℕ). LoseOne level t core core') (take_all i ws l) h

-- a number that is no higher than the level stays
pub lose-low : (level u : ℕ) (ws core core' : List ℕ) → LoseOne level ws core core' → at core u ≤ level → at core u ≡ at core' u
lose-low level u ws core core' h low =
    let z : member u ws && ltb level (at core u) ≡ false = and_right (member u ws) _ (le-ltb level (at core u) low) in
    omega (arith, h.lowered u, ap one_if z)

-- Vertices are taken. ------------------------------------------------------------------------------

-- Vertices have been taken up to some level.
pub record ArePeeled (g : SimpleGraph) (core taken : List ℕ) : Type 0 where
  pub level : ℕ
  pub peeled : IsPeeledTo g level core taken
  pub exact : LeftAreCounted g level core taken

-- with the degrees as numbers the taking can begin
pub taking-starts : (g : SimpleGraph) (core : List ℕ) → length core ≡ g.size → ((v : ℕ) → v < g.size → at core v ≡ remaining g [] v) → ArePeeled g core []
taking-starts g core n each = record { level = 0; peeled = peeling-starts g core n; exact = λ v l _. omega (arith, each v l) }

-- the level can be raised as far as no vertex that is left has a lesser number
raised : (g : SimpleGraph) (level d : ℕ) (core taken : List ℕ) → IsPeeledTo g level core taken → LeftAreCounted g level core taken
    → ((v : ℕ) → v < g.size → member v taken ≡ false → level + d ≤ at core v)
    → IsPeeledTo g (level + d) core taken × LeftAreCounted g (level + d) core taken
raised g level zero core taken p exact high =
    let same : level ≡ level + 0 = omega arith in
    (subst (λ (k : ℕ). IsPeeledTo g k core taken) same p, subst (λ (k : ℕ). LeftAreCounted g k core taken) same exact)
raised g level (suc d) core taken p exact high =
    let rest = raised g level d core taken p exact (λ v l out. let k : level + suc d ≤ at core v = high v l out in omega arith) in
    let next : level + d + 1 ≡ level + suc d = omega arith in
    let up : (v : ℕ) → v < g.size → member v taken ≡ false → level + d < at core v =
    λ v l out. let k : level + suc d ≤ at core v = high v l out in omega arith in
    let counted : LeftAreCounted g (level + d + 1) core taken = λ v l out. omega (arith, up v l out, rest.1 v l out) in (
      subst (λ (k : ℕ). IsPeeledTo g k core taken) next
          (level-raised g (level + d) core taken rest.0 (λ v l out. (up v l out, omega (arith, up v l out, rest.1 v l out)))),
      subst (λ (k : ℕ). LeftAreCounted g k core taken) next counted,
    )

-- a vertex that has the least number of those that are left is taken, and its neighbours lose one
pub least-taken : (g : SimpleGraph) (v : ℕ) (core taken ws core' : List ℕ) → ArePeeled g core taken → v < g.size → member v taken ≡ false
    → ((w : ℕ) → w < g.size → member w taken ≡ false → at core v ≤ at core w) → AreNeighbours g v ws → LoseOne (at core v) ws core core'
    → ArePeeled g core' (taken ++ v ∷ [])
least-taken g v core taken ws core' h lv left least near lost =
    let level : ℕ = at core v in
    let from : h.level ≤ at core v = h.peeled.open_ v lv left in
    let sum : h.level + (at core v - h.level) ≡ at core v = omega arith in
    let up = raised g h.level (at core v - h.level) core taken h.peeled h.exact (λ w lw out. omega (arith, sum, least w lw out)) in
    let peeled : IsPeeledTo g (at core v) core taken = subst (λ (k : ℕ). IsPeeledTo g k core taken) sum up.0 in
    let exact : LeftAreCounted g (at core v) core taken = subst (λ (k : ℕ). LeftAreCounted g k core taken) sum up.1 in
    let low : (u : ℕ) → at core u ≤ at core v → at core u ≡ at core' u = λ u. lose-low (at core v) u ws core core' lost in
    record {
      level = at core v;
      peeled = take_one g (at core v) v core taken core' peeled lv left (omega (arith, exact v lv left))
          (record {
            one_each = lost.one_each;
            taken_same = λ w m. sym (low w (peeled.done w m));
            here = sym (low v (omega arith));
            left = λ w lw out ne. elim (cases_lt (at core v) (at core w)) [
              | inl above ↦ elim (cases_Bool (member w ws && ltb (at core v) (at core w))) [
                | inl k ↦ omega (arith, lost.lowered w, ap one_if k)
                | inr k ↦ omega (arith, lost.lowered w, ap one_if k)
              ]
              | inr le ↦ omega (arith, low w le, peeled.open_ w lw out)
            ];
          });
      exact = λ u lu out.
          let k = member-push_none u v taken out in
          let was : at core u ≡ max (remaining g taken u) (at core v) = exact u lu k.0 in
          let fewer : remaining g taken u ≡ remaining g (taken ++ v ∷ []) u + cond (adjacent g u v) 1 0 = remaining-taken g taken u v lv left in
          let same : member u ws ≡ adjacent g u v = near.exact u ∙ adjacent-sym g v u in
          elim (cases_lt (at core v) (at core u)) [
            | inl above ↦
                let d : at core u ≡ at core' u + cond (adjacent g u v) 1 0 =
                lost.lowered u
                ∙ ap (λ b. at core' u + cond b 1 0) (ap (λ b. member u ws && b) (lt-ltb (at core v) (at core u) above) ∙ (and-true (member u ws) ∙ same)) in
                elim (cases_Bool (adjacent g u v)) [ inl a ↦ omega (arith, ap one_if a) | inr a ↦ omega (arith, ap one_if a) ]
            | inr le ↦ omega (arith, low u le)
          ];
    }

-- The vertices are binned.
module _ (g : SimpleGraph) (core order places ends : List ℕ) (h : AreBinned core order places ends) (sized : length core ≡ g.size) where
  -- no vertex stands at two places
  order-distinct : Distinct order
  order-distinct =
      Distinct-from_pairs order (λ i j d lt l e.
      let same : at order i ≡ at order j = get_or-any order i 0 d (omega arith) ∙ e ∙ get_or-any order j d 0 l in
      let place : i ≡ j = sym (h.paired.placed i (omega arith)) ∙ ap (at places) same ∙ h.paired.placed j l in
      absurd (omega arith))

  -- what stands at a turn is a vertex
  pub turn-vertex : (turn : ℕ) → turn < length order → at order turn < g.size
  turn-vertex turn l = omega (arith, h.paired.in_order turn l, h.one_each, sized)

  -- which is not taken before
  pub turn-left : (turn : ℕ) → turn < length order → member (at order turn) (take turn order) ≡ false
  turn-left turn l = take-not_here turn order l order-distinct

  -- who is not taken before stands at that turn or later
  left-later : (turn w : ℕ) → turn < length order → w < length order → member w (take turn order) ≡ false → turn ≤ at places w
  left-later turn w l lw out = elim (cases_lt (at places w) turn) [
    | inl early ↦
        let here : get_or (take turn order) (at places w) 0 ≡ w = get_or-take turn order (at places w) 0 early ∙ h.paired.found w lw in
        let in' : at places w < length (take turn order) = omega (arith, length-take-le turn order (omega arith)) in
        absurd (true≢false (sym (member-get_or (take turn order) (at places w) 0 in') ∙ ap (λ (x : ℕ). member x (take turn order)) here ∙ out))
    | inr ge ↦ ge
  ]

  -- whose turn it is has the least number of those that are left
  pub turn-least : (turn : ℕ) → turn < length order → (w : ℕ) → w < g.size → member w (take turn order) ≡ false → at core (at order turn) ≤ at core w
  turn-least turn l w lw out =
      let lo : w < length order = omega (arith, lw, h.one_each, sized) in
      let rises : at core (at order turn) ≤ at core (at order (at places w)) =
      binned-rises core order places ends h turn (at places w) (left-later turn w l lo out) (omega (arith, h.paired.in_places w lo, h.one_each)) in
      omega (arith, rises, ap (at core) (h.paired.found w lo))

  -- once it is taken, the order has the taken ones in front still
  pub turn-taken : (turn : ℕ) (order' : List ℕ) → turn < length order → length order' ≡ length order
      → ((i : ℕ) → i < length core → at core (at order i) ≤ at core (at order turn) → at order' i ≡ at order i)
      → take turn order ++ at order turn ∷ [] ≡ take (turn + 1) order'
  turn-taken turn order' l size before =
      let n : length (take (turn + 1) order) ≡ turn + 1 = length-take-le (turn + 1) order (omega arith) in
      let n' : length (take (turn + 1) order') ≡ turn + 1 = length-take-le (turn + 1) order' (omega (arith, size)) in
      sym (take_more order turn 0 l) ∙ ext_get_or 0 (take (turn + 1) order) (take (turn + 1) order') (n ∙ sym n') (λ i li.
      let early : i < turn + 1 = omega (arith, n) in
      let lc : turn < length core = omega (arith, h.one_each) in
      get_or-take (turn + 1) order i 0 early
      ∙ sym (before i (omega arith) (binned-rises core order places ends h i turn (omega arith) lc))
      ∙ sym (get_or-take (turn + 1) order' i 0 early))

  -- once all turns are over, the order certifies the numbers
  pub turns-over : (turn : ℕ) → length order ≤ turn → ArePeeled g core (take turn order) → Certifies g core order
  turns-over turn past p =
      let all : take turn order ≡ order = take_all turn order past in
      peeling-finishes g p.level core order (subst (IsPeeledTo g p.level core) all p.peeled) (λ v l.
      let lo : v < length order = omega (arith, l, h.one_each, sized) in
      ap (λ (x : ℕ). member x order) (sym (h.paired.found v lo)) ∙ member-get_or order (at places v) 0 (h.paired.in_places v lo))
