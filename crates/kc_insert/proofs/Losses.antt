-- What the neighbours of a vertex lose that will not rise, one by one.
use Rattle.std.proofs.Common.{◌≡◌, ◌≢◌, ◌≤◌, ◌<◌, ◌+◌, ◌-◌, ◌⊎◌, ℕ, suc, zero, Bool, true, false, cond, not, ◌&&◌, ◌||◌, Option, Some, None, List, []}
use Rattle.std.proofs.Common.{◌∷◌, ◌++◌, length, take, get_or, eqb, ltb, leb, refl, sym, ◌∙◌, ap, subst, inl, inr, arith, true≢false, eqb-true}
use Rattle.std.proofs.Common.{eq-eqb, ne_eqb}
use Rattle.std.specs.Prelude.{is_some}
use Rattle.std.proofs.lemmas.Bool.{cases_Bool, cases_eq, false≢true, false_from_ne_true}
use Rattle.std.proofs.lemmas.List.{append-nil, append_assoc, take-append-le}
use Rattle.std.proofs.Math.Bool.{or-false}
use Rattle.kc_lists.specs.Lists.{member, Distinct}
use Rattle.kc_lists.proofs.Members.{member-head, member-tail, member-cases, member-append_left}
use Rattle.kc_lists.proofs.Counting.{member-push, member-push_cases, Distinct-push}
use Rattle.kc_lists.proofs.Shared.{member-grown_other}
use Rattle.kc_cert.specs.Local.{firsts, seconds}
use Rattle.kc_cert.proofs.Final.{filter-has}
use Rattle.kc_cert.proofs.Turns.{length-firsts}
use Rattle.kc_marks.specs.Maps.{value_of}
use Rattle.kc_insert.specs.Marks.{earlier_in, later_in, turn_in, candidate_in, weak_in}
use Rattle.kc_insert.specs.Rising.{is_queued, earlier_at, later_at, turn_at, is_candidate, is_weak, cands, left, IsOrderly}
use Rattle.kc_insert.specs.Turns.{loses_later, loses_earlier, taken_from, recounted, grown, Recounts, LosesOne, Loses}
use Rattle.kc_insert.specs.declared.losing.Loss.{Loss}
use Rattle.kc_insert.specs.declared.losing.Loss.TheVariants.{Settled, Evicted}
use Rattle.kc_insert.specs.declared.rising.Mark.{Mark}
use Rattle.kc_insert.specs.declared.rising.Rising.{Rising}

-- the item at a place below `n` is among the first `n`
take-has : (xs : List ℕ) (n i : ℕ) → i < n → n ≤ length xs → member (get_or xs i 0) (take n xs) ≡ true
take-has xs zero i lt le = absurd (omega arith)
take-has [] (suc n) i lt le = absurd (omega arith)
take-has (x ∷ xs) (suc n) zero lt le = member-head x (take n xs)
take-has (x ∷ xs) (suc n) (suc i) lt le = member-tail (get_or xs i 0) x (take n xs) (take-has xs n i (omega arith) (omega arith))

-- a candidate has left the queue, and stood in it
pub cand-left : (r : Rising) → IsOrderly r → (y : ℕ) → is_candidate r y ≡ true → member y (left r) ≡ true
cand-left r o y c =
    let k = o.turned y c in
    subst (λ (n : ℕ). member n (left r) ≡ true) k.1 (take-has r.queue.items r.turn (turn_at r y) k.0 o.turn_in)

-- a mark that says candidate is there
candidate_in-some : (m : Option Mark) → candidate_in m ≡ true → is_some m ≡ true
candidate_in-some None c = absurd (false≢true c)
candidate_in-some (Some m) c = refl

-- a candidate was queued
pub cand-queued : (r : Rising) → IsOrderly r → (y : ℕ) → is_candidate r y ≡ true → member y r.queue.items ≡ true
cand-queued r o y c = sym (o.marked y) ∙ candidate_in-some (value_of r.seen.marks y) c

-- where the second of two truths has the first with it, both are the second
and-implied : (m p : Bool) → (p ≡ true → m ≡ true) → (m && p) ≡ p
and-implied m p h = grind arith

-- who is a candidate is on the list of these
pub cands-has : (r : Rising) → IsOrderly r → (y : ℕ) → member y (cands r) ≡ is_candidate r y
cands-has r o y = filter-has (is_candidate r) y r.queue.items ∙ and-implied (member y r.queue.items) (is_candidate r y) (cand-queued r o y)

-- the first `n` of a list are no more than the list has
length-take : (n : ℕ) (xs : List ℕ) → length (take n xs) ≤ length xs
length-take zero xs = omega arith
length-take (suc n) [] = omega arith
length-take (suc n) (x ∷ xs) = let k = length-take n xs in omega (arith, k)

-- no more are shifted than are weak
pub shifts-fit : (r : Rising) → IsOrderly r → length r.shifts.items ≤ length r.seen.weak.items
shifts-fit r o =
    let e : length (firsts r.shifts.items) ≡ length (take (length r.shifts.items) r.seen.weak.items) = ap length o.shifted in
    omega (arith, e, length-firsts r.shifts.items, length-take (length r.shifts.items) r.seen.weak.items)

-- What changes at `y`, which is found too weak or not.
record Lost (level : ℕ) (loss : Loss) (y : ℕ) (found : Bool) (old new : Rising) : Type 0 where
  queued : (z : ℕ) → is_queued new z ≡ is_queued old z
  candidates : (z : ℕ) → is_candidate new z ≡ is_candidate old z
  turns : (z : ℕ) → turn_at new z ≡ turn_at old z
  earlier : (z : ℕ) → earlier_at new z ≡ earlier_at old z - cond (member z (y ∷ []) && loses_earlier loss old z) 1 0
  later : (z : ℕ) → later_at new z ≡ later_at old z - cond (member z (y ∷ []) && loses_later loss old z) 1 0
  weak_others : (z : ℕ) → z ≢ y → is_weak new z ≡ is_weak old z
  weak_here : is_weak new y ≡ (is_weak old y || found)
  was : found ≡ true → (is_candidate old y ≡ true) × (is_weak old y ≡ false) × (earlier_at new y + later_at new y ≤ level)
  missed : found ≡ false → is_candidate old y ≡ true → is_weak old y ≡ false → level < earlier_at new y + later_at new y
  weak : new.seen.weak.items ≡ cond found (old.seen.weak.items ++ y ∷ []) old.seen.weak.items
  queue : new.queue.items ≡ old.queue.items
  turn : new.turn ≡ old.turn
  shifts : new.shifts.items ≡ old.shifts.items

-- a vertex has no mark, or has one
cases_mark : (o : Option Mark) → (o ≡ None) ⊎ ((m : Mark) × (o ≡ Some m))
cases_mark None = inl refl
cases_mark (Some m) = inr (m, refl)

-- a count at another vertex than the one that loses is as it was
at-other : (z y : ℕ) (p : Bool) (n : ℕ) → z ≢ y → n ≡ n - cond (member z (y ∷ []) && p) 1 0
at-other z y p n ne = let e : eqb z y ≡ false = ne_eqb z y ne in grind (arith, e)

-- a count at the vertex that loses is less by one where it loses
at-here : (z y : ℕ) (p : Bool) (n' n : ℕ) → z ≡ y → n' ≡ n - cond p 1 0 → n' ≡ n - cond (member z (y ∷ []) && p) 1 0
at-here z y p n' n is e = let k : eqb z y ≡ true = eq-eqb z y is in grind (arith, k, e)

-- from a count of zero nothing is lost
nothing-less : (n : ℕ) (b : Bool) → n ≡ 0 → n ≡ n - cond b 1 0
nothing-less n b e = omega (arith, e)

-- a mark that loses keeps its turn
kept-turn : (loss : Loss) (m : Mark) → (taken_from loss m).turn ≡ m.turn
kept-turn Settled m = refl
kept-turn (Evicted turn) m =
    elim (m.is_candidate && ltb m.turn turn) as
    (λ b. (cond b (record m { later = m.later - 1 }) (record m { earlier = m.earlier - 1 })).turn ≡ m.turn) [ true ↦ refl | false ↦ refl ]

-- a mark that loses stays a candidate, or stays none
kept-candidate : (loss : Loss) (m : Mark) → (taken_from loss m).is_candidate ≡ m.is_candidate
kept-candidate Settled m = refl
kept-candidate (Evicted turn) m =
    elim (m.is_candidate && ltb m.turn turn) as
    (λ b. (cond b (record m { later = m.later - 1 }) (record m { earlier = m.earlier - 1 })).is_candidate ≡ m.is_candidate)
    [ true ↦ refl | false ↦ refl ]

-- a mark that loses stays weak, or stays strong, until it is counted again
kept-weak : (loss : Loss) (m : Mark) → (taken_from loss m).is_weak ≡ m.is_weak
kept-weak Settled m = refl
kept-weak (Evicted turn) m =
    elim (m.is_candidate && ltb m.turn turn) as
    (λ b. (cond b (record m { later = m.later - 1 }) (record m { earlier = m.earlier - 1 })).is_weak ≡ m.is_weak)
    [ true ↦ refl | false ↦ refl ]

-- the earlier count of a mark that loses is less by one where it loses an earlier one
taken-earlier : (loss : Loss) (r : Rising) (y : ℕ) (m : Mark) → value_of r.seen.marks y ≡ Some m
    → (taken_from loss m).earlier ≡ m.earlier - cond (loses_earlier loss r y) 1 0
taken-earlier Settled r y m is = omega arith
taken-earlier (Evicted turn) r y m is =
    rw is
    (elim (m.is_candidate && ltb m.turn turn) as
    (λ b. (cond b (record m { later = m.later - 1 }) (record m { earlier = m.earlier - 1 })).earlier ≡ m.earlier - cond (not b) 1 0)
    [ true ↦ omega arith | false ↦ refl ])

-- the later count of a mark that loses is less by one where it loses a later one
taken-later : (loss : Loss) (r : Rising) (y : ℕ) (m : Mark) → value_of r.seen.marks y ≡ Some m
    → (taken_from loss m).later ≡ m.later - cond (loses_later loss r y) 1 0
taken-later Settled r y m is = rw is refl
taken-later (Evicted turn) r y m is =
    rw is
    (elim (m.is_candidate && ltb m.turn turn) as
    (λ b. (cond b (record m { later = m.later - 1 }) (record m { earlier = m.earlier - 1 })).later ≡ m.later - cond b 1 0)
    [ true ↦ refl | false ↦ omega arith ])

-- the list of the weak grows by the vertex that is found weak now and was not before
grown-found : (w c : Bool) (y : ℕ) (xs : List ℕ) → grown w (w || c) y xs ≡ cond (not w && c) (xs ++ y ∷ []) xs
grown-found true c y xs = refl
grown-found false c y xs = refl

-- whoever is weak now was so before or is found so now
found-weak : (w c : Bool) → (w || c) ≡ (w || (not w && c))
found-weak w c = grind arith

-- whoever is found weak is a candidate, was not weak, and has counts up to the level
found-yes : (w c : Bool) (a b : ℕ) → (not w && (c && leb a b)) ≡ true → (c ≡ true) × (w ≡ false) × (a ≤ b)
found-yes w c a b h = (grind arith, grind arith, grind arith)

-- a candidate that was not weak and is not found so has counts above the level
found-no : (w c : Bool) (a b : ℕ) → (not w && (c && leb a b)) ≡ false → c ≡ true → w ≡ false → b < a
found-no w c a b h hc hw = grind arith

-- a vertex without a mark loses nothing
lost-unmarked : (level : ℕ) (loss : Loss) (y : ℕ) (old : Rising) → value_of old.seen.marks y ≡ None → Lost level loss y false old old
lost-unmarked level loss y old none = record {
  queued = λ z. refl;
  candidates = λ z. refl;
  turns = λ z. refl;
  earlier =
      λ z.
      elim (cases_eq z y) [
        | inl e ↦ nothing-less (earlier_at old z) _ (ap (earlier_at old) e ∙ ap earlier_in none)
        | inr ne ↦ at-other z y _ (earlier_at old z) ne
      ];
  later =
      λ z.
      elim (cases_eq z y) [
        | inl e ↦ nothing-less (later_at old z) _ (ap (later_at old) e ∙ ap later_in none)
        | inr ne ↦ at-other z y _ (later_at old z) ne
      ];
  weak_others = λ z ne. refl;
  weak_here = let k : is_weak old y ≡ false = ap weak_in none in k ∙ sym (ap (λ b. b || false) k);
  was = λ f. absurd (false≢true f);
  missed = λ f c w. absurd (true≢false (sym c ∙ ap candidate_in none));
  weak = refl;
  queue = refl;
  turn = refl;
  shifts = refl;
}

-- a vertex with a mark loses, and is found weak where its counts are then up to the level
lost-marked : (level : ℕ) (loss : Loss) (y : ℕ) (m : Mark) (old new : Rising) → value_of old.seen.marks y ≡ Some m
    → Recounts level y (taken_from loss m) old new
    → Lost level loss y (not m.is_weak && (m.is_candidate && leb ((taken_from loss m).earlier + (taken_from loss m).later) level)) old new
lost-marked level loss y m old new is r =
    let m' : Mark = taken_from loss m in
    let here : value_of new.seen.marks y ≡ Some (recounted level m') = r.marks.here in
    let sum : earlier_at new y + later_at new y ≡ m'.earlier + m'.later = ap (λ (o : Option Mark). earlier_in o + later_in o) here in
    let c' : m'.is_candidate ≡ m.is_candidate = kept-candidate loss m in
    let w' : m'.is_weak ≡ m.is_weak = kept-weak loss m in
    let low : Bool = leb (m'.earlier + m'.later) level in
    let was_cand : is_candidate old y ≡ m.is_candidate = ap candidate_in is in
    let was_weak : is_weak old y ≡ m.is_weak = ap weak_in is in
    record {
      queued =
          λ z.
          elim (cases_eq z y) [
            | inl e ↦ ap (is_queued new) e ∙ (ap is_some here ∙ sym (ap (is_queued old) e ∙ ap is_some is))
            | inr ne ↦ ap is_some (r.marks.others z ne)
          ];
      candidates =
          λ z.
          elim (cases_eq z y) [
            | inl e ↦ ap (is_candidate new) e ∙ (ap candidate_in here ∙ (c' ∙ sym (ap (is_candidate old) e ∙ was_cand)))
            | inr ne ↦ ap candidate_in (r.marks.others z ne)
          ];
      turns =
          λ z.
          elim (cases_eq z y) [
            | inl e ↦ ap (turn_at new) e ∙ (ap turn_in here ∙ (kept-turn loss m ∙ sym (ap (turn_at old) e ∙ ap turn_in is)))
            | inr ne ↦ ap turn_in (r.marks.others z ne)
          ];
      earlier = λ z. elim (cases_eq z y) [
        | inl e ↦ at-here z y (loses_earlier loss old z) (earlier_at new z) (earlier_at old z) e
            (ap (earlier_at new) e
            ∙
            (ap earlier_in here
            ∙
            (taken-earlier loss old y m is
            ∙ sym
            (ap (λ n. earlier_at old n - cond (loses_earlier loss old n) 1 0) e
            ∙ ap (λ (o : Option Mark). earlier_in o - cond (loses_earlier loss old y) 1 0) is))))
        | inr ne ↦ ap earlier_in (r.marks.others z ne) ∙ at-other z y (loses_earlier loss old z) (earlier_at old z) ne
      ];
      later = λ z. elim (cases_eq z y) [
        | inl e ↦ at-here z y (loses_later loss old z) (later_at new z) (later_at old z) e
            (ap (later_at new) e
            ∙
            (ap later_in here
            ∙
            (taken-later loss old y m is
            ∙ sym
            (ap (λ n. later_at old n - cond (loses_later loss old n) 1 0) e
            ∙ ap (λ (o : Option Mark). later_in o - cond (loses_later loss old y) 1 0) is))))
        | inr ne ↦ ap later_in (r.marks.others z ne) ∙ at-other z y (loses_later loss old z) (later_at old z) ne
      ];
      weak_others = λ z ne. ap weak_in (r.marks.others z ne);
      weak_here =
          ap weak_in here
          ∙
          (ap (λ b. b || (m'.is_candidate && low)) w'
          ∙
          (ap (λ b. m.is_weak || (b && low)) c'
          ∙
          (found-weak m.is_weak (m.is_candidate && low)
          ∙ ap (λ b. b || (not m.is_weak && (m.is_candidate && low))) (sym was_weak))));
      was = λ f. let k = found-yes m.is_weak m.is_candidate (m'.earlier + m'.later) level f in (was_cand ∙ k.0, was_weak ∙ k.1, omega (arith, k.2, sum));
      missed =
          λ f c w.
          let k = found-no m.is_weak m.is_candidate (m'.earlier + m'.later) level f (sym was_cand ∙ c) (sym was_weak ∙ w) in
          omega (arith, k, sum);
      weak =
          r.weak
          ∙
          (ap (λ b. grown b (b || (m'.is_candidate && low)) y old.seen.weak.items) w'
          ∙
          (ap (λ b. grown m.is_weak (m.is_weak || (b && low)) y old.seen.weak.items) c'
          ∙ grown-found m.is_weak (m.is_candidate && low) y old.seen.weak.items));
      queue = r.queue;
      turn = r.turn;
      shifts = r.shifts;
    }

-- a vertex loses, and is found weak or not, whether it has a mark or none
vertex-loses : (level : ℕ) (loss : Loss) (y : ℕ) (old new : Rising) → LosesOne level loss y old new → (found : Bool) × Lost level loss y found old new
vertex-loses level loss y old new l = elim (cases_mark (value_of old.seen.marks y)) [
  | inl none ↦ (false, subst (Lost level loss y false old) (sym (l.unmarked none)) (lost-unmarked level loss y old none))
  | inr some ↦ (_, lost-marked level loss y some.0 old new some.1 (l.marked some.0 some.1))
]

-- whoever is on the list of the weak was there before, or is the one found now
grown-cases : (found : Bool) (y z : ℕ) (xs ys : List ℕ) → ys ≡ cond found (xs ++ y ∷ []) xs → member z ys ≡ true
    → (member z xs ≡ true) ⊎ ((z ≡ y) × (found ≡ true))
grown-cases true y z xs ys e m = elim (member-push_cases z y xs (sym (ap (member z) e) ∙ m)) [ inl k ↦ inl k | inr q ↦ inr (q, refl) ]
grown-cases false y z xs ys e m = inl (sym (ap (member z) e) ∙ m)

-- the vertex is on the list of the weak where it was before or is found now
grown-here : (found : Bool) (y : ℕ) (xs ys : List ℕ) → ys ≡ cond found (xs ++ y ∷ []) xs → member y ys ≡ (member y xs || found)
grown-here true y xs ys e = ap (member y) e ∙ (member-push y y xs ∙ ap (λ b. member y xs || b) (eq-eqb y y refl))
grown-here false y xs ys e = ap (member y) e ∙ sym (or-false (member y xs))

-- the list of the weak keeps those it had, and has some behind them
grown-more : (found : Bool) (y : ℕ) (xs ys : List ℕ) → ys ≡ cond found (xs ++ y ∷ []) xs → (more : List ℕ) × (ys ≡ xs ++ more)
grown-more true y xs ys e = (y ∷ [], e)
grown-more false y xs ys e = ([], e ∙ sym (append-nil xs))

-- the list of the weak stays distinct where the one that is found was not on it
grown-distinct : (found : Bool) (y : ℕ) (xs ys : List ℕ) → ys ≡ cond found (xs ++ y ∷ []) xs → Distinct xs → (found ≡ true → member y xs ≡ false) → Distinct ys
grown-distinct true y xs ys e d out = subst Distinct (sym e) (Distinct-push xs y d (out refl))
grown-distinct false y xs ys e d out = subst Distinct (sym e) d

-- one neighbour loses what it loses
pub loses-one : (level : ℕ) (loss : Loss) (y : ℕ) (old new : Rising) → IsOrderly old → LosesOne level loss y old new → Loses level loss (y ∷ []) old new
loses-one level loss y old new o l =
    let (found, k) = vertex-loses level loss y old new l in
    record {
      earlier = k.earlier;
      later = k.later;
      turns = k.turns;
      candidates = k.candidates;
      more = grown-more found y old.seen.weak.items new.seen.weak.items k.weak;
      only = λ z m none. elim (grown-cases found y z old.seen.weak.items new.seen.weak.items k.weak m) [
        | inl h ↦ absurd (true≢false (sym h ∙ none))
        | inr h ↦ let w = k.was h.1 in (ap (is_candidate old) h.0 ∙ w.0, omega (arith, w.2, ap (earlier_at new) h.0, ap (later_at new) h.0))
      ];
      all_weak = λ z m c none. elim (member-cases z y [] m) [
        | inl e ↦
            let none' : (member y old.seen.weak.items || found) ≡ false =
            sym (grown-here found y old.seen.weak.items new.seen.weak.items k.weak) ∙ (ap (λ n. member n new.seen.weak.items) (sym e) ∙ none) in
            let out : member y old.seen.weak.items ≡ false = grind (arith, none') in
            let missed : found ≡ false = grind (arith, none') in
            let h = k.missed missed (ap (is_candidate old) (sym e) ∙ c) (o.weak_marked y ∙ out) in
            omega (arith, h, ap (earlier_at new) e, ap (later_at new) e)
        | inr f ↦ absurd (false≢true f)
      ];
      queue = k.queue;
      turn = k.turn;
      shifts = k.shifts;
    }

-- one neighbour's loss keeps queue and marks orderly
pub lose-orderly : (level : ℕ) (loss : Loss) (y : ℕ) (old new : Rising) → IsOrderly old → LosesOne level loss y old new → IsOrderly new
lose-orderly level loss y old new o l =
    let (found, k) = vertex-loses level loss y old new l in
    let same_left : left new ≡ left old = ap (λ n. take n new.queue.items) k.turn ∙ ap (take old.turn) k.queue in
    record {
      once = subst Distinct (sym k.queue) o.once;
      marked = λ z. k.queued z ∙ (o.marked z ∙ sym (ap (member z) k.queue));
      turn_in = let e : length new.queue.items ≡ length old.queue.items = ap length k.queue in omega (arith, e, k.turn, o.turn_in);
      turned = λ z c.
          let t = o.turned z (sym (k.candidates z) ∙ c) in (
            omega (arith, t.0, k.turns z, k.turn),
            ap (λ xs. get_or xs (turn_at new z) 0) k.queue ∙ (ap (λ n. get_or old.queue.items n 0) (k.turns z) ∙ t.1),
          );
      weak_once = grown-distinct found y old.seen.weak.items new.seen.weak.items k.weak o.weak_once (λ f. sym (o.weak_marked y) ∙ (k.was f).1);
      weak_marked = λ z. elim (cases_eq z y) [
        | inl e ↦
            ap (is_weak new) e
            ∙
            (k.weak_here
            ∙
            (ap (λ b. b || found) (o.weak_marked y)
            ∙ (sym (grown-here found y old.seen.weak.items new.seen.weak.items k.weak) ∙ ap (λ n. member n new.seen.weak.items) (sym e))))
        | inr ne ↦ k.weak_others z ne ∙ (o.weak_marked z ∙ sym (member-grown_other found y z old.seen.weak.items new.seen.weak.items k.weak ne))
      ];
      weak_left = λ z m. ap (member z) same_left ∙ elim (grown-cases found y z old.seen.weak.items new.seen.weak.items k.weak m) [
        | inl h ↦ o.weak_left z h
        | inr h ↦ cand-left old o z (ap (is_candidate old) h.0 ∙ (k.was h.1).0)
      ];
      shifted =
          let (more, e) = grown-more found y old.seen.weak.items new.seen.weak.items k.weak in
          ap firsts k.shifts
          ∙
          (o.shifted
          ∙
          (sym (take-append-le (length old.shifts.items) old.seen.weak.items more (shifts-fit old o))
          ∙ (ap (take (length old.shifts.items)) (sym e) ∙ ap (λ xs. take (length xs) new.seen.weak.items) (sym k.shifts))));
      anchored = λ z m. ap (member z) same_left ∙ o.anchored z (sym (ap (λ xs. member z (seconds xs)) k.shifts) ∙ m);
    }

-- where no neighbour has lost yet, nothing has changed
pub loses-none : (level : ℕ) (loss : Loss) (r : Rising) → Loses level loss [] r r
loses-none level loss r = record {
  earlier = λ z. omega arith;
  later = λ z. omega arith;
  turns = λ z. refl;
  candidates = λ z. refl;
  more = ([], sym (append-nil r.seen.weak.items));
  only = λ z m none. absurd (true≢false (sym m ∙ none));
  all_weak = λ z m. absurd (false≢true m);
  queue = refl;
  turn = refl;
  shifts = refl;
}

-- whether a vertex loses a later neighbour depends on its turn and its being a candidate alone
same-loses_later : (loss : Loss) (old new : Rising) (z : ℕ) → is_candidate new z ≡ is_candidate old z → turn_at new z ≡ turn_at old z
    → loses_later loss new z ≡ loses_later loss old z
same-loses_later Settled old new z c t = c
same-loses_later (Evicted turn) old new z c t = ap (λ b. b && ltb (turn_at new z) turn) c ∙ ap (λ n. is_candidate old z && ltb n turn) t

-- whether a vertex loses an earlier neighbour depends on its turn and its being a candidate alone
same-loses_earlier : (loss : Loss) (old new : Rising) (z : ℕ) → is_candidate new z ≡ is_candidate old z → turn_at new z ≡ turn_at old z
    → loses_earlier loss new z ≡ loses_earlier loss old z
same-loses_earlier Settled old new z c t = refl
same-loses_earlier (Evicted turn) old new z c t = ap not (ap (λ b. b && ltb (turn_at new z) turn) c ∙ ap (λ n. is_candidate old z && ltb n turn) t)

-- a count after the losses to some neighbours and then to one more
loses_more : (c b a : ℕ) (mx m e n n' : Bool) → b ≡ a - cond (m && n) 1 0 → c ≡ b - cond ((e || false) && n') 1 0 → n' ≡ n → mx ≡ (m || e)
    → (e ≡ true → m ≡ false) → c ≡ a - cond (mx && n) 1 0
loses_more c b a mx m e n n' h k same q apart = grind arith

-- the count of a vertex that is not the one that loses stays
kept_one : (c b : ℕ) (e n : Bool) → c ≡ b - cond ((e || false) && n) 1 0 → e ≡ false → c ≡ b
kept_one c b e n h k = grind arith

-- one neighbour more has lost what it loses
pub loses-more : (level : ℕ) (loss : Loss) (y : ℕ) (ws : List ℕ) (old mid new : Rising) → Loses level loss ws old mid
    → Loses level loss (y ∷ []) mid new → member y ws ≡ false → Loses level loss (ws ++ y ∷ []) old new
loses-more level loss y ws old mid new d e new' =
    let apart : (z : ℕ) → eqb z y ≡ true → member z ws ≡ false = λ z q. ap (λ n. member n ws) (eqb-true z y q) ∙ new' in
    let grows : (z : ℕ) → member z mid.seen.weak.items ≡ true → member z new.seen.weak.items ≡ true =
    λ z m. ap (member z) e.more.1 ∙ member-append_left z mid.seen.weak.items e.more.0 m in
    record {
      earlier =
          λ z.
          loses_more (earlier_at new z) (earlier_at mid z) (earlier_at old z) (member z (ws ++ y ∷ [])) (member z ws) (eqb z y)
          (loses_earlier loss old z) (loses_earlier loss mid z)
          (d.earlier z) (e.earlier z) (same-loses_earlier loss old mid z (d.candidates z) (d.turns z)) (member-push z y ws) (apart z);
      later =
          λ z.
          loses_more (later_at new z) (later_at mid z) (later_at old z) (member z (ws ++ y ∷ [])) (member z ws) (eqb z y)
          (loses_later loss old z) (loses_later loss mid z)
          (d.later z) (e.later z) (same-loses_later loss old mid z (d.candidates z) (d.turns z)) (member-push z y ws) (apart z);
      turns = λ z. e.turns z ∙ d.turns z;
      candidates = λ z. e.candidates z ∙ d.candidates z;
      more = (d.more.0 ++ e.more.0, e.more.1 ∙ (ap (λ xs. xs ++ e.more.0) d.more.1 ∙ append_assoc old.seen.weak.items d.more.0 e.more.0));
      only = λ z m none. elim (cases_Bool (member z mid.seen.weak.items)) [
        | inl k ↦
            let q = d.only z k none in
            let a = e.earlier z in
            let b = e.later z in
            (q.0, omega (arith, q.1, a, b))
        | inr k ↦ let q = e.only z m k in (sym (d.candidates z) ∙ q.0, q.1)
      ];
      all_weak = λ z m c none. elim (member-push_cases z y ws m) [
        | inl k ↦
            let ne : z ≢ y = λ q. true≢false (sym k ∙ apart z (eq-eqb z y q)) in
            let n : eqb z y ≡ false = ne_eqb z y ne in
            let none' : member z mid.seen.weak.items ≡ false = false_from_ne_true _ (λ t. true≢false (sym (grows z t) ∙ none)) in
            let a : earlier_at new z ≡ earlier_at mid z = kept_one (earlier_at new z) (earlier_at mid z) (eqb z y) (loses_earlier loss mid z) (e.earlier z) n in
            let b : later_at new z ≡ later_at mid z = kept_one (later_at new z) (later_at mid z) (eqb z y) (loses_later loss mid z) (e.later z) n in
            omega (arith, d.all_weak z k c none', a, b)
        | inr q ↦ e.all_weak z (ap (λ n. member n (y ∷ [])) q ∙ member-head y []) (d.candidates z ∙ c) none
      ];
      queue = e.queue ∙ d.queue;
      turn = e.turn ∙ d.turn;
      shifts = e.shifts ∙ d.shifts;
    }
