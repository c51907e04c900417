-- Each step keeps the rule of the queue: a number that is put, taken, or known after consumers are split and joined.
use Rattle.std.proofs.Common.{◌≡◌, ◌≤◌, ◌<◌, ◌+◌, ◌-◌, ℕ, suc, zero, true, List, [], ◌∷◌, ◌++◌, length, set, get_or, drop}
use Rattle.std.proofs.Common.{eqb, lt_irrefl, refl, sym, ap, ◌∙◌, subst, inl, inr, arith}
use Rattle.std.proofs.lemmas.Bool.{cases_Bool, eq-eqb, false_from_ne_true}
use Rattle.std.specs.Prelude.{Option, Some, None, MatchOption}
use mathlib.Core.Option.{some, some-ne-none, some-injective}
use lib.ListN.{get_elem?}
use Rattle.crossbeam_queue.specs.Fifo.{Pushes, Pops, Forks, Merges, Learns, Held}
use Rattle.kc_lists.specs.Lists.{member, below, times}
use Rattle.kc_lists.proofs.Counting.{below-member, member-below, Distinct-below, Distinct-push, member-push_cases, count-cons, count-yes, times_member}
use Rattle.kc_lists.proofs.Counting.{member_times, times_other, times_distinct}
use Rattle.kc_queue.specs.declared.consumer.TheConstants.{PARTS}
use Rattle.kc_queue.specs.declared.dealing.Hand.{Hand}
use Rattle.kc_queue.specs.Dealt.{hand, numbers_from, parts_of, times_in, Agrees, IsIdle, IsDealt, Dealt, TakesNext, OwnsShare, HasTakenAll, HoldsAll}
use Rattle.kc_queue.specs.Shares.{IsShare}
use Rattle.kc_queue.proofs.Counts.{times-append, share_times, whole_times}
use Rattle.kc_queue.proofs.Totals.{total_set, total_snoc, total_one, total_else, total_alone, each_set, each_snoc}

-- the numbers in order, with one more at the end, and without the first
numbers-snoc : (next left x : ℕ) → x ≡ next + left → numbers_from next left ++ x ∷ [] ≡ numbers_from next (suc left)
numbers-snoc next zero x is = ap (λ y. y ∷ []) (is ∙ omega arith)
numbers-snoc next (suc left) x is = ap (λ ys. next ∷ ys) (numbers-snoc (suc next) left x (omega arith))

-- the first of those that are left
record IsFirst (next left x : ℕ) (items : List ℕ) : Type 0 where
  fewer : ℕ
  one_less : left ≡ suc fewer
  first : x ≡ next
  rest : items ≡ numbers_from (suc next) fewer

-- the number at the front of the queue is the first of those that are left
numbers_first : (next left x : ℕ) (items : List ℕ) → x ∷ items ≡ numbers_from next left → IsFirst next left x items
numbers_first next zero x items e = absurd (none (ap length e))
  where
    none : length (x ∷ items) ≡ 0 → ⊥
    none l = omega arith
numbers_first next (suc left) x items e = record { fewer = left; one_less = refl; first = ap (λ ys. get_or ys 0 0) e; rest = ap (drop 1) e }

-- as many numbers in order as were asked for
pub length-numbers : (next left : ℕ) → length (numbers_from next left) ≡ left
length-numbers next zero = refl
length-numbers next (suc left) = let rest = length-numbers (suc next) left in omega arith

-- no number stands less often among more of them
times_more : (y a b : ℕ) → a ≤ b → times y (below a) ≤ times y (below b)
times_more y a b le =
    elim (cases_Bool (member y (below a))) [
      | inl m ↦ omega (arith, times_distinct y (below a) (Distinct-below a), times_member y (below b) (member-below y b (in_b m)))
      | inr away ↦ omega (arith, times_other y (below a) away)
    ]
  where
    in_b : member y (below a) ≡ true → y < b
    in_b m = let l = below-member y a m in omega arith

-- at a queue that is open and empty, its first consumer has all parts
pub consumer-begins : Dealt [] (hand PARTS 0 [] ∷ [])
consumer-begins = (
  0,
  0,
  record {
    parts = omega arith;
    held = refl;
    taken = λ x. refl;
    agree = λ port v e some. known port v e;
    idle = λ port v e none. nothing port v e;
  },
)
  where
    known : (port : ℕ) (v : Hand) → get_elem? (hand PARTS 0 [] ∷ []) port ≡ some v → v.filled ≡ 0 + 0
    known zero v e = sym (ap (λ (u : Hand). u.filled) (some-injective _ _ e))
    known (suc j) v e = absurd (some-ne-none v (sym e))

    nothing : (port : ℕ) (v : Hand) → get_elem? (hand PARTS 0 [] ∷ []) port ≡ some v → v.taken ≡ []
    nothing zero v e = sym (ap (λ (u : Hand). u.taken) (some-injective _ _ e))
    nothing (suc j) v e = absurd (some-ne-none v (sym e))

-- what one has taken is a share of what the queue was filled with
own_share : (v : Hand) (next left port : ℕ) (items : List ℕ) (views : List Hand) → 0 < v.parts → IsDealt next left items views
    → get_elem? views port ≡ some v → IsShare v.filled v.taken
own_share v next left port items views part d at =
    share_times v.filled v.taken (λ y.
    let filled = d.agree port v at part in
    omega (arith, total_one (times_in y) views port v at, d.taken y, times_more y next v.filled (omega arith)))

-- what a consumer with a part has taken is its share
pub consumer-owns : (port : ℕ) (v : Hand) → 0 < v.parts → Learns Dealt port v (OwnsShare v)
consumer-owns port v part items views d at = own_share v d.0 d.1 port items views part d.2 at

-- all that was taken, where one has all parts
all_taken : (v : Hand) (next left port : ℕ) (items : List ℕ) (views : List Hand) → v.parts ≡ PARTS → IsDealt next left items views
    → get_elem? views port ≡ some v → (y : ℕ) → times y v.taken ≡ times y (below next)
all_taken v next left port items views whole d at y =
    sym (total_alone (times_in y) views port v at (λ j u apart there.
    ap (times y) (d.idle j u there (total_else parts_of views port v at (d.parts ∙ sym whole) j u apart there)))) ∙ d.taken y

-- a consumer with all parts has taken all numbers, where the queue is empty
pub has_taken_all : (port : ℕ) (v : Hand) → 0 < v.parts → Learns Dealt port v (HasTakenAll v)
has_taken_all port v part items views d at whole empty =
    let r = d.2 in
    let none : d.1 ≡ 0 = sym (length-numbers d.0 d.1) ∙ ap length (sym r.held ∙ empty) in
    let filled : d.0 ≡ v.filled = omega (arith, r.agree port v at part) in
    whole_times v.filled v.taken (λ y. all_taken v d.0 d.1 port items views whole r at y ∙ ap (λ n. times y (below n)) filled)

-- a consumer with all parts that has taken nothing sees all numbers in the queue
pub holds_all : (port : ℕ) (v : Hand) → 0 < v.parts → Learns Dealt port v (HoldsAll v)
holds_all port v part items views d at whole nothing =
    let r = d.2 in
    let none : d.0 ≡ 0 = first_is d.0 (λ y. sym (all_taken v d.0 d.1 port items views whole r at y) ∙ ap (times y) nothing) in
    let left : d.1 ≡ v.filled = omega (arith, r.agree port v at part) in
    r.held ∙ (ap (λ n. numbers_from n d.1) none ∙ ap (numbers_from 0) left)
  where
    first_is : (n : ℕ) → ((y : ℕ) → times y (below n) ≡ 0) → n ≡ 0
    first_is zero none = refl
    first_is (suc n) none = absurd (omega (arith, none n, count-yes (eqb n) n (below n) (eq-eqb n n refl)))

-- the next number joins the queue
pub number-joins : (n port : ℕ) (v : Hand) (x : ℕ) → v.parts ≡ PARTS → x ≡ v.filled → Pushes Dealt n port v x (λ w. w ≡ hand v.parts (v.filled + 1) v.taken)
number-joins n port v x whole is items views room d at =
    let r = d.2 in
    let w : Hand = hand v.parts (v.filled + 1) v.taken in
    let filled : v.filled ≡ d.0 + d.1 = r.agree port v at (omega arith) in (
      w,
      (
        d.0,
        suc d.1,
        record {
          parts = let s = total_set parts_of views port v w at in omega (arith, r.parts);
          held = ap (λ ys. ys ++ x ∷ []) r.held ∙ numbers-snoc d.0 d.1 x (is ∙ filled);
          taken = λ y. omega (arith, r.taken y, total_set (times_in y) views port v w at);
          agree = each_set (Agrees (d.0 + suc d.1)) views port w (λ part. omega arith)
              (λ j u apart there part. absurd (omega (arith, total_else parts_of views port v at (r.parts ∙ sym whole) j u apart there)));
          idle = each_set IsIdle views port w (λ none. absurd (omega arith)) (λ j u apart there none. r.idle j u there none);
        },
      ),
      refl,
    )

-- the first number leaves it
pub number-leaves : (port : ℕ) (v : Hand) → 0 < v.parts → Pops Dealt port v (TakesNext v)
number-leaves port v part x items views d at =
    let r = d.2 in
    let w : Hand = hand v.parts v.filled (v.taken ++ x ∷ []) in
    let f = numbers_first d.0 d.1 x items r.held in
    let filled : v.filled ≡ d.0 + d.1 = r.agree port v at part in (
      w,
      (
        suc d.0,
        f.fewer,
        record {
          parts = let s = total_set parts_of views port v w at in omega (arith, r.parts);
          held = f.rest;
          taken = λ y. omega (
            arith,
            r.taken y,
            total_set (times_in y) views port v w at,
            times-append y v.taken (x ∷ []),
            ap (λ z. times y (z ∷ [])) f.first,
            count-cons (eqb y) d.0 [],
            count-cons (eqb y) d.0 (below d.0),
          );
          agree = each_set (Agrees (suc d.0 + f.fewer)) views port w (λ some. omega (arith, f.one_less))
              (λ j u apart there some. omega (arith, r.agree j u there some, f.one_less));
          idle = each_set IsIdle views port w (λ none. absurd (omega arith)) (λ j u apart there none. r.idle j u there none);
        },
      ),
      (refl, omega (arith, f.first, f.one_less), λ y m. before y m f.first),
    )
  where
    before : (y : ℕ) → member y v.taken ≡ true → x ≡ d.0 → y < x
    before y m is =
        let taken : 0 < times y (below d.0) = omega (arith, times_member y v.taken m, total_one (times_in y) views port v at, d.2.taken y) in
        let l : y < d.0 = below-member y d.0 (member_times y (below d.0) taken) in
        omega arith

-- a part is split off
pub part-forks : (port : ℕ) (v : Hand) → 1 < v.parts → Forks Dealt port v (hand (v.parts - 1) v.filled v.taken) (hand 1 v.filled [])
part-forks port v more items views d at =
    let r = d.2 in
    let left : Hand = hand (v.parts - 1) v.filled v.taken in
    let right : Hand = hand 1 v.filled [] in
    let us = set views port left in
    let filled : v.filled ≡ d.0 + d.1 = r.agree port v at (omega arith) in (
      d.0,
      d.1,
      record {
        parts = let s = total_set parts_of views port v left at in let t = total_snoc parts_of us right in omega (arith, r.parts);
        held = r.held;
        taken = λ y. omega (arith, r.taken y, total_set (times_in y) views port v left at, total_snoc (times_in y) us right);
        agree = each_snoc (Agrees (d.0 + d.1)) us right (λ part. filled)
            (each_set (Agrees (d.0 + d.1)) views port left (λ part. filled) (λ j u apart there part. r.agree j u there part));
        idle = each_snoc IsIdle us right (λ none. refl)
            (each_set IsIdle views port left (λ none. absurd (omega arith)) (λ j u apart there none. r.idle j u there none));
      },
    )

-- one takes over what another has
pub parts-merge : (port : ℕ) (v : Hand) (other : ℕ) (u : Hand) → 0 < v.parts
    → Merges Dealt port v other u (hand (v.parts + u.parts) v.filled (v.taken ++ u.taken)) (hand 0 0 [])
parts-merge port v other u part items views d at apart there =
    let r = d.2 in
    let both : Hand = hand (v.parts + u.parts) v.filled (v.taken ++ u.taken) in
    let spent : Hand = hand 0 0 [] in
    let us = set views port both in
    let filled : v.filled ≡ d.0 + d.1 = r.agree port v at part in (
      d.0,
      d.1,
      record {
        parts = let s = total_set parts_of views port v both at in let t = total_set parts_of us other u spent there in omega (arith, r.parts);
        held = r.held;
        taken = λ y. omega (
          arith,
          r.taken y,
          total_set (times_in y) views port v both at,
          total_set (times_in y) us other u spent there,
          times-append y v.taken u.taken,
        );
        agree = each_set (Agrees (d.0 + d.1)) us other spent (λ none. absurd (omega arith))
            (λ i z away. each_set (Agrees (d.0 + d.1)) views port both (λ some. filled) (λ j z apart there some. r.agree j z there some) i z);
        idle = each_set IsIdle us other spent (λ none. refl)
            (λ i z away. each_set IsIdle views port both (λ none. absurd (omega arith)) (λ j z apart there none. r.idle j z there none) i z);
      },
    )

-- the queue has room while it is filled
pub has_room : (v : Hand) (n i : ℕ) → v ≡ hand PARTS i [] → i < n → Held n (HoldsAll v) → ⊥
has_room v n i is more held =
    let items : held.0 ≡ numbers_from 0 v.filled = held.2 (ap parts_of is) (ap (λ (u : Hand). u.taken) is) in
    let filled : v.filled ≡ i = ap (λ (u : Hand). u.filled) is in
    omega (arith, held.1, ap length items, length-numbers 0 v.filled)

-- after a pop: a part is there still, and what was taken is a share of as many
pub record AfterTake (v w : Hand) : Type 0 where
  pub part : 0 < w.parts
  pub filled : w.filled ≡ v.filled
  pub share : IsShare w.filled w.taken

-- whether a pop gave a number or none, a part is there still and what was taken is a share
pub after_take : (o : Option ℕ) (v w : Hand) → MatchOption o ((w ≡ v) × Held 0 (HasTakenAll v)) (λ x. TakesNext v x w)
    → 0 < v.parts → IsShare v.filled v.taken → AfterTake v w
after_take None v w p part share = subst (AfterTake v) (sym p.0) (record { part = part; filled = refl; share = share })
after_take (Some x) v w p part share =
    subst (AfterTake v) (sym p.0) (record {
      part = part;
      filled = refl;
      share = record {
        once = Distinct-push v.taken x share.once (false_from_ne_true (member x v.taken) (λ m. lt_irrefl x (p.2 x m)));
        below = λ y m. elim (member-push_cases y x v.taken m) [ inl k ↦ share.below y k | inr e ↦ let l = p.1 in omega arith ];
      };
    })
