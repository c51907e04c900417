-- The whole search, with its shifts: each turn keeps what is known.
use Rattle.std.proofs.Common.{◌≡◌, ◌≢◌, ◌≤◌, ◌<◌, ◌+◌, ℕ, true, false, ◌&&◌, ◌||◌, List, [], ◌∷◌, ◌++◌, ltb, leb, refl, sym, ◌∙◌, ap, subst, ◌⊎◌, inl}
use Rattle.std.proofs.Common.{inr, arith, true≢false, le_trans}
use Rattle.std.proofs.lemmas.Bool.{cases_eq, false≢true, false_from_ne_true}
use Rattle.kc_lists.specs.Lists.{member, Distinct}
use Rattle.kc_lists.proofs.Members.{member-head, not_member-cons, not_member-parts, append-not_member}
use Rattle.kc_lists.proofs.Counting.{member-push_cases, Distinct-push}
use Rattle.kc_cert.specs.Local.{firsts, seconds, AreInTurn}
use Rattle.kc_cert.specs.Ranks.{moved, place_after}
use Rattle.kc_view.specs.Search.{Search, on_level, above, after, OnLevel}
use Rattle.kc_view.proofs.Among.{among-agree}
use Rattle.kc_view.proofs.Fronts.{firsts-push, seconds-push}
use Rattle.kc_insert.specs.Searching.{ahead, coming, holding, behind, Widened, Searching, WeakListed, AddsCandidate, Drops, Raised, Settled, Evicted, Relisted}
use Rattle.kc_insert.specs.Searching.{Shifts, BetweenTurns, InSettling}
use Rattle.kc_insert.proofs.Steps.{search-starts, first-raised, first-settled, first-passes, candidates-settled, evict_one, coming_at, holding_at, behind_at}

-- the order after one shift more
place_after-push : (r : ℕ → ℕ) (shifts : List (ℕ × ℕ)) (x w : ℕ) → place_after r (shifts ++ (x, w) ∷ []) ≡ moved (place_after r shifts) x w
place_after-push r [] x w = refl
place_after-push r (p ∷ shifts) x w = place_after-push (moved r p.0 p.1) shifts x w

-- shifts stay in turn with one more behind, whose vertex was no anchor before
AreInTurn-push : (shifts : List (ℕ × ℕ)) (x w : ℕ) → AreInTurn shifts → w ≢ x → member x (seconds shifts) ≡ false → AreInTurn (shifts ++ (x, w) ∷ [])
AreInTurn-push [] x w t ne n = (not_member-cons w x [] ne refl, tt)
AreInTurn-push (p ∷ shifts) x w t ne n =
    let k = not_member-parts x p.1 (seconds shifts) n in
    let old = not_member-parts p.1 p.0 (firsts shifts) t.0 in
    let new : member p.1 (firsts (shifts ++ (x, w) ∷ [])) ≡ false =
    ap (member p.1) (firsts-push shifts x w) ∙ append-not_member p.1 (firsts shifts) (x ∷ []) old.1 (not_member-cons p.1 x [] (λ e. k.0 (sym e)) refl) in
    (not_member-cons p.1 p.0 (firsts (shifts ++ (x, w) ∷ [])) old.0 new, AreInTurn-push shifts x w t.1 ne k.1)

-- the shifts stay fit where the candidates change at a vertex that none of them names
Shifts-raise : (s : Search) (cands cands' : List ℕ) (frontier w : ℕ) (shifts : List (ℕ × ℕ)) → frontier ≤ s.rank w → AddsCandidate cands w cands'
    → Shifts s cands frontier shifts → Shifts s cands' (s.rank w + 1) shifts
Shifts-raise s cands cands' frontier w shifts open' add f = record {
  in_turn = f.in_turn;
  once = f.once;
  first_level = f.first_level;
  first_passed = λ x m. omega (arith, f.first_passed x m);
  first_done = λ x m. add.others x (λ e. let k : s.rank x ≡ s.rank w = ap s.rank e in absurd (omega (arith, f.first_passed x m))) ∙ f.first_done x m;
  second_level = f.second_level;
  second_passed = λ x m. omega (arith, f.second_passed x m);
  second_done = λ x m. add.others x (λ e. let k : s.rank x ≡ s.rank w = ap s.rank e in absurd (omega (arith, f.second_passed x m))) ∙ f.second_done x m;
}

-- the shifts stay fit where the frontier goes on
Shifts-leave : (s : Search) (cands : List ℕ) (frontier frontier' : ℕ) (shifts : List (ℕ × ℕ)) → frontier ≤ frontier'
    → Shifts s cands frontier shifts → Shifts s cands frontier' shifts
Shifts-leave s cands frontier frontier' shifts le f = record {
  in_turn = f.in_turn;
  once = f.once;
  first_level = f.first_level;
  first_passed = λ x m. le_trans (f.first_passed x m) le;
  first_done = f.first_done;
  second_level = f.second_level;
  second_passed = λ x m. le_trans (f.second_passed x m) le;
  second_done = f.second_done;
}

-- the shifts stay fit with that of an evicted candidate behind them
Shifts-evict : (s : Search) (cands cands' : List ℕ) (frontier x last : ℕ) (shifts : List (ℕ × ℕ)) → OnLevel s x → s.rank x < frontier
    → member x cands ≡ true → Drops cands x cands'
    → OnLevel s last → s.rank last < frontier → member last cands ≡ false → Shifts s cands frontier shifts → Shifts s cands' frontier (shifts ++ (x, last) ∷ [])
Shifts-evict s cands cands' frontier x last shifts ox passed there drop ol pl dl f =
    let ne : last ≢ x = λ e. true≢false (sym there ∙ (ap (λ k. member k cands) (sym e) ∙ dl)) in
    let not_first : member x (firsts shifts) ≡ false = false_from_ne_true _ (λ m. true≢false (sym there ∙ f.first_done x m)) in
    let not_second : member x (seconds shifts) ≡ false = false_from_ne_true _ (λ m. true≢false (sym there ∙ f.second_done x m)) in
    let first : (y : ℕ) → member y (firsts (shifts ++ (x, last) ∷ [])) ≡ true → (member y (firsts shifts) ≡ true) ⊎ (y ≡ x) = λ y m.
    member-push_cases y x (firsts shifts) (ap (member y) (sym (firsts-push shifts x last)) ∙ m) in
    let second : (y : ℕ) → member y (seconds (shifts ++ (x, last) ∷ [])) ≡ true → (member y (seconds shifts) ≡ true) ⊎ (y ≡ last) = λ y m.
    member-push_cases y last (seconds shifts) (ap (member y) (sym (seconds-push shifts x last)) ∙ m) in
    let not_x : (y : ℕ) → member y cands ≡ false → member y cands' ≡ false =
    λ y none. elim (cases_eq y x) [ inl e ↦ ap (λ k. member k cands') e ∙ drop.itself | inr n ↦ drop.others y n ∙ none ] in
    record {
      in_turn = AreInTurn-push shifts x last f.in_turn ne not_second;
      once = subst Distinct (sym (firsts-push shifts x last)) (Distinct-push (firsts shifts) x f.once not_first);
      first_level = λ y m. elim (first y m) [ inl k ↦ f.first_level y k | inr e ↦ subst (λ (n : ℕ). OnLevel s n) (sym e) ox ];
      first_passed = λ y m. elim (first y m) [ inl k ↦ f.first_passed y k | inr e ↦ subst (λ (n : ℕ). s.rank n < frontier) (sym e) passed ];
      first_done = λ y m. elim (first y m) [ inl k ↦ not_x y (f.first_done y k) | inr e ↦ ap (λ k. member k cands') e ∙ drop.itself ];
      second_level = λ y m. elim (second y m) [ inl k ↦ f.second_level y k | inr e ↦ subst (λ (n : ℕ). OnLevel s n) (sym e) ol ];
      second_passed = λ y m. elim (second y m) [ inl k ↦ f.second_passed y k | inr e ↦ subst (λ (n : ℕ). s.rank n < frontier) (sym e) pl ];
      second_done = λ y m. elim (second y m) [ inl k ↦ not_x y (f.second_done y k) | inr e ↦ not_x y (ap (λ k. member k cands) e ∙ dl) ];
    }

-- before the first turn: the root has too many later neighbours
pub turns-begin : (s : Search) (root : ℕ) → Widened s root → (earlier later : ℕ → ℕ) → ((x : ℕ) → earlier x ≡ 0)
    → BetweenTurns s root [] (root ∷ []) (s.rank root) earlier later []
turns-begin s root c earlier later none = record {
  searching = search-starts s root c earlier later none;
  strong = record { strong = λ x m. absurd (false≢true m) };
  shifts_fit = record {
    in_turn = tt;
    once = tt;
    first_level = λ x m. absurd (false≢true m);
    first_passed = λ x m. absurd (false≢true m);
    first_done = λ x m. absurd (false≢true m);
    second_level = λ x m. absurd (false≢true m);
    second_passed = λ x m. absurd (false≢true m);
    second_done = λ x m. absurd (false≢true m);
  };
}

-- the first of the queue becomes a candidate
pub turn_raise : (s : Search) (root : ℕ) (cands queue : List ℕ) (w frontier : ℕ) (earlier later : ℕ → ℕ) (shifts : List (ℕ × ℕ))
    → Widened s root → BetweenTurns s root cands (w ∷ queue) frontier earlier later shifts
    → (cands' queue' : List ℕ) (earlier' later' : ℕ → ℕ) → Raised s cands w queue earlier later cands' queue' earlier' later'
    → BetweenTurns s root cands' queue' (s.rank w + 1) earlier' later' shifts
turn_raise s root cands queue w frontier earlier later shifts c b cands' queue' earlier' later' r =
    let next = first-raised s root cands queue w frontier earlier later (place_after s.rank shifts) c b.searching b.strong cands' queue' earlier' later' r in
    let w_open : frontier ≤ s.rank w = b.searching.queue_open w (member-head w queue) in
    record {
      searching = next.0;
      strong = next.1;
      shifts_fit = Shifts-raise s cands cands' frontier w shifts w_open r.added b.shifts_fit;
    }

-- the first of the queue leaves it, and no candidate is its neighbour
pub turn_pass : (s : Search) (root : ℕ) (cands queue : List ℕ) (w frontier : ℕ) (earlier later : ℕ → ℕ) (shifts : List (ℕ × ℕ))
    → Widened s root → BetweenTurns s root cands (w ∷ queue) frontier earlier later shifts
    → ahead s w ≤ s.level → earlier w ≡ 0 → BetweenTurns s root cands queue (s.rank w + 1) earlier later shifts
turn_pass s root cands queue w frontier earlier later shifts c b few none =
    let w_open : frontier ≤ s.rank w = b.searching.queue_open w (member-head w queue) in
    record {
      searching = first-passes s root cands queue w frontier earlier later (place_after s.rank shifts) c b.searching few none;
      strong = b.strong;
      shifts_fit = Shifts-leave s cands frontier (s.rank w + 1) shifts (omega arith) b.shifts_fit;
    }

-- the first of the queue is settled
pub turn_settle : (s : Search) (root : ℕ) (cands queue : List ℕ) (w frontier : ℕ) (earlier later : ℕ → ℕ) (shifts : List (ℕ × ℕ))
    → Widened s root → BetweenTurns s root cands (w ∷ queue) frontier earlier later shifts
    → (earlier' later' : ℕ → ℕ) (evict : List ℕ) → Settled s cands w earlier later earlier' later'
    → Relisted s cands [] earlier' later' w evict → InSettling s root cands queue (s.rank w + 1) earlier' later' shifts evict w
turn_settle s root cands queue w frontier earlier later shifts c b earlier' later' evict r l =
    let w_open : frontier ≤ s.rank w = b.searching.queue_open w (member-head w queue) in
    let next = first-settled s root cands queue w frontier earlier later (place_after s.rank shifts) c b.searching b.strong earlier' later' evict r l in
    record {
      searching = next.0;
      settling = next.1;
      shifts_fit = Shifts-leave s cands frontier (s.rank w + 1) shifts (omega arith) b.shifts_fit;
    }

-- a candidate is evicted
pub turn_evict : (s : Search) (root : ℕ) (cands queue : List ℕ) (frontier : ℕ) (earlier later : ℕ → ℕ) (shifts : List (ℕ × ℕ))
    (evict : List ℕ) (x last : ℕ)
    → Widened s root → InSettling s root cands queue frontier earlier later shifts (x ∷ evict) last
    → (cands' evict' : List ℕ) (earlier' later' : ℕ → ℕ) → Evicted s cands frontier x earlier later cands' earlier' later'
    → Relisted s cands' evict earlier' later' x evict'
    → InSettling s root cands' queue frontier earlier' later' (shifts ++ (x, last) ∷ []) evict' x
turn_evict s root cands queue frontier earlier later shifts evict x last c b cands' evict' earlier' later' r l =
    let e = b.settling in
    let there : member x cands ≡ true = e.listed x (member-head x evict) in
    let ox : OnLevel s x = b.searching.cand_level x there in
    let next = evict_one s root cands queue frontier earlier later (place_after s.rank shifts) evict x last c b.searching e cands' evict' earlier' later' r l in
    let same : place_after s.rank (shifts ++ (x, last) ∷ []) ≡ moved (place_after s.rank shifts) x last = place_after-push s.rank shifts x last in
    record {
      searching = subst (λ (p : ℕ → ℕ). Searching s root cands' queue frontier earlier' later' p) (sym same) next.0;
      settling = subst (λ (p : ℕ → ℕ). WeakListed s cands' frontier earlier' later' p evict' x) (sym same) next.1;
      shifts_fit =
          Shifts-evict s cands cands' frontier x last shifts ox (b.searching.cand_passed x there) there r.dropped e.last_level e.last_passed
          e.last_done b.shifts_fit;
    }

-- all that were too weak are evicted
pub turn_settled : (s : Search) (root : ℕ) (cands queue : List ℕ) (frontier : ℕ) (earlier later : ℕ → ℕ) (shifts : List (ℕ × ℕ)) (last : ℕ)
    → InSettling s root cands queue frontier earlier later shifts [] last
    → BetweenTurns s root cands queue frontier earlier later shifts
turn_settled s root cands queue frontier earlier later shifts last b = record {
  searching = b.searching;
  strong = candidates-settled s cands frontier earlier later (place_after s.rank shifts) last b.settling;
  shifts_fit = b.shifts_fit;
}

-- the same candidates in another list
coming-list : (s : Search) (cands cands' : List ℕ) → ((y : ℕ) → member y cands' ≡ member y cands) → (x : ℕ) → coming s cands x ≡ coming s cands' x
coming-list s cands cands' same x = among-agree s x (coming_at s cands x) (coming_at s cands' x) (λ y l a. ap (λ b. b && after s y x) (sym (same y)))

-- later neighbours that count are the same for the same candidates in another list
holding-list : (s : Search) (cands cands' : List ℕ) → ((y : ℕ) → member y cands' ≡ member y cands) → (frontier x : ℕ)
    → holding s cands frontier x ≡ holding s cands' frontier x
holding-list s cands cands' same frontier x =
    among-agree s x (holding_at s cands frontier x) (holding_at s cands' frontier x)
    (λ y l a. ap (λ b. above s y || (on_level s y && (after s x y && (b || leb frontier (s.rank y))))) (sym (same y)))

-- neighbours behind are the same for the same candidates in another list
behind-list : (s : Search) (cands cands' : List ℕ) → ((y : ℕ) → member y cands' ≡ member y cands) → (place : ℕ → ℕ) (z : ℕ)
    → behind s cands' place z ≡ behind s cands place z
behind-list s cands cands' same place z =
    among-agree s z (behind_at s cands' place z) (behind_at s cands place z)
    (λ y l a. ap (λ b. above s y || (on_level s y && (b || ltb (place z) (place y)))) (same y))

-- the search is the same with the same counts, and the same candidates in another list
Searching-list : (s : Search) (root : ℕ) (cands queue : List ℕ) (frontier : ℕ) (earlier later place : ℕ → ℕ)
    → Searching s root cands queue frontier earlier later place
    → (cands' : List ℕ) (earlier' later' : ℕ → ℕ) → ((y : ℕ) → member y cands' ≡ member y cands) → ((y : ℕ) → earlier' y ≡ earlier y)
    → ((y : ℕ) → later' y ≡ later y)
    → Searching s root cands' queue frontier earlier' later' place
Searching-list s root cands queue frontier earlier later place h cands' earlier' later' same e l = record {
  cand_level = λ x m. h.cand_level x (sym (same x) ∙ m);
  cand_passed = λ x m. h.cand_passed x (sym (same x) ∙ m);
  queue_level = h.queue_level;
  queue_open = h.queue_open;
  queue_ascends = h.queue_ascends;
  root_queued = h.root_queued;
  queued = λ x y m. h.queued x y (sym (same x) ∙ m);
  earlier_of_cand = λ x m. e x ∙ (h.earlier_of_cand x (sym (same x) ∙ m) ∙ coming-list s cands cands' same x);
  earlier_of_open = λ x o le. e x ∙ (h.earlier_of_open x o le ∙ coming-list s cands cands' same x);
  later_of_cand = λ x m. l x ∙ (h.later_of_cand x (sym (same x) ∙ m) ∙ holding-list s cands cands' same frontier x);
  done = λ z o lt none. let k = h.done z o lt (sym (same z) ∙ none) in omega (arith, k, behind-list s cands cands' same place z);
  open_kept = h.open_kept;
  passed_first = λ y z oy oz lt none. h.passed_first y z oy oz lt (sym (same y) ∙ none);
  lower_first = h.lower_first;
  higher_last = h.higher_last;
  others_kept = h.others_kept;
}

-- the shifts fit the same candidates in another list
Shifts-list : (s : Search) (cands cands' : List ℕ) (frontier : ℕ) (shifts : List (ℕ × ℕ)) → ((y : ℕ) → member y cands' ≡ member y cands)
    → Shifts s cands frontier shifts → Shifts s cands' frontier shifts
Shifts-list s cands cands' frontier shifts same f = record {
  in_turn = f.in_turn;
  once = f.once;
  first_level = f.first_level;
  first_passed = f.first_passed;
  first_done = λ x m. same x ∙ f.first_done x m;
  second_level = f.second_level;
  second_passed = f.second_passed;
  second_done = λ x m. same x ∙ f.second_done x m;
}

-- the same counts, and the same candidates in another list, between two turns
pub turn_same : (s : Search) (root : ℕ) (cands queue : List ℕ) (frontier : ℕ) (earlier later : ℕ → ℕ) (shifts : List (ℕ × ℕ))
    → BetweenTurns s root cands queue frontier earlier later shifts
    → (cands' : List ℕ) (earlier' later' : ℕ → ℕ) → ((y : ℕ) → member y cands' ≡ member y cands) → ((y : ℕ) → earlier' y ≡ earlier y)
    → ((y : ℕ) → later' y ≡ later y)
    → BetweenTurns s root cands' queue frontier earlier' later' shifts
turn_same s root cands queue frontier earlier later shifts b cands' earlier' later' same e l = record {
  searching = Searching-list s root cands queue frontier earlier later (place_after s.rank shifts) b.searching cands' earlier' later' same e l;
  strong = record { strong = λ x m. omega (arith, e x, l x, b.strong.strong x (sym (same x) ∙ m)) };
  shifts_fit = Shifts-list s cands cands' frontier shifts same b.shifts_fit;
}

-- the same counts, and the same candidates in another list, while a vertex is settled
pub settling_same : (s : Search) (root : ℕ) (cands queue : List ℕ) (frontier : ℕ) (earlier later : ℕ → ℕ) (shifts : List (ℕ × ℕ)) (evict : List ℕ) (last : ℕ)
    → InSettling s root cands queue frontier earlier later shifts evict last
    → (cands' : List ℕ) (earlier' later' : ℕ → ℕ) → ((y : ℕ) → member y cands' ≡ member y cands) → ((y : ℕ) → earlier' y ≡ earlier y)
    → ((y : ℕ) → later' y ≡ later y)
    → InSettling s root cands' queue frontier earlier' later' shifts evict last
settling_same s root cands queue frontier earlier later shifts evict last b cands' earlier' later' same e l =
    let t = b.settling in
    record {
      searching = Searching-list s root cands queue frontier earlier later (place_after s.rank shifts) b.searching cands' earlier' later' same e l;
      settling = record {
        distinct = t.distinct;
        listed = λ x m. same x ∙ t.listed x m;
        weak = λ x m. omega (arith, e x, l x, t.weak x m);
        strong = λ x m none. omega (arith, e x, l x, t.strong x (sym (same x) ∙ m) none);
        last_level = t.last_level;
        last_passed = t.last_passed;
        last_done = same last ∙ t.last_done;
        last_of_all = λ z o lt none. t.last_of_all z o lt (sym (same z) ∙ none);
      };
      shifts_fit = Shifts-list s cands cands' frontier shifts same b.shifts_fit;
    }
