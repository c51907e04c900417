-- Each step of the search for the vertices that fall keeps what is known.
use Rattle.std.proofs.Common.{◌≡◌, ◌≢◌, ◌≤◌, ◌<◌, ◌+◌, ℕ, suc, zero, Bool, true, false, cond, not, ◌&&◌, ◌||◌, List, [], ◌∷◌, ◌++◌, take}
use Rattle.std.proofs.Common.{length, get_or, eqb, leb, refl, sym, ◌∙◌, ap, subst, inl, inr, arith, true≢false, eq-eqb, ne_eqb, length-append}
use Rattle.std.proofs.lemmas.Bool.{cases_Bool, cases_eq, cases_lt, eqb-false, false≢true, or_right, and_parts}
use Rattle.std.proofs.lemmas.List.{take-append-le, get_or_append_left}
use Rattle.std.proofs.Math.Seq.{get_or-append_seam, take-length}
use Rattle.kc_lists.specs.Lists.{member, Distinct}
use Rattle.kc_lists.proofs.Counting.{member-push, member-push_cases, member-push_none, take-not_here, Distinct-push, one_if}
use Rattle.kc_view.specs.Search.{Search, among, OnLevel}
use Rattle.kc_view.proofs.Among.{among-one, among-mono, among-agree}
use Rattle.kc_view.proofs.Fronts.{take-member}
use Rattle.kc_remove.specs.Cascade.{Thinned, support, found, taken, Cascade, nobody}

-- where all neighbours were looked at, the support is no more than what was found while fewer were gone
support-found : (s : Search) (looked : ℕ → Bool) (gone more : List ℕ) (z : ℕ) → ((y : ℕ) → y < s.size → s.adj z y ≡ true → looked y ≡ true)
    → ((y : ℕ) → member y gone ≡ true → member y more ≡ true) → support s more z ≤ found s looked gone z
support-found s looked gone more z all sub = among-mono s z (λ y. leb s.level (s.core y) && not (member y more))
    (λ y. looked y && (leb s.level (s.core y) && not (member y gone))) (λ y l a t.
    let k : member y gone ≡ true → member y more ≡ true = sub y in
    let h : looked y ≡ true = all y l a in
    grind (arith, k, h, t))

-- no more is found than the support
found-support : (s : Search) (looked : ℕ → Bool) (gone : List ℕ) (z : ℕ) → found s looked gone z ≤ support s gone z
found-support s looked gone z = among-mono s z (λ y. looked y && (leb s.level (s.core y) && not (member y gone)))
    (λ y. leb s.level (s.core y) && not (member y gone)) (λ y l a t. (and_parts (looked y) _ t).1)

-- the front of a list that is longer by one ends with the next member
pub take-more : (i : ℕ) (xs : List ℕ) → i < length xs → take (i + 1) xs ≡ take i xs ++ get_or xs i 0 ∷ []
take-more i [] l = absurd (omega arith)
take-more zero (x ∷ xs) l = refl
take-more (suc i) (x ∷ xs) l = let e : suc i + 1 ≡ suc (i + 1) = omega arith in rw e (ap (λ ys. x ∷ ys) (take-more i xs (omega arith)))

-- a test for members stays the same where the list grows by another number
same_test : (k a m m' e : Bool) → m' ≡ (m || e) → e ≡ false → (k && (a && not m)) ≡ (k && (a && not m'))
same_test k a m m' e h n = grind arith

-- where the first part of a test fails the rest is of no account
both_out : (k a b : Bool) → k ≡ false → (k && a) ≡ (k && b)
both_out k a b h = grind arith

-- for a vertex to which the present turn has come one more is gone than turns are done
pub taken-yes : (part : ℕ → Bool) (turn z : ℕ) → part z ≡ true → taken part turn z ≡ turn + 1
taken-yes part turn z p = ap (λ b. cond b (turn + 1) turn) p

-- and for another just as many
pub taken-no : (part : ℕ → Bool) (turn z : ℕ) → part z ≡ false → taken part turn z ≡ turn
taken-no part turn z p = ap (λ b. cond b (turn + 1) turn) p

-- whether a vertex supports another stays the same while the turn is that of a third
other-test : (s : Search) (looked : ℕ → Bool) (fall : List ℕ) (turn z : ℕ) → turn < length fall → z ≢ get_or fall turn 0
    → (looked z && (leb s.level (s.core z) && not (member z (take turn fall))))
    ≡ (looked z && (leb s.level (s.core z) && not (member z (take (turn + 1) fall))))
other-test s looked fall turn z l ne =
    let x : ℕ = get_or fall turn 0 in
    let k : member z (take (turn + 1) fall) ≡ (member z (take turn fall) || eqb z x) =
    ap (member z) (take-more turn fall l) ∙ member-push z x (take turn fall) in
    let n : eqb z x ≡ false = ne_eqb z x ne in
    same_test (looked z) (leb s.level (s.core z)) (member z (take turn fall)) (member z (take (turn + 1) fall)) (eqb z x) k n

-- where one more is gone at which `y` had looked, one less is found if it is a neighbour
pub found-one : (s : Search) (looked : ℕ → Bool) (fall : List ℕ) (turn y : ℕ) → turn < length fall → Distinct fall → OnLevel s (get_or fall turn 0)
    → looked (get_or fall turn 0) ≡ true
    → found s looked (take turn fall) y ≡ found s looked (take (turn + 1) fall) y + one_if (s.adj y (get_or fall turn 0))
found-one s looked fall turn y l d ox here =
    let x : ℕ = get_or fall turn 0 in
    let seam : take (turn + 1) fall ≡ take turn fall ++ x ∷ [] = take-more turn fall l in
    let not_yet : member x (take turn fall) ≡ false = take-not_here turn fall l d in
    let now : member x (take (turn + 1) fall) ≡ true =
    ap (member x) seam ∙ (member-push x x (take turn fall) ∙ or_right (member x (take turn fall)) (eqb x x) (eq-eqb x x refl)) in
    among-one s y x (λ z. looked z && (leb s.level (s.core z) && not (member z (take turn fall))))
    (λ z. looked z && (leb s.level (s.core z) && not (member z (take (turn + 1) fall)))) ox.here
    (let k : member x (take (turn + 1) fall) ≡ true = now in grind (arith, k))
    (let k : member x (take turn fall) ≡ false = not_yet in
    let k' : s.level ≤ s.core x = omega (arith, ox.level) in
    let k'' : looked x ≡ true = here in
    grind (arith, k, k', k''))
    (λ z lz a ne. other-test s looked fall turn z l ne)

-- where one more is gone which is no neighbour at which `y` had looked, as much is found
pub found-same : (s : Search) (looked : ℕ → Bool) (fall : List ℕ) (turn y : ℕ) → turn < length fall
    → (s.adj y (get_or fall turn 0) ≡ true → looked (get_or fall turn 0) ≡ false)
    → found s looked (take turn fall) y ≡ found s looked (take (turn + 1) fall) y
found-same s looked fall turn y l none =
    let x : ℕ = get_or fall turn 0 in
    among-agree s y (λ z. looked z && (leb s.level (s.core z) && not (member z (take turn fall))))
    (λ z. looked z && (leb s.level (s.core z) && not (member z (take (turn + 1) fall)))) (λ z lz a. elim (cases_eq z x) [
      | inl e ↦ both_out (looked z) (leb s.level (s.core z) && not (member z (take turn fall)))
          (leb s.level (s.core z) && not (member z (take (turn + 1) fall)))
          (ap looked e ∙ none (ap (s.adj y) (sym e) ∙ a))
      | inr ne ↦ other-test s looked fall turn z l ne
    ])

-- what is known is kept where one vertex was counted anew, to which the present turn may have come; it may be too weak now
pub known-renewed : (s : Search) (fall : List ℕ) (turn : ℕ) (part part' visited : ℕ → Bool) (sup : ℕ → ℕ) (looked : ℕ → ℕ → Bool)
    → Cascade s fall turn part visited sup looked nobody
    → (y : ℕ) → OnLevel s y → (visited' : ℕ → Bool) (sup' : ℕ → ℕ) (looked' : ℕ → ℕ → Bool) → visited' y ≡ true
    → sup' y ≡ found s (looked' y) (take (taken part' turn y) fall) y
    → (part' y ≡ true → (turn < length fall) × (s.adj (get_or fall turn 0) y ≡ true))
    → ((z : ℕ) → z ≢ y → (visited' z ≡ visited z) × (sup' z ≡ sup z) × (looked' z ≡ looked z) × (part' z ≡ part z))
    → Cascade s fall turn part' visited' sup' looked' (λ z. eqb z y)
known-renewed s fall turn part part' visited sup looked c y oy visited' sup' looked' v n came others =
    let grows : (z : ℕ) → visited z ≡ true → visited' z ≡ true = λ z m. elim (cases_eq z y) [
      | inl e ↦ ap visited' e ∙ v
      | inr ne ↦ (others z ne).0 ∙ m
    ] in
    record {
      fall_level = c.fall_level;
      fall_visited = λ x m. grows x (c.fall_visited x m);
      distinct = c.distinct;
      weak = c.weak;
      exact = λ z m out. elim (cases_eq z y) [
        | inl e ↦ subst (λ (k : ℕ). sup' k ≡ found s (looked' k) (take (taken part' turn k) fall) k) (sym e) n
        | inr ne ↦
            let o = others z ne in
            let e : sup z ≡ found s (looked z) (take (taken part turn z) fall) z = c.exact z (sym o.0 ∙ m) out in
            let b : taken part' turn z ≡ taken part turn z = ap (λ t. cond t (turn + 1) turn) o.3 in
            o.1 ∙ (e ∙ (ap (λ k. found s (looked z) (take k fall) z) (sym b) ∙ ap (λ (k : ℕ → Bool). found s k (take (taken part' turn z) fall) z) (sym o.2)))
      ];
      strong = λ z m out apart. let ne : z ≢ y = eqb-false z y apart in let o = others z ne in let k : s.level
          ≤ sup z = c.strong z (sym o.0 ∙ m) out refl in omega (arith, k, o.1);
      visited_level = λ z m. elim (cases_eq z y) [ inl e ↦ subst (λ (k : ℕ). OnLevel s k) (sym e) oy | inr ne ↦ c.visited_level z (sym (others z ne).0 ∙ m) ];
      turn_in = c.turn_in;
      part_in = λ z p. elim (cases_eq z y) [
        | inl e ↦ let k = came (sym (ap part' e) ∙ p) in (k.0, ap (s.adj (get_or fall turn 0)) e ∙ k.1)
        | inr ne ↦ c.part_in z (sym (others z ne).3 ∙ p)
      ];
      part_visited = λ z p oz. elim (cases_eq z y) [ inl e ↦ ap visited' e ∙ v | inr ne ↦ grows z (c.part_visited z (sym (others z ne).3 ∙ p) oz) ];
      done = λ x z m oz a. grows z (c.done x z m oz a);
    }

-- what is known is kept where the present turn comes to vertices that lose nothing by it
pub known-passed : (s : Search) (fall : List ℕ) (turn : ℕ) (part part' visited : ℕ → Bool) (sup : ℕ → ℕ) (looked : ℕ → ℕ → Bool)
    → Cascade s fall turn part visited sup looked nobody
    → ((z : ℕ) → visited z ≡ true → member z fall ≡ false
    → found s (looked z) (take (taken part turn z) fall) z ≡ found s (looked z) (take (taken part' turn z) fall) z)
    → ((z : ℕ) → part' z ≡ true → (turn < length fall) × (s.adj (get_or fall turn 0) z ≡ true))
    → ((z : ℕ) → part' z ≡ true → OnLevel s z → visited z ≡ true)
    → Cascade s fall turn part' visited sup looked nobody
known-passed s fall turn part part' visited sup looked c same came seen_all = record {
  fall_level = c.fall_level;
  fall_visited = c.fall_visited;
  distinct = c.distinct;
  weak = c.weak;
  exact = λ z m out. c.exact z m out ∙ same z m out;
  strong = c.strong;
  visited_level = c.visited_level;
  turn_in = c.turn_in;
  part_in = came;
  part_visited = seen_all;
  done = c.done;
}

-- a vertex with enough support stays
pub supported-stays : (s : Search) (fall : List ℕ) (turn : ℕ) (part visited : ℕ → Bool) (sup : ℕ → ℕ) (looked : ℕ → ℕ → Bool) (y : ℕ)
    → Cascade s fall turn part visited sup looked (λ z. eqb z y) → s.level ≤ sup y
    → Cascade s fall turn part visited sup looked nobody
supported-stays s fall turn part visited sup looked y c le = record {
  fall_level = c.fall_level;
  fall_visited = c.fall_visited;
  distinct = c.distinct;
  weak = c.weak;
  exact = c.exact;
  strong = λ z m out _. elim (cases_eq z y) [ inl e ↦ let k : sup z ≡ sup y = ap sup e in omega (arith, k) | inr ne ↦ c.strong z m out (ne_eqb z y ne) ];
  visited_level = c.visited_level;
  turn_in = c.turn_in;
  part_in = c.part_in;
  part_visited = c.part_visited;
  done = c.done;
}

-- a vertex that has looked at all its neighbours and is too weak falls
pub fall_one : (s : Search) (fall : List ℕ) (turn : ℕ) (part visited : ℕ → Bool) (sup : ℕ → ℕ) (looked : ℕ → ℕ → Bool) (y : ℕ)
    → Cascade s fall turn part visited sup looked (λ z. eqb z y) → visited y ≡ true → member y fall ≡ false → sup y < s.level
    → ((z : ℕ) → z < s.size → s.adj y z ≡ true → looked y z ≡ true)
    → Cascade s (fall ++ y ∷ []) turn part visited sup looked nobody
fall_one s fall turn part visited sup looked y c v out lt all =
    let next : List ℕ = fall ++ y ∷ [] in
    let oy : OnLevel s y = c.visited_level y v in
    let long : length next ≡ length fall + 1 = length-append fall (y ∷ []) in
    let fits : (z : ℕ) → taken part turn z ≤ length fall = λ z. elim (cases_Bool (part z)) [
      | inl p ↦ let q : turn < length fall = (c.part_in z p).0 in omega (arith, taken-yes part turn z p, q)
      | inr p ↦ omega (arith, taken-no part turn z p, c.turn_in)
    ] in
    let same : (b : ℕ) → b ≤ length fall → take b next ≡ take b fall = λ b le. take-append-le b fall (y ∷ []) le in
    record {
      fall_level = λ x m. elim (member-push_cases x y fall m) [ inl k ↦ c.fall_level x k | inr e ↦ subst (λ (k : ℕ). OnLevel s k) (sym e) oy ];
      fall_visited = λ x m. elim (member-push_cases x y fall m) [ inl k ↦ c.fall_visited x k | inr e ↦ ap visited e ∙ v ];
      distinct = Distinct-push fall y c.distinct out;
      weak = λ j l. elim (cases_lt j (length fall)) [
        | inl lt' ↦
            let u : get_or next j 0 ≡ get_or fall j 0 = get_or_append_left fall (y ∷ []) 0 j lt' in
            rw (u, same j (omega arith)) (c.weak j lt')
        | inr ge ↦
            let e : j ≡ length fall = omega (arith, long) in
            let u : get_or next j 0 ≡ y = ap (λ k. get_or next k 0) e ∙ get_or-append_seam fall y [] 0 in
            let w : take j next ≡ fall = same j (omega (arith, e)) ∙ (ap (λ k. take k fall) e ∙ take-length fall) in
            let less : support s fall y ≤ found s (looked y) (take (taken part turn y) fall) y =
            support-found s (looked y) (take (taken part turn y) fall) fall y all (λ z m. take-member (taken part turn y) fall z m) in
            let low : support s fall y < s.level = omega (arith, less, c.exact y v out) in
            rw (u, w) low
      ];
      exact = λ z m out'.
          let k = member-push_none z y fall out' in
          rw (same (taken part turn z) (fits z)) (c.exact z m k.0);
      strong = λ z m out' _. let k = member-push_none z y fall out' in c.strong z m k.0 k.1;
      visited_level = c.visited_level;
      turn_in = omega (arith, c.turn_in, long);
      part_in = λ z m. let k = c.part_in z m in (omega (arith, k.0, long), rw (get_or_append_left fall (y ∷ []) 0 turn k.0) k.1);
      part_visited = c.part_visited;
      done = λ x z m oz a. c.done x z (sym (ap (member x) (same turn c.turn_in)) ∙ m) oz a;
    }

-- a turn that has come to all neighbours is done
pub turn_over : (s : Search) (fall : List ℕ) (turn : ℕ) (part visited : ℕ → Bool) (sup : ℕ → ℕ) (looked : ℕ → ℕ → Bool)
    → ((x y : ℕ) → s.adj x y ≡ s.adj y x)
    → Cascade s fall turn part visited sup looked nobody → turn < length fall
    → ((y : ℕ) → OnLevel s y → s.adj (get_or fall turn 0) y ≡ true → member y fall ≡ false → part y ≡ true)
    → Cascade s fall (turn + 1) nobody visited sup looked nobody
turn_over s fall turn part visited sup looked sides c l all =
    let x : ℕ = get_or fall turn 0 in
    let seam : take (turn + 1) fall ≡ take turn fall ++ x ∷ [] = take-more turn fall l in
    record {
      fall_level = c.fall_level;
      fall_visited = c.fall_visited;
      distinct = c.distinct;
      weak = c.weak;
      exact = λ y m out.
          let was : sup y ≡ found s (looked y) (take (taken part turn y) fall) y = c.exact y m out in
          elim (cases_Bool (part y)) [
            | inl p ↦ was ∙ ap (λ b. found s (looked y) (take b fall) y) (taken-yes part turn y p)
            | inr p ↦
                let apart : s.adj y x ≡ true → looked y x ≡ false =
                λ a. absurd (true≢false (sym (all y (c.visited_level y m) (sides x y ∙ a) out) ∙ p)) in
                was ∙ (ap (λ b. found s (looked y) (take b fall) y) (taken-no part turn y p) ∙ found-same s (looked y) fall turn y l apart)
          ];
      strong = c.strong;
      visited_level = c.visited_level;
      turn_in = omega arith;
      part_in = λ y m. absurd (false≢true m);
      part_visited = λ y m oy. absurd (false≢true m);
      done = λ z y m oy a. elim (member-push_cases z x (take turn fall) (sym (ap (member z) seam) ∙ m)) [
        | inl k ↦ c.done z y k oy a
        | inr e ↦
            elim (cases_Bool (member y fall))
            [ inl gone ↦ c.fall_visited y gone | inr out ↦ c.part_visited y (all y oy (ap (λ n. s.adj n y) (sym e) ∙ a) out) oy ]
      ];
    }

-- before anyone was visited nobody has fallen
pub unvisited-nobody_fell : (s : Search) (visited : ℕ → Bool) (sup : ℕ → ℕ) (looked : ℕ → ℕ → Bool) → ((y : ℕ) → visited y ≡ false)
    → Cascade s [] 0 nobody visited sup looked nobody
unvisited-nobody_fell s visited sup looked none = record {
  fall_level = λ x m. absurd (false≢true m);
  fall_visited = λ x m. absurd (false≢true m);
  distinct = tt;
  weak = λ j l. absurd (omega arith);
  exact = λ y m. absurd (true≢false (sym m ∙ none y));
  strong = λ y m. absurd (true≢false (sym m ∙ none y));
  visited_level = λ y m. absurd (true≢false (sym m ∙ none y));
  turn_in = omega arith;
  part_in = λ y m. absurd (false≢true m);
  part_visited = λ y m oy. absurd (false≢true m);
  done = λ x y m. absurd (false≢true m);
}

-- At the end: a vertex of the level that has not fallen has enough neighbours left.
pub kept_support : (s : Search) (is_end : ℕ → Bool) (fall : List ℕ) (visited : ℕ → Bool) (sup : ℕ → ℕ) (looked : ℕ → ℕ → Bool) → Thinned s is_end
    → Cascade s fall (length fall) nobody visited sup looked nobody
    → ((z : ℕ) → OnLevel s z → is_end z ≡ true → visited z ≡ true) → (y : ℕ) → OnLevel s y → member y fall ≡ false → s.level ≤ support s fall y
kept_support s is_end fall visited sup looked t c ends y oy out = elim (cases_Bool (visited y)) [
  | inl v ↦
      let k : found s (looked y) (take (length fall) fall) y ≡ found s (looked y) fall y = ap (λ f. found s (looked y) f y) (take-length fall) in
      let is : sup y ≡ found s (looked y) (take (length fall) fall) y = c.exact y v out in
      omega (arith, k, is, c.strong y v out refl, found-support s (looked y) fall y)
  | inr n ↦
      let not_end : is_end y ≡ false = elim (cases_Bool (is_end y)) [ inl e ↦ absurd (true≢false (sym (ends y oy e) ∙ n)) | inr f ↦ f ] in
      let high : among s y (λ z. leb (s.core y) (s.core z)) ≤ support s fall y =
      among-mono s y (λ z. leb (s.core y) (s.core z)) (λ z. leb s.level (s.core z) && not (member z fall)) (λ z l a h.
      let gone : member z fall ≡ false = elim (cases_Bool (member z fall)) [
        | inl m ↦ absurd (true≢false (sym (c.done z y (ap (member z) (take-length fall) ∙ m) oy (t.symmetric z y ∙ a)) ∙ n))
        | inr f ↦ f
      ] in
      let lvl : s.core y ≡ s.level = oy.level in
      grind (arith, gone, lvl, h)) in
      omega (arith, high, t.enough y oy.here (inr not_end), oy.level)
]
