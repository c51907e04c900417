-- Each step of the search keeps what is known.
use Rattle.std.proofs.Common.{◌≡◌, ◌≢◌, ◌≤◌, ◌<◌, ◌+◌, ◌-◌, ℕ, Bool, true, false, ◌&&◌, ◌||◌, List, [], ◌∷◌, eqb, ltb, leb, refl, sym, ◌∙◌, ap, subst}
use Rattle.std.proofs.Common.{inl, inr, arith, true≢false, eq-eqb, ne_eqb, lt_irrefl, lt-ltb, le-leb, le_of_eq, le_of_lt}
use Rattle.std.proofs.lemmas.Bool.{cases_Bool, cases_eq, cases_lt, cases_order, false≢true, and_parts, and_from, or_cases, or_left, or_right, or_from}
use Rattle.kc_lists.specs.Lists.{member, below}
use Rattle.kc_lists.proofs.Members.{member-head, member-tail, member-cases}
use Rattle.kc_lists.proofs.Counting.{member-other, one_if}
use Rattle.kc_lists.proofs.Shared.{ltb-double}
use Rattle.kc_cert.specs.Ranks.{moved}
use Rattle.kc_cert.proofs.Sums.{count-none}
use Rattle.kc_cert.proofs.Placing.{moved-itself, moved-other}
use Rattle.kc_view.specs.Search.{Search, among, on_level, above, after, OnLevel}
use Rattle.kc_view.proofs.Among.{among-agree, among-one, among-some, among-sum}
use Rattle.kc_insert.specs.Searching.{ahead, coming, holding, behind, Widened, Searching, AllStrong, WeakListed, AddsCandidate, Drops, Raised, Settled}
use Rattle.kc_insert.specs.Searching.{Evicted, Relisted}

-- a neighbour is ahead of a vertex of the level exactly where it stands later
ahead-later-at : (s : Search) (root : ℕ) → Widened s root → (z : ℕ) → OnLevel s z → (y : ℕ) → y < s.size
    → (s.core z < s.core y → s.rank z < s.rank y) → (s.core y < s.core z → s.rank y < s.rank z)
    → (above s y || (on_level s y && after s z y)) ≡ after s z y
ahead-later-at s root c z o y l up down = grind (arith, o.level)

-- a later neighbour or one of a greater core number
pub ahead-later : (s : Search) (root : ℕ) → Widened s root → (z : ℕ) → OnLevel s z → ahead s z ≡ among s z (after s z)
ahead-later s root c z o = among-agree s z (λ y. above s y || (on_level s y && after s z y)) (after s z)
    (λ y l a. ahead-later-at s root c z o y l (c.rising z y o.here l) (c.rising y z l o.here))

-- what is in a list of one item is that item
single_item-only : (x y : ℕ) → member x (y ∷ []) ≡ true → x ≡ y
single_item-only x y m = elim (member-cases x y [] m) [ inl e ↦ e | inr n ↦ absurd (false≢true n) ]

-- a truth and `false` is false
and-no : (a : Bool) → (a && false) ≡ false
and-no a = grind arith

-- with no candidates none comes before a vertex
no_candidates : (s : Search) (x : ℕ) → coming s [] x ≡ 0
no_candidates s x = count-none (λ y. s.adj x y && (member y [] && after s y x)) (below s.size) (λ y _. and-no (s.adj x y))

-- before the first turn, the search stands with the root alone in the queue
pub search-starts : (s : Search) (root : ℕ) → Widened s root → (earlier later : ℕ → ℕ) → ((x : ℕ) → earlier x ≡ 0)
    → Searching s root [] (root ∷ []) (s.rank root) earlier later s.rank
search-starts s root c earlier later none = record {
  cand_level = λ x m. absurd (false≢true m);
  cand_passed = λ x m. absurd (false≢true m);
  queue_level = λ x m. let e : x ≡ root = single_item-only x root m in record { here = grind (arith, e, c.root_here); level = ap s.core e ∙ c.root_level };
  queue_open = λ x m. let e : x ≡ root = single_item-only x root m in grind (arith, e);
  queue_ascends = (λ y m. absurd (false≢true m), tt);
  root_queued = λ _. member-head root [];
  queued = λ x y m. absurd (false≢true m);
  earlier_of_cand = λ x m. absurd (false≢true m);
  earlier_of_open = λ x o open'. none x ∙ sym (no_candidates s x);
  later_of_cand = λ x m. absurd (false≢true m);
  done = λ z o passed m.
      let ne : z ≢ root = λ e. grind (arith, e, passed) in
      let e : behind s [] s.rank z ≡ ahead s z = refl in
      omega (arith, e, ahead-later s root c z o, c.few z o.here ne, o.level);
  open_kept = λ y z oy oz py pz l. l;
  passed_first = λ y z oy oz py m pz. omega arith;
  lower_first = λ y z ly oz l. c.rising y z ly oz.here (omega (arith, oz.level));
  higher_last = λ y z ly oz l. c.rising z y oz.here ly (omega (arith, oz.level));
  others_kept = λ y z ly lz ny nz l. l;
}

-- the test whether `y` is a candidate before `z`
abbrev pub coming_at : Search → List ℕ → ℕ → ℕ → Bool
coming_at s cands z y = member y cands && after s y z

-- the test whether `y` is higher than the level, or later and a candidate or not passed
abbrev pub holding_at : Search → List ℕ → ℕ → ℕ → ℕ → Bool
holding_at s cands frontier z y = above s y || (on_level s y && (after s z y && (member y cands || leb frontier (s.rank y))))

-- the test whether `y` stands behind `z` if all candidates rise
abbrev pub behind_at : Search → List ℕ → (ℕ → ℕ) → ℕ → ℕ → Bool
behind_at s cands place z y = above s y || (on_level s y && (member y cands || ltb (place z) (place y)))

-- the candidates of two lists, where these differ at most at one vertex that does not count
coming-same : (s : Search) (cands cands' : List ℕ) (w z : ℕ) → ((y : ℕ) → y ≢ w → member y cands' ≡ member y cands) → s.rank z ≤ s.rank w
    → coming s cands' z ≡ coming s cands z
coming-same s cands cands' w z same le = among-agree s z (coming_at s cands' z) (coming_at s cands z)
    (λ y l a.
    elim (cases_eq y w)
    [ inl e ↦ let up : s.rank z ≤ s.rank y = grind (arith, e) in grind (arith, up) | inr ne ↦ ap (λ b. b && after s y z) (same y ne) ])

-- one candidate more before `z`
coming-one : (s : Search) (fewer more : List ℕ) (w z : ℕ) → w < s.size → ((y : ℕ) → y ≢ w → member y more ≡ member y fewer)
    → member w more ≡ true → member w fewer ≡ false → s.rank w < s.rank z
    → coming s more z ≡ coming s fewer z + one_if (s.adj z w)
coming-one s fewer more w z lw same there not_there lt =
    among-one s z w (coming_at s more z) (coming_at s fewer z) lw (grind (arith, not_there)) (grind (arith, there))
    (λ y l a ne. ap (λ b. b && after s y z) (same y ne))

-- two vertices of the level, one open and one no candidate, keep the order of their ranks
pub skipped_at : (s : Search) (root : ℕ) (cands queue : List ℕ) (frontier : ℕ) (earlier later place : ℕ → ℕ) → Widened s root
    → Searching s root cands queue frontier earlier later place
    → (z y : ℕ) → OnLevel s z → OnLevel s y → frontier ≤ s.rank z → member y cands ≡ false → ltb (place z) (place y) ≡ ltb (s.rank z) (s.rank y)
skipped_at s root cands queue frontier earlier later place c h z y oz oy open' none =
    elim (cases_lt (s.rank y) frontier) [
      | inl passed ↦ let k : place y < place z = h.passed_first y z oy oz passed none open' in grind (arith, k)
      | inr open'' ↦ elim (cases_order (s.rank z) (s.rank y)) [
        | inl same ↦ let e : z ≡ y = c.apart z y oz.here oy.here same in let e' : place z ≡ place y = ap place e in grind (arith, e')
        | inr (inl lt) ↦ let k : place z < place y = h.open_kept z y oz oy open' open'' lt in grind (arith, k)
        | inr (inr lt) ↦ let k : place y < place z = h.open_kept y z oy oz open'' open' lt in grind (arith, k)
      ]
    ]

-- the test of `holding` is the same with the frontier raised past a vertex that is a candidate
holding-raised_at : (a l lt m' m : Bool) (rw' f ry : ℕ) → m' ≡ m → (f ≤ ry → rw' < ry) → f ≤ rw'
    → (a || (l && (lt && (m' || leb (rw' + 1) ry)))) ≡ (a || (l && (lt && (m || leb f ry))))
holding-raised_at a l lt m' m rw' f ry same up open' = grind arith

-- a vertex that is left behind has the same neighbours behind it
behind-raised : (s : Search) (cands cands' : List ℕ) (w : ℕ) (place : ℕ → ℕ) → OnLevel s w → AddsCandidate cands w cands' → (z : ℕ)
    → place z < place w → behind s cands' place z ≡ behind s cands place z
behind-raised s cands cands' w place ow add z lt =
    among-agree s z (behind_at s cands' place z) (behind_at s cands place z) (λ y l a.
    elim (cases_eq y w) [
      | inl e ↦ let lt' : place z < place y = subst (λ (k : ℕ). place z < place k) (sym e) lt in grind (arith, lt')
      | inr ne ↦ let same : member y cands' ≡ member y cands = add.others y ne in grind (arith, same)
    ])

-- whoever stands at a rank does not count as after it
not_after : (a : Bool) (n : ℕ) → one_if (a && ltb n n) ≡ 0
not_after a n = grind arith

-- The first of the queue, `w`. --------------------------------------------------------------------

module _ (s : Search) (root : ℕ) (cands queue : List ℕ) (w frontier : ℕ) (earlier later place : ℕ → ℕ)
    (c : Widened s root) (h : Searching s root cands (w ∷ queue) frontier earlier later place) where
  -- the first of the queue is a vertex of the level
  head_level : OnLevel s w
  head_level = h.queue_level w (member-head w queue)

  -- the first of the queue was not passed
  head_open : frontier ≤ s.rank w
  head_open = h.queue_open w (member-head w queue)

  -- the first of the queue is no candidate
  head_new : member w cands ≡ false
  head_new = elim (cases_Bool (member w cands)) [ inl m ↦ absurd (omega (arith, h.cand_passed w m, head_open)) | inr n ↦ n ]

  -- each candidate stands before the first of the queue
  cand_before : (x : ℕ) → member x cands ≡ true → s.rank x < s.rank w
  cand_before x m = omega (arith, h.cand_passed x m, head_open)

  -- what stands behind the first of the queue was not passed
  behind_open : (x : ℕ) → s.rank w + 1 ≤ s.rank x → frontier ≤ s.rank x
  behind_open x le = omega (arith, head_open)

  -- what stands behind the first of the queue is another vertex
  behind-apart : (x : ℕ) → s.rank w + 1 ≤ s.rank x → x ≢ w
  behind-apart x le e = let k : s.rank x ≡ s.rank w = ap s.rank e in absurd (omega arith)

  -- the first of the queue does not count for what stands at it or before it
  none_before : (x : ℕ) → s.rank x ≤ s.rank w → one_if (s.adj w x && after s w x) ≡ 0
  none_before x le = grind (arith, le)

  -- a later neighbour of a candidate that has not been passed is not before the first of the queue
  later_neighbour-gap : (x y : ℕ) → member x cands ≡ true → OnLevel s y → s.adj x y ≡ true → frontier ≤ s.rank y → y ≢ w → s.rank w < s.rank y
  later_neighbour-gap x y m o a open' ne =
      h.queue_ascends.0 y (member-other y w queue ne (h.queued x y m o a open'))

  -- in the order of ranks, a vertex that is left behind without being queued has no candidate for a neighbour
  vertex-skipped : (z : ℕ) → OnLevel s z → frontier ≤ s.rank z → s.rank z < s.rank w → behind s cands place z ≡ ahead s z
  vertex-skipped z o open' lt =
      among-agree s z (behind_at s cands place z) (λ y. above s y || (on_level s y && after s z y)) (λ y l a.
      elim (cases_eq (s.core y) s.level) [
        | inl lvl ↦
            let oy : OnLevel s y = record { here = l; level = lvl } in
            let none : member y cands ≡ false = elim (cases_Bool (member y cands)) [
              | inl m ↦
                  let ne : z ≢ w = λ e. lt_irrefl (s.rank w) (subst (λ (k : ℕ). s.rank k < s.rank w) e lt) in
                  absurd (omega (arith, later_neighbour-gap y z m o (c.symmetric y z ∙ a) open' ne))
              | inr n ↦ n
            ] in
            let same : ltb (place z) (place y) ≡ ltb (s.rank z) (s.rank y) =
            skipped_at s root cands (w ∷ queue) frontier earlier later place c h z y o oy open' none in
            grind (arith, none, same)
        | inr ne ↦ grind (arith, ne)
      ])

  -- how the counts of candidates change when the first of the queue becomes one
  holding-raised : (cands' : List ℕ) → AddsCandidate cands w cands' → (x : ℕ) → member x cands ≡ true
      → holding s cands' (s.rank w + 1) x ≡ holding s cands frontier x
  holding-raised cands' add x m =
      among-agree s x (holding_at s cands' (s.rank w + 1) x) (holding_at s cands frontier x) (λ y l a.
      elim (cases_eq y w) [
        | inl e ↦
            let there : member y cands' ≡ true = ap (λ k. member k cands') e ∙ add.itself in
            let open' : frontier ≤ s.rank y = subst (λ (k : ℕ). frontier ≤ s.rank k) (sym e) head_open in
            grind (arith, there, open')
        | inr ne ↦
            let same : member y cands' ≡ member y cands = add.others y ne in
            elim (cases_eq (s.core y) s.level) [
              | inl lvl ↦
                  let up : frontier ≤ s.rank y → s.rank w < s.rank y =
                  λ o. later_neighbour-gap x y m (record { here = l; level = lvl }) a o ne in
                  holding-raised_at (above s y) (on_level s y) (after s x y) (member y cands') (member y cands) (s.rank w) frontier (s.rank y) same up head_open
              | inr off ↦ grind (arith, off)
            ]
      ])

  -- one that is left behind has few neighbours behind it
  skipped_done : (z : ℕ) → OnLevel s z → z ≢ w → s.rank z < s.rank w + 1 → member z cands ≡ false → behind s cands place z ≤ s.level
  skipped_done z o ne le none =
      elim (cases_lt (s.rank z) frontier) [
        | inl passed ↦ h.done z o passed none
        | inr open' ↦
            let apart : s.rank z ≢ s.rank w = λ e. ne (c.apart z w o.here head_level.here e) in
            let lt : s.rank z < s.rank w = omega (arith, apart, le) in
            let not_root : z ≢ root =
            λ e.
            let q : member z (w ∷ queue) ≡ true =
            ap (λ k. member k (w ∷ queue)) e ∙ h.root_queued (subst (λ (k : ℕ). frontier ≤ s.rank k) e open') in
            absurd (omega (arith, lt, h.queue_ascends.0 z (member-other z w queue ne q))) in
            omega (
              arith,
              vertex-skipped z o open' lt,
              ahead-later s root c z o,
              c.few z o.here not_root,
              o.level,
            )
      ]

  -- one that is left behind stands before the first of the queue
  skipped_before : (z : ℕ) → OnLevel s z → z ≢ w → s.rank z < s.rank w + 1 → member z cands ≡ false → place z < place w
  skipped_before z o ne le none =
      elim (cases_lt (s.rank z) frontier) [
        | inl passed ↦ h.passed_first z w o head_level passed none head_open
        | inr open' ↦
            let apart : s.rank z ≢ s.rank w = λ e. ne (c.apart z w o.here head_level.here e) in
            h.open_kept z w o head_level open' head_open (omega (arith, apart, le))
      ]

  -- one that is left behind, or the first of the queue, stands before those after it
  skipped_first : (y z : ℕ) → OnLevel s y → OnLevel s z → s.rank y < s.rank w + 1 → member y cands ≡ false → s.rank w + 1 ≤ s.rank z → place y < place z
  skipped_first y z oy oz le none pz =
      elim (cases_lt (s.rank y) frontier) [
        | inl passed ↦ h.passed_first y z oy oz passed none (behind_open z pz)
        | inr open' ↦ h.open_kept y z oy oz open' (behind_open z pz) (omega arith)
      ]

  -- the root is queued until it is passed
  root_still : s.rank w + 1 ≤ s.rank root → member root queue ≡ true
  root_still le =
      member-other root w queue (behind-apart root le) (h.root_queued (behind_open root le))

  -- the first of the queue becomes a candidate
  pub first-raised : AllStrong s cands earlier later
      → (cands' queue' : List ℕ) (earlier' later' : ℕ → ℕ) → Raised s cands w queue earlier later cands' queue' earlier' later'
      → Searching s root cands' queue' (s.rank w + 1) earlier' later' place × AllStrong s cands' earlier' later'
  first-raised strong cands' queue' earlier' later' r =
      let old : (x : ℕ) → member x cands' ≡ true → x ≢ w → member x cands ≡ true = λ x m ne. sym (r.added.others x ne) ∙ m in
      let earlier_kept : (x : ℕ) → member x cands ≡ true → earlier' x ≡ earlier x =
      λ x m. omega (arith, r.more x (h.cand_level x m), none_before x (le_of_lt (cand_before x m))) in
      let earlier_of_cand : (x : ℕ) → member x cands' ≡ true → earlier' x ≡ coming s cands' x = λ x m.
      elim (cases_eq x w) [
        | inl e ↦
            let ox : OnLevel s x = record { here = grind (arith, e, head_level.here); level = ap s.core e ∙ head_level.level } in
            let le : s.rank x ≤ s.rank w = grind (arith, e) in
            let was : earlier x ≡ coming s cands x = h.earlier_of_open x ox (grind (arith, e, head_open)) in
            omega (arith, r.more x ox, none_before x le, was, coming-same s cands cands' w x r.added.others le)
        | inr ne ↦
            let m' = old x m ne in
            let le : s.rank x ≤ s.rank w = le_of_lt (cand_before x m') in
            omega (arith, earlier_kept x m', h.earlier_of_cand x m', coming-same s cands cands' w x r.added.others le)
      ] in
      let later_of_cand : (x : ℕ) → member x cands' ≡ true → later' x ≡ holding s cands' (s.rank w + 1) x = λ x m.
      elim (cases_eq x w) [
        | inl e ↦
            let all : holding s cands' (s.rank w + 1) x ≡ ahead s x =
            among-agree s x (holding_at s cands' (s.rank w + 1) x) (λ y. above s y || (on_level s y && after s x y))
            (λ y l a. let k : s.rank x ≡ s.rank w = ap s.rank e in grind (arith, k)) in
            let n : later' x ≡ ahead s x = ap later' e ∙ (r.counted ∙ ap (ahead s) (sym e)) in
            omega (arith, n, all)
        | inr ne ↦
            let m' = old x m ne in
            omega (arith, r.later_kept x m', h.later_of_cand x m', holding-raised cands' r.added x m')
      ] in (
        record {
          cand_level =
              λ x m.
              elim (cases_eq x w) [
                | inl e ↦ record { here = grind (arith, e, head_level.here); level = ap s.core e ∙ head_level.level }
                | inr ne ↦ h.cand_level x (old x m ne)
              ];
          cand_passed = λ x m. elim (cases_eq x w) [ inl e ↦ grind (arith, e) | inr ne ↦ omega (arith, cand_before x (old x m ne)) ];
          queue_level = r.queue_level;
          queue_open = λ x m. let k = or_cases (member x queue) (s.adj w x && after s w x) (sym (r.queue_from x (r.queue_level x m)) ∙ m) in
              elim k [ inl q ↦ omega (arith, h.queue_ascends.0 x q) | inr a ↦ let b = and_parts (s.adj w x) (after s w x) a in grind (arith, b.1) ];
          queue_ascends = r.queue_ascends;
          root_queued =
              λ le.
              r.queue_from root (record { here = c.root_here; level = c.root_level })
              ∙ or_left (member root queue) _ (root_still le);
          queued = λ x y m oy a le. r.queue_from y oy ∙ elim (cases_eq x w) [
            | inl e ↦
                let a' : s.adj w y ≡ true = ap (λ k. s.adj k y) (sym e) ∙ a in
                or_right (member y queue) _ (and_from (s.adj w y) (after s w y) a' (lt-ltb (s.rank w) (s.rank y) (omega arith)))
            | inr ne ↦
                or_left (member y queue) _ (member-other y w queue (behind-apart y le) (h.queued x y (old x m ne) oy a (behind_open y le)))
          ];
          earlier_of_cand = earlier_of_cand;
          earlier_of_open = λ x ox le.
              let lt : s.rank w < s.rank x = omega arith in
              let more : earlier' x ≡ earlier x + one_if (s.adj w x && after s w x) = r.more x ox in
              let one : one_if (s.adj w x && after s w x) ≡ one_if (s.adj x w) = let k : s.adj w x ≡ s.adj x w = c.symmetric w x in grind (arith, k, lt) in
              omega (
                arith,
                more,
                one,
                h.earlier_of_open x ox (behind_open x le),
                coming-one s cands cands' w x head_level.here r.added.others r.added.itself head_new lt,
              );
          later_of_cand = later_of_cand;
          done = λ z oz le none.
              let ne : z ≢ w = λ e. true≢false (sym r.added.itself ∙ (ap (λ k. member k cands') (sym e) ∙ none)) in
              let none' : member z cands ≡ false = sym (r.added.others z ne) ∙ none in
              omega (
                arith,
                behind-raised s cands cands' w place head_level r.added z (skipped_before z oz ne le none'),
                skipped_done z oz ne le none',
              );
          open_kept = λ y z oy oz py pz lt. h.open_kept y z oy oz (behind_open y py) (behind_open z pz) lt;
          passed_first = λ y z oy oz le none pz.
              let ne : y ≢ w = λ e. true≢false (sym r.added.itself ∙ (ap (λ k. member k cands') (sym e) ∙ none)) in
              skipped_first y z oy oz le (sym (r.added.others y ne) ∙ none) pz;
          lower_first = h.lower_first;
          higher_last = h.higher_last;
          others_kept = h.others_kept;
        },
        record {
          strong = λ x m. elim (cases_eq x w) [
            | inl e ↦
                let k : earlier' w ≡ earlier w = omega (arith, r.more w head_level, not_after (s.adj w w) (s.rank w)) in
                let k' : earlier' x + later' x ≡ earlier' w + later' w = ap (λ n. earlier' n + later' n) e in
                omega (arith, k, k', r.strong)
            | inr ne ↦ let m' = old x m ne in omega (arith, earlier_kept x m', strong.strong x m', r.later_kept x m')
          ];
        },
      )

  -- what is behind the first of the queue once it is settled
  behind-settled : behind s cands place w ≡ coming s cands w + ahead s w
  behind-settled =
      among-sum s w (coming_at s cands w) (λ y. above s y || (on_level s y && after s w y)) (behind_at s cands place w) (λ y l a.
      elim (cases_eq (s.core y) s.level) [
        | inl lvl ↦
            let oy : OnLevel s y = record { here = l; level = lvl } in
            elim (cases_Bool (member y cands)) [
              | inl m ↦ let lt : s.rank y < s.rank w = cand_before y m in grind (arith, m, lvl, lt)
              | inr none ↦
                  let same : ltb (place w) (place y) ≡ ltb (s.rank w) (s.rank y) =
                  skipped_at s root cands (w ∷ queue) frontier earlier later place c h w y head_level oy head_open none in
                  grind (arith, none, lvl, same)
            ]
        | inr ne ↦
            let none : member y cands ≡ false = elim (cases_Bool (member y cands)) [ inl m ↦ absurd (ne (h.cand_level y m).level) | inr n ↦ n ] in
            grind (arith, ne, none)
      ])

  -- how the counts of candidates change when the first of the queue is settled
  holding-settled : (x : ℕ) → member x cands ≡ true → holding s cands frontier x ≡ holding s cands (s.rank w + 1) x + one_if (s.adj x w)
  holding-settled x m =
      let lt : s.rank x < s.rank w = cand_before x m in
      among-one s x w (holding_at s cands frontier x) (holding_at s cands (s.rank w + 1) x) head_level.here (grind (
        arith,
        head_new,
        head_level.level,
      )) (grind (arith, head_open, lt, head_level.level)) (λ y l a ne.
      elim (cases_eq (s.core y) s.level) [
        | inl lvl ↦
            let up : frontier ≤ s.rank y → s.rank w < s.rank y =
            λ o. later_neighbour-gap x y m (record { here = l; level = lvl }) a o ne in
            sym (holding-raised_at (above s y) (on_level s y) (after s x y) (member y cands) (member y cands) (s.rank w) frontier (s.rank y) refl up head_open)
        | inr off ↦ grind (arith, off)
      ])

  -- the first of the queue leaves it without becoming a candidate
  first-leaves : (earlier' later' : ℕ → ℕ) → Settled s cands w earlier later earlier' later' → Searching s root cands queue (s.rank w + 1) earlier' later' place
  first-leaves earlier' later' r =
      let not_w : (x : ℕ) → member x cands ≡ true → x ≢ w = λ x m e. true≢false (sym m ∙ (ap (λ k. member k cands) e ∙ head_new)) in
      record {
        cand_level = h.cand_level;
        cand_passed = λ x m. omega (arith, cand_before x m);
        queue_level = λ x m. h.queue_level x (member-tail x w queue m);
        queue_open = λ x m. omega (arith, h.queue_ascends.0 x m);
        queue_ascends = h.queue_ascends.1;
        root_queued = root_still;
        queued = λ x y m oy a le. member-other y w queue (behind-apart y le) (h.queued x y m oy a (behind_open y le));
        earlier_of_cand = λ x m. r.earlier_kept x (not_w x m) ∙ h.earlier_of_cand x m;
        earlier_of_open = λ x ox le. r.earlier_kept x (behind-apart x le) ∙ h.earlier_of_open x ox (behind_open x le);
        later_of_cand = λ x m.
            let same : one_if (s.adj w x) ≡ one_if (s.adj x w) = ap one_if (c.symmetric w x) in
            let less : later' x ≡ later x - one_if (s.adj w x) = r.fewer x m in
            omega (arith, same, less, h.later_of_cand x m, holding-settled x m);
        done = λ z oz le none. elim (cases_eq z w) [
          | inl e ↦
              let k : behind s cands place z ≡ behind s cands place w = ap (behind s cands place) e in
              omega (arith, k, behind-settled, h.earlier_of_open w head_level head_open, r.weak)
          | inr ne ↦ skipped_done z oz ne le none
        ];
        open_kept = λ y z oy oz py pz lt. h.open_kept y z oy oz (behind_open y py) (behind_open z pz) lt;
        passed_first = skipped_first;
        lower_first = h.lower_first;
        higher_last = h.higher_last;
        others_kept = h.others_kept;
      }

  -- the first of the queue is settled
  pub first-settled : AllStrong s cands earlier later
      → (earlier' later' : ℕ → ℕ) (evict : List ℕ) → Settled s cands w earlier later earlier' later' → Relisted s cands [] earlier' later' w evict
      → Searching s root cands queue (s.rank w + 1) earlier' later' place × WeakListed s cands (s.rank w + 1) earlier' later' place evict w
  first-settled strong earlier' later' evict r l = (
    first-leaves earlier' later' r,
    record {
      distinct = l.distinct;
      listed = λ x m. (l.only x m refl).0;
      weak = λ x m. (l.only x m refl).1;
      strong = λ x m none. elim (cases_Bool (s.adj w x)) [
        | inl a ↦ l.all_weak x m a none
        | inr n ↦
            let less : later' x ≡ later x - one_if (s.adj w x) = r.fewer x m in
            let zero' : one_if (s.adj w x) ≡ 0 = ap one_if n in
            let ne : x ≢ w = λ e. true≢false (sym m ∙ (ap (λ k. member k cands) e ∙ head_new)) in
            omega (arith, less, zero', r.earlier_kept x ne, strong.strong x m)
      ];
      last_level = head_level;
      last_passed = omega arith;
      last_done = head_new;
      last_of_all = λ z oz le none ne. skipped_before z oz ne le none;
    },
  )

  -- the first of the queue leaves it, and no candidate is its neighbour
  pub first-passes : ahead s w ≤ s.level → earlier w ≡ 0 → Searching s root cands queue (s.rank w + 1) earlier later place
  first-passes few none =
      first-leaves earlier later (record {
        weak = omega arith;
        fewer = λ x m.
            let lt : s.rank x < s.rank w = cand_before x m in
            let no : s.adj w x ≡ false = elim (cases_Bool (s.adj w x)) [
              | inl a ↦
                  let some : 0 < coming s cands w =
                  among-some s w (coming_at s cands w) x (h.cand_level x m).here a
                  (and_from (member x cands) (after s x w) m (lt-ltb (s.rank x) (s.rank w) lt)) in
                  absurd (omega (arith, some, h.earlier_of_open w head_level head_open))
              | inr n ↦ n
            ] in
            omega (arith, ap one_if no);
        earlier_kept = λ x ne. refl;
      })

-- once the eviction list is empty, all candidates are strong
pub candidates-settled : (s : Search) (cands : List ℕ) (frontier : ℕ) (earlier later place : ℕ → ℕ) (last : ℕ)
    → WeakListed s cands frontier earlier later place [] last → AllStrong s cands earlier later
candidates-settled s cands frontier earlier later place last e = record { strong = λ x m. e.strong x m refl }

-- a moved vertex is not before one that stands at or before its anchor
odd-even : (a b : ℕ) → b ≤ a → ltb (a + a + 1) (b + b) ≡ false
odd-even a b le = grind arith

-- a moved vertex is before one that stands after its anchor
odd-even_after : (a b : ℕ) → a < b → ltb (a + a + 1) (b + b) ≡ true
odd-even_after a b lt = grind arith

-- one that stands at or before the anchor is before the moved vertex
even-odd : (a b : ℕ) → b ≤ a → ltb (b + b) (a + a + 1) ≡ true
even-odd a b le = grind arith

-- how the count of later neighbours changes when a candidate is evicted
holding-evicted : (s : Search) (root : ℕ) (cands cands' : List ℕ) (x frontier z : ℕ) → Widened s root → OnLevel s x → s.rank x < frontier
    → member x cands ≡ true → Drops cands x cands'
    → holding s cands frontier z ≡ holding s cands' frontier z + one_if (s.adj x z && after s z x)
holding-evicted s root cands cands' x frontier z c ox passed there drop =
    let lvl : s.core x ≡ s.level = ox.level in
    let gone : member x cands' ≡ false = drop.itself in
    let sides : s.adj x z ≡ s.adj z x = c.symmetric x z in
    elim (cases_lt (s.rank z) (s.rank x)) [
      | inl lt ↦
          let one : holding s cands frontier z ≡ holding s cands' frontier z + one_if (s.adj z x) =
          among-one s z x (holding_at s cands frontier z) (holding_at s cands' frontier z) ox.here (grind (arith, gone, lvl, passed))
          (grind (arith, there, lvl, lt))
          (λ y l a ne. ap (λ b. above s y || (on_level s y && (after s z y && (b || leb frontier (s.rank y))))) (sym (drop.others y ne))) in
          let k : one_if (s.adj x z && after s z x) ≡ one_if (s.adj z x) = grind (arith, sides, lt) in
          omega (arith, one, k)
      | inr ge ↦
          let none : holding s cands frontier z ≡ holding s cands' frontier z =
          among-agree s z (holding_at s cands frontier z) (holding_at s cands' frontier z) (λ y l a. elim (cases_eq y x) [
            | inl e ↦ let ge' : s.rank y ≤ s.rank z = grind (arith, e) in grind (arith, ge')
            | inr ne ↦ ap (λ b. above s y || (on_level s y && (after s z y && (b || leb frontier (s.rank y))))) (sym (drop.others y ne))
          ]) in
          let k : one_if (s.adj x z && after s z x) ≡ 0 = grind (arith, ge) in
          omega (arith, none, k)
    ]

-- how the count of candidates before a vertex changes when a candidate is evicted
coming-evicted : (s : Search) (root : ℕ) (cands cands' : List ℕ) (x z : ℕ) → Widened s root → OnLevel s x → member x cands ≡ true → Drops cands x cands'
    → coming s cands z ≡ coming s cands' z + one_if (s.adj x z && after s x z)
coming-evicted s root cands cands' x z c ox there drop =
    let sides : s.adj x z ≡ s.adj z x = c.symmetric x z in
    let same : (y : ℕ) → y ≢ x → member y cands ≡ member y cands' = λ y ne. sym (drop.others y ne) in
    elim (cases_lt (s.rank x) (s.rank z)) [
      | inl lt ↦
          let one = coming-one s cands' cands x z ox.here same there drop.itself lt in
          let k : one_if (s.adj x z && after s x z) ≡ one_if (s.adj z x) = grind (arith, sides, lt) in
          omega (arith, one, k)
      | inr ge ↦
          let none : coming s cands z ≡ coming s cands' z = coming-same s cands' cands x z same ge in
          let k : one_if (s.adj x z && after s x z) ≡ 0 = grind (arith, ge) in
          omega (arith, none, k)
    ]

-- a candidate of the level counts for the evicted one before it or behind it, once
weigh_at : (u l m m' q : Bool) (rx ry f : ℕ) → u ≡ false → l ≡ true → m ≡ true → m' ≡ true → ry ≢ rx
    → one_if (u || (l && (m' || q))) ≡ one_if (m && ltb ry rx) + one_if (u || (l && (ltb rx ry && (m || leb f ry))))
weigh_at u l m m' q rx ry f hu hl hm hm' ne = grind arith

-- The eviction of a candidate `x` that has become too weak. ----------------------------------------

module _ (s : Search) (root : ℕ) (cands queue : List ℕ) (frontier : ℕ) (earlier later place : ℕ → ℕ) (evict : List ℕ) (x last : ℕ)
    (c : Widened s root) (h : Searching s root cands queue frontier earlier later place)
    (e : WeakListed s cands frontier earlier later place (x ∷ evict) last) where
  -- the one to be evicted is a candidate
  evicted_there : member x cands ≡ true
  evicted_there = e.listed x (member-head x evict)

  -- the one to be evicted is a vertex of the level
  evicted_level : OnLevel s x
  evicted_level = h.cand_level x evicted_there

  -- the one to be evicted was passed
  evicted_passed : s.rank x < frontier
  evicted_passed = h.cand_passed x evicted_there

  -- those to be evicted after it are others
  listed-apart : (y : ℕ) → member y evict ≡ true → y ≢ x
  listed-apart y m is = true≢false (sym m ∙ (ap (λ k. member k evict) is ∙ e.distinct.0))

  -- an evicted candidate goes past all that had passed, and before the others
  behind-evicted : (cands' : List ℕ) → Drops cands x cands'
      → behind s cands' (moved place x last) x ≡ coming s cands x + holding s cands frontier x
  behind-evicted cands' drop =
      let here : moved place x last x ≡ place last + place last + 1 = moved-itself place x last x refl in
      among-sum s x (coming_at s cands x) (holding_at s cands frontier x) (behind_at s cands' (moved place x last) x) (λ y l a.
      elim (cases_eq y x) [
        | inl y-x ↦ absurd (true≢false (sym a ∙ (ap (s.adj x) y-x ∙ c.no_loop x)))
        | inr ne ↦
            let same : member y cands' ≡ member y cands = drop.others y ne in
            elim (cases_eq (s.core y) s.level) [
              | inr off ↦
                  let none : member y cands ≡ false = elim (cases_Bool (member y cands)) [ inl m ↦ absurd (off (h.cand_level y m).level) | inr n ↦ n ] in
                  grind (arith, off, none)
              | inl lvl ↦
                  let oy : OnLevel s y = record { here = l; level = lvl } in
                  elim (cases_Bool (member y cands)) [
                    | inl m ↦
                        let apart : s.rank y ≢ s.rank x = λ k. ne (c.apart y x l evicted_level.here k) in
                        let m' : member y cands' ≡ true = same ∙ m in
                        let low : above s y ≡ false = grind (arith, lvl) in
                        weigh_at (above s y) (on_level s y) (member y cands) (member y cands')
                        (ltb (moved place x last x) (moved place x last y)) (s.rank x) (s.rank y) frontier low
                        (eq-eqb (s.core y) s.level lvl) m m' apart
                    | inr none ↦
                        let none' : member y cands' ≡ false = same ∙ none in
                        let there' : moved place x last y ≡ place y + place y = moved-other place x last y ne in
                        elim (cases_lt (s.rank y) frontier) [
                          | inl py ↦
                              let le : place y ≤ place last =
                              elim (cases_eq y last) [ inl k ↦ le_of_eq (ap place k) | inr k ↦ le_of_lt (e.last_of_all y oy py none k) ] in
                              let no_more : ltb (moved place x last x) (moved place x last y) ≡ false =
                              rw (here, there') (odd-even (place last) (place y) le) in
                              grind (arith, none, none', lvl, py, no_more)
                          | inr py ↦
                              let lt : place last < place y = h.passed_first last y e.last_level oy e.last_passed e.last_done py in
                              let more : ltb (moved place x last x) (moved place x last y) ≡ true =
                              rw (here, there') (odd-even_after (place last) (place y) lt) in
                              let up : s.rank x < s.rank y = omega (arith, evicted_passed) in
                              grind (arith, none, none', lvl, py, more, up)
                        ]
                  ]
            ]
      ])

  -- when a candidate is evicted, one that was left behind has the same behind it as before
  behind-kept : (cands' : List ℕ) → Drops cands x cands'
      → (z : ℕ) → OnLevel s z → s.rank z < frontier → z ≢ x → member z cands ≡ false → behind s cands' (moved place x last) z ≡ behind s cands place z
  behind-kept cands' drop z oz passed ne none =
      let here : moved place x last z ≡ place z + place z = moved-other place x last z ne in
      let le : place z ≤ place last = elim (cases_eq z last) [ inl k ↦ le_of_eq (ap place k) | inr k ↦ le_of_lt (e.last_of_all z oz passed none k) ] in
      among-agree s z (behind_at s cands' (moved place x last) z) (behind_at s cands place z) (λ y l a.
      elim (cases_eq y x) [
        | inl y-x ↦
            let m : member y cands ≡ true = ap (λ k. member k cands) y-x ∙ evicted_there in
            let k : moved place x last y ≡ place last + place last + 1 = moved-itself place x last y y-x in
            let more : ltb (moved place x last z) (moved place x last y) ≡ true = rw (here, k) (even-odd (place last) (place z) le) in
            grind (arith, m, more)
        | inr ny ↦
            let same : member y cands' ≡ member y cands = drop.others y ny in
            let k : moved place x last y ≡ place y + place y = moved-other place x last y ny in
            let alike : ltb (moved place x last z) (moved place x last y) ≡ ltb (place z) (place y) = rw (here, k) (ltb-double (place z) (place y)) in
            grind (arith, same, alike)
      ])

  -- a candidate that has become too weak is evicted
  pub evict_one : (cands' evict' : List ℕ) (earlier' later' : ℕ → ℕ) → Evicted s cands frontier x earlier later cands' earlier' later'
      → Relisted s cands' evict earlier' later' x evict'
      → Searching s root cands' queue frontier earlier' later' (moved place x last) × WeakListed s cands' frontier earlier' later' (moved place x last) evict' x
  evict_one cands' evict' earlier' later' r l =
      let old : (y : ℕ) → member y cands' ≡ true → y ≢ x = λ y m y-x. true≢false (sym m ∙ (ap (λ k. member k cands') y-x ∙ r.dropped.itself)) in
      let was : (y : ℕ) → member y cands' ≡ true → member y cands ≡ true = λ y m. sym (r.dropped.others y (old y m)) ∙ m in
      let ins : (y : ℕ) → OnLevel s y → y ≢ x → (member y cands' || leb frontier (s.rank y)) ≡ true → earlier y ≡ coming s cands y
      → earlier' y ≡ coming s cands' y =
      λ y oy ne watched k.
      let less : earlier' y ≡ earlier y - one_if (s.adj x y && after s x y) = r.fewer_earlier y oy ne watched in
      omega (arith, less, k, coming-evicted s root cands cands' x y c evicted_level evicted_there r.dropped) in
      let not_open : (y : ℕ) → frontier ≤ s.rank y → y ≢ x = λ y le is. let k : s.rank y ≡ s.rank x = ap s.rank is in absurd (omega (arith, evicted_passed)) in
      let other : (y : ℕ) → y ≢ x → moved place x last y ≡ place y + place y = moved-other place x last in
      let itself_at : (y : ℕ) → y ≡ x → moved place x last y ≡ place last + place last + 1 = moved-itself place x last in
      let itself : moved place x last x ≡ place last + place last + 1 = itself_at x refl in
      let off_level : (y : ℕ) → s.core y ≢ s.level → y ≢ x = λ y ne y-x. ne (ap s.core y-x ∙ evicted_level.level) in (
        record {
          cand_level = λ y m. h.cand_level y (was y m);
          cand_passed = λ y m. h.cand_passed y (was y m);
          queue_level = h.queue_level;
          queue_open = h.queue_open;
          queue_ascends = h.queue_ascends;
          root_queued = h.root_queued;
          queued = λ y z m oz a le. h.queued y z (was y m) oz a le;
          earlier_of_cand = λ y m. ins y (h.cand_level y (was y m)) (old y m) (or_left (member y cands') _ m) (h.earlier_of_cand y (was y m));
          earlier_of_open = λ y oy le. ins y oy (not_open y le) (or_right (member y cands') _ (le-leb frontier (s.rank y) le)) (h.earlier_of_open y oy le);
          later_of_cand = λ y m.
              let less : later' y ≡ later y - one_if (s.adj x y && after s y x) = r.fewer_later y m in
              omega (
                arith,
                less,
                h.later_of_cand y (was y m),
                holding-evicted s root cands cands' x frontier y c evicted_level evicted_passed evicted_there r.dropped,
              );
          done = λ z oz le none. elim (cases_eq z x) [
            | inl z-x ↦
                let k : behind s cands' (moved place x last) z ≡ behind s cands' (moved place x last) x = ap (behind s cands' (moved place x last)) z-x in
                omega (
                  arith,
                  k,
                  behind-evicted cands' r.dropped,
                  h.earlier_of_cand x evicted_there,
                  h.later_of_cand x evicted_there,
                  e.weak x (member-head x evict),
                )
            | inr ne ↦
                let none' : member z cands ≡ false = sym (r.dropped.others z ne) ∙ none in
                omega (
                  arith,
                  behind-kept cands' r.dropped z oz le ne none',
                  h.done z oz le none',
                )
          ];
          open_kept = λ y z oy oz py pz lt. omega (arith, other y (not_open y py), other z (not_open z pz), h.open_kept y z oy oz py pz lt);
          passed_first = λ y z oy oz py none pz. elim (cases_eq y x) [
            | inl y-x ↦ omega (arith, itself_at y y-x, other z (not_open z pz), h.passed_first last z e.last_level oz e.last_passed e.last_done pz)
            | inr ne ↦ omega (arith, other y ne, other z (not_open z pz), h.passed_first y z oy oz py (sym (r.dropped.others y ne) ∙ none) pz)
          ];
          lower_first = λ y z ly oz lt. let ne : y ≢ x = off_level y (omega arith) in elim (cases_eq z x) [
            | inl z-x ↦ omega (arith, other y ne, itself_at z z-x, h.lower_first y last ly e.last_level lt)
            | inr nz ↦ omega (arith, other y ne, other z nz, h.lower_first y z ly oz lt)
          ];
          higher_last = λ y z ly oz lt. let ne : y ≢ x = off_level y (omega arith) in elim (cases_eq z x) [
            | inl z-x ↦ omega (arith, other y ne, itself_at z z-x, h.higher_last y last ly e.last_level lt)
            | inr nz ↦ omega (arith, other y ne, other z nz, h.higher_last y z ly oz lt)
          ];
          others_kept = λ y z ly lz ny nz lt. omega (arith, other y (off_level y ny), other z (off_level z nz), h.others_kept y z ly lz ny nz lt);
        },
        record {
          distinct = l.distinct;
          listed = λ y m. elim (cases_Bool (member y evict)) [
            | inl k ↦ r.dropped.others y (listed-apart y k) ∙ e.listed y (member-tail y x evict k)
            | inr n ↦ (l.only y m n).0
          ];
          weak = λ y m. elim (cases_Bool (member y evict)) [
            | inl k ↦
                let ne : y ≢ x = listed-apart y k in
                let m' : member y cands ≡ true = e.listed y (member-tail y x evict k) in
                let now : member y cands' ≡ true = r.dropped.others y ne ∙ m' in
                let less : later' y ≡ later y - one_if (s.adj x y && after s y x) = r.fewer_later y now in
                let less' : earlier' y ≡ earlier y - one_if (s.adj x y && after s x y) =
                r.fewer_earlier y (h.cand_level y m') ne (or_left (member y cands') _ now) in
                omega (arith, less, less', e.weak y (member-tail y x evict k))
            | inr n ↦ (l.only y m n).1
          ];
          strong = λ y m none. elim (cases_Bool (s.adj x y)) [
            | inl a ↦ l.all_weak y m a none
            | inr apart ↦
                let less : later' y ≡ later y - one_if (s.adj x y && after s y x) = r.fewer_later y m in
                let less' : earlier' y ≡ earlier y - one_if (s.adj x y && after s x y) =
                r.fewer_earlier y (h.cand_level y (was y m)) (old y m) (or_left (member y cands') _ m) in
                let none1 : one_if (s.adj x y && after s y x) ≡ 0 = grind (arith, apart) in
                let none2 : one_if (s.adj x y && after s x y) ≡ 0 = grind (arith, apart) in
                let not_listed : member y (x ∷ evict) ≡ false =
                or_from (eqb y x) (member y evict) (ne_eqb y x (old y m))
                (elim (cases_Bool (member y evict)) [ inl k ↦ absurd (true≢false (sym (l.kept y k) ∙ none)) | inr n ↦ n ]) in
                omega (arith, less, less', none1, none2, e.strong y (was y m) not_listed)
          ];
          last_level = evicted_level;
          last_passed = evicted_passed;
          last_done = r.dropped.itself;
          last_of_all = λ z oz le none ne.
              let none' : member z cands ≡ false = sym (r.dropped.others z ne) ∙ none in
              elim (cases_eq z last) [
                | inl z-l ↦ let k : place z ≡ place last = ap place z-l in omega (arith, k, other z ne, itself)
                | inr nl ↦ omega (arith, other z ne, itself, e.last_of_all z oz le none' nl)
              ];
        },
      )
