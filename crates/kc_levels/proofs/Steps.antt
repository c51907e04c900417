-- The puts and seals of a plan, one at a time.
use Rattle.std.proofs.Common.{◌≡◌, ◌≢◌, ◌<◌, ◌≤◌, ◌+◌, ◌*◌, ◌-◌, ℕ, zero, suc, Bool, true, false, not, ◌&&◌, ◌||◌, List, [], ◌∷◌, ◌++◌, length, get_or}
use Rattle.std.proofs.Common.{set, take, drop, eqb, refl, sym, ◌∙◌, ap, ap₂, subst, inl, inr, arith, true≢false, eq-eqb, ne_eqb, length-append}
use Rattle.std.proofs.lemmas.Bool.{cases_Bool, cases_eq, false≢true, or_parts, or_right, false_from_ne_true, leb-true, le-leb, lt-ltb, ltb-true}
use Rattle.std.proofs.lemmas.List.{set-get_or, take_more}
use Rattle.std.proofs.lemmas.List.Folds.{list_any-append}
use Rattle.std.proofs.Math.Bool.{or-false}
use Rattle.kc_lists.specs.Lists.{member, Distinct, without}
use Rattle.kc_lists.proofs.Members.{member-head, member-tail, member-cases, member-without, without-member, not_member-without, member-append}
use Rattle.kc_lists.proofs.Members.{member-append_left, not_member-append, no_member-empty}
use Rattle.kc_lists.proofs.Counting.{member-push, member-get_or, take-not_here, drop-member, Distinct-drop, Distinct-push}
use Rattle.kc_lists.proofs.Shared.{Distinct-front, Distinct-back, or-turned}
use Rattle.kc_words.specs.VertexWord.{vertex_of, vertex_word}
use Rattle.kc_graph.specs.Plans.{put_between, renumbered, shifted}
use Rattle.kc_cert.specs.Local.{firsts, AreInTurn}
use Rattle.kc_cert.proofs.Turns.{firsts-append, firsts-more, length-firsts}
use Rattle.kc_table.specs.Log.{Seen, TableName}
use Rattle.kc_table.specs.TableState.{first_vertex}
use Rattle.kc_order.specs.Writers.{HasRoom, HasVersionsLeft, Puts, PutsEach, Stores}
use Rattle.kc_order.proofs.Running.{room-less, room-run}
use Rattle.kc_levels.specs.Heads.{put, under, up_to}
use Rattle.kc_levels.specs.Levels.{Levelled, AreLevels, MayMove, MovesTo, SealsOne, Rises, seen, size_of, number_of, word_at, unsealed_in}
use Rattle.kc_levels.specs.Makes.{PutsInTurn, SealsInTurn, backwards, PutsAll, MayPutAll, SealsAll, MakesAll}
use Rattle.kc_levels.proofs.Cuts.{filter-all, filter-none, filter-yes, filter-no}
use Rattle.kc_levels.proofs.Planned.{rise-step, fall-step, renumbered-set, renumbered-push}

-- puts and then more puts are puts one after the other
run-append : (old : Seen) (puts more : List (ℕ × ℕ)) (mid new : Seen) → PutsEach old puts mid → PutsEach mid more new → PutsEach old (puts ++ more) new
run-append old [] more mid new a b = subst (λ (s : Seen). PutsEach s more new) a b
run-append old (put ∷ puts) more mid new a b = (a.0, a.1, run-append a.0 puts more mid new a.2 b)

-- puts of some vertices and then of more are puts of all of them in turn
puts-chain : (old : Seen) (vs ws : List ℕ) (mid new : Seen) → PutsInTurn old vs mid → PutsInTurn mid ws new → PutsInTurn old (vs ++ ws) new
puts-chain old vs ws mid new a b = record {
  puts = a.puts ++ b.puts;
  vertices = firsts-append a.puts b.puts ∙ ap₂ (λ (xs ys : List ℕ). xs ++ ys) a.vertices b.vertices;
  run = run-append old a.puts b.puts mid new a.run b.run;
}

-- one put more
puts-push : (old : Seen) (vs : List ℕ) (mid new : Seen) (v p : ℕ) → PutsInTurn old vs mid → Puts mid new v p → PutsInTurn old (vs ++ v ∷ []) new
puts-push old vs mid new v p h m = puts-chain old vs (v ∷ []) mid new h record { puts = (v, p) ∷ []; vertices = refl; run = (new, m, refl) }

-- one seal more
seals-push : (stamp : ℕ) (core : List ℕ) (old : Seen) (vs : List ℕ) (mid new : Seen) (v : ℕ) → mid.table ≡ old.table
    → SealsInTurn stamp core old vs mid → Stores mid new (first_vertex old.table.shape + v)
    (vertex_word (record { stamp = stamp; core = get_or core v 0 })) → SealsInTurn stamp core old (vs ++ v ∷ []) new
seals-push stamp core old [] mid new v t h m =
    (new, subst (λ (s : Seen). Stores s new (first_vertex old.table.shape + v) (vertex_word (record { stamp = stamp; core = get_or core v 0 }))) h m, refl)
seals-push stamp core old (x ∷ vs) mid new v t h m =
    let same : h.0.table ≡ old.table = ap (λ (z : Seen). z.table) h.1.is in (
      h.0,
      h.1,
      seals-push stamp core h.0 vs mid new v (t ∙ sym same) h.2
          (subst (λ (z : TableName). Stores mid new (first_vertex z.shape + v) (vertex_word (record { stamp = stamp; core = get_or core v 0 }))) (sym same) m),
    )

-- three in another order
or_more : (a b c : Bool) → (c || (a || b)) ≡ (a || (b || c))
or_more a b c = grind arith

-- no put yet
pub puts-none : (old : Levelled) → AreLevels old → PutsAll old old [] old.order old.core
puts-none old are = record {
  puts = record { puts = []; vertices = refl; run = refl };
  table = refl;
  order_is = refl;
  core_is = refl;
  open_is = refl;
  are = are;
  unsealed = λ v. sym (or-false (member v (unsealed_in old)));
  entries = refl;
  words = λ w. refl;
}

-- one put more
pub puts-step : (old mid new : Levelled) (vs : List ℕ) (v p : ℕ) (order core order' core' : List ℕ) → PutsAll old mid vs order core
    → MovesTo mid new v p order' core' → PutsAll old new (vs ++ v ∷ []) order' core'
puts-step old mid new vs v p order core order' core' h m = record {
  puts = puts-push (seen old) vs (seen mid) (seen new) v p h.puts m.puts;
  table = m.puts.ends.table ∙ h.table;
  order_is = m.order_is;
  core_is = m.core_is;
  open_is = m.open_is ∙ h.open_is;
  are = m.are;
  unsealed = λ w. ap (member w) m.unsealed ∙ (ap (λ b. eqb w v || b) (h.unsealed w)
      ∙ (or_more (member w (unsealed_in old)) (member w vs) (eqb w v) ∙ ap (λ b. member w (unsealed_in old) || b) (sym (member-push w v vs))));
  entries = m.entries ∙ h.entries;
  words = λ w. m.words w ∙ h.words w;
}

-- puts, with order and levels under equal names
puts-as : (old new : Levelled) (vs vs' order order' core core' : List ℕ) → vs ≡ vs' → order ≡ order' → core ≡ core' → PutsAll old new vs order core
    → PutsAll old new vs' order' core'
puts-as old new vs vs' order order' core core' a b c h = subst (λ (z : List ℕ × (List ℕ × List ℕ)). PutsAll old new z.0 z.1.0 z.1.1) (λ i. (a i, (b i, c i))) h

-- a vertex that is to be put and was not yet may be put next
pub may-move : (old mid : Levelled) (all vs order core : List ℕ) (v : ℕ) → MayPutAll old all → PutsAll old mid vs order core → member v all ≡ true
    → member v vs ≡ false → MayMove mid v
may-move old mid all vs order core v may h m out =
    let k = may.unmoved v m in
    let number : number_of mid ≡ number_of old = ap₂ (λ (a b : ℕ). a + b) (ap (λ (t : TableName). t.shape.base) h.table) (ap length h.entries) in
    record {
      vertex = omega (arith, k.0, ap (λ (t : TableName). t.shape.fixed) h.table);
      open_ = h.open_is ∙ may.open_;
      unmoved = h.unsealed v ∙ ap₂ (λ (a b : Bool). a || b) k.1 out;
      once = omega (arith, k.2, number, ap (λ (z : ℕ). (vertex_of z).stamp) (h.words v));
    }

-- one put for each vertex
puts-count : (old new : Seen) (vs : List ℕ) (h : PutsInTurn old vs new) → length h.puts ≡ length vs
puts-count old new vs h = sym (length-firsts h.puts) ∙ ap length h.vertices

-- each put before the last leaves room for it
pub versions-left : (old mid : Levelled) (vs order core : List ℕ) (total : ℕ) → HasRoom old.table old.log (3 * total)
    → PutsAll old mid vs order core → length vs < total → HasVersionsLeft mid.table mid.log
versions-left old mid vs order core total room h l =
    room-run (seen old) (seen mid) h.puts.puts 3 h.puts.run
    (room-less (seen old) (3 * total) (2 * length h.puts.puts + 3) (omega (arith, l, puts-count (seen old) (seen mid) vs h.puts)) room)

-- Shifts. ------------------------------------------------------------------------------------------

-- some shifts and then more
shifted-append : (xs ys : List (ℕ × ℕ)) (order : List ℕ) → shifted (xs ++ ys) order ≡ shifted ys (shifted xs order)
shifted-append [] ys order = refl
shifted-append (x ∷ xs) ys order = shifted-append xs ys (put x.0 x.1 order)

-- one shift more
pub shift-step : (old mid new : Levelled) (shifts : List (ℕ × ℕ)) (i x w : ℕ) → i < length shifts → (get_or shifts i (0, 0)).0 ≡ x
    → (get_or shifts i (0, 0)).1 ≡ w → get_or old.core x 0 ≡ get_or old.core w 0
    → PutsAll old mid (firsts (take i shifts)) (shifted (take i shifts) old.order) old.core
    → MovesTo mid new x w (put x w mid.order) (set mid.core x (get_or mid.core w 0))
    → PutsAll old new (firsts (take (i + 1) shifts)) (shifted (take (i + 1) shifts) old.order) old.core
shift-step old mid new shifts i x w l x-is w-is level h m =
    let core-is : set mid.core x (get_or mid.core w 0) ≡ old.core = ap (λ (c : List ℕ). set c x (get_or c w 0)) h.core_is
    ∙ (ap (set old.core x) (sym level) ∙ set-get_or old.core x 0) in
    let order-is : put x w mid.order ≡ shifted (take (i + 1) shifts) old.order =
    ap (put x w) h.order_is ∙ (ap₂ (λ (a b : ℕ). put a b (shifted (take i shifts) old.order)) (sym x-is) (sym w-is)
    ∙ (sym (shifted-append (take i shifts) (get_or shifts i (0, 0) ∷ []) old.order)
    ∙ ap (λ (z : List (ℕ × ℕ)). shifted z old.order) (sym (take_more shifts i (0, 0) l)))) in
    let firsts-is : firsts (take i shifts) ++ x ∷ [] ≡ firsts (take (i + 1) shifts) = ap (λ (z : ℕ). firsts (take i shifts) ++ z ∷ []) (sym x-is)
    ∙ sym (firsts-more shifts i l) in
    puts-as old new _ _ _ _ _ _ firsts-is order-is core-is
    (puts-step old mid new (firsts (take i shifts)) x w (shifted (take i shifts) old.order) old.core (put x w mid.order)
    (set mid.core x (get_or mid.core w 0)) h m)

-- the first of a shift is among the firsts
pub firsts-at : (shifts : List (ℕ × ℕ)) (i : ℕ) → i < length shifts → member (get_or shifts i (0, 0)).0 (firsts shifts) ≡ true
firsts-at [] i l = absurd (omega (arith, l))
firsts-at (s ∷ shifts) zero l = member-head s.0 (firsts shifts)
firsts-at (s ∷ shifts) (suc i) l = member-tail (get_or shifts i (0, 0)).0 s.0 (firsts shifts) (firsts-at shifts i (omega (arith, l)))

-- no vertex is put after itself
pub turn-differs : (shifts : List (ℕ × ℕ)) (i : ℕ) → i < length shifts → AreInTurn shifts → (get_or shifts i (0, 0)).0 ≢ (get_or shifts i (0, 0)).1
turn-differs [] i l t = absurd (omega (arith, l))
turn-differs (s ∷ shifts) zero l t = λ e. true≢false (sym (ap (λ (z : ℕ). member z (s.0 ∷ firsts shifts)) (sym e) ∙ member-head s.0 (firsts shifts)) ∙ t.0)
turn-differs (s ∷ shifts) (suc i) l t = turn-differs shifts i (omega (arith, l)) t.1

-- no vertex is shifted twice
pub first-not_before : (shifts : List (ℕ × ℕ)) (i : ℕ) → i < length shifts → Distinct (firsts shifts)
    → member (get_or shifts i (0, 0)).0 (firsts (take i shifts)) ≡ false
first-not_before [] i l d = absurd (omega (arith, l))
first-not_before (s ∷ shifts) zero l d = refl
first-not_before (s ∷ shifts) (suc i) l d =
    let x : ℕ = (get_or shifts i (0, 0)).0 in
    let ne : x ≢ s.0 = λ e. true≢false (sym (firsts-at shifts i (omega (arith, l))) ∙ (ap (λ (z : ℕ). member z (firsts shifts)) e ∙ d.0)) in
    ap₂ (λ (a b : Bool). a || b) (ne_eqb x s.0 ne) (first-not_before shifts i (omega (arith, l)) d.1)

-- Rises and falls. ---------------------------------------------------------------------------------

-- an order that is cut where a level ends
between-none : (core : List ℕ) (test : ℕ → Bool) (order : List ℕ) → ((y z : ℕ) → get_or core y 0 ≤ get_or core z 0 → test z ≡ true → test y ≡ true)
    → Rises core order → put_between test [] order ≡ order
between-none core test [] mono a = refl
between-none core test (x ∷ xs) mono a =
    let low : ℕ → Bool = λ y. test y && not (member y []) in
    let high : ℕ → Bool = λ y. not (test y) && not (member y []) in
    elim (cases_Bool (test x)) [
      | inl t ↦ ap₂ (λ (ps qs : List ℕ). ps ++ qs) (filter-yes low x xs (let k : test x ≡ true = t in grind (arith, k)))
          (filter-no high x xs (let k : test x ≡ true = t in grind (arith, k))) ∙ ap (λ (zs : List ℕ). x ∷ zs) (between-none core test xs mono a.1)
      | inr f ↦
          let rest : (y : ℕ) → member y xs ≡ true → test y ≡ false =
          λ y m. elim (cases_Bool (test y)) [ inl t ↦ absurd (true≢false (sym (mono x y (a.0 y m) t) ∙ f)) | inr k ↦ k ] in
          ap₂ (λ (ps qs : List ℕ). ps ++ qs)
          (filter-no low x xs (let k : test x ≡ false = f in grind (arith, k)) ∙ filter-none low xs (λ y m. let k = rest y m in grind (arith, k)))
          (filter-yes high x xs (let k : test x ≡ false = f in grind (arith, k))
          ∙ ap (λ (zs : List ℕ). x ∷ zs) (filter-all high xs (λ y m. let k = rest y m in grind (arith, k))))
    ]

-- before the first rise the order is cut where the level ends
pub rise-none : (old : Levelled) (level : ℕ) → AreLevels old → PutsAll old old [] (put_between (up_to old.core level) [] old.order) old.core
rise-none old level are = puts-as old old [] [] old.order _ old.core old.core refl
    (sym (between-none old.core (up_to old.core level) old.order
    (λ y z l t. le-leb (get_or old.core y 0) level (omega (arith, l, leb-true (get_or old.core z 0) level t))) are.rising)) refl (puts-none old are)

-- before the first fall the order is cut where the level begins
pub fall-none : (old : Levelled) (level : ℕ) → AreLevels old → PutsAll old old [] (put_between (under old.core level) [] old.order) old.core
fall-none old level are = puts-as old old [] [] old.order _ old.core old.core refl
    (sym (between-none old.core (under old.core level) old.order
    (λ y z l t. lt-ltb (get_or old.core y 0) level (omega (arith, l, ltb-true (get_or old.core z 0) level t))) are.rising)) refl (puts-none old are)

-- one more has risen
pub rise-more : (old mid new : Levelled) (level v p : ℕ) (done : List ℕ) → AreLevels old → ((x : ℕ) → member x done ≡ true → x < size_of old)
    → member v done ≡ false
    → PutsAll old mid (backwards done) (put_between (up_to old.core level) done old.order) (renumbered done (level + 1) old.core)
    → MovesTo mid new v p (put_between (under mid.core (level + 1)) (v ∷ []) mid.order) (set mid.core v (level + 1))
    → PutsAll old new (backwards (v ∷ done)) (put_between (up_to old.core level) (v ∷ done) old.order) (renumbered (v ∷ done) (level + 1) old.core)
rise-more old mid new level v p done are within out h m =
    let n : ℕ = size_of old in
    let order-is : put_between (under mid.core (level + 1)) (v ∷ []) mid.order ≡ put_between (up_to old.core level) (v ∷ done) old.order =
    ap₂ (λ (c o : List ℕ). put_between (under c (level + 1)) (v ∷ []) o) h.core_is h.order_is
    ∙ rise-step n level v old.core old.order done are.long within out in
    let core-is : set mid.core v (level + 1) ≡ renumbered (v ∷ done) (level + 1) old.core = ap (λ (c : List ℕ). set c v (level + 1)) h.core_is
    ∙ renumbered-set done v (level + 1) old.core in
    puts-as old new _ _ _ _ _ _ refl order-is core-is (puts-step old mid new (backwards done) v p _ _ _ _ h m)

-- one more has fallen
pub fall-more : (old mid new : Levelled) (level v p : ℕ) (done : List ℕ) → AreLevels old → 0 < level
    → ((x : ℕ) → member x done ≡ true → x < size_of old) → member v done ≡ false
    → PutsAll old mid done (put_between (under old.core level) done old.order) (renumbered done (level - 1) old.core)
    → MovesTo mid new v p (put_between (up_to mid.core (level - 1)) (v ∷ []) mid.order) (set mid.core v (level - 1))
    → PutsAll old new (done ++ v ∷ []) (put_between (under old.core level) (done ++ v ∷ []) old.order) (renumbered (done ++ v ∷ []) (level - 1) old.core)
fall-more old mid new level v p done are some within out h m =
    let n : ℕ = size_of old in
    let order-is : put_between (up_to mid.core (level - 1)) (v ∷ []) mid.order ≡ put_between (under old.core level) (done ++ v ∷ []) old.order =
    ap₂ (λ (c o : List ℕ). put_between (up_to c (level - 1)) (v ∷ []) o) h.core_is h.order_is
    ∙ fall-step n level v old.core old.order done are.long some within out in
    let core-is : set mid.core v (level - 1) ≡ renumbered (done ++ v ∷ []) (level - 1) old.core = ap (λ (c : List ℕ). set c v (level - 1)) h.core_is
    ∙ renumbered-push done v (level - 1) old.core in
    puts-as old new _ _ _ _ _ _ refl order-is core-is (puts-step old mid new done v p _ _ _ _ h m)

-- a list backwards is as long
pub length-backwards : (xs : List ℕ) → length (backwards xs) ≡ length xs
length-backwards [] = refl
length-backwards (x ∷ xs) = omega (arith, length-append (backwards xs) (x ∷ []), length-backwards xs)

-- a list backwards has the same members
pub member-backwards : (v : ℕ) (xs : List ℕ) → member v (backwards xs) ≡ member v xs
member-backwards v [] = refl
member-backwards v (x ∷ xs) = member-push v x (backwards xs) ∙ (ap (λ b. b || eqb v x) (member-backwards v xs) ∙ or-turned (member v xs) (eqb v x))

-- Seals. -------------------------------------------------------------------------------------------

-- a test and not a false one is the test
and_no : (a : Bool) → a ≡ (a && not false)
and_no a = grind arith

-- a test and neither of two others
and_more : (a b c : Bool) → ((a && not b) && not c) ≡ (a && not (b || c))
and_more a b c = grind arith

-- no seal yet
pub seals-none : (old : Levelled) → AreLevels old → SealsAll old old []
seals-none old are = record {
  seals = refl;
  table = refl;
  order_is = refl;
  core_is = refl;
  open_is = refl;
  are = are;
  unsealed = λ v. and_no (member v (unsealed_in old));
  entries = refl;
  here = λ v m. absurd (false≢true m);
  others = λ v n. refl;
}

-- a list without one vertex has all its other members
without-has : (w v : ℕ) (xs : List ℕ) → member w (without v xs) ≡ (member w xs && not (eqb w v))
without-has w v xs = elim (cases_eq w v) [
  | inl e ↦ ap (λ (z : ℕ). member z (without v xs)) e ∙ (not_member-without v xs ∙ (let k = eq-eqb w v e in grind (arith, k)))
  | inr ne ↦ elim (cases_Bool (member w xs)) [
    | inl m ↦ without-member w v xs m ne ∙ (let k = ne_eqb w v ne in grind (arith, k, m))
    | inr n ↦ elim (cases_Bool (member w (without v xs))) [ inl m ↦ absurd (true≢false (sym (member-without w v xs m).0 ∙ n)) | inr k ↦ k ∙ (grind (arith, n)) ]
  ]
]

-- one seal more
pub seals-step : (old mid new : Levelled) (vs : List ℕ) (v : ℕ) → SealsAll old mid vs → SealsOne mid new v → member v vs ≡ false
    → SealsAll old new (vs ++ v ∷ [])
seals-step old mid new vs v h m out =
    let number : number_of mid ≡ number_of old = ap₂ (λ (a b : ℕ). a + b) (ap (λ (t : TableName). t.shape.base) h.table) (ap length h.entries) in
    let value : vertex_word (record { stamp = number_of mid; core = get_or mid.core v 0 })
    ≡ vertex_word (record { stamp = number_of old; core = get_or old.core v 0 }) =
    ap₂ (λ (a : ℕ) (c : List ℕ). vertex_word (record { stamp = a; core = get_or c v 0 })) number h.core_is in
    let stores : Stores (seen mid) (seen new) (first_vertex old.table.shape + v) (vertex_word (record { stamp = number_of old; core = get_or old.core v 0 })) =
    subst (λ (z : TableName × ℕ). Stores (seen mid) (seen new) (first_vertex z.0.shape + v) z.1) (λ i. (h.table i, value i)) m.stores in
    let table : new.table ≡ mid.table = ap (λ (z : Seen). z.table) m.stores.is in
    let word : (w : ℕ) → first_vertex mid.table.shape + w ≡ first_vertex old.table.shape + w = λ w. ap (λ (t : TableName). first_vertex t.shape + w) h.table in
    record {
      seals = seals-push (number_of old) old.core (seen old) vs (seen mid) (seen new) v h.table h.seals stores;
      table = table ∙ h.table;
      order_is = m.order_is ∙ h.order_is;
      core_is = m.core_is ∙ h.core_is;
      open_is = m.open_is ∙ h.open_is;
      are = m.are;
      unsealed = λ w. ap (member w) m.unsealed
          ∙ (without-has w v (unsealed_in mid)
          ∙ (ap (λ b. b && not (eqb w v)) (h.unsealed w)
          ∙ (and_more (member w (unsealed_in old)) (member w vs) (eqb w v) ∙ ap (λ b. member w (unsealed_in old) && not b) (sym (member-push w v vs)))));
      entries = m.entries ∙ h.entries;
      here = λ w k. elim (cases_eq w v) [
        | inl e ↦ ap (word_at new) e ∙ (m.here ∙ (value ∙ ap (λ (z : ℕ). vertex_word (record { stamp = number_of old; core = get_or old.core z 0 })) (sym e)))
        | inr ne ↦
            let there : member w vs ≡ true =
            elim (member-append w vs (v ∷ []) k)
            [ inl q ↦ q | inr q ↦ elim (member-cases w v [] q) [ inl e ↦ absurd (ne e) | inr none ↦ absurd (false≢true none) ] ] in
            m.others w ne ∙ h.here w there
      ];
      others = λ w k.
          let parts = not_member-append w vs (v ∷ []) k in
          let ne : w ≢ v = λ e. true≢false (sym (eq-eqb w v e) ∙ (or_parts (eqb w v) false parts.1).0) in
          m.others w ne ∙ h.others w parts.0;
    }

-- Turns of the loops. ------------------------------------------------------------------------------

-- how many the first are
length-take_at : {A : Type 0} (xs : List A) (i : ℕ) → i ≤ length xs → length (take i xs) ≡ i
length-take_at xs zero l = refl
length-take_at [] (suc i) l = absurd (omega (arith, l))
length-take_at (x ∷ xs) (suc i) l = ap suc (length-take_at xs i (omega (arith, l)))

-- what is left from a place on begins with what stands there
drop-from : (xs : List ℕ) (j : ℕ) → j < length xs → drop j xs ≡ get_or xs j 0 ∷ drop (suc j) xs
drop-from [] j l = absurd (omega (arith, l))
drop-from (x ∷ xs) zero l = refl
drop-from (x ∷ xs) (suc j) l = drop-from xs j (omega (arith, l))

-- one more of the last
drop-at : (xs : List ℕ) (i : ℕ) → 0 < i → i ≤ length xs → drop (i - 1) xs ≡ get_or xs (i - 1) 0 ∷ drop i xs
drop-at xs i s l = let next : suc (i - 1) ≡ i = omega (arith, s) in drop-from xs (i - 1) (omega (arith, s, l))
    ∙ ap (λ (k : ℕ). get_or xs (i - 1) 0 ∷ drop k xs) next

-- how many the last are
length-drop_at : (xs : List ℕ) (i : ℕ) → i ≤ length xs → length (drop i xs) + i ≡ length xs
length-drop_at xs zero l = omega arith
length-drop_at [] (suc i) l = absurd (omega (arith, l))
length-drop_at (x ∷ xs) (suc i) l = omega (arith, length-drop_at xs i (omega (arith, l)))

-- before a shift, its vertex may be put
pub shift-may : (old mid : Levelled) (shifts : List (ℕ × ℕ)) (i : ℕ) → MayPutAll old (firsts shifts) → Distinct (firsts shifts) → i < length shifts
    → PutsAll old mid (firsts (take i shifts)) (shifted (take i shifts) old.order) old.core
    → MayMove mid (get_or shifts i (0, 0)).0 × HasVersionsLeft mid.table mid.log
shift-may old mid shifts i may once l h = (
  may-move old mid (firsts shifts) (firsts (take i shifts)) _ _ (get_or shifts i (0, 0)).0 may h (firsts-at shifts i l) (first-not_before shifts i l once),
  versions-left old mid (firsts (take i shifts)) _ _ (length (firsts shifts)) may.versions h
      (omega (arith, l, length-firsts shifts, length-firsts (take i shifts), length-take_at shifts i (omega (arith, l)))),
)

-- before one more vertex rises, it may be put
pub raise-may : (old mid : Levelled) (rise : List ℕ) (i level : ℕ) → MayPutAll old rise → Distinct rise → 0 < i → i ≤ length rise
    → PutsAll old mid (backwards (drop i rise)) (put_between (up_to old.core level) (drop i rise) old.order) (renumbered (drop i rise) (level + 1) old.core)
    → MayMove mid (get_or rise (i - 1) 0) × HasVersionsLeft mid.table mid.log
raise-may old mid rise i level may once some most h =
    let v : ℕ = get_or rise (i - 1) 0 in
    let out : member v (drop i rise) ≡ false = (subst Distinct (drop-at rise i some most) (Distinct-drop (i - 1) rise once)).0 in (
      may-move old mid rise (backwards (drop i rise)) _ _ v may h (member-get_or rise (i - 1) 0 (omega (arith, some, most)))
          (member-backwards v (drop i rise) ∙ out),
      versions-left old mid (backwards (drop i rise)) _ _ (length rise) may.versions h
          (omega (arith, some, most, length-backwards (drop i rise), length-drop_at rise i most)),
    )

-- after one more vertex has risen, so many of the rise are put
pub raise-next : (old mid new : Levelled) (rise : List ℕ) (i level p : ℕ) → MayPutAll old rise → Distinct rise → 0 < i → i ≤ length rise
    → PutsAll old mid (backwards (drop i rise)) (put_between (up_to old.core level) (drop i rise) old.order) (renumbered (drop i rise) (level + 1) old.core)
    → MovesTo mid new (get_or rise (i - 1) 0) p (put_between (under mid.core (level + 1)) (get_or rise (i - 1) 0 ∷ []) mid.order)
    (set mid.core (get_or rise (i - 1) 0) (level + 1))
    → PutsAll old new (backwards (drop (i - 1) rise)) (put_between (up_to old.core level) (drop (i - 1) rise) old.order)
    (renumbered (drop (i - 1) rise) (level + 1) old.core)
raise-next old mid new rise i level p may once some most h m =
    let v : ℕ = get_or rise (i - 1) 0 in
    let at : drop (i - 1) rise ≡ v ∷ drop i rise = drop-at rise i some most in
    let out : member v (drop i rise) ≡ false = (subst Distinct at (Distinct-drop (i - 1) rise once)).0 in
    subst (λ (z : List ℕ). PutsAll old new (backwards z) (put_between (up_to old.core level) z old.order) (renumbered z (level + 1) old.core)) (sym at)
    (rise-more old mid new level v p (drop i rise) may.are (λ x k. (may.unmoved x (drop-member i x rise k)).0) out h m)

-- before one more vertex falls, it may be put
pub lower-may : (old mid : Levelled) (fall : List ℕ) (i level : ℕ) → MayPutAll old fall → Distinct fall → i < length fall
    → PutsAll old mid (take i fall) (put_between (under old.core level) (take i fall) old.order) (renumbered (take i fall) (level - 1) old.core)
    → MayMove mid (get_or fall i 0) × HasVersionsLeft mid.table mid.log
lower-may old mid fall i level may once l h = (
  may-move old mid fall (take i fall) _ _ (get_or fall i 0) may h (member-get_or fall i 0 l) (take-not_here i fall l once),
  versions-left old mid (take i fall) _ _ (length fall) may.versions h (omega (arith, l, length-take_at fall i (omega (arith, l)))),
)

-- the first are members
take-member : (n x : ℕ) (xs : List ℕ) → member x (take n xs) ≡ true → member x xs ≡ true
take-member zero x xs m = absurd (false≢true m)
take-member (suc n) x [] m = m
take-member (suc n) x (y ∷ ys) m = elim (member-cases x y (take n ys) m) [
  | inl e ↦ ap (λ (k : ℕ). member k (y ∷ ys)) e ∙ member-head y ys
  | inr k ↦ member-tail x y ys (take-member n x ys k)
]

-- after one more vertex has fallen, so many of the fall are put
pub lower-next : (old mid new : Levelled) (fall : List ℕ) (i level p : ℕ) → MayPutAll old fall → Distinct fall → i < length fall → 0 < level
    → PutsAll old mid (take i fall) (put_between (under old.core level) (take i fall) old.order) (renumbered (take i fall) (level - 1) old.core)
    → MovesTo mid new (get_or fall i 0) p (put_between (up_to mid.core (level - 1)) (get_or fall i 0 ∷ []) mid.order)
    (set mid.core (get_or fall i 0) (level - 1))
    → PutsAll old new (take (i + 1) fall) (put_between (under old.core level) (take (i + 1) fall) old.order)
    (renumbered (take (i + 1) fall) (level - 1) old.core)
lower-next old mid new fall i level p may once l some h m =
    subst (λ (z : List ℕ). PutsAll old new z (put_between (under old.core level) z old.order) (renumbered z (level - 1) old.core)) (sym (take_more fall i 0 l))
    (fall-more old mid new level (get_or fall i 0) p (take i fall) may.are some (λ x k. (may.unmoved x (take-member i x fall k)).0)
    (take-not_here i fall l once) h m)

-- nothing is left at the end
pub drop_whole : (xs : List ℕ) → drop (length xs) xs ≡ []
drop_whole [] = refl
drop_whole (x ∷ xs) = drop_whole xs

-- after one more seal, so many of the vertices are sealed
pub seal-next : (old mid new : Levelled) (vs : List ℕ) (i : ℕ) → i < length vs → Distinct vs → SealsAll old mid (take i vs)
    → SealsOne mid new (get_or vs i 0) → SealsAll old new (take (i + 1) vs)
seal-next old mid new vs i l once h m = subst (λ (z : List ℕ). SealsAll old new z) (sym (take_more vs i 0 l))
    (seals-step old mid new (take i vs) (get_or vs i 0) h m (take-not_here i vs l once))

-- one that is not yet sealed
pub seal-may : (old mid : Levelled) (vs done : List ℕ) (v : ℕ) → SealsAll old mid done → member v (unsealed_in old) ≡ true → member v done ≡ false
    → member v (unsealed_in mid) ≡ true
seal-may old mid vs done v h there out = h.unsealed v ∙ ap₂ (λ (a b : Bool). a && not b) there out

-- one more of the shifted is sealed
pub seal_shifted-next : (old mid new : Levelled) (shifts : List (ℕ × ℕ)) (i : ℕ) → i < length shifts → Distinct (firsts shifts)
    → SealsAll old mid (firsts (take i shifts)) → SealsOne mid new (get_or shifts i (0, 0)).0 → SealsAll old new (firsts (take (i + 1) shifts))
seal_shifted-next old mid new shifts i l once h m =
    subst (λ (z : List ℕ). SealsAll old new z) (sym (firsts-more shifts i l))
    (seals-step old mid new (firsts (take i shifts)) (get_or shifts i (0, 0)).0 h m (first-not_before shifts i l once))

-- All together. ------------------------------------------------------------------------------------

-- seals and then more
seals-chain : (stamp : ℕ) (core : List ℕ) (old : Seen) (vs ws : List ℕ) (mid new : Seen) → SealsInTurn stamp core old vs mid
    → SealsInTurn stamp core mid ws new → SealsInTurn stamp core old (vs ++ ws) new
seals-chain stamp core old [] ws mid new a b = subst (λ (s : Seen). SealsInTurn stamp core s ws new) a b
seals-chain stamp core old (v ∷ vs) ws mid new a b = (a.0, a.1, seals-chain stamp core a.0 vs ws mid new a.2 b)

-- three, in either grouping
or_assoc : (a b c : Bool) → ((a || b) || c) ≡ (a || (b || c))
or_assoc a b c = grind arith

-- a member of either part
pub has-both : (v : ℕ) (xs ys : List ℕ) → member v (xs ++ ys) ≡ (member v xs || member v ys)
has-both v xs ys = list_any-append (eqb v) xs ys

-- some puts and then more
pub puts-then : (old mid new : Levelled) (vs ws order core order' core' : List ℕ) → PutsAll old mid vs order core → PutsAll mid new ws order' core'
    → PutsAll old new (vs ++ ws) order' core'
puts-then old mid new vs ws order core order' core' a b = record {
  puts = puts-chain (seen old) vs ws (seen mid) (seen new) a.puts b.puts;
  table = b.table ∙ a.table;
  order_is = b.order_is;
  core_is = b.core_is;
  open_is = b.open_is ∙ a.open_is;
  are = b.are;
  unsealed = λ v. b.unsealed v ∙ (ap (λ t. t || member v ws) (a.unsealed v)
      ∙ (or_assoc (member v (unsealed_in old)) (member v vs) (member v ws) ∙ ap (λ t. member v (unsealed_in old) || t) (sym (has-both v vs ws))));
  entries = b.entries ∙ a.entries;
  words = λ w. b.words w ∙ a.words w;
}

-- some seals and then more
pub seals-then : (old mid new : Levelled) (vs ws : List ℕ) → SealsAll old mid vs → SealsAll mid new ws → SealsAll old new (vs ++ ws)
seals-then old mid new vs ws a b =
    let number : number_of mid ≡ number_of old = ap₂ (λ (x y : ℕ). x + y) (ap (λ (t : TableName). t.shape.base) a.table) (ap length a.entries) in
    record {
      seals = seals-chain (number_of old) old.core (seen old) vs ws (seen mid) (seen new) a.seals
          (subst (λ (z : ℕ × List ℕ). SealsInTurn z.0 z.1 (seen mid) ws (seen new)) (λ i. (number i, a.core_is i)) b.seals);
      table = b.table ∙ a.table;
      order_is = b.order_is ∙ a.order_is;
      core_is = b.core_is ∙ a.core_is;
      open_is = b.open_is ∙ a.open_is;
      are = b.are;
      unsealed = λ v. b.unsealed v ∙ (ap (λ t. t && not (member v ws)) (a.unsealed v)
          ∙ (and_more (member v (unsealed_in old)) (member v vs) (member v ws) ∙ ap (λ t. member v (unsealed_in old) && not t) (sym (has-both v vs ws))));
      entries = b.entries ∙ a.entries;
      here = λ v m. elim (cases_Bool (member v ws)) [
        | inl k ↦ b.here v k ∙ ap₂ (λ (x : ℕ) (c : List ℕ). vertex_word (record { stamp = x; core = get_or c v 0 })) number a.core_is
        | inr k ↦ b.others v k ∙ a.here v (elim (member-append v vs ws m) [ inl q ↦ q | inr q ↦ absurd (true≢false (sym q ∙ k)) ])
      ];
      others = λ v n. let parts = not_member-append v vs ws n in b.others v parts.1 ∙ a.others v parts.0;
    }

-- what was put and sealed is not left
all_sealed : (a b c : Bool) → a ≡ false → b ≡ c → ((a || b) && not c) ≡ false
all_sealed a b c h e = grind (arith, h, e)

-- all puts and then all seals
pub puts-then_seals : (old mid new : Levelled) (puts vs order core : List ℕ) → PutsAll old mid puts order core → SealsAll mid new vs → unsealed_in old ≡ []
    → ((v : ℕ) → member v puts ≡ member v vs) → MakesAll old new puts vs order core
puts-then_seals old mid new puts vs order core a b fresh same =
    let number : number_of mid ≡ number_of old = ap₂ (λ (x y : ℕ). x + y) (ap (λ (t : TableName). t.shape.base) a.table) (ap length a.entries) in
    record {
      between = seen mid;
      puts_are = a.puts;
      seals_are = subst (λ (z : ℕ × List ℕ). SealsInTurn z.0 z.1 (seen mid) vs (seen new)) (λ i. (number i, sym b.core_is i)) b.seals;
      table = b.table ∙ a.table;
      order_is = b.order_is ∙ a.order_is;
      core_is = b.core_is ∙ a.core_is;
      open_is = b.open_is ∙ a.open_is;
      are = b.are;
      unsealed = no_member-empty (unsealed_in new)
          (λ v. b.unsealed v ∙ (ap (λ t. t && not (member v vs)) (a.unsealed v)
          ∙ all_sealed (member v (unsealed_in old)) (member v puts) (member v vs) (ap (member v) fresh) (same v)));
      entries = b.entries ∙ a.entries;
      moved = λ v m. b.here v m ∙ ap₂ (λ (x : ℕ) (c : List ℕ). vertex_word (record { stamp = x; core = get_or c v 0 })) number (sym b.core_is);
      others = λ v n. b.others v n ∙ a.words v;
    }

-- what may be put after some puts
pub may-then : (old mid : Levelled) (all vs ws order core : List ℕ) → MayPutAll old all → PutsAll old mid vs order core
    → length all ≡ length vs + length ws → ((v : ℕ) → member v ws ≡ true → (member v all ≡ true) × (member v vs ≡ false)) → MayPutAll mid ws
may-then old mid all vs ws order core may h size sub = record {
  are = h.are;
  open_ = h.open_is ∙ may.open_;
  unmoved = λ v m. let k = sub v m in let moves = may-move old mid all vs order core v may h k.0 k.1 in (moves.vertex, moves.unmoved, moves.once);
  versions = room-run (seen old) (seen mid) h.puts.puts (3 * length ws) h.puts.run
      (room-less (seen old) (3 * length all) (2 * length h.puts.puts + 3 * length ws) (omega (arith, size, puts-count (seen old) (seen mid) vs h.puts))
      may.versions);
}

-- what was put is not sealed
pub unsealed-put : (old mid : Levelled) (vs order core : List ℕ) (v : ℕ) → PutsAll old mid vs order core → member v vs ≡ true
    → member v (unsealed_in mid) ≡ true
unsealed-put old mid vs order core v h m = h.unsealed v ∙ or_right (member v (unsealed_in old)) (member v vs) m

-- no member of the first part is in the second
pub Distinct-apart : (xs ys : List ℕ) → Distinct (xs ++ ys) → (v : ℕ) → member v xs ≡ true → member v ys ≡ false
Distinct-apart [] ys d v m = absurd (false≢true m)
Distinct-apart (x ∷ xs) ys d v m = elim (member-cases v x xs m) [
  | inl e ↦ ap (λ (k : ℕ). member k ys) e ∙ (not_member-append x xs ys d.0).1
  | inr k ↦ Distinct-apart xs ys d.1 v k
]

-- each part has each once
pub both-distinct : (rise firsts : List ℕ) → Distinct (rise ++ firsts) → Distinct rise × Distinct firsts
both-distinct rise firsts d = (Distinct-front rise firsts d, Distinct-back rise firsts d)

-- after the shifts the risen may be put
pub rise-may : (old mid : Levelled) (rise firsts order core : List ℕ) → MayPutAll old (rise ++ firsts) → Distinct (rise ++ firsts)
    → PutsAll old mid firsts order core → MayPutAll mid rise
rise-may old mid rise firsts order core may once h =
    may-then old mid (rise ++ firsts) firsts rise order core may h (omega (arith, length-append rise firsts))
    (λ v m. (member-append_left v rise firsts m, Distinct-apart rise firsts once v m))

-- those that were shifted are not sealed when the risen are
pub shifted-unsealed : (old a b d : Levelled) (rise firsts order core order' core' : List ℕ) → Distinct (rise ++ firsts)
    → PutsAll old a firsts order core → PutsAll a b (backwards rise) order' core' → SealsAll b d rise
    → (v : ℕ) → member v firsts ≡ true → member v (unsealed_in d) ≡ true
shifted-unsealed old a b d rise firsts order core order' core' once h k s v m =
    let out : member v rise ≡ false = false_from_ne_true (member v rise) (λ q. true≢false (sym m ∙ Distinct-apart rise firsts once v q)) in
    let there : member v (unsealed_in b) ≡ true = k.unsealed v ∙ ap (λ t. t || member v (backwards rise)) (unsealed-put old a firsts order core v h m) in
    seal-may b d rise rise v s there out

-- the whole of a rise
pub rise-whole : (old a b d new : Levelled) (shifts : List (ℕ × ℕ)) (rise : List ℕ) (level : ℕ)
    → PutsAll old a (firsts shifts) (shifted shifts old.order) old.core
    → PutsAll a b (backwards rise) (put_between (up_to a.core level) rise a.order) (renumbered rise (level + 1) a.core) → SealsAll b d rise
    → SealsAll d new (firsts shifts) → unsealed_in old ≡ []
    → MakesAll old new (firsts shifts ++ backwards rise) (rise ++ firsts shifts) (put_between (up_to old.core level) rise (shifted shifts old.order))
    (renumbered rise (level + 1) old.core)
rise-whole old a b d new shifts rise level h k s t fresh =
    let all = puts-then old a b (firsts shifts) (backwards rise) _ _ _ _ h k in
    let named : PutsAll old b (firsts shifts ++ backwards rise) (put_between (up_to old.core level) rise (shifted shifts old.order))
    (renumbered rise (level + 1) old.core) =
    puts-as old b _ _ _ _ _ _ refl (ap₂ (λ (c o : List ℕ). put_between (up_to c level) rise o) h.core_is h.order_is)
    (ap (λ (c : List ℕ). renumbered rise (level + 1) c) h.core_is) all in
    puts-then_seals old b new _ (rise ++ firsts shifts) _ _ named (seals-then b d new rise (firsts shifts) s t) fresh
    (λ v. has-both v (firsts shifts) (backwards rise)
    ∙ (ap (λ q. member v (firsts shifts) || q) (member-backwards v rise)
    ∙ (or-turned (member v (firsts shifts)) (member v rise) ∙ sym (has-both v rise (firsts shifts)))))

-- nothing is made
pub makes-none : (old : Levelled) → AreLevels old → unsealed_in old ≡ [] → MakesAll old old [] [] old.order old.core
makes-none old are fresh = puts-then_seals old old old [] [] old.order old.core (puts-none old are) (seals-none old are) fresh (λ v. refl)

-- backwards each comes once too
pub Distinct-backwards : (xs : List ℕ) → Distinct xs → Distinct (backwards xs)
Distinct-backwards [] d = tt
Distinct-backwards (x ∷ xs) d = Distinct-push (backwards xs) x (Distinct-backwards xs d.1) (member-backwards x xs ∙ d.0)
