-- The list with heads, built from an order, and a fresh table for it.
use Rattle.std.proofs.Common.{◌≡◌, ◌<◌, ◌≤◌, ◌+◌, ◌-◌, ◌*◌, ◌^◌, ℕ, zero, suc, Bool, true, false, cond, ◌||◌, List, [], ◌∷◌, ◌++◌, length, get_or}
use Rattle.std.proofs.Common.{take, eqb, refl, sym, ◌∙◌, ap, ap₂, subst, inl, inr, arith, eq-eqb, ne_eqb, append_assoc, append-nil}
use Rattle.std.specs.Prelude.{AllPairs}
use Rattle.std.proofs.lemmas.Bool.{cases_eq, false≢true, false_from_ne_true}
use Rattle.std.proofs.lemmas.List.{take_more, take_all}
use Rattle.std.proofs.lemmas.List.Elements.{filter-append}
use Rattle.kc_lists.specs.Lists.{member, Distinct}
use Rattle.kc_lists.proofs.Members.{member-tail, member-cases, member-append, member-append_left, member-append_right, append-not_member}
use Rattle.kc_lists.proofs.Counting.{filter-member, member-push_cases, Distinct-filter, member-from_Contains}
use Rattle.kc_lists.proofs.Shared.{Distinct-append}
use Rattle.kc_words.specs.VertexWord.{vertex_of, vertex_word}
use Rattle.kc_words.specs.declared.shape.Shape.{Shape}
use Rattle.kc_words.specs.declared.layout.TheConstants.{STAMP_BITS, VERTICES}
use Rattle.kc_graph.specs.Certificate.{Enumerates}
use Rattle.kc_graph.proofs.Grown.{order-below}
use Rattle.kc_cert.proofs.Ordered.{order-distinct}
use Rattle.kc_table.specs.Log.{PassSeen, Seen, TableName}
use Rattle.kc_table.specs.TableState.{TableState, state_of, opened, first_vertex}
use Rattle.kc_table.specs.Legal.{Legal, FollowsNote}
use Rattle.kc_table.proofs.LegalLogs.{state_of-nil}
use Rattle.kc_order.specs.Standing.{list_after}
use Rattle.kc_levels.specs.Heads.{level_part, parts_from, with_heads, no_part, vertices_of}
use Rattle.kc_levels.specs.Levels.{levelled, AreLevels, Rises, Tallied, OpensLevels}
use Rattle.kc_levels.proofs.Cuts.{filter-none}
use Rattle.kc_levels.proofs.Heading.{parts-alike, HaveVertices, AreApart, levels-have, levels-apart, no_head, parts-not_member}
use Rattle.kc_levels.proofs.Rising.{Rises-from_pairs, vertices-order}
use Rattle.kc_levels.proofs.Moving.{enumerates-listed}
use Rattle.kc_levels.proofs.Sealing.{fields-back}

-- parts, cut after some heads
parts-split : (n : ℕ) (part : ℕ → List ℕ) (k a b : ℕ) → parts_from n part k (a + b) ≡ parts_from n part k a ++ parts_from n part (k + a) b
parts-split n part k zero b = ap₂ (λ (j c : ℕ). parts_from n part j c) (omega arith) (omega arith)
parts-split n part k (suc a) b =
    let next : suc k + a ≡ k + suc a = omega arith in
    let size : suc a + b ≡ suc (a + b) = omega arith in
    ap (parts_from n part k) size
    ∙ (ap (λ (zs : List ℕ). (n + k) ∷ (part k ++ zs))
    (parts-split n part (suc k) a b ∙ ap (λ (j : ℕ). parts_from n part (suc k) a ++ parts_from n part j b) next)
    ∙ ap (λ (zs : List ℕ). (n + k) ∷ zs) (sym (append_assoc (part k) (parts_from n part (suc k) a) (parts_from n part (k + suc a) b))))

-- parts that agree up to a head
parts-below : (n : ℕ) (part part' : ℕ → List ℕ) (k count : ℕ) → ((j : ℕ) → j < k + count → part j ≡ part' j)
    → parts_from n part k count ≡ parts_from n part' k count
parts-below n part part' k zero h = refl
parts-below n part part' k (suc count) h =
    ap (λ (zs : List ℕ). (n + k) ∷ (zs ++ parts_from n part (suc k) count)) (h k (omega arith))
    ∙ ap (λ (zs : List ℕ). (n + k) ∷ (part' k ++ zs)) (parts-below n part part' (suc k) count (λ j l. h j (omega (arith, l))))

-- one vertex more
part-push : (core xs : List ℕ) (v j : ℕ) → level_part core (xs ++ v ∷ []) j ≡ level_part core xs j ++ cond (eqb (get_or core v 0) j) (v ∷ []) []
part-push core xs v j = filter-append (λ y. eqb (get_or core y 0) j) xs (v ∷ [])

-- the heads up to that of a vertex's level, and then the vertex
pub turn-made : (n : ℕ) (core xs list heads : List ℕ) (v level next : ℕ) → get_or core v 0 ≡ level → next ≤ level + 1
    → ((y : ℕ) → member y xs ≡ true → get_or core y 0 < next)
    → list ≡ parts_from n (level_part core xs) 0 next → heads ≡ parts_from n no_part next (level + 1 - next)
    → (list ++ heads) ++ v ∷ [] ≡ parts_from n (level_part core (xs ++ v ∷ [])) 0 (level + 1)
turn-made n core xs list heads v level next is low below list-is heads-is =
    let part : ℕ → List ℕ = level_part core xs in
    let more : ℕ → List ℕ = level_part core (xs ++ v ∷ []) in
    let empty : (j : ℕ) → next ≤ j → no_part j ≡ part j =
    λ j l. sym (filter-none (λ y. eqb (get_or core y 0) j) xs (λ y m. ne_eqb (get_or core y 0) j (λ e. omega (arith, e, l, below y m)))) in
    let count : next + (level + 1 - next) ≡ level + 1 = omega (arith, low) in
    let reached : list ++ heads ≡ parts_from n part 0 (level + 1) =
    ap₂ (λ (ps qs : List ℕ). ps ++ qs) list-is (heads-is ∙ parts-alike n no_part part next (level + 1 - next) empty)
    ∙ (ap (λ (k : ℕ). parts_from n part 0 next ++ parts_from n part k (level + 1 - next)) (omega arith)
    ∙ (sym (parts-split n part 0 next (level + 1 - next)) ∙ ap (parts_from n part 0) count)) in
    let cut : (p : ℕ → List ℕ) → parts_from n p 0 (level + 1) ≡ parts_from n p 0 level ++ ((n + level) ∷ p level) = λ p.
    parts-split n p 0 level 1 ∙ (ap (λ (k : ℕ). parts_from n p 0 level ++ parts_from n p k 1) (omega arith)
    ∙ ap (λ (zs : List ℕ). parts_from n p 0 level ++ (n + level) ∷ zs) (append-nil (p level))) in
    let others : (j : ℕ) → j < 0 + level → part j ≡ more j =
    λ j l. sym (part-push core xs v j ∙ (ap (λ b. part j ++ cond b (v ∷ []) []) (ne_eqb (get_or core v 0) j (λ e. omega (arith, e, is, l)))
    ∙ append-nil (part j))) in
    let here : part level ++ v ∷ [] ≡ more level =
    sym (part-push core xs v level ∙ ap (λ b. part level ++ cond b (v ∷ []) []) (eq-eqb (get_or core v 0) level is)) in
    ap (λ (zs : List ℕ). zs ++ v ∷ []) (reached ∙ cut part)
    ∙ (append_assoc (parts_from n part 0 level) ((n + level) ∷ part level) (v ∷ [])
    ∙ (ap₂ (λ (ps qs : List ℕ). ps ++ (n + level) ∷ qs) (parts-below n part more 0 level others) here ∙ sym (cut more)))

-- the heads that are left, behind the last vertex
pub end-made : (n : ℕ) (core order list heads : List ℕ) (next : ℕ) → next ≤ n + 1 → ((y : ℕ) → member y order ≡ true → get_or core y 0 < next)
    → list ≡ parts_from n (level_part core order) 0 next → heads ≡ parts_from n no_part next (n + 1 - next)
    → list ++ heads ≡ with_heads n order core
unfolding with_heads
end-made n core order list heads next low below list-is heads-is =
    let part : ℕ → List ℕ = level_part core order in
    let empty : (j : ℕ) → next ≤ j → no_part j ≡ part j =
    λ j l. sym (filter-none (λ y. eqb (get_or core y 0) j) order (λ y m. ne_eqb (get_or core y 0) j (λ e. omega (arith, e, l, below y m)))) in
    let count : next + (n + 1 - next) ≡ suc n = omega (arith, low) in
    ap₂ (λ (ps qs : List ℕ). ps ++ qs) list-is (heads-is ∙ parts-alike n no_part part next (n + 1 - next) empty)
    ∙ (ap (λ (k : ℕ). parts_from n part 0 next ++ parts_from n part k (n + 1 - next)) (omega arith)
    ∙ (sym (parts-split n part 0 next (n + 1 - next)) ∙ ap (parts_from n part 0) count))

-- one head more
pub head-more : (n from i : ℕ) (old now : List ℕ) → from ≤ i → now ≡ old ++ parts_from n no_part from (i - from)
    → now ++ (n + i) ∷ [] ≡ old ++ parts_from n no_part from (i + 1 - from)
head-more n from i old now l is =
    let size : (i - from) + 1 ≡ i + 1 - from = omega (arith, l) in
    let at : from + (i - from) ≡ i = omega (arith, l) in
    ap (λ (zs : List ℕ). zs ++ (n + i) ∷ []) is
    ∙ (append_assoc old (parts_from n no_part from (i - from)) ((n + i) ∷ [])
    ∙ ap (λ (zs : List ℕ). old ++ zs) (ap (λ (k : ℕ). parts_from n no_part from (i - from) ++ (n + k) ∷ []) (sym at)
    ∙ (sym (parts-split n no_part from (i - from) 1) ∙ ap (parts_from n no_part from) size)))

-- what the loop over the order keeps
pub record Listing (n : ℕ) (core order list : List ℕ) (i next : ℕ) : Type 0 where
  pub list_is : list ≡ parts_from n (level_part core (take i order)) 0 next
  pub below : (y : ℕ) → member y (take i order) ≡ true → get_or core y 0 < next
  pub ahead : (j : ℕ) → i ≤ j → j < length order → next ≤ get_or core (get_or order j 0) 0 + 1
  pub low : next ≤ n

-- before the first vertex
pub listing-none : (n : ℕ) (core order : List ℕ) → Listing n core order [] 0 0
listing-none n core order = record { list_is = refl; below = λ y m. absurd (false≢true m); ahead = λ j l k. omega arith; low = omega arith }

-- a vertex more
pub listing-next : (n : ℕ) (core order list heads : List ℕ) (i next level : ℕ) → i < length order → get_or core (get_or order i 0) 0 ≡ level
    → level < n → AllPairs (λ v w. get_or core v 0 ≤ get_or core w 0) order
    → Listing n core order list i next → heads ≡ parts_from n no_part next (level + 1 - next)
    → Listing n core order ((list ++ heads) ++ get_or order i 0 ∷ []) (i + 1) (level + 1)
listing-next n core order list heads i next level l is high rising h heads-is =
    let v : ℕ = get_or order i 0 in
    let ahead : next ≤ level + 1 = omega (arith, h.ahead i (omega arith) l, is) in
    let more : take (i + 1) order ≡ take i order ++ v ∷ [] = take_more order i 0 l in
    record {
      list_is = turn-made n core (take i order) list heads v level next is ahead h.below h.list_is heads-is
          ∙ ap (λ (zs : List ℕ). parts_from n (level_part core zs) 0 (level + 1)) (sym more);
      below = λ y m. elim (member-push_cases y v (take i order) (ap (member y) (sym more) ∙ m))
          [ inl k ↦ omega (arith, h.below y k, ahead) | inr e ↦ omega (arith, is, ap (λ (k : ℕ). get_or core k 0) e) ];
      ahead = λ j a b. omega (arith, is, rising i j 0 (omega (arith, a)) b);
      low = omega (arith, high);
    }

-- after the last vertex
pub listing-end : (n : ℕ) (core order list heads : List ℕ) (i next : ℕ) → length order ≤ i → Listing n core order list i next
    → heads ≡ parts_from n no_part next (n + 1 - next) → list ++ heads ≡ with_heads n order core
listing-end n core order list heads i next l h heads-is =
    let all : take i order ≡ order = take_all i order l in
    end-made n core order list heads next (omega (arith, h.low)) (λ y m. h.below y (ap (member y) all ∙ m))
    (h.list_is ∙ ap (λ (zs : List ℕ). parts_from n (level_part core zs) 0 next) all) heads-is

-- The list with heads as the list of a table. --------------------------------------------------------

-- no earlier head is among the parts
head-out : (n k : ℕ) (part : ℕ → List ℕ) (from count : ℕ) → HaveVertices n part → k < from → member (n + k) (parts_from n part from count) ≡ false
head-out n k part from zero h l = refl
head-out n k part from (suc count) h l =
    ap₂ (λ (a b : Bool). a || b) (ne_eqb (n + k) (n + from) (λ e. omega (arith, e, l)))
    (append-not_member (n + k) (part from) (parts_from n part (suc from) count) (no_head n k part from h)
    (head-out n k part (suc from) count h (omega (arith, l))))

-- no item comes twice
parts-distinct : (n : ℕ) (part : ℕ → List ℕ) (k count : ℕ) → HaveVertices n part → AreApart part → ((j : ℕ) → Distinct (part j))
    → Distinct (parts_from n part k count)
parts-distinct n part k zero h apart d = tt
parts-distinct n part k (suc count) h apart d = (
  append-not_member (n + k) (part k) (parts_from n part (suc k) count) (no_head n k part k h) (head-out n k part (suc k) count h (omega arith)),
  Distinct-append (part k) (parts_from n part (suc k) count) (d k) (parts-distinct n part (suc k) count h apart d)
      (λ y m. parts-not_member n y part (suc k) count (h k y m) (λ j l. false_from_ne_true (member y (part j)) (λ q. omega (arith, apart k j y m q, l)))),
)

-- each item is below the heads that follow
parts-within : (n x : ℕ) (part : ℕ → List ℕ) (k count : ℕ) → HaveVertices n part → member x (parts_from n part k count) ≡ true → x < n + (k + count)
parts-within n x part k zero h m = absurd (false≢true m)
parts-within n x part k (suc count) h m = elim (member-cases x (n + k) (part k ++ parts_from n part (suc k) count) m) [
  | inl e ↦ omega (arith, e)
  | inr q ↦ elim (member-append x (part k) (parts_from n part (suc k) count) q) [
    | inl r ↦ let l : x < n = h k x r in omega (arith, l)
    | inr r ↦ omega (arith, parts-within n x part (suc k) count h r)
  ]
]

-- a vertex of a part is in the list
parts-member : (n v j : ℕ) (part : ℕ → List ℕ) (k count : ℕ) → k ≤ j → j < k + count → member v (part j) ≡ true → member v (parts_from n part k count) ≡ true
parts-member n v j part k zero low high m = absurd (omega (arith, low, high))
parts-member n v j part k (suc count) low high m = elim (cases_eq k j) [
  | inl e ↦ member-tail v (n + k) (part k ++ parts_from n part (suc k) count)
      (member-append_left v (part k) (parts_from n part (suc k) count) (ap (λ (i : ℕ). member v (part i)) e ∙ m))
  | inr ne ↦ member-tail v (n + k) (part k ++ parts_from n part (suc k) count)
      (member-append_right v (part k) (parts_from n part (suc k) count)
      (parts-member n v j part (suc k) count (omega (arith, low, ne)) (omega (arith, high)) m))
]

-- distinct items below 2n + 1, each vertex among them
pub record IsItems (n : ℕ) (list : List ℕ) : Type 0 where
  pub distinct : Distinct list
  pub within : (x : ℕ) → member x list ≡ true → x < 2 * n + 1
  pub vertices : (v : ℕ) → v < n → member v list ≡ true

-- the list with heads has each vertex, and no item twice
heads-items : (n : ℕ) (order core : List ℕ) → Enumerates n order → ((v : ℕ) → v < n → get_or core v 0 < n) → IsItems n (with_heads n order core)
unfolding with_heads
heads-items n order core e low =
    let part : ℕ → List ℕ = level_part core order in
    let have : HaveVertices n part = levels-have n core order (order-below n order e) in
    record {
      distinct = parts-distinct n part 0 (suc n) have (levels-apart core order)
          (λ j. Distinct-filter (λ v. eqb (get_or core v 0) j) order (order-distinct n order e));
      within = λ x m. omega (arith, parts-within n x part 0 (suc n) have m);
      vertices = λ v l. parts-member n v (get_or core v 0) part 0 (suc n) (omega arith) (omega (arith, low v l))
          (filter-member (λ y. eqb (get_or core y 0) (get_or core v 0)) v order (member-from_Contains order v (e.complete v l))
          (eq-eqb (get_or core v 0) (get_or core v 0) refl));
    }

-- the list that was built has each vertex, and no item twice
pub list-items : (n : ℕ) (order core list items : List ℕ) → Enumerates n order → ((v : ℕ) → v < n → get_or core v 0 < n)
    → items ≡ with_heads n order core → list ≡ items → IsItems n list
list-items n order core list items e low is same = subst (IsItems n) (sym (same ∙ is)) (heads-items n order core e low)

-- the stamps of the opening words
pub stamp-opens : (words list stamps core : List ℕ) (n base v : ℕ) → list ≡ words
    → ((v : ℕ) → v < n → get_or words v 0 ≡ vertex_word (record { stamp = get_or stamps v 0; core = get_or core v 0 }))
    → ((v : ℕ) → v < n → get_or stamps v 0 ≤ base) → ((v : ℕ) → v < n → get_or core v 0 < n) → base < 2 ^ STAMP_BITS → n ≤ VERTICES → v < n
    → (vertex_of (get_or list v 0)).stamp ≤ base
stamp-opens words list stamps core n base v same each most low fits few l =
    let fields = fields-back (get_or stamps v 0) (get_or core v 0) (omega (arith, most v l, fits)) (omega (arith, low v l, few)) in
    omega (arith, most v l, fields.0, ap (λ (z : ℕ). (vertex_of z).stamp) (ap (λ (zs : List ℕ). get_or zs v 0) same ∙ each v l))

-- a fresh table with its levels
pub opened-levels : (words : TableName) (n : ℕ) (order core stamps : List ℕ) (base version : ℕ) → words.shape.items ≡ 2 * n + 1
    → words.shape.fixed ≡ n → words.shape.base ≡ base → words.shape.version ≡ version
    → n ≡ length core → length stamps ≡ n → n ≤ VERTICES → base < 2 ^ STAMP_BITS → Enumerates n order
    → AllPairs (λ v w. get_or core v 0 ≤ get_or core w 0) order → ((v : ℕ) → v < n → get_or core v 0 < n) → ((v : ℕ) → v < n → get_or stamps v 0 ≤ base)
    → Legal words.shape words.opening [] → list_after words [] ≡ with_heads n order core
    → ((v : ℕ) → v < n → get_or words.opening (first_vertex words.shape + v) 0 ≡ vertex_word (record { stamp = get_or stamps v 0; core = get_or core v 0 }))
    → Tallied (levelled (record { table = words; log = [] }) core false) stamps base n
    × OpensLevels order core stamps base version words (levelled (record { table = words; log = [] }) core false)
    (record { table = words; log = []; loads = 0; splits = 0 })
opened-levels words n order core stamps base version items fixed base-is version-is long long' few fits enumerates pairs low most lawful list vertex =
    let s : Seen = record { table = words; log = [] } in
    let shape = words.shape in
    let state : TableState = state_of shape words.opening [] in
    let at : state ≡ opened shape words.opening = state_of-nil shape words.opening in
    let none : state.unsealed ≡ [] = ap (λ (z : TableState). z.unsealed) at in
    let rises = Rises-from_pairs core order pairs in
    let order-is : vertices_of shape.fixed (list_after words []) ≡ order =
    ap₂ (λ (k : ℕ) (l : List ℕ). vertices_of k l) fixed list
    ∙ vertices-order n core order rises (λ y m. let l : y < n = order-below n order enumerates y m in (l, omega (arith, low y l))) in
    let word : (v : ℕ) → v < n → get_or state.words (first_vertex shape + v) 0 ≡ vertex_word
    (record { stamp = get_or stamps v 0; core = get_or core v 0 }) = λ v l. ap (λ (z : TableState). get_or z.words (first_vertex shape + v) 0) at
    ∙ vertex v l in
    let fields : (v : ℕ) → v < n → ((vertex_of (get_or state.words (first_vertex shape + v) 0)).stamp ≡ get_or stamps v 0)
    × ((vertex_of (get_or state.words (first_vertex shape + v) 0)).core ≡ get_or core v 0) = λ v l.
    let f = fields-back (get_or stamps v 0) (get_or core v 0) (omega (arith, most v l, fits)) (omega (arith, low v l, few)) in
    (ap (λ (z : ℕ). (vertex_of z).stamp) (word v l) ∙ f.0, ap (λ (z : ℕ). (vertex_of z).core) (word v l) ∙ f.1) in
    let are : AreLevels (levelled s core false) = record {
      legal = lawful;
      items = omega (arith, items, fixed);
      few = omega (arith, few, fixed);
      list = list ∙ ap₂ (λ (k : ℕ) (o : List ℕ). with_heads k o core) (sym fixed) (sym order-is);
      enumerates = enumerates-listed s lawful;
      rising = subst (Rises core) (sym order-is) rises;
      long = sym long ∙ sym fixed;
      low = λ v l. omega (arith, low v (omega (arith, l, fixed)), fixed);
      quiet = λ w. subst (λ (z : TableState). FollowsNote z.note w) (sym at) tt;
      words = λ v l out. (fields v (omega (arith, l, fixed))).1;
      unsealed = λ v m. absurd (false≢true (sym (ap (member v) none) ∙ m));
      inside = λ q. absurd (false≢true q);
      closed = λ q. none;
    } in
    let no-entries : length state.entries ≡ 0 = ap (λ (z : TableState). length z.entries) at in (
      record {
        are = are;
        long = long' ∙ sym fixed;
        stamps_are = λ v l. sym (fields v (omega (arith, l, fixed))).0;
        number_is = omega (arith, base-is, no-entries);
        number_fits = fits;
        size_is = sym fixed;
      },
      record {
        is = λ i. record { table = words; log = []; order = order-is i; core = core; open_ = false };
        pass_is = refl;
        are = are;
        size = fixed ∙ long;
        base_is = base-is;
        version_is = version-is;
        stamps_are = λ v l. (fields v (omega (arith, l, long))).0;
      },
    )

-- a fresh table with its levels, in the words of the code
pub open-leaves : (words : TableName) (writer : Seen) (pass : PassSeen) (shape : Shape) (n : ℕ) (order core stamps levels kept list items vertex : List ℕ)
    (base version : ℕ) → words.shape ≡ shape → shape.items ≡ 2 * n + 1 → shape.fixed ≡ n → shape.base ≡ base → shape.version ≡ version
    → n ≡ length core → length stamps ≡ n → n ≤ VERTICES → base < 2 ^ STAMP_BITS → Enumerates n order
    → AllPairs (λ v w. get_or core v 0 ≤ get_or core w 0) order → ((v : ℕ) → v < n → get_or core v 0 < n) → ((v : ℕ) → v < n → get_or stamps v 0 ≤ base)
    → Legal words.shape words.opening [] → list_after words [] ≡ list → list ≡ items → items ≡ with_heads n order core
    → ((v : ℕ) → v < n → get_or words.opening (first_vertex shape + v) 0 ≡ get_or vertex v 0)
    → ((v : ℕ) → v < n → get_or vertex v 0 ≡ vertex_word (record { stamp = get_or stamps v 0; core = get_or core v 0 }))
    → writer ≡ record { table = words; log = [] } → pass ≡ record { table = words; log = []; loads = 0; splits = 0 } → levels ≡ core → kept ≡ stamps
    → Tallied (levelled writer levels false) kept base n × OpensLevels order core stamps base version words (levelled writer levels false) pass
open-leaves words writer pass shape n order core stamps levels kept list items vertex base version shape-is i-is f-is b-is v-is long long' few fits
    enumerates pairs low most lawful listed same is opening each writer-is pass-is levels-is kept-is =
    let done = opened-levels words n order core stamps base version (ap (λ (z : Shape). z.items) shape-is ∙ i-is)
    (ap (λ (z : Shape). z.fixed) shape-is ∙ f-is) (ap (λ (z : Shape). z.base) shape-is ∙ b-is) (ap (λ (z : Shape). z.version) shape-is ∙ v-is)
    long long' few fits enumerates pairs low most lawful (listed ∙ (same ∙ is))
    (λ v l. ap (λ (z : Shape). get_or words.opening (first_vertex z + v) 0) shape-is ∙ (opening v l ∙ each v l)) in
    subst (λ (z : (Seen × PassSeen) × (List ℕ × List ℕ)). Tallied (levelled z.0.0 z.1.0 false) z.1.1 base n
    × OpensLevels order core stamps base version words (levelled z.0.0 z.1.0 false) z.0.1)
    (λ i. ((sym writer-is i, sym pass-is i), (sym levels-is i, sym kept-is i))) done
