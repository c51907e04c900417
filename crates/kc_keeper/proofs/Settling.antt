-- Earlier numbers become changes: beside each the number that its vertex has now, without those that are the same, and in order.
use Rattle.std.proofs.Common.{◌≡◌, ◌≢◌, ◌<◌, ◌≤◌, ◌+◌, ℕ, Bool, true, not, cond, List, [], ◌∷◌, length, get_or, map, eqb, eq-eqb}
use Rattle.std.proofs.Common.{refl, sym, ap, ◌∙◌, subst, arith, inl, inr}
use Rattle.std.specs.List.{All, filter}
use Rattle.std.specs.List.Sorted.{IsPermutation, IsNonDecreasingBy, IsStrictlyIncreasing}
use Rattle.std.proofs.lemmas.List.{get_or-map, length-map}
use Rattle.std.proofs.lemmas.List.Sorted.{All-permutation, IsPermutation-map, list_any-IsPermutation, sum_by-IsPermutation}
use Rattle.std.proofs.lemmas.List.Elements.{All-filter, All-head, All-map, All-nil, All-tail, All-weaker, filter_passes}
use Rattle.std.proofs.lemmas.Bool.{cases_Bool, false≢true, false_from_ne_true, ne_eqb}
use Rattle.kc_lists.specs.Lists.{Distinct, member, times}
use Rattle.kc_lists.proofs.Counting.{Contains-from_member, Distinct-from_pairs, Distinct-permutation, pairs_from_Distinct}
use Rattle.kc_lists.proofs.Members.{member-cases, member-head, member-tail}
use Rattle.kc_lists.proofs.Shared.{get_or-any}
use Rattle.kc_keeper.specs.Cores.{AreCoreChanges, IsCoreChange, changed_vertices}
use Rattle.kc_keeper.specs.Earlier.{AreEarlier, AreIndexed, IsEarlier, with_number_now}
use Rattle.kc_keeper.specs.declared.changes.CoreChange.{CoreChange}
use Rattle.kc_keeper.specs.declared.earlier.EarlierNumbers.{EarlierNumbers}

-- whether the number of a change is another one than before
abbrev pub differs : CoreChange → Bool
differs c = not (eqb c.before c.now)

-- the list before it is sorted
abbrev pub settled : List ℕ → List CoreChange → List CoreChange
settled core cs = filter differs (map (with_number_now core) cs)

-- No vertex twice. ---------------------------------------------------------------------------------------

-- an indexed list has no vertex twice
indexed-distinct : (places vertices : List ℕ) → AreIndexed places vertices → Distinct vertices
indexed-distinct places vertices indexed = Distinct-from_pairs vertices (λ i j d low below e.
    let at : (k : ℕ) → k < length vertices → get_or places (get_or vertices k d) 0 ≡ k =
    (λ k l. ap (λ (v : ℕ). get_or places v 0) (get_or-any vertices k d 0 l) ∙ indexed k l) in
    absurd (omega (arith, at i (omega arith), at j below, ap (λ (v : ℕ). get_or places v 0) e)))

-- what settles has the vertices of some that were there
settled-member : (core : List ℕ) (cs : List CoreChange) (v : ℕ) → member v (changed_vertices (settled core cs)) ≡ true
    → member v (changed_vertices cs) ≡ true
settled-member core [] v m = m
settled-member core (c ∷ cs) v m =
    let rest : List CoreChange = settled core cs in
    let Has : Bool → Type 0 = λ b. member v (changed_vertices (cond b (with_number_now core c ∷ rest) rest)) ≡ true in
    elim (cases_Bool (differs (with_number_now core c))) [
      | inl holds ↦ elim (member-cases v c.vertex (changed_vertices rest) (subst Has holds m)) [
        | inl e ↦ subst (λ (x : ℕ). member x (changed_vertices (c ∷ cs)) ≡ true) (sym e) (member-head c.vertex (changed_vertices cs))
        | inr k ↦ member-tail v c.vertex (changed_vertices cs) (settled-member core cs v k)
      ]
      | inr fails ↦ member-tail v c.vertex (changed_vertices cs) (settled-member core cs v (subst Has fails m))
    ]

-- and none of them twice
settled-distinct : (core : List ℕ) (cs : List CoreChange) → Distinct (changed_vertices cs) → Distinct (changed_vertices (settled core cs))
settled-distinct core [] d = d
settled-distinct core (c ∷ cs) d =
    let rest : List CoreChange = settled core cs in
    let Once : Bool → Type 0 = λ b. Distinct (changed_vertices (cond b (with_number_now core c ∷ rest) rest)) in
    elim (cases_Bool (differs (with_number_now core c))) [
      | inl holds ↦ subst Once (sym holds) (
        false_from_ne_true (member c.vertex (changed_vertices rest)) (λ m. false≢true (sym d.0 ∙ settled-member core cs c.vertex m)),
        settled-distinct core cs d.1,
      )
      | inr fails ↦ subst Once (sym fails) (settled-distinct core cs d.1)
    ]

-- numbers that are not the same differ
differs-yes : (a b : ℕ) → a ≢ b → not (eqb a b) ≡ true
differs-yes a b ne = ap not (ne_eqb a b ne)

-- a vertex that was there stays where its number is another one now
member-settled : (start core : List ℕ) (cs : List CoreChange) (v : ℕ) → All (IsEarlier start) cs → get_or start v 0 ≢ get_or core v 0
    → member v (changed_vertices cs) ≡ true → member v (changed_vertices (settled core cs)) ≡ true
member-settled start core [] v each ne m = m
member-settled start core (c ∷ cs) v each ne m =
    let rest : List CoreChange = settled core cs in
    let Has : Bool → Type 0 = λ b. member v (changed_vertices (cond b (with_number_now core c ∷ rest) rest)) ≡ true in
    let before : c.before ≡ get_or start c.vertex 0 = (All-head (IsEarlier start) c cs each).1 in
    elim (member-cases v c.vertex (changed_vertices cs) m) [
      | inl e ↦
          let other : c.before ≢ get_or core c.vertex 0 =
          (λ same. ne (ap (λ (x : ℕ). get_or start x 0) e ∙ (sym before ∙ (same ∙ ap (λ (x : ℕ). get_or core x 0) (sym e))))) in
          subst Has (sym (differs-yes c.before (get_or core c.vertex 0) other))
          (subst (λ (x : ℕ). member x (c.vertex ∷ changed_vertices rest) ≡ true) (sym e) (member-head c.vertex (changed_vertices rest)))
      | inr k ↦
          let there : member v (changed_vertices rest) ≡ true = member-settled start core cs v (All-tail (IsEarlier start) c cs each) ne k in
          elim (cases_Bool (differs (with_number_now core c))) [
            | inl holds ↦ subst Has (sym holds) (member-tail v c.vertex (changed_vertices rest) there)
            | inr fails ↦ subst Has (sym fails) there
          ]
    ]

-- What settles is a change of each such vertex. ---------------------------------------------------------------

-- Both numbers of the change are right.
record HasBoth (old new : List ℕ) (c : CoreChange) : Type 0 where
  before : c.before ≡ get_or old c.vertex 0
  now : c.now ≡ get_or new c.vertex 0

-- both are right in all of the list
settled-both : (start core : List ℕ) (cs : List CoreChange) → All (IsEarlier start) cs → All (HasBoth start core) (settled core cs)
settled-both start core cs each =
    All-filter differs (HasBoth start core) (map (with_number_now core) cs) (All-map (HasBoth start core) (with_number_now core) cs
    (All-weaker (IsEarlier start) (λ (c : CoreChange). HasBoth start core (with_number_now core c))
    (λ c is. record { before = is.1; now = refl }) cs each))

-- numbers that differ are not the same
not-same : (a b : ℕ) → not (eqb a b) ≡ true → a ≢ b
not-same a b d e = false≢true (ap not (sym (eq-eqb a b e)) ∙ d)

-- each is a change
settled-each : (start core : List ℕ) (cs : List CoreChange) → All (IsEarlier start) cs → All (IsCoreChange start core) (settled core cs)
settled-each start core cs each = λ k d low.
    let both = settled-both start core cs each k d low in
    let passes : differs (get_or (settled core cs) k d) ≡ true = filter_passes differs (map (with_number_now core) cs) k d low in
    record { before = both.before; now = both.now; differs = not-same _ _ passes }

-- the vertices of changes that are sorted by them ascend, where none comes twice
vertices-ascend : (cs : List CoreChange) → IsNonDecreasingBy (λ c. c.vertex) cs → Distinct (changed_vertices cs)
    → IsStrictlyIncreasing (changed_vertices cs)
vertices-ascend cs rises once k low =
    let vertex_of : CoreChange → ℕ = λ c. c.vertex in
    let none : CoreChange = record { vertex = 0; before = 0; now = 0 } in
    let many : length (changed_vertices cs) ≡ length cs = length-map cs vertex_of in
    let le : (get_or cs k none).vertex ≤ (get_or cs (k + 1) none).vertex = rises k (k + 1) none (omega arith) (omega (arith, low, many)) in
    let here : get_or (changed_vertices cs) k 0 ≡ (get_or cs k none).vertex = get_or-map vertex_of cs k none 0 (omega (arith, low, many)) in
    let next : get_or (changed_vertices cs) (k + 1) 0 ≡ (get_or cs (k + 1) none).vertex =
    get_or-map vertex_of cs (k + 1) none 0 (omega (arith, low, many)) in
    let ne : get_or (changed_vertices cs) k 0 ≢ get_or (changed_vertices cs) (k + 1) 0 =
    pairs_from_Distinct (changed_vertices cs) once k (k + 1) 0 (omega arith) low in
    omega (arith, le, here, next, ne)

-- a vertex whose number is another one now was kept
listed : (start core : List ℕ) (earlier : EarlierNumbers) (v : ℕ) → AreEarlier start core earlier → get_or start v 0 ≢ get_or core v 0
    → member v (changed_vertices earlier.cores.items) ≡ true
listed start core earlier v h ne = elim (cases_Bool (member v (changed_vertices earlier.cores.items))) [
  | inl holds ↦ holds
  | inr fails ↦ absurd (ne (sym (h.others v fails)))
]

-- what settles and is sorted is what changed
pub settled-changes : {start core : List ℕ} {earlier : EarlierNumbers} (sorted : List CoreChange) → AreEarlier start core earlier
    → IsPermutation (settled core earlier.cores.items) sorted → IsNonDecreasingBy (λ c. c.vertex) sorted → AreCoreChanges start core sorted
settled-changes {start} {core} {earlier} sorted h p rises =
    let cs : List CoreChange = earlier.cores.items in
    let unsorted : List CoreChange = settled core cs in
    let vertices : IsPermutation (changed_vertices unsorted) (changed_vertices sorted) =
    IsPermutation-map (λ (c : CoreChange). c.vertex) unsorted sorted p in
    let once : Distinct (changed_vertices unsorted) =
    settled-distinct core cs (indexed-distinct earlier.places.items (changed_vertices cs) h.indexed) in
    record {
      ascending = vertices-ascend sorted rises (Distinct-permutation (changed_vertices unsorted) (changed_vertices sorted) vertices once);
      each = All-permutation (IsCoreChange start core) unsorted sorted p (settled-each start core cs h.each);
      all = λ v ne. Contains-from_member (changed_vertices sorted) v
          (sym (list_any-IsPermutation (eqb v) (changed_vertices unsorted) (changed_vertices sorted) vertices)
          ∙ member-settled start core cs v h.each ne (listed start core earlier v h ne));
    }

-- a batch begins with nothing kept
pub earlier-none : (core : List ℕ) (earlier : EarlierNumbers) → earlier.cores.items ≡ [] → AreEarlier core core earlier
earlier-none core earlier none = record {
  long = refl;
  each = subst (All (IsEarlier core)) (sym none) (All-nil (IsEarlier core));
  indexed = subst (λ (cs : List CoreChange). AreIndexed earlier.places.items (changed_vertices cs)) (sym none) (λ i low. absurd (omega (arith, low)));
  others = λ v _. refl;
}
