-- A batch in any order has just its updates, so it leaves its graph, also behind the entries of a run.
use Rattle.std.proofs.Common.{◌≡◌, ◌≤◌, ◌<◌, ◌+◌, ℕ, Bool, true, ◌||◌, List, [], ◌∷◌, ◌++◌, length, map, refl, sym, ◌∙◌, ap, ap₂, subst, inl, inr, arith}
use Rattle.std.specs.Prelude.{All}
use Rattle.std.specs.Cmp.{both_ways}
use Rattle.std.specs.List.{AllByRecursion, list_any}
use Rattle.std.proofs.lemmas.Bool.{false≢true, or_cases, or_left, or_right}
use Rattle.std.proofs.lemmas.List.{length-append, length-map, map-append}
use Rattle.std.proofs.lemmas.List.Elements.{All-weaker, recursion_from_All}
use Rattle.std.proofs.lemmas.List.Folds.{list_any-append}
use Rattle.kc_lists.specs.Lists.{member, Distinct}
use Rattle.kc_lists.proofs.Members.{member-cases}
use Rattle.kc_graph.specs.SimpleGraph.{SimpleGraph}
use Rattle.kc_graph.specs.declared.update.Update.{Update}
use Rattle.kc_table.specs.declared.entry.Entry.{Entry}
use Rattle.kc_table.specs.Edges.{after_entries}
use Rattle.kc_table.proofs.LegalLogs.{after_entries-append}
use Rattle.kc_text.specs.Inputs.{EdgeUpdate, IsBatch, parts_of}
use Rattle.kc_agree.specs.Stamps.{changes_graph}
use Rattle.kc_batch_effects.specs.Batches.{graph_after_batch, is_effective}
use Rattle.kc_batch_effects.specs.Entered.{AreSomeOf, IsIndexOf, IsOneOf, IsOrderOf, IsUpdateAt, parts_of_entry, indices}
use Rattle.kc_batch_effects.proofs.Applying.{graph_after_batch-same}
use Rattle.kc_batch_effects.proofs.OneByOne.{changes-anywhere, in_turn, index-within, one-at}
use Rattle.kc_batch_effects.proofs.Rows.{AreOfRow, as-many-are-all}

-- what has an index of the batch each has its indices in the row of the batch
pub names-of-row : {X : Type 0} (name : X → ℕ) (first : ℕ) (batch : List Update) (xs : List X)
    → AllByRecursion (λ x. IsIndexOf first batch (name x)) xs → AreOfRow first (length batch) (map name xs)
names-of-row name first batch [] all x m = absurd (false≢true m)
names-of-row name first batch (y ∷ ys) all x m = elim (member-cases x (name y) (map name ys) m) [
  | inl e ↦ let h = all.0 in (omega (arith, h.0, e), omega (arith, h.1, e))
  | inr k ↦ names-of-row name first batch ys all.1 x k
]

-- as many as the batch has are all of it
pub has-each : (first : ℕ) (batch : List Update) (made : List Entry) → IsOrderOf first batch made → (place : ℕ) → place < length batch
    → member (first + place) (indices made) ≡ true
has-each first batch made order =
    let within : All (λ (e : Entry). IsIndexOf first batch e.index) made =
    All-weaker (IsOneOf first batch) (λ e. IsIndexOf first batch e.index) (λ e of-e. index-within first batch e.index of-e.0 of-e.1) made order.some.each in
    as-many-are-all first (length batch) (indices made) order.some.once
    (names-of-row (λ (e : Entry). e.index) first batch made (recursion_from_All (λ e. IsIndexOf first batch e.index) made within))
    (length-map made (λ (e : Entry). e.index) ∙ order.as_many)

-- a test that an update of the batch passes is passed by the batch
any-at : (p : EdgeUpdate → Bool) (first : ℕ) (batch : List Update) (index : ℕ) (u : Update) → IsUpdateAt first batch index u → p (parts_of u) ≡ true
    → list_any p (map parts_of batch) ≡ true
any-at p first batch index u at passes =
    let split : map parts_of batch ≡ map parts_of at.front ++ parts_of u ∷ map parts_of at.back =
    ap (map parts_of) at.is ∙ map-append parts_of at.front (u ∷ at.back) in
    ap (list_any p) split ∙ (list_any-append p (map parts_of at.front) (parts_of u ∷ map parts_of at.back)
    ∙ or_right (list_any p (map parts_of at.front)) (p (parts_of u) || list_any p (map parts_of at.back))
    (or_left (p (parts_of u)) (list_any p (map parts_of at.back)) passes))

-- a test that entries of the batch pass is passed by the batch
entries_test-in_batch : (p : EdgeUpdate → Bool) (first : ℕ) (batch : List Update) (es : List Entry) → AllByRecursion (IsOneOf first batch) es
    → list_any p (map parts_of_entry es) ≡ true → list_any p (map parts_of batch) ≡ true
entries_test-in_batch p first batch [] all h = absurd (false≢true h)
entries_test-in_batch p first batch (e ∷ es) all h = elim (or_cases (p (parts_of_entry e)) (list_any p (map parts_of_entry es)) h) [
  | inl passes ↦ any-at p first batch e.index all.0.0 all.0.1 (ap p (sym all.0.2) ∙ passes)
  | inr k ↦ entries_test-in_batch p first batch es all.1 k
]

-- what the batch passes is passed by an update at some place
found-at : (p : EdgeUpdate → Bool) (us : List Update) → list_any p (map parts_of us) ≡ true
    → (front : List Update) × (u : Update) × (back : List Update) × (us ≡ front ++ u ∷ back) × (p (parts_of u) ≡ true)
found-at p [] h = absurd (false≢true h)
found-at p (x ∷ us) h = elim (or_cases (p (parts_of x)) (list_any p (map parts_of us)) h) [
  | inl passes ↦ ([], x, us, refl, passes)
  | inr k ↦ let r = found-at p us k in (x ∷ r.0, r.1, r.2, ap (λ (zs : List Update). x ∷ zs) r.3, r.4)
]

-- an update that passes has an entry that does, where an entry has its index
entry-passes : (p : EdgeUpdate → Bool) (first : ℕ) (batch : List Update) (index : ℕ) (u : Update) → IsUpdateAt first batch index u → p (parts_of u) ≡ true
    → (es : List Entry) → AllByRecursion (IsOneOf first batch) es → member index (indices es) ≡ true → list_any p (map parts_of_entry es) ≡ true
entry-passes p first batch index u at passes [] all m = absurd (false≢true m)
entry-passes p first batch index u at passes (e ∷ es) all m = elim (member-cases index e.index (indices es) m) [
  | inl same ↦ or_left (p (parts_of_entry e)) (list_any p (map parts_of_entry es))
      (ap p (all.0.2 ∙ one-at first batch e.index index all.0.0 u all.0.1 at (sym same)) ∙ passes)
  | inr k ↦ or_right (p (parts_of_entry e)) (list_any p (map parts_of_entry es)) (entry-passes p first batch index u at passes es all.1 k)
]

module _ (first vertices : ℕ) (batch : List Update) (is_batch : IsBatch vertices batch) where
  -- a test is passed by the entries where the batch passes it
  same-updates : (made : List Entry) → IsOrderOf first batch made → (p : EdgeUpdate → Bool)
      → list_any p (map parts_of_entry made) ≡ list_any p (map parts_of batch)
  same-updates made order p =
      let all = recursion_from_All (IsOneOf first batch) made order.some.each in
      both_ways (list_any p (map parts_of_entry made)) (list_any p (map parts_of batch))
      (entries_test-in_batch p first batch made all)
      (λ h.
      let r = found-at p batch h in
      let at : IsUpdateAt first batch (first + length r.0) r.1 = record { front = r.0; back = r.2; is = r.3; index_is = refl } in
      let early : length r.0 < length batch = omega (arith, ap length r.3, length-append r.0 (r.1 ∷ r.2)) in
      entry-passes p first batch (first + length r.0) r.1 at r.4 made all (has-each first batch made order (length r.0) early))

  -- so a batch in any order leaves its graph
  pub leaves-its-graph : (g : SimpleGraph) (made : List Entry) → IsOrderOf first batch made → after_entries g made ≡ graph_after_batch g (map parts_of batch)
  leaves-its-graph g made order =
      in_turn first vertices batch is_batch g made (recursion_from_All (IsOneOf first batch) made order.some.each) order.some.once
      ∙ graph_after_batch-same g (map parts_of_entry made) (map parts_of batch) (same-updates made order)

-- behind the entries of a run too
pub leaves-its-graph_behind : (started : SimpleGraph) (before : List Entry) (vertices first : ℕ) (batch : List Update) (made : List Entry)
    → IsBatch vertices batch → IsOrderOf first batch made
    → after_entries started (before ++ made) ≡ graph_after_batch (after_entries started before) (map parts_of batch)
leaves-its-graph_behind started before vertices first batch made is_batch order =
    after_entries-append started before made ∙ leaves-its-graph first vertices batch is_batch (after_entries started before) made order

-- an entry that stands behind so many others stands among the rest
pub cut-behind : (before made front : List Entry) (e : Entry) (back : List Entry) → before ++ made ≡ front ++ e ∷ back → length before ≤ length front
    → (middle : List Entry) × (front ≡ before ++ middle) × (made ≡ middle ++ e ∷ back)
cut-behind [] made front e back h l = (front, refl, h)
cut-behind (b ∷ before) made [] e back h l = absurd (omega arith)
cut-behind (b ∷ before) made (f ∷ front) e back h l =
    let head : f ≡ b = cc in
    let tail : before ++ made ≡ front ++ e ∷ back = cc in
    let r = cut-behind before made front e back tail (omega arith) in
    (r.0, ap₂ (λ (x : Entry) (xs : List Entry). x ∷ xs) head r.1, r.2)

-- whichever updates of its batch were entered before it, an entry does what it would do first
pub does-what-it-would : (started : SimpleGraph) (before made front back : List Entry) (e : Entry) (vertices first : ℕ) (batch : List Update)
    → IsBatch vertices batch → AreSomeOf first batch made → before ++ made ≡ front ++ e ∷ back → length before ≤ length front
    → changes_graph e (after_entries started front) ≡ is_effective (after_entries started before).edges (parts_of_entry e)
does-what-it-would started before made front back e vertices first batch is_batch some is later =
    let r = cut-behind before made front e back is later in
    let all : AllByRecursion (IsOneOf first batch) (r.0 ++ e ∷ back) = subst (AllByRecursion (IsOneOf first batch)) r.2
    (recursion_from_All (IsOneOf first batch) made some.each) in
    let once : Distinct (indices (r.0 ++ e ∷ back)) = subst (λ (es : List Entry). Distinct (indices es)) r.2 some.once in
    ap (λ (es : List Entry). changes_graph e (after_entries started es)) r.1
    ∙ (ap (changes_graph e) (after_entries-append started before r.0)
    ∙ changes-anywhere first vertices batch is_batch (after_entries started before) r.0 e back all once)
