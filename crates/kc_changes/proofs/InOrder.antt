-- Changes that are sorted by their ids are those of the changed ids in ascending order, and so are their lines.
use Rattle.std.proofs.Common.{◌≡◌, ◌≢◌, ◌≤◌, ◌+◌, ℕ, true, List, [], ◌∷◌, ◌++◌, length, get_or, filter, nat_eq, Option, Some, None}
use Rattle.std.proofs.Common.{refl, sym, ap, ap₂, ◌∙◌, subst, arith, inl, inr}
use Rattle.std.specs.Cmp.{both_ways}
use Rattle.std.specs.List.{All, flat_map}
use Rattle.std.specs.List.Sorted.{IsPermutation, IsNonDecreasingBy, IsStrictlyIncreasing}
use Rattle.std.proofs.lemmas.List.{get_or-map, length-map}
use Rattle.std.proofs.lemmas.List.Elements.{All-head, All-tail, All-weaker}
use Rattle.std.proofs.lemmas.List.Sorted.{All-permutation, IsPermutation-map, list_any-IsPermutation}
use Rattle.kc_lists.specs.Lists.{Distinct, member}
use Rattle.kc_lists.proofs.Counting.{Distinct-permutation, filter-member, member-filter, pairs_from_Distinct}
use Rattle.kc_lists.proofs.Members.{member-cases}
use Rattle.kc_changes.specs.Changed.{AreIdChanges, IsIdChange, change_facts, changed_ids, crossing_facts, crossing_of, ids_in, is_changed}
use Rattle.kc_changes.specs.Telling.{AreInOrder, HasBothNumbers, change_text, crossing_text}
use Rattle.kc_changes.specs.declared.id_change.IdChange.{IdChange}
use Rattle.kc_changes.specs.declared.show.Show.TheVariants.{Changes}
use Rattle.kc_changes.proofs.Ascending.{ascending-is}
use Rattle.kc_reply.specs.Facts.{Fact}
use Rattle.kc_reply.specs.Facts as fact
use Rattle.kc_reply.specs.Texts.{fact_text, facts_text}
use Rattle.kc_reply.specs.declared.reply_format.ReplyFormat.{ReplyFormat}
use Rattle.kc_reply.proofs.Texts.{texts-of_each, texts-of_map}

-- what holds of the id of each change holds of each id of changes
from-ids : (P : ℕ → Type 0) (cs : List IdChange) (q : ℕ) → All (λ (c : IdChange). P c.id) cs → member q (ids_in cs) ≡ true → P q
from-ids P [] q each m = absurd (cc)
from-ids P (c ∷ cs) q each m = elim (member-cases q c.id (ids_in cs) m) [
  | inl e ↦ subst P (sym e) (All-head (λ (x : IdChange). P x.id) c cs each)
  | inr later ↦ from-ids P cs q (All-tail (λ (x : IdChange). P x.id) c cs each) later
]

-- the ids of changes that are sorted by them ascend, where none comes twice
ids-ascend : (cs : List IdChange) → IsNonDecreasingBy (λ c. c.id) cs → Distinct (ids_in cs) → IsStrictlyIncreasing (ids_in cs)
ids-ascend cs rises once k low =
    let id_of : IdChange → ℕ = λ c. c.id in
    let none : IdChange = record { id = 0; before = None; now = 0 } in
    let many : length (ids_in cs) ≡ length cs = length-map cs id_of in
    let le : (get_or cs k none).id ≤ (get_or cs (k + 1) none).id = rises k (k + 1) none (omega arith) (omega (arith, low, many)) in
    let here : get_or (ids_in cs) k 0 ≡ (get_or cs k none).id = get_or-map id_of cs k none 0 (omega (arith, low, many)) in
    let next : get_or (ids_in cs) (k + 1) 0 ≡ (get_or cs (k + 1) none).id = get_or-map id_of cs (k + 1) none 0 (omega (arith, low, many)) in
    let ne : get_or (ids_in cs) k 0 ≢ get_or (ids_in cs) (k + 1) 0 = pairs_from_Distinct (ids_in cs) once k (k + 1) 0 (omega arith) low in
    omega (arith, le, here, next, ne)

module _ (before after : ℕ → Option ℕ) where
  -- changes of some ids have just those that are changed
  members-changed : (ids : List ℕ) (cs : List IdChange) → AreIdChanges before after ids cs → (q : ℕ)
      → member q (ids_in cs) ≡ member q (filter (is_changed before after) ids)
  members-changed ids cs are q =
      both_ways (member q (ids_in cs)) (member q (filter (is_changed before after) ids))
      (from-ids (λ (x : ℕ). member x (filter (is_changed before after) ids) ≡ true) cs q
      (All-weaker (IsIdChange before after ids) (λ (c : IdChange). member c.id (filter (is_changed before after) ids) ≡ true)
      (λ c is. filter-member (is_changed before after) c.id ids is.among is.changed) cs are.each))
      (λ m. let (among, changed) = member-filter (is_changed before after) q ids m in are.all q among changed)

  -- sorted by their ids, they stand in order
  pub sorted-in_order : (ids : List ℕ) (old new : List IdChange) → AreIdChanges before after ids old → IsPermutation old new
      → IsNonDecreasingBy (λ c. c.id) new → AreInOrder before after ids new
  sorted-in_order ids old new are moved rises =
      let names : IsPermutation (ids_in old) (ids_in new) = IsPermutation-map (λ (c : IdChange). c.id) old new moved in
      record {
        are = sym (ascending-is (ids_in new) (filter (is_changed before after) ids)
            (ids-ascend new rises (Distinct-permutation (ids_in old) (ids_in new) names are.once))
            (λ q. sym (list_any-IsPermutation (nat_eq q) (ids_in old) (ids_in new) names) ∙ members-changed ids old are q));
        each = All-permutation (HasBothNumbers before after) old new moved
            (All-weaker (IsIdChange before after ids) (HasBothNumbers before after) (λ c is. record { old = is.old; new = is.new }) old are.each);
      }

  -- the lines of changes are those of their ids, in a form that both numbers tell
  lines-of : (line : ℕ → Option ℕ → Option ℕ → List ℕ) (cs : List IdChange) → All (HasBothNumbers before after) cs
      → flat_map (λ (c : IdChange). line c.id c.before (Some c.now)) cs ≡ flat_map (λ id. line id (before id) (after id)) (ids_in cs)
  lines-of line [] each = refl
  lines-of line (c ∷ cs) each =
      let numbers : HasBothNumbers before after c = All-head (HasBothNumbers before after) c cs each in
      ap₂ (λ (l : List ℕ) (ls : List ℕ). l ++ ls) (ap₂ (line c.id) numbers.old numbers.new)
      (lines-of line cs (All-tail (HasBothNumbers before after) c cs each))

  -- so are those of the numbers
  pub change-lines : (format : ReplyFormat) (ids : List ℕ) (cs : List IdChange) → AreInOrder before after ids cs
      → flat_map (change_text format) cs ≡ facts_text format (change_facts Changes before after ids)
  change-lines format ids cs in_order =
      let told : ℕ → Fact = λ id. fact.Change id (before id) (after id) in
      lines-of (λ id old new. fact_text format (fact.Change id old new)) cs in_order.each
      ∙ ap (flat_map (λ id. fact_text format (told id))) in_order.are ∙ sym (texts-of_map format told (changed_ids before after ids))

  -- and of those that came into a core or left it
  pub crossing-lines : (format : ReplyFormat) (k : ℕ) (ids : List ℕ) (cs : List IdChange) → AreInOrder before after ids cs
      → flat_map (crossing_text format k) cs ≡ facts_text format (crossing_facts (Some k) before after ids)
  crossing-lines format k ids cs in_order =
      let told : ℕ → List Fact = λ id. crossing_of k id (before id) (after id) in
      lines-of (λ id old new. facts_text format (crossing_of k id old new)) cs in_order.each
      ∙ ap (flat_map (λ id. facts_text format (told id))) in_order.are ∙ sym (texts-of_each format told (changed_ids before after ids))
