-- What a load of an item's word tells of the list.
use Rattle.std.proofs.Common.{◌≡◌, ℕ, ◌+◌, ◌<◌, ◌≤◌, true, false, List, refl, sym, ap, ◌∙◌, subst, inl, inr, arith}
use Rattle.std.proofs.lemmas.Bool.{cases_Bool, cases_lt, true≢false, false_from_ne_true}
use Rattle.kc_lists.specs.Lists.{member}
use Rattle.kc_words.specs.ItemWord.{item_of}
use Rattle.kc_words.specs.Order as order
use Rattle.kc_table.specs.declared.view.Event.{Event}
use Rattle.kc_table.specs.Log.{PassSeen, TableName, value_at, words_after}
use Rattle.kc_table.specs.Legal.{Legal}
use Rattle.kc_table.proofs.LegalLogs.{legal-holds, state_of-words}
use Rattle.kc_table.proofs.Listed.{list-stands}
use Rattle.kc_order.specs.Standing.{list_after, EndsCollect, FoundIn, FoundOut, LoadsWord}
use Rattle.kc_order.specs.declared.answer.Answer.{Answer}
use Rattle.kc_order.specs.declared.answer.Answer.TheVariants.{Absent}

-- the words order the list after a legal log
pub ordered_after : (table : TableName) (log : List Event) → Legal table.shape table.opening log
    → order.Ordered table.shape.items (words_after table.opening log) (list_after table log)
ordered_after table log legal =
    subst (λ ws. order.Ordered table.shape.items ws (list_after table log)) (state_of-words table.shape table.opening log)
    (legal-holds table.shape table.opening log legal).ordered

-- an item whose word names a group is in the list
pub found_in : (table : TableName) (log : List Event) (x value : ℕ) → Legal table.shape table.opening log → x < table.shape.items
    → value ≡ value_at table.opening log (1 + x) → 0 < (item_of value).group
    → (member x (list_after table log) ≡ true) × ((item_of value).group ≤ table.shape.items + 1)
found_in table log x value legal below is some =
    let o = ordered_after table log legal in
    let here : (item_of value).group ≡ (item_of (value_at table.opening log (1 + x))).group = ap (λ v. (item_of v).group) is in
    elim (cases_Bool (member x (list_after table log))) [
      | inl m ↦ (m, omega (arith, (o.inside x m).1, here))
      | inr m ↦ absurd (omega (arith, o.outside x below m, here, some))
    ]

-- one whose word names none is out of it, and no vertex
pub found_out : (old new : PassSeen) (x value : ℕ) → LoadsWord old new (1 + x) value → x < new.table.shape.items → (item_of value).group ≡ 0
    → FoundOut old new x
found_out old new x value one below none =
    let o = ordered_after new.table new.log one.legal in
    let here : (item_of value).group ≡ (item_of (value_at new.table.opening new.log (1 + x))).group = ap (λ v. (item_of v).group) one.held in
    let list = list_after new.table new.log in
    let out : member x list ≡ false = false_from_ne_true (member x list) (λ m. omega (arith, (o.inside x m).0, here, none)) in
    record {
      value = value;
      loaded = one;
      out = none;
      absent = out;
      no_vertex = elim (cases_lt x new.table.shape.fixed) [
        | inl lt ↦ absurd (true≢false (sym ((list-stands new.table.shape new.table.opening new.log one.legal).listed.vertices x lt) ∙ out))
        | inr ge ↦ ge
      ];
    }

-- y was found to be out after x was found to be in
pub absent_second : (old middle new : PassSeen) (x y value : ℕ) (a : Answer) → LoadsWord old middle (1 + x) value → 0 < (item_of value).group
    → (a ≡ Absent y) × FoundOut middle new y → EndsCollect old new x y a
absent_second old middle new x y value a one some h =
    let found : FoundIn old middle x = record { value = value; loaded = one; inside = some } in
    subst (EndsCollect old new x y) (sym h.0) (inr (refl, (middle, found, h.1)))
