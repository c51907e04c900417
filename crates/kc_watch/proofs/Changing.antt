-- The changes of ids that are listed behind a batch are those of the ids whose core numbers it changes.
use Rattle.std.proofs.Common.{◌≡◌, ◌≢◌, ◌<◌, ◌+◌, ◌-◌, ℕ, suc, Bool, true, false, cond, not, List, [], ◌∷◌, ◌++◌, length, drop, get_or, map}
use Rattle.std.proofs.Common.{nat_eq, Option, Some, None, refl, sym, ap, ap₂, ◌∙◌, subst, arith, inl, inr, eq-eqb, lt-ltb, le-ltb, length-append}
use Rattle.std.specs.Prelude.{option_map, slice_index}
use Rattle.std.specs.List.{All, flat_map, zip}
use Rattle.std.proofs.lemmas.Bool.{cases_lt, false≢true, false_from_ne_true, ne_eqb}
use Rattle.std.proofs.lemmas.List.{drop_at, get_or-drop, get_or_append_left, length-drop, map-append}
use Rattle.std.proofs.lemmas.List.Elements.{All-append, All-cons, All-head, All-nil, All-tail, All-weaker}
use Rattle.std.proofs.lemmas.List.Sums.{position_or_len_is}
use Rattle.kc_lists.specs.Lists.{Distinct, member}
use Rattle.kc_lists.proofs.Counting.{Contains-from_member, member-from_Contains, member-get_or, pairs_from_Distinct}
use Rattle.kc_lists.proofs.Members.{member-append, member-append_left, member-append_right, member-cases, member-head, member-tail}
use Rattle.kc_lists.proofs.Members.{not_member-append, not_member-cons}
use Rattle.kc_lists.proofs.Shared.{Distinct-append, Distinct-back, Distinct-front, get_or-any}
use Rattle.kc_graph.proofs.RowsLemmas.{Distinct-from_increasing}
use Rattle.kc_text.specs.Inputs.{place}
use Rattle.kc_stream.specs.Ids.{number_of}
use Rattle.kc_answers.specs.Answers.{number_by}
use Rattle.kc_changes.specs.Changed.{AreIdChanges, IsIdChange, ids_in, is_changed, is_same}
use Rattle.kc_changes.specs.declared.id_change.IdChange.{IdChange}
use Rattle.kc_keeper.specs.Cores.{AreCoreChanges, IsCoreChange, changed_vertices}
use Rattle.kc_keeper.specs.declared.changes.CoreChange.{CoreChange}
use Rattle.kc_watch.specs.Accounts.{Account, core_number_in, core_numbers_of}
use Rattle.kc_watch.specs.Endings.{AreMoves, HasEndedBetween, changes_of, known_change, new_change}

-- Ids and their numbers. ----------------------------------------------------------------------------------

-- what stands in the back does not stand in the front
distinct-apart : (xs ys : List ℕ) (q : ℕ) → Distinct (xs ++ ys) → member q ys ≡ true → member q xs ≡ false
distinct-apart [] ys q d m = refl
distinct-apart (x ∷ xs) ys q d m =
    not_member-cons q x xs (λ e. false≢true (sym (not_member-append x xs ys d.0).1 ∙ subst (λ (z : ℕ). member z ys ≡ true) e m))
    (distinct-apart xs ys q d.1 m)

-- the place of what stands at a place
place-at : (ids : List ℕ) (v : ℕ) → Distinct ids → v < length ids → place ids (get_or ids v 0) ≡ v
place-at ids v once low =
    position_or_len_is (nat_eq (get_or ids v 0)) ids v 0 (omega arith)
    (λ k l. ne_eqb (get_or ids v 0) (get_or ids k 0) (λ e. pairs_from_Distinct ids once k v 0 l low (sym e)))
    (λ _. eq-eqb (get_or ids v 0) (get_or ids v 0) refl)

-- so the number of an id is where it stands
pub number-at : (ids : List ℕ) (v : ℕ) → Distinct ids → v < length ids → number_of ids (get_or ids v 0) ≡ Some v
number-at ids v once low =
    ap (λ (b : Bool). cond b (Some (place ids (get_or ids v 0))) None) (member-get_or ids v 0 low) ∙ ap (λ (n : ℕ). Some n) (place-at ids v once low)

-- what is no id has none
number-none : (ids : List ℕ) (q : ℕ) → member q ids ≡ false → number_of ids q ≡ None
number-none ids q none = ap (λ (b : Bool). cond b (Some (place ids q)) None) none

-- the core number of an id is the one at its place
by-number : (ids core : List ℕ) (q v : ℕ) → number_of ids q ≡ Some v → number_by ids core q ≡ Some (slice_index core v)
by-number ids core q v is = ap (option_map (λ v. slice_index core v)) is

by-none : (ids core : List ℕ) (q : ℕ) → number_of ids q ≡ None → number_by ids core q ≡ None
by-none ids core q is = ap (option_map (λ v. slice_index core v)) is

-- New ids. ------------------------------------------------------------------------------------------------

-- the ids of new changes are the new ids
new-ids : (xs ys : List ℕ) → length xs ≡ length ys → ids_in (map new_change (zip xs ys)) ≡ xs
new-ids [] ys same = refl
new-ids (x ∷ xs) [] same = absurd (omega (arith, same))
new-ids (x ∷ xs) (y ∷ ys) same = ap (λ (l : List ℕ). x ∷ l) (new-ids xs ys (omega (arith, same)))

-- what holds at each place holds of each new change
new-each : (P : IdChange → Type 0) (xs ys : List ℕ) → length xs ≡ length ys
    → ((k : ℕ) → k < length xs → P (new_change (get_or xs k 0, get_or ys k 0))) → All P (map new_change (zip xs ys))
new-each P [] ys same each = All-nil P
new-each P (x ∷ xs) [] same each = absurd (omega (arith, same))
new-each P (x ∷ xs) (y ∷ ys) same each =
    All-cons P (new_change (x, y)) (map new_change (zip xs ys)) (each 0 (omega arith))
    (new-each P xs ys (omega (arith, same)) (λ k l. each (suc k) (omega (arith, l))))

module _ (front more old core : List ℕ) (once : Distinct (front ++ more)) (long : length core ≡ length (front ++ more)) where
  abbrev ids : List ℕ
  ids = front ++ more

  abbrev known : ℕ
  known = length front

  abbrev before : ℕ → Option ℕ
  before = number_by front old

  abbrev after : ℕ → Option ℕ
  after = number_by ids core

  -- Known ids. --------------------------------------------------------------------------------------------

  -- the changes of known ids among these of vertices
  abbrev knowns : List CoreChange → List IdChange
  knowns cs = flat_map (known_change ids known) cs

  -- the id of a known vertex
  front-at : (v : ℕ) → v < known → get_or ids v 0 ≡ get_or front v 0
  front-at v low = get_or_append_left front more 0 v low

  known-below : (v : ℕ) → v < known → v < length ids
  known-below v low = omega (arith, low, length-append front more)

  -- its number before
  before-at : (v : ℕ) → v < known → before (get_or ids v 0) ≡ Some (slice_index old v)
  before-at v low =
      by-number front old (get_or ids v 0) v (ap (number_of front) (front-at v low) ∙ number-at front v (Distinct-front front more once) low)

  -- the number of an id after
  after-at : (v : ℕ) → v < length ids → after (get_or ids v 0) ≡ Some (slice_index core v)
  after-at v low = by-number ids core (get_or ids v 0) v (number-at ids v once low)

  -- the change of a known vertex
  known-is : (c : CoreChange) → c.vertex < known → IsCoreChange old core c
      → IsIdChange before after ids (record { id = slice_index ids c.vertex; before = Some c.before; now = c.now })
  known-is c low is =
      let was : Some c.before ≡ before (get_or ids c.vertex 0) = ap (λ (n : ℕ). Some n) is.before ∙ sym (before-at c.vertex low) in
      let now : Some c.now ≡ after (get_or ids c.vertex 0) = ap (λ (n : ℕ). Some n) is.now ∙ sym (after-at c.vertex (known-below c.vertex low)) in
      record {
        among = member-get_or ids c.vertex 0 (known-below c.vertex low);
        old = was;
        new = now;
        changed = ap₂ (λ (x y : Option ℕ). not (is_same x y)) (sym was) (sym now) ∙ ap not (ne_eqb c.before c.now is.differs);
      }

  -- each is one
  knowns-each : (cs : List CoreChange) → All (λ (c : CoreChange). c.vertex < known → IsCoreChange old core c) cs
      → All (IsIdChange before after ids) (knowns cs)
  knowns-each [] each = All-nil (IsIdChange before after ids)
  knowns-each (c ∷ cs) each =
      let Is : CoreChange → Type 0 = λ (x : CoreChange). x.vertex < known → IsCoreChange old core x in
      let here : IdChange = record { id = slice_index ids c.vertex; before = Some c.before; now = c.now } in
      let rest : All (IsIdChange before after ids) (knowns cs) = knowns-each cs (All-tail Is c cs each) in
      elim (cases_lt c.vertex known) [
        | inl low ↦ subst (λ (b : Bool). All (IsIdChange before after ids) (cond b (here ∷ []) [] ++ knowns cs)) (sym (lt-ltb c.vertex known low))
            (All-cons (IsIdChange before after ids) here (knowns cs) (known-is c low (All-head Is c cs each low)) rest)
        | inr high ↦ subst (λ (b : Bool). All (IsIdChange before after ids) (cond b (here ∷ []) [] ++ knowns cs)) (sym (le-ltb c.vertex known high)) rest
      ]

  -- an id of them stands for a known vertex of theirs
  knowns-member : (cs : List CoreChange) (q : ℕ) → member q (ids_in (knowns cs)) ≡ true
      → (v : ℕ) × (v < known) × (member v (changed_vertices cs) ≡ true) × (q ≡ get_or ids v 0)
  knowns-member [] q m = absurd (false≢true m)
  knowns-member (c ∷ cs) q m =
      let here : IdChange = record { id = slice_index ids c.vertex; before = Some c.before; now = c.now } in
      let Has : Bool → Type 0 = λ (b : Bool). member q (ids_in (cond b (here ∷ []) [] ++ knowns cs)) ≡ true in
      let later : member q (ids_in (knowns cs)) ≡ true
      → (v : ℕ) × (v < known) × (member v (changed_vertices (c ∷ cs)) ≡ true) × (q ≡ get_or ids v 0) = (λ n.
      let (v, low, there, is) = knowns-member cs q n in (v, low, member-tail v c.vertex (changed_vertices cs) there, is)) in
      elim (cases_lt c.vertex known) [
        | inl low ↦ elim (member-cases q here.id (ids_in (knowns cs)) (subst Has (lt-ltb c.vertex known low) m)) [
          | inl e ↦ (c.vertex, low, member-head c.vertex (changed_vertices cs), e)
          | inr n ↦ later n
        ]
        | inr high ↦ later (subst Has (le-ltb c.vertex known high) m)
      ]

  -- each known vertex of theirs has its id there
  knowns-all : (cs : List CoreChange) (v : ℕ) → v < known → member v (changed_vertices cs) ≡ true → member (get_or ids v 0) (ids_in (knowns cs)) ≡ true
  knowns-all [] v low m = absurd (false≢true m)
  knowns-all (c ∷ cs) v low m =
      let here : IdChange = record { id = slice_index ids c.vertex; before = Some c.before; now = c.now } in
      let Has : Bool → Type 0 = λ (b : Bool). member (get_or ids v 0) (ids_in (cond b (here ∷ []) [] ++ knowns cs)) ≡ true in
      elim (member-cases v c.vertex (changed_vertices cs) m) [
        | inl e ↦ subst Has (sym (lt-ltb c.vertex known (subst (λ (x : ℕ). x < known) e low)))
            (subst (λ (x : ℕ). member (get_or ids x 0) (here.id ∷ ids_in (knowns cs)) ≡ true) (sym e) (member-head here.id (ids_in (knowns cs))))
        | inr n ↦
            let there : member (get_or ids v 0) (ids_in (knowns cs)) ≡ true = knowns-all cs v low n in
            elim (cases_lt c.vertex known) [
              | inl below ↦ subst Has (sym (lt-ltb c.vertex known below)) (member-tail (get_or ids v 0) here.id (ids_in (knowns cs)) there)
              | inr high ↦ subst Has (sym (le-ltb c.vertex known high)) there
            ]
      ]

  -- none of them is there twice
  knowns-once : (cs : List CoreChange) → Distinct (changed_vertices cs) → Distinct (ids_in (knowns cs))
  knowns-once [] d = tt
  knowns-once (c ∷ cs) d =
      let here : IdChange = record { id = slice_index ids c.vertex; before = Some c.before; now = c.now } in
      let Once : Bool → Type 0 = λ (b : Bool). Distinct (ids_in (cond b (here ∷ []) [] ++ knowns cs)) in
      let rest : Distinct (ids_in (knowns cs)) = knowns-once cs d.1 in
      elim (cases_lt c.vertex known) [
        | inl low ↦ subst Once (sym (lt-ltb c.vertex known low)) (
          false_from_ne_true (member here.id (ids_in (knowns cs))) (λ m.
              let (v, below, there, is) = knowns-member cs here.id m in
              let same : c.vertex ≡ v = sym (place-at ids c.vertex once (known-below c.vertex low)) ∙ ap (place ids) is
              ∙ place-at ids v once (known-below v below) in
              false≢true (sym d.0 ∙ subst (λ (x : ℕ). member x (changed_vertices cs) ≡ true) (sym same) there)),
          rest,
        )
        | inr high ↦ subst Once (sym (le-ltb c.vertex known high)) rest
      ]

  -- All ids. ----------------------------------------------------------------------------------------------

  -- the new ids with their numbers
  abbrev news : List IdChange
  news = map new_change (zip (drop known ids) (drop known core))

  behind-front : drop known ids ≡ more
  behind-front = drop_at front more known refl

  behind-core : length (drop known ids) ≡ length (drop known core)
  behind-core = length-drop known ids ∙ ap (λ (n : ℕ). n - known) (sym long) ∙ sym (length-drop known core)

  news-ids : ids_in news ≡ more
  news-ids = new-ids (drop known ids) (drop known core) behind-core ∙ behind-front

  -- each new id is changed
  news-each : All (IsIdChange before after ids) news
  news-each = new-each (IsIdChange before after ids) (drop known ids) (drop known core) behind-core (λ k l.
      let low : k < length more = omega (arith, l, ap length behind-front) in
      let v : ℕ = known + k in
      let below : v < length ids = omega (arith, low, length-append front more) in
      let q : ℕ = get_or (drop known ids) k 0 in
      let here : q ≡ get_or ids v 0 = get_or-drop known ids k 0 in
      let in-more : member q more ≡ true =
      subst (λ (l : List ℕ). member (get_or l k 0) more ≡ true) (sym behind-front) (member-get_or more k 0 low) in
      let was : None ≡ before q = sym (by-none front old q (number-none front q (distinct-apart front more q once in-more))) in
      let now : Some (get_or (drop known core) k 0) ≡ after q =
      ap (λ (n : ℕ). Some n) (get_or-drop known core k 0) ∙ sym (ap after here ∙ after-at v below) in
      record {
        among = member-append_right q front more in-more;
        old = was;
        new = now;
        changed = ap₂ (λ (x y : Option ℕ). not (is_same x y)) (sym was) (sym now);
      })

  -- numbers that are the same are no change
  no-change : (q v : ℕ) → before q ≡ Some (slice_index old v) → after q ≡ Some (slice_index core v) → is_changed before after q ≡ true
      → slice_index old v ≢ slice_index core v
  no-change q v was now changed same =
      let none : is_changed before after q ≡ false =
      ap₂ (λ (x y : Option ℕ). not (is_same x y)) was now ∙ ap not (eq-eqb (slice_index old v) (slice_index core v) same) in
      false≢true (sym none ∙ changed)

  -- What is listed are the changes of the ids that are changed.
  pub listed-are : (cs : List CoreChange) → AreMoves known old core cs → AreIdChanges before after ids (changes_of ids known core cs)
  listed-are cs moves =
      let joined : ids_in (knowns cs ++ news) ≡ ids_in (knowns cs) ++ more =
      map-append (λ (c : IdChange). c.id) (knowns cs) news ∙ ap (λ (l : List ℕ). ids_in (knowns cs) ++ l) news-ids in
      record {
        once = subst Distinct (sym joined) (Distinct-append (ids_in (knowns cs)) more (knowns-once cs moves.once) (Distinct-back front more once) (λ q m.
            false_from_ne_true (member q more) (λ n.
            let (v, low, there, is) = knowns-member cs q m in
            let in-front : member q front ≡ true =
            subst (λ (x : ℕ). member x front ≡ true) (sym (is ∙ front-at v low)) (member-get_or front v 0 low) in
            false≢true (sym (distinct-apart front more q once n) ∙ in-front))));
        each = All-append (IsIdChange before after ids) (knowns cs) news (knowns-each cs moves.each) news-each;
        all = λ q m changed. subst (λ (l : List ℕ). member q l ≡ true) (sym joined) (elim (member-append q front more m) [
          | inl in-front ↦
              let (v, low, at) = Contains-from_member front q in-front in
              let is : get_or ids v 0 ≡ q = front-at v low ∙ get_or-any front v 0 q low ∙ at in
              let ne : slice_index old v ≢ slice_index core v = no-change q v (ap before (sym is) ∙ before-at v low)
              (ap after (sym is) ∙ after-at v (known-below v low)) changed in
              member-append_left q (ids_in (knowns cs)) more
              (subst (λ (x : ℕ). member x (ids_in (knowns cs)) ≡ true) is (knowns-all cs v low (moves.all v low ne)))
          | inr in-more ↦ member-append_right q (ids_in (knowns cs)) more in-more
        ]);
      }

-- Between two accounts. -------------------------------------------------------------------------------------

-- of the vertices that were there before others came, the core numbers change as they do with those others
pub moves-from : (known : ℕ) (old mid new : List ℕ) (cs : List CoreChange) → ((v : ℕ) → v < known → slice_index mid v ≡ slice_index old v)
    → AreCoreChanges mid new cs → AreMoves known old new cs
moves-from known old mid new cs same h = record {
  once = Distinct-from_increasing (changed_vertices cs) h.ascending;
  each = All-weaker (IsCoreChange mid new) (λ (c : CoreChange). c.vertex < known → IsCoreChange old new c)
      (λ c is low. record { before = is.before ∙ same c.vertex low; now = is.now; differs = is.differs }) cs h.each;
  all = λ v low ne. member-from_Contains (changed_vertices cs) v (h.all v (λ e. ne (sym (same v low) ∙ e)));
}

-- What is listed behind a batch are the changes of the ids whose core numbers it changes.
pub changes-listed : (before after : Account) (known : ℕ) (ids core : List ℕ) (cs : List CoreChange) → HasEndedBetween before after known ids core cs
    → AreIdChanges (core_number_in before) (core_number_in after) after.ids (changes_of ids known core cs)
changes-listed before after known ids core cs h =
    let old : List ℕ = core_numbers_of before.graph in
    let front : List ℕ = before.ids in
    let listed : AreIdChanges (number_by front old) (number_by (front ++ h.more) core) (front ++ h.more)
    (changes_of (front ++ h.more) (length front) core cs) =
    listed-are front h.more old core (subst Distinct h.grown h.once) (h.long ∙ ap length h.grown) cs
    (subst (λ (n : ℕ). AreMoves n old core cs) h.known_is h.moves) in
    let named : AreIdChanges (number_by front old) (number_by ids core) ids (changes_of ids (length front) core cs) =
    subst (λ (l : List ℕ). AreIdChanges (number_by front old) (number_by l core) l (changes_of l (length front) core cs)) (sym h.grown) listed in
    let counted : AreIdChanges (number_by front old) (number_by ids core) ids (changes_of ids known core cs) =
    subst (λ (n : ℕ). AreIdChanges (number_by front old) (number_by ids core) ids (changes_of ids n core cs)) (sym h.known_is) named in
    let numbered : AreIdChanges (number_by front old) (number_by ids (core_numbers_of after.graph)) ids (changes_of ids known core cs) =
    subst (λ (l : List ℕ). AreIdChanges (number_by front old) (number_by ids l) ids (changes_of ids known core cs)) h.core_is counted in
    subst (λ (l : List ℕ). AreIdChanges (number_by front old) (number_by l (core_numbers_of after.graph)) l (changes_of ids known core cs)) h.ids_are numbered
