-- How two items stand that are not moved.
use Rattle.std.proofs.Common.{◌≡◌, ◌≢◌, ◌↔◌, ltb-true, ℕ, suc, ◌+◌, ◌<◌, ◌≤◌, Bool, true, false, cond, List, [], ◌∷◌, ◌++◌, eqb, ltb, refl, sym, ap}
use Rattle.std.proofs.Common.{ap₂, ◌∙◌, subst, inl, inr, arith, lt-ltb, le-ltb, eqb-true, ne_eqb, append_assoc, append-nil}
use Rattle.std.specs.List.{filter}
use Rattle.std.proofs.lemmas.Bool.{cases_Bool, true≢false}
use mathlib.Core.List.{IsPrefix}
use Rattle.kc_lists.specs.Lists.{member, without, right_after, place_of}
use Rattle.kc_lists.proofs.Shared.{ltb-next}
use Rattle.kc_lists.proofs.Members.{member-without_other}
use Rattle.kc_words.specs.declared.note.NoteWord.{NoteWord}
use Rattle.kc_words.specs.declared.note.NoteWord.TheVariants.{Nothing, Enter, Put, Take}
use Rattle.kc_table.specs.declared.view.Event.{Event}
use Rattle.kc_table.specs.Log.{TableName}
use Rattle.kc_table.specs.TableState.{TableState, after_store, moved}
use Rattle.kc_table.proofs.LegalLogs.{state_of-push}
use Rattle.kc_table.proofs.Prefixes.{prefix_self, prefix_trans}
use Rattle.kc_order.specs.Standing.{list_after, StandsBefore}
use Rattle.kc_agree.specs.Moved.{Announces, Moves, StaysPut}
use Rattle.kc_agree.specs.Stamps.{made_by, place_stamp}
use Rattle.kc_agree.specs.States.{IsAtRest}
use Rattle.kc_agree.proofs.Unmoved.{stays_put, stays_since}

-- whether x stands before y
abbrev pub first_of_two : ℕ → ℕ → List ℕ → Bool
first_of_two x y list = ltb (place_of x list) (place_of y list)

-- the place in a list with one item more at the front, which it is or is not
abbrev behind : Bool → ℕ → ℕ
behind b k = cond b 0 (suc k)

-- one item more at the front of two lists
front_by : (a b : Bool) (i j k l : ℕ) → ltb i j ≡ ltb k l → ltb (behind a i) (behind b j) ≡ ltb (behind a k) (behind b l)
front_by true true i j k l h = refl
front_by true false i j k l h = lt-ltb 0 (suc j) (omega arith) ∙ sym (lt-ltb 0 (suc l) (omega arith))
front_by false true i j k l h = le-ltb (suc i) 0 (omega arith) ∙ sym (le-ltb (suc k) 0 (omega arith))
front_by false false i j k l h = ltb-next i j ∙ (h ∙ sym (ltb-next k l))

-- the same item at the front of two lists leaves how two items stand in both
same_front-order : (x y w : ℕ) (l l' : List ℕ) → first_of_two x y l ≡ first_of_two x y l' → first_of_two x y (w ∷ l) ≡ first_of_two x y (w ∷ l')
same_front-order x y w l l' h = front_by (eqb x w) (eqb y w) (place_of x l) (place_of y l) (place_of x l') (place_of y l') h

-- another item at the front
other_front-order : (x y z : ℕ) (l : List ℕ) → x ≢ z → y ≢ z → first_of_two x y (z ∷ l) ≡ first_of_two x y l
other_front-order x y z l dx dy =
    ap₂ (λ (a b : Bool). ltb (behind a (place_of x l)) (behind b (place_of y l))) (ne_eqb x z dx) (ne_eqb y z dy)
    ∙ ltb-next (place_of x l) (place_of y l)

-- taking a third item leaves how two stand
without-order : (x y z : ℕ) (l : List ℕ) → x ≢ z → y ≢ z → first_of_two x y (without z l) ≡ first_of_two x y l
without-order x y z [] dx dy = refl
without-order x y z (w ∷ l) dx dy =
    let rest = without-order x y z l dx dy in
    elim (eqb z w) as (λ b. eqb z w ≡ b → first_of_two x y (cond b (without z l) (w ∷ without z l)) ≡ first_of_two x y (w ∷ l)) [
      | true ↦ λ t. let is : z ≡ w = eqb-true z w t in rest ∙ sym (other_front-order x y w l (λ e. dx (e ∙ sym is)) (λ e. dy (e ∙ sym is)))
      | false ↦ λ _. same_front-order x y w (without z l) l rest
    ] refl

-- putting a third item leaves how two stand
right_after-order : (x y z p : ℕ) (l : List ℕ) → x ≢ z → y ≢ z → first_of_two x y (right_after z p l) ≡ first_of_two x y l
right_after-order x y z p [] dx dy = refl
right_after-order x y z p (w ∷ l) dx dy =
    elim (eqb p w) as (λ b. first_of_two x y (cond b (w ∷ z ∷ l) (w ∷ right_after z p l)) ≡ first_of_two x y (w ∷ l)) [
      | true ↦ same_front-order x y w (z ∷ l) l (other_front-order x y z l dx dy)
      | false ↦ same_front-order x y w (right_after z p l) l (right_after-order x y z p l dx dy)
    ]

-- the items that pass a test stand as they do in the whole list
pub filter-order : (keep : ℕ → Bool) (x y : ℕ) (l : List ℕ) → keep x ≡ true → keep y ≡ true → first_of_two x y (filter keep l) ≡ first_of_two x y l
filter-order keep x y [] kx ky = refl
filter-order keep x y (w ∷ l) kx ky =
    let rest = filter-order keep x y l kx ky in
    elim (keep w) as (λ b. keep w ≡ b → first_of_two x y (cond b (w ∷ filter keep l) (filter keep l)) ≡ first_of_two x y (w ∷ l)) [
      | true ↦ λ _. same_front-order x y w (filter keep l) l rest
      | false ↦ λ f. rest ∙ sym (other_front-order x y w l (λ e. true≢false (sym kx ∙ (ap keep e ∙ f))) (λ e. true≢false (sym ky ∙ (ap keep e ∙ f))))
    ] refl

-- whether an item is in the list, where another is put
right_after-same : (x z p : ℕ) (l : List ℕ) → x ≢ z → member x (right_after z p l) ≡ member x l
right_after-same x z p [] d = refl
right_after-same x z p (w ∷ l) d =
    elim (eqb p w) as (λ b. member x (cond b (w ∷ z ∷ l) (w ∷ right_after z p l)) ≡ member x (w ∷ l)) [
      | true ↦ rw (ne_eqb x z d) refl
      | false ↦ rw (right_after-same x z p l d) refl
    ]

-- A store that moves neither of the two.
module _ (x y : ℕ) where
  -- the two stand in both lists alike, and are in both or in none
  record Same (l l' : List ℕ) : Type 0 where
    pub order : first_of_two x y l ≡ first_of_two x y l'
    pub first : member x l ≡ member x l'
    pub second : member y l ≡ member y l'

  -- a list has them as it does itself
  same_self : (l : List ℕ) → Same l l
  same_self l = record { order = refl; first = refl; second = refl }

  -- along three lists
  same_trans : (a b c : List ℕ) → Same a b → Same b c → Same a c
  same_trans a b c h k = record { order = h.order ∙ k.order; first = h.first ∙ k.first; second = h.second ∙ k.second }

  -- what a note announces, where it is neither
  moved-same : (note : NoteWord) (word : ℕ) (list : List ℕ) → (Announces note x → word ≡ 1 + x → ⊥) → (Announces note y → word ≡ 1 + y → ⊥)
      → Same (moved note word list) list
  moved-same Nothing word list hx hy = same_self list
  moved-same (Enter add u v) word list hx hy = same_self list
  moved-same (Put z p) word list hx hy =
      elim (eqb word (1 + z)) as (λ b. eqb word (1 + z) ≡ b → Same (cond b (right_after z p (without z list)) list) list) [
        | true ↦ λ t.
            let is : word ≡ 1 + z = eqb-true word (1 + z) t in
            let dx : x ≢ z = λ e. hx (sym e) (omega (arith, is, e)) in
            let dy : y ≢ z = λ e. hy (sym e) (omega (arith, is, e)) in record {
              order = right_after-order x y z p (without z list) dx dy ∙ without-order x y z list dx dy;
              first = right_after-same x z p (without z list) dx ∙ member-without_other x z list dx;
              second = right_after-same y z p (without z list) dy ∙ member-without_other y z list dy;
            }
        | false ↦ λ _. same_self list
      ] refl
  moved-same (Take z) word list hx hy =
      elim (eqb word (1 + z)) as (λ b. eqb word (1 + z) ≡ b → Same (cond b (without z list) list) list) [
        | true ↦ λ t.
            let is : word ≡ 1 + z = eqb-true word (1 + z) t in
            let dx : x ≢ z = λ e. hx (sym e) (omega (arith, is, e)) in
            let dy : y ≢ z = λ e. hy (sym e) (omega (arith, is, e)) in record {
              order = without-order x y z list dx dy;
              first = member-without_other x z list dx;
              second = member-without_other y z list dy;
            }
        | false ↦ λ _. same_self list
      ] refl

  module _ (table : TableName) where
    -- one store
    one-store : (log : List Event) (e : Event) → (Moves table log e x → ⊥) → (Moves table log e y → ⊥)
        → Same (list_after table (log ++ e ∷ [])) (list_after table log)
    one-store log e hx hy =
        let s = made_by table log in
        let next : Same (after_store table.shape s e).list s.list = elim (cases_Bool (eqb e.word 0)) [
          | inl t ↦ rw t (same_self s.list)
          | inr f ↦ rw f (moved-same s.note e.word s.list (λ a w. hx (a, w)) (λ a w. hy (a, w)))
        ] in
        subst (λ (z : TableState). Same z.list s.list) (sym (state_of-push table.shape table.opening log e)) next

    -- all stores behind a prefix
    more-stores : (more log : List Event) → StaysPut table log (log ++ more) x → StaysPut table log (log ++ more) y
        → Same (list_after table (log ++ more)) (list_after table log)
    more-stores [] log hx hy =
        subst (λ (l : List Event). Same (list_after table l) (list_after table log)) (sym (append-nil log)) (same_self (list_after table log))
    more-stores (e ∷ more) log hx hy =
        let next = log ++ e ∷ [] in
        let is : next ++ more ≡ log ++ e ∷ more = append_assoc log (e ∷ []) more in
        let longer : IsPrefix log next = (e ∷ [], refl) in
        let whole : IsPrefix next (log ++ e ∷ more) = (more, is) in
        let later : (z : ℕ) → StaysPut table log (log ++ e ∷ more) z → StaysPut table next (next ++ more) z =
        λ z h l f a b. h l f (prefix_trans log next l longer a) (b.0, b.1 ∙ is) in
        let rest : Same (list_after table (next ++ more)) (list_after table next) = more-stores more next (later x hx) (later y hy) in
        same_trans (list_after table (log ++ e ∷ more)) (list_after table next) (list_after table log)
        (subst (λ (l : List Event). Same (list_after table l) (list_after table next)) is rest)
        (one-store log e (hx log e (prefix_self log) whole) (hy log e (prefix_self log) whole))

    -- where neither is moved between two prefixes, they stand at the second as they did at the first
    pub same_standing : (p q : List Event) → IsPrefix p q → StaysPut table p q x → StaysPut table p q y
        → (first_of_two x y (list_after table q) ≡ first_of_two x y (list_after table p))
        × (member x (list_after table q) ≡ member x (list_after table p))
        × (member y (list_after table q) ≡ member y (list_after table p))
    same_standing p q pre hx hy =
        let at_end : (z : ℕ) → StaysPut table p q z → StaysPut table p (p ++ pre.0) z = λ z h. subst (λ (l : List Event). StaysPut table p l z) (sym pre.1) h in
        let s = more-stores pre.0 p (at_end x hx) (at_end y hy) in
        let t : Same (list_after table q) (list_after table p) = subst (λ (l : List Event). Same (list_after table l) (list_after table p)) pre.1 s in
        (t.order, t.first, t.second)

-- in the words of the order list
pub stands_too : (table : TableName) (p q : List Event) (x y : ℕ) → IsPrefix p q → StaysPut table p q x → StaysPut table p q y
    → StandsBefore x y (list_after table p) ↔ StandsBefore x y (list_after table q)
stands_too table p q x y pre hx hy =
    let same = same_standing x y table p q pre hx hy in (
      λ h. record { first = same.1 ∙ h.first; second = same.2 ∙ h.second; before = ltb-true _ _ (same.0 ∙ lt-ltb _ _ h.before) },
      λ h. record { first = sym same.1 ∙ h.first; second = sym same.2 ∙ h.second; before = ltb-true _ _ (sym same.0 ∙ lt-ltb _ _ h.before) },
    )

-- two vertices whose place stamps have not risen stand as they stood in the order list
pub stands_still : (table : TableName) (p m q : List Event) (x y : ℕ) → x < table.shape.fixed → y < table.shape.fixed
    → IsPrefix p m → IsPrefix m q → IsAtRest table q
    → place_stamp table q x ≤ place_stamp table p x → place_stamp table q y ≤ place_stamp table p y
    → StandsBefore x y (list_after table m) ↔ StandsBefore x y (list_after table q)
stands_still table p m q x y lx ly a b rest sx sy =
    let pre = prefix_trans p m q a b in
    let x_still = stays_put table p q x lx pre rest.legal rest.closed sx in
    let y_still = stays_put table p q y ly pre rest.legal rest.closed sy in
    stands_too table m q x y b (stays_since table p m q x a x_still) (stays_since table p m q y a y_still)
