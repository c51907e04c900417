-- The list of a legal log: its items are distinct items of the table, and each vertex is in it.
use Rattle.std.proofs.Common.{◌≡◌, ◌≢◌, ◌⊎◌, ℕ, zero, suc, ◌+◌, ◌<◌, ◌≤◌, true, false, cond, List, [], ◌∷◌, eqb, refl, sym, ap, ◌∙◌, subst, inl, inr, arith}
use Rattle.std.proofs.lemmas.Bool.{cases_Bool, cases_eq, eqb-true, eq-eqb, true≢false, false≢true, false_from_ne_true, or_left}
use Rattle.kc_lists.specs.Lists.{member, Distinct, without, right_after}
use Rattle.kc_lists.proofs.Members.{member-tail, member-cases, member-without, without-member, not_member-without, not_member-parts}
use Rattle.kc_lists.proofs.Members.{Distinct-without, member-right_after, right_after-member, Distinct-right_after}
use Rattle.kc_words.specs.Order.{Labels, labels}
use Rattle.kc_words.specs.NoteWord.{note_of}
use Rattle.kc_words.specs.declared.note.NoteWord.{NoteWord}
use Rattle.kc_words.specs.declared.note.NoteWord.TheVariants.{Nothing, Enter, Put, Take}
use Rattle.kc_words.specs.declared.shape.Shape.{Shape}
use Rattle.kc_table.specs.declared.view.Event.{Event}
use Rattle.kc_table.specs.TableState.{TableState, opened, after_store, after_stores, state_of, placed, listed, is_below, moved}
use Rattle.kc_table.specs.Legal.{MayStore, MayNote, Legal, LegalFrom}

-- what is in the list after an item was placed by its pair is that item, or was there before
pub member-placed : (a : Labels) (y x : ℕ) (zs : List ℕ) → member y (placed a x zs) ≡ true → (y ≡ x) ⊎ (member y zs ≡ true)
member-placed a y x [] m = elim (member-cases y x [] m) [ inl e ↦ inl e | inr k ↦ absurd (false≢true k) ]
member-placed a y x (z ∷ zs) m =
    elim (is_below a x z) as (λ b. member y (cond b (x ∷ z ∷ zs) (z ∷ placed a x zs)) ≡ true → (y ≡ x) ⊎ (member y (z ∷ zs) ≡ true)) [
      | true ↦ λ k. elim (member-cases y x (z ∷ zs) k) [ inl e ↦ inl e | inr t ↦ inr t ]
      | false ↦ λ k. elim (member-cases y z (placed a x zs) k) [
        | inl e ↦ inr (or_left (eqb y z) (member y zs) (eq-eqb y z e))
        | inr t ↦ elim (member-placed a y x zs t) [ inl e ↦ inl e | inr t' ↦ inr (member-tail y z zs t') ]
      ]
    ] m

-- an item that was placed by its pair is in the list, and so is each that was there before
pub placed-member : (a : Labels) (y x : ℕ) (zs : List ℕ) → (y ≡ x) ⊎ (member y zs ≡ true) → member y (placed a x zs) ≡ true
placed-member a y x [] h = elim h [ inl e ↦ or_left (eqb y x) false (eq-eqb y x e) | inr m ↦ absurd (false≢true m) ]
placed-member a y x (z ∷ zs) h =
    elim (is_below a x z) as (λ b. member y (cond b (x ∷ z ∷ zs) (z ∷ placed a x zs)) ≡ true) [
      | true ↦ elim h [ inl e ↦ or_left (eqb y x) (member y (z ∷ zs)) (eq-eqb y x e) | inr m ↦ member-tail y x (z ∷ zs) m ]
      | false ↦ elim h [
        | inl e ↦ member-tail y z (placed a x zs) (placed-member a y x zs (inl e))
        | inr m ↦
            elim (member-cases y z zs m) [
              | inl e ↦ or_left (eqb y z) (member y (placed a x zs)) (eq-eqb y z e)
              | inr k ↦ member-tail y z (placed a x zs) (placed-member a y x zs (inr k))
            ]
      ]
    ]

-- a list with distinct items still has such where another is placed by its pair
Distinct-placed : (a : Labels) (x : ℕ) (zs : List ℕ) → Distinct zs → member x zs ≡ false → Distinct (placed a x zs)
Distinct-placed a x [] d m = (refl, tt)
Distinct-placed a x (z ∷ zs) d m =
    let apart : (x ≡ z → ⊥) × (member x zs ≡ false) = not_member-parts x z zs m in
    elim (is_below a x z) as (λ b. Distinct (cond b (x ∷ z ∷ zs) (z ∷ placed a x zs))) [
      | true ↦ (m, d)
      | false ↦ (
        false_from_ne_true (member z (placed a x zs)) (λ k. elim (member-placed a z x zs k) [ inl e ↦ apart.0 (sym e) | inr t ↦ true≢false (sym t ∙ d.0) ]),
        Distinct-placed a x zs d.1 apart.1,
      )
    ]

-- what the words of the items below a number list is below that number
pub listed-within : (a : Labels) (n y : ℕ) → member y (listed a n) ≡ true → y < n
listed-within a zero y m = absurd (false≢true m)
listed-within a (suc x) y m =
    elim (eqb (a.group x) 0) as (λ b. member y (cond b (listed a x) (placed a x (listed a x))) ≡ true → y < suc x) [
      | true ↦ λ k. let l : y < x = listed-within a x y k in omega arith
      | false ↦ λ k. elim (member-placed a y x (listed a x) k) [ inl e ↦ omega arith | inr t ↦ let l : y < x = listed-within a x y t in omega arith ]
    ] m

-- what the words of the items list has no item twice
Distinct-listed : (a : Labels) (n : ℕ) → Distinct (listed a n)
Distinct-listed a zero = tt
Distinct-listed a (suc x) =
    elim (eqb (a.group x) 0) as (λ b. Distinct (cond b (listed a x) (placed a x (listed a x)))) [
      | true ↦ Distinct-listed a x
      | false ↦
          Distinct-placed a x (listed a x) (Distinct-listed a x)
          (false_from_ne_true (member x (listed a x)) (λ k. let l : x < x = listed-within a x x k in omega arith))
    ]

-- the list has distinct items of the table, and each vertex
pub record Listed (shape : Shape) (list : List ℕ) : Type 0 where
  pub distinct : Distinct list
  pub within : (x : ℕ) → member x list ≡ true → x < shape.items
  pub vertices : (v : ℕ) → v < shape.fixed → member v list ≡ true

-- what an announced item owes
abbrev pub Announced : Shape → List ℕ → NoteWord → Type 0
Announced shape list Nothing = Unit {0}
Announced shape list (Enter add u v) = Unit {0}
Announced shape list (Put x p) = (x < shape.items) × (member p list ≡ true) × (x ≢ p)
Announced shape list (Take x) = shape.fixed ≤ x

-- the list of a state is as it should be, and so is what the last note announced
pub record Stands (shape : Shape) (s : TableState) : Type 0 where
  pub listed : Listed shape s.list
  pub announced : Announced shape s.list s.note

-- the list stays as it should be after the store that follows a note
moved-listed : (shape : Shape) (list : List ℕ) (word : ℕ) (note : NoteWord) → Announced shape list note → Listed shape list
    → Listed shape (moved note word list)
moved-listed shape list word Nothing a h = h
moved-listed shape list word (Enter add u v) a h = h
moved-listed shape list word (Put x p) a h =
    elim (cases_Bool (eqb word (1 + x))) [
      | inl t ↦
          let is : moved (Put x p) word list ≡ right_after x p (without x list) = ap (λ b. cond b (right_after x p (without x list)) list) t in
          let p-in : member p (without x list) ≡ true = without-member p x list a.1 (λ k. a.2 (sym k)) in
          record {
            distinct = subst Distinct (sym is) (Distinct-right_after x p (without x list) (Distinct-without x list h.distinct) (not_member-without x list));
            within =
                λ y m.
                elim (member-right_after y x p (without x list) (ap (member y) (sym is) ∙ m))
                [ inl k ↦ (let l : x < shape.items = a.0 in omega arith) | inr k ↦ h.within y (member-without y x list k).0 ];
            vertices =
                λ v l.
                ap (member v) is
                ∙ right_after-member v x p (without x list) p-in
                (elim (cases_eq v x) [ inl k ↦ inl k | inr k ↦ inr (without-member v x list (h.vertices v l) k) ]);
          }
      | inr f ↦
          let is : moved (Put x p) word list ≡ list = ap (λ b. cond b (right_after x p (without x list)) list) f in
          record {
            distinct = subst Distinct (sym is) h.distinct;
            within = λ y m. h.within y (ap (member y) (sym is) ∙ m);
            vertices = λ v l. ap (member v) is ∙ h.vertices v l;
          }
    ]
moved-listed shape list word (Take x) a h =
    elim (cases_Bool (eqb word (1 + x))) [
      | inl t ↦
          let is : moved (Take x) word list ≡ without x list = ap (λ b. cond b (without x list) list) t in
          record {
            distinct = subst Distinct (sym is) (Distinct-without x list h.distinct);
            within = λ y m. h.within y (member-without y x list (ap (member y) (sym is) ∙ m)).0;
            vertices = λ v l. ap (member v) is ∙ without-member v x list (h.vertices v l) (λ k. omega (arith, a, l, k));
          }
      | inr f ↦
          let is : moved (Take x) word list ≡ list = ap (λ b. cond b (without x list) list) f in
          record {
            distinct = subst Distinct (sym is) h.distinct;
            within = λ y m. h.within y (ap (member y) (sym is) ∙ m);
            vertices = λ v l. ap (member v) is ∙ h.vertices v l;
          }
    ]

-- a note that may be stored announces what an announced item owes
note-announced : (shape : Shape) (s : TableState) (note : NoteWord) → MayNote shape s note → Announced shape s.list note
note-announced shape s Nothing h = tt
note-announced shape s (Enter add u v) h = tt
note-announced shape s (Put x p) h = (h.0, h.1, h.2)
note-announced shape s (Take x) h = h.1

-- a store that may follow keeps the list and what is announced as they should be
stands-step : (shape : Shape) (s : TableState) (e : Event) → MayStore shape s e → Stands shape s → Stands shape (after_store shape s e)
stands-step shape s e may h =
    elim (cases_Bool (eqb e.word 0)) [
      | inl t ↦ rw t record {
        listed = h.listed;
        announced = note-announced shape s (note_of e.value) (may.note (eqb-true e.word 0 t));
      }
      | inr f ↦ rw f record {
        listed = moved-listed shape s.list e.word s.note h.announced h.listed;
        announced = tt;
      }
    ]

-- stores that are legal from a state keep its list and what is announced as they should be
stands-from : (shape : Shape) (s : TableState) (es : List Event) → LegalFrom shape s es → Stands shape s → Stands shape (after_stores shape s es)
stands-from shape s [] h k = k
stands-from shape s (e ∷ es) h k = stands-from shape (after_store shape s e) es h.2 (stands-step shape s e h.0 k)

-- after a legal log the list and what is announced are as they should be
pub list-stands : (shape : Shape) (opening : List ℕ) (log : List Event) → Legal shape opening log → Stands shape (state_of shape opening log)
unfolding Legal state_of
list-stands shape opening log h = stands-from shape (opened shape opening) log h.1 record {
  listed = record {
    distinct = Distinct-listed (labels shape.items opening) shape.items;
    within = λ x m. listed-within (labels shape.items opening) shape.items x m;
    vertices = h.0.vertices;
  };
  announced = tt;
}
