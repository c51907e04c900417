-- No value comes back to an item's, a group's or a vertex's word.
use Rattle.std.proofs.Common.{◌≡◌, ◌≢◌, ◌⊎◌, ℕ, ◌+◌, ◌<◌, List, [], ◌∷◌, length, set, get_or, refl, sym, ap, ◌∙◌, subst, ⊎_elim, inl, inr, arith}
use Rattle.std.proofs.Common.{get_or-set_same, get_or-set_other, length-set}
use mathlib.Core.List.{IsPrefix}
use mathlib.Core.Logic.{dite}
use native.Mathlib.Decide.{ℕ_discrete}
use Rattle.kc_words.specs.VertexWord.{vertex_of}
use Rattle.kc_words.specs.declared.shape.Shape.{Shape}
use Rattle.kc_table.specs.declared.view.Event.{Event}
use Rattle.kc_table.specs.Log.{value_at}
use Rattle.kc_table.specs.TableState.{TableState, opened, after_store, after_stores, state_of, first_vertex, word_count}
use Rattle.kc_table.specs.Legal.{MayStore, Legal, LegalFrom, IsVersioned, version_of}
use Rattle.kc_table.proofs.LegalLogs.{after_store-words, state_of-words, legal_from-back, after_stores-append}

-- no store changes how many words there are
length-stores : (shape : Shape) (s : TableState) (es : List Event) → length (after_stores shape s es).words ≡ length s.words
length-stores shape s [] = refl
length-stores shape s (e ∷ es) =
    length-stores shape (after_store shape s e) es ∙ (ap length (after_store-words shape s e) ∙ length-set s.words e.word e.value)

-- A word at which each allowed store raises the key of its value.
module _ (shape : Shape) (w : ℕ) (key : ℕ → ℕ)
    (raises : (s : TableState) (e : Event) → MayStore shape s e → e.word ≡ w → key (get_or s.words w 0) < key e.value) where
  -- the key rises, or the value stays
  abbrev Rises : ℕ → ℕ → Type 0
  Rises a b = (key a < key b) ⊎ (a ≡ b)

  -- what rises twice rises
  rises-trans : (a b c : ℕ) → Rises a b → Rises b c → Rises a c
  rises-trans a b c p q =
      ⊎_elim (λ (lt : key a < key b). ⊎_elim (λ (lt' : key b < key c). inl (omega arith)) (λ (e : b ≡ c). inl (subst (λ (z : ℕ). key a < key z) e lt)) q)
      (λ (e : a ≡ b). subst (λ (z : ℕ). Rises z c) (sym e) q) p

  -- at one store the key rises, or the value stays
  one_rises : (s : TableState) (e : Event) → length s.words ≡ word_count shape → MayStore shape s e
      → Rises (get_or s.words w 0) (get_or (after_store shape s e).words w 0)
  one_rises s e long may =
      let after = after_store-words shape s e in
      dite (ℕ_discrete e.word w)
      (λ (is : e.word ≡ w).
      let there : w < length s.words = omega (arith, may.there, long, is) in
      let new : get_or (after_store shape s e).words w 0 ≡ e.value =
      ap (λ ws. get_or ws w 0) after ∙ (ap (λ k. get_or (set s.words k e.value) w 0) is ∙ get_or-set_same s.words w e.value 0 there) in
      inl (subst (λ z. key (get_or s.words w 0) < key z) (sym new) (raises s e may is)))
      (λ (other : e.word ≢ w). inr (sym (ap (λ ws. get_or ws w 0) after ∙ get_or-set_other s.words e.word w e.value 0 (λ k. other (sym k)))))

  -- so it is along all stores
  from_rises : (s : TableState) (es : List Event) → length s.words ≡ word_count shape → LegalFrom shape s es
      → Rises (get_or s.words w 0) (get_or (after_stores shape s es).words w 0)
  from_rises s [] long h = inr refl
  from_rises s (e ∷ es) long h =
      let long' : length (after_store shape s e).words ≡ word_count shape =
      ap length (after_store-words shape s e) ∙ (length-set s.words e.word e.value ∙ long) in
      rises-trans _ _ _ (one_rises s e long h.0) (from_rises (after_store shape s e) es long' h.2)

  module _ (opening : List ℕ) where
    -- between two prefixes of a legal log the key rises, or the value stays
    rises : (p q : List Event) → IsPrefix p q → Legal shape opening q → Rises (value_at opening p w) (value_at opening q w)
    unfolding Legal state_of
    rises p q pre h =
        let here = after_stores shape (opened shape opening) p in
        let from : LegalFrom shape here pre.0 =
        legal_from-back shape (opened shape opening) p pre.0 (subst (LegalFrom shape (opened shape opening)) (sym pre.1) h.1) in
        let long : length here.words ≡ word_count shape = length-stores shape (opened shape opening) p ∙ h.0.one_each in
        let r = from_rises here pre.0 long from in
        let all : after_stores shape here pre.0 ≡ state_of shape opening q =
        sym (after_stores-append shape (opened shape opening) p pre.0) ∙ ap (after_stores shape (opened shape opening)) pre.1 in
        subst (λ (z : ℕ × ℕ). Rises z.0 z.1)
        (λ i. (
          ap (λ ws. get_or ws w 0) (state_of-words shape opening p) i,
          ap (λ ws. get_or ws w 0) (ap (λ s. s.words) all ∙ state_of-words shape opening q) i,
        ))
        r

    -- a word that is the same after two prefixes was the same after each between
    comes_not_back : (p m q : List Event) → IsPrefix p m → IsPrefix m q → Legal shape opening m → Legal shape opening q
        → value_at opening p w ≡ value_at opening q w → value_at opening m w ≡ value_at opening p w
    comes_not_back p m q a b legal_m legal_q same =
        let e = ap key same in
        ⊎_elim
        (λ (lt : key (value_at opening p w) < key (value_at opening m w)).
        ⊎_elim (λ (lt' : key (value_at opening m w) < key (value_at opening q w)). absurd (omega arith))
        (λ (is : value_at opening m w ≡ value_at opening q w). is ∙ sym same) (rises m q b legal_q))
        (λ (is : value_at opening p w ≡ value_at opening m w). sym is) (rises p m a legal_m)

-- a store that may be made to an item's or a group's word raises its version
version_raises : (shape : Shape) (w : ℕ) → IsVersioned shape w → (s : TableState) (e : Event) → MayStore shape s e → e.word ≡ w
    → version_of (get_or s.words w 0) < version_of e.value
version_raises shape w versioned s e may is =
    let newer = may.fresh (subst (IsVersioned shape) (sym is) versioned) in
    let old : version_of (get_or s.words e.word 0) ≡ version_of (get_or s.words w 0) = ap (λ k. version_of (get_or s.words k 0)) is in
    omega (arith, newer, old)

-- a store that may be made to a vertex's word raises its stamp
stamp_raises : (shape : Shape) (v : ℕ) (s : TableState) (e : Event) → MayStore shape s e → e.word ≡ first_vertex shape + v
    → (vertex_of (get_or s.words (first_vertex shape + v) 0)).stamp < (vertex_of e.value).stamp
stamp_raises shape v s e may is = (may.seals v is).later

-- an item's or a group's word that is the same after two prefixes was the same after each between
pub word-fresh : (shape : Shape) (opening : List ℕ) (w : ℕ) (p m q : List Event) → IsVersioned shape w → IsPrefix p m → IsPrefix m q
    → Legal shape opening m → Legal shape opening q → value_at opening p w ≡ value_at opening q w
    → value_at opening m w ≡ value_at opening p w
word-fresh shape opening w p m q versioned = comes_not_back shape w version_of (version_raises shape w versioned) opening p m q

-- a vertex's word that is the same after two prefixes was the same after each between
pub fresh_vertex : (shape : Shape) (opening : List ℕ) (v : ℕ) (p m q : List Event) → IsPrefix p m → IsPrefix m q → Legal shape opening m → Legal shape opening q
    → value_at opening p (first_vertex shape + v) ≡ value_at opening q (first_vertex shape + v)
    → value_at opening m (first_vertex shape + v) ≡ value_at opening p (first_vertex shape + v)
fresh_vertex shape opening v p m q = comes_not_back shape (first_vertex shape + v) (λ value. (vertex_of value).stamp) (stamp_raises shape v) opening p m q

-- along a legal log a vertex's word gets a greater stamp, or stays
pub vertex-rises : (shape : Shape) (opening : List ℕ) (v : ℕ) (p q : List Event) → IsPrefix p q → Legal shape opening q
    → ((vertex_of (value_at opening p (first_vertex shape + v))).stamp < (vertex_of (value_at opening q (first_vertex shape + v))).stamp)
    ⊎ (value_at opening p (first_vertex shape + v) ≡ value_at opening q (first_vertex shape + v))
vertex-rises shape opening v = rises shape (first_vertex shape + v) (λ value. (vertex_of value).stamp) (stamp_raises shape v) opening

-- a legal log leaves as many words as the shape has
pub long-after : (shape : Shape) (opening : List ℕ) (log : List Event) → Legal shape opening log
    → length (state_of shape opening log).words ≡ word_count shape
unfolding Legal state_of
long-after shape opening log h = length-stores shape (opened shape opening) log ∙ h.0.one_each
