-- What the stores of a legal log make of one vertex: its word, its stamp, and whether it is put and not yet sealed.
use Rattle.std.proofs.Common.{◌≡◌, ◌≢◌, ◌⊎◌, ℕ, ◌+◌, ◌-◌, ◌<◌, ◌≤◌, Bool, true, false, cond, ◌&&◌, List, [], ◌∷◌, ◌++◌, length, set, get_or}
use Rattle.std.proofs.Common.{eqb, leb, ltb, refl, sym, ap, ◌∙◌, inl, inr, arith, get_or-set_same, get_or-set_other}
use Rattle.std.proofs.Common.{leb-true, lt-ltb, eqb-true, ne_eqb, le-ltb, leb-false, append_assoc, append-nil, length-append}
use Rattle.std.specs.Prelude.{◌||◌}
use Rattle.std.proofs.lemmas.Bool.{cases_Bool, cases_eq, cases_lt, false≢true, or_right}
use mathlib.Core.List.{IsPrefix}
use Rattle.kc_lists.specs.Lists.{member, without}
use Rattle.kc_lists.proofs.Members.{member-without, without-member, not_member-without}
use Rattle.kc_words.specs.NoteWord.{note_of}
use Rattle.kc_words.specs.VertexWord.{vertex_of}
use Rattle.kc_words.specs.declared.note.NoteWord.{NoteWord}
use Rattle.kc_words.specs.declared.note.NoteWord.TheVariants.{Nothing, Enter, Put, Take}
use Rattle.kc_words.specs.declared.shape.Shape.{Shape}
use Rattle.kc_table.specs.declared.view.Event.{Event}
use Rattle.kc_table.specs.Log.{value_at}
use Rattle.kc_table.specs.Sections.{number_after, stamp_after, item_put}
use Rattle.kc_table.specs.TableState.{TableState, after_store, state_of, first_vertex, word_count, unsealed_from, put_in, sealed}
use Rattle.kc_table.specs.Legal.{MayStore, MayNote, FollowsNote, Legal, stamp_in}
use Rattle.kc_table.proofs.Fresh.{vertex-rises, long-after}
use Rattle.kc_table.proofs.LegalLogs.{after_store-words, state_of-words, state_of-push, legal-prefix, legal-last, entries-prefix}
use Rattle.kc_table.proofs.Listed.{Announced}

-- One store. --------------------------------------------------------------------------------------

module _ (shape : Shape) (v : ℕ) where
  -- the word of the vertex
  abbrev at : TableState → ℕ
  at s = get_or s.words (first_vertex shape + v) 0

  -- a store to another word leaves the vertex's
  pub at-other : (s : TableState) (e : Event) → e.word ≢ first_vertex shape + v → at (after_store shape s e) ≡ at s
  at-other s e other =
      ap (λ ws. get_or ws (first_vertex shape + v) 0) (after_store-words shape s e)
      ∙ get_or-set_other s.words e.word (first_vertex shape + v) e.value 0 (λ k. other (sym k))

  -- a store to the word itself gives it its value
  pub at-stored : (s : TableState) (e : Event) → length s.words ≡ word_count shape → MayStore shape s e → e.word ≡ first_vertex shape + v
      → at (after_store shape s e) ≡ e.value
  at-stored s e long may is =
      let there : first_vertex shape + v < length s.words = omega (arith, may.there, long, is) in
      ap (λ ws. get_or ws (first_vertex shape + v) 0) (after_store-words shape s e)
      ∙ (ap (λ k. get_or (set s.words k e.value) (first_vertex shape + v) 0) is ∙ get_or-set_same s.words (first_vertex shape + v) e.value 0 there)

  -- an announced put is not followed by a store to a vertex word
  pub puts-none : (list : List ℕ) (note : NoteWord) (word : ℕ) → Announced shape list note → FollowsNote note word → first_vertex shape ≤ word
      → item_put note word ≡ []
  puts-none list Nothing word a f high = refl
  puts-none list (Enter add u w) word a f high = refl
  puts-none list (Put x p) word a f high = absurd (let below : x < shape.items = a.0 in omega (arith, f, high, below))
  puts-none list (Take x) word a f high = refl

  -- of the vertices, those are open after a put which it puts, and those that were
  pub put_in-is : v < shape.fixed → (note : NoteWord) (word : ℕ) (us : List ℕ)
      → member v (put_in shape note word us) ≡ (member v (item_put note word) || member v us)
  put_in-is low Nothing word us = refl
  put_in-is low (Enter add u w) word us = refl
  put_in-is low (Take x) word us = refl
  put_in-is low (Put x p) word us =
      elim (eqb word (1 + x)) as (λ b. member v (cond (b && ltb x shape.fixed) (x ∷ us) us) ≡ (member v (cond b (x ∷ []) []) || member v us)) [
        | true ↦ elim (cases_lt x shape.fixed) [
          | inl below ↦ ap (λ b. member v (cond b (x ∷ us) us)) (lt-ltb x shape.fixed below) ∙ either (eqb v x) (member v us)
          | inr above ↦
              ap (λ b. member v (cond b (x ∷ us) us)) (le-ltb x shape.fixed above)
              ∙ ap (λ b. (b || false) || member v us) (sym (ne_eqb v x (λ e. omega (arith, e, low, above))))
        ]
        | false ↦ refl
      ]
    where
      either : (a b : Bool) → (a || b) ≡ ((a || false) || b)
      either true b = refl
      either false b = refl

  -- a store to another word than the vertex's seals no less than before, and no more
  pub sealed-open : (word : ℕ) (us : List ℕ) → word ≢ first_vertex shape + v → member v us ≡ true → member v (sealed shape word us) ≡ true
  sealed-open word us other m = elim (cases_Bool (leb (first_vertex shape) word)) [
    | inl t ↦
        ap (λ b. member v (cond b (without (word - first_vertex shape) us) us)) t
        ∙ without-member v (word - first_vertex shape) us m (λ e. other (omega (arith, e, leb-true _ _ t)))
    | inr f ↦ ap (λ b. member v (cond b (without (word - first_vertex shape) us) us)) f ∙ m
  ]

  -- what a store leaves open was open
  pub open-sealed : (word : ℕ) (us : List ℕ) → member v (sealed shape word us) ≡ true → member v us ≡ true
  open-sealed word us m =
      elim (leb (first_vertex shape) word) as (λ b. member v (cond b (without (word - first_vertex shape) us) us) ≡ true → member v us ≡ true) [
        | true ↦ λ k. (member-without v (word - first_vertex shape) us k).0
        | false ↦ λ k. k
      ] m

  -- one to the vertex's seals it
  pub sealed-self : (us : List ℕ) → member v (sealed shape (first_vertex shape + v) us) ≡ false
  sealed-self us =
      let here : (first_vertex shape + v) - first_vertex shape ≡ v = omega arith in
      elim (leb (first_vertex shape) (first_vertex shape + v)) as
      (λ b. leb (first_vertex shape) (first_vertex shape + v) ≡ b
      → member v (cond b (without ((first_vertex shape + v) - first_vertex shape) us) us) ≡ false) [
        | true ↦ λ _. ap (λ k. member v (without k us)) here ∙ not_member-without v us
        | false ↦ λ f. absurd (omega (arith, leb-false _ _ f))
      ] refl

  -- a note but that of an entry leaves open what is open, and that comes only where nothing is
  note-open : (s : TableState) (note : NoteWord) → MayNote shape s note → member v s.unsealed ≡ true → member v (unsealed_from note s.unsealed) ≡ true
  note-open s Nothing h m = m
  note-open s (Enter add u w) h m = absurd (false≢true (sym (ap (member v) h) ∙ m))
  note-open s (Put x p) h m = m
  note-open s (Take x) h m = m

  -- so a vertex that was put stays open until its word is stored
  pub still-open : v < shape.fixed → (s : TableState) (e : Event) → MayStore shape s e → e.word ≢ first_vertex shape + v → member v s.unsealed ≡ true
      → member v (after_store shape s e).unsealed ≡ true
  still-open low s e may other m = elim (cases_Bool (eqb e.word 0)) [
    | inl t ↦ rw t (note-open s (note_of e.value) (may.note (eqb-true e.word 0 t)) m)
    | inr f ↦ rw f (put_in-is low s.note e.word (sealed shape e.word s.unsealed)
        ∙ or_right (member v (item_put s.note e.word)) (member v (sealed shape e.word s.unsealed)) (sealed-open e.word s.unsealed other m))
  ]

  -- a store that puts the vertex is to its item's word
  pub put-word : (note : NoteWord) (word : ℕ) → member v (item_put note word) ≡ true → word ≡ 1 + v
  put-word Nothing word m = absurd (false≢true m)
  put-word (Enter add u w) word m = absurd (false≢true m)
  put-word (Take x) word m = absurd (false≢true m)
  put-word (Put x p) word m =
      elim (cases_Bool (eqb word (1 + x))) [
        | inl t ↦ elim (cases_eq v x) [
          | inl e ↦ omega (arith, eqb-true word (1 + x) t, e)
          | inr ne ↦ absurd (false≢true (ap (λ b. b || false) (sym (ne_eqb v x ne)) ∙ (ap (λ b. member v (cond b (x ∷ []) [])) (sym t) ∙ m)))
        ]
        | inr f ↦ absurd (false≢true (ap (λ b. member v (cond b (x ∷ []) [])) (sym f) ∙ m))
      ]

-- Along a log. --------------------------------------------------------------------------------------

module _ (shape : Shape) (opening : List ℕ) where
  -- a legal log leaves as many words as the shape has
  pub words-long : (log : List Event) → Legal shape opening log → length (state_of shape opening log).words ≡ word_count shape
  words-long log h = long-after shape opening log h

  -- the number of the last entry never falls
  pub number-grows : (p q : List Event) → IsPrefix p q → number_after shape opening p ≤ number_after shape opening q
  number-grows p q pre =
      let more = entries-prefix shape opening p q pre in
      omega (arith, ap length more.1, length-append (state_of shape opening p).entries more.0)

  -- the stamp of a vertex is that of its word
  pub stamp-is : (log : List Event) (v : ℕ) → stamp_after shape opening log v ≡ (vertex_of (value_at opening log (first_vertex shape + v))).stamp
  stamp-is log v = ap (λ ws. (vertex_of (get_or ws (first_vertex shape + v) 0)).stamp) (state_of-words shape opening log)

  -- the stamp of a vertex never falls along a legal log
  pub stamps-rise : (p q : List Event) (v : ℕ) → IsPrefix p q → Legal shape opening q → stamp_after shape opening p v ≤ stamp_after shape opening q v
  stamps-rise p q v pre h = elim (vertex-rises shape opening v p q pre h) [
    | inl lt ↦ omega (arith, lt, stamp-is p v, stamp-is q v)
    | inr same ↦ omega (arith, ap (λ z. (vertex_of z).stamp) same, stamp-is p v, stamp-is q v)
  ]

  -- where it is the same after two prefixes, so is the word
  pub same-stamp : (p q : List Event) (v : ℕ) → IsPrefix p q → Legal shape opening q → stamp_after shape opening q v ≤ stamp_after shape opening p v
      → value_at opening p (first_vertex shape + v) ≡ value_at opening q (first_vertex shape + v)
  same-stamp p q v pre h le = elim (vertex-rises shape opening v p q pre h) [
    | inl lt ↦ absurd (omega (arith, lt, le, stamp-is p v, stamp-is q v))
    | inr same ↦ same
  ]

  -- a store to the vertex's word gives it the number of its section as stamp, which is greater than the one before
  pub stamp-stored : (log : List Event) (e : Event) (v : ℕ) → Legal shape opening (log ++ e ∷ []) → e.word ≡ first_vertex shape + v
      → (stamp_after shape opening (log ++ e ∷ []) v ≡ number_after shape opening log) × (stamp_after shape opening log v < number_after shape opening log)
  stamp-stored log e v h is =
      let before = legal-prefix shape opening log (log ++ e ∷ []) (e ∷ [], refl) h in
      let may = legal-last shape opening log e h in
      let seals = may.seals v is in
      let now = ap (λ z. (vertex_of z).stamp) (at-stored shape v (state_of shape opening log) e (words-long log before) may is) in
      (ap (λ s. stamp_in shape s v) (state_of-push shape opening log e) ∙ (now ∙ seals.stamp), omega (arith, seals.later, seals.stamp))

  -- a store to another word leaves its stamp
  pub stamp-other : (log : List Event) (e : Event) (v : ℕ) → e.word ≢ first_vertex shape + v
      → stamp_after shape opening (log ++ e ∷ []) v ≡ stamp_after shape opening log v
  stamp-other log e v other =
      ap (λ s. stamp_in shape s v) (state_of-push shape opening log e)
      ∙ ap (λ z. (vertex_of z).stamp) (at-other shape v (state_of shape opening log) e other)

  module _ (v : ℕ) (low : v < shape.fixed) where
    -- what is open after a prefix is open at the end, or its stamp has risen
    pub open-since : (more p q : List Event) → p ++ more ≡ q → Legal shape opening q → member v (state_of shape opening p).unsealed ≡ true
        → (member v (state_of shape opening q).unsealed ≡ true) ⊎ (stamp_after shape opening p v < stamp_after shape opening q v)
    open-since [] p q is h m = inl (ap (λ l. member v (state_of shape opening l).unsealed) (sym is ∙ append-nil p) ∙ m)
    open-since (e ∷ more) p q is h m =
        let next = p ++ e ∷ [] in
        let on : next ++ more ≡ q = append_assoc p (e ∷ []) more ∙ is in
        let pre : IsPrefix next q = (more, on) in
        let legal = legal-prefix shape opening next q pre h in
        elim (cases_eq e.word (first_vertex shape + v)) [
          | inl w ↦ let now = stamp-stored p e v legal w in inr (omega (arith, now.0, now.1, stamps-rise next q v pre h))
          | inr other ↦
              let still = ap (λ s. member v s.unsealed) (state_of-push shape opening p e)
              ∙ still-open shape v low (state_of shape opening p) e (legal-last shape opening p e legal) other m in
              elim (open-since more next q on h still) [ inl k ↦ inl k | inr lt ↦ inr (omega (arith, lt, stamp-other p e v other)) ]
        ]

    -- a vertex that was put after a prefix is open at the end, or has a greater stamp than after the prefix
    pub put-since : (from before : List Event) (e : Event) (log : List Event) → IsPrefix from before → IsPrefix (before ++ e ∷ []) log
        → Legal shape opening log → member v (item_put (state_of shape opening before).note e.word) ≡ true
        → (member v (state_of shape opening log).unsealed ≡ true) ⊎ (stamp_after shape opening from v < stamp_after shape opening log v)
    put-since from before e log a b h put =
        let next = before ++ e ∷ [] in
        let s = state_of shape opening before in
        let word : e.word ≡ 1 + v = put-word shape v s.note e.word put in
        let legal = legal-prefix shape opening next log b h in
        let other : e.word ≢ first_vertex shape + v = λ k. omega (arith, k, word, low, shape.fixed_in) in
        let stored : eqb e.word 0 ≡ false = ne_eqb e.word 0 (λ k. omega (arith, k, word)) in
        let opens : member v (after_store shape s e).unsealed ≡ true = rw stored (put_in-is shape v low s.note e.word (sealed shape e.word s.unsealed)
        ∙ ap (λ b. b || member v (sealed shape e.word s.unsealed)) put) in
        let is_open = ap (λ z. member v z.unsealed) (state_of-push shape opening before e) ∙ opens in
        elim (open-since b.0 next log b.1 h is_open) [
          | inl k ↦ inl k
          | inr lt ↦
              let early = legal-prefix shape opening before next (e ∷ [], refl) legal in
              inr (omega (arith, lt, stamp-other before e v other, stamps-rise from before v a early))
        ]
