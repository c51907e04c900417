-- A closed section has put exactly the vertices that have its number as stamp.
use Rattle.std.proofs.Common.{◌≡◌, ◌≢◌, ◌⊎◌, ◌↔◌, ℕ, ◌+◌, ◌<◌, ◌≤◌, Bool, true, false, cond, List, [], ◌∷◌, ◌++◌, length, eqb}
use Rattle.std.proofs.Common.{refl, sym, ap, ◌∙◌, subst, inl, inr, arith, eqb-true, ne_eqb, eq-eqb, append_assoc, append-nil, length-append}
use Rattle.std.specs.Prelude.{◌||◌}
use Rattle.std.proofs.lemmas.Bool.{cases_Bool, cases_eq, false≢true, or_left, or_right, or_cases}
use mathlib.Core.List.{IsPrefix}
use Rattle.kc_lists.specs.Lists.{member}
use Rattle.kc_lists.proofs.Members.{member-append, member-append_left, member-append_right}
use Rattle.kc_words.specs.NoteWord.{note_of}
use Rattle.kc_words.specs.declared.note.NoteWord.{NoteWord}
use Rattle.kc_words.specs.declared.note.NoteWord.TheVariants.{Nothing, Enter, Put, Take}
use Rattle.kc_words.specs.declared.shape.Shape.{Shape}
use Rattle.kc_table.specs.declared.entry.Entry.{Entry}
use Rattle.kc_table.specs.declared.view.Event.{Event}
use Rattle.kc_table.specs.Sections.{number_after, stamp_after, item_put, puts_from, puts_in}
use Rattle.kc_table.specs.TableState.{TableState, opened, after_store, after_stores, state_of, first_vertex, entered, index_in, unsealed_from, sealed}
use Rattle.kc_table.specs.Legal.{MayStore, MayNote, FollowsNote, IsClosed, Legal, last_entry}
use Rattle.kc_table.proofs.LegalLogs.{state_of-nil, state_of-push, legal-prefix, legal-last, legal-holds}
use Rattle.kc_table.proofs.Listed.{list-stands}
use Rattle.kc_table.proofs.Stamps.{number-grows, puts-none, put_in-is, sealed-open, open-sealed, sealed-self, stamp-stored, stamp-other}

-- What one store more puts. ---------------------------------------------------------------------------

-- what two logs put in a section, one behind the other, is what the first puts and then what the second puts
puts_from-append : (shape : Shape) (s : TableState) (es fs : List Event) (k : ℕ)
    → puts_from shape s (es ++ fs) k ≡ puts_from shape s es k ++ puts_from shape (after_stores shape s es) fs k
puts_from-append shape s [] fs k = refl
puts_from-append shape s (e ∷ es) fs k =
    let here : List ℕ = cond (eqb (last_entry shape s) k) (item_put s.note e.word) [] in
    let t : TableState = after_store shape s e in
    ap (λ (z : List ℕ). here ++ z) (puts_from-append shape t es fs k)
    ∙ sym (append_assoc here (puts_from shape t es k) (puts_from shape (after_stores shape t es) fs k))

module _ (shape : Shape) (opening : List ℕ) where
  -- a store adds what it puts to the section that is open, and nothing to the others
  pub puts_in-push : (log : List Event) (e : Event) (k : ℕ) → puts_in shape opening (log ++ e ∷ []) k
      ≡ puts_in shape opening log k ++ cond (eqb (number_after shape opening log) k) (item_put (state_of shape opening log).note e.word) []
  unfolding puts_in state_of
  puts_in-push log e k =
      let s : TableState = opened shape opening in
      let t : TableState = after_stores shape s log in
      let here : List ℕ = cond (eqb (last_entry shape t) k) (item_put t.note e.word) [] in
      puts_from-append shape s log (e ∷ []) k ∙ ap (λ (z : List ℕ). puts_from shape s log k ++ z) (append-nil here)

  -- the empty log has put nothing
  pub puts_in-nil : (k : ℕ) → puts_in shape opening [] k ≡ []
  unfolding puts_in
  puts_in-nil k = refl

  -- a condition on no vertices gives none
  cond-none : (b : Bool) → ◌≡◌ {A = List ℕ} (cond b [] []) []
  cond-none true = refl
  cond-none false = refl

  -- a store that puts nothing adds nothing
  pub adds-none : (log : List Event) (e : Event) (k : ℕ) → item_put (state_of shape opening log).note e.word ≡ []
      → puts_in shape opening (log ++ e ∷ []) k ≡ puts_in shape opening log k
  adds-none log e k none =
      puts_in-push log e k ∙ (ap (λ (z : List ℕ). puts_in shape opening log k ++ cond (eqb (number_after shape opening log) k) z []) none
      ∙ (ap (λ (z : List ℕ). puts_in shape opening log k ++ z) (cond-none (eqb (number_after shape opening log) k)) ∙ append-nil (puts_in shape opening log k)))

  -- a store in another section adds nothing to this one
  adds-elsewhere : (log : List Event) (e : Event) (k : ℕ) → number_after shape opening log ≢ k
      → puts_in shape opening (log ++ e ∷ []) k ≡ puts_in shape opening log k
  adds-elsewhere log e k other =
      puts_in-push log e k
      ∙ (ap (λ b. puts_in shape opening log k ++ cond b (item_put (state_of shape opening log).note e.word) [])
      (ne_eqb (number_after shape opening log) k other)
      ∙ append-nil (puts_in shape opening log k))

  -- a store to the note word puts nothing
  pub note-puts : (note : NoteWord) (word : ℕ) → word ≡ 0 → item_put note word ≡ []
  note-puts Nothing word z = refl
  note-puts (Enter add u v) word z = refl
  note-puts (Put x p) word z = ap (λ b. cond b (x ∷ []) []) (ne_eqb word (1 + x) (λ q. omega (arith, q, z)))
  note-puts (Take x) word z = refl

  -- a section that has not begun has put nothing
  late-since : (more p q : List Event) (k : ℕ) → p ++ more ≡ q → number_after shape opening q < k → puts_in shape opening p k ≡ []
      → puts_in shape opening q k ≡ []
  late-since [] p q k is lt none = ap (λ (l : List Event). puts_in shape opening l k) (sym is ∙ append-nil p) ∙ none
  late-since (e ∷ more) p q k is lt none =
      let fewer = number-grows shape opening p q (e ∷ more, is) in
      late-since more (p ++ e ∷ []) q k (append_assoc p (e ∷ []) more ∙ is) lt (adds-elsewhere p e k (λ z. omega (arith, z, fewer, lt)) ∙ none)

  -- a section that is not begun yet has no puts
  pub puts_in-late : (log : List Event) (k : ℕ) → number_after shape opening log < k → puts_in shape opening log k ≡ []
  puts_in-late log k lt = late-since log [] log k refl lt (puts_in-nil k)

  -- what a section has put stays so once the next has begun
  kept-since : (more p q : List Event) (k : ℕ) → p ++ more ≡ q → k < number_after shape opening p → puts_in shape opening q k ≡ puts_in shape opening p k
  kept-since [] p q k is lt = ap (λ (l : List Event). puts_in shape opening l k) (sym is ∙ append-nil p)
  kept-since (e ∷ more) p q k is lt =
      let grown = number-grows shape opening p (p ++ e ∷ []) (e ∷ [], refl) in
      kept-since more (p ++ e ∷ []) q k (append_assoc p (e ∷ []) more ∙ is) (omega (arith, grown, lt)) ∙ adds-elsewhere p e k (λ z. omega (arith, z, lt))

  -- a section that is closed keeps its puts
  pub puts_in-kept : (p q : List Event) (k : ℕ) → IsPrefix p q → k < number_after shape opening p → puts_in shape opening q k ≡ puts_in shape opening p k
  puts_in-kept p q k pre lt = kept-since pre.0 p q k pre.1 lt

-- What stamps tell of a section. ------------------------------------------------------------------------

-- Of one vertex: it was put in the section where it has its number as stamp or is still open, and else it was not.
record Tells (v stamp number : ℕ) (unsealed puts : List ℕ) : Type 0 where
  was_put : member v puts ≡ true → (stamp ≡ number) ⊎ (member v unsealed ≡ true)
  stamped : stamp ≡ number → member v puts ≡ true
  is_open : member v unsealed ≡ true → member v puts ≡ true

-- a note: where it is that of an entry, a section begins that has put nothing
tells-note : (v stamp base index : ℕ) (entries : List Entry) (us : List ℕ) (puts : ℕ → List ℕ) (note : NoteWord) → stamp ≤ base + length entries
    → ((k : ℕ) → base + length entries < k → puts k ≡ []) → (0 < length entries → Tells v stamp (base + length entries) us (puts (base + length entries)))
    → 0 < length (entered index note entries)
    → Tells v stamp (base + length (entered index note entries)) (unsealed_from note us) (puts (base + length (entered index note entries)))
tells-note v stamp base index entries us puts Nothing low late h some = h some
tells-note v stamp base index entries us puts (Put x p) low late h some = h some
tells-note v stamp base index entries us puts (Take x) low late h some = h some
tells-note v stamp base index entries us puts (Enter add u w) low late h some =
    let one : Entry = record { index = index; add = add; u = u; v = w } in
    let long = length-append entries (one ∷ []) in
    let none : puts (base + length (entries ++ one ∷ [])) ≡ [] = late (base + length (entries ++ one ∷ [])) (omega (arith, long)) in
    record {
      was_put = λ m. absurd (false≢true (sym (ap (member v) none) ∙ m));
      stamped = λ e. absurd (omega (arith, e, low, long));
      is_open = λ m. absurd (false≢true m);
    }

module _ (shape : Shape) (opening : List ℕ) (v : ℕ) (low : v < shape.fixed) where
  abbrev TellsAt : List Event → Type 0
  TellsAt log = 0 < length (state_of shape opening log).entries
      → Tells v (stamp_after shape opening log v) (number_after shape opening log) (state_of shape opening log).unsealed
      (puts_in shape opening log (number_after shape opening log))

  -- a store to another word than that of notes
  tells-stored : (log : List Event) (e : Event) → Legal shape opening (log ++ e ∷ []) → eqb e.word 0 ≡ false → TellsAt log → TellsAt (log ++ e ∷ [])
  tells-stored log e legal stored h some =
      let before = legal-prefix shape opening log (log ++ e ∷ []) (e ∷ [], refl) legal in
      let s = state_of shape opening log in
      let next = state_of shape opening (log ++ e ∷ []) in
      let n = number_after shape opening log in
      let may = legal-last shape opening log e legal in
      let push : next ≡ after_store shape s e = state_of-push shape opening log e in
      let entries : next.entries ≡ s.entries = ap (λ z. z.entries) push ∙ rw stored refl in
      let number : number_after shape opening (log ++ e ∷ []) ≡ n = ap (λ es. shape.base + length es) entries in
      let unsealed : member v next.unsealed ≡ (member v (item_put s.note e.word) || member v (sealed shape e.word s.unsealed)) =
      ap (λ z. member v z.unsealed) push ∙ (rw stored refl ∙ put_in-is shape v low s.note e.word (sealed shape e.word s.unsealed)) in
      let puts : puts_in shape opening (log ++ e ∷ []) (number_after shape opening (log ++ e ∷ [])) ≡ puts_in shape opening log n ++ item_put s.note e.word =
      ap (puts_in shape opening (log ++ e ∷ [])) number ∙ (puts_in-push shape opening log e n
      ∙ ap (λ b. puts_in shape opening log n ++ cond b (item_put s.note e.word) []) (eq-eqb n n refl)) in
      let was = h (omega (arith, some, ap length entries)) in
      elim (cases_eq e.word (first_vertex shape + v)) [
        | inl w ↦
            let none : item_put s.note e.word ≡ [] =
            puts-none shape v s.list s.note e.word (list-stands shape opening log before).announced may.follows (omega (arith, w)) in
            let stamp = stamp-stored shape opening log e v legal w in
            record {
              was_put = λ _. inl (stamp.0 ∙ sym number);
              stamped = λ _. ap (member v) puts
                  ∙ member-append_left v (puts_in shape opening log n) (item_put s.note e.word) (was.is_open (may.seals v w).put);
              is_open = λ m. absurd (false≢true (sym (unsealed
                  ∙ (ap (λ z. member v z || member v (sealed shape e.word s.unsealed)) none
                  ∙ (ap (λ k. member v (sealed shape k s.unsealed)) w ∙ sealed-self shape v s.unsealed))) ∙ m));
            }
        | inr other ↦
            let stamp = stamp-other shape opening log e v other in
            let still = open-sealed shape v e.word s.unsealed in
            record {
              was_put = λ m. elim (member-append v (puts_in shape opening log n) (item_put s.note e.word) (ap (member v) (sym puts) ∙ m)) [
                | inl k ↦ elim (was.was_put k) [
                  | inl is ↦ inl (stamp ∙ (is ∙ sym number))
                  | inr o ↦ inr (unsealed ∙ or_right (member v (item_put s.note e.word)) _ (sealed-open shape v e.word s.unsealed other o))
                ]
                | inr k ↦ inr (unsealed ∙ or_left _ (member v (sealed shape e.word s.unsealed)) k)
              ];
              stamped = λ is. ap (member v) puts
                  ∙ member-append_left v (puts_in shape opening log n) (item_put s.note e.word) (was.stamped (sym stamp ∙ (is ∙ number)));
              is_open = λ m. ap (member v) puts ∙ elim
                  (or_cases (member v (item_put s.note e.word)) (member v (sealed shape e.word s.unsealed)) (sym unsealed ∙ m)) [
                    | inl k ↦ member-append_right v (puts_in shape opening log n) (item_put s.note e.word) k
                    | inr k ↦ member-append_left v (puts_in shape opening log n) (item_put s.note e.word) (was.is_open (still k))
                  ];
            }
      ]

  -- a store to the note word
  tells-noted : (log : List Event) (e : Event) → Legal shape opening (log ++ e ∷ []) → e.word ≡ 0 → TellsAt log → TellsAt (log ++ e ∷ [])
  tells-noted log e legal is h some =
      let before = legal-prefix shape opening log (log ++ e ∷ []) (e ∷ [], refl) legal in
      let s = state_of shape opening log in
      let next = state_of shape opening (log ++ e ∷ []) in
      let note = note_of e.value in
      let index = index_in s in
      let push : next ≡ after_store shape s e = state_of-push shape opening log e in
      let noted : eqb e.word 0 ≡ true = eq-eqb e.word 0 is in
      let entries : next.entries ≡ entered index note s.entries = ap (λ z. z.entries) push ∙ rw noted refl in
      let unsealed : next.unsealed ≡ unsealed_from note s.unsealed = ap (λ z. z.unsealed) push ∙ rw noted refl in
      let stamp = stamp-other shape opening log e v (λ k. omega (arith, k, is)) in
      let told = tells-note v (stamp_after shape opening log v) shape.base index s.entries s.unsealed (puts_in shape opening log) note
      ((legal-holds shape opening log before).stamps v low) (puts_in-late shape opening log) h (omega (arith, some, ap length entries)) in
      let number : number_after shape opening (log ++ e ∷ []) ≡ shape.base + length (entered index note s.entries) =
      ap (λ es. shape.base + length es) entries in
      let puts : puts_in shape opening (log ++ e ∷ []) (number_after shape opening (log ++ e ∷ []))
      ≡ puts_in shape opening log (shape.base + length (entered index note s.entries)) =
      ap (puts_in shape opening (log ++ e ∷ [])) number ∙ adds-none shape opening log e _ (note-puts shape opening s.note e.word is) in
      subst (λ (z : (ℕ × ℕ) × (List ℕ × List ℕ)). Tells v z.0.0 z.0.1 z.1.0 z.1.1)
      (λ i. ((sym stamp i, sym number i), (sym unsealed i, sym puts i))) told

  tells-since : (more p q : List Event) → p ++ more ≡ q → Legal shape opening q → TellsAt p → TellsAt q
  tells-since [] p q is h t = subst TellsAt (sym (append-nil p) ∙ is) t
  tells-since (e ∷ more) p q is h t =
      let next = p ++ e ∷ [] in
      let on : next ++ more ≡ q = append_assoc p (e ∷ []) more ∙ is in
      let legal = legal-prefix shape opening next q (more, on) h in
      let one : TellsAt next = elim (cases_Bool (eqb e.word 0)) [
        | inl z ↦ tells-noted p e legal (eqb-true e.word 0 z) t
        | inr f ↦ tells-stored p e legal f t
      ] in
      tells-since more next q on h one

  -- the law: once a section is closed, it has put a vertex exactly where the vertex has its number as stamp
  pub put-exactly : (log : List Event) → Legal shape opening log → IsClosed (state_of shape opening log) → 0 < length (state_of shape opening log).entries
      → (member v (puts_in shape opening log (number_after shape opening log)) ≡ true) ↔ (stamp_after shape opening log v ≡ number_after shape opening log)
  put-exactly log h closed some =
      let begins : TellsAt [] = λ (l : 0 < length (state_of shape opening []).entries).
      absurd (omega (arith, l, ap (λ (z : TableState). length z.entries) (state_of-nil shape opening))) in
      let told = tells-since log [] log refl h begins some in (
        λ m. elim (told.was_put m) [ inl e ↦ e | inr k ↦ absurd (false≢true (sym (ap (member v) closed.0) ∙ k)) ],
        told.stamped,
      )

-- a store that adds an entry is to the note word
entry-noted : (shape : Shape) (s : TableState) (e : Event) → length s.entries < length (after_store shape s e).entries → e.word ≡ 0
entry-noted shape s e =
    elim (cases_Bool (eqb e.word 0)) [
      | inl t ↦ λ _. eqb-true e.word 0 t
      | inr f ↦ rw f (λ (l : length s.entries < length s.entries). absurd (omega (arith, l)))
    ]

-- one that enters is allowed only where the section before is closed
entry-closed : (shape : Shape) (s : TableState) (e : Event) → MayStore shape s e → e.word ≡ 0
    → length s.entries < length (entered (index_in s) (note_of e.value) s.entries) → IsClosed s
entry-closed shape s e may is more = (nothing-left (note_of e.value) (may.note is) more, quiet s.note may.follows)
  where
    nothing-left : (note : NoteWord) → MayNote shape s note → length s.entries < length (entered (index_in s) note s.entries) → s.unsealed ≡ []
    nothing-left Nothing m l = absurd (omega (arith, l))
    nothing-left (Enter add u v) m l = m
    nothing-left (Put x p) m l = absurd (omega (arith, l))
    nothing-left (Take x) m l = absurd (omega (arith, l))

    quiet : (note : NoteWord) → FollowsNote note e.word → (word : ℕ) → FollowsNote note word
    quiet Nothing f word = tt
    quiet (Enter add u v) f word = tt
    quiet (Put x p) f word = absurd (omega (arith, f, is))
    quiet (Take x) f word = absurd (omega (arith, f, is))

module _ (shape : Shape) (opening : List ℕ) where
  -- what stands before the note of an entry is closed
  pub closed-before : (before : List Event) (e : Event) → Legal shape opening (before ++ e ∷ [])
      → number_after shape opening before < number_after shape opening (before ++ e ∷ []) → IsClosed (state_of shape opening before)
  closed-before before e h lt =
      let s = state_of shape opening before in
      let push = ap (λ (z : TableState). z.entries) (state_of-push shape opening before e) in
      let more : length s.entries < length (after_store shape s e).entries = omega (arith, lt, ap length push) in
      let is = entry-noted shape s e more in
      let noted : (after_store shape s e).entries ≡ entered (index_in s) (note_of e.value) s.entries = rw (eq-eqb e.word 0 is) refl in
      entry-closed shape s e (legal-last shape opening before e h) is (omega (arith, more, ap length noted))

  -- the section that was the last after `before` has put v exactly where v had its number as stamp there
  abbrev PutExactly : List Event → List Event → ℕ → Type 0
  PutExactly log before v =
      (member v (puts_in shape opening log (number_after shape opening before)) ≡ true)
      ↔ (stamp_after shape opening before v ≡ number_after shape opening before)

  -- and so it is for an earlier section, by the stamps where it was closed
  pub put-exactly_earlier : (v : ℕ) → v < shape.fixed → (before : List Event) (e : Event) (log : List Event) → IsPrefix (before ++ e ∷ []) log
      → Legal shape opening log
      → number_after shape opening before < number_after shape opening (before ++ e ∷ []) → 0 < length (state_of shape opening before).entries
      → PutExactly log before v
  put-exactly_earlier v low before e log pre h lt some =
      let next = before ++ e ∷ [] in
      let legal = legal-prefix shape opening next log pre h in
      let early = legal-prefix shape opening before next (e ∷ [], refl) legal in
      let s = state_of shape opening before in
      let is = entry-noted shape s e (omega (arith, lt, ap (λ (z : TableState). length z.entries) (state_of-push shape opening before e))) in
      let same : puts_in shape opening log (number_after shape opening before) ≡ puts_in shape opening before (number_after shape opening before) =
      puts_in-kept shape opening next log (number_after shape opening before) pre lt
      ∙ adds-none shape opening before e (number_after shape opening before) (note-puts shape opening s.note e.word is) in
      let law = put-exactly shape opening v low before early (closed-before before e legal lt) some in (
        λ m. law.0 (ap (member v) (sym same) ∙ m),
        λ k. ap (member v) same ∙ law.1 k,
      )
