-- A place stamp that has risen is the number of the section in which the word was stored, and which put the vertex.
use Rattle.std.proofs.Common.{◌≡◌, ◌≢◌, ℕ, ◌+◌, ◌<◌, ◌≤◌, true, cond, List, [], ◌∷◌, ◌++◌, length, eqb}
use Rattle.std.proofs.Common.{refl, sym, ap, ◌∙◌, subst, inl, inr, arith, eqb-true, eq-eqb, append_assoc, append-nil}
use Rattle.std.specs.Prelude.{◌||◌}
use Rattle.std.proofs.lemmas.Bool.{cases_Bool, cases_eq, cases_lt, false≢true, or_cases}
use mathlib.Core.List.{IsPrefix}
use Rattle.kc_lists.specs.Lists.{member}
use Rattle.kc_lists.proofs.Members.{member-append, member-append_left, member-append_right}
use Rattle.kc_words.specs.NoteWord.{note_of}
use Rattle.kc_words.specs.declared.note.NoteWord.{NoteWord}
use Rattle.kc_words.specs.declared.note.NoteWord.TheVariants.{Nothing, Enter, Put, Take}
use Rattle.kc_table.specs.declared.entry.Entry.{Entry}
use Rattle.kc_table.specs.declared.view.Event.{Event}
use Rattle.kc_table.specs.Legal.{IsClosed, Legal}
use Rattle.kc_table.specs.Log.{TableName}
use Rattle.kc_table.specs.Sections.{item_put, puts_in}
use Rattle.kc_table.specs.TableState.{after_store, entered, first_vertex, index_in, sealed, unsealed_from}
use Rattle.kc_table.proofs.LegalLogs.{legal-last, legal-prefix, state_of-nil, state_of-push}
use Rattle.kc_table.proofs.Prefixes.{prefix_self, prefix_trans}
use Rattle.kc_table.proofs.Putting.{puts_in-nil, puts_in-push}
use Rattle.kc_table.proofs.Stamps.{number-grows, open-sealed, put-since, put-word, put_in-is, stamp-other, stamp-stored, stamps-rise, still-open}
use Rattle.kc_agree.specs.Sections.{SealedIn}
use Rattle.kc_agree.specs.Stamps.{made_by, number_of, place_stamp}

module _ (table : TableName) (v : ℕ) where
  -- a store behind a shorter prefix
  sealed-wider : (p m q : List Event) (n : ℕ) → IsPrefix p m → SealedIn table m q v n → SealedIn table p q v n
  sealed-wider p m q n pre h = record {
    log = h.log;
    store = h.store;
    begins = prefix_trans p m h.log pre h.begins;
    ends = h.ends;
    word = h.word;
    section = h.section;
  }

  -- a stamp that has risen is that of a store since
  seal_since : (more p q : List Event) → p ++ more ≡ q → Legal table.shape table.opening q → place_stamp table p v < place_stamp table q v
      → SealedIn table p q v (place_stamp table q v)
  seal_since [] p q is h lt = absurd (omega (arith, lt, ap (λ log. place_stamp table log v) (sym (append-nil p) ∙ is)))
  seal_since (e ∷ more) p q is h lt =
      let next = p ++ e ∷ [] in
      let on : next ++ more ≡ q = append_assoc p (e ∷ []) more ∙ is in
      let pre : IsPrefix next q = (more, on) in
      let legal = legal-prefix table.shape table.opening next q pre h in
      elim (cases_eq e.word (first_vertex table.shape + v)) [
        | inl w ↦ elim (cases_lt (place_stamp table next v) (place_stamp table q v)) [
          | inl later ↦ sealed-wider p next q (place_stamp table q v) (e ∷ [], refl) (seal_since more next q on h later)
          | inr last ↦ record {
            log = p;
            store = e;
            begins = prefix_self p;
            ends = pre;
            word = w;
            section = omega (arith, last, stamps-rise table.shape table.opening next q v pre h, (stamp-stored table.shape table.opening p e v legal w).0);
          }
        ]
        | inr other ↦
            let still : place_stamp table next v < place_stamp table q v = omega (arith, lt, stamp-other table.shape table.opening p e v other) in
            sealed-wider p next q (place_stamp table q v) (e ∷ [], refl) (seal_since more next q on h still)
      ]

  -- a stamp that rose was sealed since, in the section of its number
  pub sealed_since : (p q : List Event) → IsPrefix p q → Legal table.shape table.opening q → place_stamp table p v < place_stamp table q v
      → SealedIn table p q v (place_stamp table q v)
  sealed_since p q pre h lt = seal_since pre.0 p q pre.1 h lt

-- What sections put. --------------------------------------------------------------------------------------

-- A note that leaves a vertex open is that of no entry.
open-from : (v index : ℕ) (note : NoteWord) (us : List ℕ) (entries : List Entry) → member v (unsealed_from note us) ≡ true
    → (member v us ≡ true) × (entered index note entries ≡ entries)
open-from v index Nothing us entries m = (m, refl)
open-from v index (Enter add x y) us entries m = absurd (false≢true m)
open-from v index (Put x p) us entries m = (m, refl)
open-from v index (Take x) us entries m = (m, refl)

module _ (table : TableName) (v : ℕ) (low : v < table.shape.fixed) where
  -- what is new in a section by one store
  abbrev new_put : List Event → Event → ℕ → List ℕ
  new_put log e k = cond (eqb (number_of table log) k) (item_put (made_by table log).note e.word) []

  -- section `k` has put the vertex
  abbrev Put_in : List Event → ℕ → Type 0
  Put_in log k = member v (puts_in table.shape table.opening log k) ≡ true

  -- the state after one store more
  push : (log : List Event) (e : Event) → made_by table (log ++ e ∷ []) ≡ after_store table.shape (made_by table log) e
  push log e = state_of-push table.shape table.opening log e

  -- what a section has put it has put for good
  put-next : (log : List Event) (e : Event) (k : ℕ) → Put_in log k → Put_in (log ++ e ∷ []) k
  put-next log e k m =
      ap (member v) (puts_in-push table.shape table.opening log e k)
      ∙ member-append_left v (puts_in table.shape table.opening log k) (new_put log e k) m

  -- the same in each longer log
  put-stays : (more p q : List Event) (k : ℕ) → p ++ more ≡ q → Put_in p k → Put_in q k
  put-stays [] p q k is m = subst (λ log. Put_in log k) (sym (append-nil p) ∙ is) m
  put-stays (e ∷ more) p q k is m = put-stays more (p ++ e ∷ []) q k (append_assoc p (e ∷ []) more ∙ is) (put-next p e k m)

  -- a vertex that is open was put in the section that is open
  abbrev WasPut : List Event → Type 0
  WasPut log = member v (made_by table log).unsealed ≡ true → Put_in log (number_of table log)

  -- the same with one store more
  was_put-next : (log : List Event) (e : Event) → WasPut log → WasPut (log ++ e ∷ [])
  was_put-next log e h m =
      let s = made_by table log in
      let next = made_by table (log ++ e ∷ []) in
      elim (cases_Bool (eqb e.word 0)) [
        | inl t ↦
            let unsealed : next.unsealed ≡ unsealed_from (note_of e.value) s.unsealed = ap (λ z. z.unsealed) (push log e) ∙ rw t refl in
            let entries : next.entries ≡ entered (index_in s) (note_of e.value) s.entries = ap (λ z. z.entries) (push log e) ∙ rw t refl in
            let o = open-from v (index_in s) (note_of e.value) s.unsealed s.entries (sym (ap (member v) unsealed) ∙ m) in
            let number : number_of table (log ++ e ∷ []) ≡ number_of table log = ap (λ (es : List Entry). table.shape.base + length es) (entries ∙ o.1) in
            subst (Put_in (log ++ e ∷ [])) (sym number) (put-next log e (number_of table log) (h o.0))
        | inr f ↦
            let put = item_put s.note e.word in
            let rest = sealed table.shape e.word s.unsealed in
            let unsealed : member v next.unsealed ≡ (member v put || member v rest) =
            ap (λ z. member v z.unsealed) (push log e) ∙ (rw f refl ∙ put_in-is table.shape v low s.note e.word rest) in
            let entries : next.entries ≡ s.entries = ap (λ z. z.entries) (push log e) ∙ rw f refl in
            let n = number_of table log in
            let number : number_of table (log ++ e ∷ []) ≡ n = ap (λ (es : List Entry). table.shape.base + length es) entries in
            let here : Put_in (log ++ e ∷ []) n = elim (or_cases (member v put) (member v rest) (sym unsealed ∙ m)) [
              | inl k ↦
                  let now : member v (new_put log e n) ≡ true = ap (λ b. member v (cond b put [])) (eq-eqb n n refl) ∙ k in
                  ap (member v) (puts_in-push table.shape table.opening log e n)
                  ∙ member-append_right v (puts_in table.shape table.opening log n) (new_put log e n) now
              | inr k ↦ put-next log e n (h (open-sealed table.shape v e.word s.unsealed k))
            ] in
            subst (Put_in (log ++ e ∷ [])) (sym number) here
      ]

  -- the same in each longer log
  was_put-since : (more p q : List Event) → p ++ more ≡ q → WasPut p → WasPut q
  was_put-since [] p q is h = subst WasPut (sym (append-nil p) ∙ is) h
  was_put-since (e ∷ more) p q is h = was_put-since more (p ++ e ∷ []) q (append_assoc p (e ∷ []) more ∙ is) (was_put-next p e h)

  -- the same in each log
  open_was_put : (log : List Event) → WasPut log
  open_was_put log =
      let none : (made_by table []).unsealed ≡ [] = ap (λ s. s.unsealed) (state_of-nil table.shape table.opening) in
      was_put-since log [] log refl (λ m. absurd (false≢true (sym (ap (member v) none) ∙ m)))

  -- so a stamp that has risen is the number of a section that put the vertex
  pub risen_was_put : (p q : List Event) → IsPrefix p q → Legal table.shape table.opening q → place_stamp table p v < place_stamp table q v
      → Put_in q (place_stamp table q v)
  risen_was_put p q pre h lt =
      let s = sealed_since table v p q pre h lt in
      let legal = legal-prefix table.shape table.opening (s.log ++ s.store ∷ []) q s.ends h in
      let may = legal-last table.shape table.opening s.log s.store legal in
      let put : Put_in s.log (number_of table s.log) = open_was_put s.log (may.seals v s.word).put in
      let longer = prefix_trans s.log (s.log ++ s.store ∷ []) q (s.store ∷ [], refl) s.ends in
      put-stays longer.0 s.log q (place_stamp table q v) longer.1 (subst (Put_in s.log) s.section put)

  -- what is open after a prefix has, in the end, a stamp that is no less than the number of that section
  bound-since : (more p q : List Event) → p ++ more ≡ q → Legal table.shape table.opening q → IsClosed (made_by table q)
      → member v (made_by table p).unsealed ≡ true → number_of table p ≤ place_stamp table q v
  bound-since [] p q is h closed m =
      absurd (false≢true (sym (ap (λ log. member v (made_by table log).unsealed) (sym (append-nil p) ∙ is) ∙ ap (member v) closed.0) ∙ m))
  bound-since (e ∷ more) p q is h closed m =
      let next = p ++ e ∷ [] in
      let on : next ++ more ≡ q = append_assoc p (e ∷ []) more ∙ is in
      let pre : IsPrefix next q = (more, on) in
      let legal = legal-prefix table.shape table.opening next q pre h in
      elim (cases_eq e.word (first_vertex table.shape + v)) [
        | inl w ↦
            let stored = stamp-stored table.shape table.opening p e v legal w in
            omega (arith, stored.0, stamps-rise table.shape table.opening next q v pre h)
        | inr other ↦
            let still : member v (made_by table next).unsealed ≡ true =
            ap (λ s. member v s.unsealed) (push p e)
            ∙ still-open table.shape v low (made_by table p) e (legal-last table.shape table.opening p e legal) other m in
            omega (arith, bound-since more next q on h closed still, number-grows table.shape table.opening p next (e ∷ [], refl))
      ]

  -- a store that puts the vertex opens it
  opens : (p : List Event) (e : Event) → Legal table.shape table.opening (p ++ e ∷ []) → member v (item_put (made_by table p).note e.word) ≡ true
      → member v (made_by table (p ++ e ∷ [])).unsealed ≡ true
  opens p e h m =
      let next = p ++ e ∷ [] in
      let word : e.word ≡ 1 + v = put-word table.shape v (made_by table p).note e.word m in
      let other : e.word ≢ first_vertex table.shape + v = λ k. omega (arith, k, word, low, table.shape.fixed_in) in
      elim (put-since table.shape table.opening v low p p e next (prefix_self p) (prefix_self next) h m) [
        | inl k ↦ k
        | inr lt ↦ absurd (omega (arith, lt, stamp-other table.shape table.opening p e v other))
      ]

  -- and no section that put the vertex has a number above its stamp
  no_later-since : (more p q : List Event) (k : ℕ) → p ++ more ≡ q → Legal table.shape table.opening q → IsClosed (made_by table q)
      → (Put_in p k → k ≤ place_stamp table q v) → Put_in q k → k ≤ place_stamp table q v
  no_later-since [] p q k is h closed begins m = begins (subst (λ log. Put_in log k) (sym is ∙ append-nil p) m)
  no_later-since (e ∷ more) p q k is h closed begins m =
      let next = p ++ e ∷ [] in
      let on : next ++ more ≡ q = append_assoc p (e ∷ []) more ∙ is in
      let legal = legal-prefix table.shape table.opening next q (more, on) h in
      let put = item_put (made_by table p).note e.word in
      let here : Put_in next k → k ≤ place_stamp table q v = λ n.
      let all = sym (ap (member v) (puts_in-push table.shape table.opening p e k)) ∙ n in
      elim (member-append v (puts_in table.shape table.opening p k) (new_put p e k) all) [
        | inl was ↦ begins was
        | inr new ↦ elim (cases_Bool (eqb (number_of table p) k)) [
          | inl t ↦
              let is_put : member v put ≡ true = sym (ap (λ b. member v (cond b put [])) t) ∙ new in
              let bound = bound-since more next q on h closed (opens p e legal is_put) in
              omega (arith, bound, eqb-true _ _ t, number-grows table.shape table.opening p next (e ∷ [], refl))
          | inr f ↦ absurd (false≢true (sym (ap (λ b. member v (cond b put [])) f) ∙ new))
        ]
      ] in
      no_later-since more next q k on h closed here m

  -- in a closed log, no section behind the vertex's stamp has put it
  pub put_no_later : (q : List Event) (k : ℕ) → Legal table.shape table.opening q → IsClosed (made_by table q)
      → Put_in q k → k ≤ place_stamp table q v
  put_no_later q k h closed m =
      no_later-since q [] q k refl h closed (λ n. absurd (false≢true (sym (ap (member v) (puts_in-nil table.shape table.opening k)) ∙ n))) m
