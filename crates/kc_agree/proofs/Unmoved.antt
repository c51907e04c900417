-- A place stamp that is that of now means that the vertex was not put since, and that its word is the same.
use Rattle.std.proofs.Common.{◌≡◌, ℕ, ◌+◌, ◌<◌, ◌≤◌, true, false, cond, List, [], ◌∷◌, ◌++◌, eqb, refl, sym, ap, ◌∙◌, inl, inr, arith, eq-eqb}
use Rattle.std.proofs.lemmas.Bool.{false≢true, false_from_ne_true, or_left}
use mathlib.Core.List.{IsPrefix}
use Rattle.kc_lists.specs.Lists.{member}
use Rattle.kc_words.specs.declared.note.NoteWord.{NoteWord}
use Rattle.kc_words.specs.declared.note.NoteWord.TheVariants.{Nothing, Enter, Put, Take}
use Rattle.kc_words.specs.declared.shape.Shape.{Shape}
use Rattle.kc_table.specs.declared.view.Event.{Event}
use Rattle.kc_table.specs.Legal.{IsClosed, Legal}
use Rattle.kc_table.specs.Log.{TableName}
use Rattle.kc_table.specs.Sections.{item_put}
use Rattle.kc_table.proofs.LegalLogs.{legal-prefix}
use Rattle.kc_table.proofs.Listed.{Announced, list-stands}
use Rattle.kc_table.proofs.Prefixes.{prefix_trans}
use Rattle.kc_table.proofs.Stamps.{open-since, put-since}
use Rattle.kc_agree.specs.Moved.{Announces, StaysPut}
use Rattle.kc_agree.specs.Stamps.{made_by, place_stamp}

-- a store that moves a vertex puts it: no vertex is ever taken
pub moved-put : (shape : Shape) (list : List ℕ) (note : NoteWord) (word v : ℕ) → v < shape.fixed → Announced shape list note
    → Announces note v → word ≡ 1 + v → member v (item_put note word) ≡ true
moved-put shape list Nothing word v low a is w = absurd is
moved-put shape list (Enter add x y) word v low a is w = absurd is
moved-put shape list (Put x p) word v low a is w =
    ap (λ b. member v (cond b (x ∷ []) [])) (eq-eqb word (1 + x) (omega (arith, w, is))) ∙ or_left (eqb v x) false (eq-eqb v x (sym is))
moved-put shape list (Take x) word v low a is w = absurd (omega (arith, a, is, low))

-- an item that stays between two prefixes stays between two that are nearer
pub stays_since : (table : TableName) (p m q : List Event) (x : ℕ) → IsPrefix p m → StaysPut table p q x → StaysPut table m q x
stays_since table p m q x pre h = λ log e a b. h log e (prefix_trans p m log pre a) b

module _ (table : TableName) (p q : List Event) (v : ℕ) (low : v < table.shape.fixed) (pre : IsPrefix p q)
    (legal : Legal table.shape table.opening q) (closed : IsClosed (made_by table q)) (le : place_stamp table q v ≤ place_stamp table p v) where
  -- the vertex was not open after the first prefix
  pub was_sealed : member v (made_by table p).unsealed ≡ false
  was_sealed = false_from_ne_true _ (λ m. elim (open-since table.shape table.opening v low pre.0 p q pre.1 legal m) [
    | inl k ↦ false≢true (sym (ap (member v) closed.0) ∙ k)
    | inr lt ↦ omega (arith, lt, le)
  ])

  -- and no store since has put it
  pub stays_put : StaysPut table p q v
  stays_put = λ log e a b moves.
      let before : Legal table.shape table.opening log =
      legal-prefix table.shape table.opening log (log ++ e ∷ []) (e ∷ [], refl) (legal-prefix table.shape table.opening (log ++ e ∷ []) q b legal) in
      let s = made_by table log in
      let put = moved-put table.shape s.list s.note e.word v low (list-stands table.shape table.opening log before).announced moves.0 moves.1 in
      elim (put-since table.shape table.opening v low p log e q a b legal put) [
        | inl k ↦ false≢true (sym (ap (member v) closed.0) ∙ k)
        | inr lt ↦ omega (arith, lt, le)
      ]
