-- Each step keeps the rule.
use Rattle.std.proofs.Common.{◌≡◌, ◌≢◌, ℕ, zero, suc, List, [], ◌∷◌, ◌++◌, set, get_or, true, false, true≢false, refl, sym, ap, ◌∙◌, subst, ⊎_elim}
use Rattle.std.proofs.Common.{length, length-set, get_or-set_same, get_or-set_other, arith}
use lib.Seq.{set-get_or}
use mathlib.Core.List.{IsPrefix}
use mathlib.Core.Option.{some, none, some-injective, some-ne-none}
use lib.ListN.{get_elem?}
use Rattle.atomic_table.specs.Table.{State, Me, step, keeps, stepped, opening, Allows, Splits, Joins}
use Rattle.atomic_table.proofs.Lists.{at_set, at_snoc}
use Rattle.kc_table.specs.declared.view.Event.{Event}
use Rattle.kc_words.specs.declared.shape.Shape.{Shape}
use Rattle.kc_table.specs.declared.view.Opening.{Opening}
use Rattle.kc_table.specs.declared.view.Knowledge.{Knowledge}
use Rattle.kc_table.specs.Log.{words_after, value_at, event}
use Rattle.kc_table.specs.Legal.{Legal}
use Rattle.kc_table.specs.Rule.{EachBegins, Fits, KeepsTable, first_view, pass_of, parted, told, nobody, adds, sees, TellsLoad, TellsStore}
use Rattle.kc_table.proofs.LegalLogs.{legal-last, legal-opens}
use Rattle.kc_table.proofs.Prefixes.{prefix_self, prefix_push}

-- where false is true, anything follows
false_is_true-absurd : {X : Type 0} → false ≡ true → X
false_is_true-absurd e = absurd (true≢false (sym e))

-- the words after one store more are those before it with that one changed
pub words_after-push : (ws : List ℕ) (es : List Event) (e : Event) → words_after ws (es ++ e ∷ []) ≡ set (words_after ws es) e.word e.value
words_after-push ws [] e = refl
words_after-push ws (x ∷ es) e = words_after-push (set ws x.word x.value) es e

-- no store changes how many words there are
pub length-words_after : (ws : List ℕ) (es : List Event) → length (words_after ws es) ≡ length ws
length-words_after ws [] = refl
length-words_after ws (e ∷ es) = length-words_after (set ws e.word e.value) es ∙ length-set ws e.word e.value

-- a store leaves each other word
pub value_at-other : (opening : List ℕ) (log : List Event) (e : Event) (word : ℕ) → word ≢ e.word
    → value_at opening (log ++ e ∷ []) word ≡ value_at opening log word
value_at-other opening log e word other =
    ap (λ ws. get_or ws word 0) (words_after-push opening log e) ∙ get_or-set_other (words_after opening log) e.word word e.value 0 other

-- a store gives its own word its value
pub value_at-stored : (shape : Shape) (opening : List ℕ) (log : List Event) (e : Event) → Legal shape opening (log ++ e ∷ [])
    → value_at opening (log ++ e ∷ []) e.word ≡ e.value
value_at-stored shape opening log e h =
    let there = (legal-last shape opening log e h).there in
    let long = (legal-opens shape opening (log ++ e ∷ []) h).one_each in
    ap (λ ws. get_or ws e.word 0) (words_after-push opening log e)
    ∙ get_or-set_same (words_after opening log) e.word e.value 0 (omega (arith, there, long, length-words_after opening log))

-- beginnings of a log begin it after one store more too
each_longer : (ps : List (List Event)) (log : List Event) (e : Event) → EachBegins ps log → EachBegins ps (log ++ e ∷ [])
each_longer [] log e h = tt
each_longer (p ∷ ps) log e h = (prefix_push p log e h.0, each_longer ps log e h.1)

module _ (k : Opening) where
  -- the view fits the log
  abbrev F : List Event → ℕ → ℕ → Knowledge → Type 0
  F log writer seat v = Fits k.shape k.words.items log writer seat v

  -- the views after one is set: that one fits, and so does each other
  fits_set : (log : List Event) (writer : ℕ) (views : List Knowledge) (id : ℕ) (w : Knowledge) → F log writer id w
      → ((j : ℕ) (u : Knowledge) → j ≢ id → get_elem? views j ≡ some u → F log writer j u)
      → (j : ℕ) (u : Knowledge) → get_elem? (set views id w) j ≡ some u → F log writer j u
  fits_set log writer views id w mine others j u e = ⊎_elim
      (λ (t : (j ≡ id) × (w ≡ u)). subst (λ (x : ℕ × Knowledge). F log writer x.0 x.1) (λ i. (sym t.0 i, t.1 i)) mine)
      (λ (t : (j ≢ id) × (get_elem? views j ≡ some u)). others j u t.0 t.1)
      (at_set views id j w u e)

module _ {S : Type 0} (k : Opening) where
  -- the rule of the table
  abbrev Rule : State S Knowledge → Type 0
  Rule s = KeepsTable k s

  -- the rule holds at the opening
  pub opening-keeps_rule : (xs : List S) → Legal k.shape k.words.items [] → Rule (opening k.words.items xs (first_view k))
  opening-keeps_rule xs legal = record {
    log = [];
    writer = 0;
    words = refl;
    legal = legal;
    each = one;
  }
    where
      one : (j : ℕ) (v : Knowledge) → get_elem? (first_view k ∷ []) j ≡ some v → F k [] 0 j v
      one zero v e = subst (F k [] 0 0) (some-injective _ _ e) record {
        knows = λ _. record { same_shape = refl; same_opening = refl; begins = prefix_self []; kept_begin = tt };
        wrote = λ _. (refl, refl);
      }
      one (suc j) v e = absurd (some-ne-none v (sym e))

  -- a step that changes no word
  unmoved : (s : State S Knowledge) (h : Rule s) (i id : ℕ) (cs : List (ℕ × S)) (w : Knowledge) → F k h.log h.writer id w
      → Rule (stepped s i (get_or s.words i 0) id cs w keeps)
  unmoved s h i id cs w mine = record {
    log = h.log;
    writer = h.writer;
    words = set-get_or s.words i 0 ∙ h.words;
    legal = h.legal;
    each = fits_set k h.log h.writer s.views id w mine (λ j u _ e. h.each j u e);
  }

  -- a load keeps the rule
  pub load-keeps_rule : (slots id word : ℕ) (me : Me S Knowledge) → me.0.spent ≡ false
      → Allows Rule slots id me word (λ n. n) (TellsLoad (step slots word 0 0 none) me)
  load-keeps_rule slots id word me live s h len at bound =
      let v = me.0 in
      let f = h.each id v at in
      let n = f.knows live in
      let w = sees v h.log in
      let mine : F k h.log h.writer id w = record {
        knows = λ _. record { same_shape = n.same_shape; same_opening = n.same_opening; begins = prefix_self h.log; kept_begin = tt };
        wrote = λ writes. ((f.wrote writes).0, refl);
      } in (
        w,
        keeps,
        tt,
        unmoved s h word id me.1 w mine,
        (
          refl,
          refl,
          record {
            longer = n.begins;
            kept_begin = n.kept_begin;
            value = ap (λ (ws : List ℕ). get_or ws word 0) (h.words ∙ ap (λ (o : List ℕ). words_after o h.log) (sym n.same_opening));
            legal = subst (λ (x : Shape × List ℕ). Legal x.0 x.1 h.log) (λ i. (sym n.same_shape i, sym n.same_opening i)) h.legal;
            whole = λ writes. sym (f.wrote writes).1;
          },
        ),
      )

  -- a store keeps the rule
  pub store-keeps_rule : (slots id word value : ℕ) (me : Me S Knowledge) → me.0.spent ≡ false → me.0.writes ≡ true
      → Legal me.0.shape me.0.opening (me.0.seen ++ event word value ∷ [])
      → Allows Rule slots id me word (λ _. value) (λ _. TellsStore (step slots word value 0 none) me value)
  store-keeps_rule slots id word value me live writes legal s h len at bound =
      let v = me.0 in
      let f = h.each id v at in
      let n = f.knows live in
      let all = f.wrote writes in
      let e = event word value in
      let log = h.log ++ e ∷ [] in
      let w = adds v e in
      let mine : F k log h.writer id w = record {
        knows = λ _. record {
          same_shape = n.same_shape;
          same_opening = n.same_opening;
          begins = subst (λ (l : List Event). IsPrefix (v.seen ++ e ∷ []) (l ++ e ∷ [])) all.1 (prefix_self (v.seen ++ e ∷ []));
          kept_begin = each_longer v.kept h.log e n.kept_begin;
        };
        wrote = λ _. (all.0, ap (λ (l : List Event). l ++ e ∷ []) all.1);
      } in
      let others : (j : ℕ) (u : Knowledge) → j ≢ id → get_elem? s.views j ≡ some u → F k log h.writer j u = λ j u apart there.
      let g = h.each j u there in record {
        knows = λ l. let m = g.knows l in record {
          same_shape = m.same_shape;
          same_opening = m.same_opening;
          begins = prefix_push u.seen h.log e m.begins;
          kept_begin = each_longer u.kept h.log e m.kept_begin;
        };
        wrote = λ wr. absurd (apart ((g.wrote wr).0 ∙ sym all.0));
      } in (
        w,
        keeps,
        tt,
        record {
          log = log;
          writer = h.writer;
          words = ap (λ (ws : List ℕ). set ws word value) h.words ∙ sym (words_after-push k.words.items h.log e);
          legal = subst (λ (x : Shape × (List ℕ × List Event)). Legal x.0 x.1.0 (x.1.1 ++ e ∷ [])) (λ i. (n.same_shape i, (n.same_opening i, all.1 i))) legal;
          each = fits_set k log h.writer s.views id w mine others;
        },
        refl,
      )

  -- a split adds a pass, and the view that it was split from has made a split more
  pub split-keeps_rule : (id : ℕ) (v : Knowledge) → v.spent ≡ false → Splits Rule id v (parted v) (pass_of v)
  split-keeps_rule id v live s h at =
      let f = h.each id v at in
      let n = f.knows live in
      let mine : F k h.log h.writer id (parted v) = record {
        knows = λ _. record { same_shape = n.same_shape; same_opening = n.same_opening; begins = n.begins; kept_begin = n.kept_begin };
        wrote = f.wrote;
      } in record {
        log = h.log;
        writer = h.writer;
        words = h.words;
        legal = h.legal;
        each = λ j u e. ⊎_elim
            (λ was. fits_set k h.log h.writer s.views id (parted v) mine (λ i w _ e'. h.each i w e') j u was)
            (λ (same : pass_of v ≡ u). subst (F k h.log h.writer j) same record {
              knows = λ _. record { same_shape = n.same_shape; same_opening = n.same_opening; begins = n.begins; kept_begin = tt };
              wrote = λ wr. false_is_true-absurd wr;
            })
            (at_snoc (set s.views id (parted v)) (pass_of v) u j e);
      }

  -- the rule is kept where two views are joined
  pub join-keeps_rule : (id : ℕ) (v : Knowledge) (other : ℕ) (u : Knowledge) → v.spent ≡ false → u.spent ≡ false → Joins Rule id v other u (told v u) nobody
  join-keeps_rule id v other u live live' s h at apart there =
      let w = told v u in
      let f = h.each id v at in
      let n = f.knows live in
      let theirs : F k h.log h.writer other u = ⊎_elim
      (λ (t : (other ≡ id) × (w ≡ u)). absurd (apart t.0))
      (λ (t : (other ≢ id) × (get_elem? s.views other ≡ some u)). h.each other u t.1)
      (at_set s.views id other w u there) in
      let m = theirs.knows live' in
      let mine : F k h.log h.writer id w = record {
        knows = λ _. record { same_shape = n.same_shape; same_opening = n.same_opening; begins = n.begins; kept_begin = (m.begins, n.kept_begin) };
        wrote = f.wrote;
      } in
      let none_left : F k h.log h.writer other nobody = record { knows = λ l. absurd (true≢false l); wrote = λ wr. false_is_true-absurd wr } in record {
        log = h.log;
        writer = h.writer;
        words = h.words;
        legal = h.legal;
        each = fits_set k h.log h.writer (set s.views id w) other nobody none_left
            (λ j x _ e. fits_set k h.log h.writer s.views id w mine (λ i y _ e'. h.each i y e') j x e);
      }
