-- A journal that went on, and goes on further; and versions that never fall along a log.
use Rattle.std.proofs.Common.{◌≡◌, inl, inr, ℕ, ◌≤◌, List, [], ◌∷◌, ◌++◌, length, set, get_or, refl, sym, ap, ◌∙◌, subst, arith, append_assoc}
use Rattle.std.proofs.Common.{append-nil, get_or-set_same, get_or-set_other}
use mathlib.Core.List.{IsPrefix}
use mathlib.Core.Logic.{dite}
use mathlib.Core.Logic.{◌≢◌}
use native.Mathlib.Decide.{ℕ_discrete}
use Rattle.std.proofs.lemmas.List.{set_past}
use Rattle.std.proofs.lemmas.Bool.{cases_lt}
use Rattle.kc_table.specs.declared.view.Event.{Event}
use Rattle.kc_table.specs.Legal.{IsVersioned, Legal, version_of}
use Rattle.kc_table.specs.Log.{PassSeen, TableName, value_at, words_after}
use Rattle.kc_table.specs.TableState.{state_of}
use Rattle.kc_table.proofs.LegalLogs.{after_store-words, legal-last, legal-prefix, state_of-push, state_of-words}
use Rattle.kc_table.proofs.Prefixes.{prefix_self, prefix_trans}
use Rattle.kc_journal.specs.Journals.{Journalled}
use Rattle.kc_workers.specs.Updates.{LeavesNoRoom}
use Rattle.kc_batch.specs.Runs.{IsNearlySpent, IsRenewal, StaysIn, WentOn}

-- a journal stays in its table where nothing was done
pub stays-self : (j : Journalled) → StaysIn j j
stays-self j = record {
  table = refl;
  opened = refl;
  opening_stamps = refl;
  started = refl;
  log = prefix_self j.levels.log;
  entries = prefix_self j.entries;
}

-- a journal that stays in its table, and then stays on, has stayed all along
pub stays-on : (a b c : Journalled) → StaysIn a b → StaysIn b c → StaysIn a c
stays-on a b c h k = record {
  table = k.table ∙ h.table;
  opened = k.opened ∙ h.opened;
  opening_stamps = k.opening_stamps ∙ h.opening_stamps;
  started = k.started ∙ h.started;
  log = prefix_trans a.levels.log b.levels.log c.levels.log h.log k.log;
  entries = prefix_trans a.entries b.entries c.entries h.entries k.entries;
}

-- it went on so, and then stays in its table
pub went-stays : (ended : List PassSeen) (old mid new : Journalled) → WentOn old ended mid → StaysIn mid new → WentOn old ended new
went-stays [] old mid new h k = stays-on old mid new h k
went-stays (last ∷ more) old mid new h k = (h.0, h.1, h.2, went-stays more h.1 mid new h.3 k)

-- it went on so, and then is renewed
pub went-renewed : (ended : List PassSeen) (last : PassSeen) (old mid new : Journalled) → WentOn old ended mid → IsRenewal mid last mid new
    → WentOn old (ended ++ last ∷ []) new
went-renewed [] last old mid new h k = (mid, new, record { stays = h; stands = k.stands; told = k.told; spent = k.spent; renews = k.renews }, stays-self new)
went-renewed (p ∷ more) last old mid new h k = (h.0, h.1, h.2, went-renewed more last h.1 mid new h.3 k)

-- over all its tables a run keeps its start, and its entries go on
pub went-entries : (ended : List PassSeen) (old new : Journalled) → WentOn old ended new → (new.started ≡ old.started) × IsPrefix old.entries new.entries
went-entries [] old new h = (h.started, h.entries)
went-entries (last ∷ more) old new h =
    let r : IsRenewal old last h.0 h.1 = h.2 in
    let k = went-entries more h.1 new h.3 in (
      k.0 ∙ (r.renews.started ∙ r.stays.started),
      prefix_trans old.entries h.1.entries new.entries (subst (IsPrefix old.entries) (sym r.renews.entries) r.stays.entries) k.1,
    )

-- One store leaves the version of a word, or raises it.
version-push : (t : TableName) (p : List Event) (e : Event) (w : ℕ) → IsVersioned t.shape w → Legal t.shape t.opening (p ++ e ∷ [])
    → version_of (value_at t.opening p w) ≤ version_of (value_at t.opening (p ++ e ∷ []) w)
version-push t p e w versioned legal =
    let ws = words_after t.opening p in
    let next : words_after t.opening (p ++ e ∷ []) ≡ set ws e.word e.value =
    sym (state_of-words t.shape t.opening (p ++ e ∷ []))
    ∙ (ap (λ s. s.words) (state_of-push t.shape t.opening p e)
    ∙ (after_store-words t.shape (state_of t.shape t.opening p) e
    ∙ ap (λ (z : List ℕ). set z e.word e.value) (state_of-words t.shape t.opening p))) in
    let now : value_at t.opening (p ++ e ∷ []) w ≡ get_or (set ws e.word e.value) w 0 = ap (λ (z : List ℕ). get_or z w 0) next in
    let may = legal-last t.shape t.opening p e legal in
    dite (ℕ_discrete e.word w)
    (λ (is : e.word ≡ w). elim (cases_lt w (length ws)) [
      | inl there ↦
          let stored : get_or (set ws e.word e.value) w 0 ≡ e.value =
          ap (λ (k : ℕ). get_or (set ws k e.value) w 0) is ∙ get_or-set_same ws w e.value 0 there in
          let newer = may.fresh (subst (IsVersioned t.shape) (sym is) versioned) in
          let before : get_or (state_of t.shape t.opening p).words e.word 0 ≡ get_or ws w 0 =
          ap (λ (z : List ℕ). get_or z e.word 0) (state_of-words t.shape t.opening p) ∙ ap (λ (k : ℕ). get_or ws k 0) is in
          omega (arith, newer, ap version_of (now ∙ stored), ap version_of before)
      | inr past ↦
          let same : set ws e.word e.value ≡ ws = set_past ws e.word e.value (omega (arith, past, is)) in
          omega (arith, ap version_of (now ∙ ap (λ (z : List ℕ). get_or z w 0) same))
    ])
    (λ (other : e.word ≢ w). omega (arith, ap version_of (now ∙ get_or-set_other ws e.word w e.value 0 (λ k. other (sym k)))))

-- the version of a word never falls along a log, some stores further on
versions-from : (t : TableName) (more p q : List Event) (w : ℕ) → IsVersioned t.shape w → p ++ more ≡ q → Legal t.shape t.opening q
    → version_of (value_at t.opening p w) ≤ version_of (value_at t.opening q w)
versions-from t [] p q w versioned is legal =
    omega (arith, ap (λ (z : List Event). version_of (value_at t.opening z w)) (sym (append-nil p) ∙ is))
versions-from t (e ∷ more) p q w versioned is legal =
    let on : (p ++ e ∷ []) ++ more ≡ q = append_assoc p (e ∷ []) more ∙ is in
    omega (
      arith,
      version-push t p e w versioned (legal-prefix t.shape t.opening (p ++ e ∷ []) q (more, on) legal),
      versions-from t more (p ++ e ∷ []) q w versioned on legal,
    )

-- versions that are nearly spent stay so
pub spent-stays : (t : TableName) (p q : List Event) → IsPrefix p q → Legal t.shape t.opening q → IsNearlySpent t p → IsNearlySpent t q
spent-stays t p q pre legal h = record {
  word = h.word;
  versioned = h.versioned;
  exceeds = omega (arith, h.exceeds, versions-from t pre.0 p q h.word h.versioned pre.1 legal);
}

-- where versions leave no room for an update they are nearly spent
pub nearly_spent : (t : TableName) (log : List Event) (highest needed : ℕ) → LeavesNoRoom t log highest needed → IsNearlySpent t log
nearly_spent t log highest needed h = record {
  word = h.is_highest.word;
  versioned = h.is_highest.versioned;
  exceeds = omega (arith, h.exceeds, h.few, h.is_highest.reached);
}
