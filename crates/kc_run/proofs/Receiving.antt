-- The receipts of one batch more.
use Rattle.std.proofs.Common.{◌≡◌, inl, inr, ℕ, ◌+◌, ◌-◌, ◌<◌, ◌≤◌, true, false, List, []}
use Rattle.std.proofs.Common.{◌∷◌, ◌++◌, All, length, refl, sym, ap, ◌∙◌, subst, arith, append_assoc, length-append}
use Rattle.std.proofs.lemmas.List.{map-append}
use Rattle.std.proofs.lemmas.Bool.{cases_lt, false_from_ne_true, false≢true}
use Rattle.std.proofs.lemmas.List.Elements.{All-append, All-head, All-tail, All-weaker}
use Rattle.kc_lists.specs.Lists.{Distinct, member}
use Rattle.kc_lists.proofs.Members.{member-append_left, member-append_right, member-cases}
use Rattle.kc_lists.proofs.Shared.{Distinct-append}
use Rattle.kc_graph.specs.SimpleGraph.{SimpleGraph}
use Rattle.kc_graph.specs.declared.update.Update.{Update}
use Rattle.kc_table.specs.declared.entry.Entry.{Entry}
use Rattle.kc_journal.specs.Entering.{entry_of}
use Rattle.kc_journal.specs.declared.answer.Receipt.{Receipt}
use Rattle.kc_batch.specs.Receipts.{AreBatchReceipts, IsReceiptOf, told_indices}
use Rattle.kc_run.specs.Receipts.{HasOneEach, IsReceiptAmong}

-- what is told is told of one of those that have the fact
told-holds : (P : ℕ → Type 0) (rs : List Receipt) → All (λ (r : Receipt). P r.index) rs → (x : ℕ) → member x (told_indices rs) ≡ true → P x
told-holds P [] h x m = absurd (false≢true m)
told-holds P (r ∷ rs) h x m = elim (member-cases x r.index (told_indices rs) m) [
  | inl e ↦ subst P (sym e) (All-head (λ (r : Receipt). P r.index) r rs h)
  | inr k ↦ told-holds P rs (All-tail (λ (r : Receipt). P r.index) r rs h) x k
]

module _ (started : SimpleGraph) (entries made : List Entry) (first : ℕ) (batch : List Update) where
  -- a receipt stays one when more is entered
  stays-receipt : (r : Receipt) → IsReceiptAmong started entries r → IsReceiptAmong started (entries ++ made) r
  stays-receipt r h = record {
    front = h.front;
    entry = h.entry;
    back = h.back ++ made;
    is = ap (λ (es : List Entry). es ++ made) h.is ∙ append_assoc h.front (h.entry ∷ h.back) made;
    index_is = h.index_is;
    place_is = h.place_is;
    applied = h.applied;
  }

  -- the receipt is one of an update of the batch
  abbrev Given : Receipt → Type 0
  Given r = IsReceiptOf started (entries ++ made) first batch (length entries) r

  -- such a receipt is one of all entries
  given-receipt : (r : Receipt) → Given r → IsReceiptAmong started (entries ++ made) r
  given-receipt r h = record {
    front = h.front;
    entry = entry_of r.index h.update;
    back = h.back;
    is = h.is;
    index_is = refl;
    place_is = h.place_is;
    applied = h.applied;
  }

  -- its index is not below the first
  given-from : (r : Receipt) → Given r → first ≤ r.index
  given-from r h = omega (arith, h.of.index_is)

  -- its index is below the end
  given-below : (r : Receipt) → Given r → r.index < first + length batch
  given-below r h = omega (arith, h.of.index_is, ap length h.of.is, length-append h.of.front (h.update ∷ h.of.back))

  -- With those of the batch each index has one.
  pub one-each-more : (olds news : List Receipt) → first ≡ length entries → length made ≡ length batch
      → HasOneEach started entries (length entries) olds → AreBatchReceipts started (entries ++ made) first batch (length entries) news
      → HasOneEach started (entries ++ made) (length (entries ++ made)) (olds ++ news)
  one-each-more olds news at many h k =
      let indices : told_indices (olds ++ news) ≡ told_indices olds ++ told_indices news = map-append (λ (r : Receipt). r.index) olds news in
      let long : length (entries ++ made) ≡ length entries + length made = length-append entries made in
      let from : (x : ℕ) → member x (told_indices news) ≡ true → first ≤ x =
      told-holds (λ (x : ℕ). first ≤ x) news (All-weaker Given (λ (r : Receipt). first ≤ r.index) given-from news k.each) in
      let below : (x : ℕ) → member x (told_indices olds) ≡ true → x < length entries = told-holds (λ (x : ℕ). x < length entries) olds h.within in
      let apart : (x : ℕ) → member x (told_indices olds) ≡ true → member x (told_indices news) ≡ false =
      λ x m. false_from_ne_true (member x (told_indices news)) (λ n. too-far x (below x m) (from x n) at) in
      record {
        each = All-append (IsReceiptAmong started (entries ++ made)) olds news
            (All-weaker (IsReceiptAmong started entries) (IsReceiptAmong started (entries ++ made)) stays-receipt olds h.each)
            (All-weaker Given (IsReceiptAmong started (entries ++ made)) given-receipt news k.each);
        once = subst Distinct (sym indices) (Distinct-append (told_indices olds) (told_indices news) h.once k.once apart);
        within = All-append (λ (r : Receipt). r.index < length (entries ++ made)) olds news
            (All-weaker (λ (r : Receipt). r.index < length entries) (λ (r : Receipt). r.index < length (entries ++ made))
            (λ r low. omega (arith, low, long)) olds h.within)
            (All-weaker Given (λ (r : Receipt). r.index < length (entries ++ made))
            (λ r given. omega (arith, given-below r given, long, at, many)) news k.each);
        all = λ index low. subst (λ (xs : List ℕ). member index xs ≡ true) (sym indices) (elim (cases_lt index (length entries)) [
          | inl here ↦ member-append_left index (told_indices olds) (told_indices news) (h.all index here)
          | inr past ↦ member-append_right index (told_indices olds) (told_indices news)
              (subst (λ (x : ℕ). member x (told_indices news) ≡ true) (omega (arith, past, at))
              (k.all (index - first) (omega (arith, past, low, long, at, many))))
        ]);
      }
    where
      too-far : (x : ℕ) → x < length entries → first ≤ x → first ≡ length entries → ⊥
      too-far x low high at = omega arith
