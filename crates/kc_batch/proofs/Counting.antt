-- As many receipts as entries were made, none of one index with another, tell each of the entries once.
use Rattle.std.proofs.Common.{◌≡◌, inl, inr, ℕ, ◌+◌, ◌-◌, ◌<◌, ◌≤◌, true, List, [], ◌∷◌, ◌++◌, All, length, map, get_or, refl, sym, ap, ◌∙◌, subst, arith}
use Rattle.std.proofs.Common.{length-append}
use Rattle.std.proofs.lemmas.Bool.{true≢false}
use Rattle.std.proofs.lemmas.List.{get_or-append-add, get_or-map, get_or_at, get_or_default, length-map}
use Rattle.std.proofs.lemmas.List.Elements.{All-head, All-tail, All-weaker}
use Rattle.kc_lists.specs.Lists.{Distinct, member}
use Rattle.kc_lists.proofs.Counting.{Distinct-from_pairs}
use Rattle.kc_lists.proofs.Members.{below_bound, member-cases, member-head, member-tail}
use Rattle.kc_graph.specs.SimpleGraph.{SimpleGraph}
use Rattle.kc_graph.specs.declared.update.Update.{Update}
use Rattle.kc_table.specs.declared.entry.Entry.{Entry}
use Rattle.kc_journal.specs.Entering.{entry_of}
use Rattle.kc_journal.specs.declared.answer.Receipt.{Receipt}
use Rattle.kc_batch_effects.specs.Entered.{AreSomeOf, IsOneOf, IsUpdateAt, indices}
use Rattle.kc_batch.specs.Receipts.{AreBatchReceipts, AreReceiptsOf, IsReceiptOf, told_indices}
use Rattle.kc_batch.proofs.Lists.{all-below, distinct-images, images-apart}
use Rattle.kc_batch.proofs.Turning.{distinct_within-fewer}

-- which of the entries behind the first `from` it is, from 0
abbrev which : ℕ → Receipt → ℕ
which from r = r.place - (from + 1)

-- the index of one of these entries
abbrev index_at : List Entry → ℕ → ℕ
index_at made k = get_or (indices made) k 0

module _ (started : SimpleGraph) (old made : List Entry) (first : ℕ) (batch : List Update) where
  -- the receipt is one of an update of the batch
  abbrev Tells : Receipt → Type 0
  Tells r = IsReceiptOf started (old ++ made) first batch (length old) r

  record Placed (r : Receipt) (update : Update) : Type 0 where
    there : which (length old) r < length made
    is : (d : Entry) → get_or made (which (length old) r) d ≡ entry_of r.index update

  placed : (r : Receipt) (h : Tells r) → Placed r h.update
  placed r h =
      let k = which (length old) r in
      let e : Entry = entry_of r.index h.update in
      let at : length h.front ≡ length old + k = omega (arith, h.place_is, h.later) in
      let long : length old + length made ≡ length h.front + length (e ∷ h.back) =
      sym (length-append old made) ∙ (ap (λ (z : List Entry). length z) h.is ∙ length-append h.front (e ∷ h.back)) in
      record {
        there = omega (arith, at, long);
        is = λ d. sym (get_or-append-add old made k d)
            ∙ (ap (λ (n : ℕ). get_or (old ++ made) n d) (sym at)
            ∙ (ap (λ (z : List Entry). get_or z (length h.front) d) h.is ∙ get_or_at h.front e h.back d (length h.front) refl));
      }

  -- the index that a receipt tells is that of its entry
  told_index : (r : Receipt) → Tells r → r.index ≡ index_at made (which (length old) r)
  told_index r h =
      let p = placed r h in
      let d : Entry = entry_of r.index h.update in
      sym (get_or-map (λ (e : Entry). e.index) made (which (length old) r) d 0 p.there ∙ ap (λ (e : Entry). e.index) (p.is d))

  -- the indices that receipts tell are those of their entries
  images : (rs : List Receipt) → All Tells rs → told_indices rs ≡ map (index_at made) (map (which (length old)) rs)
  images [] h = refl
  images (r ∷ rs) h = λ i. told_index r (All-head Tells r rs h) i ∷ images rs (All-tail Tells r rs h) i

  -- One of the receipts names this entry.
  record Named (rs : List Receipt) (k : ℕ) : Type 0 where
    receipt : Receipt
    tells : Tells receipt
    at : k ≡ which (length old) receipt
    among : member receipt.index (told_indices rs) ≡ true

  -- each entry that is named is named by one of the receipts
  named : (rs : List Receipt) → All Tells rs → (k : ℕ) → member k (map (which (length old)) rs) ≡ true → Named rs k
  named [] h k m = absurd (true≢false (sym m))
  named (r ∷ rs) h k m = elim (member-cases k (which (length old) r) (map (which (length old)) rs) m) [
    | inl e ↦ record { receipt = r; tells = All-head Tells r rs h; at = e; among = member-head r.index (told_indices rs) }
    | inr n ↦ let t = named rs (All-tail Tells r rs h) k n in
        record { receipt = t.receipt; tells = t.tells; at = t.at; among = member-tail t.receipt.index r.index (told_indices rs) t.among }
  ]

  -- the entries that receipts of different indices name are distinct
  apart : (rs : List Receipt) → All Tells rs → Distinct (told_indices rs) → Distinct (map (index_at made) (map (which (length old)) rs))
  apart rs h once = subst Distinct (images rs h) once

  -- an entry that a receipt names is one of these
  low : (rs : List Receipt) → All Tells rs → (k : ℕ) → member k (map (which (length old)) rs) ≡ true → k < length made
  low rs h k m = let n = named rs h k m in let p = placed n.receipt n.tells in omega (arith, n.at, p.there)

  -- receipts of different indices, as many as entries, name each entry
  covered : (rs : List Receipt) → All Tells rs → Distinct (told_indices rs) → length rs ≡ length made
      → (k : ℕ) → k < length made → member k (map (which (length old)) rs) ≡ true
  covered rs h once as_many =
      let ks = map (which (length old)) rs in
      all-below (length made) ks (distinct-images (index_at made) ks (apart rs h once)) (low rs h) (omega (arith, length-map rs (which (length old)), as_many))

  -- receipts of different indices, as many as entries, tell each entry once
  pub each-told : (rs : List Receipt) → All Tells rs → Distinct (told_indices rs) → length rs ≡ length made
      → AreReceiptsOf started (old ++ made) first batch (length old) made rs
  each-told rs h once as_many = record {
    each = h;
    once = once;
    as_many = as_many;
    all = λ k d l.
        let n = named rs h k (covered rs h once as_many k l) in
        let p = placed n.receipt n.tells in
        let is : get_or made k d ≡ entry_of n.receipt.index n.tells.update = ap (λ (z : ℕ). get_or made z d) n.at ∙ p.is d in
        subst (λ (e : Entry). member e.index (told_indices rs) ≡ true) (sym is) n.among;
  }

  -- receipts of different indices, as many as entries, tell some of the batch
  pub some_of : (rs : List Receipt) → All Tells rs → Distinct (told_indices rs) → length rs ≡ length made → AreSomeOf first batch made
  some_of rs h once as_many =
      let ks = map (which (length old)) rs in
      let distinct = apart rs h once in
      let all : (k : ℕ) → k < length made → member k ks ≡ true = covered rs h once as_many in
      record {
        each = λ k d l.
            let n = named rs h k (all k l) in
            let t = n.tells in
            let p = placed n.receipt t in
            let is : get_or made k d ≡ entry_of n.receipt.index t.update = ap (λ (z : ℕ). get_or made z d) n.at ∙ p.is d in
            subst (IsOneOf first batch) (sym is) (t.update, t.of, refl);
        once = Distinct-from_pairs (indices made) (λ i j d before within same.
            let in_j : j < length made = omega (arith, within, length-map made (λ (e : Entry). e.index)) in
            let at_i : index_at made i ≡ index_at made j =
            get_or_default (indices made) i 0 d (omega arith) ∙ (same ∙ get_or_default (indices made) j d 0 within) in
            let one : i ≡ j = images-apart (index_at made) ks i j distinct (all i (omega arith)) (all j in_j) at_i in
            omega arith);
      }

  -- receipts of different indices are no more than the entries
  no-more : (rs : List Receipt) → All Tells rs → Distinct (told_indices rs) → length rs ≤ length made
  no-more rs h once =
      let ks = map (which (length old)) rs in omega (
        arith,
        below_bound (length made) ks (distinct-images (index_at made) ks (apart rs h once)) (low rs h),
        length-map rs (which (length old)),
      )

  -- the index of an entry of the batch is told where all indices of the batch are
  index-told : (told : List ℕ) (index : ℕ) (update : Update) → ((place : ℕ) → place < length batch → member (first + place) told ≡ true)
      → IsUpdateAt first batch index update → member index told ≡ true
  index-told told index update all h =
      subst (λ (n : ℕ). member n told ≡ true) (sym h.index_is)
      (all (length h.front) (omega (arith, ap (λ (us : List Update). length us) h.is, length-append h.front (update ∷ h.back))))

  -- where the index of each entry is told, each of their indices is
  indices-told : (es : List Entry) (told : List ℕ) → All (λ e. member e.index told ≡ true) es → (z : ℕ) → member z (indices es) ≡ true
      → member z told ≡ true
  indices-told [] told h z m = absurd (true≢false (sym m))
  indices-told (e ∷ es) told h z m = elim (member-cases z e.index (indices es) m) [
    | inl same ↦ subst (λ (n : ℕ). member n told ≡ true) (sym same) (All-head (λ (d : Entry). member d.index told ≡ true) e es h)
    | inr later ↦ indices-told es told (All-tail (λ (d : Entry). member d.index told ≡ true) e es h) z later
  ]

  -- where each update of the batch has one receipt, so has each entry that was made of them
  pub whole-told : (rs : List Receipt) → AreBatchReceipts started (old ++ made) first batch (length old) rs → AreSomeOf first batch made
      → AreReceiptsOf started (old ++ made) first batch (length old) made rs
  whole-told rs all some =
      let told = told_indices rs in
      let each : All (λ (e : Entry). member e.index told ≡ true) made =
      All-weaker (IsOneOf first batch) (λ (e : Entry). member e.index told ≡ true) (λ e one. index-told told e.index one.0 all.all one.1) made some.each in
      record {
        each = all.each;
        once = all.once;
        as_many = omega (
          arith,
          no-more rs all.each all.once,
          distinct_within-fewer (indices made) told some.once (indices-told made told each),
          length-map made (λ (e : Entry). e.index),
          length-map rs (λ (r : Receipt). r.index),
        );
        all = each;
      }
