-- How a batch begins, what is given out between two rounds, and what it has come to at its end.
use Rattle.std.proofs.Common.{◌≡◌, inl, inr, ℕ, ◌+◌, ◌<◌, ◌≤◌, List, [], ◌∷◌, ◌++◌, All, Contains, drop, get_or, length, map, take, sum_by, refl, sym, ap, ap₂}
use Rattle.std.proofs.Common.{zero, suc, true, false, ◌∙◌, subst, arith, append-nil, length-append}
use Rattle.std.specs.Prelude.{Option, None}
use Rattle.std.specs.List.{flat_map}
use Rattle.std.proofs.lemmas.Bool.{false_from_ne_true, true≢false}
use Rattle.std.proofs.Math.Seq.{drop-append_seam}
use Rattle.std.proofs.lemmas.List.{flat_map_more, get_or_default, length-map, map-append, take_all, take_more}
use Rattle.std.proofs.lemmas.List.Elements.{All-append, All-cons, All-contains, All-contains_itself, All-drop, All-head, All-map, All-nil, All-push}
use Rattle.std.proofs.lemmas.List.Elements.{All-tail, All-weaker, Contains-append_left, Contains-append_right}
use Rattle.std.proofs.lemmas.List.Folds.{flat_map-map}
use Rattle.std.proofs.lemmas.List.Sums.{get_or-le-sum_by, sum_by-append, sum_by-cons}
use Rattle.kc_lists.specs.Lists.{Distinct, member, times}
use Rattle.kc_lists.proofs.Members.{below_bound, member-cases, member-head}
use Rattle.kc_lists.proofs.Shared.{All-front}
use Rattle.kc_lists.proofs.Counting.{member_times, times_distinct, times_member}
use Rattle.kc_graph.specs.declared.update.Update.{Update}
use Rattle.kc_table.specs.declared.entry.Entry.{Entry}
use Rattle.kc_table.specs.declared.view.Event.{Event}
use Rattle.kc_table.specs.Log.{PassSeen, Seen, TableName}
use Rattle.kc_journal.specs.Journals.{Journalled, Renews, Stands, all_seen, fresh_pass}
use Rattle.kc_journal.proofs.AfterEntry.{number-is, size-is}
use Rattle.kc_levels.specs.declared.levels.TheConstants.{LAST_NUMBER}
use Rattle.kc_journal.specs.declared.answer.Receipt.{Receipt}
use Rattle.kc_queue.specs.Shares.{Consuming, IsShare, AreAllBelow}
use Rattle.kc_queue.specs.declared.consumer.TheConstants.{PARTS}
use Rattle.kc_queue.proofs.Counts.{times-append}
use Rattle.kc_table.specs.Log.{Opened, opened_with}
use Rattle.kc_shared.specs.States.{Parted, opened_by}
use Rattle.kc_shared.specs.declared.shared.TheConstants.{MISSES}
use Rattle.kc_workers.specs.declared.done.Done.{Done}
use Rattle.kc_workers.specs.declared.share.WorkerShare.{WorkerShare}
use Rattle.kc_batch.specs.Batches.{Account, Gives, IsBatchState, IsCutShort, IsBatchDone, IsStanding, MayGoOn, SomeKeeps, WentOnBy}
use Rattle.kc_batch.specs.Batches.{done_in, entered_by, entered_in, one_receipt, receipts_in}
use Rattle.kc_batch.specs.Desks.{Desked, KeepsOneOf, Work, all_done, all_receipts, at_places, at_turns, in_hand, receipts_of, times_had, untold, untold_of}
use Rattle.kc_batch.specs.Receipts.{AreBatchReceipts, AreReceiptsOf, IsReceiptOf, told_indices}
use Rattle.kc_batch.specs.Runs.{IsNearlySpent, IsRenewal, StaysIn}
use Rattle.kc_batch.specs.Seats.{HasTrueMisses, KeepsIfSpent, Rounds}
use Rattle.kc_batch.specs.declared.done.BatchDone.{BatchDone}
use Rattle.kc_batch.specs.declared.done.CutShort.{CutShort}
use Rattle.kc_batch.specs.declared.left.Left.{Left}
use Rattle.kc_batch.specs.declared.left.Left.TheVariants.{Nothing, Kept, Dropped, Untold}
use Rattle.kc_batch.specs.declared.turns.TurnQueue.{TurnQueue}
use Rattle.kc_batch.specs.declared.standing.Standing.{Standing}
use Rattle.kc_batch.specs.declared.standing.Standing.TheVariants.{Free, Keeping, Short}
use Rattle.kc_batch.proofs.Accounting.{account-renewed, account-round, distinct-placed, made_all, made_so, member-placed, told-le, told-once}
use Rattle.kc_batch.proofs.Counting.{whole-told}
use Rattle.kc_batch.proofs.Going.{stays-self}
use Rattle.kc_batch.proofs.Rounding.{all-unmapped}
use Rattle.kc_batch.proofs.Turning.{distinct_within-fewer, share-turned}
use Rattle.kc_batch.proofs.Working.{keeps-nothing, told-append}

-- the last of a list is one of it
itself-last : {A : Type 0} (xs : List A) (x : A) → Contains (xs ++ x ∷ []) x
itself-last xs x = Contains-append_right xs (x ∷ []) x (All-head (Contains (x ∷ [])) x [] (All-contains_itself (x ∷ [])))

-- how all work stands stays so with one desk more that has nothing left
pub stands-nothing : (works : List Work) (w : Work) (s : Standing) → w.left ≡ Nothing → IsStanding works s → IsStanding (works ++ w ∷ []) s
stands-nothing works w Free none h = All-push (λ (u : Work). u.left ≡ Nothing) works w h none
stands-nothing works w Keeping none h = (
  All-push (λ (u : Work). MayGoOn u.left) works w h.0 (subst MayGoOn (sym none) tt),
  (h.1.0, h.1.1, Contains-append_left works (w ∷ []) h.1.0 h.1.2, h.1.3),
)
stands-nothing works w Short none h = (h.0, Contains-append_left works (w ∷ []) h.0 h.1, h.2)

-- a worker that has nothing left may go on
may-go-on : (left : Left) → left ≡ Nothing → MayGoOn left
may-go-on left none = subst MayGoOn (sym none) tt

-- with one desk more that keeps an update something is kept, unless memory has run out
pub stands-kept : (works : List Work) (w : Work) (s : Standing) (place : ℕ) → w.left ≡ Kept place → (s ≡ Short → ⊥) → IsStanding works s
    → IsStanding (works ++ w ∷ []) Keeping
stands-kept works w s place kept some h = (
  All-push (λ (u : Work). MayGoOn u.left) works w (others s some h) (subst MayGoOn (sym kept) tt),
  (w, place, itself-last works w, kept),
)
  where
    others : (s : Standing) → (s ≡ Short → ⊥) → IsStanding works s → All (λ (u : Work). MayGoOn u.left) works
    others Free some h = All-weaker (λ (u : Work). u.left ≡ Nothing) (λ (u : Work). MayGoOn u.left) (λ u none. may-go-on u.left none) works h
    others Keeping some h = h.0
    others Short some h = absurd (some refl)

-- The desks before this one stand so, and nobody has dropped an update.
abbrev pub Stood : List Desked → ℕ → Standing → Type 0
Stood desks i s = IsStanding (map (λ d. d.work) (take i desks)) s × (s ≡ Short → ⊥)

-- the work of one desk more stands behind that of the desks before it
works-more : (desks : List Desked) (i : ℕ) (d : Desked) → i < length desks → d ≡ get_or desks i d
    → map (λ (d : Desked). d.work) (take (i + 1) desks) ≡ map (λ (d : Desked). d.work) (take i desks) ++ d.work ∷ []
works-more desks i d here is =
    ap (map (λ (e : Desked). e.work)) (take_more desks i d here)
    ∙ (map-append (λ (e : Desked). e.work) (take i desks) (get_or desks i d ∷ [])
    ∙ ap (λ (e : Desked). map (λ (f : Desked). f.work) (take i desks) ++ e.work ∷ []) (sym is))

-- the desks up to one that has nothing left stand as those before it
pub stood-nothing : (desks : List Desked) (i : ℕ) (d : Desked) (s new : Standing) → i < length desks → d ≡ get_or desks i d
    → d.work.left ≡ Nothing → new ≡ s → Stood desks i s → Stood desks (i + 1) new
stood-nothing desks i d s new here is none same h =
    let before = map (λ (e : Desked). e.work) (take i desks) in (
      subst (IsStanding (map (λ (e : Desked). e.work) (take (i + 1) desks))) (sym same)
          (subst (λ (ws : List Work). IsStanding ws s) (sym (works-more desks i d here is)) (stands-nothing before d.work s none h.0)),
      λ short. h.1 (sym same ∙ short),
    )

-- the desks up to one that keeps an update keep something
pub stood-kept : (desks : List Desked) (i : ℕ) (d : Desked) (s new : Standing) (place : ℕ) → i < length desks → d ≡ get_or desks i d
    → d.work.left ≡ Kept place → new ≡ Keeping → Stood desks i s → Stood desks (i + 1) new
stood-kept desks i d s new place here is kept now h =
    let before = map (λ (e : Desked). e.work) (take i desks) in (
      subst (IsStanding (map (λ (e : Desked). e.work) (take (i + 1) desks))) (sym now)
          (subst (λ (ws : List Work). IsStanding ws Keeping) (sym (works-more desks i d here is)) (stands-kept before d.work s place kept h.1 h.0)),
      λ short. apart (sym now ∙ short),
    )
  where
    apart : Keeping ≡ Short → ⊥
    apart e = cc

-- where one of the desks can't go on, memory ran out
pub stands-short : (desks : List Desked) (i : ℕ) (d : Desked) → i < length desks → d ≡ get_or desks i d → (MayGoOn d.work.left → ⊥)
    → IsStanding (map (λ d. d.work) desks) Short
stands-short desks i d here is cannot =
    let works = map (λ (e : Desked). e.work) desks in
    let all = all-unmapped (Contains works) (λ (e : Desked). e.work) desks (All-contains_itself works) in
    (d.work, subst (λ (e : Desked). Contains works e.work) (sym is) (all i d here), cannot)

-- how the desks stand that were looked at is how all stand, once all were
pub stood-all : (desks : List Desked) (i : ℕ) (s : Standing) → length desks ≤ i → Stood desks i s → IsStanding (map (λ d. d.work) desks) s
stood-all desks i s all h = subst (λ (ds : List Desked). IsStanding (map (λ (e : Desked). e.work) ds) s) (take_all i desks all) h.0

-- The run is renewed where the journal stands.
pub renewal-so : (old new : Journalled) (last : PassSeen) (words : TableName) → Stands old → last ≡ all_seen old
    → IsNearlySpent old.levels.table old.levels.log → Renews old new 0 words (fresh_pass words) → IsRenewal old last old new
renewal-so old new last words stands told spent renews = record {
  stays = stays-self old;
  stands = stands;
  told = told;
  spent = spent;
  renews = subst (λ (t : TableName). Renews old new 0 t (fresh_pass t)) (sym renews.table) renews;
}

-- a fresh table has as many vertices
pub renewed-size : (old new : Journalled) (words fresh : TableName) → Stands old → old.levels.table ≡ words → Renews old new 0 fresh (fresh_pass fresh)
    → fresh.shape.fixed ≡ words.shape.fixed
renewed-size old new words fresh stands table renews = omega (
  arith,
  size-is old stands,
  size-is new renews.stands,
  ap (λ s. s.graph.size) renews.state,
  ap (λ (t : TableName). t.shape.fixed) renews.table,
  ap (λ (t : TableName). t.shape.fixed) table,
)

-- what is in hand was taken, and so is one of the updates
module _ (old now : Journalled) (first : ℕ) (batch : List Update) (ended : List PassSeen) where
  kept-low : (works : List Work) (taken : List ℕ) (count k : ℕ) (w : Work) (place : ℕ) → Account old now first batch ended works taken
      → IsShare count taken → k < length works → get_or works k w ≡ w → w.left ≡ Kept place → place < count
  kept-low works taken count k w place a share here is kept =
      let y = first + place in
      let had : times_had first y (get_or works k w) ≡ times_had first y w = ap (times_had first y) is in
      let one : times y (in_hand first w.left) ≡ times y (y ∷ []) = ap (λ (l : Left). times y (in_hand first l)) kept in
      let some : 0 < times y (at_places first taken) =
      omega (arith, a.balance y, get_or-le-sum_by (times_had first y) works k w here, had, one, times_member y (y ∷ []) (member-head y [])) in
      share.below place (member-placed first place taken (member_times y (at_places first taken) some))

  -- what is in hand stands beside what was told
  hand-too : (y : ℕ) (works : List Work) (k : ℕ) (w : Work) → k < length works → get_or works k w ≡ w
      → times y (told_indices (all_receipts works)) + times y (in_hand first w.left) ≤ sum_by (times_had first y) works
  hand-too y [] k w here is = absurd (omega arith)
  hand-too y (u ∷ us) zero w here is = omega (
    arith,
    told-le first y us,
    told-append y (receipts_of u) (all_receipts us),
    sum_by-cons (times_had first y) u us,
    ap (λ (v : Work). times y (in_hand first v.left)) is,
  )
  hand-too y (u ∷ us) (suc k) w here is = omega (
    arith,
    hand-too y us k w (omega arith) is,
    told-append y (receipts_of u) (all_receipts us),
    sum_by-cons (times_had first y) u us,
  )

  -- Where an update is in hand, fewer were entered than there are.
  not-all : (works : List Work) (taken : List ℕ) (k : ℕ) (w : Work) (place : ℕ) → Account old now first batch ended works taken
      → IsShare (length batch) taken → k < length works → get_or works k w ≡ w → w.left ≡ Kept place
      → length now.entries < length old.entries + length batch
  not-all works taken k w place a share here is kept =
      let y = first + place in
      let told = told_indices (all_receipts works) in
      let places = at_places first taken in
      let one : times y (in_hand first w.left) ≡ times y (y ∷ []) = ap (λ (l : Left). times y (in_hand first l)) kept in
      let mine : 0 < times y (y ∷ []) = times_member y (y ∷ []) (member-head y []) in
      let both = hand-too y works k w here is in
      let single : times y places ≤ 1 = times_distinct y places (distinct-placed first taken share.once) in
      let none : times y told ≡ 0 = omega (arith, both, one, mine, single, a.balance y) in
      let in_places : member y places ≡ true = member_times y places (omega (arith, both, one, mine, a.balance y)) in
      let away : member y told ≡ false = false_from_ne_true (member y told) (λ m. absurd (omega (arith, none, times_member y told m))) in
      let once : Distinct (y ∷ told) = (away, told-once old now first batch ended works taken a share.once) in
      let into : (z : ℕ) → member z (y ∷ told) ≡ true → member z places ≡ true = λ z m. elim (member-cases z y told m) [
        | inl e ↦ subst (λ (x : ℕ). member x places ≡ true) (sym e) in_places
        | inr t ↦ member_times z places (omega (arith, times_member z told t, told-le first z works, a.balance z))
      ] in
      omega (
        arith,
        a.count,
        distinct_within-fewer (y ∷ told) places once into,
        length-map (all_receipts works) (λ (r : Receipt). r.index),
        length-map taken (λ (p : ℕ). first + p),
        below_bound (length batch) taken share.once share.below,
      )

  -- who may go on keeps nothing, or one of those that were taken
  keeps-low : (count : ℕ) (left : Left) → MayGoOn left → ((place : ℕ) → left ≡ Kept place → place < count) → KeepsOneOf count left
  keeps-low count Nothing may low = tt
  keeps-low count (Kept place) may low = low place refl
  keeps-low count (Dropped place) may low = absurd may
  keeps-low count (Untold receipt) may low = absurd may

  -- each keeps nothing, or one of those that were taken
  pub all-keep : (works : List Work) (taken : List ℕ) (count : ℕ) → Account old now first batch ended works taken → IsShare count taken
      → All (λ w. MayGoOn w.left) works → All (λ w. KeepsOneOf count w.left) works
  all-keep works taken count a share may = λ k d l.
      let w = get_or works k d in
      keeps-low count w.left (may k d l) (λ place kept.
      kept-low works taken count k w place a share l (get_or_default works k w d l) kept)

  -- So it is where some keep one.
  keeping-left : (works : List Work) (taken : List ℕ) → Account old now first batch ended works taken → IsShare (length batch) taken → SomeKeeps works
      → length now.entries < length old.entries + length batch
  keeping-left works taken a share some =
      let Low : Work → Type 0 = λ w. (place : ℕ) → w.left ≡ Kept place → length now.entries < length old.entries + length batch in
      let all : All Low works = λ k d l place kept.
      not-all works taken k (get_or works k d) place a share l (get_or_default works k (get_or works k d) d l) kept in
      All-contains Low works some.0 all some.2 some.1 some.3

  -- The first that has nothing left is given the update at a place that was taken last.
  pub account-given : (w : Work) (ws : List Work) (taken : List ℕ) (place : ℕ) → w.left ≡ Nothing → Account old now first batch ended (w ∷ ws) taken
      → Account old now first batch ended (record { done = w.done; left = Kept place } ∷ ws) (taken ++ place ∷ [])
  account-given w ws taken place none a =
      let new : Work = record { done = w.done; left = Kept place } in
      let same : receipts_of new ≡ receipts_of w = ap (λ (l : Left). map (λ (d : Done). d.receipt) w.done ++ untold l) (sym none) in
      let P : Receipt → Type 0 = IsReceiptOf now.started now.entries first batch (length old.entries) in
      let all : all_receipts (new ∷ ws) ≡ all_receipts (w ∷ ws) = ap (λ (rs : List Receipt). rs ++ all_receipts ws) same in
      let places : (y : ℕ) → times y (at_places first (taken ++ place ∷ [])) ≡ times y (at_places first taken) + times y ((first + place) ∷ []) = λ y.
      ap (times y) (map-append (λ (p : ℕ). first + p) taken (place ∷ [])) ∙ times-append y (at_places first taken) ((first + place) ∷ []) in
      record {
        went = a.went;
        receipts = subst (All P) (sym all) a.receipts;
        count = omega (arith, a.count, ap (λ (rs : List Receipt). length rs) all);
        balance = λ y. omega (
          arith,
          a.balance y,
          places y,
          sum_by-cons (times_had first y) w ws,
          sum_by-cons (times_had first y) new ws,
          ap (λ (rs : List Receipt). times y (told_indices rs)) same,
          ap (λ (l : Left). times y (in_hand first l)) none,
        );
        few = a.few;
        misses = a.misses;
        pace = a.pace;
      }

-- Of a batch between two rounds.
module _ {old : Journalled} {first : ℕ} {batch : List Update} {ended : List PassSeen} {turns : TurnQueue} {words : TableName} {now : Journalled}
    {desks : List Desked} {consumer : Consuming} (h : IsBatchState old first batch ended turns words now desks consumer) where
  -- the places that have the turns that a consumer has taken
  abbrev places : Consuming → List ℕ
  places k = at_turns turns.order.items k.taken

  -- a share of the turns is a share of their places
  shared : {taken : List ℕ} → IsShare turns.queue.count taken → IsShare turns.queue.count (at_turns turns.order.items taken)
  shared {taken} share = share-turned h.order taken share

  -- the places that it has taken are a share of the turns
  pub state-taken : IsShare turns.queue.count (places consumer)
  state-taken = shared h.share

  -- each of its workers keeps nothing, or one of the queue
  pub state-keeps : {works : List Work} → works ≡ map (λ d. d.work) desks → All (λ w. MayGoOn w.left) works
      → All (λ d. KeepsOneOf turns.queue.count d.work.left) desks
  state-keeps is may =
      let ws = map (λ (d : Desked). d.work) desks in
      all-unmapped (λ (w : Work). KeepsOneOf turns.queue.count w.left) (λ (d : Desked). d.work) desks
      (all-keep old now first batch ended ws (places consumer) turns.queue.count h.account (shared h.share) (subst (All (λ (w : Work). MayGoOn w.left)) is may))

  -- where some keep an update, fewer were entered than there are,
  pub state-left : turns.queue.count ≡ length batch → SomeKeeps (map (λ d. d.work) desks) → length now.entries < length old.entries + length batch
  state-left count some =
      keeping-left old now first batch ended (map (λ (d : Desked). d.work) desks) (places consumer) h.account
      (subst (λ (n : ℕ). IsShare n (places consumer)) count (shared h.share)) some

  -- so that, as all entries can be numbered, versions are nearly spent
  pub state-spent : turns.queue.count ≡ length batch → Stands now → length old.entries + length batch ≤ LAST_NUMBER
      → All (λ d. KeepsIfSpent (opened_by now) now.levels.log d.work.left) desks → SomeKeeps (map (λ d. d.work) desks)
      → IsNearlySpent now.levels.table now.levels.log
  state-spent count stands numbers spent some =
      let Spent : Work → Type 0 = λ w. KeepsIfSpent (opened_by now) now.levels.log w.left in
      let works = map (λ (d : Desked). d.work) desks in
      let all = All-map Spent (λ (d : Desked). d.work) desks spent in
      elim (subst (KeepsIfSpent (opened_by now) now.levels.log) some.3 (All-contains Spent works some.0 all some.2)) [
        | inl nearly ↦ nearly
        | inr full ↦ absurd (omega (arith, full, state-left count some, numbers, number-is now stands))
      ]

  -- it is one of the same updates in a fresh table
  pub state-renewed : {fresh : TableName} {next : Journalled} {last : PassSeen} {more : List PassSeen} {others : List Desked} {after : Consuming}
      → IsRenewal now last now next → more ≡ ended ++ last ∷ [] → length now.entries < length old.entries + length batch
      → next.levels.table ≡ fresh → All (λ d. d.seen ≡ record { table = fresh; log = [] }) others
      → map (λ d. d.work) others ≡ map (λ d. d.work) desks → after ≡ consumer → IsBatchState old first batch more turns fresh next others after
  state-renewed {fresh} {next} {last} {more} {others} {after} renewal is left table seen works same =
      let ws = map (λ (d : Desked). d.work) desks in
      subst (λ (z : Consuming). IsBatchState old first batch more turns fresh next others z) (sym same)
      (record {
        account =
            subst (λ (z : List Work). Account old next first batch more z (places consumer)) (sym works)
            (subst (λ (z : List PassSeen). Account old next first batch z ws (places consumer)) (sym is)
            (account-renewed old now next first batch ended last ws (places consumer) h.account renewal left));
        table = table;
        told = subst (λ (log : List Event). All (λ (d : Desked). d.seen ≡ record { table = fresh; log = log }) others) (sym renewal.renews.log) seen;
        of_queue = h.of_queue;
        parts = h.parts;
        share = h.share;
        order = h.order;
      })

-- the state is one too in the same parts, at the same desks and behind the same tables
pub state-same : {old : Journalled} {first : ℕ} {batch : List Update} {ended tables : List PassSeen} {turns : TurnQueue} {parts others : Parted}
    {desks after : List Desked} {consumer next : Consuming} → others ≡ parts → after ≡ desks → tables ≡ ended → next ≡ consumer
    → IsBatchState old first batch ended turns parts.words parts.journal desks consumer
    → IsBatchState old first batch tables turns others.words others.journal after next
state-same {old} {first} {batch} {ended} {tables} {turns} {parts} {others} {desks} {after} {consumer} {next} same at behind taken h =
    subst (λ (z : Parted). IsBatchState old first batch tables turns z.words z.journal after next) (sym same)
    (subst (λ (z : List Desked). IsBatchState old first batch tables turns parts.words parts.journal z next) (sym at)
    (subst (λ (z : List PassSeen). IsBatchState old first batch z turns parts.words parts.journal desks next) (sym behind)
    (subst (λ (z : Consuming). IsBatchState old first batch ended turns parts.words parts.journal desks z) (sym taken) h)))

-- A consumer has taken the next turn, which this place has.
pub record HasTaken (turns : TurnQueue) (place : ℕ) (consumer next : Consuming) : Type 0 where
  pub queue : next.queue ≡ consumer.queue
  pub parts : next.parts ≡ consumer.parts
  pub taken : at_turns turns.order.items next.taken ≡ at_turns turns.order.items consumer.taken ++ place ∷ []
  pub share : IsShare turns.queue.count next.taken

-- a state whose first worker was given the next of the queue
given-state : (parts : Parted) (old : Journalled) (first : ℕ) (batch : List Update) (ended : List PassSeen) (turns : TurnQueue) (desks others : List Desked)
    (consumer next : Consuming) (place : ℕ)
    → IsBatchState old first batch ended turns parts.words parts.journal desks consumer → All (λ d. d.work.left ≡ Nothing) desks → Gives place desks others
    → HasTaken turns place consumer next → IsBatchState old first batch ended turns parts.words parts.journal others next
given-state parts old first batch ended turns [] others consumer next place h none gives took = absurd gives
given-state parts old first batch ended turns (d ∷ ds) others consumer next place h none gives took =
    let now = parts.journal in
    let Told : Desked → Type 0 = λ d. d.seen ≡ record { table = parts.words; log = now.levels.log } in
    let given : Desked = record d { work = record { done = d.work.done; left = Kept place } } in
    let ws = map (λ (d : Desked). d.work) ds in
    let order = turns.order.items in
    record {
      account =
          subst (λ (z : List Desked). Account old now first batch ended (map (λ (d : Desked). d.work) z) (at_turns order next.taken)) (sym gives)
          (subst (λ (z : List ℕ). Account old now first batch ended (given.work ∷ ws) z) (sym took.taken)
          (account-given old now first batch ended d.work ws (at_turns order consumer.taken) place
          (All-head (λ (d : Desked). d.work.left ≡ Nothing) d ds none) h.account));
      table = h.table;
      told = subst (All Told) (sym gives) (All-cons Told given ds (All-head Told d ds h.told) (All-tail Told d ds h.told));
      of_queue = took.queue ∙ h.of_queue;
      parts = took.parts ∙ h.parts;
      share = took.share;
      order = h.order;
    }

-- The first worker was given the update at a place that was taken of the queue, where nobody had anything left.
pub record HasGiven (turns : TurnQueue) (place : ℕ) (desks others : List Desked) (consumer next : Consuming) : Type 0 where
  pub free : All (λ w. w.left ≡ Nothing) (map (λ d. d.work) desks)
  pub gives : Gives place desks others
  pub took : HasTaken turns place consumer next
  pub below : place < turns.queue.count

-- where nobody's work has anything left, no desk has
pub all-free : (desks : List Desked) → All (λ w. w.left ≡ Nothing) (map (λ d. d.work) desks) → All (λ d. d.work.left ≡ Nothing) desks
all-free desks free = all-unmapped (λ (w : Work). w.left ≡ Nothing) (λ (d : Desked). d.work) desks free

-- So the state stays one, in the parts as they are,
pub state-given : {old : Journalled} {first : ℕ} {batch : List Update} {ended : List PassSeen} {turns : TurnQueue} {parts new : Parted}
    {desks others : List Desked} {consumer next : Consuming} {place : ℕ} → new ≡ parts
    → IsBatchState old first batch ended turns parts.words parts.journal desks consumer → HasGiven turns place desks others consumer next
    → IsBatchState old first batch ended turns new.words new.journal others next
state-given {old} {first} {batch} {ended} {turns} {parts} {new} {desks} {others} {consumer} {next} {place} same h given =
    subst (λ (z : Parted). IsBatchState old first batch ended turns z.words z.journal others next) (sym same)
    (given-state parts old first batch ended turns desks others consumer next place h (all-free desks given.free) given.gives given.took)

-- and who was given an update of the batch keeps one of it.
pub given-keeps : {turns : TurnQueue} {place : ℕ} {desks others : List Desked} {consumer next : Consuming} → HasGiven turns place desks others consumer next
    → All (λ d. KeepsOneOf turns.queue.count d.work.left) others
given-keeps {turns} {place} {desks} {others} given = keep desks (all-free desks given.free) given.gives
  where
    keep : (ds : List Desked) → All (λ d. d.work.left ≡ Nothing) ds → Gives place ds others → All (λ d. KeepsOneOf turns.queue.count d.work.left) others
    keep [] none gives = absurd gives
    keep (d ∷ ds) none gives =
        let Keeps : Desked → Type 0 = λ d. KeepsOneOf turns.queue.count d.work.left in
        let None : Desked → Type 0 = λ d. d.work.left ≡ Nothing in
        subst (All Keeps) (sym gives)
        (All-cons Keeps (record d { work = record { done = d.work.done; left = Kept place } }) ds given.below
        (All-weaker None Keeps (λ e free. keeps-nothing turns.queue.count e.work.left free) ds (All-tail None d ds none)))

-- what a round's table opened with
opened-at : (words : TableName) (now next : Journalled) → now.levels.table ≡ words → StaysIn now next
    → opened_with words now.opened now.opening_stamps ≡ opened_by next
opened-at words now next table stays =
    λ i. record { table = sym (stays.table ∙ table) i; edges = sym stays.opened i; stamps = sym stays.opening_stamps i }

-- What a round has made of the journal, of the desks and of what was taken of the queue.
pub record IsRound (words : TableName) (first : ℕ) (batch : List Update) (turns : TurnQueue) (now next : Journalled) (desks others : List Desked)
    (consumer after : Consuming) : Type 0 where
  pub stood : Stands now
  pub stands : Stands next
  pub stays : StaysIn now next
  pub made : ℕ
  pub total : length next.entries ≡ length now.entries + made
  pub quiet : length next.entries ≡ length now.entries → next.levels.log ≡ now.levels.log
  pub rounds : Rounds (opened_with words now.opened now.opening_stamps) now.levels.log next.levels.log first batch (map (λ d. d.work) desks)
      (map (λ d. d.work) others) (at_turns turns.order.items consumer.taken) (at_turns turns.order.items after.taken) made
  pub told : All (λ d. d.seen ≡ record { table = words; log = next.levels.log }) others
  pub owns : (after.queue ≡ turns.queue) × (after.parts ≡ PARTS) × IsShare turns.queue.count after.taken

module _ {words : TableName} {first : ℕ} {batch : List Update} {turns : TurnQueue} {now next : Journalled} {desks others : List Desked}
    {consumer after : Consuming} (r : IsRound words first batch turns now next desks others consumer after) where
  -- the state stays one after it
  pub state-round : {old : Journalled} {ended : List PassSeen} → IsBatchState old first batch ended turns words now desks consumer
      → IsBatchState old first batch ended turns words next others after
  state-round {old} {ended} h =
      let W = map (λ (d : Desked). d.work) in
      let o = opened_with words now.opened now.opening_stamps in
      record {
        account = account-round old now next first batch ended (W desks) (W others) (at_turns turns.order.items consumer.taken)
            (at_turns turns.order.items after.taken) r.made o h.account r.stood r.stands r.stays
            (opened-at words now next h.table r.stays) r.total r.quiet r.rounds;
        table = r.stays.table ∙ h.table;
        told = r.told;
        of_queue = r.owns.0;
        parts = r.owns.1;
        share = r.owns.2;
        order = h.order;
      }

  -- who has worked in it has met spent versions where it keeps an update
  pub round-spent : now.levels.table ≡ words → All (λ d. KeepsIfSpent (opened_by next) next.levels.log d.work.left) others
  round-spent table =
      let o = opened_with words now.opened now.opening_stamps in
      subst (λ (z : Opened). All (λ (d : Desked). KeepsIfSpent z next.levels.log d.work.left) others) (opened-at words now next table r.stays)
      (all-unmapped (λ (w : Work). KeepsIfSpent o next.levels.log w.left) (λ (d : Desked). d.work) others r.rounds.spent)

-- as many desks after a round as before
pub round-many : {o : Opened} {start log : List Event} {first : ℕ} {batch : List Update} (desks others : List Desked) {taken after : List ℕ} {made : ℕ}
    → Rounds o start log first batch (map (λ d. d.work) desks) (map (λ d. d.work) others) taken after made → length others ≡ length desks
round-many desks others rounds = omega (arith, rounds.as_many, length-map others (λ (d : Desked). d.work), length-map desks (λ (d : Desked). d.work))

-- Before the first round nobody has entered anything.
abbrev pub idle : Work
idle = record { done = []; left = Nothing }

-- workers that are idle have no receipts
no-receipts : (works : List Work) → All (λ w. w ≡ idle) works → all_receipts works ≡ []
no-receipts [] none = refl
no-receipts (w ∷ ws) none =
    ap (λ (u : Work). receipts_of u ++ all_receipts ws) (All-head (λ (u : Work). u ≡ idle) w ws none)
    ∙ no-receipts ws (All-tail (λ (u : Work). u ≡ idle) w ws none)

-- workers that are idle have entered nothing
nothing-done : (works : List Work) → All (λ w. w ≡ idle) works → all_done works ≡ []
nothing-done [] none = refl
nothing-done (w ∷ ws) none =
    ap (λ (u : Work). u.done ++ all_done ws) (All-head (λ (u : Work). u ≡ idle) w ws none)
    ∙ nothing-done ws (All-tail (λ (u : Work). u ≡ idle) w ws none)

-- workers that are idle have no index of the batch
none-had : (first y : ℕ) (works : List Work) → All (λ w. w ≡ idle) works → sum_by (times_had first y) works ≡ 0
none-had first y [] none = refl
none-had first y (w ∷ ws) none = omega (
  arith,
  sum_by-cons (times_had first y) w ws,
  ap (times_had first y) (All-head (λ (u : Work). u ≡ idle) w ws none),
  none-had first y ws (All-tail (λ (u : Work). u ≡ idle) w ws none),
)

-- nothing is a share of any number of places
pub none-taken : (count : ℕ) → IsShare count []
none-taken count = record { once = tt; below = λ x m. absurd (true≢false (sym m)) }

-- the account of a call before its first round
pub account-start : (j : Journalled) (first : ℕ) (batch : List Update) (works : List Work) → All (λ w. w ≡ idle) works → Account j j first batch [] works []
account-start j first batch works none =
    let Told : Receipt → Type 0 = IsReceiptOf j.started j.entries first batch (length j.entries) in
    let Few : Done → Type 0 = λ d. length d.misses.items ≤ MISSES in
    let True : Done → Type 0 = HasTrueMisses (opened_by j) j.levels.log j.levels.log in
    record {
      went = stays-self j;
      receipts = subst (All Told) (sym (no-receipts works none)) (All-nil Told);
      count = omega (arith, ap (λ (rs : List Receipt). length rs) (no-receipts works none));
      balance = λ y. none-had first y works none;
      few = subst (All Few) (sym (nothing-done works none)) (All-nil Few);
      misses = λ here. subst (All True) (sym (nothing-done works none)) (All-nil True);
      pace = inl refl;
    }

-- a list of no entries has none
none-made : (made : List Entry) → length made ≡ 0 → made ≡ []
none-made [] none = refl
none-made (e ∷ es) none = absurd (omega (arith, none))

-- a batch that was not begun is cut short, with nothing made and no shares
pub cut-at_start : (j : Journalled) (first : ℕ) (batch : List Update) (workers : ℕ) (cut : CutShort) → cut.shares.items ≡ [] → cut.ended.items ≡ []
    → IsCutShort j j first batch workers cut
cut-at_start j first batch workers cut none here =
    let made = made_so j j first batch [] [] [] (account-start j first batch [] (All-nil (λ (w : Work). w ≡ idle))) tt in
    let Few : Done → Type 0 = λ d. length d.misses.items ≤ MISSES in
    let True : Done → Type 0 = HasTrueMisses (opened_by j) j.levels.log j.levels.log in
    record {
      made = made.made;
      went = subst (λ (ps : List PassSeen). WentOnBy j j first batch ps made.made) (sym here) made.went;
      receipts = subst (λ (ss : List WorkerShare). AreReceiptsOf j.started j.entries first batch (length j.entries) made.made (entered_in ss))
          (sym none) made.told;
      one_each = inr (none, none-made made.made made.as_many);
      numbered = λ i d low. absurd (omega (arith, low, ap (λ (ss : List WorkerShare). length ss) none));
      few = subst (λ (ss : List WorkerShare). All Few (done_in ss)) (sym none) (All-nil Few);
      misses = λ _. subst (λ (ss : List WorkerShare). All True (done_in ss)) (sym none) (All-nil True);
    }

-- where nothing is left the receipts are those of what was entered
told-done : (works : List Work) → All (λ w. w.left ≡ Nothing) works → all_receipts works ≡ map (λ d. d.receipt) (all_done works)
told-done [] none = refl
told-done (w ∷ ws) none =
    let f = λ (d : Done). d.receipt in
    ap (λ (l : Left). (map f w.done ++ untold l) ++ all_receipts ws) (All-head (λ (u : Work). u.left ≡ Nothing) w ws none)
    ∙ (ap (λ (z : List Receipt). z ++ all_receipts ws) (append-nil (map f w.done))
    ∙ (ap (λ (z : List Receipt). map f w.done ++ z) (told-done ws (All-tail (λ (u : Work). u.left ≡ Nothing) w ws none))
    ∙ sym (map-append f w.done (all_done ws))))

-- where shares have what the workers have entered, both come to the same together
shared-done : (shares : List WorkerShare) (works : List Work) → map (λ s. s.done.items) shares ≡ map (λ w. w.done) works → done_in shares ≡ all_done works
shared-done shares works is =
    let id = λ (ds : List Done). ds in
    sym (flat_map-map id (λ (s : WorkerShare). s.done.items) shares)
    ∙ (ap (λ (z : List (List Done)). flat_map id z) is ∙ flat_map-map id (λ (w : Work). w.done) works)

-- what could not be told, if anything, stands as a list of one receipt or of none
one_receipt-untold : (left : Left) → one_receipt (untold_of left) ≡ untold left
one_receipt-untold Nothing = refl
one_receipt-untold (Kept place) = refl
one_receipt-untold (Dropped place) = refl
one_receipt-untold (Untold receipt) = refl

-- where shares have what the workers have entered and what they could not tell, both have the same receipts
shared-receipts : (shares : List WorkerShare) (works : List Work) → map (λ s. s.done.items) shares ≡ map (λ w. w.done) works
    → map (λ s. s.untold) shares ≡ map (λ w. untold_of w.left) works → all_receipts works ≡ entered_in shares
shared-receipts [] [] is late = refl
shared-receipts [] (w ∷ ws) is late = absurd (omega (arith, ap (λ (z : List (List Done)). length z) is))
shared-receipts (s ∷ ss) [] is late = absurd (omega (arith, ap (λ (z : List (List Done)). length z) is))
shared-receipts (s ∷ ss) (w ∷ ws) is late =
    let done : s.done.items ≡ w.done = ap (λ (z : List (List Done)). get_or z 0 []) is in
    let one : s.untold ≡ untold_of w.left = ap (λ (z : List (Option Receipt)). get_or z 0 None) late in
    let rest = shared-receipts ss ws (ap (λ (z : List (List Done)). drop 1 z) is) (ap (λ (z : List (Option Receipt)). drop 1 z) late) in
    let f = λ (d : Done). d.receipt in
    let first : receipts_of w ≡ entered_by s =
    ap (λ (rs : List Receipt). map f w.done ++ rs) (sym (one_receipt-untold w.left))
    ∙ ap₂ (λ (ds : List Done) (o : Option Receipt). map f ds ++ one_receipt o) (sym done) (sym one) in
    ap₂ (λ (xs ys : List Receipt). xs ++ ys) first rest

-- what the work at the desks has is what their work has
works-of : {B : Type 0} (f : Work → B) (desks : List Desked) → map (λ d. f d.work) desks ≡ map f (map (λ d. d.work) desks)
works-of f [] = refl
works-of {B} f (d ∷ ds) = ap (λ (z : List B). f d.work ∷ z) (works-of f ds)

-- where nothing is left, no share has an update that could not be told
all-told : (shares : List WorkerShare) (desks : List Desked) → All (λ d. d.work.left ≡ Nothing) desks
    → map (λ s. s.untold) shares ≡ map (λ d. untold_of d.work.left) desks → All (λ s. s.untold ≡ None) shares
all-told shares desks none late =
    let No : Option Receipt → Type 0 = λ o. o ≡ None in
    let at_desks : All (λ d. No (untold_of d.work.left)) desks =
    All-weaker (λ (d : Desked). d.work.left ≡ Nothing) (λ (d : Desked). No (untold_of d.work.left)) (λ d e. ap untold_of e) desks none in
    all-unmapped No (λ (s : WorkerShare). s.untold) shares (subst (All No) (sym late)
    (All-map No (λ (d : Desked). untold_of d.work.left) desks at_desks))

-- What a batch has come to, where all was taken and nothing is left.
pub done-so : (old now : Journalled) (first : ℕ) (batch : List Update) (desks : List Desked) (taken : List ℕ) (workers : ℕ) (done : BatchDone)
    → Account old now first batch done.ended.items (map (λ d. d.work) desks) taken → AreAllBelow (length batch) taken → All (λ d. d.work.left ≡ Nothing) desks
    → map (λ s. s.done.items) done.shares.items ≡ map (λ d. d.work.done) desks
    → map (λ s. s.untold) done.shares.items ≡ map (λ d. untold_of d.work.left) desks → length done.shares.items ≡ workers
    → ((i : ℕ) (d : WorkerShare) → i < length done.shares.items → (get_or done.shares.items i d).worker ≡ i)
    → IsBatchDone old now first batch workers done
done-so old now first batch desks taken workers done a whole none is late many numbered =
    let works = map (λ (d : Desked). d.work) desks in
    let ended = done.ended.items in
    let left = All-map (λ (w : Work). w.left ≡ Nothing) (λ (d : Desked). d.work) desks none in
    let made = made_so old now first batch ended works taken a whole.share.once in
    let all = made_all old now first batch ended works taken a whole left in
    let same : done_in done.shares.items ≡ all_done works = shared-done done.shares.items works (is ∙ works-of (λ (w : Work). w.done) desks) in
    let told : all_receipts works ≡ receipts_in done.shares.items =
    told-done works left ∙ ap (λ (z : List Done). map (λ (d : Done). d.receipt) z) (sym same) in
    record {
      made = made.made;
      went = made.went;
      as_many = made.as_many ∙ all.as_many;
      receipts = subst (AreBatchReceipts now.started now.entries first batch (length old.entries)) told all.receipts;
      told = all-told done.shares.items desks none late;
      one_each = many;
      numbered = numbered;
      few = subst (All (λ (d : Done). length d.misses.items ≤ MISSES)) (sym same) a.few;
      misses = λ none. subst (All (HasTrueMisses (opened_by now) old.levels.log now.levels.log)) (sym same) (a.misses none);
    }

-- What a batch has come to, where memory ran out.
pub cut-so : (old now : Journalled) (first : ℕ) (batch : List Update) (desks : List Desked) (taken : List ℕ) (workers : ℕ) (cut : CutShort)
    → Account old now first batch cut.ended.items (map (λ d. d.work) desks) taken → Distinct taken
    → map (λ s. s.done.items) cut.shares.items ≡ map (λ d. d.work.done) desks
    → map (λ s. s.untold) cut.shares.items ≡ map (λ d. untold_of d.work.left) desks → length cut.shares.items ≡ workers
    → ((i : ℕ) (d : WorkerShare) → i < length cut.shares.items → (get_or cut.shares.items i d).worker ≡ i)
    → IsCutShort old now first batch workers cut
cut-so old now first batch desks taken workers cut a once is late many numbered =
    let works = map (λ (d : Desked). d.work) desks in
    let ended = cut.ended.items in
    let shares = cut.shares.items in
    let made = made_so old now first batch ended works taken a once in
    let dones = is ∙ works-of (λ (w : Work). w.done) desks in
    let same : done_in shares ≡ all_done works = shared-done shares works dones in
    let told : all_receipts works ≡ entered_in shares =
    shared-receipts shares works dones (late ∙ works-of (λ (w : Work). untold_of w.left) desks) in
    record {
      made = made.made;
      went = made.went;
      receipts = subst (AreReceiptsOf now.started now.entries first batch (length old.entries) made.made) told made.told;
      one_each = inl many;
      numbered = numbered;
      few = subst (All (λ (d : Done). length d.misses.items ≤ MISSES)) (sym same) a.few;
      misses = λ none. subst (All (HasTrueMisses (opened_by now) old.levels.log now.levels.log)) (sym same) (a.misses none);
    }

-- where no share has an update that could not be told, all that was entered is told
entered-told : (shares : List WorkerShare) → All (λ s. s.untold ≡ None) shares → receipts_in shares ≡ entered_in shares
entered-told [] none = refl
entered-told (s ∷ ss) none =
    let f = λ (d : Done). d.receipt in
    let No : WorkerShare → Type 0 = λ s. s.untold ≡ None in
    map-append f s.done.items (done_in ss)
    ∙ ap₂ (λ (xs ys : List Receipt). xs ++ ys)
    (sym (append-nil (map f s.done.items)) ∙ ap (λ (o : Option Receipt). map f s.done.items ++ one_receipt o) (sym (All-head No s ss none)))
    (entered-told ss (All-tail No s ss none))

-- A batch that was entered whole has come to what one has that is cut short: all its updates are some of them.
pub done-cut : {old now : Journalled} {first : ℕ} {batch : List Update} {workers : ℕ} {done : BatchDone} (cut : CutShort)
    → cut.shares.items ≡ done.shares.items → cut.ended.items ≡ done.ended.items → IsBatchDone old now first batch workers done
    → IsCutShort old now first batch workers cut
done-cut {old} {now} {first} {batch} {workers} {done} cut shares ended h =
    let Few : Done → Type 0 = λ d. length d.misses.items ≤ MISSES in
    let told : receipts_in done.shares.items ≡ entered_in cut.shares.items =
    entered-told done.shares.items h.told ∙ ap entered_in (sym shares) in
    let all : AreBatchReceipts now.started (old.entries ++ h.made) first batch (length old.entries) (receipts_in done.shares.items) =
    subst (λ (z : List Entry). AreBatchReceipts now.started z first batch (length old.entries) (receipts_in done.shares.items)) h.went.entries h.receipts in
    record {
      made = h.made;
      went = subst (λ (ps : List PassSeen). WentOnBy old now first batch ps h.made) (sym ended) h.went;
      receipts = subst (λ (z : List Entry). AreReceiptsOf now.started z first batch (length old.entries) h.made (entered_in cut.shares.items))
          (sym h.went.entries)
          (subst (AreReceiptsOf now.started (old.entries ++ h.made) first batch (length old.entries) h.made) told
          (whole-told now.started old.entries h.made first batch (receipts_in done.shares.items) all h.went.some));
      one_each = inl (ap (λ (ss : List WorkerShare). length ss) shares ∙ h.one_each);
      numbered = subst (λ (ss : List WorkerShare). (i : ℕ) (d : WorkerShare) → i < length ss → (get_or ss i d).worker ≡ i) (sym shares) h.numbered;
      few = subst (λ (ss : List WorkerShare). All Few (done_in ss)) (sym shares) h.few;
      misses = λ none. subst (λ (ss : List WorkerShare). All (HasTrueMisses (opened_by now) old.levels.log now.levels.log) (done_in ss)) (sym shares)
          (h.misses (sym ended ∙ none));
    }

-- a batch without updates is taken whole
pub whole-none : (count : ℕ) → count ≡ 0 → AreAllBelow count []
whole-none count none = record {
  share = none-taken count;
  all = λ x low. absurd (omega arith);
}

-- workers that are idle have nothing left
pub idle-left : (desks : List Desked) → All (λ w. w ≡ idle) (map (λ d. d.work) desks) → All (λ d. d.work.left ≡ Nothing) desks
idle-left desks none =
    All-weaker (λ (d : Desked). d.work ≡ idle) (λ (d : Desked). d.work.left ≡ Nothing) (λ d e. ap (λ (w : Work). w.left) e) desks
    (all-unmapped (λ (w : Work). w ≡ idle) (λ (d : Desked). d.work) desks none)

-- what idle workers keep, if anything, is an update of the batch
pub idle-keeps : (count : ℕ) (desks : List Desked) → All (λ w. w ≡ idle) (map (λ d. d.work) desks) → All (λ d. KeepsOneOf count d.work.left) desks
idle-keeps count desks none =
    All-weaker (λ (d : Desked). d.work.left ≡ Nothing) (λ (d : Desked). KeepsOneOf count d.work.left) (λ d e. keeps-nothing count d.work.left e) desks
    (idle-left desks none)

-- the state before its first round
pub state-start : (parts : Parted) (first : ℕ) (batch : List Update) (turns : TurnQueue) (desks : List Desked) (consumer : Consuming)
    → parts.journal.levels.table ≡ parts.words → All (λ d. d.seen ≡ record { table = parts.words; log = parts.journal.levels.log }) desks
    → All (λ w. w ≡ idle) (map (λ d. d.work) desks) → consumer ≡ record { queue = turns.queue; parts = PARTS; taken = [] }
    → AreAllBelow turns.queue.count turns.order.items → IsBatchState parts.journal first batch [] turns parts.words parts.journal desks consumer
state-start parts first batch turns desks consumer table told none is order =
    let j = parts.journal in
    let works = map (λ (d : Desked). d.work) desks in
    let taken : consumer.taken ≡ [] = ap (λ (c : Consuming). c.taken) is in
    record {
      account = subst (λ (ts : List ℕ). Account j j first batch [] works (at_turns turns.order.items ts)) (sym taken) (account-start j first batch works none);
      table = table;
      told = told;
      of_queue = ap (λ (c : Consuming). c.queue) is;
      parts = ap (λ (c : Consuming). c.parts) is;
      share = subst (IsShare turns.queue.count) (sym taken) (none-taken turns.queue.count);
      order = order;
    }

-- where their work is the same there are as many desks
pub same-many : (desks others : List Desked) → map (λ d. d.work) others ≡ map (λ d. d.work) desks → length others ≡ length desks
same-many desks others same = omega (
  arith,
  ap (λ (z : List Work). length z) same,
  length-map others (λ (d : Desked). d.work),
  length-map desks (λ (d : Desked). d.work),
)

-- there are as many workers as desks
pub workers-many : (workers : List Seen) (desks : List Desked) → workers ≡ map (λ d. d.seen) desks → length workers ≡ length desks
workers-many workers desks is = omega (
  arith,
  ap (λ (z : List Seen). length z) is,
  length-map desks (λ (d : Desked). d.seen),
)

-- what holds of all that the desks have seen holds of the workers
pub all-workers : (P : Seen → Type 0) (workers : List Seen) (desks : List Desked) → workers ≡ map (λ d. d.seen) desks → All (λ d. P d.seen) desks
    → All P workers
all-workers P workers desks is h =
    subst (All P) (sym is) (All-map P (λ (d : Desked). d.seen) desks h)

-- the workers are of the table that all at the desks were told of
pub told-tables : (workers : List Seen) (desks : List Desked) (words : TableName) (log : List Event) → workers ≡ map (λ d. d.seen) desks
    → All (λ d. d.seen ≡ record { table = words; log = log }) desks → All (λ w. w.table ≡ words) workers
told-tables workers desks words log is told =
    all-workers (λ (s : Seen). s.table ≡ words) workers desks is
    (All-weaker (λ (d : Desked). d.seen ≡ record { table = words; log = log }) (λ (d : Desked). d.seen.table ≡ words)
    (λ d e. ap (λ (s : Seen). s.table) e) desks told)
