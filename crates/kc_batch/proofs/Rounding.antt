-- What the workers of a round have made together.
use Rattle.std.proofs.Common.{◌≡◌, ◌⊎◌, inl, inr, ⊎_elim, ℕ, zero, suc, ◌+◌, ◌<◌, List, [], ◌∷◌, ◌++◌, All, Contains, length, get_or, set, take, drop}
use Rattle.std.proofs.Common.{map, refl, sym, ap, ◌∙◌, subst, arith, append_assoc, append-nil, length-append}
use Rattle.std.specs.List.{AllZip}
use mathlib.Core.List.{IsPrefix}
use Rattle.std.proofs.lemmas.List.{drop_all, get_or-drop, length-map, map-append, take_all}
use Rattle.std.proofs.lemmas.List.Elements.{All-append, All-cons, All-contains_itself, All-head, All-nil, All-push, All-tail, All-weaker}
use Rattle.std.proofs.lemmas.List.Elements.{Contains-append_left, Contains-append_right}
use Rattle.std.proofs.lemmas.List.Sums.{sum_by-cons}
use Rattle.kc_graph.specs.declared.update.Update.{Update}
use Rattle.kc_table.specs.declared.view.Event.{Event}
use Rattle.kc_table.specs.Legal.{Legal}
use Rattle.kc_table.specs.Log.{Seen, TableName}
use Rattle.kc_table.proofs.Stamps.{number-grows}
use Rattle.kc_table.proofs.Prefixes.{prefix_self, prefix_trans}
use Rattle.kc_lists.specs.Lists.{times}
use Rattle.kc_queue.specs.Shares.{Consuming, FilledQueue}
use Rattle.kc_queue.proofs.Counts.{times-append}
use Rattle.kc_journal.specs.Journals.{Journalled, Stands}
use Rattle.kc_journal.specs.declared.answer.Receipt.{Receipt}
use Rattle.kc_table.specs.Log.{Opened}
use Rattle.kc_workers.specs.declared.done.Done.{Done}
use Rattle.kc_batch.specs.Desks.{Desked, KeepsOneOf, Work, all_done, all_receipts, at_places, at_turns, receipts_of, times_had}
use Rattle.kc_batch.specs.Seats.{HasTrueMisses, IsFreshSeat, CanGoOn, IsReceiptIn, KeepsIfSpent, Rounds, Seated, Works, all_taken, amounts, desk_of}
use Rattle.kc_batch.specs.declared.left.Left.{Left}
use Rattle.kc_batch.specs.declared.left.Left.TheVariants.{Nothing, Kept, Dropped, Untold}
use Rattle.kc_batch.proofs.Going.{spent-stays}
use Rattle.kc_batch.proofs.Telling.{receipt_in-grows}
use Rattle.kc_batch.proofs.Turning.{turned-append}
use Rattle.kc_batch.proofs.Working.{misses-stay}

-- The first one is taken from a list, and what it gives comes next.
pub next-image : {A B : Type 0} (f : A → B) (done new : List B) (old rest : List A) (x : A) (b : B) → old ≡ x ∷ rest → b ≡ f x
    → new ≡ done ++ b ∷ [] → new ++ map f rest ≡ done ++ map f old
next-image {A} {B} f done new old rest x b is image more =
    ap (λ (z : List B). z ++ map f rest) more
    ∙ (append_assoc done (b ∷ []) (map f rest)
    ∙ (ap (λ (z : B). done ++ z ∷ map f rest) image ∙ ap (λ (z : List A). done ++ map f z) (sym is)))

-- The first of the desks is seated.
pub next-seat : (old rest : List Desked) (d : Desked) (seats new : List Seated) (s : Seated) → old ≡ d ∷ rest → desk_of s ≡ d → new ≡ seats ++ s ∷ []
    → map desk_of new ++ rest ≡ map desk_of seats ++ old
next-seat old rest d seats new s is desk more =
    ap (λ (z : List Seated). map desk_of z ++ rest) more
    ∙ (ap (λ (z : List Desked). z ++ rest) (map-append desk_of seats (s ∷ []))
    ∙ (append_assoc (map desk_of seats) (desk_of s ∷ []) rest
    ∙ (ap (λ (z : Desked). map desk_of seats ++ z ∷ rest) desk ∙ ap (λ (z : List Desked). map desk_of seats ++ z) (sym is))))

-- where the first seat is taken from a list, its amount comes first
pub next-amount : (old rest : List Seated) (x : Seated) → old ≡ x ∷ rest → amounts old ≡ x.amount + amounts rest
next-amount old rest x is = ap amounts is ∙ sum_by-cons (λ (s : Seated). s.amount) x rest

-- where the first seat is taken from a list, what it has taken comes next
pub next-taken : (taken new : List ℕ) (old rest : List Seated) (x : Seated) → old ≡ x ∷ rest → new ≡ taken ++ x.consumer.taken
    → new ++ all_taken rest ≡ taken ++ all_taken old
next-taken taken new old rest x is more =
    ap (λ (z : List ℕ). z ++ all_taken rest) more
    ∙ (append_assoc taken x.consumer.taken (all_taken rest) ∙ ap (λ (z : List Seated). taken ++ all_taken z) (sym is))

-- what holds at each place holds place by place
pub zip-of : {A : Type 0} (R : A → A → Type 0) (xs ys : List A) → length xs ≡ length ys
    → ((i : ℕ) (d : A) → i < length xs → R (get_or xs i d) (get_or ys i d)) → AllZip R xs ys
zip-of R [] [] long h = tt
zip-of R [] (y ∷ ys) long h = absurd (omega arith)
zip-of R (x ∷ xs) [] long h = absurd (omega arith)
zip-of R (x ∷ xs) (y ∷ ys) long h = (h 0 x (omega arith), zip-of R xs ys (omega arith) (λ i d l. h (suc i) d (omega arith)))

-- in a list of two parts, what is of the first or new is of the whole or new
left-or : {A : Type 0} (New : A → Type 0) (xs more ys rest : List A) → ys ≡ xs ++ more → All New more → All (λ x. Contains (xs ++ rest) x ⊎ New x) ys
left-or {A} New xs more ys rest is news =
    let Q : A → Type 0 = λ x. Contains (xs ++ rest) x ⊎ New x in
    subst (All Q) (sym is)
    (All-append Q xs more (All-weaker (Contains xs) Q (λ x c. inl (Contains-append_left xs rest x c)) xs (All-contains_itself xs))
    (All-weaker New Q (λ x n. inr n) more news))

-- in a list of two parts, what is of the second or new is of the whole or new
right-or : {A : Type 0} (New : A → Type 0) (front rest ys : List A) → All (λ x. Contains rest x ⊎ New x) ys → All (λ x. Contains (front ++ rest) x ⊎ New x) ys
right-or {A} New front rest ys h =
    All-weaker (λ x. Contains rest x ⊎ New x) (λ x. Contains (front ++ rest) x ⊎ New x)
    (λ x c. ⊎_elim (λ (t : Contains rest x). inl (Contains-append_right front rest x t)) (λ (n : New x). inr n) c) ys h

-- what is kept for spent versions, or a full journal, is kept for them where more was seen
spent-later : (o : Opened) (p log : List Event) (left : Left) → IsPrefix p log → Legal o.table.shape o.table.opening log
    → KeepsIfSpent o p left → KeepsIfSpent o log left
spent-later o p log Nothing pre legal h = h
spent-later o p log (Kept place) pre legal h = elim h [
  | inl spent ↦ inl (spent-stays o.table p log pre legal spent)
  | inr full ↦ inr (omega (arith, full, number-grows o.table.shape o.table.opening p log pre))
]
spent-later o p log (Dropped place) pre legal h = h
spent-later o p log (Untold receipt) pre legal h = h

-- A worker has worked from an empty account, and nothing that it has seen is beyond this log.
pub record HasWorked (o : Opened) (start log : List Event) (first : ℕ) (batch : List Update) (order : List ℕ) (old new : Seated) : Type 0 where
  pub works : Works o start first batch order old new
  pub told : IsPrefix start new.seen.log
  pub within : IsPrefix new.seen.log log
  pub spent : KeepsIfSpent o new.seen.log new.work.left
  pub nothing_counted : old.amount ≡ 0
  pub nothing_taken : old.consumer.taken ≡ []

-- the work at each of these seats
abbrev works_at : List Seated → List Work
works_at seats = map (λ s. s.work) seats

module _ (o : Opened) (start log : List Event) (first : ℕ) (batch : List Update) (order : List ℕ) (legal : Legal o.table.shape o.table.opening log)
  where
    done-later : (new : Seated) → IsPrefix start new.seen.log → IsPrefix new.seen.log log → (ds : List Done) → All (HasTrueMisses o start new.seen.log) ds
        → All (HasTrueMisses o start log) ds
    done-later new told within ds h =
        All-weaker (HasTrueMisses o start new.seen.log) (HasTrueMisses o start log)
        (λ d m. misses-stay o start start new.seen.log log d legal (prefix_self start) told within m) ds h

    receipts-later : (new : Seated) → IsPrefix new.seen.log log → (rs : List Receipt) → All (IsReceiptIn o start new.seen.log first batch) rs
        → All (IsReceiptIn o start log first batch) rs
    receipts-later new within rs h =
        All-weaker (IsReceiptIn o start new.seen.log first batch) (IsReceiptIn o start log first batch)
        (λ r t. receipt_in-grows o start new.seen.log log first batch r within t) rs h

    pub rounds-of : (before : List ℕ) (olds news : List Seated) → AllZip (HasWorked o start log first batch order) olds news
        → Rounds o start log first batch (works_at olds) (works_at news) before (before ++ at_turns order (all_taken news)) (amounts news)
    rounds-of before [] [] h = record {
      as_many = refl;
      done = All-nil _;
      receipts = All-nil _;
      count = refl;
      balance = λ y. ap (λ (z : List ℕ). 0 + times y (at_places first z)) (sym (append-nil before));
      spent = All-nil _;
    }
    rounds-of before [] (b ∷ bs) h = absurd h
    rounds-of before (a ∷ as') [] h = absurd h
    rounds-of before (a ∷ as') (b ∷ bs) h =
        let k : HasWorked o start log first batch order a b = h.0 in
        let w = k.works in
        let rest = rounds-of before as' bs h.1 in
        let shift = λ (ps : List ℕ). map (λ p. first + p) ps in
        record {
          as_many = ap suc rest.as_many;
          done =
              All-append (λ d. Contains (all_done (works_at (a ∷ as'))) d ⊎ HasTrueMisses o start log d) b.work.done (all_done (works_at bs))
              (left-or (HasTrueMisses o start log) a.work.done w.more b.work.done (all_done (works_at as')) w.done
              (done-later b k.told k.within w.more w.misses))
              (right-or (HasTrueMisses o start log) a.work.done (all_done (works_at as')) (all_done (works_at bs)) rest.done);
          receipts =
              All-append (λ r. Contains (all_receipts (works_at (a ∷ as'))) r ⊎ IsReceiptIn o start log first batch r)
              (receipts_of b.work) (all_receipts (works_at bs))
              (left-or (IsReceiptIn o start log first batch) (receipts_of a.work) w.added (receipts_of b.work) (all_receipts (works_at as')) w.receipts
              (receipts-later b k.within w.added w.told))
              (right-or (IsReceiptIn o start log first batch) (receipts_of a.work) (all_receipts (works_at as')) (all_receipts (works_at bs)) rest.receipts);
          count = omega (
            arith,
            rest.count,
            length-append (receipts_of b.work) (all_receipts (works_at bs)),
            length-append (receipts_of a.work) (all_receipts (works_at as')),
            ap (λ (z : List Receipt). length z) w.receipts,
            length-append (receipts_of a.work) w.added,
            w.amount,
            k.nothing_counted,
            sum_by-cons (λ (s : Seated). s.amount) b bs,
          );
          balance = λ y. omega (
            arith,
            rest.balance y,
            w.balance y,
            ap (λ (z : List ℕ). times y (at_places first (at_turns order z))) k.nothing_taken,
            sum_by-cons (times_had first y) b.work (works_at bs),
            sum_by-cons (times_had first y) a.work (works_at as'),
            split y before (at_turns order (all_taken bs)),
            split y before (at_turns order (b.consumer.taken ++ all_taken bs)),
            ap (λ (z : List ℕ). times y (at_places first z)) (turned-append order b.consumer.taken (all_taken bs)),
            split y (at_turns order b.consumer.taken) (at_turns order (all_taken bs)),
          );
          spent = All-cons (λ u. KeepsIfSpent o log u.left) b.work (works_at bs) (spent-later o b.seen.log log b.work.left k.within legal k.spent) rest.spent;
        }
      where
        split : (y : ℕ) (ps qs : List ℕ) → times y (at_places first (ps ++ qs)) ≡ times y (at_places first ps) + times y (at_places first qs)
        split y ps qs = ap (times y) (map-append (λ (p : ℕ). first + p) ps qs) ∙ times-append y (at_places first ps) (at_places first qs)

-- what holds of all images of a list holds of the image of each
pub all-unmapped : {A B : Type 0} (P : B → Type 0) (f : A → B) (xs : List A) → All P (map f xs) → All (λ x. P (f x)) xs
all-unmapped P f [] h = All-nil _
all-unmapped P f (x ∷ xs) h = All-cons (λ y. P (f y)) x xs (All-head P (f x) (map f xs) h) (all-unmapped P f xs (All-tail P (f x) (map f xs) h))

-- the work at the desks of seats is that at the seats
pub works-of : (seats : List Seated) → map (λ (d : Desked). d.work) (map desk_of seats) ≡ works_at seats
works-of [] = refl
works-of (s ∷ ss) = ap (λ (z : List Work). s.work ∷ z) (works-of ss)

-- there are as many seats as desks
pub seats-many : (seats : List Seated) (desks : List Desked) → map desk_of seats ≡ desks → length seats ≡ length desks
seats-many seats desks is = omega (arith, ap (λ (z : List Desked). length z) is, length-map seats desk_of)

-- a slice that is as long as its list is written back whole
written-whole : {A : Type 0} (new old : List A) (n : ℕ) → length new ≡ length old → n ≡ length old → take n (new ++ drop (length new) old) ≡ new
written-whole {A} new old n long is =
    ap (λ (z : List A). take n (new ++ z)) (drop_all (length new) old (omega arith))
    ∙ (ap (λ (z : List A). take n z) (append-nil new) ∙ take_all n new (omega arith))

-- lists of which something holds place by place have one length
zip-length : {A : Type 0} (R : A → A → Type 0) (xs ys : List A) → AllZip R xs ys → length xs ≡ length ys
zip-length R [] [] h = refl
zip-length R [] (y ∷ ys) h = absurd h
zip-length R (x ∷ xs) [] h = absurd h
zip-length R (x ∷ xs) (y ∷ ys) h = ap suc (zip-length R xs ys h.1)

-- So it is where something holds place by place of what was read of the list and of what is written, which then is the list.
pub written-all : {A : Type 0} (R : A → A → Type 0) (old new : List A) (n : ℕ) {read : List A} → read ≡ old → AllZip R read new → n ≡ length old
    → AllZip R old new × (take n (new ++ drop (length new) old) ≡ new)
written-all {A} R old new n same h long =
    let zip : AllZip R old new = subst (λ (z : List A). AllZip R z new) same h in
    (zip, written-whole new old n (sym (zip-length R old new zip)) long)

-- the log of a journal that stands is legal in its table
pub legal_in : (t : TableName) (log : List Event) (j : Journalled) → Stands j → j.levels.table ≡ t → j.levels.log ≡ log → Legal t.shape t.opening log
legal_in t log j stands table is =
    subst (λ (u : TableName). Legal u.shape u.opening log) table
    (subst (λ (z : List Event). Legal j.levels.table.shape j.levels.table.opening z) is stands.levels.legal)

-- who is seated at a desk that may go on may go on
pub ready-seats : (o : Opened) (start : List Event) (count : ℕ) (t : TableName) (seats : List Seated) (desks : List Desked)
    → map desk_of seats ≡ desks → All (λ d. d.seen ≡ record { table = t; log = start }) desks
    → All (λ d. KeepsOneOf count d.work.left) desks → Legal o.table.shape o.table.opening start → All (CanGoOn o start count) seats
ready-seats o start count t seats desks is told keeps legal = λ k d l.
    let Told : Desked → Type 0 = λ d. d.seen ≡ record { table = t; log = start } in
    let Keeps : Desked → Type 0 = λ d. KeepsOneOf count d.work.left in
    let seen = all-unmapped Told desk_of seats (subst (All Told) (sym is) told) in
    let kept = all-unmapped Keeps desk_of seats (subst (All Keeps) (sym is) keeps) in
    let log : (get_or seats k d).seen.log ≡ start = ap (λ (z : Seen). z.log) (seen k d l) in
    record {
      told = subst (IsPrefix start) (sym log) (prefix_self start);
      legal = subst (λ (z : List Event). Legal o.table.shape o.table.opening z) (sym log) legal;
      keeps = kept k d l;
    }

-- what becomes of a seat in a round
abbrev pub Steps : Opened → List Event → ℕ → List Update → List ℕ → Seated → Seated → Type 0
Steps o start first batch order a b = Works o start first batch order a b × KeepsIfSpent o b.seen.log b.work.left

module _ (o : Opened) (start log : List Event) (first : ℕ) (batch : List Update) (order : List ℕ) (count : ℕ) (queue : FilledQueue)
  where
    abbrev Mine : Seated → Seated → Type 0
    Mine = Steps o start first batch order

    pub seat-consumers : (olds news : List Seated) → AllZip Mine olds news → All (IsFreshSeat queue) olds
        → All (λ s. (s.consumer.queue ≡ queue) × (s.consumer.parts ≡ 1)) news
    seat-consumers [] [] h fresh = All-nil _
    seat-consumers [] (b ∷ bs) h fresh = absurd h
    seat-consumers (a ∷ as') [] h fresh = absurd h
    seat-consumers (a ∷ as') (b ∷ bs) h fresh =
        let w : Works o start first batch order a b = h.0.0 in
        let mine = (All-head (IsFreshSeat queue) a as' fresh).consumer in
        All-cons (λ s. (s.consumer.queue ≡ queue) × (s.consumer.parts ≡ 1)) b bs
        (w.queue ∙ ap (λ (k : Consuming). k.queue) mine, w.parts ∙ ap (λ (k : Consuming). k.parts) mine)
        (seat-consumers as' bs h.1 (All-tail (IsFreshSeat queue) a as' fresh))

    pub have-worked : (olds news : List Seated) → AllZip Mine olds news → All (IsFreshSeat queue) olds → All (CanGoOn o start count) olds
        → All (λ (s : Seated). IsPrefix s.seen.log log) news → AllZip (HasWorked o start log first batch order) olds news
    have-worked [] [] h fresh ready within = tt
    have-worked [] (b ∷ bs) h fresh ready within = absurd h
    have-worked (a ∷ as') [] h fresh ready within = absurd h
    have-worked (a ∷ as') (b ∷ bs) h fresh ready within =
        let w : Works o start first batch order a b = h.0.0 in
        let mine = All-head (IsFreshSeat queue) a as' fresh in
        let r = All-head (CanGoOn o start count) a as' ready in (
          record {
            works = w;
            told = prefix_trans start a.seen.log b.seen.log r.told w.longer;
            within = All-head (λ (s : Seated). IsPrefix s.seen.log log) b bs within;
            spent = h.0.1;
            nothing_counted = mine.amount;
            nothing_taken = ap (λ (k : Consuming). k.taken) mine.consumer;
          },
          have-worked as' bs h.1 (All-tail (IsFreshSeat queue) a as' fresh) (All-tail (CanGoOn o start count) a as' ready)
              (All-tail (λ (s : Seated). IsPrefix s.seen.log log) b bs within),
        )

    -- What a round has made, by the desks before it and after it.
    pub round-made : (seats news : List Seated) (olds : List Desked) (told : List Desked) (before after : List ℕ) (made : ℕ)
        → Legal o.table.shape o.table.opening log → map desk_of seats ≡ olds → AllZip Mine seats news → All (IsFreshSeat queue) seats
        → All (CanGoOn o start count) seats → All (λ d. IsPrefix d.seen.log log) (map desk_of news)
        → map (λ d. d.work) told ≡ map (λ d. d.work) (map desk_of news) → after ≡ before ++ at_turns order (all_taken news) → made ≡ amounts news
        → Rounds o start log first batch (map (λ d. d.work) olds) (map (λ d. d.work) told) before after made
    round-made seats news olds told before after made legal is steps fresh ready within works taken total =
        let W : List Desked → List Work = λ ds. map (λ (d : Desked). d.work) ds in
        let zip = have-worked seats news steps fresh ready (all-unmapped (λ (d : Desked). IsPrefix d.seen.log log) desk_of news within) in
        let r = rounds-of o start log first batch order legal before seats news zip in
        let here : works_at seats ≡ W olds = sym (works-of seats) ∙ ap W is in
        let there : works_at news ≡ W told = sym (works-of news) ∙ sym works in
        subst (λ (z : List Work). Rounds o start log first batch z (W told) before after made) here
        (subst (λ (z : List Work). Rounds o start log first batch (works_at seats) z before after made) there
        (subst (λ (z : List ℕ). Rounds o start log first batch (works_at seats) (works_at news) before z made) (sym taken)
        (subst (λ (z : ℕ). Rounds o start log first batch (works_at seats) (works_at news) before (before ++ at_turns order (all_taken news)) z)
        (sym total) r)))

-- what is in its place still is as it was
pub item-unchanged : {A : Type 0} (i : ℕ) (xs ys : List A) (d : A) → drop i xs ≡ drop i ys → get_or xs i d ≡ get_or ys i d
item-unchanged {A} i xs ys d is =
    let at : i + 0 ≡ i = omega arith in
    ap (λ (k : ℕ). get_or xs k d) (sym at)
    ∙ (sym (get_or-drop i xs 0 d) ∙ (ap (λ (z : List A). get_or z 0 d) is ∙ (get_or-drop i ys 0 d ∙ ap (λ (k : ℕ). get_or ys k d) at)))

-- a list keeps its images where a place is written with one of the same image
pub same-images : {A B : Type 0} (f : A → B) (xs ys : List A) (i : ℕ) (new d : A) → i < length xs → f new ≡ f (get_or xs i d) → map f xs ≡ map f ys
    → map f (set xs i new) ≡ map f ys
same-images {A} {B} f xs ys i new d l same rest = images xs i l same ∙ rest
  where
    images : (zs : List A) (k : ℕ) → k < length zs → f new ≡ f (get_or zs k d) → map f (set zs k new) ≡ map f zs
    images [] k l e = refl
    images (z ∷ zs) zero l e = ap (λ (b : B). b ∷ map f zs) e
    images (z ∷ zs) (suc k) l e = ap (λ (bs : List B). f z ∷ bs) (images zs k (omega arith) e)
