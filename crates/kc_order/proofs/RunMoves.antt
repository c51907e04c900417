-- What the puts of a run leave after each prefix of the log: the list where some of the last members have moved.
use Rattle.std.proofs.Common.{◌≡◌, ◌≢◌, ◌<◌, ◌≤◌, ◌+◌, ◌*◌, ◌↔◌, ◌⊎◌, ℕ, suc, true, false, cond, List, [], ◌∷◌, ◌++◌, length, refl, sym, ap, ◌∙◌, subst}
use Rattle.std.proofs.Common.{◌-◌, drop, get_or, arith, inl, inr, append_assoc, append-nil, length-append, length-drop}
use Rattle.std.specs.Prelude.{All}
use Rattle.std.proofs.lemmas.Bool.{cases_Bool, false≢true, false_from_ne_true, le-ltb}
use Rattle.std.proofs.lemmas.List.{append_cancel_left, drop_more}
use mathlib.Core.List.{IsPrefix}
use Rattle.kc_lists.specs.Lists.{Distinct, member, right_after, without}
use Rattle.kc_lists.proofs.Counting.{Distinct-drop, drop-member, member-get_or}
use Rattle.kc_lists.proofs.Members.{member-cases, member-append_left, member-append_right}
use Rattle.kc_words.specs.NoteWord.{note_of, note_word, IsFitting}
use Rattle.kc_words.proofs.Notes.{note_of-note_word}
use Rattle.kc_words.specs.declared.note.NoteWord.{NoteWord}
use Rattle.kc_words.specs.declared.note.NoteWord.TheVariants.{Put}
use Rattle.kc_words.specs.declared.shape.Shape.{Shape}
use Rattle.kc_table.specs.declared.view.Event.{Event}
use Rattle.kc_table.specs.Log.{Seen, TableName, event}
use Rattle.kc_table.specs.TableState.{TableState, after_store, after_stores, state_of, entered, index_in}
use Rattle.kc_table.specs.Legal.{FollowsNote, IsVersioned, Legal}
use Rattle.kc_table.proofs.LegalLogs.{after_stores-append, legal-prefix}
use Rattle.kc_table.proofs.Listed.{list-stands}
use Rattle.kc_table.proofs.Prefixes.{prefix_self, prefix_trans, prefix_either}
use Rattle.kc_order.specs.Standing.{Between, StandsBefore, list_after}
use Rattle.kc_order.specs.Writers.{HasRoom, LeavesBeside, Puts, PutsEach, entries_after, unsealed_after, vertex_word_after, with_open}
use Rattle.kc_order.specs.Runs.{InListOrder, IsRunBefore, MovesRun, StandsAsEither, puts_of_run, with_run_after}
use Rattle.kc_order.proofs.Leaving.{IsOfItem, put-of_item}
use Rattle.kc_order.proofs.Orders.{is_before, before-stands, run-front, run-members, run-more, run-none, run-others, run-parts}
use Rattle.kc_order.proofs.Orders.{stands-alike, stands-before, stands-once}
use Rattle.kc_order.proofs.Relabelling.{relabelled, after-relabel}
use Rattle.kc_order.proofs.Running.{room-less, room-run}
use Rattle.kc_order.proofs.Writing.{put-fits}

-- Prefixes of a log that grows by one put. ---------------------------------------------------------

-- two lists that begin each other
prefix-same : {A : Type 0} (xs ys : List A) → IsPrefix xs ys → IsPrefix ys xs → xs ≡ ys
prefix-same xs ys p q = elim p.0 as (λ rest. xs ++ rest ≡ ys → xs ≡ ys) [
  | [] ↦ λ e. sym (append-nil xs) ∙ e
  | z ∷ rest ↦ λ e. absurd (omega (arith, ap length e, length-append xs (z ∷ rest), ap length q.1, length-append ys q.0))
] p.1

-- the first store of some, and `d` where there is none
abbrev first_or : Event → List Event → Event
first_or d [] = d
first_or d (e ∷ es) = e

-- the stores behind the first
abbrev rest_of : List Event → List Event
rest_of [] = []
rest_of (e ∷ es) = es

-- a state with the list and the entries of another
record HasPaused (s t : TableState) : Type 0 where
  list : t.list ≡ s.list
  entries : t.entries ≡ s.entries

-- Of the stores of one put only the last changes the list, and none the entries.
put_stores-pause : (shape : Shape) (note : NoteWord) (value x last : ℕ) → note_of value ≡ note → IsOfItem note → (relabels : List Event) (s : TableState)
    → All (λ e. IsVersioned shape e.word) relabels → ((word : ℕ) → FollowsNote s.note word) → (front back : List Event)
    → front ++ back ≡ relabels ++ event 0 value ∷ event (1 + x) last ∷ [] → HasPaused s (after_stores shape s front) ⊎ (back ≡ [])
put_stores-pause shape note value x last is of relabels s versioned quiet [] back e = inl record { list = refl; entries = refl }
put_stores-pause shape note value x last is of [] s versioned quiet (d ∷ []) back e =
    let here : d ≡ event 0 value = ap (first_or d) e in
    inl (subst (λ (z : Event). HasPaused s (after_store shape s z)) (sym here)
    record { list = refl; entries = ap (λ z. entered (index_in s) z s.entries) is ∙ of.no_entry (index_in s) s.entries })
put_stores-pause shape note value x last is of [] s versioned quiet (d ∷ (f ∷ front)) [] e = inr refl
put_stores-pause shape note value x last is of [] s versioned quiet (d ∷ (f ∷ front)) (b ∷ back) e =
    absurd (omega (arith, ap length e, length-append front (b ∷ back)))
put_stores-pause shape note value x last is of (r ∷ more) s versioned quiet (d ∷ front) back e =
    let here : d ≡ r = ap (first_or d) e in
    let low : IsVersioned shape r.word = versioned 0 r (omega arith) in
    let next = relabelled s r in
    let after : after_store shape s d ≡ next = ap (after_store shape s) here ∙ after-relabel shape s r low.0 low.1 quiet in
    elim (put_stores-pause shape note value x last is of more next (λ k z l. versioned (suc k) z (omega (arith, l))) (λ word. tt) front back (ap rest_of e)) [
      | inl h ↦ inl (subst (λ (z : TableState). HasPaused s (after_stores shape z front)) (sym after) record { list = h.list; entries = h.entries })
      | inr none ↦ inr none
    ]

-- list and entries after a prefix are as they were before the put
pub record IsBefore (old : Seen) (prefix : List Event) : Type 0 where
  pub list : list_after old.table prefix ≡ list_after old.table old.log
  pub entries : entries_after (record { table = old.table; log = prefix }) ≡ entries_after old

-- after a prefix between a put's two ends list and entries are as before, or the put is done
put-pauses : (old new : Seen) (x p : ℕ) → Puts old new x p → IsFitting (Put x p)
    → ((word : ℕ) → FollowsNote (state_of old.table.shape old.table.opening old.log).note word)
    → (prefix : List Event) → Between old.log new.log prefix → IsBefore old prefix ⊎ (prefix ≡ new.log)
unfolding state_of
put-pauses old new x p put fits quiet prefix b =
    let shape = old.table.shape in
    let opening = old.table.opening in
    let note = Put x p in
    let stores = put.ends.relabels ++ event 0 (note_word note) ∷ event (1 + x) put.ends.value ∷ [] in
    let front = b.extends.0 in
    let back = b.extended.0 in
    let whole : old.log ++ (front ++ back) ≡ old.log ++ stores =
    sym (append_assoc old.log front back) ∙ (ap (λ z. z ++ back) b.extends.1 ∙ (b.extended.1 ∙ put.ends.log)) in
    let are : front ++ back ≡ stores = append_cancel_left old.log (front ++ back) stores whole in
    let s = state_of shape opening old.log in
    let at : state_of shape opening prefix ≡ after_stores shape s front =
    ap (state_of shape opening) (sym b.extends.1) ∙ after_stores-append shape _ old.log front in
    elim (put_stores-pause shape note (note_word note) x put.ends.value (note_of-note_word note fits) (put-of_item x p)
    put.ends.relabels s put.ends.versioned quiet
    front back are) [
      | inl h ↦ inl record { list = ap (λ (z : TableState). z.list) at ∙ h.list; entries = ap (λ (z : TableState). z.entries) at ∙ h.entries }
      | inr none ↦ inr (sym (append-nil prefix) ∙ (ap (λ z. prefix ++ z) (sym none) ∙ b.extended.1))
    ]

-- Puts of the last members of a run. --------------------------------------------------------------------

-- the list after this prefix, where the back of the run has moved
pub record Stage (old : Seen) (run : List ℕ) (p : ℕ) (prefix : List Event) : Type 0 where
  pub front : List ℕ
  pub back : List ℕ
  pub are : run ≡ front ++ back
  pub list : list_after old.table prefix ≡ with_run_after back p (list_after old.table old.log)
  pub entries : entries_after (record { table = old.table; log = prefix }) ≡ entries_after old

-- all members of this run have moved
pub record HasMoved (old now : Seen) (run : List ℕ) (p : ℕ) : Type 0 where
  pub table : now.table ≡ old.table
  pub longer : IsPrefix old.log now.log
  pub legal : Legal now.table.shape now.table.opening now.log
  pub puts : PutsEach old (puts_of_run run p) now
  pub list : list_after now.table now.log ≡ with_run_after run p (list_after old.table old.log)
  pub leaves : LeavesBeside now (entries_after old) (unsealed_after old) (vertex_word_after old)
  pub stages : (prefix : List Event) → Between old.log now.log prefix → Stage old run p prefix

-- where nothing was done, all members of the run of none have moved
pub moved-none : (old : Seen) (p : ℕ) → Legal old.table.shape old.table.opening old.log
    → ((word : ℕ) → FollowsNote (state_of old.table.shape old.table.opening old.log).note word)
    → HasMoved old old [] p
moved-none old p legal quiet = record {
  table = refl;
  longer = prefix_self old.log;
  legal = legal;
  puts = refl;
  list = sym (run-none p (list_after old.table old.log));
  leaves = record { entries_are = refl; unsealed_are = refl; words_are = λ v. refl; quiet = quiet };
  stages = λ prefix b.
      let same : prefix ≡ old.log = prefix-same prefix old.log b.extended b.extends in
      record {
        front = [];
        back = [];
        are = refl;
        list = ap (list_after old.table) same ∙ sym (run-none p (list_after old.table old.log));
        entries = ap (λ z. entries_after (record { table = old.table; log = z })) same;
      };
}

-- puts in turn and one more are puts in turn
puts-push : (old now next : Seen) (puts : List (ℕ × ℕ)) (x p : ℕ) → PutsEach old puts now → Puts now next x p → PutsEach old (puts ++ (x, p) ∷ []) next
puts-push old now next [] x p is put = (next, subst (λ (s : Seen). Puts s next x p) is put, refl)
puts-push old now next (one ∷ puts) x p h put = (h.0, h.1, puts-push h.0 now next puts x p h.2 put)

-- an item that is no vertex opens nothing
no_vertex : (fixed x : ℕ) (unsealed : List ℕ) → fixed ≤ x → with_open fixed x unsealed ≡ unsealed
no_vertex fixed x unsealed le = ap (λ b. cond b (x ∷ unsealed) unsealed) (le-ltb x fixed le)

-- the member before those that have moved moves too
pub moved-more : (old now next : Seen) (x : ℕ) (run : List ℕ) (p : ℕ) → HasMoved old now run p → Puts now next x p → IsFitting (Put x p)
    → member x run ≡ false → x ≢ p → old.table.shape.fixed ≤ x → HasMoved old next (x ∷ run) p
moved-more old now next x run p h put fits apart differ free =
    let list : list_after next.table next.log ≡ with_run_after (x ∷ run) p (list_after old.table old.log) =
    put.list ∙ (ap (λ zs. right_after x p (without x zs)) h.list ∙ run-more x run p (list_after old.table old.log) apart differ) in
    let grown : IsPrefix now.log next.log = (put.ends.relabels ++ event 0 (note_word (Put x p)) ∷ event (1 + x) put.ends.value ∷ [], sym put.ends.log) in
    let to : next.table ≡ old.table = put.ends.table ∙ h.table in
    let opened = no_vertex now.table.shape.fixed x (unsealed_after now) (subst (λ (t : TableName). t.shape.fixed ≤ x) (sym h.table) free) in
    let entries : entries_after next ≡ entries_after old = put.leaves.entries_are ∙ h.leaves.entries_are in
    record {
      table = to;
      longer = prefix_trans old.log now.log next.log h.longer grown;
      legal = put.ends.legal;
      puts = puts-push old now next (puts_of_run run p) x p h.puts put;
      list = list;
      leaves = record {
        entries_are = entries;
        unsealed_are = put.leaves.unsealed_are ∙ (opened ∙ h.leaves.unsealed_are);
        words_are = λ v. put.leaves.words_are v ∙ h.leaves.words_are v;
        quiet = put.leaves.quiet;
      };
      stages = λ prefix b. elim (prefix_either prefix now.log next.log b.extended grown) [
        | inl before ↦
            let s = h.stages prefix record { extends = b.extends; extended = before } in
            record { front = x ∷ s.front; back = s.back; are = ap (λ z. x ∷ z) s.are; list = s.list; entries = s.entries }
        | inr after ↦ elim (put-pauses now next x p put fits h.leaves.quiet prefix record { extends = after; extended = b.extended }) [
          | inl same ↦ record {
            front = x ∷ [];
            back = run;
            are = refl;
            list = ap (λ t. list_after t prefix) (sym h.table) ∙ (same.list ∙ h.list);
            entries = ap (λ t. entries_after (record { table = t; log = prefix })) (sym h.table) ∙ (same.entries ∙ h.leaves.entries_are);
          }
          | inr whole ↦ record {
            front = [];
            back = x ∷ run;
            are = refl;
            list = ap (list_after old.table) whole ∙ (ap (λ t. list_after t next.log) (sym to) ∙ list);
            entries = (λ i. entries_after (record { table = sym to i; log = whole i })) ∙ entries;
          }
        ]
      ];
    }

-- What a run owes. -----------------------------------------------------------------------------------------

-- in a run in the list's order no member comes twice
pub turn-distinct : (run list : List ℕ) → InListOrder run list → Distinct run
turn-distinct [] list turn = tt
turn-distinct (x ∷ run) list turn = (
  false_from_ne_true (member x run) (λ m. let s = turn.0 x m in stands-once x x list s s),
  turn-distinct run list turn.1,
)

-- what stands earlier in the run stands earlier in the list
turn-parts : (front back list : List ℕ) → InListOrder (front ++ back) list → (x y : ℕ) → member x front ≡ true → member y back ≡ true → StandsBefore x y list
turn-parts [] back list turn x y m n = absurd (false≢true m)
turn-parts (z ∷ front) back list turn x y m n = elim (member-cases x z front m) [
  | inl e ↦ subst (λ (w : ℕ). StandsBefore w y list) (sym e) (turn.0 y (member-append_right y front back n))
  | inr k ↦ turn-parts front back list turn.1 x y k n
]

-- an item that each of a run stands before is none of the run
pub apart-from_run : (run : List ℕ) (p : ℕ) (list : List ℕ) → ((x : ℕ) → member x run ≡ true → StandsBefore x p list) → member p run ≡ false
apart-from_run run p list before = false_from_ne_true (member p run) (λ m. let s = before p m in stands-once p p list s s)

-- where the back of a run has moved, any two items stand as before or as where all of it has
stands-either : (front back : List ℕ) (p : ℕ) (list : List ℕ) → Distinct list → Distinct (with_run_after back p list)
    → Distinct (with_run_after (front ++ back) p list) → InListOrder (front ++ back) list
    → ((x : ℕ) → member x (front ++ back) ≡ true → StandsBefore x p list)
    → StandsAsEither list (with_run_after (front ++ back) p list) (with_run_after back p list)
stands-either front back p list d dm dn turn before x y =
    let l = with_run_after back p list in
    let new = with_run_after (front ++ back) p list in
    let in_front : (z : ℕ) → member z front ≡ true → member z (front ++ back) ≡ true = λ z m. member-append_left z front back m in
    let in_back : (z : ℕ) → member z back ≡ true → member z (front ++ back) ≡ true = λ z m. member-append_right z front back m in
    let off_front : member p front ≡ false = apart-from_run front p list (λ z m. before z (in_front z m)) in
    let off_back : member p back ≡ false = apart-from_run back p list (λ z m. before z (in_back z m)) in
    let to_new : new ≡ with_run_after front p l = run-parts front back p list (turn-distinct (front ++ back) list turn) off_front in
    let as_old : member x back ≡ false → member y back ≡ false → StandsBefore x y l ↔ StandsBefore x y list =
    λ hx hy. stands-alike x y l list dm d (run-others back p list off_back x y hx hy) in
    let as_new : member x front ≡ false → member y front ≡ false → StandsBefore x y l ↔ StandsBefore x y new =
    λ hx hy. stands-alike x y l new dm dn (sym (ap (is_before x y) to_new ∙ run-others front p l off_front x y hx hy)) in
    let first : (v w : ℕ) → member v front ≡ true → member w back ≡ true → StandsBefore v w list × StandsBefore v w l = λ v w m n.
    let s = turn-parts front back list turn v w m n in
    let off : member v back ≡ false = false_from_ne_true (member v back) (λ k. let t = turn-parts front back list turn v v m k in stands-once v v list t t) in (
      s,
      before-stands v w l dm (run-front back p list off_back v w d off n (stands-before v p list (before v (in_front v m)))),
    ) in
    let off_other : (v : ℕ) → member v back ≡ true → member v front ≡ false = λ v n. false_from_ne_true (member v front) (λ m.
    let s = turn-parts front back list turn v v m n in stands-once v v list s s) in
    elim (cases_Bool (member x back)) [
      | inl xb ↦ elim (cases_Bool (member y front)) [
        | inl yf ↦ let s = first y x yf xb in inl ((λ t. absurd (stands-once x y l t s.1)), (λ t. absurd (stands-once x y list t s.0)))
        | inr ny ↦ inr (as_new (off_other x xb) ny)
      ]
      | inr nx ↦ elim (cases_Bool (member y back)) [
        | inl yb ↦ elim (cases_Bool (member x front)) [
          | inl xf ↦ let s = first x y xf yb in inl ((λ t. s.0), (λ t. s.1))
          | inr nxf ↦ inr (as_new nxf (off_other y yb))
        ]
        | inr ny ↦ inl (as_old nx ny)
      ]
    ]

-- the list after a legal log has no item twice
pub list-distinct : (table : TableName) (log : List Event) → Legal table.shape table.opening log → Distinct (list_after table log)
list-distinct table log legal = (list-stands table.shape table.opening log legal).listed.distinct

-- A run that has moved whole. ------------------------------------------------------------------------------

-- where all members of a run that stands before p have moved, the run has moved
pub moved-all : (old new : Seen) (run : List ℕ) (p : ℕ) → IsRunBefore old.table.shape.fixed run p (list_after old.table old.log)
    → member p (list_after old.table old.log) ≡ true → HasMoved old new run p → MovesRun old new run p
moved-all old new run p is p-in h =
    let list = list_after old.table old.log in
    let legal-at : (log : List Event) → IsPrefix log new.log → Legal old.table.shape old.table.opening log = λ log pre.
    subst (λ (t : TableName). Legal t.shape t.opening log) h.table (legal-prefix new.table.shape new.table.opening log new.log pre h.legal) in
    let d : Distinct list = list-distinct old.table old.log (legal-at old.log h.longer) in
    let dn : Distinct (with_run_after run p list) = subst Distinct h.list (list-distinct new.table new.log h.legal) in
    record {
      table = h.table;
      longer = h.longer;
      legal = h.legal;
      puts = h.puts;
      list = h.list;
      leaves = h.leaves;
      underway = λ prefix b.
          let s = h.stages prefix b in
          let dm : Distinct (with_run_after s.back p list) = subst Distinct s.list (list-distinct old.table prefix (legal-at prefix b.extended)) in
          let either = stands-either s.front s.back p list d dm (subst (λ (r : List ℕ). Distinct (with_run_after r p list)) s.are dn)
          (subst (λ (r : List ℕ). InListOrder r list) s.are is.turn)
          (λ x m. is.before x (ap (member x) s.are ∙ m)) in
          record {
            stands = subst (λ (z : List ℕ). StandsAsEither list (list_after new.table new.log) z) (sym s.list)
                (subst (λ (z : List ℕ). StandsAsEither list z (with_run_after s.back p list)) (sym (h.list ∙ ap (λ r. with_run_after r p list) s.are)) either);
            members = λ x. ap (member x) s.list ∙ run-members s.back p list
                (apart-from_run s.back p list (λ z m. is.before z (ap (member z) s.are ∙ member-append_right z s.front s.back m)))
                (λ z m. (is.before z (ap (member z) s.are ∙ member-append_right z s.front s.back m)).first) p-in x;
            entries = s.entries;
          };
    }

-- The next member of a run. --------------------------------------------------------------------------------

-- the members from one on are that one and those behind it
run-next : (i : ℕ) (run : List ℕ) → 0 < i → i ≤ length run → drop (i - 1) run ≡ get_or run (i - 1) 0 ∷ drop i run
run-next i run some most =
    let up : i - 1 + 1 ≡ i = omega (arith, some) in
    drop_more run (i - 1) 0 (omega (arith, some, most)) ∙ ap (λ k. get_or run (i - 1) 0 ∷ drop k run) up

-- nothing is left behind the whole of a run
run-whole : (run : List ℕ) → drop (length run) run ≡ []
run-whole [] = refl
run-whole (x ∷ run) = run-whole run

-- a run is moved by as many puts as it has members
length-puts : (run : List ℕ) (p : ℕ) → length (puts_of_run run p) ≡ length run
length-puts [] p = refl
length-puts (x ∷ run) p = omega (arith, length-append (puts_of_run run p) ((x, p) ∷ []), length-puts run p)

-- no member of a run has moved at first
pub moves-begin : (before old : Seen) (run : List ℕ) (p : ℕ) → before ≡ old → Legal before.table.shape before.table.opening before.log
    → ((word : ℕ) → FollowsNote (state_of before.table.shape before.table.opening before.log).note word) → HasMoved old old (drop (length run) run) p
moves-begin before old run p same legal quiet =
    subst (λ (s : Seen). HasMoved s s (drop (length run) run) p) same
    (subst (λ (r : List ℕ). HasMoved before before r p) (sym (run-whole run)) (moved-none before p legal quiet))

module _ (old now : Seen) (shape : Shape) (run : List ℕ) (i p : ℕ) (of : old.table.shape ≡ shape)
    (is : IsRunBefore shape.fixed run p (list_after old.table old.log)) (p-in : member p (list_after old.table old.log) ≡ true)
    (some : 0 < i) (most : i ≤ length run) (h : HasMoved old now (drop i run) p) where
  -- the item that moves next
  abbrev x : ℕ
  x = get_or run (i - 1) 0

  -- it is one of the run
  in_run : member x run ≡ true
  in_run = member-get_or run (i - 1) 0 (omega (arith, some, most))

  -- it stood before `p`
  stood : StandsBefore x p (list_after old.table old.log)
  stood = is.before x in_run

  -- the log before the moves is legal
  legal-old : Legal old.table.shape old.table.opening old.log
  legal-old = subst (λ (t : TableName). Legal t.shape t.opening old.log) h.table
      (legal-prefix now.table.shape now.table.opening old.log now.log h.longer h.legal)

  -- it is an item of the table, and no vertex
  pub next-within : x < shape.items
  next-within = subst (λ (s : Shape). x < s.items) of ((list-stands old.table.shape old.table.opening old.log legal-old).listed.within x stood.first)

  -- it is no vertex
  pub next-free : shape.fixed ≤ x
  next-free = is.free x in_run

  -- p is another item, and in the list still
  pub next-differs : x ≢ p
  next-differs e = let s = subst (λ (w : ℕ). StandsBefore x w (list_after old.table old.log)) (sym e) stood in
      stands-once x x (list_after old.table old.log) s s

  -- those that have moved are members of the run
  behind : (y : ℕ) → member y (drop i run) ≡ true → member y run ≡ true
  behind y m = drop-member i y run m

  -- `p` is in the list still
  pub next-listed : member p (list_after now.table now.log) ≡ true
  next-listed = ap (member p) h.list ∙ (run-members (drop i run) p (list_after old.table old.log)
      (apart-from_run (drop i run) p (list_after old.table old.log) (λ y m. is.before y (behind y m)))
      (λ y m. (is.before y (behind y m)).first) p-in p ∙ p-in)

  -- the versions of the words leave room for its put
  pub next-room : HasRoom old.table old.log (3 * length run) → HasRoom now.table now.log 3
  next-room room = room-run old now (puts_of_run (drop i run) p) 3 h.puts
      (room-less old (3 * length run) (2 * length (puts_of_run (drop i run) p) + 3)
      (omega (arith, length-puts (drop i run) p, length-drop i run, some, most)) room)

  -- and then it has moved too
  pub moves-on : (next : Seen) → Puts now next x p → HasMoved old next (drop (i - 1) run) p
  moves-on next put =
      let apart : member x (drop i run) ≡ false = (subst Distinct (run-next i run some most)
      (Distinct-drop (i - 1) run (turn-distinct run (list_after old.table old.log) is.turn))).0 in
      let fits = put-fits now now.table x p h.legal refl (subst (λ (t : TableName). x < t.shape.items) (sym h.table)
      (subst (λ (s : Shape). x < s.items) (sym of) next-within)) next-listed in
      subst (λ (r : List ℕ). HasMoved old next r p) (sym (run-next i run some most))
      (moved-more old now next x (drop i run) p h put fits apart next-differs (subst (λ (s : Shape). s.fixed ≤ x) (sym of) next-free))

-- at the end all members have moved, and so has the run
pub moves-end : (old now : Seen) (shape : Shape) (run : List ℕ) (i p : ℕ) → old.table.shape ≡ shape
    → IsRunBefore shape.fixed run p (list_after old.table old.log) → member p (list_after old.table old.log) ≡ true → i ≤ 0
    → HasMoved old now (drop i run) p → MovesRun old now run p
moves-end old now shape run i p of is p-in done h =
    let none : i ≡ 0 = omega (arith, done) in
    moved-all old now run p (subst (λ (s : Shape). IsRunBefore s.fixed run p (list_after old.table old.log)) (sym of) is) p-in
    (subst (λ (k : ℕ). HasMoved old now (drop k run) p) none h)
