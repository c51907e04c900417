-- More neighbours than the level raise `w`; else it is settled, or where no candidate stands before it just leaves the queue.
use Rattle.std.proofs.Common.{◌≡◌, ◌≤◌, ◌<◌, ◌+◌, ◌||◌, ℕ, min, true, false, List, length, get_or, refl, sym, ◌∙◌, ap, subst, inr, arith, rules}
use Rattle.std.proofs.lemmas.Bool.{false≢true}
use Rattle.std.proofs.lemmas.Result.{on_ok_weaker}
use Rattle.kc_lists.specs.Lists.{member}
use Rattle.kc_lists.proofs.Counting.{member-get_or}
use Rattle.kc_graph.specs.Lawful.{Ranked}
use Rattle.kc_graph.specs.declared.update.Update.{Update}
use Rattle.kc_view.specs.Answers.{Agrees, has_list, list_of}
use Rattle.kc_view.specs.Lists.{IsListOf}
use Rattle.kc_view.specs.Views.{Shown}
use Rattle.kc_view.proofs.Keeping.{GoesOn-trans, answers-agreed, still_has_list, same_list}
use Rattle.kc_insert.specs.Added.{search_with}
use Rattle.kc_graph.specs.Plans.{joins}
use Rattle.kc_insert.specs.Rising.{AsksQueued, IsTidyRising}
use Rattle.kc_insert.specs.Turns.{LeavesQueue, IsAheadOf}
use Rattle.kc_insert.specs.declared.ahead.Ahead.{Ahead}
use Rattle.kc_insert.specs.declared.rising.Mark.{Mark}
use Rattle.kc_insert.specs.declared.rising.Rising.{Rising}
use Rattle.kc_insert.proofs.Counted.{ahead-of}
use Rattle.kc_insert.proofs.Waiting.{pass-between}
use Rattle.kc_insert.proofs.Tidy.{tidy-view, leave-tidy}
use Rattle.kc_insert.proofs.rising.Rising.visit.Given.{Over}
use Rattle.kc_insert.proofs.rising.Rising.visit.Goals.{In_ok-look_from}
use Rattle.kc_insert.proofs.rising.Rising.visit.Goals as goal

-- a sum that stops at the greatest number and is above the level: so is the sum itself
more-than-level : (e n l m : ℕ) → m ≡ min (e + n) 18446744073709551615 → l < m → l < e + n
more-than-level e n l m is more = omega arith

-- a sum that stops at the greatest number and is within the level is the sum itself
within-level : (e n l m : ℕ) → m ≡ min (e + n) 18446744073709551615 → m ≤ l → l < 4294967296 → e + n ≤ l
within-level e n l m is few fits = omega arith

-- whose turn it is
first-there : (w : ℕ) (r : Rising) → r.turn < length r.queue.items → get_or r.queue.items r.turn 0 ≡ w → member w r.queue.items ≡ true
first-there w r l first = subst (λ (y : ℕ). member y r.queue.items ≡ true) first (member-get_or r.queue.items r.turn 0 l)

-- Whose turn it is waits first. Its list was read, and all ahead of it were found; nothing else was asked.
record HasLooked (update : Update) (level : ℕ) (shown : Shown) (r : Rising) (w : ℕ) (row : List ℕ) (ahead : Ahead) : Type 0 where
  first : get_or r.queue.items r.turn 0 ≡ w
  tidy : IsTidyRising update shown r
  read : has_list shown.kept w ≡ true
  has : (y : ℕ) → member y row ≡ (member y (list_of shown.kept w) || joins update w y)
  ahead_is : (s : Ranked) → update.v < s.graph.size → Agrees shown.kept s → IsAheadOf (search_with update level s) w ahead

-- so it is once all neighbours were looked at
has-looked : (g : Over) (c : In_ok-look_from g)
    → HasLooked c.args.search.update c.args.search.level (g.V.View.shown c.look_from.new.view) c.args.self.now c.get-w.result
    c.fill_row.new.row.items c.look_from.new.self
has-looked g c =
    let update = c.args.search.update in
    let r = c.args.self.now in
    let w = c.get-w.result in
    let filled = g.V.View.shown c.fill_row.new.view in
    let one = c.fill_row.ensures.goes_on in
    let two = c.look_from.ensures.goes_on in
    let e = c.in_ok-fill_row.ensures in
    let o = c.in_ok-look_from.ensures in
    let first : w ≡ get_or r.queue.items r.turn 0 = c.get-w.ensures in
    let asks : AsksQueued update filled.kept r.queue.items =
    e.asks r.queue.items c.requires.tidy.asks (inr (first-there w r c.requires.turn (sym first))) in
    record {
      first = sym first;
      tidy =
          tidy-view update filled (g.V.View.shown c.look_from.new.view) r
          (tidy-view update (g.V.View.shown c.args.view.now) filled r c.requires.tidy one.lasts.same_size one.further asks)
          two.lasts.same_size two.further (o.asks r.queue.items asks);
      read = still_has_list _ _ w two.further e.told.told;
      has = λ y. e.has y ∙ ap (λ xs. member y xs || joins update w y) (sym (same_list _ _ w two.further e.told.told));
      ahead_is = λ s l a.
          let same = c.deref.ensures.value in
          ahead-of filled.kept s update c.args.search.level filled.size w c.deref.result.now c.look_from.new.self (answers-agreed _ _ s two.further a) l
          e.told.told
          (subst (IsListOf filled.size w) (sym same) e.row) (λ y. ap (member y) same ∙ e.has y) (o.count s a) (o.next s a);
    }

pub fill_row-requires-clause-vertex : goal.fill_row-requires-clause-vertex
fill_row-requires-clause-vertex g c =
    let r : Rising = c.args.self.now in
    let first : c.get-w.result ≡ get_or r.queue.items r.turn 0 = c.get-w.ensures in
    c.requires.tidy.within c.get-w.result (first-there c.get-w.result r c.requires.turn (sym first))

pub raise-requires-clause-read : goal.raise-requires-clause-read
raise-requires-clause-read g c = (has-looked g (goal.at.raise-requires-clause-read g c).In_ok-look_from).read

pub raise-requires-clause-tidy : goal.raise-requires-clause-tidy
raise-requires-clause-tidy g c = (c.args.search.update, (has-looked g (goal.at.raise-requires-clause-tidy g c).In_ok-look_from).tidy)

pub returns-then-saturating_add-search-clause-goes_on : goal.returns-then-saturating_add-search-clause-goes_on
returns-then-saturating_add-search-clause-goes_on g c =
    GoesOn-trans _ _ _ (GoesOn-trans _ _ _ c.fill_row.ensures.goes_on c.look_from.ensures.goes_on) c.raise.ensures.goes_on

pub returns-then-saturating_add-search-clause-tidy : goal.returns-then-saturating_add-search-clause-tidy
returns-then-saturating_add-search-clause-tidy g c =
    on_ok_weaker c.raise.result
    (λ still. still c.args.search.update (has-looked g (goal.at.returns-then-saturating_add-search-clause-tidy g c).In_ok-look_from).tidy)
    c.raise.ensures.tidy

pub returns-then-saturating_add-search-clause-turns : goal.returns-then-saturating_add-search-clause-turns
returns-then-saturating_add-search-clause-turns g c = on_ok_weaker c.raise.result (λ raised. λ s root lv a wd b.
    raised c.args.search.update c.args.search.level s root a wd
    (more-than-level c.earlier_of-earlier.result c.look_from.new.self.count c.args.search.level c.saturating_add.result c.saturating_add.ensures
    c.if-saturating_add-search.true)
    ((has-looked g (goal.at.returns-then-saturating_add-search-clause-turns g c).In_ok-look_from).ahead_is s lv
    (answers-agreed _ _ s c.raise.ensures.goes_on.further a))
    b) c.raise.ensures.raised

pub settle-requires-clause-read : goal.settle-requires-clause-read
settle-requires-clause-read g c = (has-looked g (goal.at.settle-requires-clause-read g c).In_ok-look_from).read

pub settle-requires-clause-has : goal.settle-requires-clause-has
settle-requires-clause-has g c = (has-looked g (goal.at.settle-requires-clause-has g c).In_ok-look_from).has

pub settle-requires-clause-tidy : goal.settle-requires-clause-tidy
settle-requires-clause-tidy g c = (has-looked g (goal.at.settle-requires-clause-tidy g c).In_ok-look_from).tidy

pub returns-then-earlier-gt0-clause-goes_on : goal.returns-then-earlier-gt0-clause-goes_on
returns-then-earlier-gt0-clause-goes_on g c =
    GoesOn-trans _ _ _ (GoesOn-trans _ _ _ c.fill_row.ensures.goes_on c.look_from.ensures.goes_on) c.settle.ensures.goes_on

pub returns-then-earlier-gt0-clause-turns : goal.returns-then-earlier-gt0-clause-turns
returns-then-earlier-gt0-clause-turns g c = on_ok_weaker c.settle.result (λ settled. λ s root lv a wd b.
    let found =
    (has-looked g (goal.at.returns-then-earlier-gt0-clause-turns g c).In_ok-look_from).ahead_is s lv
    (answers-agreed _ _ s c.settle.ensures.goes_on.further a) in
    let few =
    within-level c.earlier_of-earlier.result c.look_from.new.self.count c.args.search.level c.saturating_add.result c.saturating_add.ensures
    c.if-saturating_add-search.false (search rules) in
    settled s root a wd (omega (arith, few, found.count, c.earlier_of-earlier.ensures)) b) c.settle.ensures.settled

pub returns-clause-tidy : goal.returns-clause-tidy
returns-clause-tidy g c =
    let k = has-looked g (goal.at.returns-clause-tidy g c).In_ok-look_from in
    leave-tidy c.args.search.update (g.V.View.shown c.look_from.new.view) c.get-w.result
    (record { earlier = 0; later = 0; turn = 0; is_candidate = false; is_weak = false }) c.args.self.now c.leave.new.self k.tidy
    (subst (λ (m : Mark). LeavesQueue c.get-w.result m c.args.self.now c.leave.new.self) c.past.ensures c.in_ok-leave.ensures) c.requires.turn k.first
    (λ e. absurd (false≢true e)) refl (λ _. k.read)

pub returns-clause-turns : goal.returns-clause-turns
returns-clause-turns g c = λ s root lv a wd b.
    let w = c.get-w.result in
    let k = has-looked g (goal.at.returns-clause-turns g c).In_ok-look_from in
    let under =
    within-level c.earlier_of-earlier.result c.look_from.new.self.count c.args.search.level c.saturating_add.result c.saturating_add.ensures
    c.if-saturating_add-search.false (search rules) in
    pass-between (search_with c.args.search.update c.args.search.level s) root w c.args.self.now c.leave.new.self wd c.requires.tidy.orderly
    c.requires.turn k.first (subst (λ (m : Mark). LeavesQueue w m c.args.self.now c.leave.new.self) c.past.ensures c.in_ok-leave.ensures)
    (omega (arith, under, (k.ahead_is s lv a).count)) (omega (arith, c.if-earlier-gt0.false, c.earlier_of-earlier.ensures)) b
