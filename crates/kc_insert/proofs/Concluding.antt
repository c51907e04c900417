-- All turns were taken: the candidates rise.
use Rattle.std.proofs.Common.{◌≡◌, ◌<◌, ◌⊎◌, ◌++◌, ℕ, min, true, false, List, [], length, get_or, sym, ◌∙◌, ap, subst, inl, inr, arith, Vec, Global}
use Rattle.std.specs.Prelude.{All}
use Rattle.std.proofs.lemmas.List.{drop_all}
use Rattle.std.proofs.lemmas.List.Elements.{All-weaker}
use Rattle.kc_lists.specs.Lists.{member}
use Rattle.kc_lists.proofs.Counting.{member-filter}
use Rattle.kc_lists.proofs.Members.{member-append}
use Rattle.kc_graph.specs.SimpleGraph.{adjacent}
use Rattle.kc_graph.specs.Lawful.{Ranked, IsCertified}
use Rattle.kc_graph.specs.declared.update.Update.{Update}
use Rattle.kc_graph.specs.declared.used.Used.{Used}
use Rattle.kc_graph.specs.declared.plan.Moves.TheVariants.{Plain, Rise}
use Rattle.kc_cert.specs.Local.{IsLocal, firsts, seconds}
use Rattle.kc_cert.specs.Ranks.{AscendsBy}
use Rattle.kc_cert.proofs.Placing.{Ascends-filter}
use Rattle.kc_view.specs.Answers.{Answers, has_list}
use Rattle.kc_view.specs.Search.{Search}
use Rattle.kc_view.specs.Sure.{IsSparing, InForward, AsksOneList, root_of}
use Rattle.kc_view.specs.Views.{Shown}
use Rattle.kc_view.proofs.Fronts.{take-member}
use Rattle.kc_insert.specs.Added.{search_with}
use Rattle.kc_insert.specs.Rising.{is_candidate, earlier_at, later_at, cands, waiting, IsOrderly, IsTidyRising}
use Rattle.kc_insert.specs.Searching.{BetweenTurns}
use Rattle.kc_insert.specs.Sure.{AskForward}
use Rattle.kc_insert.specs.Turns.{IsBetweenTurns}
use Rattle.kc_insert.specs.declared.rising.Rising.{Rising}
use Rattle.kc_insert.proofs.Sureness.{plain-sure, rise-sure, reached-forward}
use Rattle.kc_insert.proofs.Tidy.{left-queued, named-candidate, named-weak, named-anchor}
use Rattle.kc_insert.proofs.Widening.{state-widened}

-- each candidate on the list of these was queued
listed-queued : (r : Rising) (x : ℕ) → member x (cands r) ≡ true → member x r.queue.items ≡ true
listed-queued r x m = (member-filter (is_candidate r) x r.queue.items m).0

-- whoever was shifted was found too weak
shifted-weak : (r : Rising) (x : ℕ) → IsOrderly r → member x (firsts r.shifts.items) ≡ true → member x r.seen.weak.items ≡ true
shifted-weak r x o m = take-member (length r.shifts.items) r.seen.weak.items x (sym (ap (member x) o.shifted) ∙ m)

-- candidates and those that were shifted were queued
pub moved-queued : (r : Rising) (x : ℕ) → IsOrderly r → member x (cands r ++ firsts r.shifts.items) ≡ true → member x r.queue.items ≡ true
moved-queued r x o m = elim (member-append x (cands r) (firsts r.shifts.items) m) [
  | inl k ↦ listed-queued r x k
  | inr k ↦ left-queued r x (o.weak_left x (shifted-weak r x o k))
]

-- once all turns were taken nobody waits
none-waits : (r : Rising) → r.turn ≡ length r.queue.items → waiting r ≡ []
none-waits r ended = drop_all r.turn r.queue.items (omega (arith, ended))

-- the lists of all that the moves name were read
pub named-read : (update : Update) (shown : Shown) (r : Rising) (x : ℕ) → IsTidyRising update shown r
    → member x ((cands r ++ firsts r.shifts.items) ++ seconds r.shifts.items) ≡ true → has_list shown.kept x ≡ true
named-read update shown r x t m = t.read x (elim (member-append x (cands r ++ firsts r.shifts.items) (seconds r.shifts.items) m) [
  | inl k ↦ elim (member-append x (cands r) (firsts r.shifts.items) k) [
    | inl c ↦ named-candidate r x (member-filter (is_candidate r) x r.queue.items c).1
    | inr f ↦ named-weak r x (shifted-weak r x t.orderly f)
  ]
  | inr k ↦ named-anchor r x k
])

-- What is known of a certified state that agrees, once the search is over: the edge is new there, and the search went from the end that
-- stands first, and stands between two turns.
pub record Concluded (update : Update) (s : Ranked) (level root : ℕ) (r : Rising) : Type 0 where
  pub certified : IsCertified s
  pub ends : update.v < s.graph.size
  pub is_new : adjacent s.graph update.u update.v ≡ false
  pub is_level : level ≡ min (get_or s.core update.u 0) (get_or s.core update.v 0)
  pub is_root : root ≡ root_of s update
  pub between : IsBetweenTurns (search_with update level s) root r

-- where the list of the lesser end alone was asked, this is all that may be
pub first-forward : (update : Update) (a : Answers) → AsksOneList a update.u → AskForward update a
first-forward update a asks = λ s h agrees.
    All-weaker (λ e. e.vertex ≡ update.u) (λ e. (e.vertex ≡ update.u) ⊎ InForward s update e.vertex) (λ e k. inl k) a.edges asks.lists

-- lists were asked only of the lesser end and of vertices that the new edge concerns
pub asked-forward : (update : Update) (shown : Shown) (s : Ranked) (level root : ℕ) (r : Rising) → update.add ≡ true
    → Concluded update s level root r → IsTidyRising update shown r → All (λ e. (e.vertex ≡ update.u) ⊎ InForward s update e.vertex) shown.kept.edges
asked-forward update shown s level root r adds k t =
    let w = state-widened update s level root k.certified k.ends k.is_new k.is_level k.is_root in
    let reached = k.between.1.lined.reached in
    All-weaker (λ e. (e.vertex ≡ update.u) ⊎ (member e.vertex r.queue.items ≡ true)) (λ e. (e.vertex ≡ update.u) ⊎ InForward s update e.vertex)
    (λ e in'. elim in' [
      | inl h ↦ inl h
      | inr h ↦ inr (reached-forward update s level root e.vertex adds (sym w.root_level) k.is_root (reached e.vertex h))
    ])
    shown.kept.edges t.asks.lists

-- once all turns were taken, what holds between turns holds with nobody in the queue
ended-turns : (s : Search) (root : ℕ) (r : Rising) → r.turn ≡ length r.queue.items → (b : IsBetweenTurns s root r)
    → BetweenTurns s root (cands r) [] b.0 (earlier_at r) (later_at r) r.shifts.items
ended-turns s root r ended b =
    subst (λ (xs : List ℕ). BetweenTurns s root (cands r) xs b.0 (earlier_at r) (later_at r) r.shifts.items) (none-waits r ended) b.1.turns

-- where nobody rises or is shifted, the plan without moves passes the local test and is sparing
pub nobody-sure : (update : Update) (used : Used) (s : Ranked) (level root : ℕ) (r : Rising) → update.add ≡ true
    → Concluded update s level root r → r.turn ≡ length r.queue.items → cands r ≡ [] → r.shifts.items ≡ []
    → IsLocal s (record { update = update; used = used; moves = Plain }) × IsSparing s (record { update = update; used = used; moves = Plain })
nobody-sure update used s level root r adds c ended none still =
    let k = ended-turns (search_with update level s) root r ended c.between in
    plain-sure update used s level root c.between.0 (earlier_at r) (later_at r) adds c.certified c.ends c.is_new c.is_level c.is_root
    (subst (λ (xs : List ℕ). BetweenTurns (search_with update level s) root xs [] c.between.0 (earlier_at r) (later_at r) []) none
    (subst (λ (xs : List (ℕ × ℕ)). BetweenTurns (search_with update level s) root (cands r) [] c.between.0 (earlier_at r) (later_at r) xs) still k))

-- where some rise or are shifted, the plan with these moves passes the local test and is sparing
pub some-sure : (update : Update) (used : Used) (s : Ranked) (level root : ℕ) (r : Rising) (rise : Vec ℕ Global) → update.add ≡ true
    → Concluded update s level root r → IsOrderly r → r.turn ≡ length r.queue.items → rise.items ≡ cands r
    → IsLocal s (record { update = update; used = used; moves = Rise level rise r.shifts })
    × IsSparing s (record { update = update; used = used; moves = Rise level rise r.shifts })
some-sure update used s level root r rise adds c o ended all =
    let q : Search = search_with update level s in
    let b = c.between in
    let k = ended-turns q root r ended b in
    rise-sure update used s level root b.0 (earlier_at r) (later_at r) rise r.shifts adds c.certified c.ends c.is_new c.is_level c.is_root
    (subst (λ (xs : List ℕ). BetweenTurns q root xs [] b.0 (earlier_at r) (later_at r) r.shifts.items) (sym all) k)
    (subst (AscendsBy q.rank) (sym all) (Ascends-filter q.rank (is_candidate r) r.queue.items b.1.lined.ascends))
    (λ x m. b.1.lined.reached x (moved-queued r x o (subst (λ (xs : List ℕ). member x (xs ++ firsts r.shifts.items) ≡ true) all m)))
