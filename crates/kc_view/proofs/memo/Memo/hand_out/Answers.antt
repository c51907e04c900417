-- All marks of what was kept are cleared, and so they are those of no answers.
use Rattle.std.proofs.Common.{rules, arith, ◌≡◌, ◌++◌, ℕ, List, drop, length, get_or, subst, sym, take}
use Rattle.kc_view.specs.Answers.{answers_in, nothing_answered}
use Rattle.kc_view.specs.Marks.{Marks, without_lists, without_places}
use Rattle.kc_view.specs.Memory.{Memory, keeping}
use Rattle.kc_view.proofs.Marked.{fresh-marks, list-overwritten, lists-clear, places-clear}
use Rattle.kc_view.proofs.memo.Memo.hand_out.Goals as goal

pub invariant_of-self : goal.invariant_of-self
invariant_of-self c =
    let listed : List ℕ = c.self.inside.listed.items in
    let placed : List ℕ = c.self.inside.placed.items in
    let m : Memory = keeping (length listed) (answers_in c.self.inside.used) in
    let lists-long : length c.unmark_lists.new.marks ≡ length listed = search rules in
    let places-long : length c.unmark_places.new.marks ≡ length placed = search rules in
    let lists-gone : (w : ℕ) → get_or c.unmark_lists.new.marks w 0 ≡ without_lists c.self.inside.used.edges.items listed w =
    λ w. search rules in
    let places-gone : (w : ℕ) → get_or c.unmark_places.new.marks w 0 ≡ without_places c.self.inside.used.places.items placed w =
    λ w. search rules in
    let none : answers_in c.replace.new.dest ≡ nothing_answered = search rules in
    let now = fresh-marks m.size c.unmark_lists.new.marks c.unmark_places.new.marks (answers_in c.replace.new.dest) none
    (lists-clear m listed placed c.self.invariant c.unmark_lists.new.marks lists-long lists-gone)
    (places-clear m listed placed c.self.invariant c.unmark_places.new.marks places-long places-gone) in
    let all-listed = list-overwritten c.self.inside.listed.len listed c.unmark_lists.new.marks (omega (arith, c.self.inside.listed.ok.0)) lists-long in
    let all-placed = list-overwritten c.self.inside.placed.len placed c.unmark_places.new.marks (omega (arith, c.self.inside.placed.ok.0)) places-long in
    subst (λ (xs : List ℕ). Marks (keeping (length xs) (answers_in c.replace.new.dest)) xs
    (take c.self.inside.placed.len (c.unmark_places.new.marks ++ drop (length c.unmark_places.new.marks) placed))) (sym all-listed)
    (subst (λ (xs : List ℕ). Marks (keeping (length c.unmark_lists.new.marks) (answers_in c.replace.new.dest)) c.unmark_lists.new.marks xs)
    (sym all-placed) now)
