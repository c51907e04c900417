-- What was noted covers what is new, after an entry and after a publish.
use Rattle.std.proofs.Common.{◌≡◌, ℕ, ◌+◌, ◌-◌, ◌<◌, Bool, cond, List, length, refl, ap, sym, ◌∙◌, arith, get_or}
use Rattle.kc_lists.specs.Lists.{member as has}
use Rattle.kc_lists.proofs.Members.{not_member-append}
use Rattle.kc_graph.specs.Lawful.{Ranked}
use Rattle.kc_graph.specs.Plans.{moved_by}
use Rattle.kc_graph.specs.declared.plan.Moves.{Moves}
use Rattle.kc_graph.specs.declared.plan.Moves.TheVariants.{Kept, Plain, Rise, Fall}
use Rattle.kc_graph.specs.declared.plan.Plan.{Plan}
use Rattle.kc_cert.specs.Stands.{leaving, next_level}
use Rattle.kc_cert.proofs.Asking.{core-moved}
use Rattle.kc_cert.proofs.Holding.{length-renumbered}
use Rattle.kc_journal.specs.Answers.{IsEntered}
use Rattle.kc_journal.specs.Journals.{Journalled, ranked}
use Rattle.kc_journal.specs.declared.answer.Entered.{Entered}
use Rattle.kc_snapshot.specs.declared.member.Member.{Member}
use Rattle.kc_snapshot.specs.Histories.{last_list}
use Rattle.kc_published.specs.Showings.{Covers, Noted, Notes, BoardFollows}

-- moves keep the number of vertices
core-length : (moves : Moves) (s : Ranked) → length (moved_by moves s).core ≡ length s.core
core-length Kept s = refl
core-length Plain s = refl
core-length (Rise level rise shifts) s = length-renumbered rise.items (level + 1) s.core
core-length (Fall level fall) s = length-renumbered fall.items (level - 1) s.core

-- who leaves no level has the same number after the moves
covers-after : (old new : Noted) (list : List ℕ) (moves : Moves) (s : Ranked) (core : List ℕ) → Covers old list s.core → Notes old new (leaving moves)
    → core ≡ (moved_by moves s).core → Covers new list core
covers-after old new list moves s core covers notes is lacks v l none =
    let noted = notes lacks in
    let apart = not_member-append v old.vertices (leaving moves) (ap (has v) (sym noted.1) ∙ none) in
    let within : v < length s.core = omega (arith, l, ap length is, core-length moves s) in
    let stays : get_or core v 0 ≡ get_or s.core v 0 =
    ap (λ (xs : List ℕ). get_or xs v 0) is ∙ core-moved s moves v within ∙ ap (λ (b : Bool). cond b (next_level moves) (get_or s.core v 0)) apart.1 in
    covers noted.0 v within apart.0 ∙ sym stays

-- an entry moves what its plan says, which is noted
pub shows-entered : (old new : Journalled) (history : List Member) (noted noted' : Noted) (index : ℕ) (plan : Plan) (entered : Entered)
    → BoardFollows old history noted → IsEntered old new index plan entered → Notes noted noted' (leaving plan.moves) → BoardFollows new history noted'
shows-entered old new history noted noted' index plan entered shows is notes =
    let core : new.levels.core ≡ (moved_by plan.moves (ranked old)).core = ap (λ (s : Ranked). s.core) is.state in
    record {
      wide = shows.wide ∙ sym (ap length core ∙ core-length plan.moves (ranked old));
      covers = covers-after noted noted' (last_list history) plan.moves (ranked old) new.levels.core shows.covers notes core;
    }
