-- What a keeper is made of, and what an update makes of it.
use Rattle.std.specs.Prelude.{◌≡◌, ◌<◌, ◌≤◌, ◌+◌, ◌*◌, ℕ, Bool, length}
use Rattle.kc_graph.specs.Lawful.{Ranked, IsCertified}
use Rattle.kc_graph.specs.Plans.{is_applied, updated}
use Rattle.kc_graph.specs.declared.plan.Plan.{Plan}
use Rattle.kc_graph.specs.declared.update.Update.{Update}
use Rattle.kc_table.specs.Log.{PassSeen, TableName}
use Rattle.kc_words.specs.declared.layout.TheConstants.{LAST_VERSION, VERTICES}
use Rattle.kc_order.specs.Writers.{IsHighest}
use Rattle.kc_levels.specs.Levels.{size_of}
use Rattle.kc_levels.specs.declared.levels.TheConstants.{LAST_NUMBER}
use Rattle.kc_journal.specs.Entering.{IsCurrent, MayEnter}
use Rattle.kc_journal.specs.Journals.{Journalled}
use Rattle.kc_journal.specs.declared.answer.EnterFault.{EnterFault}
use Rattle.kc_journal.specs.declared.answer.EnterFault.TheVariants.{Full, Stale, Spent, NoMemory}

-- The words are those of the journal's table, the pass is told of them, and there are marks for each vertex.
pub record FitTogether (words : TableName) (j : Journalled) (pass : PassSeen) (marks : ℕ) : Type 0 where
  pub table : j.levels.table ≡ words
  pub told : pass.table ≡ words
  pub marks_are : marks ≡ size_of j.levels

-- The update's edge is there now, or is not, the numbers are certified, and the answer tells whether the graph changed.
pub record IsUpdated (update : Update) (old new : Ranked) (applied : Bool) : Type 0 where
  pub graph : new.graph ≡ updated update old.graph
  pub applied_is : applied ≡ is_applied update old.graph
  pub certified : IsCertified new

-- Why an update is not entered: the numbers of entries are spent, or the versions of the table's words, or there is no memory.
abbrev pub MayRefuse : Journalled → EnterFault → Type 0
MayRefuse j (Full entries) = LAST_NUMBER ≤ length j.entries
MayRefuse j (Stale vertex edges used now) = ⊥
MayRefuse j (Spent highest needed) = IsHighest j.levels.table j.levels.log highest × (LAST_VERSION < highest + needed) × (needed ≤ 3 * VERTICES)
MayRefuse j NoMemory = Unit {0}

-- The plan is of the update, and may be entered as long as the journal stays as it is.
pub record IsPlanned (j : Journalled) (update : Update) (plan : Plan) : Type 0 where
  pub update_is : plan.update ≡ update
  pub may : MayEnter j plan
  pub current : IsCurrent j plan
