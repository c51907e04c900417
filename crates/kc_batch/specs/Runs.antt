-- How a journal goes on in a call, in one table or over several.
use Rattle.std.specs.Prelude.{◌≡◌, ◌<◌, ◌+◌, ◌*◌, ℕ, List, [], ◌∷◌}
use mathlib.Core.List.{IsPrefix}
use Rattle.kc_words.specs.declared.layout.TheConstants.{LAST_VERSION}
use Rattle.kc_table.specs.declared.view.Event.{Event}
use Rattle.kc_table.specs.Legal.{IsVersioned, version_of}
use Rattle.kc_table.specs.Log.{PassSeen, TableName, value_at}
use Rattle.kc_journal.specs.Journals.{Journalled, Renews, Stands, all_seen, fresh_pass}

-- The journal is of the same table with the same openings and start; its log and its entries go on from what they were.
pub record StaysIn (old new : Journalled) : Type 0 where
  pub table : new.levels.table ≡ old.levels.table
  pub opened : new.opened ≡ old.opened
  pub opening_stamps : new.opening_stamps ≡ old.opening_stamps
  pub started : new.started ≡ old.started
  pub log : IsPrefix old.levels.log new.levels.log
  pub entries : IsPrefix old.entries new.entries

-- The version of some word of an item or a group exceeds the last one less three times the number of vertices, which is what one update
-- may need.
pub record IsNearlySpent (table : TableName) (log : List Event) : Type 0 where
  pub word : ℕ
  pub versioned : IsVersioned table.shape word
  pub exceeds : LAST_VERSION < version_of (value_at table.opening log word) + 3 * table.shape.fixed

-- The journal went on in its table up to `end`, where versions were nearly spent and all was told to the pass `last`. Then the run was
-- renewed: the same state stands in a fresh table of version 0, as `next`.
pub record IsRenewal (old : Journalled) (last : PassSeen) (end next : Journalled) : Type 0 where
  pub stays : StaysIn old end
  pub stands : Stands end
  pub told : last ≡ all_seen end
  pub spent : IsNearlySpent end.levels.table end.levels.log
  pub renews : Renews end next 0 next.levels.table (fresh_pass next.levels.table)

-- The journal went on over as many tables more as there are passes, each of which has seen the whole log of a table that was ended.
abbrev pub WentOn : Journalled → List PassSeen → Journalled → Type 0
WentOn old [] new = StaysIn old new
WentOn old (last ∷ more) new = (end : Journalled) × (next : Journalled) × IsRenewal old last end next × WentOn next more new
