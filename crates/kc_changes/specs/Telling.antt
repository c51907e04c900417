-- Changes in the order in which their lines stand.
use Rattle.std.specs.Prelude.{◌≡◌, ℕ, List, Option, Some, All}
use Rattle.kc_changes.specs.Changed.{changed_ids, crossing_of, ids_in}
use Rattle.kc_changes.specs.declared.id_change.IdChange.{IdChange}
use Rattle.kc_reply.specs.Facts as fact
use Rattle.kc_reply.specs.Texts.{fact_text, facts_text}
use Rattle.kc_reply.specs.declared.reply_format.ReplyFormat.{ReplyFormat}

-- the line of the numbers of a change
abbrev pub change_text : ReplyFormat → IdChange → List ℕ
change_text format c = fact_text format (fact.Change c.id c.before (Some c.now))

-- the line of a change where it comes into the k-core or leaves it
abbrev pub crossing_text : ReplyFormat → ℕ → IdChange → List ℕ
crossing_text format k c = facts_text format (crossing_of k c.id c.before (Some c.now))

-- both numbers of a change are right
pub record HasBothNumbers (before after : ℕ → Option ℕ) (c : IdChange) : Type 0 where
  pub old : c.before ≡ before c.id
  pub new : Some c.now ≡ after c.id

-- the changes are those of the changed ids, in ascending order
pub record AreInOrder (before after : ℕ → Option ℕ) (ids : List ℕ) (changes : List IdChange) : Type 0 where
  pub are : ids_in changes ≡ changed_ids before after ids
  pub each : All (HasBothNumbers before after) changes
