-- What a line of the reply to a stream tells.
use Rattle.std.specs.Prelude.{ℕ, List, Option, Some}
use Rattle.kc_report.specs.declared.Line.{Line}
use Rattle.kc_text.specs.declared.refusal.Refusal.{Refusal}
use Rattle.kc_reply.specs.declared.level_size.LevelSize.{LevelSize}
use Rattle.kc_reply.specs.declared.reply_line.ReplyLine.{ReplyLine}
use Rattle.kc_reply.specs.declared.reply_line.ReplyLine.TheVariants as reply
use Rattle.kc_reply.specs.declared.standing.Standing.{Standing}

-- What a line tells: of the graph of the start or of a batch; of a batch that is dropped, by its number and its first refused line; the core number
-- of an id before and after a batch; an id that came into a core, and one that left it; the core number of an id; the ids of the core of a level;
-- how many vertices have each core number; and where one id stands to another.
pub data Fact : Type 0 where
  Summary : Line → Fact
  Refused : ℕ → Refusal → Fact
  Change : ℕ → Option ℕ → Option ℕ → Fact
  Enter : ℕ → Fact
  Leave : ℕ → Fact
  Core : ℕ → Option ℕ → Fact
  Members : ℕ → List ℕ → Fact
  Sizes : List LevelSize → Fact
  Order : ℕ → ℕ → Option Standing → Fact

-- what a line tells, behind its references
abbrev pub fact_of : ReplyLine → Fact
fact_of (reply.Summary summary) = Summary summary
fact_of (reply.Refused batch refusal) = Refused batch refusal
fact_of (reply.Change id before now) = Change id before (Some now)
fact_of (reply.Enter id) = Enter id
fact_of (reply.Leave id) = Leave id
fact_of (reply.Core id core) = Core id core
fact_of (reply.Members level ids) = Members level ids.now
fact_of (reply.Sizes sizes) = Sizes sizes.now
fact_of (reply.Order first second standing) = Order first second standing
