-- What answers a stream: the facts that are told, and the text of their lines.
use Rattle.std.specs.Prelude.{◌≡◌, ℕ, List, [], ◌∷◌, ◌++◌, Option, Some, None, is_some, if◌then◌else◌}
use Rattle.std.specs.FinSet as set
use Rattle.kc_graph.specs.SimpleGraph.{SimpleGraph}
use Rattle.kc_text.specs.declared.change.ChangeLine.{ChangeLine}
use Rattle.kc_text.specs.declared.line.TextLine.{TextLine}
use Rattle.kc_text.specs.declared.line.TextLine.TheVariants.{Nothing, Edge, Batch, Change, Wrong}
use Rattle.kc_text.specs.declared.refusal.Refusal.{Refusal}
use Rattle.kc_text.specs.Inputs.{EdgeBatch}
use Rattle.kc_text.specs.Meaning.{Told}
use Rattle.kc_batch_effects.specs.Batches.{added, kept, removed}
use Rattle.kc_report.specs.declared.Line.{Line}
use Rattle.kc_report.specs.declared.Line.TheVariants as run
use Rattle.kc_reply.specs.Facts.{Fact}
use Rattle.kc_reply.specs.Facts as fact
use Rattle.kc_reply.specs.Texts.{facts_text}
use Rattle.kc_reply.specs.declared.standing.Standing.TheVariants.{Before, After}
use Rattle.kc_changes.specs.Changed.{facts_behind}
use Rattle.kc_answers.specs.Answers.{answer_to}
use Rattle.kc_stream.specs.Asking.{stream_lines}
use Rattle.kc_stream.specs.Ended.{ended}
use Rattle.kc_stream.specs.Hearing.{Heard, hear, heard_at_end, nothing_heard}
use Rattle.kc_stream.specs.declared.question.Question.{Question}
use Rattle.kc_stream.specs.declared.question.Question.TheVariants.{Order}
use Rattle.kc_stream.specs.declared.stream_line.StreamLine.{StreamLine}
use Rattle.kc_stream.specs.declared.stream_line.StreamLine.TheVariants.{Tells, Asks}
use Rattle.kc_watch.specs.Accounts.{Account, account_of, account_of_start, batch_behind, core_number_in, core_numbers_of, layers_of, one_ended}
use Rattle.kc_watch.specs.Accounts.{top_of, with_batch}
use Rattle.kc_watch.specs.declared.options.WatchOptions.{WatchOptions}

-- the line about the graph of the start
abbrev pub start_line : SimpleGraph → Line
start_line g = run.Graph g.size (set.len g.edges) (top_of g)

-- the line about a batch: what it does to the edges before it, and then the edges and the greatest core number of the graph after it
abbrev pub line_about : ℕ → SimpleGraph → EdgeBatch → SimpleGraph → Line
line_about number before batch after =
    run.Batch number (added before.edges batch.updates) (removed before.edges batch.updates) (kept before.edges batch.updates) batch.overruled
    (set.len after.edges) (top_of after)

-- What is told of a batch between two accounts: its line, and what is asked for of the ids whose core numbers it changes. It has nothing of the
-- numbers that stand for the ids but how many there are, so it is told of the graph of the ids.
abbrev pub batch_facts : WatchOptions → Account → EdgeBatch → Account → List Fact
batch_facts options before batch after =
    fact.Summary (line_about after.ended before.graph batch after.graph)
    ∷ facts_behind options.show options.enter (core_number_in before) (core_number_in after) after.ids

-- what is told of the part that is open, as it ends: the start, or the last batch
abbrev pub part_facts : WatchOptions → List (ℕ × ℕ) → List (List ChangeLine) → Option (List ChangeLine) → List Fact
part_facts options edges earlier None = fact.Summary (start_line (account_of_start edges).graph) ∷ []
part_facts options edges earlier (Some changes) =
    batch_facts options (account_of edges earlier) (batch_behind (account_of edges earlier) changes) (with_batch (account_of edges earlier) changes)

-- what is told of what is open once lines have told this
abbrev pub open_facts : WatchOptions → Told → List Fact
open_facts options told = part_facts options told.edges told.earlier told.last

-- that a batch is refused, with its number among all batches and its first refused line
abbrev pub refused_fact : Told → Refusal → Fact
refused_fact told refusal = fact.Refused (one_ended (account_of told.edges told.earlier).ended) refusal

-- What is told of what is open as it ends, once lines have told this. Of a batch that is dropped it is that it is refused: such a batch is counted
-- among all batches as one that has ended.
abbrev pub ending_facts : WatchOptions → Option Refusal → Told → List Fact
ending_facts options None told = open_facts options told
ending_facts options (Some refusal) told = refused_fact told refusal ∷ []

-- What a line that tells is answered once others have told this: a batch line ends what stands before it, and others are answered nothing.
abbrev pub told_facts : WatchOptions → Option Refusal → Told → TextLine → List Fact
told_facts options dropped told Nothing = []
told_facts options dropped told (Edge a b) = []
told_facts options dropped told Batch = ending_facts options dropped told
told_facts options dropped told (Change c) = []
told_facts options dropped told (Wrong kind) = []

-- what answers a question behind an account, of its ids and of the core numbers and the layers of its graph
abbrev pub answer_in : Account → Question → Fact
answer_in account question = answer_to question account.ids (core_numbers_of account.graph) (layers_of account.graph)

-- the first of two ids stands before the second, whichever of them is asked for first
abbrev pub IsAnsweredBefore : Account → ℕ → ℕ → Type 0
IsAnsweredBefore account a b =
    (answer_in account (Order a b) ≡ fact.Order a b (Some Before)) × (answer_in account (Order b a) ≡ fact.Order b a (Some After))

-- What a question is answered once others have told this. It speaks of what has ended, the start and the batches before the last one, and not
-- of the one that is open. Before any batch line it is refused, and answered nothing.
abbrev pub question_facts : Told → Question → List Fact
question_facts told question = if is_some told.last then answer_in (account_of told.edges told.earlier) question ∷ [] else []

-- what a line is answered once others have told this
abbrev pub line_facts : WatchOptions → Option Refusal → Told → StreamLine → List Fact
line_facts options dropped told (Tells line) = told_facts options dropped told line
line_facts options dropped told (Asks question) = question_facts told question

-- what a line is answered behind others: nothing where one of them ends the reading
abbrev pub answer_facts : WatchOptions → Heard → StreamLine → List Fact
answer_facts options heard line = if is_some heard.refusal then [] else line_facts options heard.dropped heard.told line

-- what lines are answered, one after another
abbrev pub answers_facts : WatchOptions → Heard → List StreamLine → List Fact
answers_facts options heard [] = []
answers_facts options heard (line ∷ lines) = answer_facts options heard line ++ answers_facts options (hear options.bad_lines heard line) lines

-- what the end of the stream is answered: what is open ends too, but for what is open at a line that ends the reading
abbrev pub end_facts : WatchOptions → Heard → List Fact
end_facts options heard = if is_some heard.refusal then [] else ending_facts options heard.dropped heard.told

-- What has to be told once just these bytes of a stream have come, and others may follow: the bytes behind the last newline may be a part of a
-- line. No fact of it depends on the format.
abbrev pub reply_facts : WatchOptions → List ℕ → List Fact
reply_facts options bytes = answers_facts options nothing_heard (stream_lines (ended bytes))

-- what has to be told once these bytes have come, and the stream has ended
abbrev pub facts_at_end : WatchOptions → List ℕ → List Fact
facts_at_end options bytes = answers_facts options nothing_heard (stream_lines bytes) ++ end_facts options (heard_at_end options.bad_lines bytes)

-- The text of what is told. ---------------------------------------------------------------------------------

-- the text of facts, in the format that is asked for
abbrev pub told_in : WatchOptions → List Fact → List ℕ
told_in options facts = facts_text options.format facts

-- the text of a batch between two accounts
abbrev pub batch_text : WatchOptions → Account → EdgeBatch → Account → List ℕ
batch_text options before batch after = told_in options (batch_facts options before batch after)

-- the text of what is open once lines have told this
abbrev pub open_text : WatchOptions → Told → List ℕ
open_text options told = told_in options (open_facts options told)

-- the text of what is open as it ends, be it dropped or not
abbrev pub ending_text : WatchOptions → Option Refusal → Told → List ℕ
ending_text options dropped told = told_in options (ending_facts options dropped told)

-- the text that a question is answered
abbrev pub question_answer : WatchOptions → Told → Question → List ℕ
question_answer options told question = told_in options (question_facts told question)

-- the text that a line is answered behind others
abbrev pub answer_behind : WatchOptions → Heard → StreamLine → List ℕ
answer_behind options heard line = told_in options (answer_facts options heard line)

-- the text that lines are answered, one after another
abbrev pub answers_behind : WatchOptions → Heard → List StreamLine → List ℕ
answers_behind options heard lines = told_in options (answers_facts options heard lines)

-- the text that the end of the stream is answered
abbrev pub end_answer : WatchOptions → Heard → List ℕ
end_answer options heard = told_in options (end_facts options heard)

-- What has to be written once just these bytes of a stream have come, and others may follow.
abbrev pub reply : WatchOptions → List ℕ → List ℕ
reply options bytes = told_in options (reply_facts options bytes)

-- What has to be written once these bytes have come, and the stream has ended.
abbrev pub reply_at_end : WatchOptions → List ℕ → List ℕ
reply_at_end options bytes = told_in options (facts_at_end options bytes)
