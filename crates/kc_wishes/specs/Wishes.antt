-- What the words of a run ask for.
use Rattle.std.specs.Prelude.{◌≡◌, ◌==◌, ◌^◌, ◌&&◌, ℕ, Bool, true, false, not, List, [], ◌∷◌, Option, Some, None, codes, length, nat_eq, nat_lt}
use Rattle.std.specs.Prelude.{◌-◌, find, is_some, nat_le, option_and_then, option_map, pos, if◌then◌else◌}
use Rattle.std.specs.Char.{digit_value}
use Rattle.std.specs.List.{after_first, before_first, list_all, list_any, position_or_len}
use Rattle.std.specs.Option.{option_map_or, option_to_list}
use Rattle.std.specs.Str.Parse.{digits_value, without_leading_plus}
use Rattle.std.specs.Str.{bytes_eq}
use Rattle.clap.specs.Faults.{fault_of}
use Rattle.clap.specs.Kinds.{IsAmong, Kinds}
use Rattle.clap.specs.Lexer.{usize_max}
use Rattle.clap.specs.Simple.{App, new_app, new_rule, on_top, subcommand_of, with_rule, with_subcommand}
use Rattle.clap.specs.Walk.{Row, Rule, Text, first_of, is_empty}
use Rattle.clap.specs.declared.builder.action.ArgAction.TheVariants.{Set, SetTrue}
use Rattle.clap.specs.declared.builder.value_parser.ValueParser.TheVariants.{Signed}
use Rattle.clap.specs.declared.error.kind.ErrorKind.{ErrorKind}
use Rattle.clap.specs.declared.error.kind.ErrorKind.TheVariants.{DisplayHelp, DisplayVersion, InvalidSubcommand, ValueValidation}
use Rattle.kc_dialect.specs.Names.{separator_of_name}
use Rattle.kc_dialect.specs.declared.dialect.BadLines.{BadLines}
use Rattle.kc_dialect.specs.declared.dialect.BadLines.TheVariants.{Skip, Stop}
use Rattle.kc_dialect.specs.declared.dialect.Dialect.{Dialect}
use Rattle.kc_dialect.specs.declared.dialect.Ids.{Ids}
use Rattle.kc_dialect.specs.declared.dialect.Ids.TheVariants as ids
use Rattle.kc_dialect.specs.declared.dialect.Separator.{Separator}
use Rattle.kc_dialect.specs.declared.dialect.Separator.TheVariants.{Blank, Comma, Semicolon, Tab}
use Rattle.kc_changes.specs.declared.show.Show.{Show}
use Rattle.kc_changes.specs.declared.show.Show.TheVariants.{Changes, Summary}
use Rattle.kc_stream.specs.declared.bad_lines.BadLines.{BadLines as StreamBadLines}
use Rattle.kc_stream.specs.declared.bad_lines.BadLines.TheVariants as on_bad
use Rattle.kc_reply.specs.declared.reply_format.ReplyFormat.{ReplyFormat}
use Rattle.kc_reply.specs.declared.reply_format.ReplyFormat.TheVariants as written
use Rattle.kc_watch.specs.declared.options.WatchOptions.{WatchOptions}
use Rattle.kc_queue.specs.declared.consumer.TheConstants.{WORKERS}
use Rattle.kc_threads.specs.declared.crew.TheConstants.{MOST_THREADS}
use Rattle.kc_lines.specs.declared.format.Format.{Format}
use Rattle.kc_lines.specs.declared.format.Format.TheVariants.{Json, Tabs}
use Rattle.kc_wishes.specs.declared.request.Task.{Task}
use Rattle.kc_wishes.specs.declared.request.Task.TheVariants.{Numbers, Sizes, Members, Edges, Layers, Order}

-- `--quiet`
abbrev pub quiet_flag : Rule
quiet_flag = record (new_rule (codes "quiet")) { long = Some (codes "quiet"); action = Some SetTrue }

-- the command of a task, which may be quiet, without the name of the file
abbrev pub quiet_command : Text → App
quiet_command name = with_rule (new_app name) quiet_flag

-- an option of this name that takes a value
abbrev pub value_option : Text → Rule
value_option name = record (new_rule name) { long = Some name; action = Some Set; value_names = 1 }

-- `--skip N`, with a number of 32 bits
abbrev pub skip_option : Rule
skip_option = record (value_option (codes "skip")) { parser = Some (Signed (pos 0) (pos 4294967295)) }

-- the command with the options of a dialect
abbrev pub with_dialect : App → App
with_dialect app =
    with_rule (with_rule (with_rule (with_rule app (value_option (codes "columns"))) (value_option (codes "separator"))) skip_option)
    (value_option (codes "bad-lines"))

-- `--format FORMAT`
abbrev pub format_option : Rule
format_option = value_option (codes "format")

-- `--output FILE`
abbrev pub output_option : Rule
output_option = value_option (codes "output")

-- the command of a task, with what is said of its output, without the name of the file
abbrev pub writing_command : Text → App
writing_command name = with_rule (with_rule (quiet_command name) format_option) output_option

-- `--ids KIND`
abbrev pub ids_option : Rule
ids_option = value_option (codes "ids")

-- `--threads N`, with a number of 32 bits
abbrev pub threads_option : Rule
threads_option = record (value_option (codes "threads")) { parser = Some (Signed (pos 0) (pos 4294967295)) }

-- the command of a task, which takes the name of a file
abbrev pub task_command : Text → App
task_command name =
    with_rule (with_rule (with_rule (with_dialect (writing_command name)) ids_option) threads_option) (new_rule (codes "FILE"))

-- The command that reads the words, without those of the tasks. The words are those after the program's name.
abbrev pub bare_command : App
bare_command =
    on_top (λ top. record top {
      has_version = true;
      no_binary_name = true;
      subcommand_required = true;
      arg_required_else_help = true;
      disable_help_subcommand = true;
    }) (new_app (codes "cores"))

-- `--core K`, with a number of 32 bits
abbrev pub core_option : Rule
core_option = record (new_rule (codes "core")) {
  long = Some (codes "core");
  action = Some Set;
  value_names = 1;
  parser = Some (Signed (pos 0) (pos 4294967295));
}

-- `--edges`
abbrev pub edges_flag : Rule
edges_flag = record (new_rule (codes "edges")) { long = Some (codes "edges"); action = Some SetTrue }

-- the command of the members of a core
abbrev pub members_command : App
members_command = with_rule (with_rule (task_command (codes "members")) core_option) edges_flag

-- the command with those of the vertices and the cores
abbrev pub with_cores : App
with_cores =
    with_subcommand (with_subcommand (with_subcommand bare_command (task_command (codes "numbers")).top) (task_command (codes "sizes")).top)
    members_command.top

-- the name of the certificate, which there must be
abbrev pub certificate_rule : Rule
certificate_rule = record (new_rule (codes "CERTIFICATE")) { required = true }

-- `--stream`
abbrev pub stream_flag : Rule
stream_flag = record (new_rule (codes "stream")) { long = Some (codes "stream"); action = Some SetTrue }

-- `--pieces FILE..`, with one name or more
abbrev pub pieces_option : Rule
pieces_option = record (value_option (codes "pieces")) { range = Some (record { start_inclusive = 1; end_inclusive = usize_max }) }

-- the command that checks a certificate, without the name of the file
abbrev pub certificate_command : App
certificate_command = with_rule (new_app (codes "check")) certificate_rule

-- the command that checks a certificate with the options about a stream, without what is said of a text that is read whole
abbrev pub sweep_command : App
sweep_command = with_rule (with_rule (with_dialect certificate_command) stream_flag) pieces_option

-- the command that checks a certificate
abbrev pub check_command : App
check_command = with_rule (with_rule sweep_command threads_option) (new_rule (codes "FILE"))

-- the command with those of all tasks
abbrev pub with_tasks : App
with_tasks = with_subcommand (with_subcommand with_cores (task_command (codes "layers")).top) (task_command (codes "order")).top

-- `--enter K`, with a number of 32 bits
abbrev pub enter_option : Rule
enter_option = record (value_option (codes "enter")) { parser = Some (Signed (pos 0) (pos 4294967295)) }

-- the command that answers a stream, without its options
abbrev pub stream_command : App
stream_command = new_app (codes "watch")

-- `--workers W`, with a number of 32 bits
abbrev pub workers_option : Rule
workers_option = record (value_option (codes "workers")) { parser = Some (Signed (pos 0) (pos 4294967295)) }

-- the command with the options about what a stream is answered
abbrev pub with_answers : App → App
with_answers app =
    with_rule (with_rule (with_rule (with_rule app (value_option (codes "show"))) enter_option) (value_option (codes "bad-lines"))) format_option

-- the command with the options about what stands in front of a stream
abbrev pub with_start : App → App
with_start app = with_rule (with_rule app (value_option (codes "from"))) (value_option (codes "load"))

-- `--every N`, with a number of 32 bits
abbrev pub every_option : Rule
every_option = record (value_option (codes "every")) { parser = Some (Signed (pos 0) (pos 4294967295)) }

-- the command with the options about the state that is saved
abbrev pub with_saving : App → App
with_saving app = with_rule (with_rule app (value_option (codes "save"))) every_option

-- the command that answers a stream
abbrev pub watch_command : App
watch_command = with_saving (with_start (with_answers (with_rule stream_command workers_option)))

-- the command that reads the words, with a command of its own for each task, for the check and for a stream
abbrev pub cores_command : App
cores_command = with_subcommand (with_subcommand with_tasks check_command.top) watch_command.top

-- The text of a graph: that of a file, or of standard input where no file is named, in a dialect where one is asked for. It is read by so many
-- threads, or by as many as there are processors where nothing is said of them.
pub record GraphText : Type 0 where
  pub file : Option Text
  pub dialect : Option Dialect
  pub threads : Option ℕ

-- A task for the graph of a text, and how its lines are written. Where it is quiet, the run tells nothing of itself once it is done.
pub record Query : Type 0 where
  pub task : Task
  pub graph : GraphText
  pub format : Format
  pub quiet : Bool

-- What stands in front of a stream: nothing, or the text of the file of this name, or the graph of the state in the file of this name.
pub data StreamStart : Type 0 where
  Unbegun : StreamStart
  BegunFrom : Text → StreamStart
  BegunFromState : Text → StreamStart

-- the file in front of a stream, if there is one
abbrev pub file_of : StreamStart → Option (List ℕ)
file_of Unbegun = None
file_of (BegunFrom name) = Some name
file_of (BegunFromState name) = Some name

-- The file that the state of a stream is saved to, and behind how many batches that is done anew: at the end alone where it is not said.
pub record SavingPlan : Type 0 where
  pub file : Text
  pub every : Option ℕ

-- The answer to a stream: what it is answered, what stands in front of it, and where its state is saved, if it is.
pub record StreamQuery : Type 0 where
  pub options : WatchOptions
  pub start : StreamStart
  pub save : Option SavingPlan

-- What words ask for: a task for a graph; or the same, whose lines become the file of this name; or the check of a certificate of this name
-- for the graph of a text; or the same for an ascending stream of files, one after another, or of standard input; or the answer to a stream. Or
-- they ask for help or the version, or are not right: then there is a reply of one of these kinds, as those of `clap`.
pub data Wish : Type 0 where
  Asks : Query → Wish
  Saves : Text → Query → Wish
  Checks : Text → GraphText → Wish
  ChecksStream : Text → List Text → Wish
  Watches : StreamQuery → Wish
  Replies : Kinds → Wish

-- whether a text has digits alone, at least one, and its number is one of 32 bits
abbrev pub is_number : Text → Bool
is_number ds = nat_lt 0 (length ds) && list_all (λ d. nat_lt (digit_value d) 10) ds && nat_lt (digits_value 10 ds) (2 ^ 32)

-- the number that a text is, before which there may be a plus sign
abbrev pub number_of : Text → Option ℕ
number_of text = if is_number (without_leading_plus text) then Some (digits_value 10 (without_leading_plus text)) else None

-- a number from 1 to `most`
abbrev pub counted_from_one : ℕ → Text → Option ℕ
counted_from_one most text = option_and_then (λ n. if nat_lt 0 n && nat_le n most then Some n else None) (number_of text)

-- by how many threads a text is read, where that is said
abbrev pub threads_in : Option Text → Option (Option ℕ)
threads_in None = Some None
threads_in (Some text) = option_map (λ n. Some n) (counted_from_one MOST_THREADS text)

-- the K of a K-core, where it is given; there is none where it is no number
abbrev pub level_in : Option Text → Option (Option ℕ)
level_in None = Some None
level_in (Some text) = option_map (λ k. Some k) (number_of text)

-- whether a flag with this value is given
abbrev pub is_set : Option Text → Bool
is_set None = false
is_set (Some text) = bytes_eq text (codes "true")

-- the members of a core, or its edges
abbrev pub members_task : Bool → Option ℕ → Task
members_task edges level = if edges then Edges level else Members level

-- the task of the command `members` with these matches
abbrev pub members_in : List Row → Option Task
members_in rows = option_map (members_task (is_set (first_of (codes "edges") rows))) (level_in (first_of (codes "core") rows))

-- the task that a command of this name is for, with these matches
abbrev pub task_in : Text → List Row → Option Task
task_in name rows =
    if bytes_eq name (codes "numbers") then Some Numbers
    else if bytes_eq name (codes "sizes") then Some Sizes
    else if bytes_eq name (codes "members") then members_in rows
    else if bytes_eq name (codes "layers") then Some Layers
    else if bytes_eq name (codes "order") then Some Order
    else None

-- the file that a word names: `-` is standard input
abbrev pub file_named : Option Text → Option Text
file_named None = None
file_named (Some name) = if bytes_eq name (codes "-") then None else Some name

-- a comma
abbrev pub is_comma : ℕ → Bool
is_comma b = b == 44

-- two columns, which are different numbers from 1 on
abbrev pub both_columns : Option ℕ → Option ℕ → Option (ℕ × ℕ)
both_columns None b = None
both_columns (Some a) None = None
both_columns (Some a) (Some b) = if nat_lt 0 a && nat_lt 0 b && not (nat_eq a b) then Some (a, b) else None

-- the two columns that a text names, with a comma between them
abbrev pub columns_of : Text → Option (ℕ × ℕ)
columns_of text =
    if nat_lt (position_or_len is_comma text) (length text)
    then both_columns (number_of (before_first is_comma text)) (number_of (after_first is_comma text)) else None

-- the columns of the ids: the first two where none are named
abbrev pub columns_in : Option Text → Option (ℕ × ℕ)
columns_in None = Some (1, 2)
columns_in (Some text) = columns_of text

-- the separator of this name
abbrev pub separator_of : Text → Option Separator
separator_of text =
    if bytes_eq text (codes "blank") then Some Blank
    else if bytes_eq text (codes "comma") then Some Comma
    else if bytes_eq text (codes "semicolon") then Some Semicolon
    else if bytes_eq text (codes "tab") then Some Tab
    else None

-- the separator that the name of a file tells, if there is one
abbrev pub separator_of_file : Option Text → Separator
separator_of_file None = Blank
separator_of_file (Some name) = separator_of_name name

-- what parts the fields: where that is not said, the name of the file tells it
abbrev pub separator_in : Option Text → Option Text → Option Separator
separator_in None file = Some (separator_of_file file)
separator_in (Some text) file = separator_of text

-- how many lines at the top are passed over
abbrev pub skip_in : Option Text → Option ℕ
skip_in None = Some 0
skip_in (Some text) = number_of text

-- what becomes of bad lines, by this word
abbrev pub bad_lines_of : Text → Option BadLines
bad_lines_of text = if bytes_eq text (codes "stop") then Some Stop else if bytes_eq text (codes "skip") then Some Skip else None

-- what becomes of bad lines: they end the reading where nothing else is said
abbrev pub bad_lines_in : Option Text → Option BadLines
bad_lines_in None = Some Stop
bad_lines_in (Some text) = bad_lines_of text

-- what ids are, by this word
abbrev pub ids_of : Text → Option Ids
ids_of text = if bytes_eq text (codes "numbers") then Some ids.Numbers else if bytes_eq text (codes "names") then Some ids.Names else None

-- what ids are: numbers where nothing else is said
abbrev pub ids_in : Option Text → Option Ids
ids_in None = Some ids.Numbers
ids_in (Some text) = ids_of text

-- the dialect of these parts, where there is each of them
abbrev pub dialect_of : Option (ℕ × ℕ) → Option Separator → Option ℕ → Option BadLines → Option Ids → Option Dialect
dialect_of (Some columns) (Some separator) (Some skip) (Some bad) (Some kind) =
    Some (record { columns = columns; separator = separator; skip = skip; bad_lines = bad; ids = kind })
dialect_of _ _ _ _ _ = None

-- whether fields are parted by blanks
abbrev pub is_blank_between : Separator → Bool
is_blank_between Blank = true
is_blank_between _ = false

-- whether neither an option nor the name of the file tells a dialect
abbrev pub tells_none : Option Text → Option Text → Option Text → Option Text → Option Text → Option Text → Bool
tells_none None None None None None file = is_blank_between (separator_of_file file)
tells_none _ _ _ _ _ file = false

-- The dialect that the values of the options `--columns`, `--separator`, `--skip`, `--bad-lines` and `--ids` and the name of the file tell, if
-- they tell one. There is nothing where a value is not right.
abbrev pub dialect_by : Option Text → Option Text → Option Text → Option Text → Option Text → Option Text → Option (Option Dialect)
dialect_by columns separator skip bad kind file =
    if tells_none columns separator skip bad kind file then Some None
    else option_map (λ d. Some d) (dialect_of (columns_in columns) (separator_in separator file) (skip_in skip) (bad_lines_in bad) (ids_in kind))

-- the text of a file in a dialect, read by so many threads, where both are right
abbrev pub text_with : Option Text → Option (Option Dialect) → Option (Option ℕ) → Option GraphText
text_with file None threads = None
text_with file (Some dialect) None = None
text_with file (Some dialect) (Some threads) = Some (record { file = file; dialect = dialect; threads = threads })

-- the text of a graph of a file, by the matches of a command
abbrev pub text_by : Option Text → List Row → Option GraphText
text_by file rows =
    text_with file (dialect_by (first_of (codes "columns") rows) (first_of (codes "separator") rows) (first_of (codes "skip") rows)
    (first_of (codes "bad-lines") rows) (first_of (codes "ids") rows) file) (threads_in (first_of (codes "threads") rows))

-- the text of a graph, by the matches of a command
abbrev pub text_in : List Row → Option GraphText
text_in rows = text_by (file_named (first_of (codes "FILE") rows)) rows

-- the format of this name
abbrev pub format_of : Text → Option Format
format_of text = if bytes_eq text (codes "tsv") then Some Tabs else if bytes_eq text (codes "json") then Some Json else None

-- how lines are written: with tabs where nothing else is said
abbrev pub format_in : Option Text → Option Format
format_in None = Some Tabs
format_in (Some text) = format_of text

-- the task of a command whose lines become the file of this name, or are written where none is named
abbrev pub wish_to : Option Text → Query → Wish
wish_to None query = Asks query
wish_to (Some name) query = Saves name query

-- what a command for a task and a text asks for, by the format of its lines and the file that they become
abbrev pub wish_for : Option Task → Option GraphText → Option Format → Option Text → Bool → Wish
wish_for None graph format output quiet = Replies (InvalidSubcommand ∷ [])
wish_for (Some task) None format output quiet = Replies (ValueValidation ∷ [])
wish_for (Some task) (Some graph) None output quiet = Replies (ValueValidation ∷ [])
wish_for (Some task) (Some graph) (Some format) output quiet =
    wish_to output (record { task = task; graph = graph; format = format; quiet = quiet })

-- all values of an argument, by the matches of a command
abbrev pub all_of : Text → List Row → List Text
all_of id rows = option_map_or (λ (r : Row). r.values) (find (λ (r : Row). bytes_eq r.id id) rows) []

-- the check of a certificate for an ascending stream, which is in no dialect, and of whose threads nothing is said
abbrev pub stream_wish : Text → Option Text → Option Dialect → Option ℕ → Wish
stream_wish name file None None = ChecksStream name (option_to_list file)
stream_wish name file None (Some threads) = Replies (ValueValidation ∷ [])
stream_wish name file (Some dialect) threads = Replies (ValueValidation ∷ [])

-- whether the name of a file tells another separator than blanks
abbrev pub tells_separator : Text → Bool
tells_separator name = not (is_blank_between (separator_of_name name))

-- whether nothing is said of a text but its file
abbrev pub tells_file_alone : GraphText → Bool
tells_file_alone graph = not (is_some graph.dialect) && not (is_some graph.threads)

-- whether words ask for no other text than those of these files, and nothing else is said of these
abbrev pub are_pieces : GraphText → Bool → List Text → Bool
are_pieces graph stream files = not stream && not (is_some graph.file) && tells_file_alone graph && not (list_any tells_separator files)

-- the check of a certificate for an ascending stream in files, where no other text is asked for
abbrev pub pieces_wish : Text → GraphText → Bool → List Text → Wish
pieces_wish name graph stream files = if are_pieces graph stream files then ChecksStream name files else Replies (ValueValidation ∷ [])

-- the check of a certificate for the graph of a text, or for the text as an ascending stream, or for that of files
abbrev pub check_of : Text → GraphText → Bool → List Text → Wish
check_of name graph stream [] = if stream then stream_wish name graph.file graph.dialect graph.threads else Checks name graph
check_of name graph stream (file ∷ files) = pieces_wish name graph stream (file ∷ files)

-- what the command `check` asks for, by the name of the certificate, the text of a graph, whether it is a stream, and its files
abbrev pub check_wish : Option Text → Option GraphText → Bool → List Text → Wish
check_wish None graph stream files = Replies (InvalidSubcommand ∷ [])
check_wish (Some name) None stream files = Replies (ValueValidation ∷ [])
check_wish (Some name) (Some graph) stream files = check_of name graph stream files

-- what a command of this name for a text asks for, with these matches
abbrev pub wish_about : Text → List Row → Wish
wish_about name rows =
    if bytes_eq name (codes "check")
    then check_wish (first_of (codes "CERTIFICATE") rows) (text_in rows) (is_set (first_of (codes "stream") rows)) (all_of (codes "pieces") rows)
    else wish_for (task_in name rows) (text_in rows) (format_in (first_of (codes "format") rows)) (file_named (first_of (codes "output") rows))
    (is_set (first_of (codes "quiet") rows))

-- what is shown of core numbers, by this word
abbrev pub show_of : Text → Option Show
show_of text = if bytes_eq text (codes "summary") then Some Summary else if bytes_eq text (codes "changes") then Some Changes else None

-- what is shown of core numbers: no more than the summary where nothing else is said
abbrev pub show_in : Option Text → Option Show
show_in None = Some Summary
show_in (Some text) = show_of text

-- what becomes of bad lines of a stream, by this word
abbrev pub stream_bad_lines_of : Text → Option StreamBadLines
stream_bad_lines_of text =
    if bytes_eq text (codes "stop") then Some on_bad.Stop else if bytes_eq text (codes "batch") then Some on_bad.Batch else None

-- what becomes of bad lines of a stream: they end the answers where nothing else is said
abbrev pub stream_bad_lines_in : Option Text → Option StreamBadLines
stream_bad_lines_in None = Some on_bad.Stop
stream_bad_lines_in (Some text) = stream_bad_lines_of text

-- how the lines of a reply are written, by this word
abbrev pub reply_format_of : Text → Option ReplyFormat
reply_format_of text =
    if bytes_eq text (codes "text") then Some written.Words else if bytes_eq text (codes "json") then Some written.Json else None

-- how the lines of a reply are written: in words where nothing else is said
abbrev pub reply_format_in : Option Text → Option ReplyFormat
reply_format_in None = Some written.Words
reply_format_in (Some text) = reply_format_of text

-- by how many workers a batch of a stream may be made: by one where nothing else is said
abbrev pub workers_in : Option Text → Option ℕ
workers_in None = Some 1
workers_in (Some text) = counted_from_one WORKERS text

-- what a stream is to be answered, where all parts are right
abbrev pub options_of : Option Show → Option (Option ℕ) → Option StreamBadLines → Option ReplyFormat → Option ℕ → Option WatchOptions
options_of (Some show) (Some enter) (Some bad) (Some format) (Some workers) =
    Some (record { show = show; enter = enter; bad_lines = bad; format = format; workers = workers })
options_of _ _ _ _ _ = None

-- what a stream is to be answered, by the matches of the command
abbrev pub options_in : List Row → Option WatchOptions
options_in rows =
    options_of (show_in (first_of (codes "show") rows)) (level_in (first_of (codes "enter") rows))
    (stream_bad_lines_in (first_of (codes "bad-lines") rows)) (reply_format_in (first_of (codes "format") rows))
    (workers_in (first_of (codes "workers") rows))

-- what stands in front of a stream, by the name of a file that is not standard input, which brings the stream
abbrev pub begun_by : (Text → StreamStart) → Text → Option StreamStart
begun_by start name = if bytes_eq name (codes "-") then None else Some (start name)

-- what stands in front of a stream, by the name of a text and that of a state: not both are given
abbrev pub start_in : Option Text → Option Text → Option StreamStart
start_in None None = Some Unbegun
start_in (Some name) None = begun_by (λ file. BegunFrom file) name
start_in None (Some name) = begun_by (λ file. BegunFromState file) name
start_in (Some name) (Some other) = None

-- behind how many batches the state of a stream is saved anew, where that is said: at least one
abbrev pub every_in : Option Text → Option (Option ℕ)
every_in None = Some None
every_in (Some text) = option_map (λ n. Some n) (counted_from_one (2 ^ 32 - 1) text)

-- the state is saved to this file, and not to standard output, so often
abbrev pub saved_to : Text → Option (Option ℕ) → Option (Option SavingPlan)
saved_to name None = None
saved_to name (Some every) = if bytes_eq name (codes "-") then None else Some (Some (record { file = name; every = every }))

-- where the state of a stream is saved: nowhere where no file is named, and then it is not said how often
abbrev pub save_in : Option Text → Option Text → Option (Option SavingPlan)
save_in None None = Some None
save_in None (Some every) = None
save_in (Some name) every = saved_to name (every_in every)

-- the answer to a stream of these parts, where there is each of them
abbrev pub stream_of : Option WatchOptions → Option StreamStart → Option (Option SavingPlan) → Option StreamQuery
stream_of (Some options) (Some start) (Some save) = Some (record { options = options; start = start; save = save })
stream_of _ _ _ = None

-- the answer to a stream, by the matches of the command
abbrev pub stream_in : List Row → Option StreamQuery
stream_in rows =
    stream_of (options_in rows) (start_in (first_of (codes "from") rows) (first_of (codes "load") rows))
    (save_in (first_of (codes "save") rows) (first_of (codes "every") rows))

-- what the command `watch` asks for
abbrev pub watch_wish : Option StreamQuery → Wish
watch_wish None = Replies (ValueValidation ∷ [])
watch_wish (Some query) = Watches query

-- what a command of this name with these matches asks for
abbrev pub wish_by : Text → List Row → Wish
wish_by name rows = if bytes_eq name (codes "watch") then watch_wish (stream_in rows) else wish_about name rows

-- what the command that was met asks for
abbrev pub wish_in : Option (Text × List Row) → Wish
wish_in None = Replies (InvalidSubcommand ∷ [])
wish_in (Some met) = wish_by met.0 met.1

-- what the words ask for
unfoldable pub wish_of : List Text → Wish
wish_of words = if is_empty (fault_of cores_command words) then wish_in (subcommand_of cores_command words) else Replies (fault_of cores_command words)

-- whether a reply is what was asked for: help or the version
abbrev pub is_shown : ErrorKind → Bool
is_shown DisplayHelp = true
is_shown DisplayVersion = true
is_shown _ = false

-- a reply that is what was asked for, or one that is not, is among those that there may be
abbrev pub MayReply : Bool → Wish → Type 0
MayReply shown (Asks query) = ⊥
MayReply shown (Saves name query) = ⊥
MayReply shown (Checks name graph) = ⊥
MayReply shown (ChecksStream name files) = ⊥
MayReply shown (Watches query) = ⊥
MayReply shown (Replies kinds) = (kind : ErrorKind) × IsAmong kind kinds × (is_shown kind ≡ shown)
