-- The lines that a run writes about itself.
use Rattle.std.specs.Prelude.{◌==◌, ◌-◌, ℕ, zero, suc, List, [], ◌∷◌, ◌++◌, Option, None, Some, codes, nat_lt, if◌then◌else◌}
use Rattle.std.specs.Option.{option_or}
use Rattle.std.specs.Fmt.{decimal}
use Rattle.kc_text.specs.declared.kind.Kind.{Kind}
use Rattle.kc_text.specs.declared.kind.Kind.TheVariants.{NotANumber, MissingField, ExtraField, NumberTooLarge, LoopInBatch, UpdateOutsideBatch}
use Rattle.kc_text.specs.declared.kind.Kind.TheVariants.{EdgeLineInBatch, TooManyVertices, TooManyEdgeLines, TooManyUpdates, TooManyBatches, TooLong}
use Rattle.kc_text.specs.declared.refusal.Refusal.{Refusal}
use Rattle.kc_text.specs.Meaning.{Told}
use Rattle.kc_dialect.specs.FirstPairs.{first_pair}
use Rattle.kc_dialect.specs.declared.dialect.Dialect.{Dialect}
use Rattle.kc_dialect.specs.declared.dialect.TheConstants.Dialect.{PLAIN}
use Rattle.kc_dialect.specs.declared.dialect.Ids.{Ids}
use Rattle.kc_dialect.specs.declared.dialect.Ids.TheVariants.{Names, Numbers}
use Rattle.kc_dialect.specs.declared.signatures.Signature.{Signature}
use Rattle.kc_dialect.specs.declared.signatures.Signature.TheVariants.{Gzip, Bzip2, Xz, Zstd, Utf16Le, Utf16Be, MatrixMarket}
use Rattle.kc_dialect_read.specs.declared.fault.PlacedRefusal.{PlacedRefusal}
use Rattle.kc_head.specs.Foreign.{foreign_in}
use Rattle.kc_head.specs.Shown.{shown_place}
use Rattle.kc_head.specs.Sizes.{may_be_sizes}
use Rattle.kc_head.specs.declared.foreign.Foreign.{Foreign}
use Rattle.kc_head.specs.declared.foreign.Foreign.TheVariants.{BareReturns, Json, Marked, SizesFirst}
use Rattle.kc_state.specs.Sentences.{state_sentence}
use Rattle.kc_state.specs.declared.fault.StateFault.{StateFault}
use Rattle.kc_wishes.specs.Wishes.{GraphText}
use Rattle.kc_cores.specs.declared.input.FileFault.{FileFault}
use Rattle.kc_cores.specs.declared.input.FileFault.TheVariants.{Missing, Folder, Forbidden, Other}

-- what was found wrong with a line, and how it is mended
abbrev pub sentence_of : Kind → List ℕ
sentence_of NotANumber =
    codes "a field is not a whole number; see --ids, --separator, --columns and --skip, make of a bar a blank by tr '|' ' ', or begin a comment with #"
sentence_of MissingField = codes "the second id is missing; write two ids with a blank or a tab between them, or name what parts them by --separator"
sentence_of ExtraField =
    codes "there are more than two fields; name the columns of the two ids, as by --columns 1,2, or write an adjacency list as edges, one a line"
sentence_of NumberTooLarge = codes "an id is greater than 4294967295; number the vertices anew with smaller ids"
sentence_of LoopInBatch = codes "a change names one id twice; remove the line"
sentence_of UpdateOutsideBatch = codes "this is a change of a graph; cores takes edges alone, and kcore takes changes after a line batch"
sentence_of EdgeLineInBatch = codes "an edge stands after a line batch; cores takes edges alone, and kcore takes them before the batches"
sentence_of TooManyVertices = codes "with this line there are more different ids than cores takes; split the graph"
sentence_of TooManyEdgeLines = codes "with this line there are more edges than cores takes; remove repeated edges or split the graph"
sentence_of TooManyUpdates = codes "with this line there are more changes than cores takes; split them"
sentence_of TooManyBatches = codes "here a batch of changes begins; cores takes edges alone, and kcore takes batches"
sentence_of TooLong = codes "there are more bytes than cores takes; remove comments and repeated edges or split the graph"

-- the line that is meant, or the input as a whole
abbrev pub at_line : ℕ → List ℕ
at_line zero = codes "input"
at_line (suc n) = codes "line " ++ decimal (suc n)

-- what was found wrong in a column of a dialect, and how it is mended
abbrev pub column_sentence : Kind → List ℕ
column_sentence NotANumber =
    codes "the field is not a whole number; pass over a head by --skip, bad lines by --bad-lines skip, or see --ids, --separator and --columns"
column_sentence MissingField =
    codes "a column is missing; name the columns of the two ids by --columns, what parts them by --separator, or see --bad-lines skip"
column_sentence kind = sentence_of kind

-- the same where ids are names
abbrev pub name_sentence : Kind → List ℕ
name_sentence NotANumber =
    codes "the field is no name: it is empty, is not UTF-8, or has a blank or a control character; see --separator, --columns and --bad-lines skip"
name_sentence kind = column_sentence kind

-- what was found wrong in a column, by what the ids are
abbrev pub ids_sentence : Ids → Kind → List ℕ
ids_sentence Numbers kind = column_sentence kind
ids_sentence Names kind = name_sentence kind

-- the same of a text that is in a dialect, or in none
abbrev pub text_sentence : Option Dialect → Kind → List ℕ
text_sentence None kind = sentence_of kind
text_sentence (Some dialect) kind = ids_sentence dialect.ids kind

-- what is told of a file of another format, and how edges are made of it
abbrev pub format_sentence : Signature → List ℕ
format_sentence Gzip = codes "this is gzip; unpack it, as by zcat FILE | cores numbers"
format_sentence Bzip2 = codes "this is bzip2; unpack it, as by bzcat FILE | cores numbers"
format_sentence Xz = codes "this is xz; unpack it, as by xzcat FILE | cores numbers"
format_sentence Zstd = codes "this is zstd; unpack it, as by zstdcat FILE | cores numbers"
format_sentence Utf16Le = codes "this is UTF-16; make it UTF-8, as by iconv -f UTF-16 -t UTF-8 FILE | cores numbers"
format_sentence Utf16Be = codes "this is UTF-16; make it UTF-8, as by iconv -f UTF-16 -t UTF-8 FILE | cores numbers"
format_sentence MatrixMarket =
    codes "this is MatrixMarket; pass over its lines up to that of the sizes by --skip, and name the columns of the two ids by --columns 1,2"

-- what is told of a text that is no lines of a graph, and how edges are made of it
abbrev pub foreign_sentence : Foreign → List ℕ
foreign_sentence (Marked signature) = format_sentence signature
foreign_sentence Json = codes "this is JSON; make two columns of it, as by jq -r '[.source,.target]|@tsv' FILE | cores numbers"
foreign_sentence BareReturns = codes "the lines end in CR alone; make them newlines, as by tr '\\r' '\\n' < FILE | cores numbers"
foreign_sentence SizesFirst =
    codes "the first line of two ids may tell how many vertices and edges there are, and was read as an edge; pass over it by --skip, as by --skip 1"

-- what a text is that is no lines of a graph, as its head tells; where lines at the top are passed over, that is not asked
abbrev pub foreign : Option Dialect → List ℕ → Option Foreign
foreign None head = foreign_in head
foreign (Some dialect) head = if dialect.skip == 0 then foreign_in head else None

-- the first pair of numbers that a text with this head tells, where its ids are numbers
abbrev pub first_pair_by : Ids → Dialect → List ℕ → Option (ℕ × ℕ)
first_pair_by Numbers dialect head = first_pair dialect head
first_pair_by Names dialect head = None

-- the same of a text that is in a dialect, or in none
abbrev pub first_pair_in : Option Dialect → List ℕ → Option (ℕ × ℕ)
first_pair_in None head = first_pair PLAIN head
first_pair_in (Some dialect) head = first_pair_by dialect.ids dialect head

-- that a text which has told all this begins with sizes, where its first pair may be these
abbrev pub sizes_of_pair : Option (ℕ × ℕ) → Told → Option Foreign
sizes_of_pair None told = None
sizes_of_pair (Some pair) told = if may_be_sizes pair told then Some SizesFirst else None

-- what a text may be that was read as lines of a graph, and may be none, as its head and all that it has told say
abbrev pub remark_on : Option Dialect → List ℕ → Told → Option Foreign
remark_on dialect head told = option_or (foreign dialect head) (sizes_of_pair (first_pair_in dialect head) told)

-- the sentence for a text that is no lines of a graph, or else for a line of it
abbrev pub sentence_for : Option Foreign → Option Dialect → Kind → List ℕ
sentence_for (Some what) dialect kind = foreign_sentence what
sentence_for None dialect kind = text_sentence dialect kind

-- `FILE: `, where a file is named
abbrev pub in_file : Option (List ℕ) → List ℕ
in_file None = []
in_file (Some name) = name ++ codes ": "

-- `cores: FILE: SENTENCE`, where a text that was read as lines of a graph may be none
abbrev pub told_foreign : Option (List ℕ) → Option Foreign → List ℕ
told_foreign file None = []
told_foreign file (Some what) = codes "cores: " ++ (in_file file ++ (foreign_sentence what ++ 10 ∷ []))

-- Why the text of a graph is refused, and the head of the text.
pub record GraphRefusal : Type 0 where
  pub placed : PlacedRefusal
  pub head : List ℕ

-- `, column 5`
abbrev pub at_column : Option ℕ → List ℕ
at_column None = []
at_column (Some column) = codes ", column " ++ decimal column

-- `line 12, column 5`
abbrev pub at_place : PlacedRefusal → List ℕ
at_place placed = at_line placed.refusal.line ++ at_column placed.column

-- `cores: FILE: line 12, column 5: SENTENCE`
abbrev pub refused_front : GraphText → GraphRefusal → List ℕ
refused_front graph refusal =
    codes "cores: " ++ (in_file graph.file ++ (at_place refusal.placed ++ (codes ": "
    ++ (sentence_for (foreign graph.dialect refusal.head) graph.dialect refusal.placed.refusal.kind ++ 10 ∷ []))))

-- that line, and below it the refused line with a caret under the column, where one is meant and the line stands in the head of the text
abbrev pub refused_line : GraphText → GraphRefusal → List ℕ
refused_line graph refusal =
    refused_front graph refusal ++ shown_place refusal.head refusal.placed.refusal.line refusal.placed.column

-- what was found wrong with a line of a stream, and how it is mended
abbrev pub stream_sentence : Kind → List ℕ
stream_sentence NotANumber = codes "a field is not a whole number; write ids of decimal digits, or begin the line with # if it is a comment"
stream_sentence MissingField = codes "a number is missing; write two ids with a blank or a tab between them, or in a question ? ID, ? core K or ? order A B"
stream_sentence ExtraField = codes "there are too many fields; write two ids, batch alone, or in a question ? ID, ? core K, ? sizes or ? order A B"
stream_sentence UpdateOutsideBatch = codes "a change or a question stands before any line batch; write a line batch before it"
stream_sentence EdgeLineInBatch = codes "an edge stands after a line batch; begin the line with + or -"
stream_sentence kind = sentence_of kind

-- `cores: line 12: SENTENCE`, or `cores: FILE: line 12: SENTENCE` where the line is one of a file
abbrev pub stream_refused_line : Option (List ℕ) → Refusal → List ℕ
stream_refused_line file refusal =
    codes "cores: " ++ (in_file file ++ (at_line refusal.line ++ (codes ": " ++ (stream_sentence refusal.kind ++ 10 ∷ []))))

-- The line about a refused line of a stream behind so many lines of a file, if there is one. It has its number in the file where it is one of these,
-- and else its number in the stream.
abbrev pub refused_behind : Option (List ℕ) → ℕ → Refusal → List ℕ
refused_behind file lines refusal =
    if nat_lt lines refusal.line then stream_refused_line None (record refusal { line = refusal.line - lines }) else stream_refused_line file refusal

-- `cores: 3 batches were refused`
abbrev pub refused_batches_line : ℕ → List ℕ
refused_batches_line count =
    if count == 1 then codes "cores: 1 batch was refused\n" else codes "cores: " ++ (decimal count ++ codes " batches were refused\n")

-- `cores: FILE: line 7: the id stands in an earlier line; load a state as --save wrote it, or begin with edges by --from`
abbrev pub state_refused_line : List ℕ → StateFault → List ℕ
state_refused_line name fault =
    codes "cores: "
    ++ (name
    ++ (codes ": line "
    ++ (decimal fault.line
    ++ (codes ": " ++ (state_sentence fault.kind ++ codes "; load a state as --save wrote it, or begin with edges by --from\n")))))

-- why a file was not opened, in the words of the operating system
abbrev pub fault_sentence : FileFault → List ℕ
fault_sentence Missing = codes "No such file or directory"
fault_sentence Folder = codes "Is a directory"
fault_sentence Forbidden = codes "Permission denied"
fault_sentence Other = codes "The file can not be opened"

-- `cores: FILE: No such file or directory`
abbrev pub unopened_line : List ℕ → FileFault → List ℕ
unopened_line name fault = codes "cores: " ++ (name ++ (codes ": " ++ (fault_sentence fault ++ 10 ∷ [])))

-- where there is no memory for that line
abbrev pub unopened_short_line : List ℕ
unopened_short_line = codes "cores: the file can not be opened\n"

-- where the source fails
abbrev pub read_fault_line : List ℕ
read_fault_line = codes "cores: the input could not be read to its end\n"

-- where the sink of the lines fails
abbrev pub write_fault_line : List ℕ
write_fault_line = codes "cores: the output could not be written to its end\n"

-- where there is no memory
abbrev pub no_memory_line : List ℕ
no_memory_line = codes "cores: there is not enough memory for this graph\n"
