-- The lines of the reply in words, with a blank between two.
use Rattle.std.specs.Prelude.{◌++◌, ℕ, List, Option, None, Some, codes, decimal}
use Rattle.std.specs.List.{flat_map}
use Rattle.kc_report.specs.Lines.{line_text}
use Rattle.kc_text.specs.Kinds.{text_of}
use Rattle.kc_text.specs.declared.refusal.Refusal.{Refusal}
use Rattle.kc_reply.specs.Facts.{Fact}
use Rattle.kc_reply.specs.Facts as fact
use Rattle.kc_reply.specs.declared.level_size.LevelSize.{LevelSize}
use Rattle.kc_reply.specs.declared.standing.Standing.{Standing}
use Rattle.kc_reply.specs.declared.standing.Standing.TheVariants.{Before, After, Same}

-- a core number, or `-` where there is none
abbrev pub number_or_dash : Option ℕ → List ℕ
number_or_dash None = codes "-"
number_or_dash (Some number) = decimal number

-- a blank, and a core number or `-`
abbrev pub number_field : Option ℕ → List ℕ
number_field number = codes " " ++ number_or_dash number

-- a blank, and a number
abbrev pub blank_number : ℕ → List ℕ
blank_number number = codes " " ++ decimal number

-- `refused batch B line L kind K NAME`
abbrev pub refused_words : ℕ → Refusal → List ℕ
refused_words batch refusal =
    codes "refused batch " ++ decimal batch ++ (codes " line " ++ decimal refusal.line) ++ (codes " kind " ++ text_of refusal.kind) ++ codes "\n"

-- `ID OLD NEW`
abbrev pub change_words : ℕ → Option ℕ → Option ℕ → List ℕ
change_words id old new = decimal id ++ number_field old ++ number_field new ++ codes "\n"

-- a word and an id
abbrev pub id_words : List ℕ → ℕ → List ℕ
id_words word id = word ++ decimal id ++ codes "\n"

-- `core ID K`, with `-` for K where there is no such id
abbrev pub core_words : ℕ → Option ℕ → List ℕ
core_words id core = codes "core " ++ decimal id ++ number_field core ++ codes "\n"

-- `members K ID ID ..`
abbrev pub members_words : ℕ → List ℕ → List ℕ
members_words level ids = codes "members " ++ decimal level ++ flat_map blank_number ids ++ codes "\n"

-- ` K N`, where N vertices have the core number K
abbrev pub size_words : LevelSize → List ℕ
size_words size = blank_number size.core ++ blank_number size.vertices

-- `sizes K N K N ..`
abbrev pub sizes_words : List LevelSize → List ℕ
sizes_words sizes = codes "sizes" ++ flat_map size_words sizes ++ codes "\n"

-- where an id stands to another, and `-` where one of them is no id
abbrev pub standing_words : Option Standing → List ℕ
standing_words None = codes " -"
standing_words (Some Before) = codes " before"
standing_words (Some After) = codes " after"
standing_words (Some Same) = codes " same"

-- `order A B before`, `order A B after`, `order A B same` or `order A B -`
abbrev pub order_words : ℕ → ℕ → Option Standing → List ℕ
order_words first second standing = codes "order " ++ decimal first ++ blank_number second ++ standing_words standing ++ codes "\n"

-- the line that tells a fact
abbrev pub fact_words : Fact → List ℕ
fact_words (fact.Summary line) = line_text line
fact_words (fact.Refused batch refusal) = refused_words batch refusal
fact_words (fact.Change id old new) = change_words id old new
fact_words (fact.Enter id) = id_words (codes "enter ") id
fact_words (fact.Leave id) = id_words (codes "leave ") id
fact_words (fact.Core id core) = core_words id core
fact_words (fact.Members level ids) = members_words level ids
fact_words (fact.Sizes sizes) = sizes_words sizes
fact_words (fact.Order first second standing) = order_words first second standing
