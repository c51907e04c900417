-- The lines of the reply as JSON objects (RFC 8259). No string in them has a byte that is escaped.
use Rattle.std.specs.Prelude.{◌++◌, ℕ, List, [], ◌∷◌, Option, None, Some, codes, decimal, nat_eq, if◌then◌else◌}
use Rattle.std.specs.List.{flat_map}
use Rattle.kc_report.specs.Lines.{field}
use Rattle.kc_report.specs.declared.Line.{Line}
use Rattle.kc_report.specs.declared.Line.TheVariants.{Graph, Rounds, Batch}
use Rattle.kc_text.specs.Kinds.{name_of, number_of}
use Rattle.kc_text.specs.declared.refusal.Refusal.{Refusal}
use Rattle.kc_reply.specs.Facts.{Fact}
use Rattle.kc_reply.specs.Facts as fact
use Rattle.kc_reply.specs.declared.level_size.LevelSize.{LevelSize}
use Rattle.kc_reply.specs.declared.standing.Standing.{Standing}
use Rattle.kc_reply.specs.declared.standing.Standing.TheVariants.{Before, After, Same}

-- a number, or `null` where there is none
abbrev pub number_or_null : Option ℕ → List ℕ
number_or_null None = codes "null"
number_or_null (Some number) = decimal number

-- the last members of the object of a run's line, and its end
abbrev pub summary_end : ℕ → ℕ → List ℕ
summary_end edges top = field (codes ",\"edges\":") edges ++ field (codes ",\"top\":") top ++ codes "}\n"

-- `{"event":"graph","vertices":N,"edges":M,"top":T}`
abbrev pub graph_json : ℕ → ℕ → ℕ → List ℕ
graph_json vertices edges top = field (codes "{\"event\":\"graph\",\"vertices\":") vertices ++ summary_end edges top

-- `{"event":"rounds","rounds":R}`
abbrev pub rounds_json : ℕ → List ℕ
rounds_json rounds = field (codes "{\"event\":\"rounds\",\"rounds\":") rounds ++ codes "}\n"

-- the member that says how many changes of a batch were overruled, where some were
abbrev pub overruled_member : ℕ → List ℕ
overruled_member overruled = if nat_eq overruled 0 then [] else field (codes ",\"overruled\":") overruled

-- `{"event":"batch","batch":B,"added":A,"removed":R,"kept":K,"edges":M,"top":T}`, with `"overruled":O` before the edges where O is at least 1
abbrev pub batch_json : ℕ → ℕ → ℕ → ℕ → ℕ → ℕ → ℕ → List ℕ
batch_json number added removed kept overruled edges top =
    field (codes "{\"event\":\"batch\",\"batch\":") number ++ field (codes ",\"added\":") added ++ field (codes ",\"removed\":") removed
    ++ field (codes ",\"kept\":") kept ++ overruled_member overruled ++ summary_end edges top

-- the object of a run's line
abbrev pub summary_json : Line → List ℕ
summary_json (Graph vertices edges top) = graph_json vertices edges top
summary_json (Rounds rounds) = rounds_json rounds
summary_json (Batch number added removed kept overruled edges top) = batch_json number added removed kept overruled edges top

-- `{"event":"refused","batch":B,"line":L,"kind":K,"name":"NAME"}`
abbrev pub refused_json : ℕ → Refusal → List ℕ
refused_json batch refusal =
    field (codes "{\"event\":\"refused\",\"batch\":") batch ++ field (codes ",\"line\":") refusal.line
    ++ field (codes ",\"kind\":") (number_of refusal.kind) ++ codes ",\"name\":\"" ++ name_of refusal.kind ++ codes "\"}\n"

-- `{"event":"change","id":ID,"old":OLD,"new":NEW}`
abbrev pub change_json : ℕ → Option ℕ → Option ℕ → List ℕ
change_json id old new =
    field (codes "{\"event\":\"change\",\"id\":") id ++ (codes ",\"old\":" ++ number_or_null old) ++ (codes ",\"new\":" ++ number_or_null new)
    ++ codes "}\n"

-- an object of an event and an id: what stands before the id, and the id
abbrev pub id_json : List ℕ → ℕ → List ℕ
id_json opening id = opening ++ decimal id ++ codes "}\n"

-- `{"event":"core","id":ID,"core":K}`, with `null` for K where there is no such id
abbrev pub core_json : ℕ → Option ℕ → List ℕ
core_json id core = field (codes "{\"event\":\"core\",\"id\":") id ++ (codes ",\"core\":" ++ number_or_null core) ++ codes "}\n"

-- a comma, and a number
abbrev pub comma_number : ℕ → List ℕ
comma_number number = codes "," ++ decimal number

-- numbers with commas between them
abbrev pub numbers_json : List ℕ → List ℕ
numbers_json [] = []
numbers_json (number ∷ numbers) = decimal number ++ flat_map comma_number numbers

-- `{"event":"members","core":K,"ids":[ID,ID,..]}`
abbrev pub members_json : ℕ → List ℕ → List ℕ
members_json level ids =
    field (codes "{\"event\":\"members\",\"core\":") level ++ codes ",\"ids\":[" ++ numbers_json ids ++ codes "]}\n"

-- `{"core":K,"vertices":N}`
abbrev pub size_json : LevelSize → List ℕ
size_json size = field (codes "{\"core\":") size.core ++ field (codes ",\"vertices\":") size.vertices ++ codes "}"

-- a comma, and the object of a core number
abbrev pub comma_size : LevelSize → List ℕ
comma_size size = codes "," ++ size_json size

-- the objects of core numbers with commas between them
abbrev pub list_json : List LevelSize → List ℕ
list_json [] = []
list_json (size ∷ sizes) = size_json size ++ flat_map comma_size sizes

-- `{"event":"sizes","sizes":[{"core":K,"vertices":N},..]}`
abbrev pub sizes_json : List LevelSize → List ℕ
sizes_json sizes = codes "{\"event\":\"sizes\",\"sizes\":[" ++ list_json sizes ++ codes "]}\n"

-- where an id stands to another, and `null` where one of them is no id
abbrev pub standing_json : Option Standing → List ℕ
standing_json None = codes "null"
standing_json (Some Before) = codes "\"before\""
standing_json (Some After) = codes "\"after\""
standing_json (Some Same) = codes "\"same\""

-- `{"event":"order","first":A,"second":B,"order":"before"}`
abbrev pub order_json : ℕ → ℕ → Option Standing → List ℕ
order_json first second standing =
    field (codes "{\"event\":\"order\",\"first\":") first ++ field (codes ",\"second\":") second ++ (codes ",\"order\":" ++ standing_json standing)
    ++ codes "}\n"

-- the line that tells a fact
abbrev pub fact_json : Fact → List ℕ
fact_json (fact.Summary line) = summary_json line
fact_json (fact.Refused batch refusal) = refused_json batch refusal
fact_json (fact.Change id old new) = change_json id old new
fact_json (fact.Enter id) = id_json (codes "{\"event\":\"enter\",\"id\":") id
fact_json (fact.Leave id) = id_json (codes "{\"event\":\"leave\",\"id\":") id
fact_json (fact.Core id core) = core_json id core
fact_json (fact.Members level ids) = members_json level ids
fact_json (fact.Sizes sizes) = sizes_json sizes
fact_json (fact.Order first second standing) = order_json first second standing
