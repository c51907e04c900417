-- The line that tells a fact has one newline, at its end.
use Rattle.std.proofs.Common.{◌≡◌, ◌==◌, ◌++◌, ◌||◌, ◌+◌, ◌/◌, ◌%◌, ℕ, zero, suc, Bool, true, false, cond, List, [], ◌∷◌, nat_eq, Option, Some, None}
use Rattle.std.proofs.Common.{refl, sym, ap, ap₂, ◌∙◌, arith, append_assoc, codes, decimal}
use Rattle.std.specs.Fmt.{digit_glyph, digits, digits_onto}
use Rattle.std.specs.List.{flat_map}
use Rattle.std.specs.Prelude.{nat_lt}
use Rattle.std.proofs.lemmas.Bool.{ne_eqb}
use Rattle.std.proofs.lemmas.List.Folds.{list_any-append}
use Rattle.kc_lists.specs.Lists.{member}
use Rattle.kc_text.specs.Kinds.{name_of, number_of, text_of}
use Rattle.kc_text.specs.declared.kind.Kind.{Kind}
use Rattle.kc_text.specs.declared.kind.Kind.TheVariants.{NotANumber, MissingField, ExtraField, NumberTooLarge, LoopInBatch, UpdateOutsideBatch}
use Rattle.kc_text.specs.declared.kind.Kind.TheVariants.{EdgeLineInBatch, TooManyVertices, TooManyEdgeLines, TooManyUpdates, TooManyBatches, TooLong}
use Rattle.kc_report.specs.Lines.{field, line_text, overruled_field}
use Rattle.kc_report.specs.declared.Line.{Line}
use Rattle.kc_report.specs.declared.Line.TheVariants as run
use Rattle.kc_reply.specs.Facts.{Fact}
use Rattle.kc_reply.specs.Facts as fact
use Rattle.kc_reply.specs.Json.{comma_number, comma_size, fact_json, list_json, number_or_null, numbers_json, overruled_member, size_json}
use Rattle.kc_reply.specs.Json.{standing_json, summary_end, summary_json}
use Rattle.kc_reply.specs.Texts.{IsOneLine, fact_text}
use Rattle.kc_reply.specs.Words.{blank_number, fact_words, number_field, size_words, standing_words}
use Rattle.kc_reply.specs.declared.level_size.LevelSize.{LevelSize}
use Rattle.kc_reply.specs.declared.reply_format.ReplyFormat.{ReplyFormat}
use Rattle.kc_reply.specs.declared.reply_format.ReplyFormat.TheVariants.{Words, Json}
use Rattle.kc_reply.specs.declared.standing.Standing.{Standing}
use Rattle.kc_reply.specs.declared.standing.Standing.TheVariants.{Before, After, Same}

-- Texts without a newline. ----------------------------------------------------------------------------------

-- no byte of a text is a newline
record IsBare (text : List ℕ) : Type 0 where
  none : member 10 text ≡ false

-- a text whose bytes are known
literal : (text : List ℕ) → member 10 text ≡ false → IsBare text
literal text none = record { none = none }

-- two texts, one behind the other
bare-append : (xs ys : List ℕ) → IsBare xs → IsBare ys → IsBare (xs ++ ys)
bare-append xs ys x y = record { none = list_any-append (nat_eq 10) xs ys ∙ ap₂ (λ (a b : Bool). a || b) x.none y.none }

-- the texts of several things
bare-each : {X : Type 0} (text : X → List ℕ) → ((x : X) → IsBare (text x)) → (xs : List X) → IsBare (flat_map text xs)
bare-each text each [] = literal [] refl
bare-each text each (x ∷ xs) = bare-append (text x) (flat_map text xs) (each x) (bare-each text each xs)

-- a digit is no newline
bare-glyph : (d : ℕ) → nat_eq 10 (digit_glyph false d) ≡ false
bare-glyph d = elim (nat_lt d 10) as (λ b. nat_eq 10 (cond b (48 + d) (87 + d)) ≡ false) [
  | true ↦ ne_eqb 10 (48 + d) (λ e. omega (arith, e))
  | false ↦ ne_eqb 10 (87 + d) (λ e. omega (arith, e))
]

-- nor is one of several
bare-onto : (k n : ℕ) (rest : List ℕ) → member 10 rest ≡ false → member 10 (digits_onto k 10 false n rest) ≡ false
bare-onto zero n rest none = none
bare-onto (suc k) n rest none =
    let more : List ℕ = digit_glyph false (n % 10) ∷ rest in
    let bare : member 10 more ≡ false = ap₂ (λ (a b : Bool). a || b) (bare-glyph (n % 10)) none in
    elim (n / 10 == 0) as (λ b. member 10 (cond b more (digits_onto k 10 false (n / 10) more)) ≡ false) [
      | true ↦ bare
      | false ↦ bare-onto k (n / 10) more bare
    ]

-- a number
bare-number : (n : ℕ) → IsBare (decimal n)
unfolding digits
bare-number n = literal (decimal n) (bare-onto 64 n [] refl)

-- a number with a text before it
bare-field : (label : List ℕ) (n : ℕ) → IsBare label → IsBare (label ++ decimal n)
bare-field label n l = bare-append label (decimal n) l (bare-number n)

-- the name of a kind of refusal
bare-name : (kind : Kind) → IsBare (name_of kind)
bare-name NotANumber = literal (name_of NotANumber) refl
bare-name MissingField = literal (name_of MissingField) refl
bare-name ExtraField = literal (name_of ExtraField) refl
bare-name NumberTooLarge = literal (name_of NumberTooLarge) refl
bare-name LoopInBatch = literal (name_of LoopInBatch) refl
bare-name UpdateOutsideBatch = literal (name_of UpdateOutsideBatch) refl
bare-name EdgeLineInBatch = literal (name_of EdgeLineInBatch) refl
bare-name TooManyVertices = literal (name_of TooManyVertices) refl
bare-name TooManyEdgeLines = literal (name_of TooManyEdgeLines) refl
bare-name TooManyUpdates = literal (name_of TooManyUpdates) refl
bare-name TooManyBatches = literal (name_of TooManyBatches) refl
bare-name TooLong = literal (name_of TooLong) refl

-- Lines. ----------------------------------------------------------------------------------------------------

-- a text, and a newline
line-of : (text : List ℕ) → IsBare text → IsOneLine (text ++ 10 ∷ [])
line-of text bare = record { line = text; ends = refl; once = bare.none }

-- a line behind a text
line-behind : (text rest : List ℕ) → IsBare text → IsOneLine rest → IsOneLine (text ++ rest)
line-behind text rest bare one = record {
  line = text ++ one.line;
  ends = ap (λ (t : List ℕ). text ++ t) one.ends ∙ sym (append_assoc text one.line (10 ∷ []));
  once = (bare-append text one.line bare (literal one.line one.once)).none;
}

-- the end of an object, and of those that end with a list or a string
closed : IsOneLine (codes "}\n")
closed = line-of (codes "}") (literal (codes "}") refl)

closed-list : IsOneLine (codes "]}\n")
closed-list = line-of (codes "]}") (literal (codes "]}") refl)

closed-string : IsOneLine (codes "\"}\n")
closed-string = line-of (codes "\"}") (literal (codes "\"}") refl)

-- Words. ----------------------------------------------------------------------------------------------------

-- a core number or a dash
bare-number_field : (number : Option ℕ) → IsBare (number_field number)
bare-number_field None = literal (codes " -") refl
bare-number_field (Some number) = bare-field (codes " ") number (literal (codes " ") refl)

bare-blank : (number : ℕ) → IsBare (blank_number number)
bare-blank number = bare-field (codes " ") number (literal (codes " ") refl)

bare-size_words : (size : LevelSize) → IsBare (size_words size)
bare-size_words size = bare-append (blank_number size.core) (blank_number size.vertices) (bare-blank size.core) (bare-blank size.vertices)

bare-standing_words : (standing : Option Standing) → IsBare (standing_words standing)
bare-standing_words None = literal (codes " -") refl
bare-standing_words (Some Before) = literal (codes " before") refl
bare-standing_words (Some After) = literal (codes " after") refl
bare-standing_words (Some Same) = literal (codes " same") refl

bare-overruled : (count : ℕ) → IsBare (overruled_field count)
bare-overruled count = elim (nat_eq count 0) as (λ b. IsBare (cond b [] (field (codes " overruled ") count))) [
  | true ↦ literal [] refl
  | false ↦ bare-field (codes " overruled ") count (literal (codes " overruled ") refl)
]

-- fields of a run's line, one behind another
bare-then : (front label : List ℕ) (n : ℕ) → IsBare front → IsBare label → IsBare (front ++ field label n)
bare-then front label n f l = bare-append front (field label n) f (bare-field label n l)

line-words : (summary : Line) → IsOneLine (line_text summary)
line-words (run.Graph vertices edges top) =
    let one : List ℕ = field (codes "graph vertices ") vertices in
    let two : List ℕ = one ++ field (codes " edges ") edges in
    line-of (two ++ field (codes " top ") top)
    (bare-then two (codes " top ") top
    (bare-then one (codes " edges ") edges (bare-field (codes "graph vertices ") vertices (literal (codes "graph vertices ") refl))
    (literal (codes " edges ") refl)) (literal (codes " top ") refl))
line-words (run.Rounds rounds) =
    line-of (field (codes "hindex rounds ") rounds) (bare-field (codes "hindex rounds ") rounds (literal (codes "hindex rounds ") refl))
line-words (run.Batch number added removed kept overruled edges top) =
    let a : List ℕ = field (codes "batch ") number in
    let b : List ℕ = a ++ field (codes " added ") added in
    let c : List ℕ = b ++ field (codes " removed ") removed in
    let d : List ℕ = c ++ field (codes " kept ") kept in
    let e : List ℕ = d ++ overruled_field overruled in
    let f : List ℕ = e ++ field (codes " edges ") edges in
    let bare-a : IsBare a = bare-field (codes "batch ") number (literal (codes "batch ") refl) in
    let bare-b : IsBare b = bare-then a (codes " added ") added bare-a (literal (codes " added ") refl) in
    let bare-c : IsBare c = bare-then b (codes " removed ") removed bare-b (literal (codes " removed ") refl) in
    let bare-d : IsBare d = bare-then c (codes " kept ") kept bare-c (literal (codes " kept ") refl) in
    let bare-e : IsBare e = bare-append d (overruled_field overruled) bare-d (bare-overruled overruled) in
    let bare-f : IsBare f = bare-then e (codes " edges ") edges bare-e (literal (codes " edges ") refl) in
    line-of (f ++ field (codes " top ") top) (bare-then f (codes " top ") top bare-f (literal (codes " top ") refl))

-- the line in words
words-line : (told : Fact) → IsOneLine (fact_words told)
words-line (fact.Summary summary) = line-words summary
words-line (fact.Refused batch refusal) =
    let a : List ℕ = codes "refused batch " ++ decimal batch in
    let b : List ℕ = a ++ (codes " line " ++ decimal refusal.line) in
    let kind : List ℕ = decimal (number_of refusal.kind) ++ codes " " in
    let bare-a : IsBare a = bare-field (codes "refused batch ") batch (literal (codes "refused batch ") refl) in
    let bare-b : IsBare b = bare-then a (codes " line ") refusal.line bare-a (literal (codes " line ") refl) in
    let bare-kind : IsBare (text_of refusal.kind) =
    bare-append kind (name_of refusal.kind)
    (bare-append (decimal (number_of refusal.kind)) (codes " ") (bare-number (number_of refusal.kind)) (literal (codes " ") refl))
    (bare-name refusal.kind) in
    line-of (b ++ (codes " kind " ++ text_of refusal.kind))
    (bare-append b (codes " kind " ++ text_of refusal.kind) bare-b
    (bare-append (codes " kind ") (text_of refusal.kind) (literal (codes " kind ") refl) bare-kind))
words-line (fact.Change id old new) =
    line-of ((decimal id ++ number_field old) ++ number_field new)
    (bare-append (decimal id ++ number_field old) (number_field new)
    (bare-append (decimal id) (number_field old) (bare-number id) (bare-number_field old)) (bare-number_field new))
words-line (fact.Enter id) = line-of (codes "enter " ++ decimal id) (bare-field (codes "enter ") id (literal (codes "enter ") refl))
words-line (fact.Leave id) = line-of (codes "leave " ++ decimal id) (bare-field (codes "leave ") id (literal (codes "leave ") refl))
words-line (fact.Core id core) =
    line-of ((codes "core " ++ decimal id) ++ number_field core)
    (bare-append (codes "core " ++ decimal id) (number_field core) (bare-field (codes "core ") id (literal (codes "core ") refl)) (bare-number_field core))
words-line (fact.Members level ids) =
    line-of ((codes "members " ++ decimal level) ++ flat_map blank_number ids)
    (bare-append (codes "members " ++ decimal level) (flat_map blank_number ids)
    (bare-field (codes "members ") level (literal (codes "members ") refl)) (bare-each blank_number bare-blank ids))
words-line (fact.Sizes sizes) =
    line-of (codes "sizes" ++ flat_map size_words sizes)
    (bare-append (codes "sizes") (flat_map size_words sizes) (literal (codes "sizes") refl) (bare-each size_words bare-size_words sizes))
words-line (fact.Order first second standing) =
    let a : List ℕ = codes "order " ++ decimal first in
    let b : List ℕ = a ++ blank_number second in
    line-of (b ++ standing_words standing)
    (bare-append b (standing_words standing)
    (bare-append a (blank_number second) (bare-field (codes "order ") first (literal (codes "order ") refl)) (bare-blank second))
    (bare-standing_words standing))

-- Objects. --------------------------------------------------------------------------------------------------

bare-nullable : (number : Option ℕ) → IsBare (number_or_null number)
bare-nullable None = literal (codes "null") refl
bare-nullable (Some number) = bare-number number

-- a member with a number or `null`, behind others
bare-member : (front label : List ℕ) (number : Option ℕ) → IsBare front → IsBare label → IsBare (front ++ (label ++ number_or_null number))
bare-member front label number f l =
    bare-append front (label ++ number_or_null number) f (bare-append label (number_or_null number) l (bare-nullable number))

bare-comma : (number : ℕ) → IsBare (comma_number number)
bare-comma number = bare-field (codes ",") number (literal (codes ",") refl)

bare-numbers : (numbers : List ℕ) → IsBare (numbers_json numbers)
bare-numbers [] = literal [] refl
bare-numbers (number ∷ numbers) =
    bare-append (decimal number) (flat_map comma_number numbers) (bare-number number) (bare-each comma_number bare-comma numbers)

bare-size_json : (size : LevelSize) → IsBare (size_json size)
bare-size_json size =
    let a : List ℕ = field (codes "{\"core\":") size.core in
    let b : List ℕ = a ++ field (codes ",\"vertices\":") size.vertices in
    bare-append b (codes "}")
    (bare-then a (codes ",\"vertices\":") size.vertices (bare-field (codes "{\"core\":") size.core (literal (codes "{\"core\":") refl))
    (literal (codes ",\"vertices\":") refl)) (literal (codes "}") refl)

bare-comma_size : (size : LevelSize) → IsBare (comma_size size)
bare-comma_size size = bare-append (codes ",") (size_json size) (literal (codes ",") refl) (bare-size_json size)

bare-list : (sizes : List LevelSize) → IsBare (list_json sizes)
bare-list [] = literal [] refl
bare-list (size ∷ sizes) = bare-append (size_json size) (flat_map comma_size sizes) (bare-size_json size) (bare-each comma_size bare-comma_size sizes)

bare-standing_json : (standing : Option Standing) → IsBare (standing_json standing)
bare-standing_json None = literal (codes "null") refl
bare-standing_json (Some Before) = literal (codes "\"before\"") refl
bare-standing_json (Some After) = literal (codes "\"after\"") refl
bare-standing_json (Some Same) = literal (codes "\"same\"") refl

bare-overruled_member : (count : ℕ) → IsBare (overruled_member count)
bare-overruled_member count = elim (nat_eq count 0) as (λ b. IsBare (cond b [] (field (codes ",\"overruled\":") count))) [
  | true ↦ literal [] refl
  | false ↦ bare-field (codes ",\"overruled\":") count (literal (codes ",\"overruled\":") refl)
]

-- the end of the object of a run's line
end-line : (edges top : ℕ) → IsOneLine (summary_end edges top)
end-line edges top =
    let a : List ℕ = field (codes ",\"edges\":") edges in
    line-behind (a ++ field (codes ",\"top\":") top) (codes "}\n")
    (bare-then a (codes ",\"top\":") top (bare-field (codes ",\"edges\":") edges (literal (codes ",\"edges\":") refl))
    (literal (codes ",\"top\":") refl)) closed

line-json : (summary : Line) → IsOneLine (summary_json summary)
line-json (run.Graph vertices edges top) =
    line-behind (field (codes "{\"event\":\"graph\",\"vertices\":") vertices) (summary_end edges top)
    (bare-field (codes "{\"event\":\"graph\",\"vertices\":") vertices (literal (codes "{\"event\":\"graph\",\"vertices\":") refl)) (end-line edges top)
line-json (run.Rounds rounds) =
    line-behind (field (codes "{\"event\":\"rounds\",\"rounds\":") rounds) (codes "}\n")
    (bare-field (codes "{\"event\":\"rounds\",\"rounds\":") rounds (literal (codes "{\"event\":\"rounds\",\"rounds\":") refl)) closed
line-json (run.Batch number added removed kept overruled edges top) =
    let a : List ℕ = field (codes "{\"event\":\"batch\",\"batch\":") number in
    let b : List ℕ = a ++ field (codes ",\"added\":") added in
    let c : List ℕ = b ++ field (codes ",\"removed\":") removed in
    let d : List ℕ = c ++ field (codes ",\"kept\":") kept in
    let bare-a : IsBare a = bare-field (codes "{\"event\":\"batch\",\"batch\":") number (literal (codes "{\"event\":\"batch\",\"batch\":") refl) in
    let bare-b : IsBare b = bare-then a (codes ",\"added\":") added bare-a (literal (codes ",\"added\":") refl) in
    let bare-c : IsBare c = bare-then b (codes ",\"removed\":") removed bare-b (literal (codes ",\"removed\":") refl) in
    let bare-d : IsBare d = bare-then c (codes ",\"kept\":") kept bare-c (literal (codes ",\"kept\":") refl) in
    line-behind (d ++ overruled_member overruled) (summary_end edges top)
    (bare-append d (overruled_member overruled) bare-d (bare-overruled_member overruled)) (end-line edges top)

-- an object that ends with an id
id-line : (opening : List ℕ) (id : ℕ) → IsBare opening → IsOneLine ((opening ++ decimal id) ++ codes "}\n")
id-line opening id bare = line-behind (opening ++ decimal id) (codes "}\n") (bare-field opening id bare) closed

-- the line as an object
json-line : (told : Fact) → IsOneLine (fact_json told)
json-line (fact.Summary summary) = line-json summary
json-line (fact.Refused batch refusal) =
    let a : List ℕ = field (codes "{\"event\":\"refused\",\"batch\":") batch in
    let b : List ℕ = a ++ field (codes ",\"line\":") refusal.line in
    let c : List ℕ = b ++ field (codes ",\"kind\":") (number_of refusal.kind) in
    let d : List ℕ = c ++ codes ",\"name\":\"" in
    let bare-a : IsBare a = bare-field (codes "{\"event\":\"refused\",\"batch\":") batch (literal (codes "{\"event\":\"refused\",\"batch\":") refl) in
    let bare-b : IsBare b = bare-then a (codes ",\"line\":") refusal.line bare-a (literal (codes ",\"line\":") refl) in
    let bare-c : IsBare c = bare-then b (codes ",\"kind\":") (number_of refusal.kind) bare-b (literal (codes ",\"kind\":") refl) in
    let bare-d : IsBare d = bare-append c (codes ",\"name\":\"") bare-c (literal (codes ",\"name\":\"") refl) in
    line-behind (d ++ name_of refusal.kind) (codes "\"}\n") (bare-append d (name_of refusal.kind) bare-d (bare-name refusal.kind)) closed-string
json-line (fact.Change id old new) =
    let a : List ℕ = field (codes "{\"event\":\"change\",\"id\":") id in
    let b : List ℕ = a ++ (codes ",\"old\":" ++ number_or_null old) in
    let bare-a : IsBare a = bare-field (codes "{\"event\":\"change\",\"id\":") id (literal (codes "{\"event\":\"change\",\"id\":") refl) in
    let bare-b : IsBare b = bare-member a (codes ",\"old\":") old bare-a (literal (codes ",\"old\":") refl) in
    line-behind (b ++ (codes ",\"new\":" ++ number_or_null new)) (codes "}\n")
    (bare-member b (codes ",\"new\":") new bare-b (literal (codes ",\"new\":") refl)) closed
json-line (fact.Enter id) = id-line (codes "{\"event\":\"enter\",\"id\":") id (literal (codes "{\"event\":\"enter\",\"id\":") refl)
json-line (fact.Leave id) = id-line (codes "{\"event\":\"leave\",\"id\":") id (literal (codes "{\"event\":\"leave\",\"id\":") refl)
json-line (fact.Core id core) =
    let a : List ℕ = field (codes "{\"event\":\"core\",\"id\":") id in
    let bare-a : IsBare a = bare-field (codes "{\"event\":\"core\",\"id\":") id (literal (codes "{\"event\":\"core\",\"id\":") refl) in
    line-behind (a ++ (codes ",\"core\":" ++ number_or_null core)) (codes "}\n")
    (bare-member a (codes ",\"core\":") core bare-a (literal (codes ",\"core\":") refl)) closed
json-line (fact.Members level ids) =
    let a : List ℕ = field (codes "{\"event\":\"members\",\"core\":") level in
    let b : List ℕ = a ++ codes ",\"ids\":[" in
    let bare-a : IsBare a = bare-field (codes "{\"event\":\"members\",\"core\":") level (literal (codes "{\"event\":\"members\",\"core\":") refl) in
    let bare-b : IsBare b = bare-append a (codes ",\"ids\":[") bare-a (literal (codes ",\"ids\":[") refl) in
    line-behind (b ++ numbers_json ids) (codes "]}\n") (bare-append b (numbers_json ids) bare-b (bare-numbers ids)) closed-list
json-line (fact.Sizes sizes) =
    line-behind (codes "{\"event\":\"sizes\",\"sizes\":[" ++ list_json sizes) (codes "]}\n")
    (bare-append (codes "{\"event\":\"sizes\",\"sizes\":[") (list_json sizes) (literal (codes "{\"event\":\"sizes\",\"sizes\":[") refl) (bare-list sizes))
    closed-list
json-line (fact.Order first second standing) =
    let a : List ℕ = field (codes "{\"event\":\"order\",\"first\":") first in
    let b : List ℕ = a ++ field (codes ",\"second\":") second in
    let c : List ℕ = codes ",\"order\":" ++ standing_json standing in
    let bare-a : IsBare a = bare-field (codes "{\"event\":\"order\",\"first\":") first (literal (codes "{\"event\":\"order\",\"first\":") refl) in
    let bare-b : IsBare b = bare-then a (codes ",\"second\":") second bare-a (literal (codes ",\"second\":") refl) in
    let bare-c : IsBare c = bare-append (codes ",\"order\":") (standing_json standing) (literal (codes ",\"order\":") refl) (bare-standing_json standing) in
    line-behind (b ++ c) (codes "}\n") (bare-append b c bare-b bare-c) closed

-- So it is in each format.
pub text-line : (format : ReplyFormat) (told : Fact) → IsOneLine (fact_text format told)
text-line Words told = words-line told
text-line Json told = json-line told
