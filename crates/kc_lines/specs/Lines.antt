-- Lines of fields: with tabs between what they have, or as JSON objects.
use Rattle.std.specs.Prelude.{◌++◌, ℕ, List, [], ◌∷◌, codes, decimal}
use Rattle.std.specs.List.{flat_map}
use Rattle.kc_lines.specs.Fields.{KeyedLabel, Label, Number, Name}
use Rattle.kc_lines.specs.Json.{json_string}
use Rattle.kc_lines.specs.declared.format.Format.{Format}
use Rattle.kc_lines.specs.declared.format.Format.TheVariants.{Tabs, Json}

-- what a line begins with
abbrev pub opening : Format → List ℕ
opening Tabs = []
opening Json = codes "{"

-- what stands between two fields: a tab, or a comma
abbrev pub separator : Format → List ℕ
separator Tabs = 9 ∷ []
separator Json = codes ","

-- what a line ends with
abbrev pub ending : Format → List ℕ
ending Tabs = 10 ∷ []
ending Json = codes "}\n"

-- `"KEY":`
abbrev pub key_text : List ℕ → List ℕ
key_text key = codes "\"" ++ (key ++ codes "\":")

-- a number in decimal digits, and a name as it is, or as a string of JSON
abbrev pub label_text : Format → Label → List ℕ
label_text format (Number number) = decimal number
label_text Tabs (Name name) = name
label_text Json (Name name) = json_string name

-- a field: its number or name alone, or `"KEY":NUMBER` or `"KEY":"NAME"`
abbrev pub field_text : Format → KeyedLabel → List ℕ
field_text Tabs field = label_text Tabs field.label
field_text Json field = key_text field.key ++ label_text Json field.label

-- a field that stands behind another
abbrev pub later_text : Format → KeyedLabel → List ℕ
later_text format field = separator format ++ field_text format field

-- fields with separators between them
abbrev pub fields_text : Format → List KeyedLabel → List ℕ
fields_text format [] = []
fields_text format (field ∷ fields) = field_text format field ++ flat_map (later_text format) fields

-- a line of fields
abbrev pub line_text : Format → List KeyedLabel → List ℕ
line_text format fields = opening format ++ (fields_text format fields ++ ending format)
