-- The fields of a line: numbers and names, each under a key.
use Rattle.std.specs.Prelude.{ℕ, List}
use Rattle.kc_lines.specs.declared.value.Value.{Value}
use Rattle.kc_lines.specs.declared.value.Value.TheVariants as value

-- what a field has: a number, or a name
pub data Label : Type 0 where
  Number : ℕ → Label
  Name : List ℕ → Label

-- what a value is, behind its reference
abbrev pub label_of : Value → Label
label_of (value.Number number) = Number number
label_of (value.Name name) = Name name.now

-- a field: its key, and what it has
pub record KeyedLabel : Type 0 where
  pub key : List ℕ
  pub label : Label

-- what a field has under this key
abbrev pub labelled : List ℕ → Label → KeyedLabel
labelled key label = record { key = key; label = label }

-- a number under this key
abbrev pub field : List ℕ → ℕ → KeyedLabel
field key number = labelled key (Number number)
