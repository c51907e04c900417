-- What a reader of ids was fed.
use Rattle.std.specs.Prelude.{◌≡◌, ℕ, List}
use Rattle.kc_dialect.specs.declared.dialect.Ids.{Ids}
use Rattle.kc_text.specs.Feeding.{WasFed}
use Rattle.kc_names.specs.Names.{names_of, as_numbers}
use Rattle.kc_names.specs.declared.id_reader.IdReader.{IdReader}

-- a reader was fed this plain text of numbers or of names: it has read the text of numbers for which that stands, and keeps the names
pub record WasFedIds (ids : Ids) (reader : IdReader) (fed : List ℕ) : Type 0 where
  pub names : reader.names ≡ names_of ids fed
  pub read : WasFed reader.reader (as_numbers ids fed)
