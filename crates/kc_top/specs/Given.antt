-- Where the bytes of a run's input come from.
use Rattle.std.specs.Prelude.{not, ℕ, Bool, false, List, Option, None, Some, is_some}
use Rattle.kc_report.specs.Generator.{generated}
use Rattle.kc_output.specs.declared.setting.Setting.{Setting}

-- the bytes of the input, where they are known: the text that is generated for the number, and without one what the source tells
abbrev pub generated_or : Option ℕ → Option (List ℕ) → Option (List ℕ)
generated_or None told = told
generated_or (Some number) told = Some (generated number)

-- the bytes of the input, where they are known, as the words ask for it
abbrev pub given : Option Setting → Option (List ℕ) → Option (List ℕ)
given None told = told
given (Some setting) told = generated_or setting.generator told

-- the bytes of the input of a source whose bytes are known
abbrev pub generated_or_bytes : Option ℕ → List ℕ → List ℕ
generated_or_bytes None bytes = bytes
generated_or_bytes (Some number) bytes = generated number

-- the bytes of the input as the words ask for it, where those of the source are known
abbrev pub input_bytes : Option Setting → List ℕ → List ℕ
input_bytes None bytes = bytes
input_bytes (Some setting) bytes = generated_or_bytes setting.generator bytes

-- whether the source is read: the words are right, and ask for no generated text
abbrev pub reads : Option Setting → Bool
reads None = false
reads (Some setting) = not (is_some setting.generator)
