-- What is read from a source.
use Rattle.std.specs.Prelude.{◌≡◌, ◌+◌, ℕ, List, Option, IfSome, length}
use Rattle.std.specs.Io.KnownBytes.{Consumes}
use Rattle.kc_text.specs.Feeding.{WasFed}
use Rattle.kc_text.specs.Inputs.{IsInput, IsNamedEdges}
use Rattle.kc_text.specs.Meaning.{Means, Told, meaning}
use Rattle.kc_text.specs.declared.fault.ParseFault.{ParseFault}
use Rattle.kc_text.specs.declared.fault.ParseFault.TheVariants as parse
use Rattle.kc_text.specs.declared.input.Input.{Input}
use Rattle.kc_text.specs.declared.limits.Limits.{Limits}
use Rattle.kc_text.specs.declared.named_edges.NamedEdges.{NamedEdges}
use Rattle.kc_text.specs.declared.text_reader.TextReader.{TextReader}
use Rattle.kc_read.specs.declared.fault.InputFault.{InputFault}
use Rattle.kc_read.specs.declared.fault.InputFault.TheVariants as fault

-- the input is what the bytes mean within limits, which are all of what is known of them
pub record IsInputWithin (limits : Limits) (known : Option (List ℕ)) (input : Input) : Type 0 where
  pub bytes : List ℕ
  pub read : IfSome known (λ all. bytes ≡ all)
  pub told : Told
  pub means : meaning limits bytes ≡ Means told
  pub is : IsInput told input

-- the ids and the edges are those that the bytes tell within limits, which are all of what is known of them
pub record AreEdgesWithin (limits : Limits) (known : Option (List ℕ)) (listed : NamedEdges) : Type 0 where
  pub bytes : List ℕ
  pub read : IfSome known (λ all. bytes ≡ all)
  pub told : Told
  pub means : meaning limits bytes ≡ Means told
  pub are : IsNamedEdges told listed

-- why a source gives no input where its text gives none
abbrev pub fault_of : ParseFault → InputFault
fault_of (parse.Refused refusal) = fault.Refused refusal
fault_of parse.NoMemory = fault.NoMemory

-- the reader was fed just the bytes that a source gave, and the limits allow so many more
pub record HasFed (limits : Limits) (before after : Option (List ℕ)) (reader : TextReader) (left : ℕ) : Type 0 where
  pub given : List ℕ
  pub consumed : Consumes before after given
  pub fed : WasFed reader given
  pub room : left + length given ≡ limits.bytes
  pub same : reader.limits ≡ limits
