-- Where a run stops: its status and its line.
use Rattle.std.specs.Prelude.{◌≡◌, ℕ, List, [], codes, IfSome, string_bytes, Result, Ok, Err, ⊤, Option}
use Rattle.kc_io.specs.Causes.{Rose}
use Rattle.kc_text.specs.declared.kind.Kind.{Kind}
use Rattle.kc_text.specs.declared.limits.TheConstants.Limits.{KCORE}
use Rattle.kc_text.specs.Meaning.{Refuses, meaning}
use Rattle.kc_top.specs.ErrLines.{refused_line, usage_line}
use Rattle.kc_top.specs.declared.Status.{Status}
use Rattle.kc_top.specs.declared.Status.TheVariants as status
use Rattle.kc_top.specs.declared.ending.Stop.{Stop}
use Rattle.kc_top.specs.declared.ending.Stop.TheVariants as stop

-- the status of a run that stops here
abbrev pub status_of : Stop → Status
status_of stop.Usage = status.Usage
status_of (stop.Refused line) = status.Refused
status_of stop.ReadFault = status.ReadFault
status_of stop.WriteFault = status.WriteFault
status_of stop.NoMemory = status.NoMemory

-- the line that tells where a run stops
abbrev pub stop_line : Stop → List ℕ
stop_line stop.Usage = usage_line
stop_line (stop.Refused line) = string_bytes line
stop_line stop.ReadFault = codes "read fault\n"
stop_line stop.WriteFault = codes "write fault\n"
stop_line stop.NoMemory = codes "no memory\n"

-- a refusal with its line, or want of memory for it
abbrev pub TellsRefusal : Stop → ℕ → Kind → Type 0
TellsRefusal (stop.Refused line) n kind = string_bytes line ≡ refused_line n kind
TellsRefusal stop.NoMemory n kind = ⊤
TellsRefusal stop.Usage n kind = ⊥
TellsRefusal stop.ReadFault n kind = ⊥
TellsRefusal stop.WriteFault n kind = ⊥

-- why bytes give no input: they are refused with this line, or there was no memory
abbrev pub IsRefusalOf : Stop → List ℕ → Type 0
IsRefusalOf (stop.Refused line) bytes = (n : ℕ) × (kind : Kind) × (string_bytes line ≡ refused_line n kind) × (meaning KCORE bytes ≡ Refuses n kind)
IsRefusalOf stop.NoMemory bytes = ⊤
IsRefusalOf stop.Usage bytes = ⊥
IsRefusalOf stop.ReadFault bytes = ⊥
IsRefusalOf stop.WriteFault bytes = ⊥

-- Why there is no text, where `input` are the bytes of the input if they are known. The source's count of faults rose at a read fault alone.
abbrev pub HasNoText : Stop → Option (List ℕ) → ℕ → ℕ → Type 0
HasNoText (stop.Refused line) input faults faults' =
    (n : ℕ) × (kind : Kind) × (string_bytes line ≡ refused_line n kind) × IfSome input (λ bytes. meaning KCORE bytes ≡ Refuses n kind) × (faults' ≡ faults)
HasNoText stop.ReadFault input faults faults' = Rose faults faults'
HasNoText stop.NoMemory input faults faults' = faults' ≡ faults
HasNoText stop.Usage input faults faults' = ⊥
HasNoText stop.WriteFault input faults faults' = ⊥

-- how a run ended that stopped here or not
abbrev pub ended : Result (Unit {0}) Stop → Status
ended (Ok u) = status.Done
ended (Err s) = status_of s

-- the last line of a run that stopped here or not: none where it did not
abbrev pub last_line : Result (Unit {0}) Stop → List ℕ
last_line (Ok u) = []
last_line (Err s) = stop_line s
