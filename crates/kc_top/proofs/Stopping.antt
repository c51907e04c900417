-- Why a run stops, and what it has written then.
use Rattle.std.proofs.Common.{◌≡◌, ◌≢◌, ◌<◌, ℕ, List, [], length, cond, ap, subst, arith}
use Rattle.std.proofs.Common.{lt-ltb, None, Some, IfSome, Option, refl}
use Rattle.std.specs.Io.KnownBytes.{Appends}
use Rattle.kc_text.specs.declared.kind.Kind.{Kind}
use Rattle.kc_text.specs.declared.kind.Kind.TheVariants.{TooLong}
use Rattle.kc_text.specs.Forms.{all_said}
use Rattle.kc_text.specs.declared.limits.TheConstants.Limits.{KCORE}
use Rattle.kc_text.specs.Meaning.{Refuses, meaning, nothing_told, reading}
use Rattle.kc_run.specs.declared.ran.Ran.{Ran}
use Rattle.kc_top.specs.Faults.{RoseOnlyAt}
use Rattle.kc_top.specs.Leaving.{AnswersInput, RunLeaves}
use Rattle.kc_top.specs.Outcome.{IsAnswer, IsOutputOf, Took, TookSome}
use Rattle.kc_top.specs.declared.Status.TheVariants as status
use Rattle.kc_top.specs.Stops.{HasNoText, IsRefusalOf, TellsRefusal, status_of}
use Rattle.kc_output.specs.Text.{IsTextOf}
use Rattle.kc_output.specs.declared.setting.Setting.{Setting}
use Rattle.kc_top.specs.declared.ending.Stop.{Stop}
use Rattle.kc_top.specs.declared.ending.Stop.TheVariants as stop
use Rattle.kc_output.proofs.Existence.{output_exists}

-- a stop at a refusal says why there is no text
pub HasNoText-refused : (s : Stop) (n : ℕ) (kind : Kind) (input : Option (List ℕ)) (f f' : ℕ) → TellsRefusal s n kind
    → IfSome input (λ bytes. meaning KCORE bytes ≡ Refuses n kind) → f' ≡ f → HasNoText s input f f'
HasNoText-refused (stop.Refused line) n kind input f f' h m kept = (n, kind, h, m, kept)
HasNoText-refused stop.NoMemory n kind input f f' h m kept = kept
HasNoText-refused stop.Usage n kind input f f' h m kept = absurd h
HasNoText-refused stop.ReadFault n kind input f f' h m kept = absurd h
HasNoText-refused stop.WriteFault n kind input f f' h m kept = absurd h

-- what holds of the bytes that were read holds of all bytes, where they are told
pub told_is : (P : List ℕ → Type 0) (input : Option (List ℕ)) (bytes : List ℕ) → IfSome input (λ all. bytes ≡ all) → P bytes → IfSome input P
told_is P None bytes h p = tt
told_is P (Some all) bytes h p = subst P h p

-- a stop at a refusal of these bytes says why they give no input
pub IsRefusalOf-refused : (s : Stop) (n : ℕ) (kind : Kind) (bytes : List ℕ) → TellsRefusal s n kind → meaning KCORE bytes ≡ Refuses n kind → IsRefusalOf s bytes
IsRefusalOf-refused (stop.Refused line) n kind bytes h m = (n, kind, h, m)
IsRefusalOf-refused stop.NoMemory n kind bytes h m = tt
IsRefusalOf-refused stop.Usage n kind bytes h m = absurd h
IsRefusalOf-refused stop.ReadFault n kind bytes h m = absurd h
IsRefusalOf-refused stop.WriteFault n kind bytes h m = absurd h

-- why these bytes give no input is why there is no text, where what is known of the input are these bytes
pub HasNoText-bytes : (s : Stop) (bytes : List ℕ) (input : Option (List ℕ)) (f f' : ℕ) → IsRefusalOf s bytes → IfSome input (λ all. bytes ≡ all)
    → f' ≡ f → HasNoText s input f f'
HasNoText-bytes (stop.Refused line) bytes input f f' (n, kind, told, means) known kept =
    (n, kind, told, told_is (λ b. meaning KCORE b ≡ Refuses n kind) input bytes known means, kept)
HasNoText-bytes stop.NoMemory bytes input f f' h known kept = kept
HasNoText-bytes stop.Usage bytes input f f' h known kept = absurd h
HasNoText-bytes stop.ReadFault bytes input f f' h known kept = absurd h
HasNoText-bytes stop.WriteFault bytes input f f' h known kept = absurd h

-- too many bytes are refused as a whole
pub too_long_refuses : (input : Option (List ℕ)) → IfSome input (λ all. KCORE.bytes < length all)
    → IfSome input (λ bytes. meaning KCORE bytes ≡ Refuses 0 TooLong)
too_long_refuses None h = tt
too_long_refuses (Some all) h = ap (λ b. cond b (Refuses 0 TooLong) (reading KCORE 0 nothing_told (all_said all))) (lt-ltb KCORE.bytes (length all) h)

-- a text is not empty
pub some_text : (setting : Setting) (bytes text : List ℕ) → IsTextOf setting bytes text → 0 < length text
some_text setting bytes text h = omega (arith, ap length h.written.is)

-- whatever the words ask for, there is an output
output_of : (asked : Option Setting) (bytes : List ℕ) → (text : List ℕ) × IsOutputOf asked bytes text
output_of None bytes = ([], refl)
output_of (Some setting) bytes = output_exists setting (meaning KCORE bytes)

-- nothing is a prefix of every output
pub TookSome-nothing : (asked : Option Setting) (input before after : Option (List ℕ)) → Appends before after [] → TookSome asked input before after
TookSome-nothing asked None before after took =
    let (text, is) = output_of asked [] in record { bytes = []; read = tt; text = text; is = is; amount = 0; within = omega arith; took = took }
TookSome-nothing asked (Some all) before after took =
    let (text, is) = output_of asked all in record { bytes = all; read = refl; text = text; is = is; amount = 0; within = omega arith; took = took }

-- where there is no text, nothing was taken
pub Took-nothing : (s : Stop) (asked : Option Setting) (input before after : Option (List ℕ)) (f f' : ℕ) → HasNoText s input f f'
    → Appends before after [] → Took (status_of s) asked input before after
Took-nothing (stop.Refused line) asked input before after f f' h took = took
Took-nothing stop.ReadFault asked input before after f f' h took = took
Took-nothing stop.NoMemory asked input before after f f' h took = TookSome-nothing asked input before after took
Took-nothing stop.Usage asked input before after f f' h took = absurd h
Took-nothing stop.WriteFault asked input before after f f' h took = absurd h

-- where there is no text, what was there is left, unless there was no memory
pub RunLeaves-nothing : (s : Stop) (asked : Option Setting) (input before after : Option (List ℕ)) (ran ran' : Ran) (f f' : ℕ) → HasNoText s input f f'
    → (s ≢ stop.NoMemory → ran' ≡ ran) → RunLeaves (status_of s) asked input before after ran ran'
RunLeaves-nothing (stop.Refused line) asked input before after ran ran' f f' h untouched = untouched (λ e. absurd (cc))
RunLeaves-nothing stop.ReadFault asked input before after ran ran' f f' h untouched = untouched (λ e. absurd (cc))
RunLeaves-nothing stop.NoMemory asked input before after ran ran' f f' h untouched = tt
RunLeaves-nothing stop.Usage asked input before after ran ran' f f' h untouched = absurd h
RunLeaves-nothing stop.WriteFault asked input before after ran ran' f f' h untouched = absurd h

-- a text beside which a run leaves something is the text of the input
pub IsAnswer-of : (asked : Option Setting) (input : Option (List ℕ)) (text : List ℕ) (ran : Ran) → AnswersInput asked input text ran → IsAnswer asked input text
IsAnswer-of asked input text ran a = record {
  setting = a.setting;
  asks = a.asks;
  bytes = a.bytes;
  read = a.read;
  is = record { told = a.told; means = a.means; written = a.written };
}

-- where there is no text, the source's count of faults rose at a read fault alone
pub RoseOnlyAt-read : (s : Stop) (input : Option (List ℕ)) (f f' : ℕ) → HasNoText s input f f' → RoseOnlyAt status.ReadFault (status_of s) f f'
RoseOnlyAt-read (stop.Refused line) input f f' h = record { rose = λ e. absurd (cc); kept = λ _. h.4 }
RoseOnlyAt-read stop.ReadFault input f f' h = record { rose = λ _. h; kept = λ e. absurd (e refl) }
RoseOnlyAt-read stop.NoMemory input f f' h = record { rose = λ e. absurd (cc); kept = λ _. h }
RoseOnlyAt-read stop.Usage input f f' h = absurd h
RoseOnlyAt-read stop.WriteFault input f f' h = absurd h

-- where there is no text, the output has no fault
pub RoseOnlyAt-write : (s : Stop) (input : Option (List ℕ)) (f f' g : ℕ) → HasNoText s input f f' → RoseOnlyAt status.WriteFault (status_of s) g g
RoseOnlyAt-write (stop.Refused line) input f f' g h = record { rose = λ e. absurd (cc); kept = λ _. refl }
RoseOnlyAt-write stop.ReadFault input f f' g h = record { rose = λ e. absurd (cc); kept = λ _. refl }
RoseOnlyAt-write stop.NoMemory input f f' g h = record { rose = λ e. absurd (cc); kept = λ _. refl }
RoseOnlyAt-write stop.Usage input f f' g h = absurd h
RoseOnlyAt-write stop.WriteFault input f f' g h = absurd h
