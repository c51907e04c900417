-- What was given means what all bytes of the source mean: they are all of it, or too many.
use Rattle.std.proofs.Common.{◌≡◌, ◌≢◌, ◌<◌, ◌⊎◌, ◌∙◌, ℕ, List, [], Option, None, Some, IfSome, inl, inr, length, refl, sym, ap, arith, length-append}
use Rattle.std.specs.Io.KnownBytes.{Consumes, IsAtEnd}
use Rattle.std.proofs.KnownBytes.{Consumes-all, Consumes-whole}
use Rattle.kc_text.specs.Inputs.{IsInput, IsNamedEdges}
use Rattle.kc_text.specs.Meaning.{Means, Refuses, Told, meaning}
use Rattle.kc_text.specs.declared.fault.ParseFault.{ParseFault}
use Rattle.kc_text.specs.declared.fault.ParseFault.TheVariants as parse
use Rattle.kc_text.specs.declared.input.Input.{Input}
use Rattle.kc_text.specs.declared.kind.Kind.{Kind}
use Rattle.kc_text.specs.declared.kind.Kind.TheVariants.{TooLong}
use Rattle.kc_text.specs.declared.limits.Limits.{Limits}
use Rattle.kc_text.specs.declared.named_edges.NamedEdges.{NamedEdges}
use Rattle.kc_text.specs.declared.refusal.Refusal.{Refusal}
use Rattle.kc_text.proofs.Fed.{meaning-too_long}
use Rattle.kc_read.specs.Reading.{AreEdgesWithin, IsInputWithin, fault_of}
use Rattle.kc_read.specs.declared.fault.InputFault.TheVariants as fault

-- the input that the given bytes mean is what all bytes mean, and none is left
pub IsInputWithin-given : (limits : Limits) (known after : Option (List ℕ)) (given : List ℕ) (told : Told) (input : Input) → Consumes known after given
    → IsAtEnd after ⊎ (limits.bytes < length given) → meaning limits given ≡ Means told → IsInput told input
    → IsInputWithin limits known input × IsAtEnd after
IsInputWithin-given limits known after given told input took (inl end) means is =
    (record { bytes = given; read = Consumes-all known after given [] given took end refl; told = told; means = means; is = is }, end)
IsInputWithin-given limits known after given told input took (inr many) means is =
    let both : Refuses 0 TooLong ≡ Means told = sym (meaning-too_long limits given many) ∙ means in absurd (cc)

-- the ids and edges that the given bytes tell are those of all bytes, and none is left
pub AreEdgesWithin-given : (limits : Limits) (known after : Option (List ℕ)) (given : List ℕ) (told : Told) (listed : NamedEdges)
    → Consumes known after given → IsAtEnd after ⊎ (limits.bytes < length given) → meaning limits given ≡ Means told → IsNamedEdges told listed
    → AreEdgesWithin limits known listed × IsAtEnd after
AreEdgesWithin-given limits known after given told listed took (inl end) means are =
    (record { bytes = given; read = Consumes-all known after given [] given took end refl; told = told; means = means; are = are }, end)
AreEdgesWithin-given limits known after given told listed took (inr many) means are =
    let both : Refuses 0 TooLong ≡ Means told = sym (meaning-too_long limits given many) ∙ means in absurd (cc)

-- where the given bytes are refused, all bytes are, with the same line and kind
pub refused-given : (limits : Limits) (known after : Option (List ℕ)) (given : List ℕ) (n : ℕ) (kind : Kind) → Consumes known after given
    → IsAtEnd after ⊎ (limits.bytes < length given) → meaning limits given ≡ Refuses n kind
    → IfSome known (λ all. meaning limits all ≡ Refuses n kind)
refused-given limits known after given n kind took (inl end) refused =
    Consumes-whole known after given (λ all. meaning limits all ≡ Refuses n kind) took end refused
refused-given limits None after given n kind took (inr many) refused = tt
refused-given limits (Some all) None given n kind took (inr many) refused = absurd took
refused-given limits (Some all) (Some rest) given n kind took (inr many) refused =
    meaning-too_long limits all (omega (arith, many, ap length took, length-append given rest)) ∙ sym (meaning-too_long limits given many) ∙ refused

-- a refusal is that of the text
pub fault_of-refused : (f : ParseFault) (r : Refusal) → fault_of f ≡ fault.Refused r → f ≡ parse.Refused r
fault_of-refused (parse.Refused q) r e = cc
fault_of-refused parse.NoMemory r e = absurd (cc)

-- no text is a read fault
pub fault_of-unread : (f : ParseFault) → fault_of f ≢ fault.ReadFault
fault_of-unread (parse.Refused q) e = cc
fault_of-unread parse.NoMemory e = cc
