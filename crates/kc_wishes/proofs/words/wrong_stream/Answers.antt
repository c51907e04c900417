-- The text is a reply of the one kind that there may be.
use Rattle.std.proofs.Common.{inl, refl}
use Rattle.clap.specs.declared.error.kind.ErrorKind.TheVariants.{ValueValidation}
use Rattle.kc_wishes.proofs.words.wrong_stream.Goals as goal

pub returns-in-Ok : goal.returns-in-Ok
returns-in-Ok c = (ValueValidation, inl refl, refl)
