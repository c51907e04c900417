-- The text is a reply of the one kind that there may be.
use Rattle.std.proofs.Common.{inl, refl}
use Rattle.clap.specs.declared.error.kind.ErrorKind.TheVariants.{InvalidSubcommand}
use Rattle.kc_wishes.proofs.words.no_command.Goals as goal

pub returns-in-Ok : goal.returns-in-Ok
returns-in-Ok c = (InvalidSubcommand, inl refl, refl)
