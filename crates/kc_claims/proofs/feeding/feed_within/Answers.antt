-- What the pieces tell of the source is told of all of it.
use Rattle.kc_claims.specs.declared.fault.Unswept.TheVariants as unswept
use Rattle.kc_claims.proofs.HandedOn.{passed-err, passed-other}
use Rattle.kc_claims.proofs.feeding.feed_within.Goals as goal

pub returns-in_err-left-clause-faultless : goal.returns-in_err-left-clause-faultless
returns-in_err-left-clause-faultless g c = λ other.
    c.in_err-left.ensures.faultless
    (passed-other c.from_residual-in_err-left.result c.in_err-left.field-0.0 unswept.ReadFault c.from_residual-in_err-left.ensures.1 other)

pub returns-in_err-left-clause-so_far : goal.returns-in_err-left-clause-so_far
returns-in_err-left-clause-so_far g c = λ of.
    c.in_err-left.ensures.so_far
    (passed-err c.from_residual-in_err-left.result c.in_err-left.field-0.0 unswept.ReadFault c.from_residual-in_err-left.ensures.1 of)
