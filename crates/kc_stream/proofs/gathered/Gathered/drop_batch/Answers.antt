-- The ids of before the batch are left, and none of its updates.
use Rattle.std.proofs.Common.{refl}
use Rattle.kc_stream.proofs.Holding.{holds-emptied}
use Rattle.kc_stream.proofs.gathered.Gathered.drop_batch.Goals as goal

pub returns-clause-holds : goal.returns-clause-holds
returns-clause-holds c = λ told some s.
    holds-emptied c.args.self.now _ told some c.forget_behind.ensures refl refl refl c.truncate.ensures.items s
