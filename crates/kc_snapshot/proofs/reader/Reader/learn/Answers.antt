-- The note begins what was seen once it was taken in, which begins what is seen after the look.
use Rattle.std.proofs.Common.{List, subst}
use mathlib.Core.List.{IsPrefix}
use Rattle.kc_snapshot.specs.declared.member.Member.{Member}
use Rattle.kc_snapshot.proofs.Prefixes.{prefix_trans}
use Rattle.kc_snapshot.proofs.reader.Reader.learn.Goals as goal

pub returns-then-is_some-clause-told : goal.returns-then-is_some-clause-told
returns-then-is_some-clause-told g c =
    prefix_trans c.args.note c.take_in.new.self c.look_once.new.seen c.take_in.ensures.that
    (subst (λ (l : List Member). IsPrefix l c.look_once.new.seen) c.loop.invariant.2 c.look_once.ensures.later)
