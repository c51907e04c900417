-- The sweep has what the claims tell.
use Rattle.std.proofs.Common.{List, ap, arith, length, subst, sym, ℕ}
use Rattle.kc_claims.specs.Judging.{TellLines}
use Rattle.kc_claims.proofs.Counted.{TellEach-same}
use Rattle.kc_claims.proofs.claimed.begun.Goals as goal

pub new-requires-clause-numbered : goal.new-requires-clause-numbered
new-requires-clause-numbered c =
    let (claims, h) = c.requires.spread in
    (c.in_ok-core.ensures c.args.ids.items claims h).told.one_number

pub new-requires-clause-ranked : goal.new-requires-clause-ranked
new-requires-clause-ranked c =
    let (claims, h) = c.requires.spread in
    (c.in_ok-core.ensures c.args.ids.items claims h).told.one_rank

pub returns : goal.returns
returns c = λ claims h.
    let s = c.in_ok-core.ensures c.args.ids.items claims h in
    let order : List ℕ = c.args.table.ids.items in
    let spread = c.in_ok-core.field-0 in
    let sweep = c.in_ok-sweep.sweep in
    record {
      begun = record {
        told = TellEach-same claims order c.args.ids.items sweep.ids.items spread.core.items sweep.core.items spread.rank.items sweep.rank.items
            c.in_ok-sweep.ensures.ids c.in_ok-sweep.ensures.core c.in_ok-sweep.ensures.rank s.told;
        few = omega (arith, ap length c.in_ok-sweep.ensures.ids, c.requires.few);
        swept = c.in_ok-sweep.ensures.fresh;
      };
      lines = subst (λ (xs : List ℕ). TellLines claims order xs spread.lines) (sym c.in_ok-sweep.ensures.rank) s.lines;
    }
