-- The line of an edge goes on behind those before it.
use Rattle.std.proofs.Common.{◌∙◌, ap, arith, subst, take_all}
use Rattle.std.specs.List.{flat_map}
use Rattle.kc_lists.proofs.Results.{on_err-anyhow}
use Rattle.kc_state.specs.SummedPages.{HasPut}
use Rattle.kc_state.specs.Texts.{greater_line}
use Rattle.kc_state.proofs.Putting.{part-item, put-item}
use Rattle.kc_state.proofs.writing.put_all_greater.Goals as goal

pub loop-w-preserved : goal.loop-w-preserved
loop-w-preserved g c = record {
  put = put-item _ _ _ c.args.summed.now c.loop-w.summed c.put_greater.new.summed (greater_line c.args.ids.now c.args.v) c.args.neighbours.now
      c.loop-w.w-index c.loop-w-test.true c.loop-w.invariant.put c.in_ok-put_greater.ensures.put;
  faultless = c.in_ok-put_greater.ensures.cause.kept ∙ c.loop-w.invariant.faultless;
}

pub returns-in_err-put_greater-clause-part : goal.returns-in_err-put_greater-clause-part
returns-in_err-put_greater-clause-part g c =
    on_err-anyhow c.from_residual.result
    (part-item _ _ _ c.args.summed.now c.loop-w.summed (greater_line c.args.ids.now c.args.v) c.args.neighbours.now c.loop-w.w-index
    c.loop-w-test.true c.loop-w.invariant.put c.in_err-put_greater.ensures.part)

pub returns-clause-put : goal.returns-clause-put
returns-clause-put g c =
    subst (HasPut (g.O.Sink.taken c.args.out.now) (g.O.Sink.taken c.loop-w.out) c.args.summed.now c.loop-w.summed)
    (ap (flat_map (greater_line c.args.ids.now c.args.v)) (take_all c.loop-w.w-index c.args.neighbours.now (omega (arith, c.loop-w-test.false))))
    c.loop-w.invariant.put
