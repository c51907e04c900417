-- The first bytes that a head has are the head.
use Rattle.kc_head.proofs.Fronts.{IfOk-head}
use Rattle.kc_head.proofs.head.read_head.Goals as goal

pub returns : goal.returns
returns g c = record {
  head = IfOk-head (λ v. v.items) c.first_bytes.result (g.S.Source.left c.args.source.now) (g.S.Source.left c.first_bytes.new.source)
      c.first_bytes.ensures.front;
  faultless = c.first_bytes.ensures.faultless;
  read_fault = c.first_bytes.ensures.read_fault;
}
