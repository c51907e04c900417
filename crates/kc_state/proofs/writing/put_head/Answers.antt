-- One text goes on after another.
use Rattle.std.proofs.Common.{codes}
use Rattle.kc_state.specs.Texts.{counts_text, named_line}
use Rattle.kc_state.specs.declared.TheConstants.{FORMAT_VERSION}
use Rattle.kc_state.proofs.Putting.{part-first, part-then, put-then}
use Rattle.kc_state.proofs.writing.put_head.Goals as goal

pub returns-in_err-put_named-clause-part : goal.returns-in_err-put_named-clause-part
returns-in_err-put_named-clause-part g c =
    part-first c.from_residual.result _ _ c.args.summed.now.page
    (named_line (codes "kcore-state ") FORMAT_VERSION) (counts_text c.args.batches c.args.graph.now) _ (cc)
    c.in_err-put_named.ensures.part

pub returns-clause-put : goal.returns-clause-put
returns-clause-put g c =
    put-then c.put_counts.result _ _ _ c.args.summed.now c.put_named.new.self c.put_counts.new.summed (named_line (codes "kcore-state ") FORMAT_VERSION)
    (counts_text c.args.batches c.args.graph.now) _ _ (cc) (cc) c.in_ok-put_named.ensures.put c.put_counts.ensures.put

pub returns-clause-part : goal.returns-clause-part
returns-clause-part g c =
    part-then c.put_counts.result _ _ _ c.args.summed.now c.put_named.new.self (named_line (codes "kcore-state ") FORMAT_VERSION)
    (counts_text c.args.batches c.args.graph.now) _ _ (cc) (cc) c.in_ok-put_named.ensures.put c.put_counts.ensures.part
