-- A load changes no word, and lets its pass have seen the whole log, which what it had seen begins.
use Rattle.std.proofs.Common.{rules}
use Rattle.kc_table.proofs.Steps.{load-keeps_rule}
use Rattle.kc_table.proofs.table.load.Goals as goal

pub load-requires : goal.load-requires
load-requires c =
    let same = c.pass.view_is in
    (search rules, search rules, load-keeps_rule _ _ _ _ _ c.pass.invariant.1)
