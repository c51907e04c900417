-- What is left of the text goes on from the names and the lines so far.
use Rattle.std.proofs.Common.{◌≡◌, ◌++◌, length}
use Rattle.kc_names.specs.Names.{pairs_in}
use Rattle.kc_names.specs.Steps.{lines_behind, names_behind}
use Rattle.kc_names.proofs.names.Names.number_lines.Given as goal

abbrev pub invariant-loop-line : goal.invariant-loop-line
invariant-loop-line l = record {
  names : names_behind l.self (pairs_in l.rest) ≡ names_behind l.fn.self (pairs_in l.fn.text);
  text : l.out.items ++ lines_behind l.self (pairs_in l.rest) ≡ l.fn.out.items ++ lines_behind l.fn.self (pairs_in l.fn.text);
}

abbrev pub decreases-loop-line : goal.decreases-loop-line
decreases-loop-line l = length l.rest
