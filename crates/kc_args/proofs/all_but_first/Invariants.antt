-- The words so far and those that are left are all after the first.
use Rattle.std.proofs.Common.{◌≡◌, ◌++◌, drop}
use Rattle.std.specs.Vec.Iter.{into_iter_items}
use Rattle.kc_args.proofs.all_but_first.Given as goal

abbrev pub invariant-loop-word : goal.invariant-loop-word
invariant-loop-word l = l.words.items ++ into_iter_items l.word-iterator ≡ drop 1 (into_iter_items l.fn.args)
