-- What stands for those so far was put.
use Rattle.std.proofs.Common.{◌≡◌, ◌++◌, take}
use Rattle.std.specs.Io.{StartsWith}
use Rattle.std.specs.List.{flat_map}
use Rattle.kc_reply.specs.Words.{blank_number}
use Rattle.kc_reply.proofs.words.put_numbers.Given as goal

abbrev pub invariant-loop-number : goal.invariant-loop-number
invariant-loop-number l = record {
  kept : StartsWith l.out.items l.fn.out.items;
  so_far : l.out.items ≡ l.fn.out.items ++ flat_map blank_number (take l.number-index l.numbers);
}
