-- What stands for those so far was put.
use Rattle.std.proofs.Common.{◌≡◌, ◌++◌, take}
use Rattle.std.specs.Io.{StartsWith}
use Rattle.std.specs.List.{flat_map}
use Rattle.kc_reply.specs.Json.{comma_number}
use Rattle.kc_reply.proofs.json.put_later_numbers.Given as goal

abbrev pub invariant-loop-number : goal.invariant-loop-number
invariant-loop-number l = record {
  kept : StartsWith l.out.items l.fn.out.items;
  so_far : l.out.items ≡ l.fn.out.items ++ flat_map comma_number (take l.number-index l.numbers);
}
