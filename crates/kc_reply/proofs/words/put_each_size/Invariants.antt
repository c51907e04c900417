-- What stands for those so far was put.
use Rattle.std.proofs.Common.{◌≡◌, ◌++◌, take}
use Rattle.std.specs.Io.{StartsWith}
use Rattle.std.specs.List.{flat_map}
use Rattle.kc_reply.specs.Words.{size_words}
use Rattle.kc_reply.proofs.words.put_each_size.Given as goal

abbrev pub invariant-loop-size : goal.invariant-loop-size
invariant-loop-size l = record {
  kept : StartsWith l.out.items l.fn.out.items;
  so_far : l.out.items ≡ l.fn.out.items ++ flat_map size_words (take l.size-index l.sizes);
}
