-- For each range before `k` there is its begin: how many ids are below that multiple of the width.
use Rattle.std.proofs.Common.{◌≡◌, ◌<◌, ◌*◌, ℕ, length}
use Rattle.std.specs.Prelude.{slice_index}
use Rattle.kc_text.specs.Buckets.{IsBegin}
use Rattle.kc_text.proofs.buckets.Buckets.new.Given as goal

abbrev pub invariant-loop-k : goal.invariant-loop-k
invariant-loop-k l = record {
  whole : length l.begins.items ≡ l.k;
  each : (j : ℕ) → j < l.k → IsBegin l.ids (j * l.width) (slice_index l.begins.items j);
}
