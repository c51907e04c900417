-- Each update before `place` has its rank, made of its edge and its own place, at that place, and its ends are numbers of vertices.
use Rattle.std.proofs.Common.{◌≡◌, ◌<◌, ℕ, length, get_or}
use Rattle.kc_graph.specs.declared.update.Update.{Update}
use Rattle.kc_text.specs.Deciding.{rank}
use Rattle.kc_text.specs.declared.overruling.TheConstants.{NUMBERS}
use Rattle.kc_text.proofs.overruling.ranks_of.Given as goal

abbrev pub invariant-loop-place : goal.invariant-loop-place
invariant-loop-place l = record {
  count : length l.ranks.items ≡ l.place;
  ends : (i : ℕ) (x : Update) → i < l.place → (get_or l.updates i x).v < NUMBERS;
  each : (i : ℕ) (x : Update) → i < l.place → get_or l.ranks.items i 0 ≡ rank (get_or l.updates i x) i;
}
