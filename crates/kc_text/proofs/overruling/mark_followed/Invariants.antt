-- Only places of ranks that one of the same edge follows are marked, and all of these whose follower stands before `k`.
use Rattle.std.proofs.Common.{◌≡◌, ◌<◌, ◌+◌, ◌%◌, ℕ, true, false, length, get_or}
use Rattle.kc_text.specs.Deciding.{AreOfOneEdge}
use Rattle.kc_text.specs.declared.overruling.TheConstants.{NUMBERS}
use Rattle.kc_text.proofs.overruling.mark_followed.Given as goal

abbrev pub invariant-loop-k : goal.invariant-loop-k
invariant-loop-k l = record {
  count : length l.marks.items ≡ length l.ranks;
  sound : (place : ℕ) → get_or l.marks.items place false ≡ true
      → (k : ℕ) × (k + 1 < length l.ranks) × AreOfOneEdge (get_or l.ranks k 0) (get_or l.ranks (k + 1) 0) × (get_or l.ranks k 0 % NUMBERS ≡ place);
  complete : (k : ℕ) → k + 1 < l.k → AreOfOneEdge (get_or l.ranks k 0) (get_or l.ranks (k + 1) 0)
      → get_or l.marks.items (get_or l.ranks k 0 % NUMBERS) false ≡ true;
}
