-- The replier was fed just what the source gave, in pieces with some bytes each, and no call has failed.
use Rattle.std.proofs.Common.{◌≡◌, ◌≤◌, ◌<◌, List, ℕ, length}
use Rattle.std.specs.Io.KnownBytes.{Consumes}
use Rattle.kc_io.specs.LineEnds.{is_cut_off}
use Rattle.kc_dialogue.proofs.open.feed_all.Given as goal

abbrev pub invariant-turns : goal.invariant-turns
invariant-turns g l = record {
  given : (given : List ℕ) × Consumes (g.S.Source.left l.fn.source) (g.S.Source.left l.source) given × (l.is_cut_off ≡ is_cut_off given)
      × g.R.Replier.was_fed l.replier given × (l.out.items ≡ g.R.Replier.reply l.fn.replier given) × (l.counter ≤ length given);
  same : g.R.Replier.reply l.replier ≡ g.R.Replier.reply l.fn.replier;
  same_at_end : g.R.Replier.reply_at_end l.replier ≡ g.R.Replier.reply_at_end l.fn.replier;
  settings : g.R.Replier.settings l.replier ≡ g.R.Replier.settings l.fn.replier;
  faultless : g.S.Source.faults l.source ≡ g.S.Source.faults l.fn.source;
  room : 0 < length l.room;
}
