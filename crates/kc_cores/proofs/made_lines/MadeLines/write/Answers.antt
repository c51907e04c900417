-- The labels and the core numbers are those that are kept.
use Rattle.std.proofs.Common.{◌≡◌, ◌≤◌, ◌∙◌, ℕ, List, ap, length, subst, sym, take}
use Rattle.std.specs.Io.KnownBytes.{Appends}
use Rattle.std.specs.Prelude.{OnErr, OnOk}
use Rattle.kc_lines.specs.Fields.{Label}
use Rattle.kc_lines.specs.declared.format.Format.{Format}
use Rattle.kc_cores.specs.Listings.{listing_lines}
use Rattle.kc_cores.specs.declared.listing.Listing.{Listing}
use Rattle.kc_cores.proofs.made_lines.MadeLines.write.Goals as goal

-- the same numbers have the same lines
same_lines : (format : Format) (listing : Listing) (labels : List Label) (core core' : List ℕ) → core ≡ core'
    → listing_lines format listing labels core ≡ listing_lines format listing labels core'
same_lines format listing labels core core' two = ap (listing_lines format listing labels) two

pub write_lines-requires-clause-same : goal.write_lines-requires-clause-same
write_lines-requires-clause-same g c = c.requires.0 ∙ sym (ap length c.deref.ensures.value)

pub returns-clause-whole : goal.returns-clause-whole
returns-clause-whole g c =
    subst (λ (t : List ℕ). OnOk c.write_lines.result (Appends (g.O.Sink.taken c.args.out.now) (g.O.Sink.taken c.write_lines.new.out) t))
    (same_lines c.args.self.format c.args.self.listing _ _ _ c.deref.ensures.value) c.write_lines.ensures.whole

pub returns-clause-prefix : goal.returns-clause-prefix
returns-clause-prefix g c =
    subst (λ (t : List ℕ). OnErr c.write_lines.result ((n : ℕ) × (n ≤ length t)
    × Appends (g.O.Sink.taken c.args.out.now) (g.O.Sink.taken c.write_lines.new.out) (take n t)))
    (same_lines c.args.self.format c.args.self.listing _ _ _ c.deref.ensures.value) c.write_lines.ensures.prefix
