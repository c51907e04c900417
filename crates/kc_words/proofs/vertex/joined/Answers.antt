-- The lower number fits its bits, so the or of the two is their sum, of which they are quotient and rest.
use Rattle.kc_words.proofs.Packing.{joined_facts}
use Rattle.kc_words.proofs.vertex.joined.Goals as goal

pub returns : goal.returns
returns c =
    let f = joined_facts c.args.high c.args.low c.ranges.high.fits c.ranges.low.fits in
    rw (c.from.ensures, c.from-2.ensures) record { sum = f.sum; high_again = f.high; low_again = f.low }
