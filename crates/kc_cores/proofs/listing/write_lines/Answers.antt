-- What was taken before a write failed is a prefix of the lines.
use Rattle.std.proofs.lemmas.Result.{on_err_weaker}
use Rattle.kc_lines.proofs.Paging.{part-passed}
use Rattle.kc_cores.specs.Listings.{listing_lines}
use Rattle.kc_cores.proofs.listing.write_lines.Goals as goal

pub returns-clause-prefix : goal.returns-clause-prefix
returns-clause-prefix g c =
    on_err_weaker c.write.result (λ part. part-passed _ _ _ c.args.page c.put_lines.new.page
    (listing_lines c.args.format c.args.listing.now c.args.vertices.now.labels.now c.args.vertices.now.core.now) c.in_ok-put_lines.ensures.passes part
    c.requires.empty)
    c.write.ensures.part
