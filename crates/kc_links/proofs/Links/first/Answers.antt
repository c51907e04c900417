-- The number behind the seam is the first of the ring.
use Rattle.std.proofs.Common.{◌<◌, ◌∙◌, arith, get_or, length}
use Rattle.std.proofs.lemmas.List.{get_or_read}
use Rattle.kc_links.specs.Ring.{walk}
use Rattle.kc_links.proofs.Ring.{first_read}
use Rattle.kc_links.proofs.Links.first.Goals as goal

pub returns : goal.returns
returns c =
    let i = c.self.inside in
    let list = walk i.len (get_or i.next.items i.size 0) i.next.items in
    let within : i.size < length i.next.items = omega (arith, c.self.invariant.next_length) in
    rw (← c.self.view_is) (get_or_read i.next.items i.size c.index.result.now within c.index.ensures 0
    ∙ first_read i.next.items i.prev.items i.size list c.self.invariant)
