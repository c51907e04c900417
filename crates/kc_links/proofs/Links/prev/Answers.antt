-- The link back of a number that is in the ring is the number before it.
use Rattle.std.proofs.Common.{◌≡◌, ◌<◌, ap, ◌∙◌, arith, get_or, true, length}
use Rattle.std.proofs.lemmas.List.{get_or_read}
use Rattle.kc_lists.specs.Lists.{member}
use Rattle.kc_links.specs.Ring.{walk}
use Rattle.kc_links.proofs.Ring.{prev_read}
use Rattle.kc_links.proofs.Links.prev.Goals as goal

pub returns : goal.returns
returns c =
    let i = c.self.inside in
    let list = walk i.len (get_or i.next.items i.size 0) i.next.items in
    let in' : member c.args.x list ≡ true = ap (λ v. member c.args.x v.list) c.self.view_is ∙ c.requires in
    let within : c.args.x < length i.prev.items =
    omega (arith, c.self.invariant.within c.args.x in', c.self.invariant.next_length, c.self.invariant.prev_length) in
    rw (← c.self.view_is) (get_or_read i.prev.items c.args.x c.index.result.now within c.index.ensures 0
    ∙ prev_read i.next.items i.prev.items i.size c.args.x list c.self.invariant in')
