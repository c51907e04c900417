-- Where there is no room after a page was written, the page is empty, and the text goes past it.
use Rattle.std.proofs.Common.{◌≡◌, [], ap, arith, length, refl}
use Rattle.std.proofs.lemmas.Result.{on_err_weaker, on_ok_weaker}
use Rattle.kc_lines.proofs.Paging.{PassesOn-past, PassesOn-trans, PassesPart-later, PassesPart-past}
use Rattle.kc_lines.proofs.page.Page.put.Goals as goal

pub returns-then-text-len-clause-passes : goal.returns-then-text-len-clause-passes
returns-then-text-len-clause-passes g c =
    let empty : c.make_room.new.self ≡ [] =
    c.in_ok-make_room.ensures.room (omega (arith, c.if-text-len.true, c.len.ensures, ap length c.self.view_is)) in
    on_ok_weaker c.write_all.result (λ took. PassesOn-trans _ _ _ c.args.self.now c.make_room.new.self c.make_room.new.self [] c.args.text.now
    c.in_ok-make_room.ensures.passes (PassesOn-past _ _ c.make_room.new.self c.make_room.new.self c.args.text.now empty refl took))
    c.write_all.ensures.whole

pub returns-then-text-len-clause-part : goal.returns-then-text-len-clause-part
returns-then-text-len-clause-part g c =
    let empty : c.make_room.new.self ≡ [] =
    c.in_ok-make_room.ensures.room (omega (arith, c.if-text-len.true, c.len.ensures, ap length c.self.view_is)) in
    on_err_weaker c.write_all.result (λ took. PassesPart-later _ _ _ c.args.self.now c.make_room.new.self [] c.args.text.now
    c.in_ok-make_room.ensures.passes (PassesPart-past _ _ c.make_room.new.self c.args.text.now empty took))
    c.write_all.ensures.prefix
