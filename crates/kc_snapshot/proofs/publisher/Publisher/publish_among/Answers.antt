-- The last list with the new numbers of these vertices is the new list, where no other vertex has a new number.
use Rattle.std.proofs.Common.{◌≡◌, ◌∙◌, ◌++◌, ◌∷◌, [], length, ap, sym}
use Rattle.kc_snapshot.specs.Histories.{changed, last_list, member, numbers_at, width}
use Rattle.kc_snapshot.proofs.Among.{changed-among, on_ok}
use Rattle.kc_snapshot.proofs.publisher.Publisher.publish_among.Goals as goal

pub returns-clause-whole : goal.returns-clause-whole
returns-clause-whole g c =
    let old = c.args.self.now in
    let new = c.args.core.now in
    let here : old ≡ c.front.result.now = cc (c.self.view_is, c.front.ensures) in
    let same : length (last_list old) ≡ length new = ap (λ h. length (last_list h)) here ∙ c.measure.ensures ∙ ap width (sym here) ∙ sym c.requires.vertices in
    let list : changed (last_list old) c.in_ok-places.places.items ≡ changed (last_list old) (numbers_at new c.args.vertices.now) =
    ap (changed (last_list old)) c.in_ok-places.ensures in
    on_ok _ _ c.publish_changes.result c.publish_changes.ensures.added (λ number is differ.
    is.1 ∙ ap (λ l. old ++ member l ∷ []) (list ∙ changed-among c.args.vertices.now (last_list old) new same differ))
