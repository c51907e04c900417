-- The items are placed first, then the groups; neither changes what the other writes.
use Rattle.std.proofs.Common.{◌≡◌, ◌+◌, ◌*◌, ◌/◌, ap, ◌∙◌, length, set, inl, inr, arith}
use Rattle.kc_lists.proofs.Members.{below_bound}
use Rattle.kc_list.specs.Opening.{opening_groups}
use Rattle.kc_list.proofs.Openings.{opening_from, blank_facts}
use Rattle.kc_list.proofs.opening.fill_words.Goals as goal
use Rattle.kc_words.specs.declared.layout.TheConstants.{TOP_ROOM}

pub place_items-requires-clause-few : goal.place_items-requires-clause-few
place_items-requires-clause-few c = omega (arith, below_bound c.args.items c.args.order.now c.requires.distinct c.requires.within, c.requires.small)

pub overflow_cast-div_ceil-2 : goal.overflow_cast-div_ceil-2
overflow_cast-div_ceil-2 c = omega (
  arith,
  below_bound c.args.items c.args.order.now c.requires.distinct c.requires.within,
  c.requires.small,
  c.div_ceil.ensures,
)

pub place_groups-requires-clause-count : goal.place_groups-requires-clause-count
place_groups-requires-clause-count c = omega (arith, below_bound c.args.items c.args.order.now c.requires.distinct c.requires.within, c.div_ceil.ensures)

pub returns : goal.returns
returns c =
    let b = blank_facts c.args.items c.args.version c.args.words.now c.requires.size c.requires.blank in
    let count : c.div_ceil.result ≡ opening_groups (length c.args.order.now) = c.div_ceil.ensures ∙ omega arith in
    opening_from c.args.items c.args.version c.args.order.now (set c.args.words.now 0 0) c.place_items.new.words c.place_groups.new.words c.requires.distinct
    c.requires.within b.0 b.1 b.2
    c.place_items.ensures.placed c.place_items.ensures.only (omega (arith, c.place_groups.auto.words, c.place_items.auto.words, b.0))
    (λ j l. c.place_groups.ensures.tops j (omega arith) ∙ ap (λ k. record { version = c.args.version; top = (j + 1) * (TOP_ROOM / (k + 1)) }) count)
    (λ w h. c.place_groups.ensures.only w (elim h [ inl l ↦ inl l | inr l ↦ inr (omega (arith, count, l)) ]))
