-- The opening words are sound, have the sizes that are counted, and one version.
use Rattle.std.proofs.Common.{◌+◌, [], sym, arith}
use Rattle.kc_lists.proofs.Members.{below_bound}
use Rattle.kc_list.specs.Sheets.{Paper}
use Rattle.kc_list.specs.Plain.{IsBetweenCalls}
use Rattle.kc_list.specs.declared.limits.TheConstants.{ITEM_WRITES}
use Rattle.kc_list.proofs.Putting.{ordered_from}
use Rattle.kc_list.proofs.Openings.{opened_sound, opened_tallied, opened_versions, opened_highest}
use Rattle.kc_list.proofs.plain.PlainOrder.open.Goals as goal

pub open-requires : goal.open-requires
open-requires c = sym (opened_highest c.args.shape.items c.args.shape.version c.args.order.now c.in_ok-words.words.items c.in_ok-words.ensures)

pub overflow_cast-order : goal.overflow_cast-order
overflow_cast-order c = omega (arith, below_bound c.args.shape.items c.args.order.now c.requires.distinct c.requires.within, c.args.shape.few_items)

pub open-requires-2-clause-within : goal.open-requires-2-clause-within
open-requires-2-clause-within c = below_bound c.args.shape.items c.args.order.now c.requires.distinct c.requires.within

pub invariant_of-result-clause-sound : goal.invariant_of-result-clause-sound
invariant_of-result-clause-sound c = rw (c.in_ok-links.ensures, c.in_ok-sheet.ensures)
    (opened_sound c.args.shape.items c.args.shape.version c.args.order.now c.in_ok-words.words.items c.args.shape.few_items c.requires.distinct
    c.requires.within c.in_ok-words.ensures)

pub invariant_of-result-2 : goal.invariant_of-result-2
invariant_of-result-2 c =
    let sheet : Paper = record { words = c.in_ok-words.words.items; writes = []; room = c.args.shape.items + ITEM_WRITES } in
    let whole : IsBetweenCalls c.args.shape.items c.args.shape.fixed c.args.order.now sheet c.in_ok-groups.groups c.in_ok-scratch.scratch = record {
      fixed_in = c.requires.fixed_in;
      tallied = opened_tallied c.args.shape.items c.args.shape.version c.args.order.now c.in_ok-words.words.items c.in_ok-groups.groups c.requires.distinct
          c.requires.within c.in_ok-words.ensures c.in_ok-groups.ensures.length c.in_ok-groups.ensures.none c.in_ok-groups.ensures.sizes;
      scratch_room = omega (arith, c.in_ok-scratch.ensures);
      write_room = omega arith;
      note = c.in_ok-words.ensures.note;
    } in
    rw (c.in_ok-links.ensures, c.in_ok-sheet.ensures) whole

pub returns-clause-versions : goal.returns-clause-versions
returns-clause-versions c = rw c.in_ok-sheet.ensures
    (opened_versions c.args.shape.items c.args.shape.version c.args.order.now c.in_ok-words.words.items c.in_ok-words.ensures)

pub returns-clause-ordered : goal.returns-clause-ordered
returns-clause-ordered c = rw c.in_ok-sheet.ensures
    (ordered_from c.args.shape.items c.in_ok-words.words.items c.args.order.now
    (opened_sound c.args.shape.items c.args.shape.version c.args.order.now c.in_ok-words.words.items c.args.shape.few_items c.requires.distinct
    c.requires.within c.in_ok-words.ensures))

pub returns-clause-highest : goal.returns-clause-highest
returns-clause-highest c = rw c.in_ok-sheet.ensures
    (opened_highest c.args.shape.items c.args.shape.version c.args.order.now c.in_ok-words.words.items c.in_ok-words.ensures)
