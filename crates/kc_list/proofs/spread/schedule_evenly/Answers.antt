-- The schedule goes from labels that ascend to labels that ascend, and they ascend after each of its steps.
use Rattle.std.proofs.Common.{◌+◌, ◌/◌, ℕ, ap, ◌∙◌, length, arith}
use Rattle.kc_relabel.specs.Labels.{Ascends, schedule_of}
use Rattle.kc_relabel.proofs.Rising.{Ascends-rises, schedule-along, Along-take}
use Rattle.kc_list.specs.Places.{evens}
use Rattle.kc_list.proofs.Groupings.{evens-rise}
use Rattle.kc_list.proofs.spread.schedule_evenly.Goals as goal

pub schedule-requires-clause-old_rises : goal.schedule-requires-clause-old_rises
schedule-requires-clause-old_rises c = Ascends-rises 1 c.args.room c.args.old.now c.requires.ascends

pub schedule-requires-clause-new_rises : goal.schedule-requires-clause-new_rises
schedule-requires-clause-new_rises c = Ascends-rises 1 c.args.room c.even_labels.new.into
    (rw (c.even_labels.ensures, c.requires.even_length) (evens-rise (length c.args.old.now) c.args.room (omega arith)))

pub returns-clause-spreads : goal.returns-clause-spreads
returns-clause-spreads c =
    let even = c.even_labels.ensures ∙ ap (λ (n : ℕ). evens n (c.args.room / (n + 1)) 0) c.requires.even_length in
    let ascends : Ascends 1 c.args.room c.even_labels.new.into =
    rw (c.even_labels.ensures, c.requires.even_length) (evens-rise (length c.args.old.now) c.args.room (omega arith)) in
    let along = (schedule-along 1 c.args.room c.args.old.now c.even_labels.new.into (omega arith) c.requires.ascends ascends).0 in
    record {
      schedule = record {
        once = c.schedule.ensures.once;
        within = c.schedule.ensures.within;
        ascends = λ k l. rw c.schedule.ensures.front
            (Along-take (Ascends 1 c.args.room) c.args.old.now (schedule_of c.args.old.now c.even_labels.new.into) k along);
      };
      done = c.schedule.ensures.done ∙ even;
    }
