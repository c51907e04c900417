-- By the two highest bits: the masks give the fields of that kind, which make up the word just where its spare bits are 0.
use Rattle.std.proofs.Common.{◌≡◌, sym, arith, ◌/◌, ◌^◌}
use Rattle.kc_words.specs.declared.layout.TheConstants.{KIND_SHIFT}
use Rattle.kc_words.proofs.Notes.{note_of-nothing, enter_masked, put_masked, take_masked, nothing_back, enter_back, put_back, take_back}
use Rattle.kc_words.proofs.note.NoteWord.of.Goals as goal

pub returns-in-0-clause-fields : goal.returns-in-0-clause-fields
returns-in-0-clause-fields c = sym (note_of-nothing c.args.word c.in-0.is)

pub returns-in-0-clause-packed_back : goal.returns-in-0-clause-packed_back
returns-in-0-clause-packed_back c = rw (← note_of-nothing c.args.word c.in-0.is) (nothing_back c.args.word c.in-0.is)

pub returns-in-1-clause-fields : goal.returns-in-1-clause-fields
returns-in-1-clause-fields c = enter_masked c.args.word c.in-1.is

pub returns-in-1-clause-packed_back : goal.returns-in-1-clause-packed_back
returns-in-1-clause-packed_back c = rw (enter_masked c.args.word c.in-1.is) (enter_back c.args.word c.in-1.is)

pub returns-in-2-clause-fields : goal.returns-in-2-clause-fields
returns-in-2-clause-fields c = put_masked c.args.word c.in-2.is

pub returns-in-2-clause-packed_back : goal.returns-in-2-clause-packed_back
returns-in-2-clause-packed_back c = rw (put_masked c.args.word c.in-2.is) (put_back c.args.word c.in-2.is)

pub returns-in_default-clause-fields : goal.returns-in_default-clause-fields
returns-in_default-clause-fields c = take_masked c.args.word (omega arith)

pub returns-in_default-clause-packed_back : goal.returns-in_default-clause-packed_back
returns-in_default-clause-packed_back c =
    let e : c.args.word / 2 ^ KIND_SHIFT ≡ 3 = omega arith in
    rw (take_masked c.args.word e) (take_back c.args.word e)
