-- By the kind of note: fields that fit don't overlap, so their or is their sum; 3 or 2 is the kind of an entry with its bit for adding.
use Rattle.std.proofs.Common.{◌≡◌, ◌∙◌, ap, sym, cond}
use Rattle.kc_words.proofs.Notes.{nothing_packed, enter_packed, put_packed, take_packed}
use Rattle.kc_words.proofs.note.NoteWord.pack.Goals as goal
use Rattle.kc_words.proofs.note.NoteWord.pack.Goals.{then-add, else-add}

pub returns-in-Nothing-clause-word : goal.returns-in-Nothing-clause-word
returns-in-Nothing-clause-word c = (nothing_packed c.args.self c.requires c.in-Nothing.is).word

pub returns-in-Nothing-clause-read_back : goal.returns-in-Nothing-clause-read_back
returns-in-Nothing-clause-read_back c = (nothing_packed c.args.self c.requires c.in-Nothing.is).back

pub returns-after-add-clause-word : goal.returns-after-add-clause-word
returns-after-add-clause-word c =
    let kind : c.if-add.kind ≡ cond c.in-Enter.add 3 2 =
    elim c.if-add.branch [
      | then-add w ↦ w.kind-is ∙ sym (ap (λ b. cond b 3 2) w.if-add.true)
      | else-add w ↦ w.kind-is ∙ sym (ap (λ b. cond b 3 2) w.if-add.false)
    ] in
    rw (c.from.ensures, c.from-in-Enter.ensures)
    (enter_packed c.args.self c.if-add.kind c.in-Enter.add c.in-Enter.u c.in-Enter.v c.requires c.in-Enter.is kind).word

pub returns-after-add-clause-read_back : goal.returns-after-add-clause-read_back
returns-after-add-clause-read_back c =
    let kind : c.if-add.kind ≡ cond c.in-Enter.add 3 2 =
    elim c.if-add.branch [
      | then-add w ↦ w.kind-is ∙ sym (ap (λ b. cond b 3 2) w.if-add.true)
      | else-add w ↦ w.kind-is ∙ sym (ap (λ b. cond b 3 2) w.if-add.false)
    ] in
    rw (c.from.ensures, c.from-in-Enter.ensures)
    (enter_packed c.args.self c.if-add.kind c.in-Enter.add c.in-Enter.u c.in-Enter.v c.requires c.in-Enter.is kind).back

pub returns-in-Put-clause-word : goal.returns-in-Put-clause-word
returns-in-Put-clause-word c = rw (c.from-in-Put.ensures, c.from-in-Put-2.ensures) (put_packed c.args.self c.in-Put.x c.in-Put.p c.requires c.in-Put.is).word

pub returns-in-Put-clause-read_back : goal.returns-in-Put-clause-read_back
returns-in-Put-clause-read_back c =
    rw (c.from-in-Put.ensures, c.from-in-Put-2.ensures) (put_packed c.args.self c.in-Put.x c.in-Put.p c.requires c.in-Put.is).back

pub returns-in-Take-clause-word : goal.returns-in-Take-clause-word
returns-in-Take-clause-word c = rw c.from-in-Take.ensures (take_packed c.args.self c.in-Take.x c.requires c.in-Take.is).word

pub returns-in-Take-clause-read_back : goal.returns-in-Take-clause-read_back
returns-in-Take-clause-read_back c = rw c.from-in-Take.ensures (take_packed c.args.self c.in-Take.x c.requires c.in-Take.is).back
