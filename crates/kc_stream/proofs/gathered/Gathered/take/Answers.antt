-- What the line tells is judged, and held where it is not refused; in a batch that is dropped it is passed over.
use Rattle.std.proofs.Common.{◌≡◌, true, false, None, Some, sym, ap, subst, ◌∙◌, arith, refl}
use Rattle.std.specs.Prelude.{is_some}
use Rattle.kc_text.specs.declared.line.TextLine.{TextLine}
use Rattle.kc_text.specs.declared.refusal.Refusal.{Refusal}
use Rattle.kc_text.specs.Meaning.{with_line}
use Rattle.kc_lists.proofs.Results.{none-from}
use Rattle.kc_stream.specs.Gathering.{Gathers, Holds, IsSpoilt}
use Rattle.kc_stream.specs.Hearing.{judged, passed, refused, told_by}
use Rattle.kc_stream.proofs.Holding.{no-value}
use Rattle.kc_stream.proofs.Reading.{hear-judged, hear-passed}
use Rattle.kc_stream.proofs.gathered.Gathered.take.Goals as goal

pub returns-then-is_some-2 : goal.returns-then-is_some-2
returns-then-is_some-2 c heard g =
    let going : is_some c.args.self.now.refusal ≡ false = grind (arith, c.is_some.ensures, c.if-is_some.false) in
    let none : heard.refusal ≡ None = sym g.refusal ∙ none-from c.args.self.now.refusal going in
    let some : is_some heard.dropped ≡ true = ap is_some (sym g.dropped) ∙ sym c.is_some-2.ensures ∙ c.if-is_some-2.true in
    let told : TextLine = told_by heard.told c.args.line in
    let is : c.told_by-told.result ≡ told = c.told_by-told.ensures heard.told (g.holds none) in
    subst (Gathers c.pass.new.self) (ap (passed heard) is ∙ sym (hear-passed c.args.bad_lines heard told none some)) (c.pass.ensures heard none some g)

pub returns-in_default : goal.returns-in_default
returns-in_default c heard g =
    let going : is_some c.args.self.now.refusal ≡ false = grind (arith, c.is_some.ensures, c.if-is_some.false) in
    let none : c.args.self.now.refusal ≡ None = none-from c.args.self.now.refusal going in
    let kept : is_some c.args.self.now.dropped ≡ false = grind (arith, c.is_some-2.ensures, c.if-is_some-2.false) in
    let undropped : c.args.self.now.dropped ≡ None = none-from c.args.self.now.dropped kept in
    let unrefused : heard.refusal ≡ None = sym g.refusal ∙ none in
    let h : Holds c.args.self.now heard.told = g.holds unrefused in
    let told : TextLine = told_by heard.told c.args.line in
    let is : c.told_by-told.result ≡ told = c.told_by-told.ensures heard.told h in
    let fine : refused heard.told told ≡ None =
    ap (refused heard.told) (sym is) ∙ sym (c.in_ok-cause.ensures.refused heard.told h) ∙ c.in_default.is in
    let held : Holds c.take_line.new.self (with_line heard.told told) =
    subst (λ (line : TextLine). Holds c.take_line.new.self (with_line heard.told line)) is (c.in_ok-cause.ensures.holds c.in_default.is heard.told h) in
    subst (Gathers _)
    (sym (hear-judged c.args.bad_lines heard told unrefused (sym g.dropped ∙ undropped) ∙ ap (judged c.args.bad_lines heard told) fine)) (record {
      lines = omega (arith, c.saturating_add-self.ensures, c.in_ok-cause.ensures.lines, g.lines);
      refusal = c.in_ok-cause.ensures.refusal ∙ none;
      dropped = c.in_ok-cause.ensures.dropped ∙ undropped;
      refused_batches = c.in_ok-cause.ensures.refused_batches ∙ g.refused_batches;
      emptied = no-value {X = Refusal} _ None refl;
      holds = λ _. record {
        ids = held.ids;
        in_batch = held.in_batch;
        begun = held.begun;
        edges = held.edges;
        edge_ends = held.edge_ends;
        updates = held.updates;
        update_ends = held.update_ends;
        edges_within = held.edges_within;
        updates_within = held.updates_within;
        no_edges = held.no_edges;
        knows = held.knows;
      };
    })

pub returns-in-Some : goal.returns-in-Some
returns-in-Some c heard g =
    let going : is_some c.args.self.now.refusal ≡ false = grind (arith, c.is_some.ensures, c.if-is_some.false) in
    let none : c.args.self.now.refusal ≡ None = none-from c.args.self.now.refusal going in
    let kept : is_some c.args.self.now.dropped ≡ false = grind (arith, c.is_some-2.ensures, c.if-is_some-2.false) in
    let undropped : c.args.self.now.dropped ≡ None = none-from c.args.self.now.dropped kept in
    let unrefused : heard.refusal ≡ None = sym g.refusal ∙ none in
    let h : Holds c.args.self.now heard.told = g.holds unrefused in
    let told : TextLine = told_by heard.told c.args.line in
    let is : c.told_by-told.result ≡ told = c.told_by-told.ensures heard.told h in
    let cause : refused heard.told told ≡ Some c.in-Some.kind =
    ap (refused heard.told) (sym is) ∙ sym (c.in_ok-cause.ensures.refused heard.told h) ∙ c.in-Some.is in
    let spoilt : IsSpoilt c.take_line.new.self heard.told = c.in_ok-cause.ensures.spoilt (ap is_some c.in-Some.is) heard.told h in
    subst (Gathers c.refuse.new.self)
    (sym (hear-judged c.args.bad_lines heard told unrefused (sym g.dropped ∙ undropped) ∙ ap (judged c.args.bad_lines heard told) cause))
    (c.refuse.ensures heard (record {
      lines = omega (arith, c.saturating_add-self.ensures, c.in_ok-cause.ensures.lines, g.lines);
      refusal = c.in_ok-cause.ensures.refusal ∙ none;
      dropped = c.in_ok-cause.ensures.dropped ∙ undropped;
      refused_batches = c.in_ok-cause.ensures.refused_batches ∙ g.refused_batches;
      spoilt = record { in_batch = spoilt.in_batch; no_edges = spoilt.no_edges; knows = spoilt.knows };
    }))
