-- A change that fits is one more of the last batch, and names two ids more.
use Rattle.std.proofs.Common.{◌≡◌, ◌+◌, refl, sym, ap, subst, ◌∙◌, Vec, Global}
use Rattle.std.specs.Prelude.{IsSome}
use Rattle.std.specs.Option.{option_map}
use Rattle.kc_text.specs.declared.change.ChangeLine.{ChangeLine}
use Rattle.kc_text.specs.declared.reader.Reader.{Reader}
use Rattle.kc_text.specs.declared.line.TextLine.TheVariants as said
use Rattle.kc_text.specs.Meaning.{passed_limit, with_line}
use Rattle.kc_text.specs.Readers.{told_by, told_lines}
use Rattle.kc_text.proofs.Few.{exact-before, few-change}
use Rattle.kc_text.proofs.Keeping.{keeps-change, with_last}
use Rattle.kc_text.proofs.Refused.{refused-limit, refused-unfit}
use Rattle.kc_text.proofs.ToldLines.{fits-some, lines-change, told-same, told-whole}
use Rattle.kc_text.proofs.reader.Reader.take_change.Goals as goal

pub passed_limit-requires : goal.passed_limit-requires
passed_limit-requires c = keeps-change c.args.self.now _ c.args.change (ap (with_last c.args.self.now) (c.in_ok-kind.ensures.changes c.in_default.is)) refl
    c.in_ok-count_ids.ensures.gains c.requires.kept

pub returns-clause-kept : goal.returns-clause-kept
returns-clause-kept c = λ _. keeps-change c.args.self.now _ c.args.change
    (ap (with_last c.args.self.now) (c.in_ok-kind.ensures.changes c.in_default.is)) refl c.in_ok-count_ids.ensures.gains c.requires.kept

pub returns-clause-exact : goal.returns-clause-exact
returns-clause-exact c =
    let new : Reader = record {
      edges = c.args.self.now.edges;
      earlier = c.args.self.now.earlier;
      last = c.take_into.new.last;
      changes =
          c.args.self.now.changes + 1;
      ids = c.count_ids.new.ids;
    } in
    exact-before c.args.limits.now c.args.self.now new (said.Change c.args.change)
    (ap (with_last c.args.self.now) (c.in_ok-kind.ensures.changes c.in_default.is)) c.in_ok-count_ids.ensures.looks
    (few-change c.args.limits.now (told_by c.args.self.now) c.args.change)

pub returns-in-Some-clause-refused : goal.returns-in-Some-clause-refused
returns-in-Some-clause-refused c = λ _.
    refused-unfit c.args.limits.now (told_by c.args.self.now) c.args.change c.in_ok-kind.field-0 c.in-Some.kind c.in_ok-kind.ensures.refused
    c.in-Some.is

pub returns-clause-refused : goal.returns-clause-refused
returns-clause-refused c = λ exact.
    let old : Reader = c.args.self.now in
    let new : Reader = record { edges = old.edges; earlier = old.earlier; last = c.take_into.new.last; changes = old.changes + 1; ids = c.count_ids.new.ids } in
    let told : told_by new ≡ with_line (told_by old) (said.Change c.args.change) = ap (with_last old) (c.in_ok-kind.ensures.changes c.in_default.is) in
    refused-limit c.args.limits.now (told_by old) c.args.change c.in_ok-kind.field-0 c.passed_limit.result c.in_ok-kind.ensures.refused c.in_default.is
    (c.passed_limit.ensures exact ∙ ap (passed_limit c.args.limits.now) told)

pub returns-in-Some-clause-tells : goal.returns-in-Some-clause-tells
returns-in-Some-clause-tells c = told-same _ _ _ _
    (ap (with_last c.args.self.now) (ap (option_map (λ (batch : Vec ChangeLine Global). batch.items))
    (c.in_ok-kind.ensures.same (subst IsSome (sym c.in-Some.is) refl))))

pub returns-clause-tells : goal.returns-clause-tells
returns-clause-tells c =
    let (batch, last) = fits-some (told_by c.args.self.now).last c.args.change (sym c.in_ok-kind.ensures.refused ∙ c.in_default.is) in
    told-whole _ (told_by c.args.self.now) (said.Change c.args.change) _
    (lines-change (told_by c.args.self.now) c.args.change batch last
    ∙ sym (ap told_lines (ap (with_last c.args.self.now) (c.in_ok-kind.ensures.changes c.in_default.is))))
