-- An edge is one more, and names two ids more.
use Rattle.std.proofs.Common.{refl, ap}
use Rattle.kc_text.specs.declared.reader.Reader.{Reader}
use Rattle.kc_text.specs.declared.line.TextLine.TheVariants as said
use Rattle.kc_text.specs.Readers.{told_by}
use Rattle.kc_text.proofs.Few.{exact-before, few-edge}
use Rattle.kc_text.proofs.Keeping.{keeps-edge, with_edges}
use Rattle.kc_text.proofs.ToldLines.{told-same}
use Rattle.kc_text.proofs.reader.Reader.take_edge.Goals as goal

pub returns-then-is_some-clause-tells : goal.returns-then-is_some-clause-tells
returns-then-is_some-clause-tells c = told-same _ _ _ _ refl

pub passed_limit-requires : goal.passed_limit-requires
passed_limit-requires c = keeps-edge c.args.self.now _ c.args.a c.args.b
    (ap (with_edges c.args.self.now) c.in_ok-push.ensures.items) refl c.in_ok-count_ids.ensures.gains c.requires

pub returns-clause-kept : goal.returns-clause-kept
returns-clause-kept c = λ _. keeps-edge c.args.self.now _ c.args.a c.args.b
    (ap (with_edges c.args.self.now) c.in_ok-push.ensures.items) refl c.in_ok-count_ids.ensures.gains c.requires

pub returns-clause-exact : goal.returns-clause-exact
returns-clause-exact c =
    let new : Reader = record {
      edges = c.push.new.self;
      earlier = c.args.self.now.earlier;
      last = c.args.self.now.last;
      changes =
          c.args.self.now.changes;
      ids = c.count_ids.new.ids;
    } in
    exact-before c.args.limits.now c.args.self.now new (said.Edge c.args.a c.args.b) (ap (with_edges c.args.self.now) c.in_ok-push.ensures.items)
    c.in_ok-count_ids.ensures.looks (few-edge c.args.limits.now (told_by c.args.self.now) c.args.a c.args.b)
