-- Where the bytes may be taken in one go, their edges are.
use Rattle.std.proofs.Common.{length, refl, Some}
use Rattle.kc_text.specs.declared.text_reader.TextReader.{TextReader}
use Rattle.kc_text.proofs.Fed.{fed-plain, keeps_up-plain, plain-few}
use Rattle.kc_text.proofs.text_reader.TextReader.feed_plain.Goals as goal

pub take_plain-requires-clause-can : goal.take_plain-requires-clause-can
take_plain-requires-clause-can c =
    let (fed, h) = c.requires.fed in
    (keeps_up-plain c.args.self.now fed (length c.args.bytes.now) (length c.args.edges.now) c.in-Some.left c.in-Some.ensures h).can

pub take_plain-requires-clause-few : goal.take_plain-requires-clause-few
take_plain-requires-clause-few c =
    let (fed, h) = c.requires.fed in
    plain-few c.args.self.now fed c.args.bytes.now c.args.edges.now c.in-Some.left c.requires.ended c.requires.told c.in-Some.ensures h

pub returns-clause-fed : goal.returns-clause-fed
returns-clause-fed c = λ fed.
    let new : TextReader = record {
      limits = c.args.self.now.limits;
      lines = c.take_plain.new.self;
      carry = c.args.self.now.carry;
      left = Some c.in-Some.left;
    } in
    fed-plain c.args.self.now new fed c.args.bytes.now c.args.edges.now c.in-Some.left c.requires.ended c.requires.told c.in-Some.ensures
    c.in_ok-take_plain.ensures.reads c.in_ok-take_plain.ensures.can c.in_ok-take_plain.ensures.lines refl refl refl
