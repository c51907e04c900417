-- The edges are told, and their lines counted.
use Rattle.std.proofs.Common.{refl}
use Rattle.kc_text.proofs.AtOnce.{HasMore, edges-read, reads-edges}
use Rattle.kc_text.proofs.reading.LineReader.take_plain.Goals as goal

pub returns-clause-reads : goal.returns-clause-reads
returns-clause-reads c = λ before.
    let old = c.args.self.now in
    let edges = c.args.edges.now in
    let more : HasMore old.reader c.take_edges.new.self edges = record {
      edges_are = c.in_ok-take_edges.ensures.edges;
      earlier = c.in_ok-take_edges.ensures.earlier;
      last = c.in_ok-take_edges.ensures.last;
      changes_are = c.in_ok-take_edges.ensures.changes;
      ids = c.in_ok-take_edges.ensures.ids;
    } in
    reads-edges c.args.limits.now old _ before edges c.requires.going (λ lines.
    edges-read c.args.limits.now old _ lines edges c.requires.going c.requires.going (c.requires.can.kept c.requires.going) c.requires.room more
    c.in_ok-count_edges.ensures.lines (c.in_ok-count_edges.ensures.numbers lines edges refl))
