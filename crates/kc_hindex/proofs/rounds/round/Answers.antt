-- What the pieces made, taken over, is the round.
use Rattle.std.proofs.Common.{◌∙◌, length}
use Rattle.kc_hindex.proofs.Dealing.{none-rises, round-dealt}
use Rattle.kc_hindex.proofs.rounds.round.Goals as goal

pub take_over-requires-clause-falls : goal.take_over-requires-clause-falls
take_over-requires-clause-falls g c =
    none-rises c.args.graph.now c.args.numbers.now c.args.crossed.now (length c.args.crossed.now) c.fill_pieces.new.pieces c.requires.ready
    c.fill_pieces.ensures.dealt c.fill_pieces.ensures.made

pub returns-clause-round : goal.returns-clause-round
returns-clause-round g c =
    round-dealt c.args.graph.now c.args.numbers.now c.take_over.new.numbers (length c.args.crossed.now) c.fill_pieces.new.pieces
    (c.take_over.ensures.len ∙ c.requires.ready.one_each) c.fill_pieces.ensures.dealt c.fill_pieces.ensures.made c.take_over.ensures.taken
