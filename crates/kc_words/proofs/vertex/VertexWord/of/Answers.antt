-- The shift and the mask are quotient and rest by two to the width of a core number, which make up the word again.
use Rattle.std.proofs.Common.{◌∙◌, ap}
use Rattle.kc_words.specs.VertexWord.{vertex_word}
use Rattle.kc_words.proofs.Packing.{vertex_masked, vertex_word-vertex_of}
use Rattle.kc_words.proofs.vertex.VertexWord.of.Goals as goal

pub returns-clause-fields : goal.returns-clause-fields
returns-clause-fields c = vertex_masked c.args.word

pub returns-clause-packed_back : goal.returns-clause-packed_back
returns-clause-packed_back c = ap vertex_word (vertex_masked c.args.word) ∙ vertex_word-vertex_of c.args.word
