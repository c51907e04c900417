-- The stamp and the core number are joined, and are its quotient and rest by two to the width of a core number.
use Rattle.kc_words.specs.VertexWord.{vertex_word, vertex_of}
use Rattle.kc_words.proofs.vertex.VertexWord.pack.Goals as goal

pub returns-clause-word : goal.returns-clause-word
unfolding vertex_word
returns-clause-word c = c.joined.ensures.sum

pub returns-clause-read_back : goal.returns-clause-read_back
unfolding vertex_of
returns-clause-read_back c = rw (c.joined.ensures.high_again, c.joined.ensures.low_again)
