-- Each store to such a word raises its version or its stamp, so where the value is the same in the end, there was none between.
use Rattle.kc_table.proofs.LegalLogs.{legal-prefix}
use Rattle.kc_table.proofs.Fresh.{fresh_vertex, word-fresh}
use Rattle.kc_table.proofs.laws.no_value_comes_back.Goals as goal

pub returns-clause-versioned : goal.returns-clause-versioned
returns-clause-versioned c =
    λ shape opening word first between last v a b legal.
    word-fresh shape opening word first between last v a b (legal-prefix shape opening between last b legal) legal

pub returns-clause-vertex : goal.returns-clause-vertex
returns-clause-vertex c =
    λ shape opening v first between last a b legal.
    fresh_vertex shape opening v first between last a b (legal-prefix shape opening between last b legal) legal
