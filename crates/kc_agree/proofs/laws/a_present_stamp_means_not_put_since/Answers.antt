-- A put opens the vertex, and its seal raises the stamp. Where the stamp has not risen, the word is the same.
use Rattle.std.proofs.Common.{ap, sym}
use Rattle.kc_words.specs.VertexWord.{vertex_of}
use Rattle.kc_table.proofs.Stamps.{same-stamp}
use Rattle.kc_agree.proofs.Unmoved.{stays_put, was_sealed}
use Rattle.kc_agree.proofs.laws.a_present_stamp_means_not_put_since.Goals as goal

pub returns-clause-still : goal.returns-clause-still
returns-clause-still c = λ table first last v low pre rest le. stays_put table first last v low pre rest.legal rest.closed le

pub returns-clause-core : goal.returns-clause-core
returns-clause-core c = λ table first last v pre legal le.
    ap (λ z. (vertex_of z).core) (sym (same-stamp table.shape table.opening first last v pre legal le))

pub returns-clause-sealed : goal.returns-clause-sealed
returns-clause-sealed c = λ table first last v low pre rest le. was_sealed table first last v low pre rest.legal rest.closed le
