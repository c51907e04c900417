-- What an insertion asks, where the answers are those of one state.
use Rattle.std.specs.Prelude.{◌≡◌, ◌⊎◌, All}
use Rattle.kc_graph.specs.Lawful.{Ranked, IsCertified}
use Rattle.kc_graph.specs.declared.update.Update.{Update}
use Rattle.kc_view.specs.Answers.{Answers, Agrees}
use Rattle.kc_view.specs.Sure.{InForward}

-- lists of the lesser end and of vertices that the new edge concerns, and no others
abbrev pub AskForward : Update → Answers → Type 0
AskForward update a = (s : Ranked) → IsCertified s → Agrees a s → All (λ e. (e.vertex ≡ update.u) ⊎ InForward s update e.vertex) a.edges
