-- The reading is accepted, and its ids and edges are handed on.
use Rattle.std.proofs.Common.{ℕ, List, length, ap, sym, subst, arith}
use Rattle.kc_text.specs.Inputs.{AreAmong}
use Rattle.kc_text.specs.Meaning.{ends}
use Rattle.kc_text.proofs.Batched.{Accepted, accepted-edges, reading-accepted}
use Rattle.kc_text.proofs.text_reader.TextReader.finish_edges.Goals as goal
use Rattle.kc_text.proofs.text_reader.TextReader.finish_edges.Goals.{After-deref}

-- the reading has no refusal, so it is accepted for the bytes that were fed
accepted : (c : After-deref) → Accepted c.args.self.limits c.requires.0 c.in_ok-reading.reading
accepted c = reading-accepted c.args.self.limits c.requires.0 c.in_ok-reading.reading (c.in_ok-reading.ensures c.requires.0 c.requires.1) c.in_default.is

pub edges_of-requires-clause-few : goal.edges_of-requires-clause-few
edges_of-requires-clause-few c = let a = accepted (goal.at.edges_of-requires-clause-few c).After-deref in omega (arith, a.few)

pub edges_of-requires-clause-among : goal.edges_of-requires-clause-among
edges_of-requires-clause-among c =
    subst (λ (es : List (ℕ × ℕ)). AreAmong c.in_ok-reading.reading.ids.items (ends es)) (sym c.deref.ensures.value)
    (accepted-edges _ _ _ (accepted (goal.at.edges_of-requires-clause-among c).After-deref))

pub returns-clause-few : goal.returns-clause-few
returns-clause-few c =
    let a = accepted (goal.at.returns-clause-few c).After-deref in
    omega (arith, a.few, ap (length) c.in_ok-edges_of.ensures.ids)
