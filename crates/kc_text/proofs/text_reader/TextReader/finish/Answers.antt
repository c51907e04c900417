-- The reading is accepted, and the input is made of it.
use Rattle.std.proofs.Common.{◌≡◌, ◌≢◌, ◌<◌, ◌^◌, ℕ, List, length, ap, sym, subst, ◌∙◌, arith, Vec, Global, map}
use Rattle.kc_text.specs.declared.change.ChangeLine.{ChangeLine}
use Rattle.kc_text.specs.declared.input.Input.{Input}
use Rattle.kc_text.specs.declared.reading.Reading.{Reading}
use Rattle.kc_text.specs.Feeding.{WasFed}
use Rattle.kc_text.specs.Meaning.{ends, ends_of}
use Rattle.kc_text.specs.Inputs.{AreAmong, AreEdges, numbered_batch, parts_of_batch, start_graph}
use Rattle.std.specs.Prelude.{All}
use Rattle.kc_text.proofs.Batched.{Accepted, IsMadeOf, accepted-apart, accepted-batches, accepted-edges, accepted-short, input-made, made-batches, made-counts}
use Rattle.kc_text.proofs.Batched.{made-few_batches, made-short, reading-accepted}
use Rattle.kc_text.proofs.text_reader.TextReader.finish.Goals as goal
use Rattle.kc_text.proofs.text_reader.TextReader.finish.Goals.{After-deref-2, After-drop-reading-3}

-- the lists that `input_of` had are those of the reading
made_of : (reading : Reading) (input : Input) (edges : List (ℕ × ℕ)) (batches : List (Vec ChangeLine Global)) → edges ≡ reading.edges.items
    → batches ≡ reading.batches.items
    → input.ids.items ≡ reading.ids.items → AreEdges (start_graph reading.ids.items edges) input.start.items
    → map parts_of_batch input.batches.items ≡ map (λ batch. numbered_batch reading.ids.items batch.items) batches → IsMadeOf reading input
made_of reading input edges batches e b ids start parts = record {
  ids = ids;
  start = subst (λ (es : List (ℕ × ℕ)). AreEdges (start_graph reading.ids.items es) input.start.items) e start;
  batches = parts ∙ ap (map (λ (batch : Vec ChangeLine Global). numbered_batch reading.ids.items batch.items)) b;
}

-- the reading has no refusal, so it is accepted
is-accepted : (c : After-deref-2) (fed : List ℕ) → WasFed c.args.self fed → Accepted c.args.self.limits fed c.in_ok-reading.reading
is-accepted c fed h = reading-accepted c.args.self.limits fed c.in_ok-reading.reading (c.in_ok-reading.ensures fed h) c.in_default.is

-- so it is for some bytes that were fed
accepted : (c : After-deref-2) → Accepted c.args.self.limits c.requires.0 c.in_ok-reading.reading
accepted c = is-accepted c c.requires.0 c.requires.1

-- the input is made of it
is-made : (c : After-drop-reading-3) → IsMadeOf c.in_ok-reading.reading c.in_ok-input_of.field-0
is-made c = made_of c.in_ok-reading.reading c.in_ok-input_of.field-0 _ _ c.deref.ensures.value c.deref-2.ensures.value c.in_ok-input_of.ensures.ids
    c.in_ok-input_of.ensures.start c.in_ok-input_of.ensures.batches

pub input_of-requires-clause-few : goal.input_of-requires-clause-few
input_of-requires-clause-few c = let a = accepted (goal.at.input_of-requires-clause-few c).After-deref-2 in omega (arith, a.few)

pub input_of-requires-clause-edges : goal.input_of-requires-clause-edges
input_of-requires-clause-edges c =
    subst (λ (es : List (ℕ × ℕ)). AreAmong c.in_ok-reading.reading.ids.items (ends es)) (sym c.deref.ensures.value)
    (accepted-edges _ _ _ (accepted (goal.at.input_of-requires-clause-edges c).After-deref-2))

pub input_of-requires-clause-batches : goal.input_of-requires-clause-batches
input_of-requires-clause-batches c =
    subst (λ (bs : List (Vec ChangeLine Global)). All (λ batch. AreAmong c.in_ok-reading.reading.ids.items (ends (map ends_of batch.items))) bs)
    (sym c.deref-2.ensures.value) (accepted-batches _ _ _ (accepted (goal.at.input_of-requires-clause-batches c).After-deref-2))

pub input_of-requires-clause-apart : goal.input_of-requires-clause-apart
input_of-requires-clause-apart c =
    subst (λ (bs : List (Vec ChangeLine Global)). All (λ batch. All (λ c. c.a ≢ c.b) batch.items) bs) (sym c.deref-2.ensures.value)
    (accepted-apart _ _ _ (accepted (goal.at.input_of-requires-clause-apart c).After-deref-2))

pub input_of-requires-clause-short : goal.input_of-requires-clause-short
input_of-requires-clause-short c =
    subst (λ (bs : List (Vec ChangeLine Global)). All (λ batch. length batch.items < 2 ^ 32) bs) (sym c.deref-2.ensures.value)
    (λ i d l. let few = accepted-short _ _ _ (accepted (goal.at.input_of-requires-clause-short c).After-deref-2) i d l in omega arith)

pub returns-clause-input : goal.returns-clause-input
returns-clause-input c = λ fed h.
    let at = goal.at.returns-clause-input c in
    input-made _ _ _ _ (is-accepted at.After-deref-2 fed h) (is-made at.After-drop-reading-3)

pub returns-clause-few : goal.returns-clause-few
returns-clause-few c =
    let a = accepted (goal.at.returns-clause-few c).After-deref-2 in
    omega (arith, a.few, ap (length) c.in_ok-input_of.ensures.ids)

pub returns-clause-few_batches : goal.returns-clause-few_batches
returns-clause-few_batches c =
    let at = goal.at.returns-clause-few_batches c in
    made-few_batches _ _ _ _ (accepted at.After-deref-2) (is-made at.After-drop-reading-3)

pub returns-clause-short : goal.returns-clause-short
returns-clause-short c = let at = goal.at.returns-clause-short c in made-short _ _ _ _ (accepted at.After-deref-2) (is-made at.After-drop-reading-3)

pub returns-clause-counts : goal.returns-clause-counts
returns-clause-counts c = let at = goal.at.returns-clause-counts c in made-counts _ _ _ _ (accepted at.After-deref-2) (is-made at.After-drop-reading-3)

pub returns-clause-batches : goal.returns-clause-batches
returns-clause-batches c = let at = goal.at.returns-clause-batches c in made-batches _ _ _ _ (accepted at.After-deref-2) (is-made at.After-drop-reading-3)
