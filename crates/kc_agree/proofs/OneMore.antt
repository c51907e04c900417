-- One answer more, in the words of the calls that give it.
use Rattle.std.proofs.Common.{◌≡◌, ◌≢◌, ℕ, ◌+◌, ◌*◌, ◌<◌, Bool, true, false, List, sym, ap, ◌∙◌, subst, arith}
use mathlib.Core.List.{IsPrefix}
use Rattle.kc_graph.specs.SimpleGraph.{SimpleGraph}
use Rattle.kc_graph.specs.declared.used.UsedPlace.{UsedPlace}
use Rattle.kc_words.specs.VertexWord.{vertex_of}
use Rattle.kc_words.specs.declared.shape.Shape.{Shape}
use Rattle.kc_words.specs.declared.vertex.VertexWord.{VertexWord}
use Rattle.kc_table.specs.declared.view.Event.{Event}
use Rattle.kc_table.specs.Log.{PassSeen, TableName, value_at}
use Rattle.kc_table.specs.TableState.{first_vertex}
use Rattle.kc_table.proofs.Stamps.{stamp-is}
use Rattle.kc_view.specs.Answers.{Answers, has_core, with_place, with_order}
use Rattle.kc_order.specs.Standing.{Compares}
use Rattle.kc_agree.specs.Reads.{IsOtherPlace, StoodSo, WereRead, order_answer, place_after, word_of_place}
use Rattle.kc_agree.specs.Stamps.{place_stamp}
use Rattle.kc_agree.proofs.Answering.{loaded_place, comparison-read}
use Rattle.kc_agree.proofs.Growing.{reads_stay}

-- nothing more, while the log has grown
pub same_read : (t t' : TableName) (opened : SimpleGraph) (old new : List Event) (a b : Answers)
    → t' ≡ t → IsPrefix old new → b ≡ a → WereRead t opened old a → WereRead t' opened new b
same_read t t' opened old new a b table longer same h =
    let later : WereRead t opened new b = subst (WereRead t opened new) (sym same) (reads_stay t opened old new a longer h) in
    subst (λ z. WereRead z opened new b) (sym table) later

-- the place of a vertex as a load has found it is that after the log
pub loaded_is : (t t' words : TableName) (shape : Shape) (new : List Event) (v word found : ℕ) (w : VertexWord)
    → t' ≡ t → t ≡ words → shape ≡ words.shape → word ≡ 2 * shape.items + 2 + v
    → found ≡ value_at t'.opening new word → w ≡ vertex_of found
    → ◌≡◌ {A = UsedPlace} (record { vertex = v; stamp = w.stamp; core = w.core }) (place_after t' new v)
loaded_is t t' words shape new v word found w table named shape-is word-is is w-is =
    let items = ap (λ (z : Shape). z.items) shape-is in
    let here : word ≡ first_vertex t'.shape + v =
    omega (arith, word-is, items, ap (λ (z : TableName). z.shape.items) (table ∙ named)) in
    let all : w ≡ vertex_of (value_at t'.opening new (first_vertex t'.shape + v)) = w-is ∙ ap vertex_of (is ∙ ap (value_at t'.opening new) here) in
    let stamp : w.stamp ≡ place_stamp t' new v = ap (λ (z : VertexWord). z.stamp) all ∙ sym (stamp-is t'.shape t'.opening new v) in
    λ i. record { vertex = v; stamp = stamp i; core = (all i).core }

-- the number of a vertex's word, as the shape that a call was told has it
word_is : (t t' words : TableName) (shape : Shape) (v word : ℕ) → t' ≡ t → t ≡ words → shape ≡ words.shape → word ≡ 2 * shape.items + 2 + v
    → word ≡ first_vertex t'.shape + v
word_is t t' words shape v word table named shape-is is =
    omega (arith, is, ap (λ (z : Shape). z.items) shape-is, ap (λ (z : TableName). z.shape.items) (table ∙ named))

-- a load that finds another value than the place's has found another place
pub other_is : (t t' words : TableName) (shape : Shape) (new : List Event) (p : UsedPlace) (word first second : ℕ)
    → t' ≡ t → t ≡ words → shape ≡ words.shape → word ≡ 2 * shape.items + 2 + p.vertex
    → first ≡ word_of_place p → second ≡ value_at t'.opening new word → first ≢ second
    → IsOtherPlace t' new p (record { word = word; first = first; second = second })
other_is t t' words shape new p word first second table named shape-is is was now ne = record {
  word = word_is t t' words shape p.vertex word table named shape-is is;
  first = was;
  second = now;
  differ = ne;
}

-- and one that finds the same value has found the place
pub still_is : (t t' words : TableName) (shape : Shape) (new : List Event) (p : UsedPlace) (word first second : ℕ)
    → t' ≡ t → t ≡ words → shape ≡ words.shape → word ≡ 2 * shape.items + 2 + p.vertex
    → first ≡ word_of_place p → second ≡ value_at t'.opening new word → first ≡ second
    → value_at t'.opening new (first_vertex t'.shape + p.vertex) ≡ word_of_place p
still_is t t' words shape new p word first second table named shape-is is was now same =
    ap (value_at t'.opening new) (sym (word_is t t' words shape p.vertex word table named shape-is is)) ∙ (sym now ∙ (sym same ∙ was))

-- the place of a vertex that a load found is one answer more
pub core_read : (t t' words : TableName) (opened : SimpleGraph) (old new : List Event) (a b : Answers) (v : ℕ)
    → t' ≡ t → t ≡ words → v < words.shape.fixed → IsPrefix old new → b ≡ with_place a (place_after t' new v) → has_core a v ≡ false
    → WereRead t opened old a → WereRead t' opened new b
core_read t t' words opened old new a b v table named low longer more none h =
    let below : v < t'.shape.fixed = omega (arith, low, ap (λ (z : TableName). z.shape.fixed) (table ∙ named)) in
    let before : WereRead t' opened old a = subst (λ z. WereRead z opened old a) (sym table) h in
    subst (WereRead t' opened new) (sym more) (loaded_place t' opened old new a v below longer none before)

-- the order of two vertices that a comparison found is one answer more
pub order_read : (t t' : TableName) (opened : SimpleGraph) (old new : List Event) (a b : Answers) (x y : ℕ) (before : Bool)
    → t' ≡ t → StoodSo t old new x y before → b ≡ with_order a (record { x = x; y = y; before = before })
    → x ≢ y → has_core a x ≡ true → has_core a y ≡ true → WereRead t opened old a → WereRead t' opened new b
order_read t t' opened old new a b x y before table stood more differ rx ry h =
    let later : WereRead t opened new b = subst (WereRead t opened new) (sym more) (comparison-read t opened old new a x y before differ rx ry stood h) in
    subst (λ z. WereRead z opened new b) (sym table) later

-- how a comparison that told it found the two
pub stood_so : (old new : PassSeen) (x y : ℕ) (before : Bool) → Compares old new x y (order_answer before) → StoodSo old.table old.log new.log x y before
stood_so old new x y true h = h.1
stood_so old new x y false h = h.1
