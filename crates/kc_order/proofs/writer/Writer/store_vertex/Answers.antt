-- A vertex word may be stored where its section has put the vertex.
use Rattle.kc_lists.specs.Lists.{without}
use Rattle.std.proofs.Common.{cond, eqb, ◌≡◌, ◌<◌, ◌+◌, ◌++◌, [], ◌∷◌, ℕ, sym, ap, ◌∙◌, subst}
use Rattle.kc_words.specs.VertexWord.{vertex_word}
use Rattle.kc_words.specs.declared.shape.Shape.{Shape}
use Rattle.kc_table.specs.Legal as legal
use Rattle.kc_table.specs.Log.{Seen, TableName, event}
use Rattle.kc_table.specs.TableState.{state_of, first_vertex}
use Rattle.kc_order.specs.Writers.{Stores, Tied, entries_after, unsealed_after, vertex_word_after, with_store}
use Rattle.kc_order.proofs.Sections.{fits-vertex, leaves-now, sealed_at, stores-now, vertex-leaves}
use Rattle.kc_order.proofs.writer.Writer.store_vertex.Goals.{After-pack}
use Rattle.kc_order.proofs.writer.Writer.store_vertex.Goals as goal

-- what the writer has seen before the store
abbrev before : After-pack → Seen
before c = c.self.inside.seat

-- the word of the vertex
abbrev value : After-pack → ℕ
value c = vertex_word record { stamp = c.args.stamp; core = c.args.core }

-- where the word of the vertex stands
abbrev place : After-pack → ℕ
place c = first_vertex (before c).table.shape + c.args.v

-- the writer's table is the one that is given
shape-same : (c : After-pack) → (before c).table.shape ≡ c.args.words.now.shape
shape-same c = ap (λ (t : TableName). t.shape) (ap (λ (z : Seen). z.table) c.self.view_is ∙ c.requires.table)

-- the vertex is one of the writer's table
vertex-below : (c : After-pack) → c.args.v < (before c).table.shape.fixed
vertex-below c = subst (λ (s : Shape). c.args.v < s.fixed) (sym (shape-same c)) c.requires.vertex

-- the program stores at the vertex's place
place-is : (c : After-pack) → c.vertex-word.result ≡ place c
place-is c = c.vertex-word.ensures ∙ ap (λ (s : Shape). first_vertex s + c.args.v) (c.shape.ensures ∙ sym (shape-same c))

-- what the program stores is the vertex's word at its place
stored-so : (c : After-pack) (new : Seen) → new ≡ with_store (before c) c.vertex-word.result c.pack.result → new ≡ with_store (before c) (place c) (value c)
stored-so c new is = is ∙ (λ i. with_store (before c) (place-is c i) (c.pack.ensures.word i))

-- the store is legal, and the plain list stays tied
sealed : (c : After-pack) → legal.Legal (before c).table.shape (before c).table.opening ((before c).log ++ event (place c) (value c) ∷ [])
    × ((now : Seen) → now ≡ with_store (before c) (place c) (value c) → Tied now c.self.inside.plain)
sealed c =
    sealed_at (before c) c.self.inside.plain c.args.v (value c) c.self.invariant (vertex-below c)
    (fits-vertex c.args.stamp c.args.core c.ranges.stamp.fits c.ranges.core.fits)
    (subst (λ (s : Shape × Seen). legal.Seals s.0 (state_of s.1.table.shape s.1.table.opening s.1.log) c.args.v (value c))
    (λ i. (sym (shape-same c) i, sym c.self.view_is i)) c.requires.section)

pub store-requires-clause-legal : goal.store-requires-clause-legal
store-requires-clause-legal c =
    let at = (goal.at.store-requires-clause-legal c).After-pack in
    subst (λ (e : ℕ × ℕ). legal.Legal (before at).table.shape (before at).table.opening ((before at).log ++ event e.0 e.1 ∷ []))
    (λ i. (sym (place-is at) i, sym c.pack.ensures.word i)) (sealed at).0

pub invariant_of-self : goal.invariant_of-self
invariant_of-self c =
    let at = (goal.at.invariant_of-self c).After-pack in
    (sealed at).1 c.store.new.writer (stored-so at c.store.new.writer c.store.ensures)

pub returns-clause-stored : goal.returns-clause-stored
returns-clause-stored c =
    let at = (goal.at.returns-clause-stored c).After-pack in
    subst (λ (s : Shape). Stores c.args.self.now c.store.new.writer (first_vertex s + c.args.v) (value at)) (shape-same at)
    (stores-now (before at) c.args.self.now c.store.new.writer (place at) (value at) c.self.view_is (sealed at).0
    (stored-so at c.store.new.writer c.store.ensures))

pub returns-clause-leaves : goal.returns-clause-leaves
returns-clause-leaves c =
    let at = (goal.at.returns-clause-leaves c).After-pack in
    leaves-now (before at) c.args.self.now c.store.new.writer (place at) (value at) entries_after
    (λ (s : Seen). without c.args.v (unsealed_after s))
    (λ (s : Seen) (w : ℕ). cond (eqb w c.args.v) (value at) (vertex_word_after s w)) c.self.view_is
    (stored-so at c.store.new.writer c.store.ensures)
    (vertex-leaves (before at) c.self.inside.plain c.args.v (value at) c.self.invariant (vertex-below at))
