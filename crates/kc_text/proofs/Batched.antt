-- Batches between the numbers that stand for ids.
use Rattle.std.proofs.Common.{◌≡◌, ◌≢◌, ◌≤◌, ◌<◌, ◌+◌, ℕ, suc, zero, true, List, [], ◌∷◌, length, length-append, map, get_or, refl, sym, ap, subst, ◌∙◌}
use Rattle.std.proofs.Common.{arith, nat_eq, eqb-true, eq-eqb, min, max, inl, inr, Vec, Global, None}
use Rattle.std.specs.Prelude.{All}
use Rattle.std.specs.List.{flat_map}
use Rattle.std.specs.Set.{is_member}
use Rattle.std.proofs.lemmas.Bool.{or_cases, and_parts, and_from, or_left, or_right, false≢true}
use Rattle.std.proofs.lemmas.List.{get_or-map, length-map}
use Rattle.std.proofs.lemmas.List.Folds.{list_any-append}
use Rattle.kc_graph.specs.declared.update.Update.{Update}
use Rattle.kc_text.specs.declared.change.ChangeLine.{ChangeLine}
use Rattle.kc_text.specs.declared.batch.Batch.{Batch}
use Rattle.kc_text.specs.declared.input.Input.{Input}
use Rattle.kc_text.specs.declared.reading.Reading.{Reading}
use Rattle.kc_text.specs.Inputs.{AreAmong, AreEdges, AreIds, AreUpdates, EdgeBatch, EdgeUpdate, IsBatch, IsInput, edge_of, numbered_batch, numbered_change}
use Rattle.kc_text.specs.Inputs.{numbered_batches, parts_of, parts_of_batch, place, start_graph}
use Rattle.kc_text.specs.Meaning.{Means, Told, batches, changes, ends, ends_of, meaning, name_same, names}
use Rattle.kc_text.specs.Readers.{outcome}
use Rattle.kc_text.specs.Batches.{NamesOnce}
use Rattle.kc_text.specs.Overruling.{deciding}
use Rattle.kc_text.specs.Readings.{IsReading}
use Rattle.kc_text.proofs.Overruled.{deciding-among, deciding-count, deciding-once}
use Rattle.kc_text.proofs.WithinLimits.{AreFit, HasNoLoops, fit-batches, meaning-fit}
use Rattle.kc_text.proofs.NamedPairs.{Same, no_change, parts-same}
use Rattle.kc_text.proofs.Places.{length-AreIds, place-below, place-injective}
use Rattle.kc_text.proofs.Telling.{change_ends, ends-told, ends-batches}
use Rattle.kc_text.specs.declared.limits.Limits.{Limits}

-- an update of the batch, and the change that it is
pub record IsUpdate (ids : List ℕ) (u : Update) (c : ChangeLine) : Type 0 where
  pub a-in : is_member nat_eq ids c.a ≡ true
  pub b-in : is_member nat_eq ids c.b ≡ true
  pub least : u.u ≡ min (place ids c.a) (place ids c.b)
  pub most : u.v ≡ max (place ids c.a) (place ids c.b)

-- an update of a batch is of the change at the same place
pub update-at : (ids : List ℕ) (batch : List ChangeLine) (updates : List Update) → AreUpdates ids batch updates → AreAmong ids (ends (map ends_of batch))
    → (i : ℕ) (d : Update) → i < length updates
    → (i < length batch) × IsUpdate ids (get_or updates i d) (get_or batch i no_change)
update-at ids batch updates same among i d l =
    let count : length updates ≡ length batch = sym (length-map updates parts_of) ∙ (ap (length) same ∙ length-map batch (numbered_change ids)) in
    let l' : i < length batch = omega arith in
    let parts : parts_of (get_or updates i d) ≡ numbered_change ids (get_or batch i no_change) =
    sym (get_or-map parts_of updates i d (parts_of d) l) ∙ ap (λ (t : List EdgeUpdate). get_or t i (parts_of d)) same
    ∙ get_or-map (numbered_change ids) batch i no_change (parts_of d) l' in
    let (a, b) = change_ends batch i no_change l' in (
      l',
      record {
        a-in = among _ a;
        b-in = among _ b;
        least = ap (λ (p : EdgeUpdate). p.u) parts;
        most = ap (λ (p : EdgeUpdate). p.v) parts;
      },
    )

-- the changes of two updates of one edge name the same pair
pub named-again : (ids : List ℕ) (u v : Update) (c d : ChangeLine) → IsUpdate ids u c → IsUpdate ids v d → edge_of u ≡ edge_of v → name_same d c ≡ true
named-again ids u v c d p q e =
    let least : u.u ≡ v.u = ap (λ (x : ℕ × ℕ). x.0) e in
    let most : u.v ≡ v.v = ap (λ (x : ℕ × ℕ). x.1) e in
    let same : Same (place ids d.a) (place ids d.b) (place ids c.a) (place ids c.b) ≡ true =
    parts-same (place ids d.a) (place ids d.b) (place ids c.a) (place ids c.b) (sym q.least ∙ (sym least ∙ p.least)) (sym q.most ∙ (sym most ∙ p.most)) in
    elim (or_cases _ _ same) [
      | inl k ↦
          let (x, y) = and_parts _ _ k in
          or_left _ _ (and_from _ _ (eq-eqb d.a c.a (place-injective ids d.a c.a q.a-in (eqb-true _ _ x)))
          (eq-eqb d.b c.b (place-injective ids d.b c.b q.b-in (eqb-true _ _ y))))
      | inr k ↦
          let (x, y) = and_parts _ _ k in
          or_right _ _ (and_from _ _ (eq-eqb d.a c.b (place-injective ids d.a c.b q.a-in (eqb-true _ _ x)))
          (eq-eqb d.b c.a (place-injective ids d.b c.a q.b-in (eqb-true _ _ y))))
    ]

-- updates are fit, each within the vertices and no two of one edge, where the changes name no pair twice
pub fit-updates : (ids : List ℕ) (batch : List ChangeLine) (updates : List Update) → AreUpdates ids batch updates → AreAmong ids (ends (map ends_of batch))
    → NamesOnce batch → IsBatch (length ids) updates
fit-updates ids batch updates same among once = record {
  within = λ i d l.
      let (l', is) = update-at ids batch updates same among i d l in
      omega (arith, is.most, place-below ids (get_or batch i no_change).a is.a-in, place-below ids (get_or batch i no_change).b is.b-in);
  apart = λ i j d l m. λ e.
      let (li, is) = update-at ids batch updates same among i d (omega arith) in
      let (lj, js) = update-at ids batch updates same among j d m in
      absurd (false≢true (sym (once i j no_change l lj) ∙ named-again ids _ _ _ _ is js e));
}

-- what holds of the lists holds of the vectors that keep them
pub All-items : (P : List ChangeLine → Type 0) (vectors : List (Vec ChangeLine Global)) (lists : List (List ChangeLine))
    → map (λ batch. batch.items) vectors ≡ lists
    → All P lists → All (λ batch. P batch.items) vectors
All-items P vectors lists e h = λ i d l. subst P (ap (λ (t : List (List ChangeLine)). get_or t i d.items) (sym e)
    ∙ get_or-map (λ (batch : Vec ChangeLine Global). batch.items) vectors i d d.items l)
    (h i d.items (omega (arith, ap (length) e, length-map vectors (λ (batch : Vec ChangeLine Global). batch.items))))

-- the ids of a batch are among those of all
ids-of_batch : (lists : List (List ChangeLine)) (i : ℕ) (d : List ChangeLine) (id : ℕ) → i < length lists
    → is_member nat_eq (ends (map ends_of (get_or lists i d))) id ≡ true
    → is_member nat_eq (ends (map ends_of (flat_map (λ batch. batch) lists))) id ≡ true
ids-of_batch [] i d id l h = absurd (omega arith)
ids-of_batch (list ∷ lists) zero d id l h =
    ap (λ (t : List ℕ). is_member nat_eq t id) (ends-batches list (flat_map (λ batch. batch) lists))
    ∙ list_any-append (nat_eq id) (ends (map ends_of list)) (ends (map ends_of (flat_map (λ batch. batch) lists))) ∙ or_left _ _ h
ids-of_batch (list ∷ lists) (suc i) d id l h =
    ap (λ (t : List ℕ). is_member nat_eq t id) (ends-batches list (flat_map (λ batch. batch) lists))
    ∙ list_any-append (nat_eq id) (ends (map ends_of list)) (ends (map ends_of (flat_map (λ batch. batch) lists)))
    ∙ or_right _ _ (ids-of_batch lists i d id (omega arith) h)

-- the ends of the edge lines are among the ids of all names
pub among-edges : (told : Told) (ids : List ℕ) → AreIds (names told) ids → AreAmong ids (ends told.edges)
among-edges told ids h = λ id m. h.exact id ∙ (ap (λ (t : List ℕ). is_member nat_eq t id) (ends-told told.edges (changes told))
    ∙ list_any-append (nat_eq id) (ends told.edges) (ends (map ends_of (changes told))) ∙ or_left _ _ m)

-- the ends of each batch's changes are among the ids of all names
pub among-batches : (told : Told) (ids : List ℕ) → AreIds (names told) ids → All (λ batch. AreAmong ids (ends (map ends_of batch))) (batches told)
among-batches told ids h = λ i d l id m. h.exact id ∙ (ap (λ (t : List ℕ). is_member nat_eq t id) (ends-told told.edges (changes told))
    ∙ list_any-append (nat_eq id) (ends told.edges) (ends (map ends_of (changes told))) ∙ or_right _ _ (ids-of_batch (batches told) i d id l m))

-- a batch is no longer than all batches together
batch-length : (lists : List (List ChangeLine)) (i : ℕ) (d : List ChangeLine) → i < length lists
    → length (get_or lists i d) ≤ length (flat_map (λ batch. batch) lists)
batch-length [] i d l = absurd (omega arith)
batch-length (list ∷ lists) zero d l = omega (arith, length-append list (flat_map (λ batch. batch) lists))
batch-length (list ∷ lists) (suc i) d l = omega (arith, length-append list (flat_map (λ batch. batch) lists), batch-length lists i d (omega arith))

-- what is made of each vector is made of each list
pub made-of : {X : Type 0} (f : List ChangeLine → X) (vectors : List (Vec ChangeLine Global)) (lists : List (List ChangeLine))
    → map (λ batch. batch.items) vectors ≡ lists → map (λ batch. f batch.items) vectors ≡ map f lists
made-of f vectors lists e = through vectors ∙ ap (map f) e
  where
    through : (vectors : List (Vec ChangeLine Global)) → map (λ batch. f batch.items) vectors ≡ map f (map (λ batch. batch.items) vectors)
    through [] = refl
    through (batch ∷ vectors) = ap (λ t. f batch.items ∷ t) (through vectors)

-- a batch of updates is one batch of changes, by the changes that decide
batch-at : (ids : List ℕ) (made : List Batch) (lists : List (List ChangeLine)) → map parts_of_batch made ≡ map (numbered_batch ids) lists
    → (i : ℕ) (d : Batch) → i < length made → (i < length lists) × (parts_of_batch (get_or made i d) ≡ numbered_batch ids (get_or lists i []))
batch-at ids made lists same i d l =
    let count : length made ≡ length lists = sym (length-map made parts_of_batch) ∙ (ap (length) same ∙ length-map lists (numbered_batch ids)) in
    let l' : i < length lists = omega arith in (
      l',
      sym (get_or-map parts_of_batch made i d (parts_of_batch d) l) ∙ ap (λ (t : List EdgeBatch). get_or t i (parts_of_batch d)) same
          ∙ get_or-map (numbered_batch ids) lists i [] (parts_of_batch d) l',
    )

-- each batch of updates is fit
fit-input : (ids : List ℕ) (made : List Batch) (lists : List (List ChangeLine)) → map parts_of_batch made ≡ map (numbered_batch ids) lists
    → All (λ batch. AreAmong ids (ends (map ends_of batch))) lists → All (λ batch. IsBatch (length ids) batch.updates.items) made
fit-input ids made lists same among = λ i d l.
    let (l', is) = batch-at ids made lists same i d l in
    let batch : List ChangeLine = get_or lists i [] in
    fit-updates ids (deciding batch) (get_or made i d).updates.items (ap (λ (b : EdgeBatch). b.updates) is) (deciding-among ids batch (among i [] l'))
    (deciding-once batch)

-- each batch of updates is as short as the batch of changes, and no more are overruled
short-input : (ids : List ℕ) (most : ℕ) (made : List Batch) (lists : List (List ChangeLine)) → map parts_of_batch made ≡ map (numbered_batch ids) lists
    → All (λ batch. length batch ≤ most) lists → All (λ batch. length batch.updates.items + batch.overruled ≤ most) made
short-input ids most made lists same short = λ i d l.
    let (l', is) = batch-at ids made lists same i d l in
    let batch : List ChangeLine = get_or lists i [] in
    let updates : List Update = (get_or made i d).updates.items in
    let count : length updates ≡ length (deciding batch) = sym (length-map updates parts_of)
    ∙ (ap (λ (b : EdgeBatch). length b.updates) is ∙ length-map (deciding batch) (numbered_change ids)) in
    omega (arith, deciding-count batch, short i [] l', ap (λ (b : EdgeBatch). b.overruled) is)

-- what a reading has that ended with no refusal
pub record Accepted (limits : Limits) (bytes : List ℕ) (reading : Reading) : Type 0 where
  pub told : Told
  pub means : meaning limits bytes ≡ Means told
  pub read : IsReading told reading
  pub few : length reading.ids.items ≤ limits.ids
  pub few_batches : length (batches told) ≤ limits.batches
  pub short : All (λ batch. length batch ≤ limits.updates) (batches told)
  pub apart : All HasNoLoops (batches told)

-- a reading that ended with no refusal has what the text means, within the limits
pub reading-accepted : (limits : Limits) (bytes : List ℕ) (reading : Reading)
    → (told : Told) × IsReading told reading × (meaning limits bytes ≡ outcome told reading.refusal)
    → reading.refusal ≡ None → Accepted limits bytes reading
reading-accepted limits bytes reading (told, read, ended) none =
    let means : meaning limits bytes ≡ Means told = ended ∙ ap (outcome told) none in
    let fit : AreFit limits told = meaning-fit limits bytes told means in
    record {
      told = told;
      means = means;
      read = read;
      few = omega (arith, length-AreIds (names told) reading.ids.items read.ids, fit.within.ids);
      few_batches = fit.within.batch_lines;
      short = λ i d l. omega (arith, fit.within.changes, batch-length (batches told) i d l);
      apart = fit-batches told.earlier told.last fit.earlier fit.last;
    }

-- of a reading with no refusal, the ends of the edges are among the ids
pub accepted-edges : (limits : Limits) (bytes : List ℕ) (reading : Reading) → Accepted limits bytes reading
    → AreAmong reading.ids.items (ends reading.edges.items)
accepted-edges limits bytes reading a = subst (λ (es : List (ℕ × ℕ)). AreAmong reading.ids.items (ends es)) (sym a.read.edges)
    (among-edges a.told reading.ids.items a.read.ids)

-- of a reading with no refusal, the ends of each batch's changes are among the ids
pub accepted-batches : (limits : Limits) (bytes : List ℕ) (reading : Reading) → Accepted limits bytes reading
    → All (λ batch. AreAmong reading.ids.items (ends (map ends_of batch.items))) reading.batches.items
accepted-batches limits bytes reading a = All-items (λ batch. AreAmong reading.ids.items (ends (map ends_of batch))) reading.batches.items
    (batches a.told) a.read.batches (among-batches a.told reading.ids.items a.read.ids)

-- of a reading with no refusal, no change of a batch is a loop
pub accepted-apart : (limits : Limits) (bytes : List ℕ) (reading : Reading) → Accepted limits bytes reading
    → All (λ batch. All (λ c. c.a ≢ c.b) batch.items) reading.batches.items
accepted-apart limits bytes reading a = All-items HasNoLoops reading.batches.items (batches a.told) a.read.batches a.apart

-- of a reading with no refusal, each batch has at most as many changes as all may have together
pub accepted-short : (limits : Limits) (bytes : List ℕ) (reading : Reading) → Accepted limits bytes reading
    → All (λ batch. length batch.items ≤ limits.updates) reading.batches.items
accepted-short limits bytes reading a = All-items (λ batch. length batch ≤ limits.updates) reading.batches.items (batches a.told) a.read.batches a.short

-- the input is made of the reading
pub record IsMadeOf (reading : Reading) (input : Input) : Type 0 where
  pub ids : input.ids.items ≡ reading.ids.items
  pub start : AreEdges (start_graph reading.ids.items reading.edges.items) input.start.items
  pub batches : map parts_of_batch input.batches.items ≡ map (λ batch. numbered_batch reading.ids.items batch.items) reading.batches.items

-- the batches of an input are those that were told
made-parts : (limits : Limits) (bytes : List ℕ) (reading : Reading) (input : Input) → (a : Accepted limits bytes reading) → IsMadeOf reading input
    → map parts_of_batch input.batches.items ≡ numbered_batches input.ids.items a.told
made-parts limits bytes reading input a is =
    is.batches ∙ (made-of (numbered_batch reading.ids.items) reading.batches.items (batches a.told) a.read.batches
    ∙ ap (λ (ids : List ℕ). numbered_batches ids a.told) (sym is.ids))

-- an input that is made of an accepted reading is the input of what was told
pub input-made : (limits : Limits) (bytes : List ℕ) (reading : Reading) (input : Input) → Accepted limits bytes reading → IsMadeOf reading input
    → (told : Told) × (meaning limits bytes ≡ Means told) × IsInput told input
input-made limits bytes reading input a is = (
  a.told,
  a.means,
  record {
    named = subst (AreIds (names a.told)) (sym is.ids) a.read.ids;
    start = subst (λ (ids : List ℕ). AreEdges (start_graph ids a.told.edges) input.start.items) (sym is.ids)
        (subst (λ (edges : List (ℕ × ℕ)). AreEdges (start_graph reading.ids.items edges) input.start.items) a.read.edges is.start);
    batches = made-parts limits bytes reading input a is;
  },
)

-- the ends of the changes that were told are among the ids of the input
among-input : (limits : Limits) (bytes : List ℕ) (reading : Reading) (input : Input) → (a : Accepted limits bytes reading) → IsMadeOf reading input
    → All (λ batch. AreAmong input.ids.items (ends (map ends_of batch))) (batches a.told)
among-input limits bytes reading input a is =
    subst (λ (ids : List ℕ). All (λ batch. AreAmong ids (ends (map ends_of batch))) (batches a.told)) (sym is.ids)
    (among-batches a.told reading.ids.items a.read.ids)

-- each batch of the input is fit for a graph of as many vertices as there are ids
pub made-batches : (limits : Limits) (bytes : List ℕ) (reading : Reading) (input : Input) → Accepted limits bytes reading → IsMadeOf reading input
    → All (λ batch. IsBatch (length input.ids.items) batch.updates.items) input.batches.items
made-batches limits bytes reading input a is = fit-input input.ids.items input.batches.items (batches a.told) (made-parts limits bytes reading input a is)
    (among-input limits bytes reading input a is)

-- the input has no more batches than the limit
pub made-few_batches : (limits : Limits) (bytes : List ℕ) (reading : Reading) (input : Input) → Accepted limits bytes reading → IsMadeOf reading input
    → length input.batches.items ≤ limits.batches
made-few_batches limits bytes reading input a is =
    let count : length input.batches.items ≡ length (batches a.told) = sym (length-map input.batches.items parts_of_batch)
    ∙ (ap (length) (made-parts limits bytes reading input a is) ∙ length-map (batches a.told) (numbered_batch input.ids.items)) in
    omega (arith, a.few_batches)

-- a batch of the input has no more updates, and overrules no more, than the limit of changes
made-few : (limits : Limits) (bytes : List ℕ) (reading : Reading) (input : Input) → Accepted limits bytes reading → IsMadeOf reading input
    → All (λ batch. length batch.updates.items + batch.overruled ≤ limits.updates) input.batches.items
made-few limits bytes reading input a is = short-input input.ids.items limits.updates input.batches.items (batches a.told)
    (made-parts limits bytes reading input a is) a.short

-- each batch of the input has at most as many updates as the limit of changes
pub made-short : (limits : Limits) (bytes : List ℕ) (reading : Reading) (input : Input) → Accepted limits bytes reading → IsMadeOf reading input
    → All (λ batch. length batch.updates.items ≤ limits.updates) input.batches.items
made-short limits bytes reading input a is = λ i d l. let few = made-few limits bytes reading input a is i d l in omega (arith, few)

-- no more changes are overruled than a batch has
pub made-counts : (limits : Limits) (bytes : List ℕ) (reading : Reading) (input : Input) → Accepted limits bytes reading → IsMadeOf reading input
    → All (λ batch. batch.overruled ≤ limits.updates) input.batches.items
made-counts limits bytes reading input a is = λ i d l. let few = made-few limits bytes reading input a is i d l in omega (arith, few)
