-- What is gathered, with one line more.
use Rattle.std.proofs.Common.{◌≡◌, ◌≢◌, ◌≤◌, ◌<◌, ℕ, Bool, true, false, cond, List, [], ◌∷◌, ◌++◌, length, map, refl, sym, ap, ap₂, ◌∙◌, subst, arith}
use Rattle.std.proofs.Common.{nat_eq, lt-ltb, le-ltb, eq-eqb, inl, inr, append-nil, append_assoc, take, Option, Some, None}
use Rattle.std.specs.Prelude.{is_some, unwrap_or}
use Rattle.std.specs.List.{cons_option}
use Rattle.std.specs.Set.{is_member}
use Rattle.std.specs.Io.{StartsWith}
use Rattle.std.proofs.KnownBytes.{starts_with_rest}
use Rattle.std.proofs.lemmas.Bool.{eqb-true, ne_eqb, or_cases, or_left, true≢false}
use Rattle.std.proofs.Math.Seq.{take-append_seam}
use Rattle.std.proofs.lemmas.List.{map-append}
use Rattle.std.proofs.lemmas.List.Folds.{list_any-append}
use Rattle.std.specs.Prelude.{All}
use Rattle.std.proofs.lemmas.List.Elements.{All-push, filter_map-append}
use Rattle.kc_words.specs.declared.layout.TheConstants.{VERTICES}
use Rattle.kc_graph.specs.declared.update.Update.{Update}
use Rattle.kc_text.specs.declared.change.ChangeLine.{ChangeLine}
use Rattle.kc_text.specs.declared.kind.Kind.TheVariants.{EdgeLineInBatch, LoopInBatch, TooManyVertices, UpdateOutsideBatch}
use Rattle.kc_text.specs.declared.line.TextLine.TheVariants as said
use Rattle.kc_text.specs.Inputs.{AreAmong, EdgeUpdate, between, numbered, numbered_change, parts_of, place}
use Rattle.kc_text.specs.Meaning.{Told, changes, ends, ends_of, names, or_else, unfit, with_line}
use Rattle.kc_text.proofs.Counts.{ends-push}
use Rattle.kc_lists.proofs.Results.{none-from}
use Rattle.kc_text.proofs.Places.{place-below, place-injective}
use Rattle.kc_text.proofs.Telling.{ends-told}
use Rattle.kc_stream.specs.Gathering.{Holds, IsPairBelow, IsSpoilt, IsUpdateBelow, Knows}
use Rattle.kc_stream.specs.Hearing.{emptied, passed_limit, refused}
use Rattle.kc_stream.specs.Ids.{ids_of, with_name, with_names}
use Rattle.kc_stream.specs.declared.gathered.Gathered.{Gathered}
use Rattle.kc_stream.proofs.Naming.{Extends, among-more, changes-stay, edges-stay, extends-names, ids-batch, ids-change, ids-edge, name-grows}
use Rattle.kc_stream.proofs.Naming.{names-behind, names-members}

-- where it is some, there is a value
pub some-from : {X : Type 0} (o : Option X) → is_some o ≡ true → (x : X) × (o ≡ Some x)
some-from None h = absurd (true≢false (sym h))
some-from (Some x) h = (x, refl)

-- where there is no batch, none is held
pub no-batch : (gathered : Gathered) (told : Told) → gathered.in_batch ≡ false → Holds gathered told → told.last ≡ None
no-batch gathered told out h = none-from told.last (sym h.in_batch ∙ out)

-- where there is one, it is held
pub some-batch : (gathered : Gathered) (told : Told) → gathered.in_batch ≡ true → Holds gathered told → (batch : List ChangeLine) × (told.last ≡ Some batch)
some-batch gathered told here h = some-from told.last (sym h.in_batch ∙ here)

-- where there is none, there is no value
pub no-value : {X : Type 0} (P : Type 0) (o : Option X) → o ≡ None → is_some o ≡ true → P
no-value P o none some = absurd (true≢false (sym some ∙ ap is_some none))

-- the ids of before the batch stay in front with others behind
knows-more : (known now : ℕ) (ids new more : List ℕ) (told : Told) → now ≡ known → new ≡ ids ++ more → Knows known ids told → Knows now new told
knows-more known now ids new more told same grown k = record {
  known_is = same ∙ k.known_is;
  came = k.came ++ more;
  ids_are = grown ∙ ap (λ (l : List ℕ). l ++ more) k.ids_are ∙ append_assoc (ids_of (emptied told)) k.came more;
}

-- as a batch begins, all ids are of before it
knows-all : (known : ℕ) (ids : List ℕ) (told : Told) → known ≡ length ids → ids ≡ ids_of told → Knows known ids (with_line told said.Batch)
knows-all known ids told count named =
    let is : ids ≡ ids_of (with_line told said.Batch) = named ∙ sym (ids-batch told) in
    record {
      known_is = count ∙ ap length is;
      came = [];
      ids_are = is ∙ sym (append-nil (ids_of (with_line told said.Batch)));
    }

-- two names behind others are among ids that have all
among-two : (ids named : List ℕ) (a b : ℕ) → AreAmong ids named → is_member nat_eq ids a ≡ true → is_member nat_eq ids b ≡ true
    → AreAmong ids ((named ++ a ∷ []) ++ b ∷ [])
among-two ids named a b among ia ib = λ x m.
    elim (or_cases (is_member nat_eq (named ++ a ∷ []) x) (is_member nat_eq (b ∷ []) x) (sym (list_any-append (nat_eq x) (named ++ a ∷ []) (b ∷ [])) ∙ m)) [
      | inl front ↦ elim (or_cases (is_member nat_eq named x) (is_member nat_eq (a ∷ []) x) (sym (list_any-append (nat_eq x) named (a ∷ [])) ∙ front)) [
        | inl old ↦ among x old
        | inr is ↦ one x a is ia
      ]
      | inr is ↦ one x b is ib
    ]
  where
    only : (p : Bool) → cond p true false ≡ true → p ≡ true
    only true h = refl
    only false h = h

    one : (x y : ℕ) → is_member nat_eq (y ∷ []) x ≡ true → is_member nat_eq ids y ≡ true → is_member nat_eq ids x ≡ true
    one x y is iy = elim (or_cases (nat_eq x y) false is) [
      | inl e ↦ subst (λ (z : ℕ). is_member nat_eq ids z ≡ true) (sym (eqb-true x y e)) iy
      | inr bad ↦ absurd (true≢false (sym bad))
    ]

-- changes among ids, and the updates that they are, with more ids
updates-stay : (ids more : List ℕ) (cs : List ChangeLine) (us : List Update) → Extends ids more → AreAmong ids (ends (map ends_of cs))
    → map parts_of us ≡ map (numbered_change ids) cs → map parts_of us ≡ map (numbered_change more) cs
updates-stay ids more cs us f among are = are ∙ sym (changes-stay ids more cs f among)

-- there are no fewer ids with two names more
both-grow : (ids more : List ℕ) (a b : ℕ) → more ≡ with_names ids (a ∷ b ∷ []) → length ids ≤ length more
both-grow ids more a b is = omega (arith, ap length is, name-grows ids a, name-grows (with_name ids a) b)

-- an edge of the start is held
pub holds-edge : (old new : Gathered) (told : Told) (a b : ℕ) → old.in_batch ≡ false → new.ids ≡ with_names old.ids (a ∷ b ∷ [])
    → is_member nat_eq new.ids a ≡ true → is_member nat_eq new.ids b ≡ true
    → new.in_batch ≡ old.in_batch → new.edges.items ≡ old.edges.items ++ cons_option (between (place new.ids a) (place new.ids b)) []
    → ((bound : ℕ) → place new.ids a < bound → place new.ids b < bound → All (IsPairBelow bound) old.edges.items → All (IsPairBelow bound) new.edges.items)
    → new.updates.items ≡ old.updates.items → Holds old told → Holds new (with_line told (said.Edge a b))
holds-edge old new told a b out ids ia ib same edges within updates h =
    let none : told.last ≡ None = no-batch old told out h in
    let f : Extends old.ids new.ids = subst (Extends old.ids) (sym ids) (extends-names old.ids (a ∷ b ∷ [])) in
    let more : length old.ids ≤ length new.ids = both-grow old.ids new.ids a b ids in
    record {
      ids = ids ∙ ap (λ (l : List ℕ). with_names l (a ∷ b ∷ [])) h.ids ∙ sym (ids-edge told a b none (h.begun none));
      in_batch = same ∙ h.in_batch;
      begun = h.begun;
      edges = λ last.
          edges ∙ ap (λ (t : List (ℕ × ℕ)). t ++ cons_option (between (place new.ids a) (place new.ids b)) [])
          (h.edges last ∙ sym (edges-stay old.ids new.ids told.edges f h.edge_ends)) ∙ sym (filter_map-append (numbered new.ids) told.edges ((a, b) ∷ []));
      edge_ends = subst (AreAmong new.ids) (sym (ends-push told.edges (a, b)))
          (among-two new.ids (ends told.edges) a b (among-more old.ids new.ids (ends told.edges) f h.edge_ends) ia ib);
      updates = ap (map parts_of) updates ∙ updates-stay old.ids new.ids (unwrap_or told.last []) old.updates.items f h.update_ends h.updates;
      update_ends = among-more old.ids new.ids (ends (map ends_of (unwrap_or told.last []))) f h.update_ends;
      edges_within = within (length new.ids) (place-below new.ids a ia) (place-below new.ids b ib)
          (λ k d l. let (lesser, w) = h.edges_within k d l in (lesser, omega (arith, more)));
      updates_within = subst (All (IsUpdateBelow (length new.ids))) (sym updates) (λ k d l. let w = h.updates_within k d l in omega (arith, more));
      no_edges = no-value (new.edges.items ≡ []) told.last none;
      knows = no-value (Knows new.known new.ids (with_line told (said.Edge a b))) told.last none;
    }

-- a change of the batch is held
pub holds-change : (old new : Gathered) (told : Told) (c : ChangeLine) (u : Update) → old.in_batch ≡ true
    → new.ids ≡ with_names old.ids (c.a ∷ c.b ∷ []) → is_member nat_eq new.ids c.a ≡ true → is_member nat_eq new.ids c.b ≡ true
    → new.in_batch ≡ old.in_batch → new.updates.items ≡ old.updates.items ++ u ∷ [] → parts_of u ≡ numbered_change new.ids c
    → new.edges.items ≡ old.edges.items → new.known ≡ old.known → Holds old told → Holds new (with_line told (said.Change c))
holds-change old new told c u here ids ia ib same updates is edges known h =
    let f : Extends old.ids new.ids = subst (Extends old.ids) (sym ids) (extends-names old.ids (c.a ∷ c.b ∷ [])) in
    let cs : List ChangeLine = unwrap_or told.last [] in
    let more : length old.ids ≤ length new.ids = both-grow old.ids new.ids c.a c.b ids in
    let (behind, grown) = names-behind old.ids (c.a ∷ c.b ∷ []) in
    let some : is_some told.last ≡ true = sym h.in_batch ∙ here in
    record {
      ids = ids ∙ ap (λ (l : List ℕ). with_names l (c.a ∷ c.b ∷ [])) h.ids ∙ sym (ids-change told c);
      in_batch = same ∙ here;
      begun = λ none. absurd (cc);
      edges = λ none. absurd (cc);
      edge_ends = among-more old.ids new.ids (ends told.edges) f h.edge_ends;
      updates = ap (map parts_of) updates ∙ map-append parts_of old.updates.items (u ∷ [])
          ∙ ap₂ (λ (xs : List EdgeUpdate) (x : EdgeUpdate). xs ++ x ∷ [])
          (updates-stay old.ids new.ids cs old.updates.items f h.update_ends h.updates) is
          ∙ sym (map-append (numbered_change new.ids) cs (c ∷ []));
      update_ends = subst (AreAmong new.ids)
          (sym (ap ends (map-append ends_of cs (c ∷ [])) ∙ ends-push (map ends_of cs) (c.a, c.b)))
          (among-two new.ids (ends (map ends_of cs)) c.a c.b (among-more old.ids new.ids (ends (map ends_of cs)) f h.update_ends) ia ib);
      edges_within = subst (All (IsPairBelow (length new.ids))) (sym edges)
          (λ k d l. let (lesser, w) = h.edges_within k d l in (lesser, omega (arith, more)));
      updates_within = subst (All (IsUpdateBelow (length new.ids))) (sym updates)
          (All-push (IsUpdateBelow (length new.ids)) old.updates.items u (λ k d l. let w = h.updates_within k d l in omega (arith, more))
          (omega (arith, ap (λ (x : EdgeUpdate). x.v) is, place-below new.ids c.a ia, place-below new.ids c.b ib)));
      no_edges = λ _. edges ∙ h.no_edges some;
      knows = λ _.
          let k : Knows new.known new.ids told = knows-more old.known new.known old.ids new.ids behind told known (ids ∙ grown) (h.knows some) in
          record { known_is = k.known_is; came = k.came; ids_are = k.ids_are };
    }

-- a batch begins
pub holds-batch : (old new : Gathered) (told : Told) → new.ids ≡ old.ids → new.in_batch ≡ true → new.known ≡ length old.ids → new.edges.items ≡ []
    → new.updates.items ≡ [] → Holds old told → Holds new (with_line told said.Batch)
holds-batch old new told ids here known edges updates h = record {
  ids = ids ∙ h.ids ∙ sym (ids-batch told);
  in_batch = here;
  begun = λ none. absurd (cc);
  edges = λ none. absurd (cc);
  edge_ends = subst (λ (l : List ℕ). AreAmong l (ends told.edges)) (sym ids) h.edge_ends;
  updates = ap (map parts_of) updates;
  update_ends = λ x m. absurd (true≢false (sym m));
  edges_within = subst (All (IsPairBelow (length new.ids))) (sym edges) (λ k d l. absurd (omega (arith, l)));
  updates_within = subst (All (IsUpdateBelow (length new.ids))) (sym updates) (λ k d l. absurd (omega (arith, l)));
  no_edges = λ _. edges;
  knows = λ _. knows-all new.known new.ids told (known ∙ ap length (sym ids)) (ids ∙ h.ids);
}

-- where a line is refused, what it takes to drop the batch is left, also where ids came by that line
pub spoilt-more : (old new : Gathered) (told : Told) → new.in_batch ≡ old.in_batch → new.known ≡ old.known → new.edges.items ≡ old.edges.items
    → StartsWith new.ids old.ids → Holds old told → IsSpoilt new told
spoilt-more old new told same known edges kept h = record {
  in_batch = same ∙ h.in_batch;
  no_edges = λ some. edges ∙ h.no_edges some;
  knows = λ some. knows-more old.known new.known old.ids new.ids _ told known (starts_with_rest new.ids old.ids kept) (h.knows some);
}

-- and where none came
pub spoilt-same : (gathered : Gathered) (told : Told) → Holds gathered told → IsSpoilt gathered told
spoilt-same gathered told h = record { in_batch = h.in_batch; no_edges = h.no_edges; knows = h.knows }

-- the ends of edges that were told are among the ids
edges-among : (told : Told) → AreAmong (ids_of told) (ends told.edges)
edges-among told = λ x m.
    names-members [] (names told) x
    (ap (λ (l : List ℕ). is_member nat_eq l x) (ends-told told.edges (changes told))
    ∙ list_any-append (nat_eq x) (ends told.edges) (ends (map ends_of (changes told))) ∙ or_left _ _ m)

-- the batch is dropped that is open
pub holds-emptied : (old new : Gathered) (told : Told) → is_some told.last ≡ true → new.ids ≡ take old.known old.ids → new.in_batch ≡ old.in_batch
    → new.known ≡ old.known → new.edges.items ≡ old.edges.items → new.updates.items ≡ [] → IsSpoilt old told → Holds new (emptied told)
holds-emptied old new told some ids same known edges updates s =
    let k : Knows old.known old.ids told = s.knows some in
    let front : take old.known old.ids ≡ ids_of (emptied told) =
    ap₂ (λ (n : ℕ) (l : List ℕ). take n l) k.known_is k.ids_are ∙ take-append_seam (ids_of (emptied told)) k.came in
    let none : new.edges.items ≡ [] = edges ∙ s.no_edges some in
    record {
      ids = ids ∙ front;
      in_batch = same ∙ s.in_batch ∙ some;
      begun = λ bad. absurd (cc);
      edges = λ bad. absurd (cc);
      edge_ends = subst (λ (l : List ℕ). AreAmong l (ends told.edges)) (sym (ids ∙ front)) (edges-among (emptied told));
      updates = ap (map parts_of) updates;
      update_ends = λ x m. absurd (true≢false (sym m));
      edges_within = subst (All (IsPairBelow (length new.ids))) (sym none) (λ k d l. absurd (omega (arith, l)));
      updates_within = subst (All (IsUpdateBelow (length new.ids))) (sym updates) (λ k d l. absurd (omega (arith, l)));
      no_edges = λ _. none;
      knows = λ _. record {
        known_is = known ∙ k.known_is;
        came = [];
        ids_are = ids ∙ front ∙ sym (append-nil (ids_of (emptied told)));
      };
    }

-- there are too many ids, or there are not
limit-passed : (told : Told) → VERTICES < length (ids_of told) → passed_limit told ≡ Some TooManyVertices
limit-passed told l = ap (λ b. cond b (Some TooManyVertices) None) (lt-ltb VERTICES (length (ids_of told)) l)

limit-kept : (told : Told) → length (ids_of told) ≤ VERTICES → passed_limit told ≡ None
limit-kept told l = ap (λ b. cond b (Some TooManyVertices) None) (le-ltb VERTICES (length (ids_of told)) l)

module _ (old : Gathered) (told : Told) (h : Holds old told) where
  -- an edge line in a batch is refused
  pub edge-in_batch : (a b : ℕ) → old.in_batch ≡ true → Some EdgeLineInBatch ≡ refused told (said.Edge a b)
  edge-in_batch a b here = sym (ap (λ s. cond s (Some EdgeLineInBatch) (passed_limit (with_line told (said.Edge a b)))) (sym h.in_batch ∙ here))

  edge-judged : (a b : ℕ) → old.in_batch ≡ false → refused told (said.Edge a b) ≡ passed_limit (with_line told (said.Edge a b))
  edge-judged a b out = ap (λ s. cond s (Some EdgeLineInBatch) (passed_limit (with_line told (said.Edge a b)))) (sym h.in_batch ∙ out)

  edge-ids : (a b : ℕ) → old.in_batch ≡ false → with_names old.ids (a ∷ b ∷ []) ≡ ids_of (with_line told (said.Edge a b))
  edge-ids a b out =
      let none : told.last ≡ None = no-batch old told out h in
      ap (λ (l : List ℕ). with_names l (a ∷ b ∷ [])) h.ids ∙ sym (ids-edge told a b none (h.begun none))

  -- an edge with which there are too many ids is refused
  pub edge-over : (a b : ℕ) → old.in_batch ≡ false → VERTICES < length (with_names old.ids (a ∷ b ∷ [])) → Some TooManyVertices ≡ refused told (said.Edge a b)
  edge-over a b out l =
      sym (edge-judged a b out ∙ limit-passed (with_line told (said.Edge a b)) (subst (λ (t : List ℕ). VERTICES < length t) (edge-ids a b out) l))

  -- and any other edge of the start is not
  pub edge-fine : (a b : ℕ) → old.in_batch ≡ false → length (with_names old.ids (a ∷ b ∷ [])) ≤ VERTICES → None ≡ refused told (said.Edge a b)
  edge-fine a b out l =
      sym (edge-judged a b out ∙ limit-kept (with_line told (said.Edge a b)) (subst (λ (t : List ℕ). length t ≤ VERTICES) (edge-ids a b out) l))

  -- a change outside any batch is refused
  pub change-outside : (c : ChangeLine) → old.in_batch ≡ false → Some UpdateOutsideBatch ≡ refused told (said.Change c)
  change-outside c out =
      sym (ap (λ (l : Option (List ChangeLine)). or_else (unfit l c) (passed_limit (with_line told (said.Change c)))) (no-batch old told out h))

  -- a change that joins an id with itself is refused
  pub change-loop : (c : ChangeLine) → old.in_batch ≡ true → c.a ≡ c.b → Some LoopInBatch ≡ refused told (said.Change c)
  change-loop c here same =
      let (batch, is) = some-batch old told here h in
      sym (ap (λ (l : Option (List ChangeLine)). or_else (unfit l c) (passed_limit (with_line told (said.Change c)))) is
      ∙ ap (λ s. or_else (cond s (Some LoopInBatch) None) (passed_limit (with_line told (said.Change c)))) (eq-eqb c.a c.b same))

  change-judged : (c : ChangeLine) → old.in_batch ≡ true → c.a ≢ c.b → refused told (said.Change c) ≡ passed_limit (with_line told (said.Change c))
  change-judged c here differ =
      let (batch, is) = some-batch old told here h in
      ap (λ (l : Option (List ChangeLine)). or_else (unfit l c) (passed_limit (with_line told (said.Change c)))) is
      ∙ ap (λ s. or_else (cond s (Some LoopInBatch) None) (passed_limit (with_line told (said.Change c)))) (ne_eqb c.a c.b differ)

  change-ids : (c : ChangeLine) → with_names old.ids (c.a ∷ c.b ∷ []) ≡ ids_of (with_line told (said.Change c))
  change-ids c = ap (λ (l : List ℕ). with_names l (c.a ∷ c.b ∷ [])) h.ids ∙ sym (ids-change told c)

  -- a change with which there are too many ids is refused
  pub change-over : (c : ChangeLine) → old.in_batch ≡ true → c.a ≢ c.b → VERTICES < length (with_names old.ids (c.a ∷ c.b ∷ []))
      → Some TooManyVertices ≡ refused told (said.Change c)
  change-over c here differ l =
      sym (change-judged c here differ
      ∙ limit-passed (with_line told (said.Change c)) (subst (λ (t : List ℕ). VERTICES < length t) (change-ids c) l))

  -- and any other change of a batch is not
  pub change-fine : (c : ChangeLine) → old.in_batch ≡ true → c.a ≢ c.b → length (with_names old.ids (c.a ∷ c.b ∷ [])) ≤ VERTICES
      → None ≡ refused told (said.Change c)
  change-fine c here differ l =
      sym (change-judged c here differ
      ∙ limit-kept (with_line told (said.Change c)) (subst (λ (t : List ℕ). length t ≤ VERTICES) (change-ids c) l))

-- the numbers of two different ids differ
pub places-apart : (ids : List ℕ) (a b : ℕ) → is_member nat_eq ids a ≡ true → a ≢ b → place ids a ≢ place ids b
places-apart ids a b ia differ = λ same. differ (place-injective ids a b ia same)
