-- No line of a generated text is refused.
use Rattle.std.proofs.Common.{◌≡◌, ◌≢◌, ◌≤◌, ◌<◌, ◌+◌, ◌*◌, ℕ, true, false, cond, ◌||◌, List, [], ◌∷◌, ◌++◌, length, map, refl, sym, ap, ◌∙◌, arith}
use Rattle.std.proofs.Common.{nat_eq, nat_lt, eqb-true, inl, inr, length-append, append_assoc, append-nil, Option, Some, None}
use Rattle.std.specs.Prelude.{All, is_some, unwrap_or}
use Rattle.std.specs.List.{flat_map}
use Rattle.std.specs.Option.{option_to_list}
use Rattle.std.specs.Set.{distinct_count, is_member, unique_keys}
use Rattle.std.proofs.lemmas.Bool.{false≢true, le-ltb, ne_eqb, or_cases}
use Rattle.std.proofs.lemmas.List.Elements.{All-head, All-tail}
use Rattle.std.proofs.lemmas.Map.Steps.{length-le_from_distinct_below}
use Rattle.kc_text.specs.declared.change.ChangeLine.{ChangeLine}
use Rattle.kc_text.specs.declared.kind.Kind.TheVariants.{EdgeLineInBatch, LoopInBatch, TooLong}
use Rattle.kc_text.specs.declared.limits.TheConstants.{MOST_BATCHES, MOST_BYTES, MOST_EDGE_LINES, MOST_IDS, MOST_UPDATES}
use Rattle.kc_text.specs.declared.line.TextLine.{TextLine}
use Rattle.kc_text.specs.declared.line.TextLine.TheVariants as said
use Rattle.kc_text.specs.Forms.{all_said}
use Rattle.kc_text.specs.declared.limits.TheConstants.Limits.{KCORE}
use Rattle.kc_text.specs.Meaning.{Means, Refuses, Told, batches, changes, ends_or, first_limit, meaning, names, nothing_told, or_else, passed_limit}
use Rattle.kc_text.specs.Meaning.{reading, refusal, unfit, with_line}
use Rattle.kc_text.proofs.Counts.{IsDistinct-unique, NamesMore, is_member-unique}
use Rattle.kc_text.proofs.Telling.{changes-batch, changes-more, names-batch, names-change, names-edge}
use Rattle.kc_report.specs.declared.sizes.TheConstants.{BATCHES, EDGE_LINES, IDS, TURNS}
use Rattle.kc_report.specs.Generator.{generated, generated_batches, generated_edges}
use Rattle.kc_report.proofs.Drawn.{AreIds, IsBatch, IsFit, generated-is}
use Rattle.kc_report.proofs.Short.{length-generated}
use Rattle.kc_report.proofs.Spoken.{batch_said, change_said, edge_said, said-generated}

-- all names are below the number of ids of a generated text
abbrev AreBelow : List ℕ → Type 0
AreBelow names = (q : ℕ) → is_member nat_eq names q ≡ true → q < IDS

-- all names stay so with two ids of a generated text more
below-more : (xs ys : List ℕ) (a b : ℕ) → NamesMore xs ys a b → AreIds (a, b) → AreBelow xs → AreBelow ys
below-more xs ys a b more ids below q named =
    elim (or_cases (nat_eq q b) (nat_eq q a || is_member nat_eq xs q) (sym (more q) ∙ named)) [
      | inl is ↦ omega (arith, eqb-true q b is, ids.second)
      | inr others ↦ elim (or_cases (nat_eq q a) (is_member nat_eq xs q) others) [
        | inl is ↦ omega (arith, eqb-true q a is, ids.first)
        | inr old ↦ below q old
      ]
    ]

-- names of a generated text are no more different ones than it has ids
few_ids : (names : List ℕ) → AreBelow names → distinct_count nat_eq names ≤ IDS
few_ids names below = length-le_from_distinct_below (unique_keys nat_eq names) IDS (IsDistinct-unique names)
    (λ q h. below q (sym (is_member-unique names q) ∙ h))

-- what is told has so many edge lines, changes and batches at most, all between ids of a generated text
record IsSmall (told : Told) (lines updates most : ℕ) : Type 0 where
  ids : AreBelow (names told)
  edges : length told.edges ≤ lines
  changes : length (changes told) ≤ updates
  batches : length (batches told) ≤ most

-- so few edge lines, changes and batches that no limit is passed
record AreFew (lines updates most : ℕ) : Type 0 where
  edges : lines ≤ EDGE_LINES
  changes : updates ≤ BATCHES * TURNS
  batches : most ≤ BATCHES

-- what is told of so few passes no limit
no_limit : (told : Told) (lines updates most : ℕ) → IsSmall told lines updates most → AreFew lines updates most → passed_limit KCORE told ≡ None
no_limit told lines updates most small few =
    ap (λ b. first_limit b (nat_lt MOST_EDGE_LINES (length told.edges)) (nat_lt MOST_UPDATES (length (changes told)))
    (nat_lt MOST_BATCHES (length (batches told))))
    (le-ltb MOST_IDS (distinct_count nat_eq (names told)) (omega (arith, few_ids (names told) small.ids)))
    ∙ ap (λ b. first_limit false b (nat_lt MOST_UPDATES (length (changes told))) (nat_lt MOST_BATCHES (length (batches told))))
    (le-ltb MOST_EDGE_LINES (length told.edges) (omega (arith, small.edges, few.edges)))
    ∙ ap (λ b. first_limit false false b (nat_lt MOST_BATCHES (length (batches told))))
    (le-ltb MOST_UPDATES (length (changes told)) (omega (arith, small.changes, few.changes)))
    ∙ ap (λ b. first_limit false false false b) (le-ltb MOST_BATCHES (length (batches told)) (omega (arith, small.batches, few.batches)))

-- one thing more, and the others behind it
one_more : {X : Type 0} (all so_far before rest : List X) (x : X) → all ≡ so_far ++ rest → so_far ≡ before ++ x ∷ [] → all ≡ before ++ x ∷ rest
one_more all so_far before rest x whole front = whole ∙ ap (λ t. t ++ rest) front ∙ append_assoc before (x ∷ []) rest

-- edges that stay the same in two steps
edges-stay : (last between first : List (ℕ × ℕ)) → last ≡ between → between ≡ first → last ≡ first
edges-stay last between first second one = second ∙ one

-- Lines are read, whatever lines come behind them, and take what is told on.
abbrev Reads : Told → List TextLine → Told → Type 0
Reads from lines to = (done : ℕ) (rest : List TextLine) → (after : ℕ) × (reading KCORE done from (lines ++ rest) ≡ reading KCORE after to rest)

-- no lines leave what is told as it is
reads-none : (told : Told) → Reads told [] told
reads-none told done rest = (done, refl)

-- a line that is not refused is read, and the lines behind it go on from there
reads-line : (told to : Told) (line : TextLine) (lines : List TextLine) → refusal KCORE told line ≡ None → Reads (with_line told line) lines to
    → Reads told (line ∷ lines) to
reads-line told to line lines none reads done rest =
    let (after, e) = reads (done + 1) rest in
    (after, ap (λ r. ends_or r (done + 1) (reading KCORE (done + 1) (with_line told line) (lines ++ rest))) none ∙ e)

-- lines and more lines behind them take what is told on in two steps
reads-append : (from between to : Told) (first second : List TextLine) → Reads from first between → Reads between second to → Reads from (first ++ second) to
reads-append from between to first second one two done rest =
    let (middle, e) = one done (second ++ rest) in
    let (after, f) = two middle rest in
    (after, ap (reading KCORE done from) (append_assoc first second rest) ∙ e ∙ f)

-- what is told after edge lines
record AfterEdges (told : Told) (edges : List (ℕ × ℕ)) (lines updates most : ℕ) : Type 0 where
  to : Told
  reads : Reads told (map edge_said edges) to
  small : IsSmall to (lines + length edges) updates most
  edges' : to.edges ≡ told.edges ++ edges
  batches' : batches to ≡ batches told
  last : to.last ≡ None

-- edge lines before any batch are read: they tell their edges, and what is told stays small
read-edges : (told : Told) (edges : List (ℕ × ℕ)) (lines updates most : ℕ) → told.last ≡ None → All AreIds edges → IsSmall told lines updates most
    → AreFew (lines + length edges) updates most → AfterEdges told edges lines updates most
read-edges told [] lines updates most none ids small few = record {
  to = told;
  reads = reads-none told;
  small = record { ids = small.ids; edges = omega (arith, small.edges); changes = small.changes; batches = small.batches };
  edges' = sym (append-nil told.edges);
  batches' = refl;
  last = none;
}
read-edges told (edge ∷ edges) lines updates most none ids small few =
    let next : Told = with_line told (edge_said edge) in
    let small' : IsSmall next (lines + 1) updates most = record {
      ids = below-more (names told) (names next) edge.0 edge.1 (names-edge told edge.0 edge.1) (All-head AreIds edge edges ids) small.ids;
      edges = omega (arith, length-append told.edges (edge ∷ []), small.edges);
      changes = small.changes;
      batches = small.batches;
    } in
    let after : AfterEdges next edges (lines + 1) updates most = read-edges next edges (lines + 1) updates most none (All-tail AreIds edge edges ids) small'
    (record { edges = omega (arith, few.edges); changes = few.changes; batches = few.batches }) in
    let taken : refusal KCORE told (edge_said edge) ≡ None =
    ap (λ last. cond (is_some last) (Some EdgeLineInBatch) (passed_limit KCORE next)) none
    ∙ no_limit next (lines + 1) updates most small' (record { edges = omega (arith, few.edges); changes = few.changes; batches = few.batches }) in
    record {
      to = after.to;
      reads = reads-line told after.to (edge_said edge) (map edge_said edges) taken after.reads;
      small = record { ids = after.small.ids; edges = omega (arith, after.small.edges); changes = after.small.changes; batches = after.small.batches };
      edges' = one_more after.to.edges next.edges told.edges edges edge after.edges' refl;
      batches' = after.batches';
      last = after.last;
    }

-- what is told after the changes of a batch
record AfterChanges (told : Told) (batch changes : List ChangeLine) (lines updates most : ℕ) : Type 0 where
  to : Told
  reads : Reads told (map change_said changes) to
  small : IsSmall to lines (updates + length changes) most
  edges' : to.edges ≡ told.edges
  earlier : to.earlier ≡ told.earlier
  last : to.last ≡ Some (batch ++ changes)

-- a change that fits is not refused
taken-change : (told : Told) (batch : List ChangeLine) (c : ChangeLine) → told.last ≡ Some batch → c.a ≢ c.b
    → passed_limit KCORE (with_line told (said.Change c)) ≡ None
    → refusal KCORE told (said.Change c) ≡ None
taken-change told batch c last apart none =
    ap (λ l. or_else (unfit l c) (passed_limit KCORE (with_line told (said.Change c)))) last
    ∙ ap (λ b. or_else (cond b (Some LoopInBatch) None) (passed_limit KCORE (with_line told (said.Change c)))) (ne_eqb c.a c.b apart) ∙ none

-- another last batch in place of the last one leaves the number of batches
one_batch : (earlier : List (List ChangeLine)) (last : Option (List ChangeLine)) (batch more : List ChangeLine) → last ≡ Some batch
    → length (earlier ++ option_to_list (Some more)) ≡ length (earlier ++ option_to_list last)
one_batch earlier last batch more e =
    length-append earlier (more ∷ []) ∙ sym (ap (λ l. length (earlier ++ option_to_list l)) e ∙ length-append earlier (batch ∷ []))

-- changes behind their batch line are read: they go to its batch, and what is told stays small
read-changes : (told : Told) (batch cs : List ChangeLine) (lines updates most : ℕ) → told.last ≡ Some batch → All IsFit cs → IsSmall told lines updates most
    → AreFew lines (updates + length cs) most → AfterChanges told batch cs lines updates most
read-changes told batch [] lines updates most last fit small few = record {
  to = told;
  reads = reads-none told;
  small = record { ids = small.ids; edges = small.edges; changes = omega (arith, small.changes); batches = small.batches };
  edges' = refl;
  earlier = refl;
  last = last ∙ ap (λ t. Some t) (sym (append-nil batch));
}
read-changes told batch (c ∷ cs) lines updates most last fit small few =
    let next : Told = with_line told (said.Change c) in
    let first : IsFit c = All-head IsFit c cs fit in
    let last' : next.last ≡ Some (batch ++ c ∷ []) = ap (λ l. Some (unwrap_or l [] ++ c ∷ [])) last in
    let count : length (changes next) ≡ length (changes told) + 1 = ap length (changes-more told c) ∙ length-append (changes told) (c ∷ []) in
    let same : length (batches next) ≡ length (batches told) = one_batch told.earlier told.last batch (unwrap_or told.last [] ++ c ∷ []) last in
    let small' : IsSmall next lines (updates + 1) most = record {
      ids = below-more (names told) (names next) c.a c.b (names-change told c) first.ids small.ids;
      edges = small.edges;
      changes = omega (arith, count, small.changes);
      batches = omega (arith, same, small.batches);
    } in
    let after : AfterChanges next (batch ++ c ∷ []) cs lines (updates + 1) most = read-changes next (batch ++ c ∷ []) cs lines (updates + 1) most last'
    (All-tail IsFit c cs fit) small'
    (record { edges = few.edges; changes = omega (arith, few.changes); batches = few.batches }) in
    let none : passed_limit KCORE next ≡ None = no_limit next lines (updates + 1) most small'
    (record { edges = few.edges; changes = omega (arith, few.changes); batches = few.batches }) in
    record {
      to = after.to;
      reads = reads-line told after.to (said.Change c) (map change_said cs) (taken-change told batch c last first.apart none) after.reads;
      small = record { ids = after.small.ids; edges = after.small.edges; changes = omega (arith, after.small.changes); batches = after.small.batches };
      edges' = after.edges';
      earlier = after.earlier;
      last = after.last ∙ ap (λ t. Some t) (one_more _ (batch ++ c ∷ []) batch cs c refl refl);
    }

-- what is told after batches
record AfterBatches (told : Told) (batches' : List (List ChangeLine)) (lines updates most : ℕ) : Type 0 where
  to : Told
  reads : Reads told (flat_map batch_said batches') to
  edges' : to.edges ≡ told.edges
  all : batches to ≡ batches told ++ batches'

-- batches are read one after the other: they are told behind the earlier ones
read-batches : (told : Told) (bs : List (List ChangeLine)) (lines updates most : ℕ) → All IsBatch bs → IsSmall told lines updates most
    → AreFew lines (updates + TURNS * length bs) (most + length bs) → AfterBatches told bs lines updates most
read-batches told [] lines updates most are small few = record { to = told; reads = reads-none told; edges' = refl; all = sym (append-nil (batches told)) }
read-batches told (b ∷ bs) lines updates most are small few =
    let begun : Told = with_line told said.Batch in
    let first : IsBatch b = All-head IsBatch b bs are in
    let small' : IsSmall begun lines updates (most + 1) = record {
      ids = λ q h. small.ids q (ap (λ xs. is_member nat_eq xs q) (sym (names-batch told)) ∙ h);
      edges = small.edges;
      changes = omega (arith, ap length (changes-batch told), small.changes);
      batches = omega (arith, length-append (batches told) ([] ∷ []), small.batches);
    } in
    let within : AreFew lines (updates + length b) (most + 1) = record
    { edges = few.edges; changes = omega (arith, few.changes, first.few); batches = omega (arith, few.batches) } in
    let none : refusal KCORE told said.Batch ≡ None = no_limit begun lines updates (most + 1) small'
    (record { edges = few.edges; changes = omega (arith, few.changes); batches = within.batches }) in
    let one : AfterChanges begun [] b lines updates (most + 1) = read-changes begun [] b lines updates (most + 1) refl first.fit small' within in
    let so_far : batches one.to ≡ batches told ++ b ∷ [] = ap (λ e. e ++ option_to_list one.to.last) one.earlier
    ∙ ap (λ l. batches told ++ option_to_list l) one.last in
    let rest : AfterBatches one.to bs lines (updates + length b) (most + 1) = read-batches one.to bs lines (updates + length b) (most + 1)
    (All-tail IsBatch b bs are) one.small
    (record { edges = few.edges; changes = omega (arith, few.changes, first.few); batches = omega (arith, few.batches) }) in
    record {
      to = rest.to;
      reads = reads-line told rest.to said.Batch (map change_said b ++ flat_map batch_said bs) none
          (reads-append begun one.to rest.to (map change_said b) (flat_map batch_said bs) one.reads rest.reads);
      edges' = edges-stay rest.to.edges one.to.edges told.edges rest.edges' one.edges';
      all = one_more (batches rest.to) (batches one.to) (batches told) bs b rest.all so_far;
    }

-- what a generated text tells
pub record IsTold (number : ℕ) (told : Told) : Type 0 where
  pub means : meaning KCORE (generated number) ≡ Means told
  pub edges : told.edges ≡ generated_edges number
  pub batches : batches told ≡ generated_batches number

-- a generated text tells its edges and its batches, and no line is refused
pub told-generated : (number : ℕ) → (told : Told) × IsTold number told
told-generated number =
    let drawn = generated-is number in
    let es : List (ℕ × ℕ) = generated_edges number in
    let bs : List (List ChangeLine) = generated_batches number in
    let none : IsSmall nothing_told 0 0 0 = record { ids = λ q h. absurd (false≢true h); edges = omega arith; changes = omega arith; batches = omega arith } in
    let first : AfterEdges nothing_told es 0 0 0 = read-edges nothing_told es 0 0 0 refl drawn.ids none
    (record { edges = omega (arith, drawn.edge_count); changes = omega arith; batches = omega arith }) in
    let all : AfterBatches first.to bs (0 + length es) 0 0 = read-batches first.to bs (0 + length es) 0 0 drawn.fit first.small
    (record { edges = omega (arith, drawn.edge_count); changes = omega (arith, drawn.batch_count); batches = omega (arith, drawn.batch_count) }) in
    let (after, reads) = reads-append nothing_told first.to all.to (map edge_said es) (flat_map batch_said bs) first.reads all.reads 0 [] in (
      all.to,
      record {
        means = ap (λ b. cond b (Refuses 0 TooLong) (reading KCORE 0 nothing_told (all_said (generated number))))
            (le-ltb MOST_BYTES (length (generated number)) (length-generated number))
            ∙ ap (reading KCORE 0 nothing_told) (said-generated number ∙ sym (append-nil (map edge_said es ++ flat_map batch_said bs))) ∙ reads;
        edges = edges-stay all.to.edges first.to.edges es all.edges' first.edges';
        batches = all.all ∙ ap (λ t. t ++ bs) first.batches';
      },
    )
