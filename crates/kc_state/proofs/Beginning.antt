-- A stream that begins with the start text of a state has its ids and its graph.
use Rattle.std.proofs.Common.{◌≡◌, ◌<◌, ◌≤◌, ◌^◌, ◌++◌, ◌∙◌, ℕ, suc, true, false, Bool, cond, List, [], ◌∷◌, Option, None, Some, length, map}
use Rattle.std.proofs.Common.{ap, ap₂, append-nil, append_assoc, arith, codes, inl, inr, length-append, nat_eq, nat_lt, refl, subst, sym, zero}
use Rattle.std.specs.FinSet as set
use Rattle.std.specs.List.{cons_option, filter_map, flat_map}
use Rattle.std.specs.Prelude.{All, bytes_eq, is_some}
use Rattle.std.specs.Set.{is_member}
use Rattle.std.proofs.lemmas.Bool.{and_parts, cases_Bool, eqb-true, false≢true, le-ltb, lt-ltb}
use Rattle.std.proofs.lemmas.List.Concat.{flat_map-append}
use Rattle.std.proofs.lemmas.List.Elements.{All-cons, filter_map-append}
use Rattle.std.proofs.lemmas.List.Folds.{flat_map-map}
use Rattle.kc_lists.specs.Lists.{Distinct}
use Rattle.kc_lists.proofs.Counting.{member-get_or}
use Rattle.kc_lists.proofs.Members.{Distinct-cut, member-append_right, member-head}
use Rattle.kc_graph.specs.Peeling.{at}
use Rattle.kc_flat.specs.Listing.{edge_list}
use Rattle.kc_flat.proofs.Listed.{edge_list-within}
use Rattle.kc_text.specs.declared.change.ChangeLine.{ChangeLine}
use Rattle.kc_text.specs.declared.kind.Kind.TheVariants.{EdgeLineInBatch, NotANumber, TooManyVertices}
use Rattle.kc_text.specs.declared.line.TextLine.{TextLine}
use Rattle.kc_text.specs.declared.line.TextLine.TheVariants.{Edge, Wrong}
use Rattle.kc_text.specs.Forms.{all_said, line_of, said_by}
use Rattle.kc_text.specs.Inputs.{between, numbered, place, start_graph}
use Rattle.kc_text.specs.Lines.{EndsLine, fields, lines}
use Rattle.kc_text.specs.Meaning.{Told, ends, with_line}
use Rattle.kc_text.proofs.Printed.{pair, said-edge_line}
use Rattle.kc_text.proofs.SaidAppend.{ends-append}
use Rattle.kc_words.specs.declared.layout.TheConstants.{VERTICES}
use Rattle.kc_stream.specs.Asking.{question_form, stream_line, stream_line_of, stream_lines}
use Rattle.kc_stream.specs.Hearing.{Heard, hear, hear_all, heard_so_far, judged, nothing_heard, passed_limit, refused, taken}
use Rattle.kc_stream.specs.Ids.{ids_of, with_name, with_names}
use Rattle.kc_stream.specs.declared.bad_lines.BadLines.{BadLines}
use Rattle.kc_stream.specs.declared.stream_line.StreamLine.{StreamLine}
use Rattle.kc_stream.specs.declared.stream_line.StreamLine.TheVariants.{Tells}
use Rattle.kc_stream.proofs.Naming.{ids-edge, name-known, name-new, names-behind, place-at}
use Rattle.kc_stream.proofs.Reading.{hear-judged, so-far}
use Rattle.kc_state.specs.OneState.{IsKeptState}
use Rattle.kc_state.specs.Starts.{HasBegunWith, ids_at, loop_at, start_edges, start_text}
use Rattle.kc_state.specs.Texts.{KeptParts, pair_text}
use Rattle.kc_state.proofs.OneState.{edges-listed}

-- What the lines say. ---------------------------------------------------------------------------------

-- the line of two ids
abbrev line_of_two : ℕ × ℕ → List ℕ
line_of_two p = pair_text p.0 p.1

-- what it says
abbrev edge_said : ℕ × ℕ → TextLine
edge_said p = Edge p.0 p.1

-- two ids fit their type
abbrev IsSmall : ℕ × ℕ → Type 0
IsSmall p = (p.0 < 2 ^ 32) × (p.1 < 2 ^ 32)

-- those of pairs do
abbrev AreSmall : List (ℕ × ℕ) → Type 0
AreSmall ps = All IsSmall ps

-- a line, and lines behind it
two-behind : (a b : ℕ) (rest : List ℕ) → pair_text a b ++ rest ≡ pair a b ++ 10 ∷ rest
two-behind a b rest = simp append_assoc

-- the lines of pairs say their edges
said-pairs : (ps : List (ℕ × ℕ)) → AreSmall ps → all_said (flat_map line_of_two ps) ≡ map edge_said ps
said-pairs [] small = refl
said-pairs (p ∷ ps) small =
    let first = small 0 p (omega arith) in
    ap all_said (two-behind p.0 p.1 (flat_map line_of_two ps))
    ∙ said-edge_line p.0 p.1 (flat_map line_of_two ps) first.0 first.1
    ∙ ap (λ (t : List TextLine). edge_said p ∷ t) (said-pairs ps (λ k d l. small (suc k) d (omega (arith, l))))

-- a line that tells an edge asks nothing
edge-tells : (fs : List (List ℕ)) (a b : ℕ) → line_of fs ≡ Edge a b → stream_line_of fs ≡ Tells (Edge a b)
edge-tells [] a b e = absurd (cc)
edge-tells (first ∷ rest) a b e = elim (cases_Bool (bytes_eq first (codes "?"))) [
  | inl asks ↦ absurd (no-edge first rest a b asks e)
  | inr tells ↦ ap (λ (q : Bool). cond q (question_form rest) (Tells (line_of (first ∷ rest)))) tells ∙ ap (λ (l : TextLine). Tells l) e
]
  where
    no-edge : (first : List ℕ) (rest : List (List ℕ)) (a b : ℕ) → bytes_eq first (codes "?") ≡ true → line_of (first ∷ rest) ≡ Edge a b → ⊥
    no-edge [] rest a b asks e = absurd (false≢true asks)
    no-edge (x ∷ []) rest a b asks e =
        let is : x ≡ 63 = eqb-true x 63 (and_parts (nat_eq x 63) true asks).0 in
        let wrong : Wrong NotANumber ≡ Edge a b = ap (λ (y : ℕ). line_of ((y ∷ []) ∷ rest)) (sym is) ∙ e in
        absurd (cc)
    no-edge (x ∷ y ∷ more) rest a b asks e = absurd (false≢true (and_parts (nat_eq x 63) false asks).1)

-- lines that tell edges ask nothing
edges-tell : (xs : List (List ℕ)) (ps : List (ℕ × ℕ)) → map said_by xs ≡ map edge_said ps → map stream_line xs ≡ map (λ (p : ℕ × ℕ). Tells (edge_said p)) ps
edges-tell [] [] e = refl
edges-tell [] (p ∷ ps) e = absurd (cc)
edges-tell (x ∷ xs) [] e = absurd (cc)
edges-tell (x ∷ xs) (p ∷ ps) e =
    let one : said_by x ≡ edge_said p = cc in
    let others : map said_by xs ≡ map edge_said ps = cc in
    ap₂ (λ (l : StreamLine) (t : List StreamLine). l ∷ t) (edge-tells (fields x) p.0 p.1 one) (edges-tell xs ps others)

-- what each line of pairs says in a stream
pairs-tell : (ps : List (ℕ × ℕ)) → AreSmall ps → stream_lines (flat_map line_of_two ps) ≡ map (λ (p : ℕ × ℕ). Tells (edge_said p)) ps
pairs-tell ps small = edges-tell (lines (flat_map line_of_two ps)) ps (said-pairs ps small)

-- the lines of pairs end
pairs-end : (ps : List (ℕ × ℕ)) → EndsLine (flat_map line_of_two ps)
pairs-end [] = inl refl
pairs-end (p ∷ ps) =
    ends-append (pair_text p.0 p.1) (flat_map line_of_two ps) (inr (pair p.0 p.1, sym (append-nil (pair_text p.0 p.1)) ∙ two-behind p.0 p.1 []))
    (pairs-end ps)

-- What the lines come to. -----------------------------------------------------------------------------

-- edges are taken, one after another
abbrev take_edges : Heard → List (ℕ × ℕ) → Heard
take_edges heard [] = heard
take_edges heard (p ∷ ps) = take_edges (taken heard (edge_said p)) ps

-- no line is refused, and there is no batch line
record IsBeginning (heard : Heard) : Type 0 where
  going : heard.refusal ≡ None
  kept : heard.dropped ≡ None
  earlier : heard.told.earlier ≡ []
  last : heard.told.last ≡ None

-- what is known behind edges
record AfterEdges (heard after : Heard) (ps : List (ℕ × ℕ)) : Type 0 where
  begins : IsBeginning after
  edges : after.told.edges ≡ heard.told.edges ++ ps
  ids : ids_of after.told ≡ with_names (ids_of heard.told) (ends ps)

-- an edge more leaves the stream at its beginning
begins-edge : (heard : Heard) (p : ℕ × ℕ) → IsBeginning heard → IsBeginning (taken heard (edge_said p))
begins-edge heard p h = record { going = refl; kept = refl; earlier = h.earlier; last = h.last }

-- so it is known
after-edges : (heard : Heard) (ps : List (ℕ × ℕ)) → IsBeginning heard → AfterEdges heard (take_edges heard ps) ps
after-edges heard [] h = record { begins = h; edges = sym (append-nil heard.told.edges); ids = refl }
after-edges heard (p ∷ ps) h =
    let next : Heard = taken heard (edge_said p) in
    let after : AfterEdges next (take_edges next ps) ps = after-edges next ps (begins-edge heard p h) in
    record {
      begins = after.begins;
      edges = after.edges ∙ append_assoc heard.told.edges (p ∷ []) ps;
      ids = after.ids ∙ ap (λ (ids : List ℕ). with_names ids (ends ps)) (ids-edge heard.told p.0 p.1 h.last h.earlier);
    }

-- more names leave no fewer ids
names-grow : (ids named : List ℕ) → length ids ≤ length (with_names ids named)
names-grow ids named =
    let (more, is) = names-behind ids named in
    omega (arith, ap length is, length-append ids more)

-- an edge is not refused where its ids fit
edge-fits : (heard : Heard) (p : ℕ × ℕ) → IsBeginning heard → length (with_names (ids_of heard.told) (p.0 ∷ p.1 ∷ [])) ≤ VERTICES
    → refused heard.told (edge_said p) ≡ None
edge-fits heard p h few =
    let next : Told = with_line heard.told (edge_said p) in
    ap (λ (last : Option (List ChangeLine)). cond (is_some last) (Some EdgeLineInBatch) (passed_limit next)) h.last
    ∙ ap (λ (b : Bool). cond b (Some TooManyVertices) None)
    (le-ltb VERTICES (length (ids_of next)) (subst (λ (ids : List ℕ). length ids ≤ VERTICES) (sym (ids-edge heard.told p.0 p.1 h.last h.earlier)) few))

-- edges whose ids fit are taken
hear-edges : (bad : BadLines) (heard : Heard) (ps : List (ℕ × ℕ)) → IsBeginning heard → length (with_names (ids_of heard.told) (ends ps)) ≤ VERTICES
    → hear_all bad heard (map (λ (p : ℕ × ℕ). Tells (edge_said p)) ps) ≡ take_edges heard ps
hear-edges bad heard [] h few = refl
hear-edges bad heard (p ∷ ps) h few =
    let next : Heard = taken heard (edge_said p) in
    let two : List ℕ = with_names (ids_of heard.told) (p.0 ∷ p.1 ∷ []) in
    let here : refused heard.told (edge_said p) ≡ None = edge-fits heard p h (omega (arith, few, names-grow two (ends ps))) in
    let one : hear bad heard (Tells (edge_said p)) ≡ next =
    hear-judged bad heard (edge_said p) h.going h.kept ∙ ap (judged bad heard (edge_said p)) here in
    ap (λ (x : Heard). hear_all bad x (map (λ (q : ℕ × ℕ). Tells (edge_said q)) ps)) one
    ∙ hear-edges bad next ps (begins-edge heard p h)
    (subst (λ (ids : List ℕ). length (with_names ids (ends ps)) ≤ VERTICES) (sym (ids-edge heard.told p.0 p.1 h.last h.earlier)) few)

-- The ids. -------------------------------------------------------------------------------------------

-- loops at new ids name these, and edges behind them name what they name then
loops-name : (front ids : List ℕ) (rest : List (ℕ × ℕ)) → Distinct (front ++ ids)
    → with_names front (ends (map loop_at ids ++ rest)) ≡ with_names (front ++ ids) (ends rest)
loops-name front [] rest once = ap (λ (l : List ℕ). with_names l (ends rest)) (sym (append-nil front))
loops-name front (x ∷ ids) rest once =
    let new : is_member nat_eq front x ≡ false = (Distinct-cut x front ids once).0 in
    let there : is_member nat_eq (front ++ x ∷ []) x ≡ true = member-append_right x front (x ∷ []) (member-head x []) in
    let parts : (front ++ x ∷ []) ++ ids ≡ front ++ x ∷ ids = append_assoc front (x ∷ []) ids in
    ap (λ (l : List ℕ). with_names (with_name l x) (ends (map loop_at ids ++ rest))) (name-new front x new)
    ∙ ap (λ (l : List ℕ). with_names l (ends (map loop_at ids ++ rest))) (name-known (front ++ x ∷ []) x there)
    ∙ loops-name (front ++ x ∷ []) ids rest (subst Distinct (sym parts) once) ∙ ap (λ (l : List ℕ). with_names l (ends rest)) parts

-- edges between ids name no new one
edges-name : (ids : List ℕ) (es : List (ℕ × ℕ)) → All (λ (p : ℕ × ℕ). (p.0 < p.1) × (p.1 < length ids)) es
    → with_names ids (ends (map (ids_at ids) es)) ≡ ids
edges-name ids [] within = refl
edges-name ids (p ∷ es) within =
    let first = within 0 p (omega arith) in
    let a : is_member nat_eq ids (at ids p.0) ≡ true = member-get_or ids p.0 0 (omega (arith, first.0, first.1)) in
    let b : is_member nat_eq ids (at ids p.1) ≡ true = member-get_or ids p.1 0 first.1 in
    ap (λ (l : List ℕ). with_names (with_name l (at ids p.1)) (ends (map (ids_at ids) es))) (name-known ids (at ids p.0) a)
    ∙ ap (λ (l : List ℕ). with_names l (ends (map (ids_at ids) es))) (name-known ids (at ids p.1) b)
    ∙ edges-name ids es (λ k d l. within (suc k) d (omega (arith, l)))

-- The edges. -----------------------------------------------------------------------------------------

-- no edge joins a place with itself
between-same : (u : ℕ) → between u u ≡ None
between-same u = ap (λ (b : Bool). cond b (Some (u, u)) (cond b (Some (u, u)) None)) (le-ltb u u (omega arith))

-- an edge between ascending places
between-less : (u v : ℕ) → u < v → between u v ≡ Some (u, v)
between-less u v l = ap (λ (b : Bool). cond b (Some (u, v)) (cond (nat_lt v u) (Some (v, u)) None)) (lt-ltb u v l)

-- loops are no edges
loops-none : (ids xs : List ℕ) → filter_map (numbered ids) (map loop_at xs) ≡ []
loops-none ids [] = refl
loops-none ids (x ∷ xs) =
    ap (λ (o : Option (ℕ × ℕ)). cons_option o (filter_map (numbered ids) (map loop_at xs))) (between-same (place ids x)) ∙ loops-none ids xs

-- edges between ids are those between their places
edges-numbered : (ids : List ℕ) (es : List (ℕ × ℕ)) → Distinct ids → All (λ (p : ℕ × ℕ). (p.0 < p.1) × (p.1 < length ids)) es
    → filter_map (numbered ids) (map (ids_at ids) es) ≡ es
edges-numbered ids [] once within = refl
edges-numbered ids (p ∷ es) once within =
    let first = within 0 p (omega arith) in
    let here : numbered ids (ids_at ids p) ≡ Some p =
    ap₂ between (place-at ids p.0 once (omega (arith, first.0, first.1))) (place-at ids p.1 once first.1) ∙ between-less p.0 p.1 first.0 in
    ap (λ (o : Option (ℕ × ℕ)). cons_option o (filter_map (numbered ids) (map (ids_at ids) es))) here
    ∙ ap (λ (t : List (ℕ × ℕ)). p ∷ t) (edges-numbered ids es once (λ k d l. within (suc k) d (omega (arith, l))))

-- All of it. -----------------------------------------------------------------------------------------

-- the start text is the lines of its edges
start-lines : (s : KeptParts) → start_text s ≡ flat_map line_of_two (start_edges s)
start-lines s =
    ap₂ (λ (x y : List ℕ). x ++ y) (sym (flat_map-map line_of_two loop_at s.ids))
    (edges-listed s.ids s.ranked.graph ∙ sym (flat_map-map line_of_two (ids_at s.ids) (edge_list s.ranked.graph)))
    ∙ sym (flat_map-append line_of_two (map loop_at s.ids) (map (ids_at s.ids) (edge_list s.ranked.graph)))

-- the ids of a state fit
ids-small : (ids : List ℕ) → All (λ (x : ℕ). x < 2 ^ 32) ids → (v : ℕ) → at ids v < 2 ^ 32
ids-small [] small v = omega arith
ids-small (x ∷ ids) small zero = small 0 0 (omega arith)
ids-small (x ∷ ids) small (suc k) = ids-small ids (λ j d l. small (suc j) d (omega (arith, l))) k

-- so do loops at them
loops-small : (xs : List ℕ) (rest : List (ℕ × ℕ)) → All (λ (x : ℕ). x < 2 ^ 32) xs → AreSmall rest → AreSmall (map loop_at xs ++ rest)
loops-small [] rest small r = r
loops-small (x ∷ xs) rest small r =
    let here : x < 2 ^ 32 = small 0 0 (omega arith) in
    All-cons IsSmall (loop_at x) (map loop_at xs ++ rest) (here, here) (loops-small xs rest (λ k d l. small (suc k) d (omega (arith, l))) r)

-- and edges between them
edges-small : (ids : List ℕ) (es : List (ℕ × ℕ)) → ((v : ℕ) → at ids v < 2 ^ 32) → AreSmall (map (ids_at ids) es)
edges-small ids [] small = λ k d l. absurd (omega (arith, l))
edges-small ids (p ∷ es) small =
    All-cons IsSmall (ids_at ids p) (map (ids_at ids) es) (small p.0, small p.1) (edges-small ids es small)

-- the edges of a state are pairs of ascending places among its ids
edges-within : (s : KeptParts) → IsKeptState s → All (λ (p : ℕ × ℕ). (p.0 < p.1) × (p.1 < length s.ids)) (edge_list s.ranked.graph)
edges-within s kept =
    subst (λ (m : ℕ). All (λ (p : ℕ × ℕ). (p.0 < p.1) × (p.1 < m)) (edge_list s.ranked.graph)) (sym kept.one_id_each) (edge_list-within s.ranked.graph)

-- the edges of the start text name the ids of the state, in their order
pub start-named : (s : KeptParts) → IsKeptState s → with_names [] (ends (start_edges s)) ≡ s.ids
start-named s kept =
    let es : List (ℕ × ℕ) = edge_list s.ranked.graph in
    loops-name [] s.ids (map (ids_at s.ids) es) kept.once ∙ edges-name s.ids es (edges-within s kept)

-- the start text ends with a line
pub start-ends : (s : KeptParts) → EndsLine (start_text s)
start-ends s = subst EndsLine (sym (start-lines s)) (pairs-end (start_edges s))

-- the graph of a start, by its size and its edges
graph-is : (ids : List ℕ) (size : ℕ) (ps es : List (ℕ × ℕ)) → length ids ≡ size → filter_map (numbered ids) ps ≡ es
    → start_graph ids ps ≡ record { size = size; edges = set.from_list es }
unfolding start_graph
graph-is ids size ps es long listed = λ i. record { size = long i; edges = set.from_list (listed i) }

-- A stream that begins with the start text of a state has begun with its graph.
pub begun-with : (bad : BadLines) (s : KeptParts) → IsKeptState s → length s.ids ≤ VERTICES → HasBegunWith (heard_so_far bad (start_text s)) s
begun-with bad s kept few =
    let es : List (ℕ × ℕ) = edge_list s.ranked.graph in
    let ps : List (ℕ × ℕ) = start_edges s in
    let within : All (λ (p : ℕ × ℕ). (p.0 < p.1) × (p.1 < length s.ids)) es = edges-within s kept in
    let small : AreSmall ps = loops-small s.ids (map (ids_at s.ids) es) kept.small_ids (edges-small s.ids es (ids-small s.ids kept.small_ids)) in
    let named : with_names [] (ends ps) ≡ s.ids = start-named s kept in
    let begins : IsBeginning nothing_heard = record { going = refl; kept = refl; earlier = refl; last = refl } in
    let is : heard_so_far bad (start_text s) ≡ take_edges nothing_heard ps =
    ap (heard_so_far bad) (start-lines s ∙ sym (append-nil (flat_map line_of_two ps))) ∙ so-far bad (flat_map line_of_two ps) [] (pairs-end ps) refl
    ∙ ap (hear_all bad nothing_heard) (pairs-tell ps small)
    ∙ hear-edges bad nothing_heard ps begins (subst (λ (ids : List ℕ). length ids ≤ VERTICES) (sym named) few) in
    let after : AfterEdges nothing_heard (take_edges nothing_heard ps) ps = after-edges nothing_heard ps begins in
    let listed : filter_map (numbered s.ids) ps ≡ es =
    filter_map-append (numbered s.ids) (map loop_at s.ids) (map (ids_at s.ids) es)
    ∙ ap₂ (λ (x y : List (ℕ × ℕ)). x ++ y) (loops-none s.ids s.ids) (edges-numbered s.ids es kept.once within) in
    subst (λ (h : Heard). HasBegunWith h s) (sym is) (record {
      going = after.begins.going;
      earlier = after.begins.earlier;
      last = after.begins.last;
      ids = after.ids ∙ named;
      edges = after.edges;
      graph = ap (start_graph s.ids) after.edges ∙ graph-is s.ids s.ranked.graph.size ps es kept.one_id_each listed;
    })
