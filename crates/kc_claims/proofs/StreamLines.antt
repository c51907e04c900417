-- What lines mean that tell just edges between ids.
use Rattle.std.proofs.Common.{◌≡◌, ◌≤◌, ◌+◌, ℕ, true, false, ◌||◌, List, [], ◌∷◌, ◌++◌, length, nat_eq, nat_lt, None}
use Rattle.std.proofs.Common.{refl, sym, ap, ap₂, ◌∙◌, arith, inl, inr, eqb-true, le-ltb, append-nil, append_assoc, length-append}
use Rattle.std.specs.Prelude.{All}
use Rattle.std.specs.List.{filter}
use Rattle.std.specs.List.Sorted.{IsStrictlyIncreasing}
use Rattle.std.specs.Set.{distinct_count, is_member}
use Rattle.std.proofs.lemmas.Bool.{false≢true, or_cases}
use Rattle.std.proofs.lemmas.List.Elements.{All-append, All-cons, All-head, All-nil, All-tail}
use Rattle.kc_text.specs.declared.limits.Limits.{Limits}
use Rattle.kc_text.specs.declared.line.TextLine.{TextLine}
use Rattle.kc_text.specs.declared.line.TextLine.TheVariants as said
use Rattle.kc_text.specs.Inputs.{AreIds}
use Rattle.kc_text.specs.Meaning.{Means, Told, ends, ends_or, first_limit, names, passed_limit, reading, refusal}
use Rattle.kc_text.specs.TellingLines.{edge_lines, is_telling}
use Rattle.kc_text.proofs.Counts.{distinct_count-le_from_members}
use Rattle.kc_text.proofs.Places.{length-AreIds}
use Rattle.kc_claims.specs.Streams.{IsAmong}

-- what lines tell that tell just edges
abbrev pub edges_told : List (ℕ × ℕ) → Told
edges_told edges = record { edges = edges; earlier = []; last = None }

-- the names of edges between ids are ids
pub ends-among : (ids : List ℕ) (edges : List (ℕ × ℕ)) → All (IsAmong ids) edges → (q : ℕ) → is_member nat_eq (ends edges) q ≡ true
    → is_member nat_eq ids q ≡ true
ends-among ids [] all q h = absurd (false≢true h)
ends-among ids (e ∷ edges) all q h =
    let both : IsAmong ids e = All-head (IsAmong ids) e edges all in
    elim (or_cases (nat_eq q e.0) (nat_eq q e.1 || is_member nat_eq (ends edges) q) h) [
      | inl is ↦ ap (is_member nat_eq ids) (eqb-true q e.0 is) ∙ both.0
      | inr others ↦ elim (or_cases (nat_eq q e.1) (is_member nat_eq (ends edges) q) others) [
        | inl is ↦ ap (is_member nat_eq ids) (eqb-true q e.1 is) ∙ both.1
        | inr old ↦ ends-among ids edges (All-tail (IsAmong ids) e edges all) q old
      ]
    ]

module _ (limits : Limits) (ids : List ℕ) (up : IsStrictlyIncreasing ids) (few : length ids ≤ limits.ids) where
  -- edges between few ids name few
  few-names : (edges : List (ℕ × ℕ)) → All (IsAmong ids) edges → distinct_count nat_eq (names (edges_told edges)) ≤ limits.ids
  few-names edges all =
      let ids-are : AreIds ids ids = record { ascending = up; exact = λ q. refl } in
      let same : names (edges_told edges) ≡ ends edges = ap ends (append-nil edges) in
      omega (
        arith,
        ap (λ (t : List ℕ). distinct_count nat_eq t) same,
        distinct_count-le_from_members (ends edges) ids (ends-among ids edges all),
        length-AreIds ids ids ids-are,
        few,
      )

  -- so few pass no limit
  no_limit : (edges : List (ℕ × ℕ)) → All (IsAmong ids) edges → length edges ≤ limits.edge_lines → passed_limit limits (edges_told edges) ≡ None
  no_limit edges all short =
      ap (λ b. first_limit b (nat_lt limits.edge_lines (length edges)) (nat_lt limits.updates 0) (nat_lt limits.batches 0))
      (le-ltb limits.ids (distinct_count nat_eq (names (edges_told edges))) (few-names edges all))
      ∙ ap (λ b. first_limit false b (nat_lt limits.updates 0) (nat_lt limits.batches 0)) (le-ltb limits.edge_lines (length edges) short)
      ∙ ap (λ b. first_limit false false b (nat_lt limits.batches 0)) (le-ltb limits.updates 0 (omega arith))
      ∙ ap (λ b. first_limit false false false b) (le-ltb limits.batches 0 (omega arith))

  -- lines that tell just edges are read, behind others that did
  reading-edges : (lines : List TextLine) (done : ℕ) (before edges : List (ℕ × ℕ)) → filter is_telling lines ≡ edge_lines edges → All (IsAmong ids) before
      → All (IsAmong ids) edges → length before + length edges ≤ limits.edge_lines
      → reading limits done (edges_told before) lines ≡ Means (edges_told (before ++ edges))
  reading-edges [] done before [] is all more short = ap (λ (t : List (ℕ × ℕ)). Means (edges_told t)) (sym (append-nil before))
  reading-edges [] done before (e ∷ edges) is all more short = let h : [] ≡ said.Edge e.0 e.1 ∷ edge_lines edges = is in absurd (cc)
  reading-edges (said.Nothing ∷ lines) done before edges is all more short = reading-edges lines (done + 1) before edges is all more short
  reading-edges (said.Edge a b ∷ lines) done before [] is all more short =
      let h : said.Edge a b ∷ filter is_telling lines ≡ [] = is in absurd (cc)
  reading-edges (said.Edge a b ∷ lines) done before (e ∷ edges) is all more short =
      let h : said.Edge a b ∷ filter is_telling lines ≡ said.Edge e.0 e.1 ∷ edge_lines edges = is in
      let first : a ≡ e.0 = cc in
      let second : b ≡ e.1 = cc in
      let rest : filter is_telling lines ≡ edge_lines edges = cc in
      let same : (a, b) ≡ e = ap₂ (λ (s t : ℕ). (s, t)) first second in
      let among : IsAmong ids e = All-head (IsAmong ids) e edges more in
      let here : IsAmong ids (a, b) = (ap (is_member nat_eq ids) first ∙ among.0, ap (is_member nat_eq ids) second ∙ among.1) in
      let now : List (ℕ × ℕ) = before ++ (a, b) ∷ [] in
      let all' : All (IsAmong ids) now =
      All-append (IsAmong ids) before ((a, b) ∷ []) all (All-cons (IsAmong ids) (a, b) [] here (All-nil (IsAmong ids))) in
      let long : length now ≡ length before + 1 = length-append before ((a, b) ∷ []) in
      let taken : refusal limits (edges_told before) (said.Edge a b) ≡ None = no_limit now all' (omega (arith, long)) in
      ap (λ r. ends_or r (done + 1) (reading limits (done + 1) (edges_told now) lines)) taken
      ∙ reading-edges lines (done + 1) now edges rest all' (All-tail (IsAmong ids) e edges more) (omega (arith, long))
      ∙ ap (λ (t : List (ℕ × ℕ)). Means (edges_told t))
      (append_assoc before ((a, b) ∷ []) edges ∙ ap (λ (p : ℕ × ℕ). before ++ p ∷ edges) same)
  reading-edges (said.Batch ∷ lines) done before [] is all more short =
      let h : said.Batch ∷ filter is_telling lines ≡ [] = is in absurd (cc)
  reading-edges (said.Batch ∷ lines) done before (e ∷ edges) is all more short =
      let h : said.Batch ∷ filter is_telling lines ≡ said.Edge e.0 e.1 ∷ edge_lines edges = is in absurd (cc)
  reading-edges (said.Change c ∷ lines) done before [] is all more short =
      let h : said.Change c ∷ filter is_telling lines ≡ [] = is in absurd (cc)
  reading-edges (said.Change c ∷ lines) done before (e ∷ edges) is all more short =
      let h : said.Change c ∷ filter is_telling lines ≡ said.Edge e.0 e.1 ∷ edge_lines edges = is in absurd (cc)
  reading-edges (said.Wrong kind ∷ lines) done before [] is all more short =
      let h : said.Wrong kind ∷ filter is_telling lines ≡ [] = is in absurd (cc)
  reading-edges (said.Wrong kind ∷ lines) done before (e ∷ edges) is all more short =
      let h : said.Wrong kind ∷ filter is_telling lines ≡ said.Edge e.0 e.1 ∷ edge_lines edges = is in absurd (cc)

  -- lines that tell just edges between ids mean these edges
  pub reading-told : (lines : List TextLine) (edges : List (ℕ × ℕ)) → filter is_telling lines ≡ edge_lines edges → All (IsAmong ids) edges
      → length edges ≤ limits.edge_lines → reading limits 0 (edges_told []) lines ≡ Means (edges_told edges)
  reading-told lines edges is more short = reading-edges lines 0 [] edges is (All-nil (IsAmong ids)) more (omega arith)
