-- Earlier numbers: one more is kept, and an update is entered.
use Rattle.std.proofs.Common.{◌≡◌, ◌≢◌, ◌<◌, ◌≤◌, ℕ, true, false, List, [], ◌∷◌, ◌++◌, length, get_or, set}
use Rattle.std.proofs.Common.{sym, ap, ◌∙◌, subst, arith, get_or-set_other, get_or-set_same, length-append, below_more, eqb, eq-eqb}
use Rattle.std.specs.Prelude.{Bool, Result, Ok, Err, OnOk, OnErr}
use Rattle.std.specs.List.{All}
use Rattle.std.specs.Cmp.{both_ways}
use Rattle.std.proofs.lemmas.List.{get_or_append_left, map-append, length-map}
use Rattle.std.proofs.Math.Seq.{get_or-append_seam}
use Rattle.std.proofs.lemmas.List.Elements.{All-push}
use Rattle.std.proofs.lemmas.Bool.{eqb-true, false_from_ne_true, false≢true}
use Rattle.kc_lists.specs.Lists.{member}
use Rattle.kc_lists.proofs.Counting.{Contains-from_member, member-get_or, member-push_none}
use Rattle.kc_lists.proofs.Shared.{get_or-any}
use Rattle.kc_graph.specs.declared.plan.Moves.{Moves}
use Rattle.kc_cert.specs.Stands.{leaving}
use Rattle.kc_keeper.specs.Cores.{changed_vertices}
use Rattle.kc_journal.specs.declared.answer.EnterFault.{EnterFault}
use Rattle.kc_keeper.specs.Earlier.{AreEarlier, AreIndexed, AreKept, IsEarlier, KeepsEarlier, Renumbers}
use Rattle.kc_keeper.specs.declared.changes.CoreChange.{CoreChange}
use Rattle.kc_keeper.specs.declared.earlier.EarlierNumbers.{EarlierNumbers}

-- A vertex is in the list just where its place says.
pub record StandsAt (places vertices : List ℕ) (v : ℕ) : Type 0 where
  pub low : get_or places v 0 < length vertices
  pub here : get_or vertices (get_or places v 0) 0 ≡ v

-- what stands where its place says is in the list
pub member-from_place : (places vertices : List ℕ) (v : ℕ) → StandsAt places vertices v → member v vertices ≡ true
member-from_place places vertices v at =
    subst (λ (x : ℕ). member x vertices ≡ true) at.here (member-get_or vertices (get_or places v 0) 0 at.low)

-- and what is in the list stands there
pub place-from_member : (places vertices : List ℕ) (v : ℕ) → AreIndexed places vertices → member v vertices ≡ true → StandsAt places vertices v
place-from_member places vertices v indexed m =
    let c = Contains-from_member vertices v m in
    let at : get_or vertices c.0 0 ≡ v = get_or-any vertices c.0 0 v c.1 ∙ c.2 in
    let place : get_or places v 0 ≡ c.0 = ap (λ (x : ℕ). get_or places x 0) (sym at) ∙ indexed c.0 c.1 in
    record { low = omega (arith, c.1, place); here = ap (λ (i : ℕ). get_or vertices i 0) place ∙ at }

-- whether the vertex stands where its place says, if that place is in the list
pub stands-there : (places vertices : List ℕ) (v place : ℕ) → place ≡ get_or places v 0 → place < length vertices → AreIndexed places vertices
    → eqb (get_or vertices place 0) v ≡ member v vertices
stands-there places vertices v place is low indexed = both_ways _ _
    (λ h. member-from_place places vertices v (record {
      low = omega (arith, is, low);
      here = ap (λ (i : ℕ). get_or vertices i 0) (sym is) ∙ eqb-true (get_or vertices place 0) v h;
    }))
    (λ m. let at = place-from_member places vertices v indexed m in
    eq-eqb (get_or vertices place 0) v (ap (λ (i : ℕ). get_or vertices i 0) is ∙ at.here))

-- and it does not where its place is not in the list
pub stands-nowhere : (places vertices : List ℕ) (v place : ℕ) → place ≡ get_or places v 0 → length vertices ≤ place → AreIndexed places vertices
    → member v vertices ≡ false
stands-nowhere places vertices v place is high indexed =
    false_from_ne_true (member v vertices) (λ m. let at = place-from_member places vertices v indexed m in omega (arith, is, high, at.low))

-- the vertices with one change more
pub vertices-push : (cs : List CoreChange) (c : CoreChange) → changed_vertices (cs ++ c ∷ []) ≡ changed_vertices cs ++ c.vertex ∷ []
vertices-push cs c = map-append (λ (x : CoreChange). x.vertex) cs (c ∷ [])

-- the list is indexed with one vertex more, whose place is the last
indexed-push : (places vertices : List ℕ) (v : ℕ) → AreIndexed places vertices → member v vertices ≡ false → v < length places
    → AreIndexed (set places v (length vertices)) (vertices ++ v ∷ [])
indexed-push places vertices v indexed none low i below =
    let new : List ℕ = set places v (length vertices) in
    let early : (k : ℕ) → k < length vertices → get_or new (get_or (vertices ++ v ∷ []) k 0) 0 ≡ k =
    (λ k before.
    let same : get_or (vertices ++ v ∷ []) k 0 ≡ get_or vertices k 0 = get_or_append_left vertices (v ∷ []) 0 k before in
    let other : get_or vertices k 0 ≢ v =
    (λ e. false≢true (sym none ∙ subst (λ (x : ℕ). member x vertices ≡ true) e (member-get_or vertices k 0 before))) in
    ap (λ (x : ℕ). get_or new x 0) same ∙ (get_or-set_other places v (get_or vertices k 0) (length vertices) 0 other ∙ indexed k before)) in
    let last : get_or new (get_or (vertices ++ v ∷ []) (length vertices) 0) 0 ≡ length vertices =
    ap (λ (x : ℕ). get_or new x 0) (get_or-append_seam vertices v [] 0) ∙ get_or-set_same places v (length vertices) 0 low in
    below_more (λ (k : ℕ). get_or new (get_or (vertices ++ v ∷ []) k 0) 0 ≡ k) (length vertices) early last i
    (omega (arith, below, length-append vertices (v ∷ [])))

-- the number of a vertex more is kept
pub kept-push : {start core : List ℕ} {old new : EarlierNumbers} (c : CoreChange) → AreEarlier start core old
    → member c.vertex (changed_vertices old.cores.items) ≡ false → c.vertex < length core → c.vertex < length old.places.items
    → get_or core c.vertex 0 ≡ c.before → new.cores.items ≡ old.cores.items ++ c ∷ []
    → new.places.items ≡ set old.places.items c.vertex (length old.cores.items) → AreEarlier start core new
kept-push {start} {core} {old} {new} c h none within low number cores places =
    let vs : List ℕ = changed_vertices old.cores.items in
    let vertices : changed_vertices new.cores.items ≡ vs ++ c.vertex ∷ [] = ap changed_vertices cores ∙ vertices-push old.cores.items c in
    let many : length vs ≡ length old.cores.items = length-map old.cores.items (λ (x : CoreChange). x.vertex) in
    let here : IsEarlier start c = (omega (arith, within, h.long), sym number ∙ h.others c.vertex none) in
    record {
      long = h.long;
      each = subst (All (IsEarlier start)) (sym cores) (All-push (IsEarlier start) old.cores.items c h.each here);
      indexed = subst (AreIndexed new.places.items) (sym vertices)
          (subst (λ (ps : List ℕ). AreIndexed ps (vs ++ c.vertex ∷ [])) (ap (set old.places.items c.vertex) many ∙ sym places)
          (indexed-push old.places.items vs c.vertex h.indexed none low));
      others = λ v gone. h.others v ((member-push_none v c.vertex vs (ap (member v) (sym vertices) ∙ gone)).0);
    }

-- a vertex that is not kept does not leave its level
not-leaving : (moves : Moves) (earlier : EarlierNumbers) (v : ℕ) → AreKept moves earlier → member v (changed_vertices earlier.cores.items) ≡ false
    → member v (leaving moves) ≡ false
not-leaving moves earlier v kept none =
    let vs : List ℕ = changed_vertices earlier.cores.items in
    false_from_ne_true (member v (leaving moves)) (λ m.
    let c = Contains-from_member (leaving moves) v m in
    false≢true (sym none ∙ subst (λ (x : ℕ). member x vs ≡ true) c.2 (kept c.0 v c.1)))

-- the numbers after moves whose vertices are all kept
pub kept-after : {start core new : List ℕ} {earlier : EarlierNumbers} (moves : Moves) → AreEarlier start core earlier → AreKept moves earlier
    → Renumbers moves core new → AreEarlier start new earlier
kept-after {start} {core} {new} {earlier} moves h kept r = record {
  long = r.long ∙ h.long;
  each = h.each;
  indexed = h.indexed;
  others = λ v none. r.others v (not-leaving moves earlier v kept none) ∙ h.others v none;
}

-- what is kept stays right where the moves are made, and where they are not
pub keeps-entered : {before after : List ℕ} {old new : EarlierNumbers} (result : Result Bool EnterFault) (moves : Moves)
    → KeepsEarlier before before old new → AreKept moves new → OnOk result (Renumbers moves before after) → OnErr result (after ≡ before)
    → KeepsEarlier before after old new
keeps-entered (Ok applied) moves keeps kept renumbers same = λ start h. kept-after moves (keeps start h) kept renumbers
keeps-entered {before} {after} {old} {new} (Err fault) moves keeps kept renumbers same = λ start h.
    subst (λ (core : List ℕ). AreEarlier start core new) (sym same) (keeps start h)
