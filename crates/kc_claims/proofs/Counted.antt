-- What is counted of the edges of a stream.
use Rattle.std.proofs.Common.{◌≡◌, ◌≤◌, ◌<◌, ◌+◌, ◌-◌, ◌∙◌, ◌++◌, ◌^◌, ℕ, suc, get_or, slice_get, List, [], ◌∷◌, Global, None, Option, Some, Vec, ap}
use Rattle.std.proofs.Common.{ap₂, arith, length, length-append, refl, subst, sym}
use Rattle.std.specs.List.Sorted.{IsStrictlyIncreasing}
use Rattle.std.proofs.lemmas.List.{map-append}
use Rattle.std.proofs.lemmas.List.Elements.{filter-append}
use Rattle.std.proofs.lemmas.Option.{get_or_from_slice_get}
use Rattle.kc_graph.specs.Peeling.{at}
use Rattle.kc_graph.specs.declared.bulk.Edge.{Edge}
use Rattle.kc_text.specs.Forms.{all_said}
use Rattle.kc_text.specs.Lines.{EndsLine}
use Rattle.kc_text.specs.TellingLines.{is_telling}
use Rattle.kc_text.specs.declared.limits.TheConstants.Limits.{GRAPH}
use Rattle.kc_text.specs.declared.line.TextLine.{TextLine}
use Rattle.kc_text.proofs.SaidAppend.{said-append}
use Rattle.kc_tally.specs.Lists.{first_fault, last_edge}
use Rattle.kc_tally.specs.Tallies.{AreTallied}
use Rattle.kc_tally.proofs.Faults.{faults-append}
use Rattle.kc_claims.specs.Certificates.{TellEach}
use Rattle.kc_claims.specs.Places.{ArePlaces}
use Rattle.kc_claims.specs.declared.claim.Claim.{Claim}
use Rattle.kc_claims.specs.Sweeping.{AreToldBy, HasCounted, HasSwept, edge_said, named}
use Rattle.kc_claims.specs.declared.sweep.Sweep.{Sweep}

-- the last edge of two lists
last_edge-append : (before : Option Edge) (es fs : List Edge) → last_edge before (es ++ fs) ≡ last_edge (last_edge before es) fs
last_edge-append before [] fs = refl
last_edge-append before (e ∷ es) fs = last_edge-append (Some e) es fs

-- the last edge of a list that has one
last_edge-at : (before : Option Edge) (es : List Edge) (d : Edge) → 0 < length es → last_edge before es ≡ Some (get_or es (length es - 1) d)
last_edge-at before [] d some = absurd (omega arith)
last_edge-at before (e ∷ []) d some = let first : length (e ∷ []) - 1 ≡ 0 = omega arith in sym (ap (λ n. Some (get_or (e ∷ []) n d)) first)
last_edge-at before (e ∷ f ∷ es) d some =
    let later : length (e ∷ f ∷ es) - 1 ≡ suc (length (f ∷ es) - 1) = omega arith in
    last_edge-at (Some e) (f ∷ es) d (omega arith) ∙ sym (ap (λ n. Some (get_or (e ∷ f ∷ es) n d)) later)

-- the last edge of a list that has one, as it is found
pub last_edge-is : (before : Option Edge) (es : List Edge) (e : Edge) → Some e ≡ slice_get es (length es - 1) → Some e ≡ last_edge before es
last_edge-is before [] e is = absurd (let none : Some e ≡ None = is in cc)
last_edge-is before (f ∷ es) e is =
    ap (λ x. Some x) (sym (get_or_from_slice_get (f ∷ es) (length (f ∷ es) - 1) e f (sym is))) ∙ sym (last_edge-at before (f ∷ es) f (omega arith))

-- lines that tell edges, and others behind them
pub AreToldBy-append : (ids : List ℕ) (xs ys : List TextLine) (es fs : List Edge) → AreToldBy ids xs es → AreToldBy ids ys fs
    → AreToldBy ids (xs ++ ys) (es ++ fs)
AreToldBy-append ids xs ys es fs first second =
    filter-append is_telling xs ys ∙ ap₂ (λ (s t : List TextLine). s ++ t) first second ∙ sym (map-append (λ (e : Edge). edge_said (named ids e)) es fs)

-- more edges are counted
pub HasCounted-more : (start old now : Sweep) (before more : List Edge) → HasCounted start old before → now.ids ≡ old.ids → now.core ≡ old.core
    → now.rank ≡ old.rank → now.places ≡ old.places → now.last ≡ last_edge old.last more → now.count ≡ old.count + length more → now.count ≤ GRAPH.edge_lines
    → first_fault (length old.core.items) 0 old.last more ≡ None
    → ((earlier : List Edge) → AreTallied old.core.items old.rank.items earlier old.later.items old.supporters.items
    → AreTallied old.core.items old.rank.items (earlier ++ more) now.later.items now.supporters.items)
    → HasCounted start now (before ++ more)
HasCounted-more start old now before more h ids core rank places last count few faultless tally = record {
  ids = ids ∙ h.ids;
  core = core ∙ h.core;
  rank = rank ∙ h.rank;
  ascending = subst (λ v. IsStrictlyIncreasing v) (sym (ap (λ (v : Vec ℕ Global). v.items) ids)) h.ascending;
  few = omega (arith, ap (λ (v : Vec ℕ Global). length v.items) ids, h.few);
  one_number = omega (arith, ap (λ (v : Vec ℕ Global). length v.items) ids, ap (λ (v : Vec ℕ Global). length v.items) core, h.one_number);
  one_rank = omega (arith, ap (λ (v : Vec ℕ Global). length v.items) ids, ap (λ (v : Vec ℕ Global). length v.items) rank, h.one_rank);
  faultless = ap (λ (v : Vec ℕ Global). first_fault (length v.items) 0 None (before ++ more)) core
      ∙ faults-append (length old.core.items) None before more h.faultless
      (ap (λ e. first_fault (length old.core.items) 0 e more) (sym h.last) ∙ faultless);
  last = last ∙ ap (λ e. last_edge e more) h.last ∙ sym (last_edge-append None before more);
  counted = omega (arith, count, h.counted, length-append before more);
  within = few;
  tally = subst (λ (c : Vec ℕ Global). AreTallied c.items now.rank.items (before ++ more) now.later.items now.supporters.items) (sym core)
      (subst (λ (r : Vec ℕ Global). AreTallied old.core.items r.items (before ++ more) now.later.items now.supporters.items) (sym rank) (tally before h.tally));
  placed = subst (ArePlaces now.ids.items) (sym places) (subst (λ (v : Vec ℕ Global). ArePlaces v.items old.places) (sym ids) h.placed);
}

-- what is counted doesn't hang on the edges that are put
pub HasCounted-put : (start now : Sweep) (put : Vec Edge Global) (edges : List Edge) → HasCounted start now edges
    → HasCounted start (record now { edges = put }) edges
HasCounted-put start now put edges h = record {
  ids = h.ids;
  core = h.core;
  rank = h.rank;
  ascending = h.ascending;
  few = h.few;
  one_number = h.one_number;
  one_rank = h.one_rank;
  faultless = h.faultless;
  last = h.last;
  counted = h.counted;
  within = h.within;
  tally = h.tally;
  placed = h.placed;
}

-- the edges of more lines are counted
pub HasSwept-more : (start old now : Sweep) (before lines : List ℕ) (told : List Edge) → EndsLine before → (h : HasSwept start old before)
    → AreToldBy old.ids.items (all_said lines) told → HasCounted start now (h.edges ++ told) → HasSwept start now (before ++ lines)
HasSwept-more start old now before lines told ended h more counted =
    let same : now.ids ≡ old.ids = counted.ids ∙ sym h.counted.ids in
    record {
      edges = h.edges ++ told;
      told = subst (λ (v : Vec ℕ Global). AreToldBy v.items (all_said (before ++ lines)) (h.edges ++ told)) (sym same)
          (subst (λ (t : List TextLine). AreToldBy old.ids.items t (h.edges ++ told)) (sym (said-append before lines ended))
          (AreToldBy-append old.ids.items (all_said before) (all_said lines) h.edges told h.told more));
      counted = counted;
    }

-- nothing was counted of no bytes
pub HasSwept-fresh : (s : Sweep) → IsStrictlyIncreasing s.ids.items → length s.ids.items < 2 ^ 32 → length s.core.items ≡ length s.ids.items
    → length s.rank.items ≡ length s.ids.items → s.last ≡ None → s.count ≡ 0 → length s.later.items ≡ length s.ids.items
    → length s.supporters.items ≡ length s.ids.items → ((v : ℕ) → v < length s.ids.items → at s.later.items v ≡ 0)
    → ((v : ℕ) → v < length s.ids.items → at s.supporters.items v ≡ 0) → ArePlaces s.ids.items s.places → HasSwept s s []
HasSwept-fresh s up few numbers ranks last count later supporters none others placed = record {
  edges = [];
  told = refl;
  counted = record {
    ids = refl;
    core = refl;
    rank = refl;
    ascending = up;
    few = few;
    one_number = numbers;
    one_rank = ranks;
    faultless = refl;
    last = last;
    counted = count;
    within = omega (arith, count);
    tally = record {
      later_each = omega (arith, later, numbers);
      supporters_each = omega (arith, supporters, numbers);
      later_counted = λ v l. none v (omega (arith, l, numbers));
      supporters_counted = λ v l. others v (omega (arith, l, numbers));
    };
    placed = placed;
  };
}

-- what claims tell lists they tell the same lists
pub TellEach-same : (claims : List Claim) (order ids ids' core core' rank rank' : List ℕ) → ids' ≡ ids → core' ≡ core → rank' ≡ rank
    → TellEach ids claims order core rank → TellEach ids' claims order core' rank'
TellEach-same claims order ids ids' core core' rank rank' i c r told =
    subst (λ (xs : List ℕ). TellEach xs claims order core' rank') (sym i)
    (subst (λ (xs : List ℕ). TellEach ids claims order xs rank') (sym c) (subst (λ (xs : List ℕ). TellEach ids claims order core xs) (sym r) told))

-- a tally of lists is one of the same lists
pub AreTallied-same : (core core' rank rank' later later' supporters supporters' : List ℕ) (edges edges' : List Edge) → core ≡ core' → rank ≡ rank'
    → edges ≡ edges' → later ≡ later' → supporters ≡ supporters'
    → AreTallied core rank edges later supporters → AreTallied core' rank' edges' later' supporters'
AreTallied-same core core' rank rank' later later' supporters supporters' edges edges' c r e l s t =
    subst (λ (xs : List ℕ). AreTallied core' rank' edges' later' xs) s
    (subst (λ (xs : List ℕ). AreTallied core' rank' edges' xs supporters) l
    (subst (λ (es : List Edge). AreTallied core' rank' es later supporters) e
    (subst (λ (xs : List ℕ). AreTallied core' xs edges later supporters) r (subst (λ (xs : List ℕ). AreTallied xs rank edges later supporters) c t))))
