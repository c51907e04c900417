-- What the counts of a stream show of the claims, in the graph that its bytes mean.
use Rattle.std.proofs.Common.{◌≡◌, ◌≤◌, ◌<◌, ◌⊎◌, ◌∙◌, Global, ℕ, IfSome, List, None, Option, Some, Vec, ap, arith, length, map, refl, subst, sym}
use Rattle.std.proofs.lemmas.List.{get_or_default, length-map}
use Rattle.kc_lists.specs.Lists.{member}
use Rattle.kc_graph.specs.Peeling.{at}
use Rattle.kc_graph.specs.SimpleGraph.{SimpleGraph}
use Rattle.kc_text.specs.Forms.{all_said}
use Rattle.kc_text.specs.Meaning.{Means, meaning, names}
use Rattle.kc_text.specs.declared.limits.TheConstants.Limits.{GRAPH}
use Rattle.kc_text.proofs.Fed.{meaning-is}
use Rattle.kc_tally.specs.Lists.{ListsEachOnce}
use Rattle.kc_tally.proofs.Faults.{once-from_none}
use Rattle.kc_claims.specs.Certificates.{AreCertificate, IsBetween, IsFirstFault, IsUnknown, TellCoreNumbers, TellEach, claim_at, later_neighbours}
use Rattle.kc_claims.specs.Certificates.{supporters}
use Rattle.kc_claims.specs.Checking.{IsMiscountAt}
use Rattle.kc_claims.specs.Feeding.{IsFedWith}
use Rattle.kc_claims.specs.Insisting.{HasCount, IsFirstUncounted}
use Rattle.kc_claims.specs.Streams.{HoldsOfIds, HoldsOfNames, HoldsOfStream}
use Rattle.kc_claims.specs.Sweeping.{Agrees, HasBegunFor, HasCounted, HasSwept, IsFirstMiscount, IsMiscountOf, named}
use Rattle.kc_claims.specs.declared.claim.Claim.{Claim}
use Rattle.kc_claims.specs.declared.fault.ClaimFault.{ClaimFault}
use Rattle.kc_claims.specs.declared.fault.ClaimFault.TheVariants.{Unknown, Repeated, Missing, ManyLater, FewSupporters}
use Rattle.kc_claims.specs.declared.sweep.Sweep.{Sweep}
use Rattle.kc_claims.proofs.Certified.{AreCertificate-between, IsFirstFault-miscount}
use Rattle.kc_claims.proofs.Rising.{ids-apart}
use Rattle.kc_claims.proofs.Seidman.{TellCoreNumbers-certificate}
use Rattle.kc_claims.proofs.StreamLines.{edges_told, reading-told}
use Rattle.kc_claims.proofs.Swept.{counted-names, ids-named, later-counted, pairs-among, said-same, size-streamed, streamed, supporters-counted}
use Rattle.kc_claims.proofs.Swept.{uncounted-unnamed, within}

-- what is wrong with a claim by these counts is so where they are the counts of its vertex
miscount-at : (g : SimpleGraph) (core rank : List ℕ) (v : ℕ) (claim : Claim) (later supporting : ℕ) (fault : ClaimFault)
    → later ≡ later_neighbours g core rank v → supporting ≡ supporters g core v → IsMiscountOf claim later supporting fault
    → IsMiscountAt g core rank v claim fault
miscount-at g core rank v claim later supporting (ManyLater told count) l s (same, is, more) = (same, is ∙ l, more)
miscount-at g core rank v claim later supporting (FewSupporters told count) l s (same, is, few, less) = (same, is ∙ s, omega (arith, l, few), less)
miscount-at g core rank v claim later supporting (Unknown told) l s h = absurd h
miscount-at g core rank v claim later supporting (Repeated told) l s h = absurd h
miscount-at g core rank v claim later supporting (Missing id) l s h = absurd h

-- what holds of a value, if there is one, has what follows of it
pub some-weaker : {A : Type 0} (P Q : A → Type 0) (value : Option A) → ((a : A) → P a → Q a) → IfSome value P → IfSome value Q
some-weaker P Q None weaker h = tt
some-weaker P Q (Some a) weaker h = weaker a h

module _ (claims : List Claim) (order : List ℕ) (start : Sweep) (h : HasBegunFor claims order start) (now : Sweep) (known : Option (List ℕ))
    (fed : IsFedWith HasSwept start now known GRAPH.bytes) where
  -- what was counted
  abbrev c : HasCounted start now fed.took.edges
  c = fed.took.counted

  abbrev ids : List ℕ
  ids = now.ids.items

  abbrev core : List ℕ
  core = now.core.items

  abbrev rank : List ℕ
  rank = now.rank.items

  -- the claims tell the vertices these numbers and ranks
  pub told-counted : TellEach ids claims order core rank
  told-counted =
      subst (λ (v : Vec ℕ Global). TellEach v.items claims order core rank) (sym c.ids)
      (subst (λ (v : Vec ℕ Global). TellEach start.ids.items claims order v.items rank) (sym c.core)
      (subst (λ (v : Vec ℕ Global). TellEach start.ids.items claims order start.core.items v.items) (sym c.rank) h.told))

  few_ids : length ids ≤ GRAPH.ids
  few_ids = omega (arith, h.few, ap (λ (v : Vec ℕ Global). length v.items) c.ids)

  -- each edge has one line
  once : ListsEachOnce (length core) fed.took.edges
  once = once-from_none (length core) None fed.took.edges c.faultless

  size : length core ≡ length ids
  size = c.one_number

  -- the graph of the stream
  abbrev g : SimpleGraph
  g = streamed ids core rank fed.took.edges c.ascending size (omega (arith, c.few, size)) once

  g-size : g.size ≡ length ids
  g-size = size-streamed ids core rank fed.took.edges c.ascending size (omega (arith, c.few, size)) once

  later-is : (v : ℕ) → v < length core → at now.later.items v ≡ later_neighbours g core rank v
  later-is = later-counted ids core rank fed.took.edges c.ascending size (omega (arith, c.few, size)) once now.later.items now.supporters.items c.tally

  supporters-are : (v : ℕ) → v < length core → at now.supporters.items v ≡ supporters g core v
  supporters-are = supporters-counted ids core rank fed.took.edges c.ascending size (omega (arith, c.few, size)) once
      now.later.items now.supporters.items c.tally

  -- the bytes mean the edges of the lines
  means : meaning GRAPH fed.text ≡ Means (edges_told (map (named ids) fed.took.edges))
  means =
      meaning-is GRAPH fed.text fed.few
      ∙ reading-told GRAPH ids c.ascending few_ids (all_said fed.text) (map (named ids) fed.took.edges)
      (fed.took.told ∙ said-same ids fed.took.edges)
      (pairs-among ids fed.took.edges once.lesser_first
      (within ids core rank fed.took.edges c.ascending size (omega (arith, c.few, size)) once))
      (omega (arith, length-map fed.took.edges (named ids), c.counted, c.within))

  -- what agrees with the counts is between
  between : (i : ℕ) → i < length claims → Agrees claims order now.later.items now.supporters.items i
      → IsBetween g core rank (at order i)
  between i l (few, enough) =
      let v : ℕ = at order i in
      let k : v < length core = omega (arith, told-counted.all.vertices i l, size) in
      record {
        few_later = omega (arith, few, told-counted.all.numbers i l, later-is v k);
        supported = omega (arith, enough, told-counted.all.numbers i l, supporters-are v k);
      }

  -- the first claim that does not agree is the first fault in the graph with a vertex for each claimed id
  first-fault : (fault : ClaimFault) → IsFirstMiscount claims order now.later.items now.supporters.items fault → IsFirstFault ids g claims fault
  first-fault fault first =
      let v : ℕ = at order first.place in
      let k : v < length core = omega (arith, told-counted.all.vertices first.place first.within, size) in
      IsFirstFault-miscount ids g claims order core rank told-counted (claim_at claims first.place) first.place fault first.within refl
      (λ i l. between i (omega (arith, l, first.within)) (first.before i l))
      (miscount-at g core rank v (claim_at claims first.place) (at now.later.items v) (at now.supporters.items v) fault (later-is v k) (supporters-are v k)
      first.here)

  -- so it is told
  pub faulty-ids : (fault : ClaimFault) → IsFirstMiscount claims order now.later.items now.supporters.items fault
      → HoldsOfIds (λ ids g. IsFirstFault ids g claims fault) known
  faulty-ids fault first = record {
    text = fed.text;
    read = fed.read;
    told = edges_told (map (named ids) fed.took.edges);
    means = means;
    ids = ids;
    ascending = c.ascending;
    among = pairs-among ids fed.took.edges once.lesser_first
        (within ids core rank fed.took.edges c.ascending size (omega (arith, c.few, size)) once);
    found = first-fault fault first;
  }

  -- where all claims agree, the first one of whose vertex nothing is counted is of an id that no line names
  pub unknown-stream : (claim : Claim) → ((i : ℕ) → i < length claims → Agrees claims order now.later.items now.supporters.items i)
      → IsFirstUncounted claims order now.later.items now.supporters.items claim → HoldsOfNames (λ ids. IsUnknown ids claims claim) known
  unknown-stream claim all first =
      let v : ℕ = at order first.place in
      let k : v < length core = omega (arith, told-counted.all.vertices first.place first.within, size) in
      let zero : at core v ≡ 0 = omega (arith, (all first.place first.within).1, told-counted.all.numbers first.place first.within, first.no_supporter) in
      record {
        text = fed.text;
        read = fed.read;
        told = edges_told (map (named ids) fed.took.edges);
        means = means;
        found = record {
          place = first.place;
          within = first.within;
          is = first.is;
          unknown =
              ap (λ id. member id (names (edges_told (map (named ids) fed.took.edges))))
              (ap (λ (x : Claim). x.id) first.is ∙ sym (told-counted.all.named first.place first.within))
              ∙ uncounted-unnamed ids core rank fed.took.edges c.ascending size (omega (arith, c.few, size)) once now.later.items now.supporters.items
              c.tally v k zero first.no_supporter;
          before = record {
            known = λ i l.
                let here : at order i < length core =
                omega (arith, told-counted.all.vertices i (omega (arith, l, first.within)), size) in
                ap (λ id. member id (names (edges_told (map (named ids) fed.took.edges)))) (sym (told-counted.all.named i (omega (arith, l, first.within))))
                ∙ counted-names ids core rank fed.took.edges c.ascending size (omega (arith, c.few, size)) once now.later.items now.supporters.items
                c.tally (at order i) here (first.before i l);
            once = λ i j l m same.
                let k : j < length claims = omega (arith, m, first.within) in
                let h : i < length claims = omega (arith, l, k) in
                told-counted.enumerates.distinct i j 0 l (omega (arith, told-counted.all.one_each, k))
                (ids-apart ids c.ascending (at order i) (at order j) (told-counted.all.vertices i h) (told-counted.all.vertices j k)
                (told-counted.all.named i h ∙ same ∙ sym (told-counted.all.named j k)));
          };
        };
      }

  -- each vertex has a claim, so where something is counted of the vertices of all claims, something is counted of each
  pub met-claims : ((i : ℕ) → i < length claims → HasCount now.later.items now.supporters.items (at order i))
      → (v : ℕ) → v < length now.later.items → HasCount now.later.items now.supporters.items v
  met-claims each v l =
      let (i, k, is) = told-counted.enumerates.complete v (omega (arith, l, c.tally.later_each, size)) in
      subst (HasCount now.later.items now.supporters.items) (get_or_default order i 0 v k ∙ is)
      (each i (omega (arith, k, told-counted.all.one_each)))

  module _ (met : (v : ℕ) → v < length now.later.items → (0 < at now.later.items v) ⊎ (0 < at now.supporters.items v)) where
    -- what holds of the ids and the graph of the stream
    holds : (P : List ℕ → SimpleGraph → Type 0) → P ids g → HoldsOfStream P known
    holds P p = record {
      text = fed.text;
      read = fed.read;
      told = edges_told (map (named ids) fed.took.edges);
      means = means;
      ids = ids;
      named = ids-named ids core rank fed.took.edges c.ascending size (omega (arith, c.few, size)) once now.later.items now.supporters.items c.tally
          (λ v l. met v (omega (arith, l, c.tally.later_each)));
      found = p;
    }

    -- where all claims agree, they are a certificate
    pub certified-stream : ((i : ℕ) → i < length claims → Agrees claims order now.later.items now.supporters.items i)
        → HoldsOfStream (λ ids g. AreCertificate ids g claims × TellCoreNumbers ids g claims) known
    certified-stream all =
        let certificate : AreCertificate ids g claims = AreCertificate-between ids g claims order core rank told-counted (sym g-size)
        (λ i l. between i l (all i l)) in
        holds (λ ids g. AreCertificate ids g claims × TellCoreNumbers ids g claims)
        (certificate, TellCoreNumbers-certificate ids g claims (sym g-size) certificate)

    -- the first claim that does not agree is the first fault
    pub faulty-stream : (fault : ClaimFault) → IsFirstMiscount claims order now.later.items now.supporters.items fault
        → HoldsOfStream (λ ids g. IsFirstFault ids g claims fault) known
    faulty-stream fault first = holds (λ ids g. IsFirstFault ids g claims fault) (first-fault fault first)
