-- The graph of what was read is the graph that the bytes mean.
use Rattle.std.proofs.Common.{◌≡◌, ◌∙◌, Global, ℕ, IfSome, List, [], Option, None, Some, Vec, false, is_some, length, lit<, lit≤, refl, sym, ap}
use Rattle.std.proofs.Common.{subst, true≢false}
use Rattle.std.specs.FinSet as set
use Rattle.kc_graph.specs.SimpleGraph.{SimpleGraph}
use Rattle.kc_text.specs.Inputs.{AreIds, IsNamedEdges, start_graph}
use Rattle.kc_text.specs.Meaning.{Meaning, Told, meaning, names}
use Rattle.kc_text.specs.declared.limits.TheConstants.Limits.{GRAPH}
use Rattle.kc_text.specs.declared.named_edges.NamedEdges.{NamedEdges}
use Rattle.kc_dialect.specs.Dialects.{without_mark}
use Rattle.kc_dialect.specs.Skipped.{AreSkipped}
use Rattle.kc_dialect.specs.declared.dialect.Dialect.{Dialect}
use Rattle.kc_dialect.specs.declared.skipped.SkippedLines.{SkippedLines}
use Rattle.kc_dialect_read.specs.Meanings.{dialect_meaning}
use Rattle.kc_dialect_read.specs.declared.plain_reader.DialectEdges.{DialectEdges}
use Rattle.kc_head.specs.declared.foreign.Foreign.{Foreign}
use Rattle.kc_read.proofs.StartGraphs.{size-start_graph}
use Rattle.kc_claims.specs.Certificates.{AreCertificate, IsFirstFault, TellCoreNumbers}
use Rattle.kc_claims.specs.Streams.{HoldsOfStream, IsSwept}
use Rattle.kc_claims.specs.declared.claim.Claim.{Claim}
use Rattle.kc_claims.specs.declared.stream.SweptClaims.{SweptClaims}
use Rattle.kc_claims.specs.declared.stream.SweptClaims.TheVariants as variants
use Rattle.kc_cores.specs.Answers.{IsForeignBy, graph_meaning, passed_over}
use Rattle.kc_cores.specs.CheckEnded.{AreClaimsOf, HoldsOfBoth}
use Rattle.kc_cores.specs.Inputs.{AreReadFrom, IsGraphOf, IsNamedGraphOf, known_bytes}
use Rattle.kc_cores.proofs.Unmarked.{unmarked}

-- what the bytes mean within the limits of a graph, behind a mark, is what the text of a graph means
pub graph_meaning-is : (bytes : List ℕ) (m : Meaning) → meaning GRAPH (without_mark bytes) ≡ m → graph_meaning None bytes ≡ m
unfolding graph_meaning
graph_meaning-is bytes m is = is

-- what the bytes mean in a dialect is what the text of a graph in it means
pub graph_meaning-in : (dialect : Dialect) (bytes : List ℕ) (m : Meaning) → dialect_meaning dialect bytes ≡ m → graph_meaning (Some dialect) bytes ≡ m
unfolding graph_meaning
graph_meaning-in dialect bytes m is = is

-- the graph of the pairs that were told is the graph of their ids and edges
graph-of_pairs : (told : Told) (listed : NamedEdges) (g : SimpleGraph) → IsNamedEdges told listed
    → g ≡ record { size = length listed.ids.items; edges = set.from_list listed.edges.items } → g ≡ start_graph listed.ids.items told.edges
unfolding start_graph
graph-of_pairs told listed g are same =
    same ∙ ap (λ (es : List (ℕ × ℕ)). record { size = length listed.ids.items; edges = set.from_list es }) are.edges

-- the graph of the pairs that were read is the graph that the bytes mean
pub IsGraphOf-read : (dialect : Option Dialect) (known : Option (List ℕ)) (ids : List ℕ) (found : DialectEdges) (g : SimpleGraph) (skipped : SkippedLines)
    → AreReadFrom dialect known found → ids ≡ found.named.ids.items
    → g ≡ record { size = length found.named.ids.items; edges = set.from_list found.named.edges.items } → skipped ≡ found.skipped
    → IsGraphOf dialect known ids g skipped
IsGraphOf-read dialect known ids found g skipped r same is passed = record {
  bytes = r.bytes;
  read = r.read;
  told = r.told;
  means = r.means;
  passed = subst (λ (s : SkippedLines). AreSkipped s (passed_over dialect r.bytes)) (sym passed) r.skipped;
  named = subst (λ (xs : List ℕ). AreIds (names r.told) xs) (sym same) r.are.named;
  is = graph-of_pairs r.told found.named g r.are is ∙ sym (ap (λ (xs : List ℕ). start_graph xs r.told.edges) same);
}

-- its names are those of the bytes, and their head tells what they may be
pub IsNamedGraphOf-read : (dialect : Option Dialect) (known : Option (List ℕ)) (ids : List ℕ) (called : Option (List (List ℕ))) (found : DialectEdges)
    (g : SimpleGraph) (skipped : SkippedLines) (what : Option Foreign) → AreReadFrom dialect known found → ids ≡ found.named.ids.items
    → called ≡ found.names → g ≡ record { size = length found.named.ids.items; edges = set.from_list found.named.edges.items }
    → skipped ≡ found.skipped → IsForeignBy dialect known what → IsNamedGraphOf dialect known ids called g skipped what
unfolding IsGraphOf-read
IsNamedGraphOf-read dialect known ids called found g skipped what r same kept is passed begins = record {
  graph = IsGraphOf-read dialect known ids found g skipped r same is passed;
  names = kept ∙ r.called;
  begins = begins;
}

-- the graph of what was read has a vertex for each id
pub size-graph_of : (dialect : Option Dialect) (known : Option (List ℕ)) (ids : List ℕ) (g : SimpleGraph) (skipped : SkippedLines)
    → IsGraphOf dialect known ids g skipped → g.size ≡ length ids
size-graph_of dialect known ids g skipped graph = ap (λ (h : SimpleGraph). h.size) graph.is ∙ size-start_graph ids graph.told.edges

-- all that is known of an input is what is known of a file, where this tells as much
known-beside : (known file : Option (List ℕ)) (bytes : List ℕ) → IfSome known (λ all. file ≡ Some all) → IfSome file (λ all. bytes ≡ all)
    → IfSome known (λ all. bytes ≡ all)
known-beside None file bytes same read = tt
known-beside (Some all) file bytes same read = subst (λ (f : Option (List ℕ)). IfSome f (λ all. bytes ≡ all)) same read

-- what holds of the graph of a file that is read beside the input holds of that of the bytes of this name
pub HoldsOfStream-beside : {I : Type 0} (left : I → Option (List ℕ)) (behind : I → List ℕ → Option (List ℕ)) (i : I) (file : Option (List ℕ))
    (name : List ℕ) (beside : Option (List ℕ)) (P : List ℕ → SimpleGraph → Type 0) → file ≡ Some name
    → IfSome (behind i name) (λ all. beside ≡ Some all) → HoldsOfStream P beside → HoldsOfStream P (known_bytes left behind file i)
HoldsOfStream-beside left behind i file name beside P named same h =
    subst (λ (f : Option (List ℕ)). HoldsOfStream P (known_bytes left behind f i)) (sym named) (record {
      text = h.text;
      read = known-beside (behind i name) beside h.text same h.read;
      told = h.told;
      means = h.means;
      ids = h.ids;
      named = h.named;
      found = h.found;
    })

-- what a sweep over a file tells, it tells of the bytes of its name
pub IsSwept-beside : {I : Type 0} (left : I → Option (List ℕ)) (behind : I → List ℕ → Option (List ℕ)) (i : I) (file : Option (List ℕ))
    (name : List ℕ) (beside : Option (List ℕ)) (claims : List Claim) (swept : SweptClaims) → file ≡ Some name
    → IfSome (behind i name) (λ all. beside ≡ Some all) → IsSwept claims beside swept → IsSwept claims (known_bytes left behind file i) swept
IsSwept-beside left behind i file name beside claims (variants.Told None) named same h =
    HoldsOfStream-beside left behind i file name beside (λ ids g. AreCertificate ids g claims × TellCoreNumbers ids g claims) named same h
IsSwept-beside left behind i file name beside claims (variants.Told (Some fault)) named same h =
    HoldsOfStream-beside left behind i file name beside (λ ids g. IsFirstFault ids g claims fault) named same h
IsSwept-beside left behind i file name beside claims (variants.Untold again) named same h = h

-- a dialect that there is not is none
pub no_dialect : (dialect : Option Dialect) → is_some dialect ≡ false → dialect ≡ None
no_dialect None h = refl
no_dialect (Some d) h = absurd (true≢false h)

-- what holds of the graph of a stream and of the claims, as they are lent, holds of both: no line of it is passed over
pub HoldsOfBoth-streamed : (P : List ℕ → SimpleGraph → List Claim → Type 0) (dialect : Option Dialect) (known certificate : Option (List ℕ))
    (claims lent : List Claim) (skipped : SkippedLines) → AreSkipped skipped [] → dialect ≡ None → AreClaimsOf certificate claims → lent ≡ claims
    → HoldsOfStream (λ ids g. P ids g lent) known → HoldsOfBoth P dialect known certificate
HoldsOfBoth-streamed P dialect known certificate claims lent skipped none plain claimed same h =
    subst (λ (d : Option Dialect). HoldsOfBoth P d known certificate) (sym plain) (record {
      ids = h.ids;
      g = start_graph h.ids h.told.edges;
      claims = claims;
      skipped = skipped;
      graph = record {
        bytes = h.text;
        read = h.read;
        told = h.told;
        means = graph_meaning-is h.text _ (ap (meaning GRAPH) (unmarked h.text h.told h.means) ∙ h.means);
        passed = none;
        named = h.named;
        is = refl;
      };
      claimed = claimed;
      found = subst (λ (cs : List Claim). P h.ids (start_graph h.ids h.told.edges) cs) same h.found;
    })

-- there are bad lines that are none: a list of them is made where another one is
pub none_skipped : {A : Type 0} (v : Vec A Global) → (skipped : SkippedLines) × AreSkipped skipped []
none_skipped v = (
  record {
    count = 0;
    first = record { ptr = v.ptr; len = 0; cap = 0; alloc = v.alloc; items = []; ok = (refl, lit≤ tt); small = lit< tt };
  },
  record { count = refl; first = refl },
)
