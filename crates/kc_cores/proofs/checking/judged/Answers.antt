-- The claims are judged beside the graph that was read.
use Rattle.std.proofs.Common.{◌∙◌, ℕ, List, ap, length, refl, subst, sym}
use Rattle.kc_claims.specs.Certificates.{AreCertificate, IsFirstFault, TellCoreNumbers}
use Rattle.kc_cores.proofs.Graphs.{size-graph_of}
use Rattle.kc_cores.proofs.checking.judged.Goals as goal

pub check_claims-requires-clause-named : goal.check_claims-requires-clause-named
check_claims-requires-clause-named g c =
    ap length c.deref.ensures.value ∙ sym (size-graph_of _ _ c.in_ok-named.named.ids.items c.in_ok-named.named.graph c.in_ok-named.named.skipped
    c.in_ok-named.ensures.graph.graph)

pub returns-in-Ok-clause-right : goal.returns-in-Ok-clause-right
returns-in-Ok-clause-right g c = λ certificate claimed _. record {
  ids = c.in_ok-named.named.ids.items;
  g = c.in_ok-named.named.graph;
  claims = c.args.claims.now;
  skipped = c.in_ok-named.named.skipped;
  graph = c.in_ok-named.ensures.graph.graph;
  claimed = claimed;
  found = (
    subst (λ (xs : List ℕ). AreCertificate xs c.in_ok-named.named.graph c.args.claims.now) c.deref.ensures.value c.in-Ok.ensures.certified,
    subst (λ (xs : List ℕ). TellCoreNumbers xs c.in_ok-named.named.graph c.args.claims.now) c.deref.ensures.value c.in-Ok.ensures.seidman,
  );
}

pub returns-in-Err-Faulty-clause-wrong : goal.returns-in-Err-Faulty-clause-wrong
returns-in-Err-Faulty-clause-wrong g c = λ certificate claimed.
    let faulty = rw c.in-Err-Faulty.field-0-is at c.in-Err-Faulty.ensures.faulty in
    record {
      ids = c.in_ok-named.named.ids.items;
      g = c.in_ok-named.named.graph;
      claims = c.args.claims.now;
      skipped = c.in_ok-named.named.skipped;
      graph = c.in_ok-named.ensures.graph.graph;
      claimed = claimed;
      found = subst (λ (xs : List ℕ). IsFirstFault xs c.in_ok-named.named.graph c.args.claims.now c.in-Err-Faulty.fault) c.deref.ensures.value
          (faulty c.in-Err-Faulty.fault refl);
    }
