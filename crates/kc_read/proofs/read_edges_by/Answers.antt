-- What the reader was fed tells what all bytes of the source tell.
use Rattle.std.proofs.Common.{◌≡◌, ◌≤◌, length, subst}
use Rattle.std.proofs.lemmas.Result.{err_from_is_err_and}
use Rattle.kc_text.specs.Meaning.{Means, Refuses, meaning}
use Rattle.kc_text.specs.declared.limits.Limits.{Limits}
use Rattle.kc_read.proofs.Whole.{AreEdgesWithin-given, fault_of-refused, fault_of-unread, refused-given}
use Rattle.kc_read.proofs.read_edges_by.Goals as goal

pub returns-in_err-reader : goal.returns-in_err-reader
returns-in_err-reader g c =
    let p = err_from_is_err_and c.from_residual.result c.from_residual.ensures.1 in
    let (given, took, few, none) = c.in_err-reader.ensures.given in
    rw (p.1, p.2) (record {
      edges = tt;
      ended = tt;
      few = tt;
      within = tt;
      refused = λ r e. absurd (c.in_err-reader.ensures.unjudged r (cc));
      given = (given, took, few);
      faultless = λ other. c.in_err-reader.ensures.faultless (λ e. other (cc));
      later = c.in_err-reader.ensures.later;
      read_fault = λ e. c.in_err-reader.ensures.read_fault (cc);
    })

pub finish_edges-requires : goal.finish_edges-requires
finish_edges-requires g c = let (given, took, few, (fed, end)) = c.in_ok-reader.ensures.given in (given, fed)

pub returns-in_err-finish_edges : goal.returns-in_err-finish_edges
returns-in_err-finish_edges g c =
    let p = err_from_is_err_and c.from_residual-in_err-finish_edges.result c.from_residual-in_err-finish_edges.ensures.1 in
    let (given, took, few, (fed, end)) = c.in_ok-reader.ensures.given in
    rw (p.1, p.2) (record {
      edges = tt;
      ended = tt;
      few = tt;
      within = tt;
      refused = λ r e.
          let same = fault_of-refused c.in_err-finish_edges.field-0.0 r (cc) in
          refused-given c.args.limits (g.S.Source.left c.args.source.now) (g.S.Source.left c.fed_reader.new.source) given r.line r.kind took end
          (subst (λ (l : Limits). meaning l given ≡ Refuses r.line r.kind) c.in_ok-reader.ensures.limits
          (c.in_err-finish_edges.ensures.refused r given (cc same) fed));
      given = (given, took, few);
      faultless = λ _. c.in_ok-reader.ensures.faultless (λ e. absurd (cc));
      later = c.in_ok-reader.ensures.later;
      read_fault = λ e. absurd (fault_of-unread c.in_err-finish_edges.field-0.0 (cc));
    })

pub returns : goal.returns
returns g c =
    let (given, took, few, (fed, end)) = c.in_ok-reader.ensures.given in
    let (told, means, are) = c.in_ok-finish_edges.ensures.named given fed in
    let within = AreEdgesWithin-given c.args.limits (g.S.Source.left c.args.source.now) (g.S.Source.left c.fed_reader.new.source) given told
    c.in_ok-finish_edges.field-0 took end (subst (λ (l : Limits). meaning l given ≡ Means told) c.in_ok-reader.ensures.limits means) are in
    record {
      edges = within.0;
      ended = within.1;
      few = subst (λ (l : Limits). length c.in_ok-finish_edges.field-0.ids.items ≤ l.ids) c.in_ok-reader.ensures.limits c.in_ok-finish_edges.ensures.few;
      within = c.in_ok-finish_edges.ensures.within;
      refused = λ r e. absurd (cc);
      given = (given, took, few);
      faultless = λ _. c.in_ok-reader.ensures.faultless (λ e. absurd (cc));
      later = c.in_ok-reader.ensures.later;
      read_fault = λ e. absurd (cc);
    }
