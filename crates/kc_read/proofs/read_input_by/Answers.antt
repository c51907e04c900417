-- What the reader was fed means what all bytes of the source mean.
use Rattle.std.proofs.Common.{◌≡◌, ◌≤◌, length, subst}
use Rattle.std.specs.Prelude.{All}
use Rattle.std.proofs.lemmas.Result.{err_from_is_err_and}
use Rattle.kc_text.specs.Meaning.{Means, Refuses, meaning}
use Rattle.kc_text.specs.declared.limits.Limits.{Limits}
use Rattle.kc_read.proofs.Whole.{IsInputWithin-given, fault_of-refused, fault_of-unread, refused-given}
use Rattle.kc_read.proofs.read_input_by.Goals as goal

pub returns-in_err-reader : goal.returns-in_err-reader
returns-in_err-reader g c =
    let p = err_from_is_err_and c.from_residual.result c.from_residual.ensures.1 in
    let (given, took, few, none) = c.in_err-reader.ensures.given in
    rw (p.1, p.2) (record {
      input = tt;
      ended = tt;
      few = tt;
      few_batches = tt;
      short = tt;
      counts = tt;
      batches = tt;
      refused = λ r e. absurd (c.in_err-reader.ensures.unjudged r (cc));
      given = (given, took, few);
      faultless = λ other. c.in_err-reader.ensures.faultless (λ e. other (cc));
      later = c.in_err-reader.ensures.later;
      read_fault = λ e. c.in_err-reader.ensures.read_fault (cc);
    })

pub finish-requires : goal.finish-requires
finish-requires g c = let (given, took, few, (fed, end)) = c.in_ok-reader.ensures.given in (given, fed)

pub returns-in_err-finish : goal.returns-in_err-finish
returns-in_err-finish g c =
    let p = err_from_is_err_and c.from_residual-in_err-finish.result c.from_residual-in_err-finish.ensures.1 in
    let (given, took, few, (fed, end)) = c.in_ok-reader.ensures.given in
    rw (p.1, p.2) (record {
      input = tt;
      ended = tt;
      few = tt;
      few_batches = tt;
      short = tt;
      counts = tt;
      batches = tt;
      refused = λ r e.
          let same = fault_of-refused c.in_err-finish.field-0.0 r (cc) in
          refused-given c.args.limits (g.S.Source.left c.args.source.now) (g.S.Source.left c.fed_reader.new.source) given r.line r.kind took end
          (subst (λ (l : Limits). meaning l given ≡ Refuses r.line r.kind) c.in_ok-reader.ensures.limits
          (c.in_err-finish.ensures.refused r given (cc same) fed));
      given = (given, took, few);
      faultless = λ _. c.in_ok-reader.ensures.faultless (λ e. absurd (cc));
      later = c.in_ok-reader.ensures.later;
      read_fault = λ e. absurd (fault_of-unread c.in_err-finish.field-0.0 (cc));
    })

pub returns : goal.returns
returns g c =
    let (given, took, few, (fed, end)) = c.in_ok-reader.ensures.given in
    let (told, means, is) = c.in_ok-finish.ensures.input given fed in
    let within = IsInputWithin-given c.args.limits (g.S.Source.left c.args.source.now) (g.S.Source.left c.fed_reader.new.source) given told
    c.in_ok-finish.field-0 took end (subst (λ (l : Limits). meaning l given ≡ Means told) c.in_ok-reader.ensures.limits means) is in
    record {
      input = within.0;
      ended = within.1;
      few = subst (λ (l : Limits). length c.in_ok-finish.field-0.ids.items ≤ l.ids) c.in_ok-reader.ensures.limits c.in_ok-finish.ensures.few;
      few_batches = subst (λ (l : Limits). length c.in_ok-finish.field-0.batches.items ≤ l.batches) c.in_ok-reader.ensures.limits
          c.in_ok-finish.ensures.few_batches;
      short = subst (λ (l : Limits). All (λ batch. length batch.updates.items ≤ l.updates) c.in_ok-finish.field-0.batches.items)
          c.in_ok-reader.ensures.limits c.in_ok-finish.ensures.short;
      counts = subst (λ (l : Limits). All (λ batch. batch.overruled ≤ l.updates) c.in_ok-finish.field-0.batches.items)
          c.in_ok-reader.ensures.limits c.in_ok-finish.ensures.counts;
      batches = c.in_ok-finish.ensures.batches;
      refused = λ r e. absurd (cc);
      given = (given, took, few);
      faultless = λ _. c.in_ok-reader.ensures.faultless (λ e. absurd (cc));
      later = c.in_ok-reader.ensures.later;
      read_fault = λ e. absurd (cc);
    }
