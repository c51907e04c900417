-- The bytes are what was parsed.
use Rattle.std.proofs.Common.{refl, sym, ap, ◌∙◌}
use Rattle.kc_text.specs.declared.limits.TheConstants.Limits.{KCORE}
use Rattle.kc_text.specs.Meaning.{meaning}
use Rattle.kc_top.proofs.Sound.{edges_within, few_updates}
use Rattle.kc_top.proofs.Stopping.{IsRefusalOf-refused}
use Rattle.kc_top.proofs.reading.parsed.Goals as goal

pub returns-in-Ok-clause-input : goal.returns-in-Ok-clause-input
returns-in-Ok-clause-input g c =
    let (told, means, is) = c.in-Ok.ensures.input in
    record {
      bytes = c.args.bytes.items;
      read = refl;
      told = told;
      means = ap (meaning KCORE) (sym c.deref.ensures.value) ∙ means;
      is = is;
      sound = record {
        few_ids = c.in-Ok.ensures.few;
        edges = edges_within told c.in-Ok.input is;
        few_batches = c.in-Ok.ensures.few_batches;
        short_batches = c.in-Ok.ensures.short;
        few_updates = few_updates c.args.bytes.items told c.in-Ok.input (ap (meaning KCORE) (sym c.deref.ensures.value) ∙ means) is;
        batches = c.in-Ok.ensures.batches;
      };
    }

pub returns-in-Err-Refused-clause-stopped : goal.returns-in-Err-Refused-clause-stopped
returns-in-Err-Refused-clause-stopped g c =
    let refused = rw c.in-Err-Refused.field-0-is at c.in-Err-Refused.ensures.refused in
    IsRefusalOf-refused c.refused.result c.in-Err-Refused.refusal.line c.in-Err-Refused.refusal.kind c.args.bytes.items c.refused.ensures
    (ap (meaning KCORE) (sym c.deref.ensures.value) ∙ refused c.in-Err-Refused.refusal refl)
