-- The text is that of the input that was read, and what is left is what the run of this input leaves.
use Rattle.std.proofs.Common.{refl}
use Rattle.kc_top.specs.Inputs.{IsReadFrom}
use Rattle.kc_top.specs.Given.{generated_or}
use Rattle.kc_top.proofs.run.text_for.Goals as goal

pub returns-clause-text : goal.returns-clause-text
returns-clause-text g c =
    let r : IsReadFrom (generated_or c.args.setting.generator (g.S.Source.left c.args.source.now)) c.in_ok-input.input = c.in_ok-input.ensures.input in
    record {
      setting = c.args.setting;
      asks = refl;
      bytes = r.bytes;
      read = r.read;
      told = r.told;
      means = r.means;
      written = c.in_ok-text_of.ensures.text r.told r.is;
      left = c.in_ok-text_of.ensures.ran r.told r.is;
    }
