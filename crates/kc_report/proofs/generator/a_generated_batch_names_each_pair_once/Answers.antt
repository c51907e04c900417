-- So it was drawn.
use Rattle.std.specs.Prelude.{◌≤◌, length}
use Rattle.std.proofs.lemmas.List.Elements.{All-weaker}
use Rattle.kc_text.specs.Batches.{NamesOnce}
use Rattle.kc_report.specs.declared.sizes.TheConstants.{TURNS}
use Rattle.kc_report.specs.Generator.{generated_batches}
use Rattle.kc_report.proofs.Drawn.{IsBatch, generated-is}
use Rattle.kc_report.proofs.generator.a_generated_batch_names_each_pair_once.Goals as goal

pub returns : goal.returns
returns c = record {
  edges = λ number. (generated-is number).edge_count;
  batches = λ number. (generated-is number).batch_count;
  turns = λ number. All-weaker IsBatch (λ batch. length batch ≤ TURNS) (λ batch is. is.few) (generated_batches number) (generated-is number).fit;
  once = λ number. All-weaker IsBatch NamesOnce (λ batch is. is.once) (generated_batches number) (generated-is number).fit;
}
