-- A new batch is last, and names no more ids.
use Rattle.std.proofs.Common.{◌≡◌, ◌++◌, ap, ap₂, ◌∙◌, refl, map, List, Option, Some, Vec, Global}
use Rattle.std.specs.Option.{option_map, option_to_list}
use Rattle.kc_text.specs.declared.change.ChangeLine.{ChangeLine}
use Rattle.kc_text.specs.declared.line.TextLine.TheVariants as said
use Rattle.kc_text.specs.declared.reader.Reader.{Reader}
use Rattle.kc_text.specs.Meaning.{Told, with_line}
use Rattle.kc_text.specs.Readers.{told_by}
use Rattle.kc_text.proofs.Few.{exact-before, few-batch}
use Rattle.kc_text.proofs.reader.Reader.take_batch.Goals as goal

pub returns-clause-exact : goal.returns-clause-exact
returns-clause-exact c =
    let old : Reader = c.args.self.now in
    let new : Reader = record { edges = old.edges; earlier = c.close.new.earlier; last = c.replace-before.new.self; changes = old.changes; ids = old.ids } in
    let told : told_by new ≡ with_line (told_by old) said.Batch = ap₂ (λ (earlier : List (List ChangeLine)) (last : Option (List ChangeLine)). let t : Told =
    record { edges = old.edges.items; earlier = earlier; last = last } in t)
    (c.in_ok-close.ensures ∙ ap (λ (last : Option (Vec ChangeLine Global)). map (λ batch. batch.items) old.earlier.items ++ option_to_list
    (option_map (λ batch. batch.items) last)) c.replace-before.ensures.value)
    (ap (option_map (λ (batch : Vec ChangeLine Global). batch.items)) c.replace-before.ensures.after
    ∙ ap (λ (batch : List ChangeLine). Some batch) c.new.ensures.items) in
    exact-before c.args.limits.now old new said.Batch told refl (few-batch c.args.limits.now (told_by old))
