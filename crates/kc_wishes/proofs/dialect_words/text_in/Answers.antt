-- The file is the one that its row names.
use Rattle.std.proofs.Common.{◌∙◌, Option, ap, codes}
use Rattle.clap.specs.Matches.{found_of}
use Rattle.clap.specs.Walk.{Text, rows_of}
use Rattle.clap.proofs.WalkLemmas.{first_value-rows}
use Rattle.kc_wishes.specs.Wishes.{file_named, text_by}
use Rattle.kc_wishes.proofs.dialect_words.text_in.Goals as goal

pub returns : goal.returns
returns c =
    let found = found_of c.args.found.now in
    c.text_by.ensures ∙ ap (λ (f : Option Text). text_by f (rows_of found)) (c.file_named.ensures
    ∙ ap file_named (c.get_str.ensures ∙ first_value-rows found (codes "FILE")))
