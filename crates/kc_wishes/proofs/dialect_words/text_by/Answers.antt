-- The values of the options are those of their rows.
use Rattle.std.proofs.Common.{◌≡◌, ◌∙◌, Option, ap, ap₂, codes, option_map}
use Rattle.clap.specs.Matches.{found_of}
use Rattle.clap.specs.Walk.{Text}
use Rattle.clap.proofs.WalkLemmas.{first_value-rows}
use Rattle.kc_wishes.specs.Wishes.{dialect_by, text_with, threads_in}
use Rattle.kc_wishes.proofs.dialect_words.text_by.Goals as goal

-- the dialect of values that are the same
dialect-same : {columns columns' separator separator' skip skip' bad bad' kind kind' : Option Text} (file : Option Text) → columns ≡ columns'
    → separator ≡ separator' → skip ≡ skip' → bad ≡ bad' → kind ≡ kind'
    → dialect_by columns separator skip bad kind file ≡ dialect_by columns' separator' skip' bad' kind' file
dialect-same file one two three four five = λ i. dialect_by (one i) (two i) (three i) (four i) (five i) file

pub returns : goal.returns
returns c =
    let found = found_of c.args.found.now in
    let file = option_map (λ t. t.now) c.args.file in
    c.text_with.ensures ∙ ap₂ (text_with file) (c.dialect_by.ensures
    ∙ dialect-same file (c.get_str-columns.ensures ∙ first_value-rows found (codes "columns"))
    (c.get_str-separator.ensures ∙ first_value-rows found (codes "separator")) (c.get_str-skip.ensures ∙ first_value-rows found (codes "skip"))
    (c.get_str-bad_lines.ensures ∙ first_value-rows found (codes "bad-lines")) (c.get_str-ids.ensures ∙ first_value-rows found (codes "ids")))
    (c.threads_in.ensures ∙ ap threads_in (c.get_str-threads.ensures ∙ first_value-rows found (codes "threads")))
