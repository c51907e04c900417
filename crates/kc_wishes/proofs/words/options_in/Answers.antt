-- The options are read as the definition reads their rows.
use Rattle.std.proofs.Common.{◌≡◌, ◌∙◌, ap, codes}
use Rattle.clap.specs.Matches.{found_of}
use Rattle.clap.specs.Walk.{first_of, rows_of}
use Rattle.clap.proofs.WalkLemmas.{first_value-rows}
use Rattle.kc_wishes.specs.Wishes.{level_in, options_of, reply_format_in, show_in, stream_bad_lines_in, workers_in}
use Rattle.kc_wishes.proofs.words.options_in.Goals as goal

pub returns : goal.returns
returns c =
    let found = found_of c.args.found.now in
    let rows = rows_of found in
    let show : c.show_in-show.result ≡ show_in (first_of (codes "show") rows) =
    c.show_in-show.ensures ∙ ap show_in (c.get_str.ensures ∙ first_value-rows found (codes "show")) in
    let enter : c.level_in-enter.result ≡ level_in (first_of (codes "enter") rows) =
    c.level_in-enter.ensures ∙ ap level_in (c.get_str-2.ensures ∙ first_value-rows found (codes "enter")) in
    let bad : c.stream_bad_lines_in-bad_lines.result ≡ stream_bad_lines_in (first_of (codes "bad-lines") rows) =
    c.stream_bad_lines_in-bad_lines.ensures ∙ ap stream_bad_lines_in (c.get_str-3.ensures ∙ first_value-rows found (codes "bad-lines")) in
    let format : c.reply_format_in-format.result ≡ reply_format_in (first_of (codes "format") rows) =
    c.reply_format_in-format.ensures ∙ ap reply_format_in (c.get_str-4.ensures ∙ first_value-rows found (codes "format")) in
    let workers : c.workers_in-workers.result ≡ workers_in (first_of (codes "workers") rows) =
    c.workers_in-workers.ensures ∙ ap workers_in (c.get_str-5.ensures ∙ first_value-rows found (codes "workers")) in
    c.options_of.ensures ∙ (λ i. options_of (show i) (enter i) (bad i) (format i) (workers i))
