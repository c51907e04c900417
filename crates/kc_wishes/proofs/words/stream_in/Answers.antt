-- The parts are read as the definition reads their rows.
use Rattle.std.proofs.Common.{◌≡◌, ◌∙◌, codes, option_map}
use Rattle.clap.specs.Matches.{found_of}
use Rattle.clap.specs.Walk.{first_of, rows_of}
use Rattle.clap.proofs.WalkLemmas.{first_value-rows}
use Rattle.kc_wishes.specs.Requests.{plan_of, start_of}
use Rattle.kc_wishes.specs.Wishes.{save_in, start_in, stream_of}
use Rattle.kc_wishes.proofs.words.stream_in.Goals as goal

pub returns : goal.returns
returns c =
    let found = found_of c.args.found.now in
    let rows = rows_of found in
    let start : option_map start_of c.start_in-start.result ≡ start_in (first_of (codes "from") rows) (first_of (codes "load") rows) =
    c.start_in-start.ensures
    ∙ (λ i. start_in ((c.get_str.ensures ∙ first_value-rows found (codes "from")) i) ((c.get_str-2.ensures ∙ first_value-rows found (codes "load")) i)) in
    let save : option_map (option_map plan_of) c.save_in-save.result ≡ save_in (first_of (codes "save") rows) (first_of (codes "every") rows) =
    c.save_in-save.ensures
    ∙ (λ i. save_in ((c.get_str-3.ensures ∙ first_value-rows found (codes "save")) i) ((c.get_str-4.ensures ∙ first_value-rows found (codes "every")) i)) in
    c.stream_of.ensures ∙ (λ i. stream_of (c.options_in.ensures i) (start i) (save i))
