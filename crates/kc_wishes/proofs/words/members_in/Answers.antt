-- The option and the flag are read as the definition reads their rows.
use Rattle.std.proofs.Common.{◌≡◌, ◌∙◌, ap, sym, Bool, Some, None, codes, option_map}
use Rattle.clap.specs.Matches.{found_of}
use Rattle.clap.specs.Walk.{first_of, rows_of}
use Rattle.clap.proofs.WalkLemmas.{first_value-rows}
use Rattle.kc_wishes.specs.Wishes.{is_set, level_in, members_task}
use Rattle.kc_wishes.specs.declared.request.Task.{Task}
use Rattle.kc_wishes.proofs.words.members_in.Goals as goal

pub returns-in_err-level : goal.returns-in_err-level
returns-in_err-level c =
    let found = found_of c.args.found.now in
    let rows = rows_of found in
    let none : None ≡ level_in (first_of (codes "core") rows) =
    c.in_err-level.ensures ∙ ap level_in (c.get_str.ensures ∙ first_value-rows found (codes "core")) in
    c.from_residual.ensures ∙ ap (option_map (members_task (is_set (first_of (codes "edges") rows)))) none

pub returns : goal.returns
returns c =
    let found = found_of c.args.found.now in
    let rows = rows_of found in
    let level : level_in (first_of (codes "core") rows) ≡ Some c.in_ok-level.level =
    sym (c.in_ok-level.ensures ∙ ap level_in (c.get_str.ensures ∙ first_value-rows found (codes "core"))) in
    let set : c.is_set.result ≡ is_set (first_of (codes "edges") rows) =
    c.is_set.ensures ∙ ap is_set (c.get_str-2.ensures ∙ first_value-rows found (codes "edges")) in
    ap (λ (t : Task). Some t) c.members_task.ensures ∙ ap (λ (b : Bool). Some (members_task b c.in_ok-level.level)) set
    ∙ sym (ap (option_map (members_task (is_set (first_of (codes "edges") rows)))) level)
