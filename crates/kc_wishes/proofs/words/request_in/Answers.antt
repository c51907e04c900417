-- Where no command was met, there is none in what is known of the matches.
use Rattle.std.proofs.Common.{◌≡◌, ◌∙◌, List, Option, Some, None, ap, option_map, refl, subst, sym}
use Rattle.std.specs.Prelude.{Box}
use Rattle.std.specs.Box.{box_value}
use Rattle.std.proofs.lemmas.Result.{IfOk-weaker}
use Rattle.clap.specs.Matches.{found_of}
use Rattle.clap.specs.Simple.{subcommand_rows, subcommand_rows_of}
use Rattle.clap.specs.Walk.{Row, Text, rows_of}
use Rattle.clap.specs.declared.parser.matches.ArgMatches.TheViews.{out-SubCommand}
use Rattle.clap.specs.declared.parser.matches.SubCommand.{SubCommand}
use Rattle.kc_wishes.specs.Requests.{IsRequestFor, RepliesTo}
use Rattle.kc_wishes.specs.Wishes.{Wish, wish_by, wish_in}
use Rattle.kc_wishes.proofs.words.request_in.Goals as goal

-- what has no rows is nothing
nothing : (met : Option (Text × List Row)) → None ≡ option_map (λ (p : Text × List Row). p.1) met → met ≡ None
nothing None e = refl
nothing (Some p) e = absurd (cc)

pub returns-in-None-clause-replies : goal.returns-in-None-clause-replies
returns-in-None-clause-replies c =
    subst (λ (w : Wish). RepliesTo c.no_command.result w) (sym (ap wish_in (nothing (subcommand_rows_of c.args.matches.now) c.in-None.ensures.rows)))
    c.no_command.ensures

-- the name of the command that was met is the first of what is known of it
name-met : {Z : Type 0} (met : Option (Box SubCommand Z))
    → option_map (λ b. (out-SubCommand (box_value b)).name.now) met ≡ option_map (λ (p : Text × List Row). p.0) (subcommand_rows met)
name-met None = refl
name-met (Some b) = refl

-- what a command that was met asks for is what its name and its rows ask for
wish-met : (met : Option (Text × List Row)) (name : Text) (rows : List Row) → Some name ≡ option_map (λ (p : Text × List Row). p.0) met
    → Some rows ≡ option_map (λ (p : Text × List Row). p.1) met → wish_in met ≡ wish_by name rows
wish-met None name rows e h = absurd (cc)
wish-met (Some p) name rows e h =
    let one : p.0 ≡ name = cc in
    let two : p.1 ≡ rows = cc in
    λ i. wish_by (one i) (two i)

pub returns-in-Some-clause-asks : goal.returns-in-Some-clause-asks
returns-in-Some-clause-asks c =
    let met = subcommand_rows_of c.args.matches.now in
    let rows = rows_of (found_of c.in-Some.found.now) in
    let same : wish_in met ≡ wish_by c.in-Some.name.now rows =
    wish-met met c.in-Some.name.now rows (c.in-Some.ensures.name ∙ name-met _) c.in-Some.ensures.rows in
    IfOk-weaker c.wanted_by.result _ _ (λ request h. subst (λ (w : Wish). IsRequestFor request w) (sym same) h) c.wanted_by.ensures.asks
