-- Each option is read as the definition reads its row.
use Rattle.std.proofs.Common.{◌≡◌, ◌∙◌, ℕ, List, Option, Bor, ap, codes, option_map}
use Rattle.clap.specs.Matches.{first_value, found_of}
use Rattle.clap.specs.Walk.{first_of, rows_of}
use Rattle.clap.specs.declared.parser.matches.Found.{Found}
use Rattle.clap.proofs.WalkLemmas.{first_value-rows}
use Rattle.kc_top.specs.Settings.{number, read, show, start, together, workers}
use Rattle.kc_output.specs.declared.show.Show.{Show}
use Rattle.kc_output.specs.declared.start.Start.{Start}
use Rattle.kc_top.proofs.words.setting_in.Goals as goal

-- what is read of the matches is read of their rows
from_row : {X : Type 0} → (says : List ℕ → Option X) (found : Found) (id : List ℕ) (given : Option (Bor (List ℕ))) (r : Option (Option X))
    → r ≡ read says (option_map (λ t. t.now) given) → option_map (λ t. t.now) given ≡ first_value found id → r ≡ read says (first_of id (rows_of found))
from_row says found id given r e g = e ∙ ap (read says) (g ∙ first_value-rows found id)

-- the same five give the same setting
same_setting : (w w' l l' g g' : Option (Option ℕ)) (s s' : Option (Option Show)) (t t' : Option (Option Start))
    → w ≡ w' → s ≡ s' → l ≡ l' → g ≡ g' → t ≡ t' → together w s l g t ≡ together w' s' l' g' t'
same_setting w w' l l' g g' s s' t t' a b d e f = cc

pub returns : goal.returns
returns c =
    let found : Found = found_of c.args.matches.now in
    c.together.ensures ∙ same_setting _ _ _ _ _ _ _ _ _ _
    (from_row workers found (codes "workers") c.get_str.result c.read_workers-workers.result c.read_workers-workers.ensures c.get_str.ensures)
    (from_row show found (codes "show") c.get_str-2.result c.read_show-show.result c.read_show-show.ensures c.get_str-2.ensures)
    (from_row number found (codes "level") c.get_str-3.result c.read_number-level.result c.read_number-level.ensures c.get_str-3.ensures)
    (from_row number found (codes "gen") c.get_str-4.result c.read_number-generator.result c.read_number-generator.ensures c.get_str-4.ensures)
    (from_row start found (codes "start") c.get_str-5.result c.read_start-start.result c.read_start-start.ensures c.get_str-5.ensures)
