-- The text and the names are those of the rows of the command.
use Rattle.std.proofs.Common.{◌≡◌, ◌∙◌, [], Bool, List, None, Option, Some, ap, codes, cond, false, find, map, option_map, refl, subst, sym, true}
use Rattle.std.specs.Str.{bytes_eq}
use Rattle.std.proofs.lemmas.Result.{IfErr-weaker, IfOk-weaker}
use Rattle.std.specs.Borrow.{Bor}
use Rattle.std.specs.Option.{option_map_or}
use Rattle.clap.specs.Facts.{Entry}
use Rattle.clap.specs.Matches.{found_of, matched_of, raw_values}
use Rattle.clap.specs.Walk.{Row, Text, first_of, row_of, rows_of}
use Rattle.clap.specs.declared.parser.matches.Found.{Found}
use Rattle.clap.specs.declared.parser.matches.MatchedArg.{MatchedArg}
use Rattle.clap.proofs.WalkLemmas.{find_row, first_value-rows}
use Rattle.kc_wishes.specs.Requests.{IsRequestFor, RepliesTo}
use Rattle.kc_lines.specs.declared.format.Format.{Format}
use Rattle.kc_wishes.specs.Wishes.{GraphText, Wish, all_of, check_wish, file_named, format_in, is_set, task_in, text_in, wish_about, wish_for}
use Rattle.kc_wishes.specs.declared.request.Task.{Task}
use Rattle.kc_wishes.proofs.words.wanted_of.Goals as goal

-- all values of an argument, by the rows
all-rows : (f : Found) (id : Text) → option_map_or raw_values (matched_of f id) [] ≡ all_of id (rows_of f)
all-rows f id =
    go (find (λ (e : Entry). bytes_eq e.0.now id) f.entries.items)
    ∙ sym (ap (λ (r : Option Row). option_map_or (λ (r : Row). r.values) r []) (find_row f.entries.items id))
  where
    go : (o : Option Entry) → option_map_or raw_values (option_map (λ e. e.1) o) [] ≡ option_map_or (λ (r : Row). r.values) (option_map row_of o) []
    go None = refl
    go (Some e) = refl

-- the same of what was found
all-values : (found : Option (Bor (List (Bor Text)))) (f : Found) (id : Text)
    → option_map (λ s. map (λ (v : Bor Text). v.now) s.now) found ≡ option_map raw_values (matched_of f id)
    → option_map_or (λ (fs : Bor (List (Bor Text))). map (λ (t : Bor Text). t.now) fs.now) found [] ≡ all_of id (rows_of f)
all-values found f id is =
    left found ∙ ap (λ (o : Option (List Text)). option_map_or (λ (t : List Text). t) o []) is ∙ right (matched_of f id) ∙ all-rows f id
  where
    left : (o : Option (Bor (List (Bor Text)))) → option_map_or (λ (fs : Bor (List (Bor Text))). map (λ (t : Bor Text). t.now) fs.now) o []
        ≡ option_map_or (λ (t : List Text). t) (option_map (λ s. map (λ (v : Bor Text). v.now) s.now) o) []
    left None = refl
    left (Some values) = refl

    right : (o : Option MatchedArg) → option_map_or (λ (t : List Text). t) (option_map raw_values o) [] ≡ option_map_or raw_values o []
    right None = refl
    right (Some a) = refl

-- what a command asks for, by whether it is `check`
wish-by : (name : Text) (rows : List Row) (check : Bool) → bytes_eq name (codes "check") ≡ check
    → wish_about name rows
    ≡ cond check (check_wish (first_of (codes "CERTIFICATE") rows) (text_in rows) (is_set (first_of (codes "stream") rows)) (all_of (codes "pieces") rows))
    (wish_for (task_in name rows) (text_in rows) (format_in (first_of (codes "format") rows)) (file_named (first_of (codes "output") rows))
    (is_set (first_of (codes "quiet") rows)))
wish-by name rows check is =
    ap (λ (b : Bool). cond b (check_wish (first_of (codes "CERTIFICATE") rows) (text_in rows) (is_set (first_of (codes "stream") rows))
    (all_of (codes "pieces") rows))
    (wish_for (task_in name rows) (text_in rows) (format_in (first_of (codes "format") rows)) (file_named (first_of (codes "output") rows))
    (is_set (first_of (codes "quiet") rows)))) is

-- what the command `check` asks for
wish-check : (name : Text) (rows : List Row) → bytes_eq name (codes "check") ≡ true
    → wish_about name rows
    ≡ check_wish (first_of (codes "CERTIFICATE") rows) (text_in rows) (is_set (first_of (codes "stream") rows)) (all_of (codes "pieces") rows)
wish-check name rows is = wish-by name rows true is

-- the same of parts that are the same
check-same : {name name' : Option Text} {graph graph' : Option GraphText} {stream stream' : Bool} {files files' : List Text} → name ≡ name'
    → graph ≡ graph' → stream ≡ stream' → files ≡ files' → check_wish name graph stream files ≡ check_wish name' graph' stream' files'
check-same one two three four = λ i. check_wish (one i) (two i) (three i) (four i)

-- what another command asks for
wish-other : (name : Text) (rows : List Row) → bytes_eq name (codes "check") ≡ false
    → wish_about name rows
    ≡ wish_for (task_in name rows) (text_in rows) (format_in (first_of (codes "format") rows)) (file_named (first_of (codes "output") rows))
    (is_set (first_of (codes "quiet") rows))
wish-other name rows is = wish-by name rows false is

-- the same of parts that are the same
asks-same : {task task' : Option Task} {graph graph' : Option GraphText} {format format' : Option Format} {output output' : Option Text}
    {quiet quiet' : Bool} → task ≡ task' → graph ≡ graph' → format ≡ format' → output ≡ output' → quiet ≡ quiet'
    → wish_for task graph format output quiet ≡ wish_for task' graph' format' output' quiet'
asks-same one two three four five = λ i. wish_for (one i) (two i) (three i) (four i) (five i)

pub returns-then-eq-clause-asks : goal.returns-then-eq-clause-asks
returns-then-eq-clause-asks c =
    let found = found_of c.args.found.now in
    let named = wish-check c.args.name.now (rows_of found) (sym c.eq.ensures ∙ c.if-eq.true) in
    let rows =
    check-same (c.get_str-certificate.ensures ∙ first_value-rows found (codes "CERTIFICATE")) c.text_in-graph.ensures
    (c.is_set-stream.ensures ∙ ap is_set (c.get_str.ensures ∙ first_value-rows found (codes "stream")))
    (all-values c.get_strs.result found (codes "pieces") c.get_strs.ensures) in
    IfOk-weaker c.check_among.result _ _ (λ wanted h. subst (λ (w : Wish). IsRequestFor wanted w) (rows ∙ sym named) h) c.check_among.ensures.asks

pub returns-then-eq-clause-replies : goal.returns-then-eq-clause-replies
returns-then-eq-clause-replies c =
    let found = found_of c.args.found.now in
    let named = wish-check c.args.name.now (rows_of found) (sym c.eq.ensures ∙ c.if-eq.true) in
    let rows =
    check-same (c.get_str-certificate.ensures ∙ first_value-rows found (codes "CERTIFICATE")) c.text_in-graph.ensures
    (c.is_set-stream.ensures ∙ ap is_set (c.get_str.ensures ∙ first_value-rows found (codes "stream")))
    (all-values c.get_strs.result found (codes "pieces") c.get_strs.ensures) in
    IfErr-weaker c.check_among.result _ _ (λ r h. subst (λ (w : Wish). RepliesTo r w) (rows ∙ sym named) h) c.check_among.ensures.replies

pub returns-clause-asks : goal.returns-clause-asks
returns-clause-asks c =
    let found = found_of c.args.found.now in
    let named = wish-other c.args.name.now (rows_of found) (sym c.eq.ensures ∙ c.if-eq.false) in
    let rows =
    asks-same c.task_in-task.ensures c.text_in-graph.ensures
    (c.format_in-format.ensures ∙ ap format_in (c.get_str-3.ensures ∙ first_value-rows found (codes "format")))
    (c.file_named-output.ensures ∙ ap file_named (c.get_str-4.ensures ∙ first_value-rows found (codes "output")))
    (c.is_set-quiet.ensures ∙ ap is_set (c.get_str-2.ensures ∙ first_value-rows found (codes "quiet"))) in
    IfOk-weaker c.request_for.result _ _ (λ wanted h. subst (λ (w : Wish). IsRequestFor wanted w) (rows ∙ sym named) h) c.request_for.ensures.asks

pub returns-clause-replies : goal.returns-clause-replies
returns-clause-replies c =
    let found = found_of c.args.found.now in
    let named = wish-other c.args.name.now (rows_of found) (sym c.eq.ensures ∙ c.if-eq.false) in
    let rows =
    asks-same c.task_in-task.ensures c.text_in-graph.ensures
    (c.format_in-format.ensures ∙ ap format_in (c.get_str-3.ensures ∙ first_value-rows found (codes "format")))
    (c.file_named-output.ensures ∙ ap file_named (c.get_str-4.ensures ∙ first_value-rows found (codes "output")))
    (c.is_set-quiet.ensures ∙ ap is_set (c.get_str-2.ensures ∙ first_value-rows found (codes "quiet"))) in
    IfErr-weaker c.request_for.result _ _ (λ r h. subst (λ (w : Wish). RepliesTo r w) (rows ∙ sym named) h) c.request_for.ensures.replies
