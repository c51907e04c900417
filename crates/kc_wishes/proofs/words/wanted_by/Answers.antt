-- The command for a stream is met, or another one.
use Rattle.std.proofs.Common.{◌≡◌, ◌∙◌, Bool, List, Option, ap, codes, cond, false, option_map, subst, sym, true}
use Rattle.std.specs.Str.{bytes_eq}
use Rattle.std.proofs.lemmas.Result.{IfErr-weaker, IfOk-weaker}
use Rattle.clap.specs.Matches.{found_of}
use Rattle.clap.specs.Walk.{Row, Text, rows_of}
use Rattle.kc_wishes.specs.Requests.{IsRequestFor, RepliesTo, stream_of_request}
use Rattle.kc_wishes.specs.Wishes.{StreamQuery, Wish, stream_in, watch_wish, wish_about, wish_by}
use Rattle.kc_wishes.proofs.words.wanted_by.Goals as goal

-- what the command asks for, by whether it is the one for a stream
wish-is : (name : Text) (rows : List Row) (b : Bool) → bytes_eq name (codes "watch") ≡ b
    → wish_by name rows ≡ cond b (watch_wish (stream_in rows)) (wish_about name rows)
wish-is name rows b is = ap (λ (b : Bool). cond b (watch_wish (stream_in rows)) (wish_about name rows)) is

-- what the command for a stream asks for
stream-is : (name : Text) (rows : List Row) (query : Option StreamQuery) → bytes_eq name (codes "watch") ≡ true → query ≡ stream_in rows
    → watch_wish query ≡ wish_by name rows
stream-is name rows query is right = ap watch_wish right ∙ sym (wish-is name rows true is)

pub returns-then-eq-clause-asks : goal.returns-then-eq-clause-asks
returns-then-eq-clause-asks c =
    let stream = stream-is c.args.name.now (rows_of (found_of c.args.found.now)) (option_map stream_of_request c.stream_in.result)
    (sym c.eq.ensures ∙ c.if-eq.true) c.stream_in.ensures in
    IfOk-weaker c.watch_for.result _ _ (λ wanted h. subst (λ (w : Wish). IsRequestFor wanted w) stream h) c.watch_for.ensures.asks

pub returns-then-eq-clause-replies : goal.returns-then-eq-clause-replies
returns-then-eq-clause-replies c =
    let stream = stream-is c.args.name.now (rows_of (found_of c.args.found.now)) (option_map stream_of_request c.stream_in.result)
    (sym c.eq.ensures ∙ c.if-eq.true) c.stream_in.ensures in
    IfErr-weaker c.watch_for.result _ _ (λ r h. subst (λ (w : Wish). RepliesTo r w) stream h) c.watch_for.ensures.replies

pub returns-clause-asks : goal.returns-clause-asks
returns-clause-asks c =
    let other = wish-is c.args.name.now (rows_of (found_of c.args.found.now)) false (sym c.eq.ensures ∙ c.if-eq.false) in
    IfOk-weaker c.wanted_of.result _ _ (λ wanted h. subst (λ (w : Wish). IsRequestFor wanted w) (sym other) h) c.wanted_of.ensures.asks

pub returns-clause-replies : goal.returns-clause-replies
returns-clause-replies c =
    let other = wish-is c.args.name.now (rows_of (found_of c.args.found.now)) false (sym c.eq.ensures ∙ c.if-eq.false) in
    IfErr-weaker c.wanted_of.result _ _ (λ r h. subst (λ (w : Wish). RepliesTo r w) (sym other) h) c.wanted_of.ensures.replies
