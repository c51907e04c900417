-- What the bytes were rewritten to was read.
use Rattle.std.proofs.Common.{◌≡◌, ◌∙◌, ◌++◌, List, ℕ, ap, refl, subst}
use Rattle.std.proofs.lemmas.Result.{err_from_is_err_and}
use Rattle.kc_dialect.specs.Rewritten.{HasFirstBad}
use Rattle.kc_dialect.specs.declared.dialect.Dialect.{Dialect}
use Rattle.kc_dialect.proofs.Ends.{written-ends}
use Rattle.kc_names.specs.Reading.{WasFedIds}
use Rattle.kc_dialect_read.proofs.Feeds.{Rewrites-more}
use Rattle.kc_dialect_read.proofs.plain_reader.PlainReader.feed.Goals as goal

pub feed-requires : goal.feed-requires
feed-requires c = let (fed, r) = c.requires in (fed, r.written, r.rewritten)

pub feed-requires-2 : goal.feed-requires-2
feed-requires-2 c =
    let (fed, r) = c.requires in
    (c.args.self.now.dialect.ids, r.written, written-ends c.args.self.now.rewriter fed r.written r.rewritten, r.read)

pub returns-in_err-feed-clause-bad : goal.returns-in_err-feed-clause-bad
returns-in_err-feed-clause-bad c =
    let p = err_from_is_err_and c.from_residual.result c.from_residual.ensures.1 in
    rw (p.1, p.2) (λ bad fed rest e r. subst (λ (d : Dialect). HasFirstBad d ((fed ++ c.args.piece.now) ++ rest) bad) r.dialect
    (c.in_err-feed.ensures.bad bad fed r.written rest (cc) r.rewritten))

pub returns-in_err-feed-clause-too_long : goal.returns-in_err-feed-clause-too_long
returns-in_err-feed-clause-too_long c =
    let p = err_from_is_err_and c.from_residual.result c.from_residual.ensures.1 in
    rw (p.1, p.2) (λ fed e r. c.in_err-feed.ensures.too_long fed r.written (cc) r.rewritten)

pub returns-clause-rewrites : goal.returns-clause-rewrites
returns-clause-rewrites c = λ fed r.
    let (added, is, more) = c.in_ok-feed.ensures.fed in
    let same : c.deref.result.now ≡ added = c.deref.ensures.value ∙ is ∙ ap (λ (t : List ℕ). t ++ added) c.clear.ensures.items in
    Rewrites-more c.args.self.now _ fed c.args.piece.now added more
    (λ f ends h. subst (λ (t : List ℕ). WasFedIds c.args.self.now.dialect.ids c.feed-2.new.self (f ++ t)) same
    (c.in_ok-feed-2.ensures.fed c.args.self.now.dialect.ids f ends h))
    c.in_ok-feed.ensures.dialect c.in_ok-feed-2.ensures.limits refl r
