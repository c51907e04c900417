-- The next line is read behind the others, and what it is answered is put behind what they are.
use Rattle.std.proofs.Common.{◌≡◌, ◌++◌, ◌∷◌, [], ℕ, List, ap, ap₂, refl, sym, subst, ◌∙◌, append_assoc, append-nil, map}
use Rattle.kc_dialogue.specs.Replies.{IsPrefixOf}
use Rattle.kc_stream.specs.Asking.{stream_line, stream_lines}
use Rattle.kc_stream.specs.Hearing.{hear_all}
use Rattle.kc_stream.specs.declared.stream_line.StreamLine.{StreamLine}
use Rattle.kc_watch.specs.Text.{answers_behind}
use Rattle.kc_watch.specs.Watching.{StandsAt}
use Rattle.kc_watch.proofs.Lines.{answers-more, on-err, read-more, stopped-prefix}
use Rattle.kc_watch.proofs.course.Course.read.Goals as goal

pub loop-line-init : goal.loop-line-init
loop-line-init g c = record { parts = ([], refl, λ heard s. s, ([], sym (append-nil c.args.out.now.items), λ heard s. refl)) }

pub loop-line-preserved : goal.loop-line-preserved
loop-line-preserved g c =
    let (done, is, stands, (put, out, adds)) = c.loop-line.invariant.parts in
    let (more, out', adds') = c.in_ok-take.ensures.put in
    let line : StreamLine = c.read_stream_line.result in
    let said : stream_lines c.loop-line.rest.now ≡ line ∷ stream_lines c.in-Some.more.now =
    ap (map stream_line) c.in-Some.ensures.lines ∙ ap (λ (l : StreamLine). l ∷ stream_lines c.in-Some.more.now) (sym c.read_stream_line.ensures) in
    record {
      parts = (
        done ++ line ∷ [],
        is ∙ (ap (λ (t : List StreamLine). done ++ t) said ∙ sym (append_assoc done (line ∷ []) (stream_lines c.in-Some.more.now))),
        λ heard s.
            subst (StandsAt c.take.new.self) (sym (read-more c.args.options.bad_lines heard done line))
            (c.in_ok-take.ensures.stands (hear_all c.args.options.bad_lines heard done) (stands heard s)),
        (
          put ++ more,
          out' ∙ ap (λ (t : List ℕ). t ++ more) out ∙ append_assoc c.args.out.now.items put more,
          λ heard s.
              ap₂ (λ (x y : List ℕ). x ++ y) (adds heard s) (adds' (hear_all c.args.options.bad_lines heard done) (stands heard s)).0
              ∙ sym (answers-more c.args.options heard done line),
        ),
      );
    }

pub returns-in_err-take-clause-put : goal.returns-in_err-take-clause-put
returns-in_err-take-clause-put g c =
    let (done, is, stands, (put, out, adds)) = c.loop-line.invariant.parts in
    let (more, out', adds') = c.in_err-take.ensures.put in
    let line : StreamLine = c.read_stream_line.result in
    let said : stream_lines c.loop-line.rest.now ≡ line ∷ stream_lines c.in-Some.more.now =
    ap (map stream_line) c.in-Some.ensures.lines ∙ ap (λ (l : StreamLine). l ∷ stream_lines c.in-Some.more.now) (sym c.read_stream_line.ensures) in (
      put ++ more,
      out' ∙ ap (λ (t : List ℕ). t ++ more) out ∙ append_assoc c.args.out.now.items put more,
      λ heard s. on-err c.from_residual.result _ _ c.from_residual.ensures.0
          (subst (λ (t : List StreamLine). IsPrefixOf (answers_behind c.args.options heard t) (put ++ more))
          (sym (is ∙ ap (λ (t : List StreamLine). done ++ t) said))
          (stopped-prefix c.args.options heard done (stream_lines c.in-Some.more.now) line put more (adds heard s)
          (adds' (hear_all c.args.options.bad_lines heard done) (stands heard s)).1)),
    )

pub returns-clause-put : goal.returns-clause-put
returns-clause-put g c =
    let (done, is, stands, (put, out, adds)) = c.loop-line.invariant.parts in
    let nothing : stream_lines c.loop-line.rest.now ≡ [] = ap (map stream_line) c.in_default.ensures.lines in
    let whole : stream_lines c.args.bytes.now ≡ done = is ∙ ap (λ (t : List StreamLine). done ++ t) nothing ∙ append-nil done in (
      put,
      out,
      λ heard s. (adds heard s ∙ ap (λ (t : List StreamLine). answers_behind c.args.options heard t) (sym whole), tt),
    )
