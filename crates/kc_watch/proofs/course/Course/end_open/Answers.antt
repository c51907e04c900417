-- A batch that is dropped ends with the line about it, and what else is open with its own text.
use Rattle.std.proofs.Common.{◌≡◌, ℕ, List, None, Some, Option, sym, subst, ◌∙◌, ap, append-nil}
use Rattle.std.specs.Prelude.{OnErr, OnOk, is_some}
use Rattle.std.proofs.lemmas.Result.{on_ok_weaker}
use Rattle.kc_dialogue.specs.Replies.{IsPrefixOf}
use Rattle.kc_text.specs.declared.refusal.Refusal.{Refusal}
use Rattle.kc_text.specs.Meaning.{Told}
use Rattle.kc_reply.specs.Texts.{fact_text}
use Rattle.kc_watch.specs.Text.{ending_text, refused_fact}
use Rattle.kc_watch.proofs.Lines.{dropped-put}
use Rattle.kc_watch.proofs.course.Course.end_open.Goals as goal

pub end_part-requires : goal.end_part-requires
end_part-requires g c =
    let (heard, s) = c.requires.stands in
    let none : heard.refusal ≡ None = sym s.gathers.refusal ∙ c.requires.going in
    (heard.told, s.gathers.holds none, s.keeps none)

pub returns-in-None-clause-keeps : goal.returns-in-None-clause-keeps
returns-in-None-clause-keeps g c = on_ok_weaker c.end_part.result (λ keeps heard s.
    let none : heard.refusal ≡ None = sym s.gathers.refusal ∙ c.requires.going in
    keeps heard.told (s.gathers.holds none) (s.keeps none)) c.end_part.ensures.keeps

pub returns-in-None-clause-put : goal.returns-in-None-clause-put
returns-in-None-clause-put g c =
    let (put, out, adds) = c.end_part.ensures.put in (
      put,
      out,
      λ heard s.
          let none : heard.refusal ≡ None = sym s.gathers.refusal ∙ c.requires.going in
          let undropped : heard.dropped ≡ None = sym s.gathers.dropped ∙ sym c.dropped.ensures ∙ c.in-None.is in
          subst (λ (d : Option Refusal). OnOk c.end_part.result (put ≡ ending_text c.args.options d heard.told)
          × OnErr c.end_part.result (IsPrefixOf (ending_text c.args.options d heard.told) put)) (sym undropped)
          (adds heard.told (s.gathers.holds none) (s.keeps none)),
    )

pub returns-in-Some-clause-keeps : goal.returns-in-Some-clause-keeps
returns-in-Some-clause-keeps g c = on_ok_weaker c.end_dropped.result (λ keeps heard s.
    let none : heard.refusal ≡ None = sym s.gathers.refusal ∙ c.requires.going in
    let is : heard.dropped ≡ Some c.in-Some.refusal = sym s.gathers.dropped ∙ sym c.dropped.ensures ∙ c.in-Some.is in
    keeps heard.told (s.gathers.emptied (ap is_some is)) (s.keeps none)) c.end_dropped.ensures.keeps

pub returns-in-Some-clause-put : goal.returns-in-Some-clause-put
returns-in-Some-clause-put g c =
    let text : Told → List ℕ = λ told. fact_text c.args.options.format (refused_fact told c.in-Some.refusal) in
    let (put, out, adds) = c.end_dropped.ensures.put in (
      put,
      out,
      λ heard s.
          let none : heard.refusal ≡ None = sym s.gathers.refusal ∙ c.requires.going in
          let is : heard.dropped ≡ Some c.in-Some.refusal = sym s.gathers.dropped ∙ sym c.dropped.ensures ∙ c.in-Some.is in
          subst (λ (d : Option Refusal). OnOk c.end_dropped.result (put ≡ ending_text c.args.options d heard.told)
          × OnErr c.end_dropped.result (IsPrefixOf (ending_text c.args.options d heard.told) put)) (sym is)
          (dropped-put c.end_dropped.result (text heard.told) (ending_text c.args.options (Some c.in-Some.refusal) heard.told) put
          (sym (append-nil (text heard.told))) (adds heard.told (s.gathers.emptied (ap is_some is)) (s.keeps none))),
    )
