-- All lines were read, with those that are kept.
use Rattle.std.proofs.Common.{◌++◌, subst, ◌∙◌, arith, List, ℕ}
use Rattle.std.proofs.lemmas.Result.{IfOk-weaker}
use Rattle.kc_text.specs.Feeding.{WasFed}
use Rattle.kc_text.specs.Forms.{all_said}
use Rattle.kc_text.specs.Readings.{Reads}
use Rattle.kc_text.proofs.Fed.{all-read, keeps_up-fed, meaning-is}
use Rattle.kc_text.proofs.text_reader.TextReader.reading.Goals as goal
use Rattle.kc_text.proofs.text_reader.TextReader.reading.Goals.{In_ok-read}

-- the lines of what was fed were read
were-read : (c : In_ok-read) (fed : List ℕ) → WasFed c.args.self fed → Reads c.args.self.limits c.read.new.self (all_said fed)
were-read c fed h = all-read c.args.self c.in-Some._left fed c.read.new.self (keeps_up-fed c.args.self c.in-Some._left fed c.in-Some.is h)
    (λ before r. subst (λ t. Reads c.args.self.limits c.read.new.self (before ++ all_said t)) c.deref.ensures.value (c.in_ok-read.ensures.reads before r))

pub finish-requires : goal.finish-requires
finish-requires c = let (fed, h) = c.requires in (all_said fed, were-read (goal.at.finish-requires c).In_ok-read fed h)

pub returns : goal.returns
returns c = IfOk-weaker c.finish.result _ _ (λ found settled fed h.
    let f = keeps_up-fed c.args.self c.in-Some._left fed c.in-Some.is h in
    let (told, is, means) = settled (all_said fed) (were-read (goal.at.returns c).In_ok-read fed h) in
    (told, is, meaning-is c.args.self.limits fed (omega (arith, f.room)) ∙ means)) c.finish.ensures
