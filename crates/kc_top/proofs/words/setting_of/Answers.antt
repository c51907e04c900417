-- What `clap` answers at the command that was built is what it answers at the command of the definition.
use Rattle.std.proofs.Common.{Bool, ap, sym, subst, ◌≡◌, ◌∙◌, List, [], true, refl, Option, None, cond, ◌∷◌, inl, inr, length, suc, arith, ne_eqb}
use Rattle.clap.specs.Faults.{fault_of, is_simple_and_free}
use Rattle.clap.specs.Simple.{App, is_simple, matches_of}
use Rattle.clap.specs.Walk.{Row, Text, is_empty, rows_of, texts}
use Rattle.clap.specs.declared.error.kind.ErrorKind.{ErrorKind}
use Rattle.clap.specs.Kinds.{IsAmong, Kinds}
use Rattle.clap.specs.Matches.{found_of}
use Rattle.clap.specs.Values.{kind_of}
use Rattle.clap.proofs.OnLiterals.{clap_on_literals}
use Rattle.kc_top.specs.Settings.{command, setting, setting_in}
use Rattle.kc_output.specs.declared.setting.Setting.{Setting}
use Rattle.kc_top.proofs.words.setting_of.Goals as goal

-- the command is one whose matches are a function of the words
command-simple : is_simple command ≡ true
unfolding clap_on_literals
command-simple = refl

-- and none of its options has a rule on another
command-free : is_simple_and_free command ≡ true
unfolding clap_on_literals
command-free = refl

-- where no fault is promised, the setting is that of the matches
setting-right : (words : List Text) (rows : List Row) → fault_of command words ≡ [] → rows ≡ matches_of command words → setting_in rows ≡ setting words
unfolding setting
setting-right words rows none same = rw none (ap setting_in same)

-- where a fault is promised, there is no setting
setting-wrong : (words : List Text) (kind : ErrorKind) → IsAmong kind (fault_of command words) → None ≡ setting words
unfolding setting
setting-wrong words kind among = go (fault_of command words) (setting_in (matches_of command words)) among
  where
    go : (kinds : Kinds) (o : Option Setting) → IsAmong kind kinds → None ≡ (cond (is_empty kinds) o None)
    go [] o h = absurd h
    go (k ∷ kinds) o h = ap (λ (b : Bool). cond b o None) (sym (ne_eqb (suc (length kinds)) 0 (λ e. absurd (omega (arith, e)))))

pub returns-in-Ok : goal.returns-in-Ok
returns-in-Ok c =
    let words : List Text = texts c.args.words.now in
    c.setting_in.ensures ∙ setting-right words (rows_of (found_of c.in-Ok.matches))
    (sym (ap (λ (a : App). fault_of a words) c.in_ok-command.ensures) ∙ c.in-Ok.ensures.kinds (ap is_simple_and_free c.in_ok-command.ensures ∙ command-free))
    ((c.in-Ok.ensures.matches (ap is_simple c.in_ok-command.ensures ∙ command-simple)).0 ∙ ap (λ (a : App). matches_of a words) c.in_ok-command.ensures)

pub returns : goal.returns
returns c =
    let words : List Text = texts c.args.words.now in
    elim (c.in-Err.ensures.kinds (ap is_simple_and_free c.in_ok-command.ensures ∙ command-free)) [
      | inl memory ↦ absurd (c.in_default.not-OutOfMemory (c.kind.ensures ∙ memory))
      | inr among ↦ setting-wrong words (kind_of c.in-Err.error)
          (subst (λ (a : App). IsAmong (kind_of c.in-Err.error) (fault_of a words)) c.in_ok-command.ensures among)
    ]
