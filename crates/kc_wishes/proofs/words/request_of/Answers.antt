-- What `clap` answers at the command that was built is what it answers at the command of the definition.
use Rattle.std.proofs.Common.{◌≡◌, ◌∙◌, List, [], ap, sym, subst, true, refl, inl, inr, map}
use Rattle.std.proofs.lemmas.Result.{IfErr-weaker, IfOk-weaker}
use Rattle.clap.specs.Faults.{fault_of, is_simple_and_free}
use Rattle.clap.specs.Kinds.{IsAmong}
use Rattle.clap.specs.Simple.{App, is_simple, subcommand_of, subcommand_rows_of}
use Rattle.clap.specs.Values.{kind_of}
use Rattle.clap.specs.Walk.{Text}
use Rattle.clap.proofs.OnLiterals.{clap_on_literals}
use Rattle.kc_wishes.specs.Requests.{IsRequestFor, RepliesTo}
use Rattle.kc_wishes.specs.Wishes.{Wish, cores_command, wish_of}
use Rattle.kc_wishes.specs.declared.words.Reply.{Reply}
use Rattle.kc_wishes.specs.declared.words.Reply.TheVariants as reply
use Rattle.kc_wishes.proofs.Replies.{RepliesTo-among, wish-right, wish-wrong}
use Rattle.kc_wishes.proofs.words.request_of.Goals as goal

-- the command is one whose matches are a function of the words
command-simple : is_simple cores_command ≡ true
unfolding clap_on_literals
command-simple = refl

-- and none of its options has a rule on another
command-free : is_simple_and_free cores_command ≡ true
unfolding clap_on_literals
command-free = refl

pub returns-in-Ok-clause-asks : goal.returns-in-Ok-clause-asks
returns-in-Ok-clause-asks g c =
    let words : List Text = map g.W.AsStr.text c.args.words.now in
    let none : fault_of cores_command words ≡ [] =
    sym (ap (λ (a : App). fault_of a words) c.in_ok-command.ensures) ∙ c.in-Ok.ensures.kinds (ap is_simple_and_free c.in_ok-command.ensures ∙ command-free) in
    let met : subcommand_rows_of c.in-Ok.matches ≡ subcommand_of cores_command words =
    (c.in-Ok.ensures.matches (ap is_simple c.in_ok-command.ensures ∙ command-simple)).1 ∙ ap (λ (a : App). subcommand_of a words) c.in_ok-command.ensures in
    IfOk-weaker c.request_in.result _ _ (λ request h. subst (λ (w : Wish). IsRequestFor request w) (wish-right words _ none met) h) c.request_in.ensures.asks

pub returns-in-Ok-clause-replies : goal.returns-in-Ok-clause-replies
returns-in-Ok-clause-replies g c =
    let words : List Text = map g.W.AsStr.text c.args.words.now in
    let none : fault_of cores_command words ≡ [] =
    sym (ap (λ (a : App). fault_of a words) c.in_ok-command.ensures) ∙ c.in-Ok.ensures.kinds (ap is_simple_and_free c.in_ok-command.ensures ∙ command-free) in
    let met : subcommand_rows_of c.in-Ok.matches ≡ subcommand_of cores_command words =
    (c.in-Ok.ensures.matches (ap is_simple c.in_ok-command.ensures ∙ command-simple)).1 ∙ ap (λ (a : App). subcommand_of a words) c.in_ok-command.ensures in
    IfErr-weaker c.request_in.result _ _ (λ r h. subst (λ (w : Wish). RepliesTo r w) (wish-right words _ none met) h) c.request_in.ensures.replies

-- where there is no memory, that is no reply to the words
no_memory : (r : Reply) (wish : Wish) → r ≡ reply.NoMemory → RepliesTo r wish
no_memory r wish is = subst (λ (x : Reply). RepliesTo x wish) (sym is) tt

pub returns-in-Err-clause-replies : goal.returns-in-Err-clause-replies
returns-in-Err-clause-replies g c =
    let words : List Text = map g.W.AsStr.text c.args.words.now in
    elim (c.in-Err.ensures.kinds (ap is_simple_and_free c.in_ok-command.ensures ∙ command-free)) [
      | inl memory ↦ no_memory c.reply_of.result (wish_of words) (c.reply_of.ensures.memory memory)
      | inr among ↦
          let here : IsAmong (kind_of c.in-Err.error) (fault_of cores_command words) =
          subst (λ (a : App). IsAmong (kind_of c.in-Err.error) (fault_of a words)) c.in_ok-command.ensures among in
          RepliesTo-among c.reply_of.result (kind_of c.in-Err.error) (fault_of cores_command words) (wish_of words) c.reply_of.ensures.kind here
          (wish-wrong words (kind_of c.in-Err.error) here)
    ]
