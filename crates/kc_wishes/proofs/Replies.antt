-- What is replied to words, and what a command that was met asks for.
use Rattle.std.proofs.Common.{◌≡◌, Bool, List, [], ◌∷◌, Option, sym, ap, subst, cond, ne_eqb, suc, length, arith}
use Rattle.clap.specs.Faults.{fault_of}
use Rattle.clap.specs.Kinds.{IsAmong, Kinds}
use Rattle.clap.specs.Simple.{subcommand_of}
use Rattle.clap.specs.Walk.{Row, Text, is_empty}
use Rattle.clap.specs.declared.error.kind.ErrorKind.{ErrorKind}
use Rattle.kc_wishes.specs.Requests.{IsReplyFor, RepliesTo}
use Rattle.kc_wishes.specs.Wishes.{Replies, Wish, cores_command, wish_in, wish_of}
use Rattle.kc_wishes.specs.declared.words.Reply.{Reply}
use Rattle.kc_wishes.specs.declared.words.Reply.TheVariants as reply

-- a reply of a kind that there may be is one to these words
pub RepliesTo-among : (r : Reply) (kind : ErrorKind) (kinds : Kinds) (wish : Wish) → IsReplyFor r kind → IsAmong kind kinds → wish ≡ Replies kinds
    → RepliesTo r wish
RepliesTo-among (reply.Asked text) kind kinds wish h among is = subst (λ w. RepliesTo (reply.Asked text) w) (sym is) (kind, among, h)
RepliesTo-among (reply.Mistake text) kind kinds wish h among is = subst (λ w. RepliesTo (reply.Mistake text) w) (sym is) (kind, among, h)
RepliesTo-among reply.NoMemory kind kinds wish h among is = tt

-- where no fault is promised, the words ask for what the command that was met asks for
pub wish-right : (words : List Text) (met : Option (Text × List Row)) → fault_of cores_command words ≡ [] → met ≡ subcommand_of cores_command words
    → wish_in met ≡ wish_of words
unfolding wish_of
wish-right words met none same = rw none (ap wish_in same)

-- where a fault is promised, the words have a reply
pub wish-wrong : (words : List Text) (kind : ErrorKind) → IsAmong kind (fault_of cores_command words) → wish_of words ≡ Replies (fault_of cores_command words)
unfolding wish_of
wish-wrong words kind among = go (fault_of cores_command words) (wish_in (subcommand_of cores_command words)) among
  where
    go : (kinds : Kinds) (w : Wish) → IsAmong kind kinds → cond (is_empty kinds) w (Replies kinds) ≡ Replies kinds
    go [] w h = absurd h
    go (k ∷ kinds) w h = ap (λ (b : Bool). cond b w (Replies (k ∷ kinds))) (ne_eqb (suc (length kinds)) 0 (λ e. absurd (omega (arith, e))))
