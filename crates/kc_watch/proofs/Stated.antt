-- What is kept is a state of the account behind the batches that have ended.
use Rattle.std.proofs.Common.{◌≡◌, ℕ, Bool, true, cond, List, length, take, sym, ap, ◌∙◌, subst, Option, Some, None}
use Rattle.std.specs.Prelude.{is_some}
use Rattle.kc_graph.specs.SimpleGraph.{SimpleGraph}
use Rattle.kc_text.specs.declared.change.ChangeLine.{ChangeLine}
use Rattle.kc_text.specs.Meaning.{Told}
use Rattle.kc_stream.specs.Ids.{ids_of}
use Rattle.kc_watch.specs.Accounts.{Account, account_of}
use Rattle.kc_watch.specs.States.{IsStateFor, account_told, ended_in}
use Rattle.kc_watch.specs.Watching.{KeepsAccount}
use Rattle.kc_watch.specs.declared.kept.Kept.{Kept}
use Rattle.kc_watch.specs.declared.state.WatchedState.{WatchedState}
use Rattle.kc_watch.proofs.Accounts.{account-size}
use Rattle.kc_watch.proofs.Parts.{named-known}

-- before any batch line there is no account
no-account : (told : Told) → told.last ≡ None → account_told told ≡ None
no-account told last =
    ap (λ (l : Option (List ChangeLine)). let a : Option Account = cond (is_some l) (Some (account_of told.edges told.earlier)) None in a) last

-- behind one there is
one-account : (told : Told) → is_some told.last ≡ true → account_told told ≡ Some (account_of told.edges told.earlier)
one-account told some = ap (λ (b : Bool). let a : Option Account = cond b (Some (account_of told.edges told.earlier)) None in a) some

-- where nothing is kept, there is no state
pub no-state : (told : Told) (ended : ℕ) → KeepsAccount None ended told → IsStateFor (account_told told) None
no-state told ended k = subst (λ (a : Option Account). IsStateFor a None) (sym (no-account told k.0)) tt

-- what is kept is a state of the account
pub some-state : (ids : List ℕ) (told : Told) (kept : Kept) (ended : ℕ) (state : WatchedState) → ids ≡ ids_of told → KeepsAccount (Some kept) ended told
    → state.batches ≡ ended → state.ids.items ≡ take kept.keeper.graph.size ids → state.lawful.graph ≡ kept.keeper.graph
    → IsStateFor (account_told told) (Some state)
some-state ids told kept ended state named (some, graph, count) batches names is =
    let account : Account = account_of told.edges told.earlier in
    let all : state.ids.items ≡ account.ids = names ∙ named-known ids told kept ended named (some, graph, count) in
    let same : state.lawful.graph ≡ account.graph = is ∙ graph in
    subst (λ (a : Option Account). IsStateFor a (Some state)) (sym (one-account told some)) (record {
      batches_are = batches ∙ count;
      ids_are = all;
      graph_is = same;
      one_id_each = ap length all ∙ sym (account-size told.edges told.earlier) ∙ ap (λ (g : SimpleGraph). g.size) (sym same);
    })

-- so many batches have ended
pub ended-are : (kept : Option Kept) (ended : ℕ) (told : Told) → KeepsAccount kept ended told → ended ≡ ended_in (account_told told)
ended-are None ended told (last, count) = count ∙ sym (ap ended_in (no-account told last))
ended-are (Some kept) ended told (some, graph, count) = count ∙ sym (ap ended_in (one-account told some))
