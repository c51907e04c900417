-- What an attempt and a fault tell, said of what was seen before them; and misses that stay true.
use Rattle.std.proofs.Common.{◌≡◌, ℕ, ◌≤◌, List, [], ◌∷◌, ◌++◌, length, refl, sym, ap, ◌∙◌, subst, arith}
use Rattle.std.specs.Prelude.{All, Result, Ok, Err, IfErr, IfOk}
use Rattle.std.proofs.lemmas.List.Elements.{All-push, All-weaker}
use Rattle.std.specs.Result.{IsErrAnd}
use Rattle.std.proofs.lemmas.Result.{IfErr-weaker, err_from_is_err_and}
use mathlib.Core.List.{IsPrefix}
use Rattle.kc_graph.specs.declared.plan.Plan.{Plan}
use Rattle.kc_graph.specs.declared.update.Update.{Update}
use Rattle.kc_view.specs.Answers.{answers_in}
use Rattle.kc_table.specs.declared.view.Event.{Event}
use Rattle.kc_table.specs.Legal.{Legal}
use Rattle.kc_table.specs.Log.{PassSeen, Seen, TableName}
use Rattle.kc_table.proofs.Prefixes.{prefix_self}
use Rattle.kc_table.proofs.Stamps.{number-grows}
use Rattle.kc_journal.specs.declared.answer.EnterFault.{EnterFault}
use Rattle.kc_journal.specs.declared.answer.EnterFault.TheVariants as enter
use Rattle.kc_journal.specs.declared.answer.Receipt.{Receipt}
use Rattle.kc_stripes.specs.Reads.{WereReadSince}
use Rattle.kc_table.specs.Log.{Opened}
use Rattle.kc_shared.specs.Answers.{HasCause, HasEnterCause, IsNotStale, IsPlanReceipt, IsReceipt}
use Rattle.kc_shared.specs.Misses.{IsTrueMiss}
use Rattle.kc_shared.specs.declared.fault.SharedFault.{SharedFault}
use Rattle.kc_shared.specs.declared.fault.SharedFault.TheVariants as shared
use Rattle.kc_shared.specs.declared.missed.Missed.{Missed}
use Rattle.kc_shared.specs.declared.shared.TheConstants.{MISSES}
use Rattle.kc_shared.proofs.Outdating.{true-miss}
use Rattle.kc_shared.proofs.Staying.{stays-true}
use Rattle.kc_workers.specs.Updates.{HasRefusalCause, HasUpdateCause, IsAttempt, IsUpdateDone, told_attempt}
use Rattle.kc_workers.specs.declared.attempt.Attempt.{Attempt}
use Rattle.kc_workers.specs.declared.done.Done.{Done}

-- Since an earlier moment. -------------------------------------------------------------------------------

-- a receipt since a moment is one since any earlier moment, and of the same update
pub receipt-since : (o : Opened) (earlier old new : List Event) (index : ℕ) (planned update : Update) (receipt : Receipt) → planned ≡ update
    → IsPrefix earlier old → IsReceipt o old new index planned receipt → IsReceipt o earlier new index update receipt
receipt-since o earlier old new index planned update receipt same pre r =
    let here : IsReceipt o old new index update receipt = subst (λ (u : Update). IsReceipt o old new index u receipt) same r in record {
      front = here.front;
      back = here.back;
      entries = here.entries;
      place = here.place;
      index_is = here.index_is;
      applied = here.applied;
      later = omega (arith, here.later, number-grows o.table.shape o.table.opening earlier old pre);
    }

-- what has caused a fault since a moment has caused it since any earlier one
pub cause-since : (o : Opened) (earlier old new : List Event) (index : ℕ) (update : Update) (f : SharedFault) → IsPrefix earlier old
    → HasUpdateCause o old new index update f → HasUpdateCause o earlier new index update f
cause-since o earlier old new index update (shared.Enter fault) pre is = is
cause-since o earlier old new index update (shared.Untold receipt) pre is = receipt-since o earlier old new index update update receipt refl pre is

-- misses stay true where more was seen
pub misses-stay : (o : Opened) (start log more : List Event) (misses : List Missed) → Legal o.table.shape o.table.opening more
    → IsPrefix start log → IsPrefix log more → All (IsTrueMiss o start log) misses → All (IsTrueMiss o start more) misses
misses-stay o start log more misses legal within after all =
    All-weaker (IsTrueMiss o start log) (IsTrueMiss o start more)
    (λ miss true-so. stays-true o start start log more miss legal (prefix_self start) within after true-so) misses all

-- where misses are true, and one more is, they are so all together
pub one-more : (o : Opened) (start log more : List Event) (misses : List Missed) (miss : Missed) → Legal o.table.shape o.table.opening more
    → IsPrefix start log → IsPrefix log more → All (IsTrueMiss o start log) misses → IsTrueMiss o log more miss
    → All (IsTrueMiss o start more) (misses ++ miss ∷ [])
one-more o start log more misses miss legal within after all last =
    All-push (IsTrueMiss o start more) misses miss (misses-stay o start log more misses legal within after all)
    (stays-true o start log more more miss legal within after (prefix_self more) last)

-- A refusal of the shared state. -------------------------------------------------------------------------

-- a refusal of the journal for another reason than a stale stamp refuses the update, with its cause
other-refusal : (o : Opened) (new : List Event) (plan : Plan) (f : EnterFault) → HasEnterCause o new plan f → IsNotStale f → HasRefusalCause o new f
other-refusal o new plan (enter.Full entries) is other = is
other-refusal o new plan (enter.Stale vertex edges used now) is other = absurd other
other-refusal o new plan (enter.Spent highest needed) is other = record { is_highest = is.is_highest; few = is.few; exceeds = is.exceeds }
other-refusal o new plan enter.NoMemory is other = tt

-- where a plan of present stamps alone is refused, so is the update
pub refused-held : {T C : Type 0} (o : Opened) (new : List Event) (plan : Plan) (r : Result T EnterFault) → C → IfErr r (HasEnterCause o new plan)
    → IfErr r (λ f. C → IsNotStale f) → IfErr r (HasRefusalCause o new)
refused-held o new plan (Ok told) current is other = tt
refused-held o new plan (Err f) current is other = other-refusal o new plan f is (other current)

-- a fault for another reason than a stale stamp is a fault of the update, with its cause
pub refusal-faults : (o : Opened) (old new : List Event) (index : ℕ) (plan : Plan) (update : Update) (f : SharedFault) → plan.update ≡ update
    → HasCause o old new index plan f → IfErr (told_attempt f) (HasUpdateCause o old new index update)
refusal-faults o old new index plan update (shared.Enter (enter.Full entries)) same is = is
refusal-faults o old new index plan update (shared.Enter (enter.Stale vertex edges used now)) same is = tt
refusal-faults o old new index plan update (shared.Enter (enter.Spent highest needed)) same is =
    record { is_highest = is.is_highest; few = is.few; exceeds = is.exceeds }
refusal-faults o old new index plan update (shared.Enter enter.NoMemory) same is = tt
refusal-faults o old new index plan update (shared.Untold receipt) same is =
    receipt-since o old old new index plan.update update receipt same (prefix_self old) is.of_update

-- a refusal for a stale stamp is a true miss since the plan was begun
refusal-misses : (o : Opened) (old before new : List Event) (index : ℕ) (plan : Plan) (update : Update) (f : SharedFault) → IsPrefix before new
    → Legal o.table.shape o.table.opening new → WereReadSince o old before (answers_in plan.used) → HasCause o before new index plan f
    → IfOk (told_attempt f) (IsAttempt o old new index update)
refusal-misses o old before new index plan update (shared.Enter (enter.Full entries)) goes-on legal read is = tt
refusal-misses o old before new index plan update (shared.Enter (enter.Stale vertex edges used now)) goes-on legal read is =
    true-miss o old before new (answers_in plan.used) vertex edges used now legal goes-on read is
refusal-misses o old before new index plan update (shared.Enter (enter.Spent highest needed)) goes-on legal read is = tt
refusal-misses o old before new index plan update (shared.Enter enter.NoMemory) goes-on legal read is = tt
refusal-misses o old before new index plan update (shared.Untold receipt) goes-on legal read is = tt

-- A plan that a worker has made, what it had seen before, and what it has seen since.
pub record IsPlanned (o : Opened) (old now : List Event) (update : Update) (plan : Plan) : Type 0 where
  pub begins : IsPrefix old now
  pub read : WereReadSince o old now (answers_in plan.used)
  pub update_is : plan.update ≡ update

-- a plan of what a worker has read since is one that it has planned
pub inside-planned : {o : Opened} {old : List Event} {inside worker : Seen} {update : Update} (plan : Plan) → inside ≡ worker → IsPrefix old worker.log
    → WereReadSince o old worker.log (answers_in plan.used) → plan.update ≡ update → IsPlanned o old inside.log update plan
inside-planned {o} {old} {inside} {worker} {update} plan is begins read same = record {
  begins = subst (λ (w : Seen). IsPrefix old w.log) (sym is) begins;
  read = subst (λ (w : Seen). WereReadSince o old w.log (answers_in plan.used)) (sym is) read;
  update_is = same;
}

-- the receipt of a planned update is one since its worker began
pub entered-so : {o : Opened} {old now new : List Event} {index : ℕ} {update : Update} {plan : Plan} {receipt : Receipt}
    → IsPlanned o old now update plan → IsPlanReceipt o now new index plan receipt → IsReceipt o old new index update receipt
entered-so {o} {old} {now} {new} {index} {update} {plan} {receipt} p r =
    receipt-since o old now new index plan.update update receipt p.update_is p.begins r.of_update

-- where a planned update was refused, and that is told as a miss, the miss is true
pub missed-so : {o : Opened} {old now : List Event} {update : Update} {plan : Plan} (new : List Event) (index : ℕ) (f : SharedFault)
    (told : Result Attempt SharedFault) → told ≡ told_attempt f → IsPlanned o old now update plan → IsPrefix now new
    → Legal o.table.shape o.table.opening new → HasCause o now new index plan f → IfOk told (IsAttempt o old new index update)
missed-so {o} {old} {now} {update} {plan} new index f told told-is p later legal is =
    subst (λ (r : Result Attempt SharedFault). IfOk r (IsAttempt o old new index update)) (sym told-is)
    (refusal-misses o old now new index plan update f later legal p.read is)

-- where a planned update was refused, and that is told as a fault, the fault has its cause
pub refused-so : {o : Opened} {old now : List Event} {update : Update} {plan : Plan} (new : List Event) (index : ℕ) (f : SharedFault)
    (told : Result Attempt SharedFault) → told ≡ told_attempt f → IsPlanned o old now update plan → HasCause o now new index plan f
    → IfErr told (HasUpdateCause o old new index update)
refused-so {o} {old} {now} {update} {plan} new index f told told-is p is =
    IfErr-weaker told (HasUpdateCause o now new index update) (HasUpdateCause o old new index update)
    (λ g h. cause-since o old now new index update g p.begins h)
    (subst (λ (r : Result Attempt SharedFault). IfErr r (HasUpdateCause o now new index update)) (sym told-is)
    (refusal-faults o now new index plan update f p.update_is is))

-- a fault that is handed on has its cause since any earlier moment
pub handed-on : {T : Type 0} (o : Opened) (old now new : List Event) (index : ℕ) (update : Update) (f : SharedFault) (r : Result T SharedFault)
    → IsErrAnd r (λ g. g ≡ f) → IsPrefix old now → HasUpdateCause o now new index update f → IfErr r (HasUpdateCause o old new index update)
handed-on {T} o old now new index update f r is pre h =
    let p = err_from_is_err_and r is in
    subst (λ (z : Result T SharedFault). IfErr z (HasUpdateCause o old new index update)) (sym p.1)
    (subst (HasUpdateCause o old new index update) (sym p.2) (cause-since o old now new index update f pre h))

-- A whole update. ----------------------------------------------------------------------------------------

-- a worker whose pass was split has seen what it had seen
pub begun-log : {inside worker : Seen} {pass : PassSeen} {table : TableName} {loads splits : ℕ} → inside ≡ worker
    → pass ≡ record { table = table; log = inside.log; loads = loads; splits = splits } → pass.log ≡ worker.log
begun-log {inside} {worker} {pass} {table} {loads} {splits} is split = ap (λ (p : PassSeen). p.log) split ∙ ap (λ (w : Seen). w.log) is

-- a log that goes on from a split pass goes on from what its worker had seen
pub split_log-goes_on : {inside worker : Seen} {pass : PassSeen} {table : TableName} {loads splits : ℕ} {now : List Event} → inside ≡ worker
    → pass ≡ record { table = table; log = inside.log; loads = loads; splits = splits } → IsPrefix pass.log now → IsPrefix worker.log now
split_log-goes_on {inside} {worker} {pass} {table} {loads} {splits} {now} is split pre =
    subst (λ (l : List Event). IsPrefix l now) (begun-log is split) pre

-- an update that was entered under the lock, after misses without it
pub done-held : (o : Opened) (start old now new : List Event) (index : ℕ) (update : Update) (done : Done) → start ≡ old
    → Legal o.table.shape o.table.opening new → IsPrefix start now → IsPrefix now new → length done.misses.items ≤ MISSES
    → All (IsTrueMiss o start now) done.misses.items → IsReceipt o now new index update done.receipt → IsUpdateDone o old new index update done
done-held o start old now new index update done is legal before under few all receipt =
    subst (λ (l : List Event). IsUpdateDone o l new index update done) is (record {
      receipt = receipt-since o start now new index update update done.receipt refl before receipt;
      few = few;
      misses = misses-stay o start now new done.misses.items legal before under all;
    })
