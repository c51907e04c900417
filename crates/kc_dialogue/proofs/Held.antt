-- A turn goes on with the dialogue that was held so far, or ends it. The replier was fed the bytes of `start` before, and `first` has happened.
use Rattle.std.proofs.Common.{◌≡◌, ◌+◌, ◌++◌, ℕ, List, Option, None, Some, ap, append_assoc, refl, subst, sym, arith}
use Rattle.kc_wire.specs.Events.{TellsMore, WireEvent, read_in}
use Rattle.kc_dialogue.specs.Endings.{HasAnswered, reads_in}
use Rattle.kc_dialogue.specs.Openings.{behind}
use Rattle.kc_dialogue.specs.Turns.{HasTurned, IsGoing, IsTurn}
use Rattle.kc_dialogue.specs.declared.end.DialogueEnd.{DialogueEnd}
use Rattle.kc_dialogue.specs.declared.end.DialogueEnd.TheVariants as end
use Rattle.kc_dialogue.proofs.Cuts.{TellsMore-trans}
use Rattle.kc_dialogue.proofs.Events.{reads_in-append}

module _ (start : List ℕ) (first : List WireEvent) (reply now-reply reply_at_end now-at_end : List ℕ → List ℕ)
    (WasFed IsFed HasEnded : List ℕ → Type 0) (a b c : Option (List WireEvent)) (before : List WireEvent) where
  -- a turn of a replier is one of another that has the same replies
  turn-same : (how : Option DialogueEnd) → now-reply ≡ reply → now-at_end ≡ reply_at_end
      → IsTurn (behind now-reply start) (behind now-at_end start) WasFed IsFed HasEnded b c how
      → IsTurn (behind reply start) (behind reply_at_end start) WasFed IsFed HasEnded b c how
  turn-same how same same_at_end turn =
      subst (λ (r : List ℕ → List ℕ). IsTurn (behind r start) (behind reply_at_end start) WasFed IsFed HasEnded b c how) same
      (subst (λ (r : List ℕ → List ℕ). IsTurn (behind now-reply start) (behind r start) WasFed IsFed HasEnded b c how) same_at_end turn)

  -- a turn that goes on
  pub held-on : (n : ℕ) → now-reply ≡ reply → now-at_end ≡ reply_at_end → TellsMore a b before → IsGoing (behind reply start) WasFed (first ++ before)
      → reads_in (first ++ before) ≡ n → IsTurn (behind now-reply start) (behind now-at_end start) WasFed IsFed HasEnded b c None
      → (events : List WireEvent) × TellsMore a c events × IsGoing (behind reply start) IsFed (first ++ events) × (reads_in (first ++ events) ≡ n + 1)
  held-on n same same_at_end told going reads turn =
      let (events, more, goes, one) = turn-same None same same_at_end turn (first ++ before) going in
      let last : reads_in events ≡ 1 = one refl in
      let joined : (first ++ before) ++ events ≡ first ++ (before ++ events) = append_assoc first before events in (
        before ++ events,
        TellsMore-trans a b c before events told more,
        subst (IsGoing (behind reply start) IsFed) joined goes,
        omega (arith, ap reads_in (sym joined), reads_in-append (first ++ before) events, reads, last),
      )

  -- a turn that ends
  pub held-end : (how : DialogueEnd) → now-reply ≡ reply → now-at_end ≡ reply_at_end → TellsMore a b before
      → IsGoing (behind reply start) WasFed (first ++ before)
      → IsTurn (behind now-reply start) (behind now-at_end start) WasFed IsFed HasEnded b c (Some how)
      → (events : List WireEvent) × TellsMore a c events × HasAnswered (behind reply start) (behind reply_at_end start) (first ++ events) how
      × (how ≡ end.Ended → IsFed (read_in (first ++ events))) × (how ≡ end.Done → HasEnded (read_in (first ++ events)))
  held-end how same same_at_end told going turn =
      let (events, more, ends, one) = turn-same (Some how) same same_at_end turn (first ++ before) going in
      let joined : (first ++ before) ++ events ≡ first ++ (before ++ events) = append_assoc first before events in
      let all = subst (λ (e : List WireEvent). HasTurned (behind reply start) (behind reply_at_end start) IsFed HasEnded e (Some how)) joined ends in
      (before ++ events, TellsMore-trans a b c before events told more, all.0, all.1, all.2)
