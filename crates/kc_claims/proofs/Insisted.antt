-- How a stream is looked through that is to ascend, and what is found then.
use Rattle.std.proofs.Common.{◌≡◌, ◌<◌, ◌+◌, ◌++◌, ◌∙◌, Global, ℕ, IfSome, List, None, Option, Some, Vec, ap}
use Rattle.std.proofs.Common.{append_assoc, arith, is_none, length, length-append, refl, subst, sym, true}
use Rattle.kc_graph.specs.Peeling.{at}
use Rattle.kc_graph.specs.declared.bulk.Edge.{Edge}
use Rattle.kc_text.specs.Forms.{all_said}
use Rattle.kc_text.specs.Lines.{EndsLine}
use Rattle.kc_text.specs.declared.line.TextLine.{TextLine}
use Rattle.kc_text.proofs.SaidAppend.{ends-append, said-append}
use Rattle.kc_claims.specs.Certificates.{AreCertificate, TellCoreNumbers}
use Rattle.kc_claims.specs.Insisting.{HasCount, HasFollowed, HasInsisted, HasInsistedFor, IsCountFault}
use Rattle.kc_claims.specs.LineFaults.{first_line_fault, last_pair}
use Rattle.kc_claims.specs.Streams.{HoldsOfStream, IsFaultOfStream, IsStreamVerdict}
use Rattle.kc_claims.specs.Sweeping.{Agrees, HasCounted, HasSwept, IsFirstMiscount, KeepsTold}
use Rattle.kc_claims.specs.Judging.{AreCounted, HasLookedFor, TellLines}
use Rattle.kc_claims.specs.declared.claim.Claim.{Claim}
use Rattle.kc_claims.specs.declared.claimed.ClaimLines.{ClaimLines}
use Rattle.kc_claims.specs.declared.fault.ClaimFault.{ClaimFault}
use Rattle.kc_claims.specs.declared.fault.ClaimFault.TheVariants.{Unknown, Repeated, Missing, ManyLater, FewSupporters}
use Rattle.kc_claims.specs.declared.fault.FaultyLine.{FaultyLine}
use Rattle.kc_claims.specs.declared.insisting.Insisting.{Insisting}
use Rattle.kc_claims.specs.declared.sweep.Sweep.{Sweep}
use Rattle.kc_claims.proofs.LineFaulting.{clean-append, faulty-append, last_pair-append}
use Rattle.kc_claims.proofs.Streamed.{certified-stream, faulty-ids, faulty-stream, met-claims, told-counted, unknown-stream}

-- what vertices are told stays where nothing changes, and from step to step
pub KeepsTold-same : (s : Sweep) → KeepsTold s s
KeepsTold-same s = record { ids = refl; core = refl; rank = refl; later_each = refl; supporters_each = refl }

KeepsTold-trans : (a b c : Sweep) → KeepsTold a b → KeepsTold b c → KeepsTold a c
KeepsTold-trans a b c first second = record {
  ids = second.ids ∙ first.ids;
  core = second.core ∙ first.core;
  rank = second.rank ∙ first.rank;
  later_each = second.later_each ∙ first.later_each;
  supporters_each = second.supporters_each ∙ first.supporters_each;
}

-- it stays while edges are counted
KeepsTold-counted : (first old now : Sweep) (es fs : List Edge) → HasCounted first old es → HasCounted first now fs → KeepsTold old now
KeepsTold-counted first old now es fs before after =
    let core : now.core ≡ old.core = after.core ∙ sym before.core in
    let size = ap (λ (v : Vec ℕ Global). length v.items) core in
    record {
      ids = after.ids ∙ sym before.ids;
      core = core;
      rank = after.rank ∙ sym before.rank;
      later_each = omega (arith, size, after.tally.later_each, before.tally.later_each);
      supporters_each = omega (arith, size, after.tally.supporters_each, before.tally.supporters_each);
    }

-- once a line is wrong, it stays the first
pub HasInsisted-stays : (start old : Insisting) (before lines : List ℕ) (f : FaultyLine) → EndsLine before → HasInsisted start old before
    → old.fault ≡ Some f → HasInsisted start old (before ++ lines)
HasInsisted-stays start old before lines f ended h is = record {
  first =
      is
      ∙ sym (ap (first_line_fault start.sweep.ids.items 0 start.last) (said-append before lines ended)
      ∙ faulty-append start.sweep.ids.items 0 start.last (all_said before) (all_said lines) f (sym h.first ∙ is));
  followed = λ none. absurd (let e : Some f ≡ None = sym is ∙ none in cc);
  kept = h.kept;
}

module _ (start old now : Insisting) (before lines : List ℕ) (ended : EndsLine before) (h : HasInsisted start old before) (clean : old.fault ≡ None) where
  -- the lines so far were followed
  f : HasFollowed start old before
  f = h.followed clean

  -- the ids are those of the beginning
  same-ids : old.sweep.ids ≡ start.sweep.ids
  same-ids =
      let (first, earlier, ends, swept) = f.begun in
      (f.swept first earlier ends swept).counted.ids ∙ sym swept.counted.ids

  -- what is first wrong in all lines is so in those that came
  pub first-of-all : first_line_fault start.sweep.ids.items 0 start.last (all_said (before ++ lines))
      ≡ first_line_fault old.sweep.ids.items old.lines old.last (all_said lines)
  first-of-all =
      let ids : List ℕ = start.sweep.ids.items in
      let said : List TextLine = all_said lines in
      ap (first_line_fault ids 0 start.last) (said-append before lines ended)
      ∙ clean-append ids 0 start.last (all_said before) said (sym h.first ∙ clean)
      ∙ ap (λ n. first_line_fault ids n (last_pair start.last (all_said before)) said)
      (let e : 0 + length (all_said before) ≡ old.lines = omega (arith, f.lines) in e)
      ∙ ap (λ last. first_line_fault ids old.lines last said) (sym f.last)
      ∙ ap (λ (v : Vec ℕ Global). first_line_fault v.items old.lines old.last said) (sym same-ids)

  -- a line that came is wrong
  pub HasInsisted-faulty : (wrong : FaultyLine) → first_line_fault old.sweep.ids.items old.lines old.last (all_said lines) ≡ Some wrong
      → now.fault ≡ Some wrong → KeepsTold old.sweep now.sweep → HasInsisted start now (before ++ lines)
  HasInsisted-faulty wrong is told kept = record {
    first = told ∙ sym (first-of-all ∙ is);
    followed = λ none. absurd (let e : Some wrong ≡ None = sym told ∙ none in cc);
    kept = KeepsTold-trans start.sweep old.sweep now.sweep h.kept kept;
  }

  -- none of the lines that came is wrong, and all their edges were counted
  pub HasInsisted-followed : first_line_fault old.sweep.ids.items old.lines old.last (all_said lines) ≡ None → now.fault ≡ None
      → ((first : Sweep) (earlier : List ℕ) → EndsLine earlier → HasSwept first old.sweep earlier → HasSwept first now.sweep (earlier ++ lines))
      → now.lines ≡ old.lines + length (all_said lines) → now.last ≡ last_pair old.last (all_said lines) → HasInsisted start now (before ++ lines)
  HasInsisted-followed none told swept count last = record {
    first = told ∙ sym (first-of-all ∙ none);
    followed = λ _. record {
      begun = f.begun;
      swept = λ first earlier ends h.
          subst (HasSwept first now.sweep) (append_assoc earlier before lines)
          (swept first (earlier ++ before) (ends-append earlier before ends ended) (f.swept first earlier ends h));
      lines = omega (arith, count, f.lines, ap length (said-append before lines ended), length-append (all_said before) (all_said lines));
      last =
          last ∙ ap (λ p. last_pair p (all_said lines)) f.last ∙ sym (last_pair-append start.last (all_said before) (all_said lines))
          ∙ sym (ap (last_pair start.last) (said-append before lines ended));
    };
    kept =
        let (first, earlier, ends, so_far) = f.begun in
        let all = f.swept first earlier ends so_far in
        let more = swept first (earlier ++ before) (ends-append earlier before ends ended) all in
        KeepsTold-trans start.sweep old.sweep now.sweep h.kept
        (KeepsTold-counted first old.sweep now.sweep all.edges more.edges all.counted more.counted);
  }

-- a claim that does not agree is what the counts show to be wrong
pub IsCountFault-miscount : (claims : List Claim) (order later supporters : List ℕ) (fault : ClaimFault)
    → IsFirstMiscount claims order later supporters fault → IsCountFault claims order later supporters fault
IsCountFault-miscount claims order later supporters (Unknown claim) first = absurd first.here
IsCountFault-miscount claims order later supporters (Repeated claim) first = first.here
IsCountFault-miscount claims order later supporters (Missing id) first = first.here
IsCountFault-miscount claims order later supporters (ManyLater claim count) first = first
IsCountFault-miscount claims order later supporters (FewSupporters claim count) first = first

module _ (claims : List Claim) (order : List ℕ) (now : Insisting) (known : Option (List ℕ)) (h : HasInsistedFor claims order now known) where
  -- the claims are a certificate
  pub certified-ascending : ((i : ℕ) → i < length claims → Agrees claims order now.sweep.later.items now.sweep.supporters.items i)
      → ((i : ℕ) → i < length claims → HasCount now.sweep.later.items now.sweep.supporters.items (at order i))
      → HoldsOfStream (λ ids g. AreCertificate ids g claims × TellCoreNumbers ids g claims) known
  certified-ascending agree counted =
      certified-stream claims order h.sweep h.begun now.sweep known h.fed
      (met-claims claims order h.sweep h.begun now.sweep known h.fed counted) agree

  -- they are none
  pub faulty-ascending : (fault : ClaimFault) → IsCountFault claims order now.sweep.later.items now.sweep.supporters.items fault
      → IsFaultOfStream claims fault known
  faulty-ascending (Unknown claim) (agree, first) = unknown-stream claims order h.sweep h.begun now.sweep known h.fed claim agree first
  faulty-ascending (Repeated claim) first = absurd first
  faulty-ascending (Missing id) first = absurd first
  faulty-ascending (ManyLater claim count) first = faulty-ids claims order h.sweep h.begun now.sweep known h.fed (ManyLater claim count) first
  faulty-ascending (FewSupporters claim count) first =
      faulty-ids claims order h.sweep h.begun now.sweep known h.fed (FewSupporters claim count) first

  -- where something is counted of the vertices of all claims, this is the verdict on the claims in the graph of the stream
  pub verdict-ascending : ((i : ℕ) → i < length claims → HasCount now.sweep.later.items now.sweep.supporters.items (at order i)) → (found : Option ClaimFault)
      → IfSome found (IsFirstMiscount claims order now.sweep.later.items now.sweep.supporters.items)
      → (is_none found ≡ true → (i : ℕ) → i < length claims → Agrees claims order now.sweep.later.items now.sweep.supporters.items i)
      → IsStreamVerdict claims known found
  verdict-ascending counted None first agree = certified-ascending (agree refl) counted
  verdict-ascending counted (Some fault) first agree =
      faulty-stream claims order h.sweep h.begun now.sweep known h.fed
      (met-claims claims order h.sweep h.begun now.sweep known h.fed counted) fault first

-- the sweep has a count of each kind for each vertex of the claims
pub AreCounted-looked : (claims : List Claim) (order : List ℕ) (now : Insisting) (lines : ClaimLines) (known : Option (List ℕ))
    → HasLookedFor claims order now lines known → AreCounted claims order now.sweep lines
AreCounted-looked claims order now lines known h =
    let counted = h.insisted.fed.took.counted in
    record {
      told = told-counted claims order h.insisted.sweep h.insisted.begun now.sweep known h.insisted.fed;
      stand = subst (λ (v : Vec ℕ Global). TellLines claims order v.items lines) (sym counted.rank) h.stand;
      later_each = counted.tally.later_each;
      supporters_each = counted.tally.supporters_each;
    }
