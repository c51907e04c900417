-- A run that checks a certificate ends as it should: where there is no verdict, and where one was said.
use Rattle.std.proofs.Common.{◌≡◌, ◌⊎◌, ◌≤◌, ◌∙◌, ℕ, Bool, List, [], Option, ap, inl, inr, length, refl, subst, sym, take}
use Rattle.std.proofs.KnownBytes.{Appends-nil}
use Rattle.std.specs.Io.KnownBytes.{Appends}
use Rattle.kc_io.specs.Causes.{Rose}
use Rattle.kc_io.specs.declared.sink.Sink as sinks
use Rattle.kc_io.specs.declared.source.Source as sources
use Rattle.kc_claims.specs.declared.fault.ClaimFault.{ClaimFault}
use Rattle.kc_wire.specs.declared.wire.Wire as wires
use Rattle.kc_wishes.specs.Requests.{RepliesTo}
use Rattle.kc_wishes.specs.Wishes.{Asks, Checks, ChecksStream, GraphText, Query, StreamQuery, Watches, Wish}
use Rattle.kc_wishes.specs.declared.words.Reply.TheVariants as reply
use Rattle.kc_wishes.specs.declared.words.Reply.{Reply}
use Rattle.kc_cores.specs.Asked.{EndsAsAsked}
use Rattle.kc_cores.specs.CheckEnded.{CheckEnded, IsRight, IsWrong}
use Rattle.kc_cores.specs.CoresEnded.{CoresEnded}
use Rattle.kc_cores.specs.Endings.{HasNoVerdict, HasSaid, NoClaimsAt, NoFileGraphAt, RefutedAt, line_of}
use Rattle.kc_cores.specs.Inputs.{known_bytes}
use Rattle.kc_cores.specs.Sentences.{no_memory_line, write_fault_line}
use Rattle.kc_cores.specs.Verdicts.{no_line, yes_line}
use Rattle.kc_cores.specs.WatchEnded.{WatchEnded}
use Rattle.kc_cores.specs.StreamChecked.{StreamChecked}
use Rattle.kc_cores.specs.declared.CoresStatus.{CoresStatus}
use Rattle.kc_cores.specs.declared.CoresStatus.TheVariants as status
use Rattle.kc_cores.specs.declared.ending.Ending.{Ending}
use Rattle.kc_cores.proofs.StreamChecking.{StreamChecked-nothing}
use Rattle.kc_cores.proofs.Watched.{WatchEnded-nothing}

module _ {I C O : Type 0} (source : sources.Ghosts I) (behind : I → List ℕ → Option (List ℕ)) (kept : sources.Ghosts C)
    (beside : C → List ℕ → Option (List ℕ)) (out : sinks.Ghosts O) where
  -- there are no claims
  no_claims : (name : List ℕ) (graph : GraphText) (end : CoresStatus) (line : List ℕ) (i i' : I) (c c' : C) (o : O)
      → NoClaimsAt end line name (beside c name) (kept.faults c) (kept.faults c') → source.faults i' ≡ source.faults i
      → CheckEnded source behind kept beside out name graph end line i i' c c' o o
  no_claims name graph status.Unopened line i i' c c' o (fault, told, rose) same = record {
    did = ((name, fault, inl refl, told), Appends-nil (out.taken o));
    faults = inr rose;
    write_faults = refl;
  }
  no_claims name graph status.Refused line i i' c c' o (refusal, told, means, stays) same = record {
    did = (inr (refusal, told, means), Appends-nil (out.taken o));
    faults = (same, stays);
    write_faults = refl;
  }
  no_claims name graph status.ReadFault line i i' c c' o (told, rose) same = record {
    did = (told, Appends-nil (out.taken o));
    faults = inr rose;
    write_faults = refl;
  }
  no_claims name graph status.NoMemory line i i' c c' o (told, stays) same = record {
    did = (told, Appends-nil (out.taken o));
    faults = (same, stays);
    write_faults = refl;
  }
  no_claims name graph _ line i i' c c' o h same = absurd h

  -- there is no graph
  no_graph : (name : List ℕ) (graph : GraphText) (end : CoresStatus) (line : List ℕ) (i i' : I) (c c' : C) (o : O)
      → NoFileGraphAt end line graph (known_bytes source.left behind graph.file i) (source.faults i) (source.faults i') → kept.faults c' ≡ kept.faults c
      → CheckEnded source behind kept beside out name graph end line i i' c c' o o
  no_graph name graph status.Unopened line i i' c c' o (opened, fault, is, told, rose) same = record {
    did = ((opened, fault, inr is, told), Appends-nil (out.taken o));
    faults = inl rose;
    write_faults = refl;
  }
  no_graph name graph status.Refused line i i' c c' o (refusal, told, means, stays) same = record {
    did = (inl (refusal, told, means), Appends-nil (out.taken o));
    faults = (stays, same);
    write_faults = refl;
  }
  no_graph name graph status.ReadFault line i i' c c' o (told, rose) same = record {
    did = (told, Appends-nil (out.taken o));
    faults = inl rose;
    write_faults = refl;
  }
  no_graph name graph status.NoMemory line i i' c c' o (told, stays) same = record {
    did = (told, Appends-nil (out.taken o));
    faults = (stays, same);
    write_faults = refl;
  }
  no_graph name graph _ line i i' c c' o h same = absurd h

  -- there is no verdict
  pub CheckEnded-no_verdict : (name : List ℕ) (graph : GraphText) (ending : Ending) (i i' : I) (c c' : C) (o : O)
      → HasNoVerdict ending name graph (known_bytes source.left behind graph.file i) (beside c name) (source.faults i) (source.faults i')
      (kept.faults c) (kept.faults c')
      → CheckEnded source behind kept beside out name graph ending.status (line_of ending) i i' c c' o o
  CheckEnded-no_verdict name graph ending i i' c c' o h = elim h [
    | inl (none, same) ↦ no_claims name graph ending.status (line_of ending) i i' c c' o none same
    | inr (none, same) ↦ no_graph name graph ending.status (line_of ending) i i' c c' o none same
  ]

  module _ (name : List ℕ) (graph : GraphText) (i i' : I) (c c' : C) (o o' : O) (stays : source.faults i' ≡ source.faults i)
      (same : kept.faults c' ≡ kept.faults c) where
    -- a write failed
    cut : (end : CoresStatus) (line text : List ℕ) → end ≡ status.WriteFault → line ≡ write_fault_line
        → (IsRight graph.dialect (known_bytes source.left behind graph.file i) (beside c name) × (text ≡ yes_line))
        ⊎ ((fault : ClaimFault) × IsWrong fault graph.dialect (known_bytes source.left behind graph.file i) (beside c name) × (text ≡ no_line fault))
        → ((n : ℕ) × (n ≤ length text) × Appends (out.taken o) (out.taken o') (take n text)) → Rose (out.faults o) (out.faults o')
        → CheckEnded source behind kept beside out name graph end line i i' c c' o o'
    cut end line text is told verdict took rose =
        subst (λ (e : CoresStatus). CheckEnded source behind kept beside out name graph e line i i' c c' o o') (sym is) (record {
          did = (text, verdict, took, told);
          faults = (stays, same);
          write_faults = rose;
        })

    -- yes was said
    pub CheckEnded-right : (ending wanted : Ending) → IsRight graph.dialect (known_bytes source.left behind graph.file i) (beside c name)
        → wanted.status ≡ status.Certified → line_of wanted ≡ []
        → HasSaid ending wanted yes_line (out.taken o) (out.taken o') (out.faults o) (out.faults o')
        → CheckEnded source behind kept beside out name graph ending.status (line_of ending) i i' c c' o o'
    CheckEnded-right ending wanted right certified none said = elim said [
      | inl (is, took, unfailed) ↦
          subst (λ (e : CoresStatus). CheckEnded source behind kept beside out name graph e (line_of ending) i i' c c' o o')
          (sym (ap (λ (e : Ending). e.status) is ∙ certified)) (record {
            did = (right, took, ap line_of is ∙ none);
            faults = (stays, same);
            write_faults = unfailed;
          })
      | inr (is, told, took, rose) ↦ cut ending.status (line_of ending) yes_line is told (inl (right, refl)) took rose
    ]

    -- no was said
    refuted : (end : CoresStatus) (line : List ℕ) (fault : ClaimFault) → IsWrong fault graph.dialect (known_bytes source.left behind graph.file i)
        (beside c name)
        → RefutedAt end line name fault (out.taken o) (out.taken o') (out.faults o) (out.faults o')
        → CheckEnded source behind kept beside out name graph end line i i' c c' o o'
    refuted status.Uncertified line fault wrong (took, told, unfailed) = record {
      did = (fault, wrong, took, told);
      faults = (stays, same);
      write_faults = unfailed;
    }
    refuted status.WriteFault line fault wrong (took, told, rose) = cut status.WriteFault line (no_line fault) refl told (inr (fault, wrong, refl)) took rose
    refuted status.NoMemory line fault wrong (took, told, unfailed) = record { did = (told, took); faults = (stays, same); write_faults = unfailed }
    refuted _ line fault wrong h = absurd h

    pub CheckEnded-wrong : (ending : Ending) (fault : ClaimFault) → IsWrong fault graph.dialect (known_bytes source.left behind graph.file i) (beside c name)
        → RefutedAt ending.status (line_of ending) name fault (out.taken o) (out.taken o') (out.faults o) (out.faults o')
        → CheckEnded source behind kept beside out name graph ending.status (line_of ending) i i' c c' o o'
    CheckEnded-wrong ending fault wrong h = refuted ending.status (line_of ending) fault wrong h

  -- there was no memory for the words
  no_words : (name : List ℕ) (graph : GraphText) (end : CoresStatus) (line : List ℕ) (i i' : I) (c c' : C) (o o' : O)
      → end ≡ status.NoMemory → line ≡ no_memory_line → i' ≡ i → c' ≡ c → o' ≡ o
      → CheckEnded source behind kept beside out name graph end line i i' c c' o o'
  no_words name graph end line i i' c c' o o' is told one two three =
      subst (λ (e : CoresStatus). CheckEnded source behind kept beside out name graph e line i i' c c' o o') (sym is) (record {
        did = (told, subst (λ (x : O). Appends (out.taken o) (out.taken x) []) (sym three) (Appends-nil (out.taken o)));
        faults = (ap source.faults one, ap kept.faults two);
        write_faults = ap out.faults three;
      })

  module _ {L : Type 0} (gone : O → Bool) (wire : wires.Ghosts L) where
    -- a run for a task has ended as it should
    pub EndsAsAsked-lines : (wish : Wish) (query : Query) (end : CoresStatus) (line : List ℕ) (i i' : I) (c c' : C) (o o' : O) (l l' : L)
        → wish ≡ Asks query → CoresEnded source behind out gone (Asks query) end line i i' o o' → c' ≡ c → l' ≡ l
        → EndsAsAsked source behind kept beside out gone wire wish end line i i' c c' o o' l l'
    EndsAsAsked-lines wish query end line i i' c c' o o' l l' is h same stays = record {
      check = λ n f e. absurd (cc);
      stream = λ n f e. absurd (cc);
      watch = λ query e. absurd (cc);
      other = λ _ _ _. (subst (λ (w : Wish). CoresEnded source behind out gone w end line i i' o o') (sym is) h, same, stays);
    }

    -- a run that checks a certificate has ended as it should
    pub EndsAsAsked-check : (wish : Wish) (name : List ℕ) (graph : GraphText) (end : CoresStatus) (line : List ℕ) (i i' : I) (c c' : C) (o o' : O)
        (l l' : L) → wish ≡ Checks name graph → CheckEnded source behind kept beside out name graph end line i i' c c' o o' → l' ≡ l
        → EndsAsAsked source behind kept beside out gone wire wish end line i i' c c' o o' l l'
    EndsAsAsked-check wish name graph end line i i' c c' o o' l l' is h stays = record {
      check = λ n f e.
          let p : name ≡ n = cc in
          let q : graph ≡ f = cc in (
            subst (λ (x : List ℕ). CheckEnded source behind kept beside out x f end line i i' c c' o o') p
                (subst (λ (x : GraphText). CheckEnded source behind kept beside out name x end line i i' c c' o o') q h),
            stays,
          );
      stream = λ n f e. absurd (cc);
      watch = λ query e. absurd (cc);
      other = λ none _ _. absurd (none name graph is);
    }

    -- a run that checks a certificate for a stream has ended as it should
    pub EndsAsAsked-stream : (wish : Wish) (name : List ℕ) (files : List (List ℕ)) (end : CoresStatus) (line : List ℕ) (i i' : I) (c c' : C) (o o' : O)
        (l l' : L) → wish ≡ ChecksStream name files → StreamChecked source behind kept beside out name files end line i i' c c' o o' → l' ≡ l
        → EndsAsAsked source behind kept beside out gone wire wish end line i i' c c' o o' l l'
    EndsAsAsked-stream wish name files end line i i' c c' o o' l l' is h stays = record {
      check = λ n f e. absurd (cc);
      stream = λ n f e.
          let p : name ≡ n = cc in
          let q : files ≡ f = cc in (
            subst (λ (x : List ℕ). StreamChecked source behind kept beside out x f end line i i' c c' o o') p
                (subst (λ (x : List (List ℕ)). StreamChecked source behind kept beside out name x end line i i' c c' o o') q h),
            stays,
          );
      watch = λ query e. absurd (cc);
      other = λ _ none _. absurd (none name files is);
    }

    -- a run that answers a stream has ended as it should
    pub EndsAsAsked-watch : (wish : Wish) (query : StreamQuery) (end : CoresStatus) (line : List ℕ) (i i' : I) (c c' : C) (o o' : O) (l l' : L)
        → wish ≡ Watches query → WatchEnded source behind wire query end line i i' l l' → c' ≡ c → o' ≡ o
        → EndsAsAsked source behind kept beside out gone wire wish end line i i' c c' o o' l l'
    EndsAsAsked-watch wish query end line i i' c c' o o' l l' is h one two = record {
      check = λ n f e. absurd (cc);
      stream = λ n f e. absurd (cc);
      watch = λ asked e.
          let p : query ≡ asked = cc in
          (subst (λ (x : StreamQuery). WatchEnded source behind wire x end line i i' l l') p h, one, two);
      other = λ _ _ none. absurd (none query is);
    }

    -- a run that is a reply to its words has ended as it should
    pub EndsAsAsked-reply : (wish : Wish) (r : Reply) (end : CoresStatus) (line : List ℕ) (i i' : I) (c c' : C) (o o' : O) (l l' : L)
        → RepliesTo r wish → CoresEnded source behind out gone wish end line i i' o o' → c' ≡ c → l' ≡ l
        → (r ≡ reply.NoMemory → (end ≡ status.NoMemory) × (line ≡ no_memory_line) × (i' ≡ i) × (o' ≡ o))
        → EndsAsAsked source behind kept beside out gone wire wish end line i i' c c' o o' l l'
    EndsAsAsked-reply wish r end line i i' c c' o o' l l' replies h same stays memory = record {
      check = λ name graph e. (go r name graph (subst (RepliesTo r) e replies) memory, stays);
      stream = λ name files e. (sweep r name files (subst (RepliesTo r) e replies) memory, stays);
      watch = λ query e. stream r query (subst (RepliesTo r) e replies) memory;
      other = λ _ _ _. (h, same, stays);
    }
      where
        go : (r : Reply) (name : List ℕ) (graph : GraphText) → RepliesTo r (Checks name graph)
            → (r ≡ reply.NoMemory → (end ≡ status.NoMemory) × (line ≡ no_memory_line) × (i' ≡ i) × (o' ≡ o))
            → CheckEnded source behind kept beside out name graph end line i i' c c' o o'
        go (reply.Asked text) name graph replies memory = absurd replies
        go (reply.Mistake text) name graph replies memory = absurd replies
        go reply.NoMemory name graph replies memory =
            let (is, told, one, three) = memory refl in
            no_words name graph end line i i' c c' o o' is told one same three

        sweep : (r : Reply) (name : List ℕ) (files : List (List ℕ)) → RepliesTo r (ChecksStream name files)
            → (r ≡ reply.NoMemory → (end ≡ status.NoMemory) × (line ≡ no_memory_line) × (i' ≡ i) × (o' ≡ o))
            → StreamChecked source behind kept beside out name files end line i i' c c' o o'
        sweep (reply.Asked text) name files replies memory = absurd replies
        sweep (reply.Mistake text) name files replies memory = absurd replies
        sweep reply.NoMemory name files replies memory =
            let (is, told, one, three) = memory refl in
            StreamChecked-nothing source behind kept beside out name files end line i i' c c' o o' is told one same three

        stream : (r : Reply) (query : StreamQuery) → RepliesTo r (Watches query)
            → (r ≡ reply.NoMemory → (end ≡ status.NoMemory) × (line ≡ no_memory_line) × (i' ≡ i) × (o' ≡ o))
            → WatchEnded source behind wire query end line i i' l l' × (c' ≡ c) × (o' ≡ o)
        stream (reply.Asked text) query replies memory = absurd replies
        stream (reply.Mistake text) query replies memory = absurd replies
        stream reply.NoMemory query replies memory =
            let (is, told, one, three) = memory refl in
            (WatchEnded-nothing source behind wire query end line i i' l l' is told one stays, same, three)
