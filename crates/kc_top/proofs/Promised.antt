-- A run keeps what `run` promises where it stops before its text, where it has written it, and where it has not got so far.
use Rattle.std.proofs.Common.{◌≡◌, ◌≢◌, ◌⊎◌, ◌≤◌, ◌∙◌, ℕ, List, [], Option, Result, Ok, Err, Some, None, IfSome, IsErrAnd, arith, ap, false, inl, inr}
use Rattle.std.proofs.Common.{length, refl, subst, sym, take, true}
use Rattle.std.specs.Prelude.{is_some}
use Rattle.std.specs.Io.KnownBytes.{Appends, IsAtEnd}
use Rattle.std.proofs.KnownBytes.{Appends-nil}
use Rattle.kc_io.specs.Causes.{Rose}
use Rattle.kc_io.specs.FirstPiece.{KeepsFirst}
use Rattle.kc_io.specs.declared.sink.Sink as sinks
use Rattle.kc_io.specs.declared.source.Source as sources
use Rattle.kc_text.specs.declared.kind.Kind.{Kind}
use Rattle.kc_text.specs.declared.limits.TheConstants.Limits.{KCORE}
use Rattle.kc_text.specs.Meaning.{Means, Refuses, Told, meaning}
use Rattle.kc_run.specs.declared.ran.Ran.{Ran}
use Rattle.kc_output.specs.declared.setting.Setting.{Setting}
use Rattle.kc_top.specs.EndedFor.{EndedFor, ToldEnd}
use Rattle.kc_top.specs.ErrLines.{IsErrLine, OfferedLine, TookLine}
use Rattle.kc_top.specs.Faults.{RoseOnlyAt}
use Rattle.kc_top.specs.Given.{given, reads}
use Rattle.kc_top.specs.Leaving.{AnswersInput, RunLeaves}
use Rattle.kc_top.specs.Outcome.{IsAnswer, Offered, Took}
use Rattle.kc_top.specs.Stops.{HasNoText, ended, status_of, stop_line}
use Rattle.kc_top.specs.declared.Status.{Status}
use Rattle.kc_top.specs.declared.Status.TheVariants as status
use Rattle.kc_top.specs.declared.ending.Stop.{Stop}
use Rattle.kc_top.specs.declared.ending.Stop.TheVariants as stop
use Rattle.kc_top.proofs.Stopping.{IsAnswer-of, RoseOnlyAt-read, RoseOnlyAt-write, RunLeaves-nothing, TookSome-nothing, Took-nothing}

-- these bytes are refused
abbrev AreRefused : List ℕ → Type 0
AreRefused bytes = (n : ℕ) × (kind : Kind) × (meaning KCORE bytes ≡ Refuses n kind)

-- bytes are not both an input and refused
clash : (bytes : List ℕ) (told : Told) (n : ℕ) (kind : Kind) → meaning KCORE bytes ≡ Means told → meaning KCORE bytes ≡ Refuses n kind → ⊥
clash bytes told n kind means refuses = absurd (cc)

-- bytes that have an answer are an input
answer-means : (asked : Option Setting) (input : Option (List ℕ)) (text bytes : List ℕ) → IsAnswer asked input text → input ≡ Some bytes
    → (told : Told) × (meaning KCORE bytes ≡ Means told)
answer-means asked input text bytes a known =
    let same : a.bytes ≡ bytes = subst (λ (i : Option (List ℕ)). IfSome i (λ all. a.bytes ≡ all)) known a.read in
    (a.is.told, ap (meaning KCORE) (sym same) ∙ a.is.means)

-- a run at right words whose input is refused ends by the refusal, or before it
refuses-of : (end : Status) (asked : Option Setting) (input before after : Option (List ℕ)) (bytes : List ℕ) (n : ℕ) (kind : Kind)
    → (end ≡ status.Usage → ⊥) → Took end asked input before after → input ≡ Some bytes → meaning KCORE bytes ≡ Refuses n kind
    → (end ≡ status.Refused) ⊎ (end ≡ status.ReadFault) ⊎ (end ≡ status.NoMemory)
refuses-of status.Done asked input before after bytes n kind right took known refuses =
    let (told, means) = answer-means asked input took.text bytes took.answer known in absurd (clash bytes told n kind means refuses)
refuses-of status.WriteFault asked input before after bytes n kind right took known refuses =
    let (told, means) = answer-means asked input took.text bytes took.answer known in absurd (clash bytes told n kind means refuses)
refuses-of status.Usage asked input before after bytes n kind right took known refuses = absurd (right refl)
refuses-of status.Refused asked input before after bytes n kind right took known refuses = inl refl
refuses-of status.ReadFault asked input before after bytes n kind right took known refuses = inr (inl refl)
refuses-of status.NoMemory asked input before after bytes n kind right took known refuses = inr (inr refl)

-- a run at right words whose input is right is not refused
complete-of : (end : Status) (input : Option (List ℕ)) (bytes : List ℕ) (told : Told) → (end ≡ status.Usage → ⊥)
    → (end ≡ status.Refused → IfSome input AreRefused) → input ≡ Some bytes → meaning KCORE bytes ≡ Means told
    → (end ≡ status.Done) ⊎ (end ≡ status.ReadFault) ⊎ (end ≡ status.WriteFault) ⊎ (end ≡ status.NoMemory)
complete-of status.Done input bytes told right refused known means = inl refl
complete-of status.ReadFault input bytes told right refused known means = inr (inl refl)
complete-of status.WriteFault input bytes told right refused known means = inr (inr (inl refl))
complete-of status.NoMemory input bytes told right refused known means = inr (inr (inr refl))
complete-of status.Usage input bytes told right refused known means = absurd (right refl)
complete-of status.Refused input bytes told right refused known means =
    let (n, kind, refuses) = subst (λ (i : Option (List ℕ)). IfSome i AreRefused) known (refused refl) in absurd (clash bytes told n kind means refuses)

-- a run without a text has not ended by wrong words
not_usage : (x : Stop) (input : Option (List ℕ)) (f f' : ℕ) → HasNoText x input f f' → status_of x ≡ status.Usage → ⊥
not_usage (stop.Refused line) input f f' h e = absurd (cc)
not_usage stop.ReadFault input f f' h e = absurd (cc)
not_usage stop.NoMemory input f f' h e = absurd (cc)
not_usage stop.Usage input f f' h e = absurd h
not_usage stop.WriteFault input f f' h e = absurd h

-- a run that stops is not done
not_done : (x : Stop) → status_of x ≡ status.Done → ⊥
not_done (stop.Refused line) e = absurd (cc)
not_done stop.ReadFault e = absurd (cc)
not_done stop.NoMemory e = absurd (cc)
not_done stop.Usage e = absurd (cc)
not_done stop.WriteFault e = absurd (cc)

-- where there is no text, nothing was offered
offered-nothing : (x : Stop) (asked : Option Setting) (input : Option (List ℕ)) (first : Option ℕ) (f f' : ℕ) → HasNoText x input f f'
    → Offered (status_of x) asked input first first
offered-nothing (stop.Refused line) asked input first f f' h = refl
offered-nothing stop.ReadFault asked input first f f' h = refl
offered-nothing stop.NoMemory asked input first f f' h = refl
offered-nothing stop.Usage asked input first f f' h = absurd h
offered-nothing stop.WriteFault asked input first f f' h = absurd h

-- bytes that are refused with this line are refused
are-refused : (input : Option (List ℕ)) (n : ℕ) (kind : Kind) → IfSome input (λ bytes. meaning KCORE bytes ≡ Refuses n kind) → IfSome input AreRefused
are-refused None n kind h = tt
are-refused (Some bytes) n kind h = (n, kind, h)

-- a run that ends by a refusal has an input that is refused
refused-nothing : (x : Stop) (input : Option (List ℕ)) (f f' : ℕ) → HasNoText x input f f' → status_of x ≡ status.Refused → IfSome input AreRefused
refused-nothing (stop.Refused line) input f f' (n, kind, told, means, kept) e = are-refused input n kind means
refused-nothing stop.ReadFault input f f' h e = absurd (cc)
refused-nothing stop.NoMemory input f f' h e = absurd (cc)
refused-nothing stop.Usage input f f' h e = absurd h
refused-nothing stop.WriteFault input f f' h e = absurd h

module _ {S O : Type 0} (source : sources.Ghosts S) (out : sinks.Ghosts O) where
  -- what a run at right words has to show
  record Shows (setting : Setting) (end : Status) (s s' : S) (o o' : O) (r r' : Ran) : Type 0 where
    right : end ≡ status.Usage → ⊥
    unread : reads (Some setting) ≡ false → s' ≡ s
    read : end ≡ status.Done → reads (Some setting) ≡ true → IsAtEnd (source.left s')
    took : Took end (Some setting) (given (Some setting) (source.left s)) (out.taken o) (out.taken o')
    offered : Offered end (Some setting) (given (Some setting) (source.left s)) (out.first o) (out.first o')
    ran : RunLeaves end (Some setting) (given (Some setting) (source.left s)) (out.taken o) (out.taken o') r r'
    read_fault : RoseOnlyAt status.ReadFault end (source.faults s) (source.faults s')
    write_fault : RoseOnlyAt status.WriteFault end (out.faults o) (out.faults o')
    refused : end ≡ status.Refused → IfSome (given (Some setting) (source.left s)) AreRefused
    accepted : is_some setting.generator ≡ true → (end ≡ status.Done) ⊎ (end ≡ status.WriteFault) ⊎ (end ≡ status.NoMemory)

  -- a run at right words that shows so much has ended as it should
  EndedFor-right : (setting : Setting) (end : Status) (s s' : S) (o o' : O) (r r' : Ran) → Shows setting end s s' o o' r r'
      → EndedFor source out (Some setting) end s s' o o' r r'
  EndedFor-right setting end s s' o o' r r' h = record {
    usage = λ e. absurd (h.right e);
    wrong_words = λ e. absurd (cc);
    unread = h.unread;
    read = h.read;
    took = h.took;
    offered = h.offered;
    ran = h.ran;
    read_fault = h.read_fault;
    write_fault = h.write_fault;
    refused = h.refused;
    refuses = λ x bytes n kind asks known refuses.
        refuses-of end (Some setting) (given (Some setting) (source.left s)) (out.taken o) (out.taken o') bytes n kind h.right h.took
        (ap (λ (a : Option Setting). given a (source.left s)) asks ∙ known) refuses;
    complete = λ x bytes told asks known means.
        complete-of end (given (Some setting) (source.left s)) bytes told h.right h.refused
        (ap (λ (a : Option Setting). given a (source.left s)) asks ∙ known) means;
    accepted = λ x asks generated. h.accepted (let same : setting ≡ x = cc in subst (λ (y : Setting). is_some y.generator ≡ true) (sym same) generated);
  }

  -- a run that stops before its text has ended as it should
  pub EndedFor-without_text : (setting : Setting) (x : Stop) (s s' : S) (o : O) (r r' : Ran) → (reads (Some setting) ≡ false → s' ≡ s)
      → (is_some setting.generator ≡ true → x ≡ stop.NoMemory) → HasNoText x (given (Some setting) (source.left s)) (source.faults s) (source.faults s')
      → (x ≢ stop.NoMemory → r' ≡ r) → EndedFor source out (Some setting) (status_of x) s s' o o r r'
  EndedFor-without_text setting x s s' o r r' unread accepted stopped untouched =
      let input : Option (List ℕ) = given (Some setting) (source.left s) in
      EndedFor-right setting (status_of x) s s' o o r r' (record {
        right = not_usage x input (source.faults s) (source.faults s') stopped;
        unread = unread;
        read = λ e. absurd (not_done x e);
        took = Took-nothing x (Some setting) input (out.taken o) (out.taken o) (source.faults s) (source.faults s') stopped (Appends-nil (out.taken o));
        offered = offered-nothing x (Some setting) input (out.first o) (source.faults s) (source.faults s') stopped;
        ran = RunLeaves-nothing x (Some setting) input (out.taken o) (out.taken o) r r' (source.faults s) (source.faults s') stopped untouched;
        read_fault = RoseOnlyAt-read x input (source.faults s) (source.faults s') stopped;
        write_fault = RoseOnlyAt-write x input (source.faults s) (source.faults s') (out.faults o) stopped;
        refused = refused-nothing x input (source.faults s) (source.faults s') stopped;
        accepted = λ generated. inr (inr (ap status_of (accepted generated)));
      })

  -- a run whose whole text was taken has ended as it should
  pub EndedFor-done : (setting : Setting) (text : List ℕ) (s s' : S) (o o' : O) (r r' : Ran) → (reads (Some setting) ≡ false → s' ≡ s)
      → (reads (Some setting) ≡ true → IsAtEnd (source.left s')) → source.faults s' ≡ source.faults s
      → AnswersInput (Some setting) (given (Some setting) (source.left s)) text r' → Appends (out.taken o) (out.taken o') text
      → KeepsFirst (out.first o) (out.first o') text → out.faults o' ≡ out.faults o
      → EndedFor source out (Some setting) status.Done s s' o o' r r'
  EndedFor-done setting text s s' o o' r r' unread read faultless answers took first kept =
      let answer = IsAnswer-of (Some setting) (given (Some setting) (source.left s)) text r' answers in
      EndedFor-right setting status.Done s s' o o' r r' (record {
        right = λ e. absurd (cc);
        unread = unread;
        read = λ _. read;
        took = record { text = text; answer = answer; took = took };
        offered = record { text = text; answer = answer; first = first };
        ran = record { text = text; answers = answers; took = took };
        read_fault = record { rose = λ e. absurd (cc); kept = λ _. faultless };
        write_fault = record { rose = λ e. absurd (cc); kept = λ _. kept };
        refused = λ e. absurd (cc);
        accepted = λ _. inl refl;
      })

  -- a run a prefix of whose text was taken has ended as it should
  pub EndedFor-cut : (setting : Setting) (text : List ℕ) (s s' : S) (o o' : O) (r r' : Ran) → (reads (Some setting) ≡ false → s' ≡ s)
      → source.faults s' ≡ source.faults s → AnswersInput (Some setting) (given (Some setting) (source.left s)) text r'
      → ((n : ℕ) × (n ≤ length text) × Appends (out.taken o) (out.taken o') (take n text))
      → KeepsFirst (out.first o) (out.first o') text → Rose (out.faults o) (out.faults o')
      → EndedFor source out (Some setting) status.WriteFault s s' o o' r r'
  EndedFor-cut setting text s s' o o' r r' unread faultless answers (n, within, took) first rose =
      let answer = IsAnswer-of (Some setting) (given (Some setting) (source.left s)) text r' answers in
      EndedFor-right setting status.WriteFault s s' o o' r r' (record {
        right = λ e. absurd (cc);
        unread = unread;
        read = λ e. absurd (cc);
        took = record { text = text; answer = answer; amount = n; within = within; took = took };
        offered = record { text = text; answer = answer; first = first };
        ran = record { text = text; answers = answers; amount = n; within = within; took = took };
        read_fault = record { rose = λ e. absurd (cc); kept = λ _. faultless };
        write_fault = record { rose = λ _. rose; kept = λ e. absurd (e refl) };
        refused = λ e. absurd (cc);
        accepted = λ _. inr (inl refl);
      })

  -- a run without memory for its words has ended as it should, where nothing has changed
  pub EndedFor-no_memory : (asked : Option Setting) (s : S) (o : O) (r : Ran) → EndedFor source out asked status.NoMemory s s o o r r
  EndedFor-no_memory asked s o r = record {
    usage = λ e. absurd (cc);
    wrong_words = λ _. inr refl;
    unread = λ _. refl;
    read = λ e. absurd (cc);
    took = TookSome-nothing asked (given asked (source.left s)) (out.taken o) (out.taken o) (Appends-nil (out.taken o));
    offered = refl;
    ran = tt;
    read_fault = record { rose = λ e. absurd (cc); kept = λ _. refl };
    write_fault = record { rose = λ e. absurd (cc); kept = λ _. refl };
    refused = λ e. absurd (cc);
    refuses = λ _ _ _ _ _ _ _. inr (inr refl);
    complete = λ _ _ _ _ _ _. inr (inr (inr refl));
    accepted = λ _ _ _. inr (inr refl);
  }

  -- a run for wrong words has ended as it should, where nothing has changed
  pub EndedFor-wrong_words : (asked : Option Setting) (s : S) (o : O) (r : Ran) → asked ≡ None → EndedFor source out asked status.Usage s s o o r r
  EndedFor-wrong_words asked s o r wrong = record {
    usage = λ _. wrong;
    wrong_words = λ _. inl refl;
    unread = λ _. refl;
    read = λ e. absurd (cc);
    took = Appends-nil (out.taken o);
    offered = refl;
    ran = refl;
    read_fault = record { rose = λ e. absurd (cc); kept = λ _. refl };
    write_fault = record { rose = λ e. absurd (cc); kept = λ _. refl };
    refused = λ e. absurd (cc);
    refuses = λ _ _ _ _ asks _ _. absurd (cc);
    complete = λ _ _ _ asks _ _. absurd (cc);
    accepted = λ _ asks _. absurd (cc);
  }

  -- what holds of the status of a stop holds of a run that stopped by it
  pub EndedFor-stopped : (asked : Option Setting) (result : Result (Unit {0}) Stop) (x : Stop) (s s' : S) (o o' : O) (r r' : Ran)
      → IsErrAnd result (λ e. e ≡ x) → EndedFor source out asked (status_of x) s s' o o' r r' → EndedFor source out asked (ended result) s s' o o' r r'
  EndedFor-stopped asked (Ok u) x s s' o o' r r' is h = absurd is
  EndedFor-stopped asked (Err e) x s s' o o' r r' is h = subst (λ (y : Stop). EndedFor source out asked (status_of y) s s' o o' r r') (sym is) h

module _ {E : Type 0} (err : sinks.Ghosts E) where
  -- of a run that is done nothing is told
  pub ToldEnd-done : (input : Option (List ℕ)) (e e' : E) → e' ≡ e → ToldEnd err input status.Done e e'
  ToldEnd-done input e e' same = subst (ToldEnd err input status.Done e) (sym same) (record {
    quiet = λ _. refl;
    line = [];
    is = refl;
    took = record { amount = 0; within = omega arith; took = Appends-nil (err.taken e); whole = λ _. refl };
    offered = refl;
  })

  -- of a run that stopped its line is told
  pub ToldEnd-stopped : (input : Option (List ℕ)) (x : Stop) (e e' e'' : E) → e' ≡ e → IsErrLine (status_of x) input (stop_line x)
      → TookLine (err.taken e') (err.taken e'') (err.faults e') (err.faults e'') (stop_line x)
      → OfferedLine (status_of x) (err.first e') (err.first e'') (stop_line x) → ToldEnd err input (status_of x) e e''
  ToldEnd-stopped input x e e' e'' same is took offered = subst (λ (d : E). ToldEnd err input (status_of x) d e'') same (record {
    quiet = λ done. absurd (not_done x done);
    line = stop_line x;
    is = is;
    took = took;
    offered = offered;
  })
