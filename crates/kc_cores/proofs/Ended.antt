-- A run keeps what `answer` promises: where `clap` replies, where there is no graph, where its lines were written, and where a write failed.
use Rattle.std.proofs.Common.{◌≡◌, ◌⊎◌, ◌≤◌, ◌∙◌, ◌++◌, ℕ, Bool, List, Option, Some, ap, inl, inr, length, refl, subst, take}
use Rattle.std.proofs.KnownBytes.{Appends-nil}
use Rattle.std.specs.Io.KnownBytes.{Appends, IsAtEnd}
use Rattle.kc_io.specs.Causes.{Rose}
use Rattle.kc_io.specs.declared.sink.Sink as sinks
use Rattle.kc_io.specs.declared.source.Source as sources
use Rattle.kc_graph.specs.Core.{AreCoreNumbers}
use Rattle.kc_graph.specs.SimpleGraph.{SimpleGraph}
use Rattle.kc_text.specs.declared.kind.Kind.{Kind}
use Rattle.kc_text.specs.Meaning.{Means, Refuses, Told}
use Rattle.kc_dialect.specs.declared.dialect.Dialect.{Dialect}
use Rattle.kc_dialect.specs.declared.skipped.SkippedLines.{SkippedLines}
use Rattle.kc_head.specs.declared.foreign.Foreign.{Foreign}
use Rattle.kc_wishes.specs.Wishes.{Asks, Query, Wish}
use Rattle.kc_cores.specs.Answers.{AreLinesFor, IsRefusedBy, graph_meaning, graph_names, labels_of, passed_over, summary_line}
use Rattle.kc_cores.specs.CoresEnded.{CoresEnded, FaultsAt, IsAnswerTo, IsLineAt, ReaderAt, TookAt, WriteFaultsAt, done_line, given_bytes}
use Rattle.kc_cores.specs.Endings.{CutAt, NoFileGraphAt}
use Rattle.kc_cores.specs.Inputs.{IsNamedGraphOf, known_bytes}
use Rattle.kc_cores.specs.Sentences.{told_foreign}
use Rattle.kc_cores.specs.Skips.{skipped_report, told_skips}
use Rattle.kc_cores.specs.declared.CoresStatus.{CoresStatus}
use Rattle.kc_cores.specs.declared.CoresStatus.TheVariants as status
use Rattle.kc_cores.proofs.Looked.{of_known}

-- words that ask for two queries ask for one
pub asked-same : (q p : Query) → Asks q ≡ Asks p → q ≡ p
asked-same q p e = cc

-- bytes do not both mean a graph and have a line that is refused
clash : (dialect : Option Dialect) (bytes : List ℕ) (told : Told) (n : ℕ) (kind : Kind) → graph_meaning dialect bytes ≡ Means told
    → graph_meaning dialect bytes ≡ Refuses n kind → ⊥
clash dialect bytes told n kind means refuses = absurd (cc)

-- bytes that have an answer are not refused
answer-clash : (query : Query) (known : Option (List ℕ)) (text summary bytes : List ℕ) (n : ℕ) (kind : Kind)
    → IsAnswerTo (Asks query) known text summary → known ≡ Some bytes → graph_meaning query.graph.dialect bytes ≡ Refuses n kind → ⊥
answer-clash query known text summary bytes n kind (all, read, (what, begins, is)) here refuses =
    clash query.graph.dialect all is.told n kind is.means (ap (graph_meaning query.graph.dialect) (of_known (λ b. all ≡ b) known bytes here read) ∙ refuses)

-- where the bytes of a task are refused, the run ends by the refusal, or before it
refuses-of : (end : CoresStatus) (query : Query) (known before after : Option (List ℕ)) (bytes : List ℕ) (n : ℕ) (kind : Kind)
    → (end ≡ status.Usage → ⊥) → TookAt end (Asks query) known before after → known ≡ Some bytes → graph_meaning query.graph.dialect bytes ≡ Refuses n kind
    → (end ≡ status.Refused) ⊎ (end ≡ status.Unopened) ⊎ (end ≡ status.ReadFault) ⊎ (end ≡ status.NoMemory)
refuses-of status.Done query known before after bytes n kind right (text, (summary, is), took) here refuses =
    absurd (answer-clash query known text summary bytes n kind is here refuses)
refuses-of status.WriteFault query known before after bytes n kind right (text, (summary, is), took) here refuses =
    absurd (answer-clash query known text summary bytes n kind is here refuses)
refuses-of status.ReaderGone query known before after bytes n kind right (text, (summary, is), took) here refuses =
    absurd (answer-clash query known text summary bytes n kind is here refuses)
refuses-of status.Shown query known before after bytes n kind right (text, reply, took) here refuses = absurd reply
refuses-of status.Usage query known before after bytes n kind right took here refuses = absurd (right refl)
refuses-of status.Refused query known before after bytes n kind right took here refuses = inl refl
refuses-of status.Unopened query known before after bytes n kind right took here refuses = inr (inl refl)
refuses-of status.ReadFault query known before after bytes n kind right took here refuses = inr (inr (inl refl))
refuses-of status.NoMemory query known before after bytes n kind right took here refuses = inr (inr (inr refl))
refuses-of status.Certified query known before after bytes n kind right took here refuses = absurd took
refuses-of status.Uncertified query known before after bytes n kind right took here refuses = absurd took

-- where the bytes of a task mean a graph, the run is not refused
complete-of : (end : CoresStatus) (query : Query) (known before after : Option (List ℕ)) (line bytes : List ℕ) (told : Told)
    → (end ≡ status.Usage → ⊥) → TookAt end (Asks query) known before after → IsLineAt end (Asks query) known line → known ≡ Some bytes
    → graph_meaning query.graph.dialect bytes ≡ Means told
    → (end ≡ status.Done) ⊎ (end ≡ status.Unopened) ⊎ (end ≡ status.ReadFault) ⊎ (end ≡ status.ReaderGone)
    ⊎ (end ≡ status.WriteFault) ⊎ (end ≡ status.NoMemory)
complete-of status.Done query known before after line bytes told right took says here means = inl refl
complete-of status.Unopened query known before after line bytes told right took says here means = inr (inl refl)
complete-of status.ReadFault query known before after line bytes told right took says here means = inr (inr (inl refl))
complete-of status.ReaderGone query known before after line bytes told right took says here means = inr (inr (inr (inl refl)))
complete-of status.WriteFault query known before after line bytes told right took says here means = inr (inr (inr (inr (inl refl))))
complete-of status.NoMemory query known before after line bytes told right took says here means = inr (inr (inr (inr (inr refl))))
complete-of status.Certified query known before after line bytes told right took says here means = absurd took
complete-of status.Uncertified query known before after line bytes told right took says here means = absurd took
complete-of status.Usage query known before after line bytes told right took says here means = absurd (right refl)
complete-of status.Shown query known before after line bytes told right (text, reply, took) says here means = absurd reply
complete-of status.Refused query known before after line bytes told right took (asked, refusal, same, is, refuses) here means =
    let q : query ≡ asked = asked-same query asked same in
    let refused = of_known (λ b. IsRefusedBy asked.graph.dialect b refusal) known bytes here refuses in
    absurd (clash query.graph.dialect bytes told refusal.placed.refusal.line refusal.placed.refusal.kind means
    (ap (λ (x : Query). graph_meaning x.graph.dialect bytes) q ∙ refused.0))

-- the graph of the bytes that were read has these lines and this summary
pub IsAnswerTo-graph : (query : Query) (ids core text summary : List ℕ) (called : Option (List (List ℕ))) (g : SimpleGraph) (skipped : SkippedLines)
    (what : Option Foreign) (known : Option (List ℕ)) → IsNamedGraphOf query.graph.dialect known ids called g skipped what → AreCoreNumbers g core
    → AreLinesFor query.format query.task (labels_of called ids) g core text
    → summary ≡ told_foreign query.graph.file what ++ (told_skips query.graph.file skipped.count skipped.first.items ++ summary_line g core)
    → IsAnswerTo (Asks query) known text summary
IsAnswerTo-graph query ids core text summary called g skipped what known named numbers lines sums =
    let graph = named.graph in
    let remark : List ℕ = told_foreign query.graph.file what in (
      graph.bytes,
      graph.read,
      (
        what,
        named.begins,
        record {
          told = graph.told;
          means = graph.means;
          ids = ids;
          named = graph.named;
          core = core;
          numbers = subst (λ (h : SimpleGraph). AreCoreNumbers h core) graph.is numbers;
          is = subst (λ (h : SimpleGraph). AreLinesFor query.format query.task (labels_of (graph_names query.graph.dialect graph.bytes) ids) h core text)
              graph.is
              (subst (λ (names : Option (List (List ℕ))). AreLinesFor query.format query.task (labels_of names ids) g core text) named.names lines);
          sums = sums ∙ (λ i. remark ++ (told_skips query.graph.file (graph.passed.count i) (graph.passed.first i) ++ summary_line g core))
              ∙ ap (λ (h : SimpleGraph). remark ++ (skipped_report query.graph.file (passed_over query.graph.dialect graph.bytes) ++ summary_line h core))
              graph.is;
        },
      ),
    )

module _ {I O : Type 0} (source : sources.Ghosts I) (behind : I → List ℕ → Option (List ℕ)) (out : sinks.Ghosts O) (gone : O → Bool) where
  -- what a run for a task has to show
  record Shows (query : Query) (end : CoresStatus) (line : List ℕ) (i i' : I) (o o' : O) : Type 0 where
    right : end ≡ status.Usage → ⊥
    asked : end ≡ status.Shown → ⊥
    read : end ≡ status.Done → IsAtEnd (source.left i')
    took : TookAt end (Asks query) (known_bytes source.left behind query.graph.file i) (out.taken o) (out.taken o')
    says : IsLineAt end (Asks query) (known_bytes source.left behind query.graph.file i) line
    faults : FaultsAt end (source.faults i) (source.faults i')
    write_faults : WriteFaultsAt end (out.faults o) (out.faults o')
    reader : ReaderAt end (gone o')

  -- a run for a task that shows so much has ended as it should
  CoresEnded-asks : (query : Query) (end : CoresStatus) (line : List ℕ) (i i' : I) (o o' : O)
      → Shows query end line i i' o o' → CoresEnded source behind out gone (Asks query) end line i i' o o'
  CoresEnded-asks query end line i i' o o' h = record {
    usage = λ e. absurd (h.right e);
    shown = λ e. absurd (h.asked e);
    replies = λ kinds e. absurd (cc);
    read = h.read;
    took = h.took;
    line = h.says;
    faults = h.faults;
    write_faults = h.write_faults;
    reader = h.reader;
    refuses = λ q bytes n kind asks here refuses.
        refuses-of end query (known_bytes source.left behind query.graph.file i) (out.taken o) (out.taken o') bytes n kind h.right h.took
        (ap (λ (w : Wish). given_bytes source.left behind w i) asks ∙ here)
        (ap (λ (x : Query). graph_meaning x.graph.dialect bytes) (asked-same query q asks) ∙ refuses);
    complete = λ q bytes told asks here means.
        complete-of end query (known_bytes source.left behind query.graph.file i) (out.taken o) (out.taken o') line bytes told h.right h.took h.says
        (ap (λ (w : Wish). given_bytes source.left behind w i) asks ∙ here)
        (ap (λ (x : Query). graph_meaning x.graph.dialect bytes) (asked-same query q asks) ∙ means);
  }

  -- a run whose lines were taken has ended as it should
  pub CoresEnded-done : (query : Query) (text summary : List ℕ) (i i' : I) (o o' : O)
      → IsAnswerTo (Asks query) (known_bytes source.left behind query.graph.file i) text summary → IsAtEnd (source.left i')
      → source.faults i' ≡ source.faults i → Appends (out.taken o) (out.taken o') text → out.faults o' ≡ out.faults o
      → CoresEnded source behind out gone (Asks query) status.Done (done_line query.quiet summary) i i' o o'
  CoresEnded-done query text summary i i' o o' answer ended faultless took kept =
      CoresEnded-asks query status.Done (done_line query.quiet summary) i i' o o' (record {
        right = λ e. absurd (cc);
        asked = λ e. absurd (cc);
        read = λ _. ended;
        took = (text, (summary, answer), took);
        says = (text, summary, answer, refl);
        faults = faultless;
        write_faults = kept;
        reader = tt;
      })

  -- a run a prefix of whose lines was taken has ended as it should
  pub CoresEnded-cut : (query : Query) (text summary : List ℕ) (end : CoresStatus) (line : List ℕ) (i i' : I) (o o' : O)
      → IsAnswerTo (Asks query) (known_bytes source.left behind query.graph.file i) text summary → source.faults i' ≡ source.faults i
      → ((n : ℕ) × (n ≤ length text) × Appends (out.taken o) (out.taken o') (take n text))
      → Rose (out.faults o) (out.faults o') → CutAt end line (gone o')
      → CoresEnded source behind out gone (Asks query) end line i i' o o'
  CoresEnded-cut query text summary status.WriteFault line i i' o o' answer faultless took rose (is, stays) =
      CoresEnded-asks query status.WriteFault line i i' o o' (record {
        right = λ e. absurd (cc);
        asked = λ e. absurd (cc);
        read = λ e. absurd (cc);
        took = (text, (summary, answer), took);
        says = is;
        faults = faultless;
        write_faults = rose;
        reader = stays;
      })
  CoresEnded-cut query text summary status.ReaderGone line i i' o o' answer faultless took rose (is, left) =
      CoresEnded-asks query status.ReaderGone line i i' o o' (record {
        right = λ e. absurd (cc);
        asked = λ e. absurd (cc);
        read = λ e. absurd (cc);
        took = (text, (summary, answer), took);
        says = is;
        faults = faultless;
        write_faults = rose;
        reader = left;
      })
  CoresEnded-cut query text summary status.Done line i i' o o' answer faultless took rose h = absurd h
  CoresEnded-cut query text summary status.Certified line i i' o o' answer faultless took rose h = absurd h
  CoresEnded-cut query text summary status.Uncertified line i i' o o' answer faultless took rose h = absurd h
  CoresEnded-cut query text summary status.Shown line i i' o o' answer faultless took rose h = absurd h
  CoresEnded-cut query text summary status.Usage line i i' o o' answer faultless took rose h = absurd h
  CoresEnded-cut query text summary status.Refused line i i' o o' answer faultless took rose h = absurd h
  CoresEnded-cut query text summary status.Unopened line i i' o o' answer faultless took rose h = absurd h
  CoresEnded-cut query text summary status.ReadFault line i i' o o' answer faultless took rose h = absurd h
  CoresEnded-cut query text summary status.NoMemory line i i' o o' answer faultless took rose h = absurd h

  -- a run that has no graph has ended as it should
  pub CoresEnded-no_graph : (query : Query) (end : CoresStatus) (line : List ℕ) (i i' : I) (o : O)
      → NoFileGraphAt end line query.graph (known_bytes source.left behind query.graph.file i) (source.faults i) (source.faults i')
      → CoresEnded source behind out gone (Asks query) end line i i' o o
  CoresEnded-no_graph query status.Unopened line i i' o (name, fault, is, told, rose) =
      CoresEnded-asks query status.Unopened line i i' o o (record {
        right = λ e. absurd (cc);
        asked = λ e. absurd (cc);
        read = λ e. absurd (cc);
        took = Appends-nil (out.taken o);
        says = (query, name, fault, refl, is, told);
        faults = rose;
        write_faults = refl;
        reader = tt;
      })
  CoresEnded-no_graph query status.Refused line i i' o (refusal, is, means, kept) =
      CoresEnded-asks query status.Refused line i i' o o (record {
        right = λ e. absurd (cc);
        asked = λ e. absurd (cc);
        read = λ e. absurd (cc);
        took = Appends-nil (out.taken o);
        says = (query, refusal, refl, is, means);
        faults = kept;
        write_faults = refl;
        reader = tt;
      })
  CoresEnded-no_graph query status.ReadFault line i i' o (is, rose) =
      CoresEnded-asks query status.ReadFault line i i' o o (record {
        right = λ e. absurd (cc);
        asked = λ e. absurd (cc);
        read = λ e. absurd (cc);
        took = Appends-nil (out.taken o);
        says = is;
        faults = rose;
        write_faults = refl;
        reader = tt;
      })
  CoresEnded-no_graph query status.NoMemory line i i' o (is, kept) =
      CoresEnded-asks query status.NoMemory line i i' o o (record {
        right = λ e. absurd (cc);
        asked = λ e. absurd (cc);
        read = λ e. absurd (cc);
        took = Appends-nil (out.taken o);
        says = is;
        faults = kept;
        write_faults = refl;
        reader = tt;
      })
  CoresEnded-no_graph query status.Done line i i' o h = absurd h
  CoresEnded-no_graph query status.Shown line i i' o h = absurd h
  CoresEnded-no_graph query status.Usage line i i' o h = absurd h
  CoresEnded-no_graph query status.WriteFault line i i' o h = absurd h
  CoresEnded-no_graph query status.Certified line i i' o h = absurd h
  CoresEnded-no_graph query status.Uncertified line i i' o h = absurd h
  CoresEnded-no_graph query status.ReaderGone line i i' o h = absurd h
