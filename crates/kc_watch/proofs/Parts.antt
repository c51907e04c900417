-- A part of a stream that ends: the start, or a batch.
use Rattle.std.proofs.Common.{◌≡◌, ◌≤◌, arith, ℕ, Bool, true, cond, List, [], ◌∷◌, append-nil, length, take, refl, sym, ap, ap₂, ◌∙◌, subst, Option, Some, None}
use Rattle.std.specs.Prelude.{is_some, map, unwrap_or}
use Rattle.std.specs.FinSet as set
use Rattle.std.proofs.Math.Seq.{take-append_seam}
use Rattle.std.specs.List.{filter_map}
use Rattle.kc_graph.specs.SimpleGraph.{SimpleGraph}
use Rattle.kc_lists.specs.Lists.{Distinct}
use Rattle.kc_text.specs.declared.change.ChangeLine.{ChangeLine}
use Rattle.kc_text.specs.declared.line.TextLine.TheVariants as said
use Rattle.kc_text.specs.Deciding.{last_batch}
use Rattle.kc_text.specs.Inputs.{AreAmong, AreUpdates, EdgeBatch, numbered, start_graph}
use Rattle.kc_text.specs.Meaning.{Told, batches, ends, ends_of, with_line}
use Rattle.kc_answers.specs.Answers.{answer_to}
use Rattle.kc_stream.specs.Gathering.{Holds}
use Rattle.kc_stream.specs.Ids.{ids_of, with_names}
use Rattle.kc_stream.specs.declared.gathered.Gathered.{Gathered}
use Rattle.kc_stream.specs.declared.question.Question.{Question}
use Rattle.kc_stream.proofs.Holding.{some-from}
use Rattle.kc_watch.specs.Accounts.{Account, account_of, batch_behind, core_numbers_of, entered, graph_with, layers_of, one_ended, with_batch}
use Rattle.kc_watch.specs.Endings.{IsAccountBefore}
use Rattle.kc_reply.specs.Facts as fact
use Rattle.kc_reply.specs.Texts.{fact_text}
use Rattle.kc_watch.specs.Text.{answer_in, batch_text, open_text, part_facts, question_answer, start_line, told_in}
use Rattle.kc_watch.specs.Watching.{KeepsAccount, graph_gathered}
use Rattle.kc_watch.specs.declared.kept.Kept.{Kept}
use Rattle.kc_watch.specs.declared.options.WatchOptions.{WatchOptions}
use Rattle.kc_watch.proofs.Accounts.{account-batch, account-size, batch-made, ids-are, ids-grown, ids-once, no-batches, nothing-changes, vertices-few}

-- of the ids that were named, those that were known behind the batches that have ended
pub named-known : (ids : List ℕ) (told : Told) (kept : Kept) (ended : ℕ) → ids ≡ ids_of told → KeepsAccount (Some kept) ended told
    → take kept.keeper.graph.size ids ≡ (account_of told.edges told.earlier).ids
named-known ids told kept ended named (some, graph, count) =
    let (more, is) = ids-grown told some in
    let account : Account = account_of told.edges told.earlier in
    let size : kept.keeper.graph.size ≡ length account.ids =
    ap (λ (g : SimpleGraph). g.size) graph ∙ account-size told.edges told.earlier in
    ap₂ (λ (n : ℕ) (l : List ℕ). take n l) size (named ∙ is) ∙ take-append_seam account.ids more

module _ (gathered : Gathered) (told : Told) (h : Holds gathered told) where
  -- the graph of the start is the one that was gathered
  start-graph : told.last ≡ None → start_graph (with_names [] (ends told.edges)) told.edges ≡ graph_gathered gathered
  unfolding start_graph
  start-graph last =
      let none : batches told ≡ [] = no-batches told last (h.begun last) in
      let ids : with_names [] (ends told.edges) ≡ gathered.ids = ap (λ (bs : List (List ChangeLine)). (account_of told.edges bs).ids) (sym none) ∙ ids-are told
      ∙ sym h.ids in
      ap₂ (λ (l : List ℕ) (es : List (ℕ × ℕ)). let g : SimpleGraph = record { size = length l; edges = set.from_list es } in g) ids
      (ap (λ (l : List ℕ). filter_map (numbered l) told.edges) ids ∙ sym (h.edges last))

  -- the account of the start, as it ends
  start-account : told.last ≡ None → account_of told.edges (batches told) ≡ account_of told.edges []
  start-account last = ap (account_of told.edges) (no-batches told last (h.begun last))

  -- the graph of the start is kept
  pub start-keeps : (kept : Kept) (ended : ℕ) → KeepsAccount None ended told → kept.keeper.graph ≡ graph_gathered gathered
      → KeepsAccount (Some kept) ended (with_line told said.Batch)
  start-keeps kept ended (last, count) graph = (
    refl,
    graph ∙ sym (start-graph last) ∙ ap (λ (a : Account). a.graph) (sym (start-account last)),
    count ∙ ap (λ (a : Account). a.ended) (sym (start-account last)),
  )

  -- its line is the text of the start
  pub start-text : (options : WatchOptions) (ended : ℕ) → KeepsAccount None ended told
      → open_text options told ≡ fact_text options.format (fact.Summary (start_line (graph_gathered gathered)))
  start-text options ended (last, count) =
      let text : SimpleGraph → List ℕ = λ g. fact_text options.format (fact.Summary (start_line g)) in
      ap (λ (l : Option (List ChangeLine)). told_in options (part_facts options told.edges told.earlier l)) last
      ∙ append-nil (text (account_of told.edges []).graph) ∙ ap text (start-graph last)

  -- what is made of the batch that is open and of the account behind it
  batch-parts : {X : Type 0} (make : EdgeBatch → Account → X) (cs : List ChangeLine) → told.last ≡ Some cs
      → make (batch_behind (account_of told.edges told.earlier) cs) (with_batch (account_of told.edges told.earlier) cs)
      ≡ make (last_batch gathered.updates.items) (entered (account_of told.edges told.earlier) gathered.ids (last_batch gathered.updates.items))
  batch-parts make cs last =
      batch-made make told cs gathered.ids gathered.updates last h.ids
      (subst (λ (l : Option (List ChangeLine)). AreUpdates gathered.ids (unwrap_or l []) gathered.updates.items) last h.updates)
      (subst (λ (l : Option (List ChangeLine)). AreAmong gathered.ids (ends (map ends_of (unwrap_or l [])))) last h.update_ends)

  -- the account of a batch, as it ends
  batch-account : is_some told.last ≡ true
      → account_of told.edges (batches told) ≡ entered (account_of told.edges told.earlier) gathered.ids (last_batch gathered.updates.items)
  batch-account some =
      let (cs, last) = some-from told.last some in
      account-batch told cs last ∙ batch-parts (λ (b : EdgeBatch) (a : Account). a) cs last

  -- the graph behind the batch is kept
  pub batch-keeps : (old new : Kept) (ended number : ℕ) → number ≡ one_ended ended → KeepsAccount (Some old) ended told
      → new.keeper.graph ≡ graph_with old.keeper.graph gathered.ids (last_batch gathered.updates.items)
      → KeepsAccount (Some new) number (with_line told said.Batch)
  batch-keeps old new ended number counted (some, graph, count) made = (
    refl,
    made ∙ ap (λ (g : SimpleGraph). graph_with g gathered.ids (last_batch gathered.updates.items)) graph
        ∙ ap (λ (a : Account). a.graph) (sym (batch-account some)),
    counted ∙ ap one_ended count ∙ ap (λ (a : Account). a.ended) (sym (batch-account some)),
  )

  -- the account before the batch
  pub batch-before : (old : Kept) (ended number : ℕ) → number ≡ one_ended ended → KeepsAccount (Some old) ended told
      → IsAccountBefore (account_of told.edges told.earlier) number old.keeper.graph gathered.ids
  batch-before old ended number counted (some, graph, count) =
      let (behind, is) = ids-grown told some in
      record {
        number_is = counted ∙ ap one_ended count;
        graph_is = sym graph;
        size = ap (λ (g : SimpleGraph). g.size) graph ∙ account-size told.edges told.earlier;
        more = behind;
        grown = h.ids ∙ is;
        once = subst Distinct (sym h.ids) (ids-once told);
      }

  -- its text
  pub batch-open : (options : WatchOptions) (old : Kept) (ended : ℕ) → KeepsAccount (Some old) ended told
      → open_text options told ≡ batch_text options (account_of told.edges told.earlier) (last_batch gathered.updates.items)
      (entered (account_of told.edges told.earlier) gathered.ids (last_batch gathered.updates.items))
  batch-open options old ended (some, graph, count) =
      let (cs, last) = some-from told.last some in
      ap (λ (l : Option (List ChangeLine)). told_in options (part_facts options told.edges told.earlier l)) last
      ∙ batch-parts (batch_text options (account_of told.edges told.earlier)) cs last

  -- there are no fewer ids than vertices behind the batches that have ended
  pub vertices-within : (kept : Kept) (ended : ℕ) → KeepsAccount (Some kept) ended told → kept.keeper.graph.size ≤ length gathered.ids
  vertices-within kept ended (some, graph, count) =
      omega (arith, vertices-few told some, ap (λ (g : SimpleGraph). g.size) graph, ap length h.ids)

  -- the ids that were known behind the batches that have ended
  known-ids : (kept : Kept) (ended : ℕ) → KeepsAccount (Some kept) ended told
      → take kept.keeper.graph.size gathered.ids ≡ (account_of told.edges told.earlier).ids
  known-ids kept ended k = named-known gathered.ids told kept ended h.ids k

  -- a question is answered of them, and of the graph that is kept
  pub question-kept : (options : WatchOptions) (kept : Kept) (ended : ℕ) (question : Question) → KeepsAccount (Some kept) ended told
      → fact_text options.format
      (answer_to question (take kept.keeper.graph.size gathered.ids) (core_numbers_of kept.keeper.graph) (layers_of kept.keeper.graph))
      ≡ question_answer options told question
  question-kept options kept ended question k =
      let account : Account = account_of told.edges told.earlier in
      ap₂ (λ (l : List ℕ) (g : SimpleGraph). fact_text options.format (answer_to question l (core_numbers_of g) (layers_of g))) (known-ids kept ended k) k.1
      ∙ sym (append-nil (fact_text options.format (answer_in account question)))
      ∙ ap (λ (b : Bool). told_in options (cond b (answer_in account question ∷ []) [])) (sym k.0)

  -- before any batch line it is answered nothing
  pub question-none : (options : WatchOptions) (ended : ℕ) (question : Question) → KeepsAccount None ended told
      → question_answer options told question ≡ []
  question-none options ended question k =
      ap (λ (l : Option (List ChangeLine)). told_in options (cond (is_some l) (answer_in (account_of told.edges told.earlier) question ∷ []) [])) k.0

-- where the graph is kept, so is the account
pub same-keeps : (old new : Kept) (ended : ℕ) → new.keeper.graph ≡ old.keeper.graph → (told : Told) → KeepsAccount (Some old) ended told
    → KeepsAccount (Some new) ended told
same-keeps old new ended same told (some, graph, count) = (some, same ∙ graph, count)

-- a batch that is dropped has ended: the graph is kept as it was, and the batch is counted
pub dropped-keeps : (told : Told) (kept : Option Kept) (ended number : ℕ) → told.last ≡ Some [] → number ≡ one_ended ended → KeepsAccount kept ended told
    → KeepsAccount kept number (with_line told said.Batch)
dropped-keeps told None ended number empty counted k = absurd (clash (sym k.0 ∙ empty))
  where
    clash : {cs : List ChangeLine} → None ≡ Some cs → ⊥
    clash e = cc
dropped-keeps told (Some kept) ended number empty counted (some, graph, count) =
    let before : Account = account_of told.edges told.earlier in
    let is : account_of told.edges (batches told) ≡ with_batch before [] = account-batch told [] empty in (
      refl,
      graph ∙ sym (nothing-changes before (account-size told.edges told.earlier)) ∙ ap (λ (a : Account). a.graph) (sym is),
      counted ∙ ap one_ended count ∙ ap (λ (a : Account). a.ended) (sym is),
    )

-- its number is the next one
pub dropped-number : (told : Told) (kept : Option Kept) (ended : ℕ) → told.last ≡ Some [] → KeepsAccount kept ended told
    → one_ended ended ≡ one_ended (account_of told.edges told.earlier).ended
dropped-number told None ended empty k = absurd (clash (sym k.0 ∙ empty))
  where
    clash : {cs : List ChangeLine} → None ≡ Some cs → ⊥
    clash e = cc
dropped-number told (Some kept) ended empty (some, graph, count) = ap one_ended count
