-- The line batch ends the start of a stream that began with a state.
use Rattle.std.proofs.Common.{◌≡◌, ◌≤◌, ◌++◌, ◌∙◌, ℕ, List, [], ◌∷◌, Option, None, Some, ap, ap₂, append-nil, cond, codes, inr, length, refl, subst, sym}
use Rattle.std.specs.FinSet as set
use Rattle.kc_graph.specs.SimpleGraph.{SimpleGraph}
use Rattle.kc_flat.specs.Listing.{edge_list}
use Rattle.kc_words.specs.declared.layout.TheConstants.{VERTICES}
use Rattle.kc_text.specs.declared.change.ChangeLine.{ChangeLine}
use Rattle.kc_text.specs.declared.line.TextLine.TheVariants as said
use Rattle.kc_text.specs.Inputs.{start_graph}
use Rattle.kc_text.specs.Lines.{EndsLine}
use Rattle.kc_text.specs.Meaning.{Told, batches, ends, with_line}
use Rattle.kc_text.proofs.SaidAppend.{ends-append}
use Rattle.kc_stream.specs.Asking.{stream_lines}
use Rattle.kc_stream.specs.Hearing.{Heard, hear, hear_all, heard_so_far, nothing_heard, taken}
use Rattle.kc_stream.specs.Ids.{with_names}
use Rattle.kc_stream.specs.declared.bad_lines.BadLines.{BadLines}
use Rattle.kc_stream.proofs.Reading.{hear-batch, more-ended, so-far}
use Rattle.kc_state.specs.OneState.{IsKeptState}
use Rattle.kc_state.specs.Starts.{HasBegunWith, start_edges, start_text}
use Rattle.kc_state.specs.Texts.{KeptParts}
use Rattle.kc_state.proofs.Beginning.{begun-with, start-ends, start-named}
use Rattle.kc_watch.specs.Accounts.{Account, account_of, account_of_start}
use Rattle.kc_watch.specs.States.{account_so_far, account_told}
use Rattle.kc_loading.specs.Begun.{account_of_state, end_of_start}

-- the account of a start without batches, with one line batch more
account-of_start : (told : Told) → told.earlier ≡ [] → told.last ≡ None → account_told (with_line told said.Batch) ≡ Some (account_of_start told.edges)
account-of_start told earlier last =
    ap₂ (λ (e : List (List ChangeLine)) (l : Option (List ChangeLine)). let t : Told = record { edges = told.edges; earlier = e; last = l } in
    let a : Option Account = Some (account_of told.edges (batches t)) in a) earlier last

-- the account of a start whose edges name these ids and make this graph
account-is : (s : KeptParts) (edges : List (ℕ × ℕ)) → with_names [] (ends edges) ≡ s.ids
    → start_graph s.ids edges ≡ record { size = s.ranked.graph.size; edges = set.from_list (edge_list s.ranked.graph) }
    → account_of_start edges ≡ account_of_state s
account-is s edges named graph =
    ap (λ (ids : List ℕ). let a : Account = record { ended = 0; ids = ids; graph = start_graph ids edges } in a) named
    ∙ ap (λ (g : SimpleGraph). let a : Account = record { ended = 0; ids = s.ids; graph = g } in a) graph

-- bytes that end with a line come to what their lines come to
so-far-ended : (bad : BadLines) (bytes : List ℕ) → EndsLine bytes → heard_so_far bad bytes ≡ hear_all bad nothing_heard (stream_lines bytes)
so-far-ended bad bytes ends = ap (heard_so_far bad) (sym (append-nil bytes)) ∙ so-far bad bytes [] ends refl

-- A stream begun with a state has its account behind the line batch.
pub account-begun : (bad : BadLines) (s : KeptParts) → IsKeptState s → length s.ids ≤ VERTICES
    → account_so_far bad (start_text s ++ end_of_start) ≡ Some (account_of_state s)
account-begun bad s kept few =
    let start : List ℕ = start_text s in
    let begun : HasBegunWith (heard_so_far bad start) s = begun-with bad s kept few in
    let before : Heard = hear_all bad nothing_heard (stream_lines start) in
    let there : HasBegunWith before s = subst (λ (h : Heard). HasBegunWith h s) (so-far-ended bad start (start-ends s)) begun in
    let is : heard_so_far bad (start ++ end_of_start) ≡ taken before said.Batch =
    so-far-ended bad (start ++ end_of_start) (ends-append start end_of_start (start-ends s) (inr (codes "batch", refl)))
    ∙ more-ended bad start end_of_start (start-ends s) ∙ hear-batch bad before there.going in
    ap (λ (h : Heard). account_told h.told) is ∙ account-of_start before.told there.earlier there.last
    ∙ ap (λ (a : Account). Some a) (account-is s before.told.edges (ap (λ (es : List (ℕ × ℕ)). with_names [] (ends es)) there.edges ∙ start-named s kept)
    there.graph)
