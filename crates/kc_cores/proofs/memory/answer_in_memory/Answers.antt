-- The bytes of the input are known, whether they are those of standard input or of a file.
use Rattle.std.proofs.Common.{◌≡◌, ◌++◌, ◌∙◌, List, [], ℕ, Option, Some, IfSome, ap, append-nil, map, subst, sym}
use Rattle.kc_head.specs.declared.foreign.Foreign.{Foreign}
use Rattle.kc_text.specs.Meaning.{Refuses}
use Rattle.kc_text.specs.declared.kind.Kind.{Kind}
use Rattle.kc_wishes.specs.Wishes.{Asks, Query, Wish, wish_of}
use Rattle.kc_cores.specs.Answers.{IsForeignBy, IsRefusedBy, IsTextFor, graph_meaning, graph_remark}
use Rattle.kc_cores.specs.CoresEnded.{IsLineAt, TookAt, given_bytes}
use Rattle.kc_cores.specs.Inputs.{bytes_behind, known_bytes}
use Rattle.kc_files.specs.Folders.{FolderState, held_in}
use Rattle.kc_cores.specs.Saved.{SavedAt}
use Rattle.kc_cores.specs.declared.CoresStatus.{CoresStatus}
use Rattle.kc_cores.specs.declared.CoresStatus.TheVariants as status
use Rattle.kc_cores.proofs.Ended.{asked-same}
use Rattle.kc_cores.proofs.memory.answer_in_memory.Goals as goal

-- what is an answer for some bytes is one for these, which they are
text-by : (query : Query) (bytes all text summary : List ℕ) (what : Option Foreign) → all ≡ bytes → what ≡ graph_remark query.graph.dialect bytes
    → IsTextFor query all what text summary → IsTextFor query bytes (graph_remark query.graph.dialect bytes) text summary
text-by query bytes all text summary what same begins is =
    subst (λ (w : Option Foreign). IsTextFor query bytes w text summary) begins (subst (λ (x : List ℕ). IsTextFor query x what text summary) same is)

-- what was taken by a run that is done, of bytes that are known, are their lines
done-in : (end : CoresStatus) (wish : Wish) (query : Query) (bytes a b : List ℕ) (known : Wish → Option (List ℕ)) → end ≡ status.Done
    → wish ≡ Asks query → known (Asks query) ≡ Some bytes → TookAt end wish (known wish) (Some a) (Some b)
    → (text : List ℕ) × (summary : List ℕ) × IsTextFor query bytes (graph_remark query.graph.dialect bytes) text summary × (b ≡ a ++ text)
done-in end wish query bytes a b known is asks here took =
    let at_done : TookAt status.Done wish (known wish) (Some a) (Some b) =
    subst (λ (e : CoresStatus). TookAt e wish (known wish) (Some a) (Some b)) is took in
    let at_task : TookAt status.Done (Asks query) (known (Asks query)) (Some a) (Some b) =
    subst (λ (w : Wish). TookAt status.Done w (known w) (Some a) (Some b)) asks at_done in
    let (text, (summary, (all, same, (what, begins, is_text))), took_all) =
    subst (λ (k : Option (List ℕ)). TookAt status.Done (Asks query) k (Some a) (Some b)) here at_task in
    (text, summary, text-by query bytes all text summary what same begins is_text, took_all)

-- what is told of a run that is refused, of bytes that are known, is of these bytes, and nothing was taken
refused-in : (end : CoresStatus) (wish : Wish) (query : Query) (bytes a b line : List ℕ) (known : Wish → Option (List ℕ))
    → end ≡ status.Refused → wish ≡ Asks query → known (Asks query) ≡ Some bytes → TookAt end wish (known wish) (Some a) (Some b)
    → IsLineAt end wish (known wish) line → (n : ℕ) × (kind : Kind) × (graph_meaning query.graph.dialect bytes ≡ Refuses n kind) × (b ≡ a)
refused-in end wish query bytes a b line known is asks here took says =
    let none : b ≡ a ++ [] = subst (λ (e : CoresStatus). TookAt e wish (known wish) (Some a) (Some b)) is took in
    let (asked, refusal, same, told, means) = subst (λ (e : CoresStatus). IsLineAt e wish (known wish) line) is says in
    let q : asked ≡ query = asked-same asked query (sym same ∙ asks) in
    let at_task = subst (λ (w : Wish). IfSome (known w) (λ x. IsRefusedBy asked.graph.dialect x refusal)) asks means in
    let refused = subst (λ (k : Option (List ℕ)). IfSome k (λ x. IsRefusedBy asked.graph.dialect x refusal)) here at_task in
    (refusal.placed.refusal.line, refusal.placed.refusal.kind, ap (λ (x : Query). graph_meaning x.graph.dialect bytes) (sym q) ∙ refused.0, none ∙ append-nil a)

pub returns-clause-done : goal.returns-clause-done
returns-clause-done g c = λ query bytes asks here end.
    let run = c.answer.ensures.1.asked (λ name q e. absurd (cc)) (λ q plan e saves. absurd (cc)) in
    let ended = run.0.other (λ name at e. absurd (cc)) (λ name at e. absurd (cc)) (λ options e. absurd (cc)) in
    done-in c.answer.result (wish_of (map g.W.AsStr.text c.args.words.now)) query bytes c.args.streams.now.out.sink.taken
    c.answer.new.streams.out.sink.taken (λ w. given_bytes (λ i. Some i.source.left) bytes_behind w c.args.streams.now.input) end asks here ended.0.took

pub returns-clause-refused : goal.returns-clause-refused
returns-clause-refused g c = λ query bytes asks here end.
    let run = c.answer.ensures.1.asked (λ name q e. absurd (cc)) (λ q plan e saves. absurd (cc)) in
    let ended = run.0.other (λ name at e. absurd (cc)) (λ name at e. absurd (cc)) (λ options e. absurd (cc)) in
    refused-in c.answer.result (wish_of (map g.W.AsStr.text c.args.words.now)) query bytes c.args.streams.now.out.sink.taken
    c.answer.new.streams.out.sink.taken c.answer.ensures.0 (λ w. given_bytes (λ i. Some i.source.left) bytes_behind w c.args.streams.now.input) end asks here
    ended.0.took ended.0.line

-- the text of a file that was saved, of bytes that are known
saved-in : (end : CoresStatus) (query : Query) (bytes name line : List ℕ) (known left : Option (List ℕ)) (f f' : ℕ) (p p' : FolderState)
    → end ≡ status.Done → known ≡ Some bytes → SavedAt held_in (λ s. s.failed) end name query known left line f f' p p'
    → (text : List ℕ) × (summary : List ℕ) × IsTextFor query bytes (graph_remark query.graph.dialect bytes) text summary
    × (held_in p' name ≡ Some (Some text))
saved-in end query bytes name line known left f f' p p' is here saved =
    let ((text, summary, (all, same, (what, begins, is_text)), told, has), others, read, faultless, kept) =
    subst (λ (e : CoresStatus). SavedAt held_in (λ s. s.failed) e name query known left line f f' p p') is saved in
    let equal : all ≡ bytes = subst (λ (k : Option (List ℕ)). IfSome k (λ x. all ≡ x)) here same in
    let told_by : what ≡ graph_remark query.graph.dialect bytes = subst (λ (k : Option (List ℕ)). IsForeignBy query.graph.dialect k what) here begins in
    (text, summary, text-by query bytes all text summary what equal told_by is_text, ap (λ (b : Option (List ℕ)). Some b) has)

pub returns-clause-saved : goal.returns-clause-saved
returns-clause-saved g c = λ name query bytes asks here end.
    let (saved, certificate, out, wire) = c.answer.ensures.1.save name query asks in
    let before = c.args.streams.now.input in
    let after = c.answer.new.streams.input in
    saved-in c.answer.result query bytes name c.answer.ensures.0 (known_bytes (λ i. Some i.source.left) bytes_behind query.graph.file before)
    (Some after.source.left) before.failed after.failed c.args.folder.now c.answer.new.folder end here saved
