-- Accounts of streams, with one batch more.
use Rattle.std.proofs.Common.{◌≡◌, ◌≤◌, ◌<◌, ℕ, suc, zero, true, List, [], ◌∷◌, ◌++◌, length, map, fold, refl, sym, ap, ap₂, ◌∙◌, arith}
use Rattle.std.proofs.Common.{subst, length-append, Option, Some, None, Vec, Global, get_or}
use Rattle.std.specs.Prelude.{is_some}
use Rattle.std.specs.List.{flat_map}
use Rattle.std.specs.Option.{option_to_list}
use Rattle.std.proofs.lemmas.List.{length-map}
use Rattle.std.proofs.lemmas.List.Sums.{fold-append}
use Rattle.kc_lists.specs.Lists.{Distinct}
use Rattle.kc_graph.specs.Core.{AreCoreNumbers, greatest}
use Rattle.kc_graph.specs.Growing.{with_vertices}
use Rattle.kc_graph.specs.SimpleGraph.{SimpleGraph}
use Rattle.kc_graph.specs.declared.update.Update.{Update}
use Rattle.kc_graph.proofs.Existence.{certificate_exists}
use Rattle.kc_graph.proofs.Law.{certified-core_numbers, core-unique}
use Rattle.kc_tally.specs.Layers.{AreLayers}
use Rattle.kc_tally.proofs.Existing.{layers-exist}
use Rattle.kc_tally.proofs.Unique.{layers-same}
use Rattle.kc_text.specs.declared.change.ChangeLine.{ChangeLine}
use Rattle.kc_text.specs.Deciding.{last_batch}
use Rattle.kc_text.specs.Inputs.{AreAmong, AreUpdates, EdgeBatch, EdgeUpdate, numbered_batch, numbered_change, parts_of, start_graph}
use Rattle.kc_text.specs.Meaning.{Told, batches, changes, ends, ends_of, names}
use Rattle.kc_text.proofs.Decided.{all-numbered}
use Rattle.kc_text.proofs.Telling.{ends-batches, ends-told}
use Rattle.kc_batch_effects.proofs.Applying.{graph_after_batch-nil}
use Rattle.kc_stream.specs.Ids.{ids_of, with_name, with_names}
use Rattle.kc_stream.proofs.Holding.{some-from}
use Rattle.kc_stream.proofs.Naming.{names-behind, names-once}
use Rattle.kc_watch.specs.Accounts.{Account, account_of, account_of_start, batch_behind, core_numbers_of, entered, ids_with, layers_of, top_of, with_batch}

-- the core numbers of a graph are its core numbers
pub numbers-are : (g : SimpleGraph) → AreCoreNumbers g (core_numbers_of g)
numbers-are g = let (core, order, certifies) = certificate_exists g in certified-core_numbers g core order certifies

-- and any that are, are these
pub numbers-alone : (g : SimpleGraph) (core : List ℕ) → AreCoreNumbers g core → core ≡ core_numbers_of g
numbers-alone g core are = core-unique g core (core_numbers_of g) are (numbers-are g)

-- the layers of a graph are its layers
pub layers-are : (g : SimpleGraph) → AreLayers g (core_numbers_of g) (layers_of g)
layers-are g = let c = certificate_exists g in (layers-exist g c.0 (certified-core_numbers g c.0 c.1 c.2)).1

-- and any that are, are these
pub layers-alone : (g : SimpleGraph) (core layer : List ℕ) → AreCoreNumbers g core → AreLayers g core layer → layer ≡ layers_of g
layers-alone g core layer are layers =
    layers-same g (core_numbers_of g) layer (layers_of g)
    (subst (λ (numbers : List ℕ). AreLayers g numbers layer) (numbers-alone g core are) layers) (layers-are g)

-- the greatest of the core numbers is the greatest core number
pub top-is : (g : SimpleGraph) (core : List ℕ) → AreCoreNumbers g core → greatest core ≡ top_of g
top-is g core are = ap greatest (numbers-alone g core are)

-- an account with one batch more behind
pub account-push : (edges : List (ℕ × ℕ)) (earlier : List (List ChangeLine)) (batch : List ChangeLine)
    → account_of edges (earlier ++ batch ∷ []) ≡ with_batch (account_of edges earlier) batch
account-push edges earlier batch = fold-append with_batch (account_of_start edges) earlier (batch ∷ [])

-- the ids of an account are those that were named
account-ids : (account : Account) (batches : List (List ChangeLine))
    → (fold with_batch account batches).ids ≡ with_names account.ids (ends (map ends_of (flat_map (λ (b : List ChangeLine). b) batches)))
account-ids account [] = refl
account-ids account (batch ∷ batches) =
    account-ids (with_batch account batch) batches
    ∙ sym (fold-append with_name account.ids (ends (map ends_of batch)) (ends (map ends_of (flat_map (λ (b : List ChangeLine). b) batches))))
    ∙ ap (with_names account.ids) (sym (ends-batches batch (flat_map (λ (b : List ChangeLine). b) batches)))

-- the ids that were named are those of the account of all batches
pub ids-are : (told : Told) → (account_of told.edges (batches told)).ids ≡ ids_of told
ids-are told =
    account-ids (account_of_start told.edges) (batches told)
    ∙ sym (fold-append with_name [] (ends told.edges) (ends (map ends_of (changes told)))) ∙ ap (with_names []) (sym (ends-told told.edges (changes told)))

-- a list of changes as long as a vector of updates, as a vector
as-vector : (us : Vec Update Global) (cs : List ChangeLine) → length us.items ≡ length cs → Vec ChangeLine Global
as-vector us cs same = record {
  ptr = us.ptr;
  len = us.len;
  cap = us.cap;
  alloc = us.alloc;
  items = cs;
  ok = (us.ok.0 ∙ same, us.ok.1);
  small = us.small;
}

-- the last updates of a batch are the changes that decide, and the others are overruled
pub batch-numbered : (ids : List ℕ) (cs : List ChangeLine) (us : Vec Update Global) → AreUpdates ids cs us.items
    → AreAmong ids (ends (map ends_of cs)) → last_batch us.items ≡ numbered_batch ids cs
unfolding as-vector
batch-numbered ids cs us are among =
    let same : length us.items ≡ length cs = sym (length-map us.items parts_of) ∙ (ap length are ∙ length-map cs (numbered_change ids)) in
    let changes : Vec ChangeLine Global = as-vector us cs same in
    let all = all-numbered ids (changes ∷ []) (us ∷ []) (ap (λ (t : List EdgeUpdate). t ∷ []) are)
    (λ k d l. elim k as (λ k. k < 1 → AreAmong ids (ends (map ends_of (get_or (changes ∷ []) k d).items))) [
      | zero ↦ λ _. among
      | suc n ↦ λ m. absurd (omega arith)
    ] l) in
    ap (λ (t : List EdgeBatch). get_or t 0 (numbered_batch ids cs)) all

-- where there is no batch line, no batch was told
pub no-batches : (told : Told) → told.last ≡ None → told.earlier ≡ [] → batches told ≡ []
no-batches told last earlier = ap₂ (λ (e : List (List ChangeLine)) (l : Option (List ChangeLine)). e ++ option_to_list l) earlier last

-- where there is a last batch, it stands behind the earlier ones
pub one-batch : (told : Told) (cs : List ChangeLine) → told.last ≡ Some cs → batches told ≡ told.earlier ++ cs ∷ []
one-batch told cs last = ap (λ (l : Option (List ChangeLine)). told.earlier ++ option_to_list l) last

-- the account with the batch that ends
pub account-batch : (told : Told) (cs : List ChangeLine) → told.last ≡ Some cs
    → account_of told.edges (batches told) ≡ with_batch (account_of told.edges told.earlier) cs
account-batch told cs last = ap (account_of told.edges) (one-batch told cs last) ∙ account-push told.edges told.earlier cs

-- where a batch ends, the ids are those that were named
batch-ids : (told : Told) (cs : List ChangeLine) → told.last ≡ Some cs → ids_with (account_of told.edges told.earlier).ids cs ≡ ids_of told
batch-ids told cs last = ap (λ (a : Account). a.ids) (sym (account-batch told cs last)) ∙ ids-are told

-- what is made of a batch that ends and of the account behind it, by the ids that were named and the updates that were gathered
pub batch-made : {X : Type 0} (make : EdgeBatch → Account → X) (told : Told) (cs : List ChangeLine) (ids : List ℕ) (us : Vec Update Global)
    → told.last ≡ Some cs → ids ≡ ids_of told → AreUpdates ids cs us.items → AreAmong ids (ends (map ends_of cs))
    → make (batch_behind (account_of told.edges told.earlier) cs) (with_batch (account_of told.edges told.earlier) cs)
    ≡ make (last_batch us.items) (entered (account_of told.edges told.earlier) ids (last_batch us.items))
batch-made make told cs ids us last named are among =
    let account : Account = account_of told.edges told.earlier in
    ap (λ (l : List ℕ). make (numbered_batch l cs) (entered account l (numbered_batch l cs))) (batch-ids told cs last ∙ sym named)
    ∙ ap (λ (b : EdgeBatch). make b (entered account ids b)) (sym (batch-numbered ids cs us are among))

-- the graph of an account has a vertex for each id
account-sizes : (account : Account) → account.graph.size ≡ length account.ids → (batches : List (List ChangeLine))
    → (fold with_batch account batches).graph.size ≡ length (fold with_batch account batches).ids
account-sizes account is [] = is
account-sizes account is (batch ∷ batches) = account-sizes (with_batch account batch) refl batches

pub account-size : (edges : List (ℕ × ℕ)) (batches : List (List ChangeLine))
    → (account_of edges batches).graph.size ≡ length (account_of edges batches).ids
unfolding start_graph
account-size edges batches = account-sizes (account_of_start edges) refl batches

-- a batch without changes leaves the graph as it was
pub nothing-changes : (account : Account) → account.graph.size ≡ length account.ids → (with_batch account []).graph ≡ account.graph
nothing-changes account size =
    graph_after_batch-nil (with_vertices (length account.ids) account.graph) ∙ ap (λ (n : ℕ). with_vertices n account.graph) (sym size)

-- no id was named twice
pub ids-once : (told : Told) → Distinct (ids_of told)
ids-once told = names-once [] (names told) tt

-- nor has an account an id twice
pub account-once : (edges : List (ℕ × ℕ)) (batches : List (List ChangeLine)) → Distinct (account_of edges batches).ids
account-once edges batches =
    subst Distinct (sym (account-ids (account_of_start edges) batches))
    (names-once (with_names [] (ends edges)) (ends (map ends_of (flat_map (λ (b : List ChangeLine). b) batches))) (names-once [] (ends edges) tt))

-- behind the batches that have ended, the ids that were named are those of then, and others behind them
pub ids-grown : (told : Told) → is_some told.last ≡ true → (more : List ℕ) × (ids_of told ≡ (account_of told.edges told.earlier).ids ++ more)
ids-grown told some =
    let (cs, last) = some-from told.last some in
    let account : Account = account_of told.edges told.earlier in
    let (more, is) = names-behind account.ids (ends (map ends_of cs)) in
    (more, sym (batch-ids told cs last) ∙ is)

-- the graph behind the batches that have ended has no more vertices than there are ids
pub vertices-few : (told : Told) → is_some told.last ≡ true → (account_of told.edges told.earlier).graph.size ≤ length (ids_of told)
vertices-few told some =
    let account : Account = account_of told.edges told.earlier in
    let (more, is) = ids-grown told some in
    omega (arith, account-size told.edges told.earlier, ap length is, length-append account.ids more)
