-- The moves of an insertion pass the local test, and move only vertices that the new edge concerns.
use Rattle.std.proofs.Common.{◌≡◌, ◌<◌, ◌+◌, ℕ, min, Bool, true, false, cond, not, [], ◌++◌, get_or, leb, refl, sym, ◌∙◌, ap, subst, inl, inr}
use Rattle.std.proofs.Common.{true≢false, Vec, Global}
use Rattle.std.proofs.lemmas.Bool.{false≢true, false_from_ne_true}
use Rattle.kc_lists.specs.Lists.{member, Distinct}
use Rattle.kc_lists.proofs.Members.{member-append}
use Rattle.kc_lists.proofs.Shared.{Distinct-append}
use Rattle.kc_graph.specs.SimpleGraph.{SimpleGraph, adjacent}
use Rattle.kc_graph.specs.Edges.{with_edge, without_edge}
use Rattle.kc_graph.specs.Lawful.{Ranked, IsCertified}
use Rattle.kc_graph.specs.Plans.{is_applied, updated, renumbered, put_between, shifted}
use Rattle.kc_graph.specs.declared.update.Update.{Update}
use Rattle.kc_graph.specs.declared.used.Used.{Used}
use Rattle.kc_graph.specs.declared.plan.Moves.TheVariants.{Kept, Plain, Rise}
use Rattle.kc_cert.specs.Local.{IsLocal, IsOfLevel, HoldsAt, firsts}
use Rattle.kc_cert.specs.Ranks.{rank_in, AscendsBy}
use Rattle.kc_cert.proofs.Final.{Ascends-distinct}
use Rattle.kc_view.specs.Search.{OnLevel, Search, Forward, search_in}
use Rattle.kc_view.specs.Sure.{IsSparing, InForward, root_of}
use Rattle.kc_view.proofs.Still.{kept-is_sure}
use Rattle.kc_insert.specs.Added.{search_with}
use Rattle.kc_insert.specs.Searching.{Widened, BetweenTurns}
use Rattle.kc_insert.proofs.Holding.{plain-holds, rise-holds}
use Rattle.kc_insert.proofs.Widening.{state-widened}
use Rattle.kc_cert.proofs.FittingMoves.{plain_fits, rise_fits}

-- an added edge is applied where it is not there yet
pub applied-is : (update : Update) (g : SimpleGraph) → update.add ≡ true → is_applied update g ≡ not (adjacent g update.u update.v)
applied-is update g e = ap (λ b. cond b (not (adjacent g update.u update.v)) (adjacent g update.u update.v)) e

-- an added edge makes the graph with that edge
pub updated-is : (update : Update) (g : SimpleGraph) → update.add ≡ true → updated update g ≡ with_edge g update.u update.v
updated-is update g e = ap (λ (b : Bool). cond b (with_edge g update.u update.v) (without_edge g update.u update.v)) e

-- the vertices that the search reaches are those that the new edge may concern
pub reached-forward : (update : Update) (s : Ranked) (level root x : ℕ) → update.add ≡ true → level ≡ get_or s.core root 0
    → root ≡ root_of s update → Forward (search_with update level s) root x → InForward s update x
reached-forward update s level root x adds at is r =
    let here : search_with update level s ≡ search_in (updated update s.graph) s (get_or s.core (root_of s update) 0) =
    ap (λ (n : ℕ). search_with update n s) (at ∙ ap (λ y. get_or s.core y 0) is)
    ∙ ap (λ (g : SimpleGraph). search_in g s (get_or s.core (root_of s update) 0)) (sym (updated-is update s.graph adds)) in
    subst (λ (q : Search). Forward q (root_of s update) x) here (subst (λ (n : ℕ). Forward (search_with update level s) n x) is r)

-- where the edge is there already, the plan that keeps all passes the local test and is sparing
pub kept-sure : (update : Update) (used : Used) (s : Ranked) → update.add ≡ true → IsCertified s → update.v < s.graph.size
    → adjacent s.graph update.u update.v ≡ true
    → IsLocal s (record { update = update; used = used; moves = Kept }) × IsSparing s (record { update = update; used = used; moves = Kept })
kept-sure update used s adds h l there = kept-is_sure update used s h l (applied-is update s.graph adds ∙ ap not there)

-- where no vertex moves, the plan that says so passes the local test and is sparing
pub plain-sure : (update : Update) (used : Used) (s : Ranked) (level root frontier : ℕ) (earlier later : ℕ → ℕ) → update.add ≡ true
    → IsCertified s → update.v < s.graph.size → adjacent s.graph update.u update.v ≡ false
    → level ≡ min (get_or s.core update.u 0) (get_or s.core update.v 0) → root ≡ root_of s update
    → BetweenTurns (search_with update level s) root [] [] frontier earlier later []
    → IsLocal s (record { update = update; used = used; moves = Plain }) × IsSparing s (record { update = update; used = used; moves = Plain })
plain-sure update used s level root frontier earlier later adds h l new least is b =
    let applied : is_applied update s.graph ≡ true = applied-is update s.graph adds ∙ ap not new in
    let w : Widened (search_with update level s) root = state-widened update s level root h l new least is in (
      record {
        ends = l;
        kept = sym (ap not applied);
        moves_fit = plain_fits s;
        holds = λ z lz _. subst (λ (g : SimpleGraph). HoldsAt (record { graph = g; core = s.core; order = s.order }) z) (sym (updated-is update s.graph adds))
            (plain-holds s (with_edge s.graph update.u update.v) level root frontier earlier later h refl w b z lz);
      },
      record {
        moves = record {
          once = tt;
          kept = λ none. absurd (true≢false (sym applied ∙ none));
          inserted = λ _ x m. absurd (false≢true m);
          removed = λ removes. absurd (true≢false (sym adds ∙ removes));
        };
      },
    )

-- where some rise, or are shifted, the plan that says so passes the local test and is sparing
pub rise-sure : (update : Update) (used : Used) (s : Ranked) (level root frontier : ℕ) (earlier later : ℕ → ℕ) (rise : Vec ℕ Global)
    (shifts : Vec (ℕ × ℕ) Global)
    → update.add ≡ true → IsCertified s → update.v < s.graph.size → adjacent s.graph update.u update.v ≡ false
    → level ≡ min (get_or s.core update.u 0) (get_or s.core update.v 0) → root ≡ root_of s update
    → BetweenTurns (search_with update level s) root rise.items [] frontier earlier later shifts.items → AscendsBy (rank_in s.order) rise.items
    → ((x : ℕ) → member x (rise.items ++ firsts shifts.items) ≡ true → Forward (search_with update level s) root x)
    → IsLocal s (record { update = update; used = used; moves = Rise level rise shifts })
    × IsSparing s (record { update = update; used = used; moves = Rise level rise shifts })
rise-sure update used s level root frontier earlier later rise shifts adds h l new least is b up reached =
    let applied : is_applied update s.graph ≡ true = applied-is update s.graph adds ∙ ap not new in
    let w : Widened (search_with update level s) root = state-widened update s level root h l new least is in
    let fit = b.shifts_fit in
    let done : (x : ℕ) → member x rise.items ≡ true → member x (firsts shifts.items) ≡ false =
    λ x m. false_from_ne_true _ (λ k. true≢false (sym m ∙ fit.first_done x k)) in
    let once : Distinct (rise.items ++ firsts shifts.items) =
    Distinct-append rise.items (firsts shifts.items) (Ascends-distinct (rank_in s.order) rise.items up) fit.once done in
    let of_level : (x : ℕ) → OnLevel (search_with update level s) x → IsOfLevel s level x = λ x o. record { vertex = o.here; of_level = o.level } in (
      record {
        ends = l;
        kept = sym (ap not applied);
        moves_fit = rise_fits s level rise shifts once
            (λ x m. elim (member-append x rise.items (firsts shifts.items) m) [
              | inl k ↦ of_level x (b.searching.cand_level x k)
              | inr k ↦ of_level x (fit.first_level x k)
            ])
            (λ x m. (of_level x (fit.second_level x m), fit.second_done x m)) fit.in_turn;
        holds =
            λ z lz _.
            subst
            (λ (g : SimpleGraph).
            HoldsAt
            (record {
              graph = g;
              core = renumbered rise.items (level + 1) s.core;
              order = put_between (λ y. leb (get_or s.core y 0) level) rise.items (shifted shifts.items s.order);
            })
            z)
            (sym (updated-is update s.graph adds))
            (rise-holds s (with_edge s.graph update.u update.v) level root rise.items frontier earlier later shifts.items h refl w b up z lz);
      },
      record {
        moves = record {
          once = once;
          kept = λ none. absurd (true≢false (sym applied ∙ none));
          inserted = λ _ x m. reached-forward update s level root x adds (sym w.root_level) is (reached x m);
          removed = λ removes. absurd (true≢false (sym adds ∙ removes));
        };
      },
    )
