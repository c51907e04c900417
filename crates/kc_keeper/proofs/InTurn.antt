-- Updates in turn: one more at the end of those that were made, and one that meets what others of other edges leave.
use Rattle.std.proofs.Common.{◌≡◌, ◌≢◌, ◌<◌, ◌≤◌, ◌+◌, ◌&&◌, ◌||◌, not, ℕ, suc, Bool, true, false, List, [], ◌∷◌, ◌++◌, length, get_or, take, cond}
use Rattle.std.proofs.Common.{refl, sym, ap, ap₂, ◌∙◌, inl, inr, arith, length-append, subst}
use Rattle.std.proofs.lemmas.Bool.{false_from_ne_true}
use Rattle.std.proofs.lemmas.List.{take_more}
use Rattle.kc_graph.specs.Core.{AreCoreNumbers}
use Rattle.kc_graph.specs.Lawful.{IsCertified, Ranked}
use Rattle.kc_graph.specs.SimpleGraph.{SimpleGraph, adjacent}
use Rattle.kc_graph.specs.Plans.{is_applied, updated}
use Rattle.kc_graph.specs.declared.update.Update.{Update}
use Rattle.kc_graph.proofs.Ends.{joins, joins-true}
use Rattle.kc_cert.proofs.Keeping.{adjacent-updated, size-updated}
use Rattle.kc_keeper.specs.Batches.{applied_in_turn, count_applied, made_in_turn}
use Rattle.kc_keeper.specs.Earlier.{KeepsEarlier}
use Rattle.kc_keeper.specs.Telling.{IsToldOf, TellsOneMore}
use Rattle.kc_keeper.specs.declared.changes.Changes.{Changes}
use Rattle.kc_keeper.specs.declared.earlier.EarlierNumbers.{EarlierNumbers}

-- the graph after one update more
pub made-push : (g : SimpleGraph) (us : List Update) (u : Update) → made_in_turn g (us ++ u ∷ []) ≡ updated u (made_in_turn g us)
made-push g [] u = refl
made-push g (x ∷ us) u = made-push (updated x g) us u

-- an edge that does not join the two, come or gone, leaves them
stays : (add a j : Bool) → j ≡ false → cond add (a || j) (a && not j) ≡ a
stays add a j none = grind arith

-- an update of another edge leaves it to this one whether it is applied
pub applied-other : (g : SimpleGraph) (x u : Update) → ◌≢◌ {A = ℕ × ℕ} (x.u, x.v) (u.u, u.v) → is_applied u (updated x g) ≡ is_applied u g
applied-other g x u other =
    let first = x.ordered in
    let second = u.ordered in
    let apart : joins x.u x.v u.u u.v ≡ false =
    false_from_ne_true (joins x.u x.v u.u u.v) (λ j. elim (joins-true x.u x.v u.u u.v j) [
      | inl p ↦ other (ap₂ (λ (s t : ℕ). (s, t)) (sym p.0) (sym p.1))
      | inr p ↦ absurd (omega (arith, p.0, p.1))
    ]) in
    ap (λ (t : Bool). cond u.add (not t) t)
    (adjacent-updated x g u.u u.v ∙ stays x.add (adjacent g u.u u.v) (joins x.u x.v u.u u.v) apart)

-- so do several in turn
pub applied-others : (us : List Update) (g : SimpleGraph) (u : Update)
    → ((i : ℕ) → i < length us → ◌≢◌ {A = ℕ × ℕ} ((get_or us i u).u, (get_or us i u).v) (u.u, u.v)) → is_applied u (made_in_turn g us) ≡ is_applied u g
applied-others [] g u apart = refl
applied-others (x ∷ us) g u apart =
    applied-others us (updated x g) u (λ i l. apart (suc i) (omega (arith, l))) ∙ applied-other g x u (apart 0 (omega arith))

-- updates leave the vertices
pub size-made : (g : SimpleGraph) (us : List Update) → (made_in_turn g us).size ≡ g.size
size-made g [] = refl
size-made g (u ∷ us) = size-made (updated u g) us ∙ size-updated u g

-- how many were applied, with one update more
count-push : (is : Update → Bool) (g : SimpleGraph) (us : List Update) (u : Update)
    → count_applied is g (us ++ u ∷ []) ≡ count_applied is g us + cond (is u && is_applied u (made_in_turn g us)) 1 0
count-push is g [] u = omega arith
count-push is g (x ∷ us) u = omega (arith, count-push is (updated x g) us u)

-- what is put behind others stays there with one more in front of all
put-in_front : (a b : Bool) (x u : Update) (all us : List Update) → all ≡ cond b (us ++ u ∷ []) us
    → cond a (x ∷ all) all ≡ cond b (cond a (x ∷ us) us ++ u ∷ []) (cond a (x ∷ us) us)
put-in_front true true x u all us is = ap (λ (z : List Update). x ∷ z) is
put-in_front true false x u all us is = ap (λ (z : List Update). x ∷ z) is
put-in_front false true x u all us is = is
put-in_front false false x u all us is = is

-- those that were applied, with one update more
pub applied-push : (g : SimpleGraph) (us : List Update) (u : Update)
    → applied_in_turn g (us ++ u ∷ []) ≡ cond (is_applied u (made_in_turn g us)) (applied_in_turn g us ++ u ∷ []) (applied_in_turn g us)
applied-push g [] u = refl
applied-push g (x ∷ us) u =
    put-in_front (is_applied x g) (is_applied u (made_in_turn (updated x g) us)) x u (applied_in_turn (updated x g) (us ++ u ∷ []))
    (applied_in_turn (updated x g) us) (applied-push (updated x g) us u)

at-most-one : (x b : Bool) → cond (x && b) 1 0 + cond (not x && b) 1 0 ≤ 1
at-most-one true true = omega arith
at-most-one true false = omega arith
at-most-one false true = omega arith
at-most-one false false = omega arith

-- 1 or 0
abbrev bit : Bool → ℕ
bit b = cond b 1 0

-- one update more is told of, with whether it was applied
pub told-more : {g : SimpleGraph} {old new : Changes} (u : Update) (applied : Bool) → applied ≡ is_applied u g
    → new.added ≡ old.added + cond (u.add && applied) 1 0 → new.removed ≡ old.removed + cond (not u.add && applied) 1 0
    → new.applied.items ≡ cond applied (old.applied.items ++ u ∷ []) old.applied.items → TellsOneMore g u old new
told-more {g} {old} {new} u applied is added removed list = λ start made g-is told.
    let now : applied ≡ is_applied u (made_in_turn start made) = is ∙ ap (is_applied u) g-is in
    let a-is : bit (u.add && applied) ≡ bit (u.add && is_applied u (made_in_turn start made)) = ap (λ (b : Bool). bit (u.add && b)) now in
    let r-is : bit (not u.add && applied) ≡ bit (not u.add && is_applied u (made_in_turn start made)) = ap (λ (b : Bool). bit (not u.add && b)) now in
    record {
      added = omega (arith, added, told.added, a-is, count-push (λ z. z.add) start made u);
      removed = omega (arith, removed, told.removed, r-is, count-push (λ z. not z.add) start made u);
      applied = list ∙ ((λ j. cond (now j) (told.applied j ++ u ∷ []) (told.applied j)) ∙ sym (applied-push start made u));
      few = omega (arith, told.few, added, removed, at-most-one u.add applied, length-append made (u ∷ []));
    }

-- So many updates are made in a graph and told of.
pub record MadeIn (start : SimpleGraph) (us : List Update) (made : ℕ) (now : SimpleGraph) (changes : Changes) : Type 0 where
  pub graph : now ≡ made_in_turn start (take made us)
  pub told : IsToldOf start (take made us) changes
  pub size : now.size ≡ start.size

-- one update more is made in the graph, and told of
pub one-more_in : {start now new : SimpleGraph} {us : List Update} {i : ℕ} {changes after : Changes} (d u : Update) → MadeIn start us i now changes
    → i < length us → u ≡ get_or us i d → new ≡ updated u now → TellsOneMore now u changes after → MadeIn start us (i + 1) new after
one-more_in {start} {now} {new} {us} {i} {changes} {after} d u m low u-is graph tells =
    let more : take (i + 1) us ≡ take i us ++ u ∷ [] = take_more us i d low ∙ ap (λ (z : Update). take i us ++ z ∷ []) (sym u-is) in
    record {
      graph = graph ∙ (ap (updated u) m.graph ∙ (sym (made-push start (take i us) u) ∙ ap (made_in_turn start) (sym more)));
      told = subst (λ (z : List Update). IsToldOf start z after) (sym more) (tells start (take i us) m.graph m.told);
      size = ap (λ (g : SimpleGraph). g.size) graph ∙ (size-updated u now ∙ m.size);
    }

-- So many updates are made and told of, and the numbers from before them are kept.
pub record MadeSoFar (start : Ranked) (kept : EarlierNumbers) (us : List Update) (made : ℕ) (now : Ranked) (changes : Changes) (earlier : EarlierNumbers)
    : Type 0 where
  pub in_graph : MadeIn start.graph us made now.graph changes
  pub certified : IsCertified now
  pub seidman : AreCoreNumbers now.graph now.core
  pub keeps : KeepsEarlier start.core now.core kept earlier

-- one update more is made, and told of
pub one-more : {start : Ranked} {kept : EarlierNumbers} {us : List Update} {i : ℕ} {now new : Ranked} {changes after : Changes} {earlier later : EarlierNumbers}
    (d u : Update) → MadeSoFar start kept us i now changes earlier → i < length us → u ≡ get_or us i d → new.graph ≡ updated u now.graph
    → TellsOneMore now.graph u changes after → KeepsEarlier now.core new.core earlier later → IsCertified new → AreCoreNumbers new.graph new.core
    → MadeSoFar start kept us (i + 1) new after later
one-more d u m low u-is graph tells keeps certified seidman = record {
  in_graph = one-more_in d u m.in_graph low u-is graph tells;
  certified = certified;
  seidman = seidman;
  keeps = λ first h. keeps first (m.keeps first h);
}
