-- One vertex more has the rank.
use Rattle.std.proofs.Common.{◌≡◌, ◌<◌, ◌∷◌, [], ◌++◌, ◌∙◌, ap, arith, ℕ, List, eq-eqb, ◌+◌, get_or, inl, inr, length, length-set, set, sym, take}
use Rattle.std.proofs.lemmas.List.{take_more, get_or-set_same, get_or-set_other}
use Rattle.std.proofs.lemmas.Bool.{cases_eq, true≢false}
use Rattle.kc_lists.specs.Lists.{member}
use Rattle.kc_lists.proofs.Counting.{member-push_cases, member-push_none}
use Rattle.kc_tally.proofs.layering.rank_each.Goals as goal

pub loop-v-preserved : goal.loop-v-preserved
loop-v-preserved c =
    let i : ℕ = c.loop-v.v-index in
    let vs : List ℕ = c.args.vertices.now in
    let w : ℕ = get_or vs i 0 in
    let old : List ℕ = c.loop-v.rank in
    let more : take (i + 1) vs ≡ take i vs ++ w ∷ [] = take_more vs i 0 c.loop-v-test.true in
    let within : w < length old = omega (arith, c.requires i 0 c.loop-v-test.true, c.loop-v.invariant.one_each) in
    record {
      one_each = length-set old w c.args.step ∙ c.loop-v.invariant.one_each;
      ranked = λ v m. elim (cases_eq v w) [
        | inl e ↦ ap (λ x. get_or (set old w c.args.step) x 0) e ∙ get_or-set_same old w c.args.step 0 within
        | inr ne ↦ elim (member-push_cases v w (take i vs) (sym (ap (member v) more) ∙ m)) [
          | inl k ↦ get_or-set_other old w v c.args.step 0 ne ∙ c.loop-v.invariant.ranked v k
          | inr e ↦ absurd (ne e)
        ]
      ];
      others = λ v m.
          let k = member-push_none v w (take i vs) (sym (ap (member v) more) ∙ m) in
          get_or-set_other old w v c.args.step 0 (λ e. true≢false (sym (eq-eqb v w e) ∙ k.1)) ∙ c.loop-v.invariant.others v k.0;
    }
