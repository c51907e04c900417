-- Pairs that are sorted and lose their repeats are the edges of the graph.
use Rattle.std.proofs.Common.{◌≡◌, ℕ, List, sym, ap, subst, ◌∙◌, length}
use Rattle.std.specs.Prelude.{All}
use Rattle.std.specs.List.{dedup, filter_map}
use Rattle.std.specs.List.Sorted.{IsStrictlySortedBy, IsPermutation}
use Rattle.std.specs.FinSet as set
use Rattle.std.proofs.lemmas.List.Filters.{dedup_is, All-dedup}
use Rattle.std.proofs.lemmas.List.Kept.{IsStrictlySortedBy-dedup}
use Rattle.std.proofs.lemmas.List.Sorted.{All-permutation}
use Rattle.kc_graph.specs.SimpleGraph.{pair_cmp}
use Rattle.kc_text.specs.Inputs.{start_graph, numbered}
use Rattle.kc_text.proofs.Pairs.{pair_eq, pair_equiv, equal_pair, pair_ties, same_edges}
use Rattle.kc_text.proofs.Places.{Within, numbered-within}
use Rattle.kc_text.proofs.numbering.start_of.Goals as goal
use Rattle.kc_graph.proofs.RowsLemmas.{pair_total}

pub returns : goal.returns
unfolding start_graph
returns c =
    let plain : List (ℕ × ℕ) = filter_map (numbered c.args.ids.now) c.args.edges.now in
    let sorted : List (ℕ × ℕ) = c.sort_unstable.new.self.items in
    let e : c.dedup.new.self.items ≡ dedup pair_eq sorted = dedup_is pair_eq sorted c.dedup.new.self.items c.dedup.ensures.filtered in
    let moved : IsPermutation plain sorted = subst (λ (t : List (ℕ × ℕ)). IsPermutation t sorted) c.in_ok-pairs.ensures c.sort_unstable.ensures.permutation in
    let within : All (Within (length c.args.ids.now)) plain = numbered-within c.args.ids.now c.args.edges.now c.requires.among in
    record {
      ascending = subst (IsStrictlySortedBy pair_cmp) (sym e) (IsStrictlySortedBy-dedup pair_total pair_ties sorted c.sort_unstable.ensures.sorted);
      within =
          subst (All (Within (length c.args.ids.now))) (sym e)
          (All-dedup pair_eq (Within (length c.args.ids.now)) sorted
          (All-permutation (Within (length c.args.ids.now)) plain sorted moved within));
      exact = ap (λ (t : List (ℕ × ℕ)). set.from_list {R = pair_cmp} t) e ∙ same_edges pair_equiv equal_pair plain sorted moved;
    }
