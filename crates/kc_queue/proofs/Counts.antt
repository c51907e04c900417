-- How often a number stands in a list, and what that tells of shares and of the whole.
use Rattle.std.proofs.Common.{◌≡◌, ◌≤◌, ◌<◌, ◌+◌, ℕ, cond, List, ◌++◌, eqb, arith}
use Rattle.std.proofs.lemmas.List.Sums.{sum_by-append}
use Rattle.kc_lists.specs.Lists.{below, times}
use Rattle.kc_lists.proofs.Counting.{below-member, member-below, Distinct-below, times_member, member_times, times_distinct}
use Rattle.kc_lists.proofs.Counting.{distinct_times}
use Rattle.kc_queue.specs.Shares.{IsShare, AreAllBelow}

-- a number stands in two lists as often as in the one and in the other together
pub times-append : (y : ℕ) (xs ys : List ℕ) → times y (xs ++ ys) ≡ times y xs + times y ys
times-append y xs ys = sum_by-append (λ x. cond (eqb y x) 1 0) xs ys

-- a list in which no number stands more often than among the numbers below `n` is a share of these
pub share_times : (n : ℕ) (xs : List ℕ) → ((y : ℕ) → times y xs ≤ times y (below n)) → IsShare n xs
share_times n xs few = record {
  once = distinct_times xs (λ y. omega (arith, few y, times_distinct y (below n) (Distinct-below n)));
  below = λ x m. below-member x n (member_times x (below n) (omega (arith, few x, times_member x xs m)));
}

-- a list in which each number stands as often as among these is all of them
pub whole_times : (n : ℕ) (xs : List ℕ) → ((y : ℕ) → times y xs ≡ times y (below n)) → AreAllBelow n xs
whole_times n xs same = record {
  share = share_times n xs (λ y. omega (arith, same y));
  all = λ x l. member_times x xs (omega (arith, same x, times_member x (below n) (member-below x n l)));
}

-- in all of them each stands once
pub times_whole : (n x : ℕ) (xs : List ℕ) → AreAllBelow n xs → x < n → times x xs ≡ 1
times_whole n x xs whole l = omega (arith, times_distinct x xs whole.share.once, times_member x xs (whole.all x l))
