-- Each vertex opens with the stamp 0.
use Rattle.std.proofs.Common.{◌≤◌, ℕ, sym, ap, subst, arith}
use Rattle.kc_words.specs.VertexWord.{vertex_of}
use Rattle.kc_words.specs.declared.vertex.VertexWord.{VertexWord}
use Rattle.kc_lists.proofs.Shared.{each-of_four}
use Rattle.kc_agree_tests.proofs.publishing.no_list_that_is_read_is_older_than_one_read_before.Goals as goal

pub open-requires-clause-stamps : goal.open-requires-clause-stamps
open-requires-clause-stamps g c v l =
    subst (λ (x : ℕ). (vertex_of x).stamp ≤ 20000) (sym (each-of_four c.pack-word.result v l))
    (omega (arith, ap (λ (x : VertexWord). x.stamp) c.pack-word.ensures.read_back))
