-- The edges that were numbered are counted, and their ids compared, as those that were told.
use Rattle.std.proofs.Common.{◌≡◌, ◌∙◌, ℕ, List, ap₂, arith, length, vec_len}
use Rattle.kc_head.specs.Sizes.{are_sizes_of}
use Rattle.kc_head.proofs.Sized.{sizes-told}
use Rattle.kc_head.proofs.sizes.may_be_sizes.Goals as goal

pub returns : goal.returns
returns c = λ told are.
    let size : vec_len c.args.named.now.edges ≡ length c.args.named.now.edges.items = omega (arith, c.args.named.now.edges.ok.0) in
    c.are_sizes_of.ensures ∙ ap₂ (λ (n : ℕ) (ids : List ℕ). are_sizes_of c.args.pair n ids) (c.len.ensures ∙ size) c.deref.ensures.value
    ∙ sizes-told c.args.pair told c.args.named.now are
