-- Where the answer to a question speaks of no layers, it is the same with any.
use Rattle.std.proofs.Common.{◌≡◌, ℕ, true, List, refl, ap}
use Rattle.kc_answers.specs.Answers.{answer_to, needs_layers, order_answer}
use Rattle.kc_stream.specs.declared.question.Question.{Question}
use Rattle.kc_stream.specs.declared.question.Question.TheVariants.{Core, Members, Sizes, Order}

-- the answer is the same with the same layers, and these have to be the same only where it speaks of them
pub answer-needs : (question : Question) (ids core layer layer' : List ℕ) → (needs_layers question ≡ true → layer ≡ layer')
    → answer_to question ids core layer ≡ answer_to question ids core layer'
answer-needs (Core id) ids core layer layer' same = refl
answer-needs (Members level) ids core layer layer' same = refl
answer-needs Sizes ids core layer layer' same = refl
answer-needs (Order a b) ids core layer layer' same = ap (λ (l : List ℕ). order_answer ids core l a b) (same refl)
