use Rattle.std.specs.Prelude.{ℕ, refl}
use Rattle.std.specs.Coded.{Coded, code_by, coded×, coded_ℕ}
use Rattle.kc_words.specs.declared.again.Again.{Again}
use Rattle.kc_view.specs.Answers.{Answers}
use Rattle.kc_view.specs.PlainCode.{code_of_answers}
use Rattle.kc_plans_tests.specs.Whim.{Whims}

-- the code by which the logic stores two loads of a word that differed
abbrev pub code_of_again : Coded Again
code_of_again =
    code_by (ℕ × (ℕ × ℕ)) (coded× coded_ℕ (coded× coded_ℕ coded_ℕ)) (λ a. (a.word, (a.first, a.second)))
    (λ p. record { word = p.0; first = p.1.0; second = p.1.1 }) (λ _. refl)

-- the code by which the logic stores what is seen of a view that answers what it likes
abbrev pub code_of_whims : Coded Whims
code_of_whims =
    code_by (ℕ × (Answers × (ℕ × (ℕ × Again)))) (coded× coded_ℕ (coded× code_of_answers (coded× coded_ℕ (coded× coded_ℕ code_of_again))))
    (λ w. (w.size, (w.kept, (w.handed, (w.misses, w.again)))))
    (λ p. record { size = p.0; kept = p.1.0; handed = p.1.1.0; misses = p.1.1.1.0; again = p.1.1.1.1 }) (λ _. refl)
