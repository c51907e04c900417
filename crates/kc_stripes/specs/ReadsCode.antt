use Rattle.std.specs.Prelude.{ℕ, List, refl}
use Rattle.std.specs.Coded.{Coded, code_by, coded×, coded_ℕ, coded_list}
use Rattle.kc_table.specs.declared.view.Event.{Event}
use Rattle.kc_view.specs.Answers.{Answers}
use Rattle.kc_view.specs.PlainCode.{code_of_answers}
use Rattle.kc_stripes.specs.Reads.{Loosely}

-- the code by which the logic stores a store to a word
abbrev pub code_of_event : Coded Event
code_of_event = code_by (ℕ × ℕ) (coded× coded_ℕ coded_ℕ) (λ e. (e.word, e.value)) (λ p. record { word = p.0; value = p.1 }) (λ _. refl)

-- the code by which the logic stores what is seen of a loose view
abbrev pub code_of_loosely : Coded Loosely
code_of_loosely =
    code_by (ℕ × (Answers × (ℕ × (ℕ × List Event))))
    (coded× coded_ℕ (coded× code_of_answers (coded× coded_ℕ (coded× coded_ℕ (coded_list code_of_event)))))
    (λ l. (l.size, (l.kept, (l.handed, (l.misses, l.seen)))))
    (λ p. record { size = p.0; kept = p.1.0; handed = p.1.1.0; misses = p.1.1.1.0; seen = p.1.1.1.1 }) (λ _. refl)
