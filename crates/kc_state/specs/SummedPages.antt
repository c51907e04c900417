-- How a text goes through a summed page to a sink.
use Rattle.std.specs.Prelude.{◌≡◌, ℕ, List, Option}
use Rattle.kc_lines.specs.Pages.{PassesOn}
use Rattle.kc_state.specs.Texts.{sum_from}
use Rattle.kc_state.specs.declared.summed_page.SummedPage.{SummedPage}

-- A text was put on a summed page: it has gone on through the page, and it is summed.
pub record HasPut (before after : Option (List ℕ)) (s s' : SummedPage) (text : List ℕ) : Type 0 where
  pub passes : PassesOn before after s.page s'.page text
  pub summed : s'.sum ≡ sum_from s.sum text
