-- The lines that tell facts, in each format.
use Rattle.std.specs.Prelude.{◌≡◌, ◌++◌, ◌∷◌, ℕ, false, List, []}
use Rattle.std.specs.List.{flat_map}
use Rattle.kc_lists.specs.Lists.{member}
use Rattle.kc_reply.specs.Facts.{Fact}
use Rattle.kc_reply.specs.Json.{fact_json}
use Rattle.kc_reply.specs.Words.{fact_words}
use Rattle.kc_reply.specs.declared.reply_format.ReplyFormat.{ReplyFormat}
use Rattle.kc_reply.specs.declared.reply_format.ReplyFormat.TheVariants.{Words, Json}

-- the line that tells a fact
abbrev pub fact_text : ReplyFormat → Fact → List ℕ
fact_text Words fact = fact_words fact
fact_text Json fact = fact_json fact

-- the lines that tell facts, one after another
abbrev pub facts_text : ReplyFormat → List Fact → List ℕ
facts_text format facts = flat_map (fact_text format) facts

-- a text is one line: just one newline stands in it, at its end
pub record IsOneLine (text : List ℕ) : Type 0 where
  pub line : List ℕ
  pub ends : text ≡ line ++ 10 ∷ []
  pub once : member 10 line ≡ false
