-- The two numbers end at gaps, which are a separator and a newline.
use Rattle.std.proofs.Common.{List, ℕ, ◌+◌, ◌∙◌, drop, sym}
use Rattle.kc_dialect.proofs.GapBits.{gaps-behind, plain-by}
use Rattle.kc_dialect.proofs.plain_runs.plain_len_by.Goals as goal

pub returns-clause-plain : goal.returns-clause-plain
returns-clause-plain c =
    let bytes : List ℕ = c.args.bytes.now in
    let first = c.in_ok-first.ensures.1 bytes c.requires in
    let second = c.in_ok-second.ensures.1 (drop (c.in_ok-first.first + 1) bytes) first.behind in
    plain-by c.args.separator bytes c.args.gaps c.in_ok-first.first c.in_ok-second.second first second
    (sym c.is_separator.ensures ∙ c.if-not-is_separator.false) c.if-bytes-first-ne10.false

pub returns-clause-behind : goal.returns-clause-behind
returns-clause-behind c =
    let bytes : List ℕ = c.args.bytes.now in
    let first = c.in_ok-first.ensures.1 bytes c.requires in
    let second = c.in_ok-second.ensures.1 (drop (c.in_ok-first.first + 1) bytes) first.behind in
    gaps-behind bytes c.args.gaps c.in_ok-first.first c.in_ok-second.second second
