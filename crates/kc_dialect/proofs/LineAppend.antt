-- Lines one after the other: the plain ones among them, and the bad ones.
use Rattle.std.proofs.Common.{◌≡◌, ◌+◌, ℕ, List, [], ◌∷◌, ◌++◌, length, sym, ap, ◌∙◌, arith}
use Rattle.std.proofs.Common.{append_assoc}
use Rattle.kc_dialect.specs.declared.bad_line.BadLine.{BadLine}
use Rattle.kc_dialect.specs.declared.dialect.Dialect.{Dialect}
use Rattle.kc_dialect.specs.Dialects.{bad_line, bad_lines_after, said_after, plain_line, plain_lines}

-- a place one line on, and so many behind it
later : (n : ℕ) (line : List ℕ) (rest : List (List ℕ)) → (n + 1) + length rest ≡ n + length (line ∷ rest)
later n line rest = omega arith

-- the plain lines of lines one after the other
pub plain-append : (dialect : Dialect) (n : ℕ) (xs ys : List (List ℕ))
    → plain_lines dialect n (xs ++ ys) ≡ plain_lines dialect n xs ++ plain_lines dialect (n + length xs) ys
plain-append dialect n [] ys = ap (λ k. plain_lines dialect k ys) (let e : n ≡ n + 0 = omega arith in e)
plain-append dialect n (line ∷ xs) ys =
    let first : List ℕ = plain_line (said_after dialect n line) in
    ap (λ (t : List ℕ). first ++ t) (plain-append dialect (n + 1) xs ys)
    ∙ sym (append_assoc first (plain_lines dialect (n + 1) xs) (plain_lines dialect ((n + 1) + length xs) ys))
    ∙ ap (λ k. (first ++ plain_lines dialect (n + 1) xs) ++ plain_lines dialect k ys) (later n line xs)

-- the bad lines among lines one after the other
pub bad-append : (dialect : Dialect) (n : ℕ) (xs ys : List (List ℕ))
    → bad_lines_after dialect n (xs ++ ys) ≡ bad_lines_after dialect n xs ++ bad_lines_after dialect (n + length xs) ys
bad-append dialect n [] ys = ap (λ k. bad_lines_after dialect k ys) (let e : n ≡ n + 0 = omega arith in e)
bad-append dialect n (line ∷ xs) ys =
    let first : List BadLine = bad_line (n + 1) (said_after dialect n line) in
    ap (λ (t : List BadLine). first ++ t) (bad-append dialect (n + 1) xs ys)
    ∙ sym (append_assoc first (bad_lines_after dialect (n + 1) xs) (bad_lines_after dialect ((n + 1) + length xs) ys))
    ∙ ap (λ k. (first ++ bad_lines_after dialect (n + 1) xs) ++ bad_lines_after dialect k ys) (later n line xs)
