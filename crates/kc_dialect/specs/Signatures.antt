-- What the first bytes of a file tell of it.
use Rattle.std.specs.Prelude.{ℕ, Bool, List, [], ◌∷◌, length, take, codes, if◌then◌else◌, Option, Some, None}
use Rattle.std.specs.Str.{bytes_eq}
use Rattle.kc_dialect.specs.declared.signatures.Signature.{Signature}
use Rattle.kc_dialect.specs.declared.signatures.Signature.TheVariants.{Gzip, Bzip2, Xz, Zstd, Utf16Le, Utf16Be, MatrixMarket}

-- whether a text begins with these bytes
abbrev pub begins_with : List ℕ → List ℕ → Bool
begins_with front text = bytes_eq front (take (length front) text)

-- the format that these bytes begin a file of, if they are the mark of one
abbrev pub signature_of : List ℕ → Option Signature
signature_of first =
    if begins_with (31 ∷ 139 ∷ []) first then Some Gzip
    else if begins_with (codes "BZh") first then Some Bzip2
    else if begins_with (253 ∷ 55 ∷ 122 ∷ 88 ∷ 90 ∷ 0 ∷ []) first then Some Xz
    else if begins_with (40 ∷ 181 ∷ 47 ∷ 253 ∷ []) first then Some Zstd
    else if begins_with (255 ∷ 254 ∷ []) first then Some Utf16Le
    else if begins_with (254 ∷ 255 ∷ []) first then Some Utf16Be
    else if begins_with (codes "%%MatrixMarket") first then Some MatrixMarket
    else None
