-- Texts that are written line by line.
use Rattle.std.specs.Prelude.{ℕ, List, [], ◌∷◌, ◌++◌}
use Rattle.std.specs.List.{flat_map, join_with_byte}

-- the lines one behind the other, each with a byte 10 at its end
abbrev pub text_of : List (List ℕ) → List ℕ
text_of lines = flat_map (λ line. line ++ 10 ∷ []) lines

-- words with a blank between each two
abbrev pub line_of : List (List ℕ) → List ℕ
line_of words = join_with_byte 32 words
