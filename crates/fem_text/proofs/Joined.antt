-- Texts of lines, one behind the other.
use Rattle.std.proofs.Common.{◌≡◌, ◌∙◌, sym, ap, ℕ, ◌≤◌, List, [], ◌∷◌, ◌++◌, length, append_assoc, length-append, arith}
use Rattle.std.proofs.lemmas.List.Concat.{flat_map-append}
use Rattle.fem_text.specs.Written.{text_of}

-- lines behind a text and lines behind those are all these lines behind the text
pub text_joins : (text : List ℕ) (lines more : List (List ℕ)) → (text ++ text_of lines) ++ text_of more ≡ text ++ text_of (lines ++ more)
text_joins text lines more =
    append_assoc text (text_of lines) (text_of more) ∙ ap (λ tail. text ++ tail) (sym (flat_map-append (λ line. line ++ 10 ∷ []) lines more))

-- where there is room for all lines, there is for the first ones
pub room_joins : (text : List ℕ) (lines more : List (List ℕ)) (room : ℕ) → length (text ++ text_of (lines ++ more)) ≤ room → length (text ++ text_of lines) ≤ room
room_joins text lines more room h =
    let all : length ((text ++ text_of lines) ++ text_of more) ≡ length (text ++ text_of (lines ++ more)) = ap length (text_joins text lines more) in
    omega (arith, all, length-append (text ++ text_of lines) (text_of more))
