-- The lines of a summary, one behind the other.
use Rattle.std.proofs.Common.{◌≡◌, ◌∙◌, ap, ℕ, ℤ, List, [], ◌∷◌, ◌++◌, length, decimal}
use Rattle.std.specs.Prelude.{codes}
use Rattle.std.specs.Fmt.{signed_decimal}
use Rattle.std.specs.List.{concat}
use Rattle.fem_text.specs.Written.{text_of}
use Rattle.fem_text.proofs.Joined.{text_joins}
use Rattle.run_summary.specs.Summary.{number_line, diagonal_sum, matrix_sum, vector_sum, summary_text}

-- a line more
pub line_more : (text now : List ℕ) (lines : List (List ℕ)) (line : List ℕ) → text ≡ text_of lines → now ≡ text ++ text_of (line ∷ []) → now ≡ text_of (lines ++ line ∷ [])
line_more text now lines line so_far step = step ∙ ap (λ start. start ++ text_of (line ∷ [])) so_far ∙ text_joins [] lines (line ∷ [])

abbrev pub lines_of : ℕ → ℕ → ℕ → ℤ → ℤ → ℤ → List (List ℕ)
lines_of cells dofs entries diagonal weighted rhs =
    number_line (codes "cells") (decimal cells)
    ∷ number_line (codes "dofs") (decimal dofs)
    ∷ number_line (codes "entries") (decimal entries)
    ∷ number_line (codes "diagonal") (signed_decimal diagonal)
    ∷ number_line (codes "weighted") (signed_decimal weighted)
    ∷ number_line (codes "rhs") (signed_decimal rhs)
    ∷ []

pub whole_summary : (cells : ℕ) (pattern : List (List ℕ)) (values : List (List ℤ)) (right : List ℤ) (dofs entries : ℕ) (diagonal weighted rhs : ℤ) →
    dofs ≡ length pattern → entries ≡ length (concat pattern) → diagonal ≡ diagonal_sum pattern values → weighted ≡ matrix_sum pattern values → rhs ≡ vector_sum right →
    text_of (lines_of cells dofs entries diagonal weighted rhs) ≡ summary_text cells pattern values right
unfolding summary_text
whole_summary cells pattern values right dofs entries diagonal weighted rhs n m d w r = λ i. text_of (lines_of cells (n i) (m i) (d i) (w i) (r i))
