-- Texts that are written piece by piece.
use Rattle.std.proofs.Common.{◌≡◌, ◌∙◌, sym, ap, refl, ℕ, ℤ, ◌+◌, ◌-◌, ◌^◌, ◌≤◌, min, List, [], ◌∷◌, ◌++◌, length, append-nil, arith, ◌⊎◌, inl, inr}
use Rattle.matrix_market.specs.Parts.{row_text}

-- a row ends where its columns or its values end
pub row_ends : (i : ℕ) (columns : List ℕ) (values : List ℤ) → (columns ≡ []) ⊎ (values ≡ []) → row_text i columns values ≡ []
row_ends i columns values (inl none) = ap (λ left. row_text i left values) none
row_ends i [] values (inr none) = refl
row_ends i (j ∷ columns) values (inr none) = ap (row_text i (j ∷ columns)) none

-- nothing is left
pub at_end : (text left whole : List ℕ) → text ++ left ≡ whole → left ≡ [] → text ≡ whole
at_end text left whole all none = sym (append-nil text) ∙ ap (λ tail. text ++ tail) (sym none) ∙ all

-- what is left is empty, so the size so far is the whole size
pub size_at_end : (size whole : ℕ) (left : List ℕ) → min (size + length left) (2 ^ 64 - 1) ≡ whole → left ≡ [] → size ≤ 2 ^ 64 - 1 → size ≡ whole
size_at_end size whole left all none fits = let empty : length left ≡ 0 = ap length none in omega arith
