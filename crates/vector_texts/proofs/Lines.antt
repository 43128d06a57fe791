-- The lines of marked cells, one after another.
use Rattle.std.proofs.Common.{◌≡◌, ◌∙◌, ap, sym, refl, ℕ, ◌+◌, ◌<◌, ◌≤◌, List, [], ◌∷◌, ◌++◌, length, map, take, arith, append_assoc}
use Rattle.std.specs.Prelude.{slice_index, decimal, codes}
use Rattle.std.proofs.lemmas.List.{take_more}
use Rattle.std.proofs.lemmas.Grind.{common_steps}
use Rattle.fem_text.specs.Written.{text_of}
use Rattle.vector_texts.specs.Text.{marks_line, pair_line, mark_line, marks_text}

-- the text up to the line of the cell at this place
unfoldable pub text_before : List ℕ → List ℕ → ℕ → List ℕ
text_before etas cells place = text_of (marks_line (length cells) ∷ map (mark_line etas) (take place cells))

map_end : (f : ℕ → List ℕ) (xs : List ℕ) (x : ℕ) → map f (xs ++ x ∷ []) ≡ map f xs ++ f x ∷ []
map_end f [] x = refl
map_end f (y ∷ xs) x = ap (λ rest. f y ∷ rest) (map_end f xs x)

text_end : (lines : List (List ℕ)) (line : List ℕ) → text_of (lines ++ line ∷ []) ≡ text_of lines ++ text_of (line ∷ [])
text_end [] line = refl
text_end (first ∷ lines) line = ap (λ rest. (first ++ 10 ∷ []) ++ rest) (text_end lines line) ∙ sym (append_assoc (first ++ 10 ∷ []) (text_of lines) (text_of (line ∷ [])))

-- one line more
pub next_line : (etas cells : List ℕ) (place : ℕ) → place < length cells →
    text_before etas cells (place + 1) ≡ text_before etas cells place ++ text_of (pair_line (slice_index cells place) (slice_index etas (slice_index cells place)) ∷ [])
unfolding text_before
next_line etas cells place within =
    ap (λ lines. text_of (marks_line (length cells) ∷ lines)) (ap (map (mark_line etas)) (take_more cells place 0 within) ∙ map_end (mark_line etas) (take place cells) (slice_index cells place))
    ∙ text_end (marks_line (length cells) ∷ map (mark_line etas) (take place cells)) (mark_line etas (slice_index cells place))

-- the first line
pub first_line : (etas cells : List ℕ) → text_before etas cells 0 ≡ codes "marks " ++ (decimal (length cells) ++ 10 ∷ [])
unfolding text_before
first_line etas cells = grind (arith, common_steps)

take_all : (cells : List ℕ) (n : ℕ) → length cells ≤ n → take n cells ≡ cells
take_all cells n all = grind (arith, common_steps)

pub all_lines : (etas cells : List ℕ) (n : ℕ) → length cells ≤ n → text_before etas cells n ≡ marks_text etas cells
unfolding text_before marks_text
all_lines etas cells n all = ap (λ marked. text_of (marks_line (length cells) ∷ map (mark_line etas) marked)) (take_all cells n all)
