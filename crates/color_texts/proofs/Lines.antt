-- The lines of a colouring, one after another.
use Rattle.std.proofs.Common.{◌≡◌, ◌∙◌, ap, sym, refl, ℕ, zero, suc, ◌+◌, List, [], ◌∷◌, ◌++◌, map, arith, append_assoc}
use Rattle.std.specs.List.{range_with_len}
use Rattle.std.specs.Prelude.{slice_index, decimal, codes}
use Rattle.std.proofs.lemmas.Grind.{common_steps}
use Rattle.fem_text.specs.Written.{text_of}
use Rattle.conflict_coloring.specs.Coloring.{Coloring, color_count}
use Rattle.color_texts.specs.Text.{count_line, cell_line, cell_lines, text_before}

range_suc : (a n : ℕ) → range_with_len a (suc n) ≡ range_with_len a n ++ (a + n) ∷ []
range_suc a zero = ap (λ x. x ∷ []) (let e : a ≡ a + 0 = omega arith in e)
range_suc a (suc n) =
    ap (λ ys. a ∷ ys) (range_suc (a + 1) n ∙ ap (λ x. range_with_len (a + 1) n ++ x ∷ []) (let e : a + 1 + n ≡ a + suc n = omega arith in e))

range_next : (n : ℕ) → range_with_len 0 (n + 1) ≡ range_with_len 0 n ++ n ∷ []
range_next n = ap (range_with_len 0) (let e : n + 1 ≡ suc n = omega arith in e) ∙ range_suc 0 n ∙ ap (λ x. range_with_len 0 n ++ x ∷ []) (let e : 0 + n ≡ n = omega arith in e)

map_end : (f : ℕ → List ℕ) (xs : List ℕ) (x : ℕ) → map f (xs ++ x ∷ []) ≡ map f xs ++ f x ∷ []
map_end f [] x = refl
map_end f (y ∷ xs) x = ap (λ rest. f y ∷ rest) (map_end f xs x)

text_end : (lines : List (List ℕ)) (line : List ℕ) → text_of (lines ++ line ∷ []) ≡ text_of lines ++ text_of (line ∷ [])
text_end [] line = refl
text_end (first ∷ lines) line = ap (λ rest. (first ++ 10 ∷ []) ++ rest) (text_end lines line) ∙ sym (append_assoc (first ++ 10 ∷ []) (text_of lines) (text_of (line ∷ [])))

-- one line more
pub next_line : (c : Coloring) (cell : ℕ) → text_before c (cell + 1) ≡ text_before c cell ++ text_of (cell_line cell (slice_index c.zones cell) (slice_index c.colors cell) ∷ [])
unfolding text_before
next_line c cell =
    let f : ℕ → List ℕ = λ k. cell_line k (slice_index c.zones k) (slice_index c.colors k) in
    ap (λ lines. text_of (count_line (color_count c) ∷ lines)) (ap (map f) (range_next cell) ∙ map_end f (range_with_len 0 cell) cell)
    ∙ text_end (count_line (color_count c) ∷ cell_lines c cell) (f cell)

-- the first line
pub first_line : (c : Coloring) → text_before c 0 ≡ codes "colors " ++ (decimal (color_count c) ++ 10 ∷ [])
unfolding text_before
first_line c = grind (arith, common_steps)
