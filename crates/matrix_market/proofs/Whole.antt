-- Texts of first lines and others behind them.
use Rattle.std.proofs.Common.{◌≡◌, ◌∙◌, sym, ap, ℕ, ℤ, ◌+◌, ◌-◌, ◌^◌, ◌≤◌, min, List, [], ◌++◌, length, map, drop, length-append, arith}
use Rattle.std.specs.Fmt.{signed_decimal}
use Rattle.std.specs.List.{concat}
use Rattle.std.proofs.lemmas.List.{length-map}
use Rattle.std.proofs.lemmas.Grind.{common_steps}
use Rattle.sparsity.specs.declared.rows.Row.{Row}
use Rattle.matrix_market.specs.Entries.{entries_of, right_sides}
use Rattle.fem_text.specs.Written.{text_of}
use Rattle.matrix_market.specs.Texts.{entry_line, matrix_front, matrix_text, vector_front, vector_text, pair_lines, pattern_front, pattern_text}
use Rattle.matrix_market.specs.Parts.{size_of, rows_text, pairs_text, values_text}
use Rattle.fem_text.proofs.Joined.{text_joins, room_joins}

pub record IsWhole (front lines : List (List ℕ)) (whole : List ℕ) : Type 0 where
  pub is : whole ≡ text_of (front ++ lines)

pub size_of_whole : (front lines : List (List ℕ)) (whole : List ℕ) (size : ℕ) → IsWhole front lines whole → size ≡ length (text_of front) →
    min (size + length (text_of lines)) (2 ^ 64 - 1) ≡ size_of whole
size_of_whole front lines whole size w first =
    let all : length whole ≡ length (text_of front ++ text_of lines) = ap length (w.is ∙ sym (text_joins [] front lines)) in
    let parts : length (text_of front ++ text_of lines) ≡ length (text_of front) + length (text_of lines) = length-append (text_of front) (text_of lines) in
    let sum : size + length (text_of lines) ≡ length whole = omega arith in
    ap (λ n. min n (2 ^ 64 - 1)) sum

pub room_for_front : (front lines : List (List ℕ)) (whole text : List ℕ) (room : ℕ) → IsWhole front lines whole → text ≡ [] → length whole ≤ room →
    length (text ++ text_of front) ≤ room
room_for_front front lines whole text room w empty h =
    let all : length whole ≡ length (text ++ text_of (front ++ lines)) = ap length (w.is ∙ ap (λ start. start ++ text_of (front ++ lines)) (sym empty)) in
    room_joins text front lines room (omega arith)

pub whole_text : (front lines : List (List ℕ)) (whole text now : List ℕ) → IsWhole front lines whole → text ≡ [] → now ≡ text ++ text_of front → now ++ text_of lines ≡ whole
whole_text front lines whole text now w empty added =
    ap (λ start. start ++ text_of lines) (added ∙ ap (λ start. start ++ text_of front) empty) ∙ text_joins [] front lines ∙ sym w.is

pub room_for_rest : (front lines : List (List ℕ)) (whole text now : List ℕ) (room more : ℕ) → IsWhole front lines whole → text ≡ [] → now ≡ text ++ text_of front →
    length whole ≤ room → room ≤ more → length (now ++ text_of lines) ≤ more
room_for_rest front lines whole text now room more w empty added h grows =
    let all : length (now ++ text_of lines) ≡ length whole = ap length (whole_text front lines whole text now w empty added) in
    omega arith

pub matrix_whole : (pattern : List (List ℕ)) (values : List (List ℤ)) (size count : ℕ) → size ≡ length pattern → count ≡ length (concat pattern) →
    IsWhole (matrix_front size count) (map entry_line (entries_of pattern values)) (matrix_text pattern values)
unfolding matrix_text
matrix_whole pattern values size count s c =
    record { is = λ i. text_of (matrix_front (sym s i) (sym c i) ++ map entry_line (entries_of pattern values)) }

pub pattern_whole : (pattern : List (List ℕ)) (size count : ℕ) → size ≡ length pattern → count ≡ length (concat pattern) →
    IsWhole (pattern_front size count) (pair_lines 0 pattern) (pattern_text pattern)
unfolding pattern_text
pattern_whole pattern size count s c = record { is = λ i. text_of (pattern_front (sym s i) (sym c i) ++ pair_lines 0 pattern) }

pub vector_whole : (values : List ℤ) (size : ℕ) → size ≡ length values → IsWhole (vector_front size) (map signed_decimal values) (vector_text values)
unfolding vector_text
vector_whole values size s = record { is = λ i. text_of (vector_front (sym s i) ++ map signed_decimal values) }

pub drop_all : {A : Type 0} (list : List A) (n : ℕ) → length list ≤ n → drop n list ≡ []
drop_all list n h = grind (arith, common_steps)

pub rows_end : (pattern : List (List ℕ)) (values : List (List ℤ)) (n : ℕ) → length pattern ≤ n → rows_text n (drop n pattern) values ≡ []
rows_end pattern values n h = ap (λ rows. rows_text n rows values) (drop_all pattern n h)

pub pairs_end : (pattern : List (List ℕ)) (n : ℕ) → length pattern ≤ n → pairs_text n (drop n pattern) ≡ []
pairs_end pattern n h = ap (pairs_text n) (drop_all pattern n h)

pub values_end : (values : List ℤ) (n : ℕ) → length values ≤ n → values_text (drop n values) ≡ []
values_end values n h = ap values_text (drop_all values n h)

pub vector_length : (rows : List Row) (size : ℕ) → size ≡ length rows → size ≡ length (right_sides rows)
vector_length rows size h = h ∙ sym (length-map rows (λ (row : Row). row.rhs))
