-- No line has the kind of fault that says that memory ran out.
use Rattle.std.proofs.Common.{ℕ, ◌-◌, List, length, ◌&&◌, nat_lt, Bool, true, false}
use Rattle.std.specs.Prelude.{Ok, Err, codes, nat_le, if◌then◌else◌}
use Rattle.std.specs.declared.result.Result.{Result}
use Rattle.std.specs.Str.{bytes_eq}
use Rattle.fem_text.specs.WordLines.{Lines}
use Rattle.fem_text.proofs.NeverKind.{Never, good, bad, bind, of_option, of_test, of_exact, of_word, of_id, no_fault}
use Rattle.matrix_market.specs.declared.fault.MarketKind.{MarketKind}
use Rattle.matrix_market.specs.declared.fault.MarketKind.TheVariants as kinds
use Rattle.matrix_market.specs.declared.size.MatrixSize.{MatrixSize}
use Rattle.matrix_market.specs.Values.{count_of, value_of}
use Rattle.fem_text.specs.Words.{this_word}
use Rattle.matrix_market.specs.Lines.{matrix_size, vector_size, index_at, value_at, matrix_entry, vector_entry}
use Rattle.matrix_market.specs.Market.{Form, FaultIn, in_banner, in_size, in_entries, in_rest, from_size, from_entries, matrix_form, vector_form}

-- it isn't that memory ran out
abbrev OfText : {A : Type 0} → Result A MarketKind → Type 0
OfText r = Never kinds.NoMemory r

of_this_word : (wanted : List ℕ) (words : List (List ℕ)) (place : ℕ) → OfText (this_word kinds.Size wanted words place)
unfolding this_word
of_this_word wanted words place =
    bind _ _ _ (of_word _ kinds.Size words place (λ h. cc)) (λ word. of_test _ kinds.Size (bytes_eq word wanted) (λ h. cc))

of_matrix_size : (words : List (List ℕ)) → OfText (matrix_size words)
unfolding matrix_size
of_matrix_size words =
    bind _ _ _ (of_exact _ 3 kinds.Size words (λ h. cc)) (λ three.
    bind _ _ _ (of_id _ kinds.Size words 0 (λ h. cc)) (λ rows.
    bind _ _ _ (of_id _ kinds.Size words 1 (λ h. cc)) (λ columns.
    bind _ _ _ (of_word _ kinds.Size words 2 (λ h. cc)) (λ word.
    bind _ _ _ (of_option _ kinds.Size (count_of word) (λ h. cc)) (λ count. good _ (record { rows = rows; columns = columns; count = count }))))))

of_vector_size : (words : List (List ℕ)) → OfText (vector_size words)
unfolding vector_size
of_vector_size words =
    bind _ _ _ (of_exact _ 2 kinds.Size words (λ h. cc)) (λ two.
    bind _ _ _ (of_id _ kinds.Size words 0 (λ h. cc)) (λ rows.
    bind _ _ _ (of_this_word (codes "1") words 1) (λ column. good _ rows)))

of_choice : (test : Bool) (index : ℕ) → OfText (if test then Ok index else Err kinds.Entry)
of_choice true index = good _ index
of_choice false index = bad _ _ (λ h. cc)

of_index : (size : ℕ) (words : List (List ℕ)) (place : ℕ) → OfText (index_at size words place)
unfolding index_at
of_index size words place =
    bind _ _ _ (of_id _ kinds.Entry words place (λ h. cc)) (λ index. of_choice (nat_lt 0 index && nat_le index size) (index - 1))

of_value : (words : List (List ℕ)) (place : ℕ) → OfText (value_at words place)
unfolding value_at
of_value words place =
    bind _ _ _ (of_word _ kinds.Entry words place (λ h. cc)) (λ word. of_option _ kinds.Entry (value_of word) (λ h. cc))

of_matrix_entry : (size : MatrixSize) (words : List (List ℕ)) → OfText (matrix_entry size words)
unfolding matrix_entry
of_matrix_entry size words =
    bind _ _ _ (of_exact _ 3 kinds.Entry words (λ h. cc)) (λ three.
    bind _ _ _ (of_index size.rows words 0) (λ row.
    bind _ _ _ (of_index size.columns words 1) (λ column.
    bind _ _ _ (of_value words 2) (λ value. good _ (row, column, value)))))

of_vector_entry : (words : List (List ℕ)) → OfText (vector_entry words)
unfolding vector_entry
of_vector_entry words = bind _ _ _ (of_exact _ 1 kinds.Entry words (λ h. cc)) (λ one. of_value words 0)

never : {S X : Type 0} (form : Form S X) (lines : Lines) (line : ℕ) → ((words : List (List ℕ)) → OfText (form.size words)) →
    ((size : S) (words : List (List ℕ)) → OfText (form.entry size words)) → FaultIn form lines kinds.NoMemory line → ⊥
never form lines line sizes entries (in_banner lacks) = let kind = lacks.kind_is in cc
never form lines line sizes entries (in_size has fault) = no_fault kinds.NoMemory kinds.TooFew form.size (from_size lines) 0 line (λ h. cc) sizes fault
never form lines line sizes entries (in_entries size has fails) =
    no_fault kinds.NoMemory kinds.TooFew (form.entry size) (from_entries lines) (length fails.before) line (λ h. cc) (entries size) fails.fault
never form lines line sizes entries (in_rest size list has follows) = let kind = follows.kind_is in cc

pub never_memory_matrix : (lines : Lines) (line : ℕ) → FaultIn matrix_form lines kinds.NoMemory line → ⊥
never_memory_matrix lines line fault = never matrix_form lines line of_matrix_size of_matrix_entry fault

pub never_memory_vector : (lines : Lines) (line : ℕ) → FaultIn vector_form lines kinds.NoMemory line → ⊥
never_memory_vector lines line fault = never vector_form lines line of_vector_size (λ size. of_vector_entry) fault
