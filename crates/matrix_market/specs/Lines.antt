-- The lines of a text that is read, by their words.
use Rattle.std.specs.Prelude.{ℕ, ◌-◌, List, codes, ℤ, ◌&&◌, nat_lt, nat_le, if◌then◌else◌, Ok, Err}
use Rattle.std.specs.declared.result.Result.{Result}
use Rattle.fem_text.specs.Words.{◌>>=◌, or_fault, exactly, word_at, this_word, id_at}
use Rattle.matrix_market.specs.declared.fault.MarketKind.{MarketKind}
use Rattle.matrix_market.specs.declared.fault.MarketKind.TheVariants as kinds
use Rattle.matrix_market.specs.declared.size.MatrixSize.{MatrixSize}
use Rattle.matrix_market.specs.Entries.{Triple}
use Rattle.matrix_market.specs.Values.{count_of, value_of}

-- the five words of a banner, of this format
unfoldable pub banner_line : List ℕ → List (List ℕ) → Result (Unit {0}) MarketKind
banner_line format words = do
  five ← exactly 5 kinds.Banner words
  start ← this_word kinds.Banner (codes "%%MatrixMarket") words 0
  object ← this_word kinds.Banner (codes "matrix") words 1
  third ← this_word kinds.Banner format words 2
  field ← this_word kinds.Banner (codes "integer") words 3
  this_word kinds.Banner (codes "general") words 4

-- the size line of a matrix: how many rows, columns and entries it has
unfoldable pub matrix_size : List (List ℕ) → Result MatrixSize MarketKind
matrix_size words = do
  three ← exactly 3 kinds.Size words
  rows ← id_at kinds.Size words 0
  columns ← id_at kinds.Size words 1
  word ← word_at kinds.Size words 2
  count ← or_fault kinds.Size (count_of word)
  Ok (record { rows = rows; columns = columns; count = count })

-- the size line of a right side: how many values it has, in one column
unfoldable pub vector_size : List (List ℕ) → Result ℕ MarketKind
vector_size words = do
  two ← exactly 2 kinds.Size words
  rows ← id_at kinds.Size words 0
  column ← this_word kinds.Size (codes "1") words 1
  Ok rows

-- from 1 to the size; counted from 0 it is one less
abbrev pub from_zero : ℕ → ℕ → Result ℕ MarketKind
from_zero size index = if nat_lt 0 index && nat_le index size then Ok (index - 1) else Err kinds.Entry

-- the index that stands at a place, from 0
unfoldable pub index_at : ℕ → List (List ℕ) → ℕ → Result ℕ MarketKind
index_at size words place = do
  index ← id_at kinds.Entry words place
  from_zero size index

-- the value that stands at a place
unfoldable pub value_at : List (List ℕ) → ℕ → Result ℤ MarketKind
value_at words place = do
  word ← word_at kinds.Entry words place
  or_fault kinds.Entry (value_of word)

-- the line of an entry of a matrix: its row, its column and its value
unfoldable pub matrix_entry : MatrixSize → List (List ℕ) → Result Triple MarketKind
matrix_entry size words = do
  three ← exactly 3 kinds.Entry words
  row ← index_at size.rows words 0
  column ← index_at size.columns words 1
  value ← value_at words 2
  Ok (row, column, value)

-- the line of a value of a right side
unfoldable pub vector_entry : List (List ℕ) → Result ℤ MarketKind
vector_entry words = do
  one ← exactly 1 kinds.Entry words
  value_at words 0
