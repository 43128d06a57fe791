-- What a text in the Matrix Market exchange format says, and its first fault.
use Rattle.std.specs.Prelude.{◌≡◌, ◌⊎◌, ℕ, ℤ, List, [], ◌∷◌, codes, ◌==◌, if◌then◌else◌, Some, None, Ok}
use Rattle.std.specs.declared.option.Option.{Option}
use Rattle.std.specs.declared.result.Result.{Result}
use Rattle.std.specs.List.{slice_get}
use Rattle.fem_text.specs.WordLines.{Line, Lines, text_lines, behind, behind_comments}
use Rattle.fem_text.specs.Reading.{outcome, IsFault, ReadsAll, FailsFirst}
use Rattle.fem_text.specs.declared.fault.TextFault.{TextFault}
use Rattle.matrix_market.specs.declared.fault.MarketKind.{MarketKind}
use Rattle.matrix_market.specs.declared.fault.MarketKind.TheVariants.{Banner, Entry, TooFew, NoMemory}
use Rattle.matrix_market.specs.declared.size.MatrixSize.{MatrixSize}
use Rattle.matrix_market.specs.Entries.{Triple}
use Rattle.matrix_market.specs.Lines.{banner_line, matrix_size, matrix_entry, vector_size, vector_entry}

-- a form of text: the format that its banner names, what its size line gives, how many entry lines that tells, and what
-- each entry line gives
pub record Form (S X : Type 0) : Type 0 where
  pub format : List ℕ
  pub size : List (List ℕ) → Result S MarketKind
  pub count : S → ℕ
  pub entry : S → List (List ℕ) → Result X MarketKind

-- the first line with words, where it is line 1
abbrev pub line_one : List Line → Option Line
line_one [] = None
line_one (line ∷ more) = if line.number == 1 then Some line else None

-- line 1 has the words of the banner
abbrev pub HasBanner : List ℕ → Lines → Type 0
HasBanner format lines = outcome Banner (banner_line format) (line_one lines.ahead) ≡ Ok tt

-- behind the banner and the lines that begin with `%`
abbrev pub from_size : Lines → Lines
from_size lines = behind_comments 37 (behind 1 lines)

-- behind the size line
abbrev pub from_entries : Lines → Lines
from_entries lines = behind 1 (from_size lines)

-- behind the banner stands this size line
pub record HasSize {S X : Type 0} (form : Form S X) (lines : Lines) (size : S) : Type 0 where
  pub banner : HasBanner form.format lines
  pub first : outcome TooFew form.size (slice_get (from_size lines).ahead 0) ≡ Ok size

-- behind the size line stand these entries
pub record HasEntries {S X : Type 0} (form : Form S X) (lines : Lines) (size : S) (entries : List X) : Type 0 where
  pub size_is : HasSize form lines size
  pub entries_are : ReadsAll TooFew (λ before. form.entry size) (from_entries lines) (form.count size) entries

-- and no line with words follows them
pub record Says {S X : Type 0} (form : Form S X) (lines : Lines) (size : S) (entries : List X) : Type 0 where
  pub has : HasEntries form lines size entries
  pub ends : (behind (form.count size) (from_entries lines)).ahead ≡ []

-- line 1 hasn't the words of the banner, or there is no line 1
pub record NoBanner (format : List ℕ) (lines : Lines) (kind : MarketKind) (line : ℕ) : Type 0 where
  pub none : (banner : HasBanner format lines) → ⊥
  pub kind_is : kind ≡ Banner
  pub line_is : line ≡ 1

-- this is the first of these lines
pub record Follows (lines : Lines) (kind : MarketKind) (line : ℕ) : Type 0 where
  pub extra : Line
  pub first : slice_get lines.ahead 0 ≡ Some extra
  pub kind_is : kind ≡ Entry
  pub line_is : line ≡ extra.number

-- the first line with a fault is the banner, the size line, an entry line, or a line behind them
pub data FaultIn {S X : Type 0} (form : Form S X) (lines : Lines) (kind : MarketKind) (line : ℕ) : Type 0 where
  in_banner : NoBanner form.format lines kind line → FaultIn form lines kind line
  in_size : HasBanner form.format lines → IsFault TooFew form.size (from_size lines) 0 kind line → FaultIn form lines kind line
  in_entries : (size : S) → HasSize form lines size →
      FailsFirst TooFew (λ before. form.entry size) (from_entries lines) (form.count size) kind line → FaultIn form lines kind line
  in_rest : (size : S) (entries : List X) → HasEntries form lines size entries →
      Follows (behind (form.count size) (from_entries lines)) kind line → FaultIn form lines kind line

-- the form of matrices
abbrev pub matrix_form : Form MatrixSize Triple
matrix_form = record { format = codes "coordinate"; size = matrix_size; count = λ size. size.count; entry = matrix_entry }

-- the form of right sides
abbrev pub vector_form : Form ℕ ℤ
vector_form = record { format = codes "array"; size = vector_size; count = λ size. size; entry = λ size. vector_entry }

-- a matrix: how many rows and columns it has, and its entries in the order of the text
pub record Matrix : Type 0 where
  pub rows : ℕ
  pub columns : ℕ
  pub entries : List Triple

-- the text is of this matrix
pub record MatrixText (text : List ℕ) (matrix : Matrix) : Type 0 where
  pub size : MatrixSize
  pub entries : List Triple
  pub says : Says matrix_form (text_lines None text) size entries
  pub matrix_is : matrix ≡ record { rows = size.rows; columns = size.columns; entries = entries }

-- the first line with a fault of a text that is to be of a matrix has this number, and this is its fault
abbrev pub MatrixFaultAt : List ℕ → MarketKind → ℕ → Type 0
MatrixFaultAt text kind line = FaultIn matrix_form (text_lines None text) kind line

-- the text is of this right side
pub record VectorText (text : List ℕ) (values : List ℤ) : Type 0 where
  pub size : ℕ
  pub says : Says vector_form (text_lines None text) size values

-- the first line with a fault of a text that is to be of a right side has this number, and this is its fault
abbrev pub VectorFaultAt : List ℕ → MarketKind → ℕ → Type 0
VectorFaultAt text kind line = FaultIn vector_form (text_lines None text) kind line

-- memory ran out, at no line
abbrev pub no_memory : TextFault MarketKind
no_memory = record { kind = NoMemory; line = 0 }

-- memory ran out, or this is so
abbrev pub NoMemoryOr : TextFault MarketKind → Type 0 → Type 0
NoMemoryOr fault P = (fault ≡ no_memory) ⊎ P
