-- What lines look like, by their first word.
use Rattle.std.specs.Prelude.{ℕ, List, ◌∷◌, [], length, codes, Bool, false, ◌==◌, ◌&&◌, nat_lt, if◌then◌else◌, Some, None, Ok}
use Rattle.std.specs.declared.option.Option.{Option}
use Rattle.std.specs.declared.result.Result.{Result}
use Rattle.std.specs.Str.{bytes_eq}
use Rattle.fem_text.specs.Words.{◌>>=◌, or_fault, unless, word_at}
use Rattle.problem_read.specs.declared.fault.ProblemKind.{ProblemKind}
use Rattle.problem_read.specs.declared.fault.ProblemKind.TheVariants as kinds
use Rattle.problem_read.specs.declared.keyword.Keyword.{Keyword}
use Rattle.problem_read.specs.declared.keyword.Keyword.TheVariants as keywords
use Rattle.problem_read.specs.Sums.{is_sum}

-- the first words of lines
unfoldable pub keyword_of : List ℕ → Option Keyword
keyword_of word =
    if bytes_eq word (codes "diffusion") then Some keywords.Diffusion
    else if bytes_eq word (codes "source") then Some keywords.Source
    else if bytes_eq word (codes "robin") then Some keywords.Robin
    else if bytes_eq word (codes "dirichlet") then Some keywords.Dirichlet
    else if bytes_eq word (codes "penalty") then Some keywords.Penalty
    else if bytes_eq word (codes "refine") then Some keywords.Refine
    else if bytes_eq word (codes "constraint") then Some keywords.Constraint
    else if bytes_eq word (codes "subdomain") then Some keywords.Subdomain
    else None

-- the third word is `=`, and a sum stands behind it
abbrev pub is_equation : List (List ℕ) → Bool
is_equation (word ∷ node ∷ sign ∷ sum) = bytes_eq sign (61 ∷ []) && is_sum sum
is_equation _ = false

-- the number of words, and for a constraint their shape
abbrev pub has_shape : Keyword → List (List ℕ) → Bool
has_shape keywords.Diffusion words = length words == 3
has_shape keywords.Source words = length words == 3
has_shape keywords.Robin words = length words == 4
has_shape keywords.Dirichlet words = length words == 3
has_shape keywords.Penalty words = length words == 2
has_shape keywords.Refine words = nat_lt 1 (length words)
has_shape keywords.Constraint words = is_equation words
has_shape keywords.Subdomain words = length words == 3

-- the first word of a line that has its shape
unfoldable pub keyword_at : List (List ℕ) → Result Keyword ProblemKind
keyword_at words = do
  word ← word_at kinds.Word words 0
  keyword ← or_fault kinds.Word (keyword_of word)
  shaped ← unless kinds.Word (has_shape keyword words)
  Ok keyword
