-- The lines of a problem text.
use Rattle.std.specs.Prelude.{ℕ, ◌^◌, List, length, drop, Bool, true, false, ◌&&◌, not, nat_eq, nat_lt, nat_le, is_some, ℤ, Ok}
use Rattle.std.specs.declared.option.Option.{Option}
use Rattle.std.specs.declared.result.Result.{Result}
use Rattle.std.specs.Map.{lookup}
use Rattle.fem_fixed.specs.Numbers.{id_of}
use Rattle.fem_text.specs.Words.{◌>>=◌, or_fault, unless, id_at, number_at, all_of}
use Rattle.problem_read.specs.declared.fault.ProblemKind.{ProblemKind}
use Rattle.problem_read.specs.declared.fault.ProblemKind.TheVariants as kinds
use Rattle.problem_read.specs.declared.keyword.Keyword.{Keyword}
use Rattle.problem_read.specs.declared.keyword.Keyword.TheVariants as keywords
use Rattle.problem_read.specs.Entries.{Tie, Entry, ProblemParts, parts_of, diffusion, source, robin, dirichlet, penalty, refine, constraint, subdomain}
use Rattle.problem_read.specs.Sums.{sum_of}
use Rattle.problem_read.specs.Shapes.{keyword_at}

-- the value at a place, of at most 2^31 ticks in size
abbrev pub value_at : List (List ℕ) → ℕ → Result ℤ ProblemKind
value_at words place = number_at kinds.Number (2 ^ 31) words place

-- an id, and the value that is set there
unfoldable pub setting_of : List (List ℕ) → Result (ℕ × ℤ) ProblemKind
setting_of words = do
  id ← id_at kinds.Number words 1
  value ← value_at words 2
  Ok (id, value)

-- an id, and the two values that are set there
unfoldable pub two_settings_of : List (List ℕ) → Result (ℕ × (ℤ × ℤ)) ProblemKind
two_settings_of words = do
  id ← id_at kinds.Number words 1
  first ← value_at words 2
  second ← value_at words 3
  Ok (id, (first, second))

-- a material, and the subdomain that it belongs to
unfoldable pub two_ids_of : List (List ℕ) → Result (ℕ × ℕ) ProblemKind
two_ids_of words = do
  id ← id_at kinds.Number words 1
  other ← id_at kinds.Number words 2
  Ok (id, other)

-- a constraint, by its ids and numbers
unfoldable pub tie_at : List (List ℕ) → Result Tie ProblemKind
tie_at words = do
  node ← id_at kinds.Number words 1
  sum ← or_fault kinds.Number (sum_of (drop 3 words))
  Ok (record { node = node; terms = sum.terms; constant = sum.constant })

-- what a line of this shape says, by its ids and numbers
abbrev pub numbers_of : Keyword → List (List ℕ) → Result Entry ProblemKind
numbers_of keywords.Diffusion words = setting_of words >>= (λ pair. Ok (diffusion pair))
numbers_of keywords.Source words = setting_of words >>= (λ pair. Ok (source pair))
numbers_of keywords.Robin words = two_settings_of words >>= (λ pair. Ok (robin pair))
numbers_of keywords.Dirichlet words = setting_of words >>= (λ pair. Ok (dirichlet pair))
numbers_of keywords.Penalty words = value_at words 1 >>= (λ value. Ok (penalty value))
numbers_of keywords.Refine words = or_fault kinds.Number (all_of id_of (drop 1 words)) >>= (λ cells. Ok (refine cells))
numbers_of keywords.Constraint words = tie_at words >>= (λ tie. Ok (constraint tie))
numbers_of keywords.Subdomain words = two_ids_of words >>= (λ pair. Ok (subdomain pair))

-- what is listed under an id
abbrev pub listed : {V : Type 0} → List (ℕ × V) → ℕ → Option V
listed pairs id = lookup (nat_eq id) pairs

abbrev pub is_listed : {V : Type 0} → List (ℕ × V) → ℕ → Bool
is_listed pairs id = is_some (listed pairs id)

-- an earlier line has the same word and id, or is a penalty too
abbrev pub repeats : ProblemParts → Entry → Bool
repeats before (diffusion pair) = is_listed before.diffusion pair.0
repeats before (source pair) = is_listed before.source pair.0
repeats before (robin pair) = is_listed before.robin pair.0
repeats before (dirichlet pair) = is_listed before.dirichlet pair.0
repeats before (penalty value) = is_some before.penalty
repeats before (refine cells) = false
repeats before (constraint tie) = false
repeats before (subdomain pair) = is_listed before.subdomain pair.0

-- there are at most 32 steps, 2^20 constraints, and 16 terms in each
abbrev pub has_room : ProblemParts → Entry → Bool
has_room before (refine cells) = nat_lt (length before.steps) 32
has_room before (constraint tie) = nat_lt (length before.ties) (2 ^ 20) && nat_le (length tie.terms) 16
has_room before _ = true

-- an entry, behind these
abbrev pub checked : ProblemParts → Entry → Result Entry ProblemKind
checked before entry = do
  new ← unless kinds.Repeated (not (repeats before entry))
  few ← unless kinds.Limit (has_room before entry)
  Ok entry

-- what a line says, behind these
unfoldable pub entry_behind : ProblemParts → List (List ℕ) → Result Entry ProblemKind
entry_behind before words = do
  keyword ← keyword_at words
  entry ← numbers_of keyword words
  checked before entry

-- what a line says, behind these lines
abbrev pub entry_line : List Entry → List (List ℕ) → Result Entry ProblemKind
entry_line before words = entry_behind (parts_of before) words
