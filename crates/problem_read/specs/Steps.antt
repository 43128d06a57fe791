-- What the steps of the reader add to what it holds.
use Rattle.std.specs.Prelude.{◌≡◌, ◌++◌, ◌∷◌, [], ℕ, List, length, drop, not, nat_lt, is_some, ℤ, Ok, Err, Some}
use Rattle.std.specs.declared.option.Option.{Option}
use Rattle.std.specs.declared.result.Result.{Result}
use Rattle.fem_text.specs.declared.fault.TextFault.{TextFault}
use Rattle.fem_text.specs.WordLines.{Lines}
use Rattle.fem_text.specs.ReadingEvery.{ReadSoFar}
use Rattle.problem_read.specs.declared.fault.ProblemKind.{ProblemKind}
use Rattle.problem_read.specs.declared.fault.ProblemKind.TheVariants as kinds
use Rattle.fem_fixed.specs.Numbers.{id_of}
use Rattle.fem_text.specs.Words.{◌>>=◌, or_fault, unless, all_of}
use Rattle.problem_read.specs.Entries.{Entry, ProblemParts, parts_of, diffusion, source, robin, dirichlet, penalty, refine, constraint, subdomain}
use Rattle.problem_read.specs.EntryLine.{value_at, is_listed, entry_behind, entry_line}
use Rattle.problem_read.specs.Limits.{AreWithinLimits}

-- what an entry adds
abbrev pub with_entry : ProblemParts → Entry → ProblemParts
with_entry parts (diffusion pair) = record parts { diffusion = parts.diffusion ++ pair ∷ [] }
with_entry parts (source pair) = record parts { source = parts.source ++ pair ∷ [] }
with_entry parts (robin pair) = record parts { robin = parts.robin ++ pair ∷ [] }
with_entry parts (dirichlet pair) = record parts { dirichlet = parts.dirichlet ++ pair ∷ [] }
with_entry parts (penalty value) = record parts { penalty = Some value }
with_entry parts (refine cells) = record parts { steps = parts.steps ++ cells ∷ [] }
with_entry parts (constraint tie) = record parts { ties = parts.ties ++ tie ∷ [] }
with_entry parts (subdomain pair) = record parts { subdomain = parts.subdomain ++ pair ∷ [] }

-- the line gives an entry, which is added
pub record AddsEntry (before : ProblemParts) (words : List (List ℕ)) (now : ProblemParts) : Type 0 where
  pub entry : Entry
  pub given : entry_behind before words ≡ Ok entry
  pub added : now ≡ with_entry before entry

-- the line gives this fault
pub record IsLineFault {X : Type 0} (given : Result X ProblemKind) (number : ℕ) (fault : TextFault ProblemKind) : Type 0 where
  pub kind_is : given ≡ Err fault.kind
  pub line_is : fault.line ≡ number

-- the entries of the first lines make these parts, and the rest is left
pub record HoldsSoFar (lines : Lines) (parts : ProblemParts) (rest : Lines) : Type 0 where
  pub entries : List Entry
  pub reads : ReadSoFar entry_line lines entries rest
  pub parts_are : parts ≡ parts_of entries
  pub limits : AreWithinLimits parts

-- an id with its values, behind those that are listed
abbrev pub setting_line : {V : Type 0} → Result (ℕ × V) ProblemKind → List (ℕ × V) → Result (ℕ × V) ProblemKind
setting_line given before = given >>= (λ pair. unless kinds.Repeated (not (is_listed before pair.0)) >>= (λ new. Ok pair))

pub record AddsSetting {V : Type 0} (given : Result (ℕ × V) ProblemKind) (before now : List (ℕ × V)) : Type 0 where
  pub pair : ℕ × V
  pub is : setting_line given before ≡ Ok pair
  pub added : now ≡ before ++ pair ∷ []

-- a penalty, where none is there yet
abbrev pub penalty_line : List (List ℕ) → Option ℤ → Result ℤ ProblemKind
penalty_line words before = value_at words 1 >>= (λ value. unless kinds.Repeated (not (is_some before)) >>= (λ new. Ok value))

pub record AddsPenalty (words : List (List ℕ)) (before now : Option ℤ) : Type 0 where
  pub value : ℤ
  pub is : penalty_line words before ≡ Ok value
  pub added : now ≡ Some value

-- the cells of a step, behind these steps
abbrev pub step_line : List (List ℕ) → List (List ℕ) → Result (List ℕ) ProblemKind
step_line words before = or_fault kinds.Number (all_of id_of (drop 1 words)) >>= (λ cells. unless kinds.Limit (nat_lt (length before) 32) >>= (λ few. Ok cells))

pub record AddsStep (words : List (List ℕ)) (before now : List (List ℕ)) : Type 0 where
  pub cells : List ℕ
  pub is : step_line words before ≡ Ok cells
  pub added : now ≡ before ++ cells ∷ []
