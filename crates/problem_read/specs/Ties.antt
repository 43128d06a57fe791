-- How the constraints are held, and what a line adds to them.
use Rattle.std.specs.Prelude.{◌≡◌, ◌++◌, ◌∷◌, [], ℕ, ◌+◌, ◌^◌, ◌≤◌, ◌&&◌, List, ℤ, length, map, take, drop, filter, All, nat_lt, nat_le, Bool, Ok, Some}
use Rattle.std.specs.declared.result.Result.{Result}
use Rattle.std.specs.List.{slice_get}
use Rattle.fem_text.specs.Words.{◌>>=◌, unless, all_of}
use Rattle.problem_read.specs.declared.fault.ProblemKind.{ProblemKind}
use Rattle.problem_read.specs.declared.fault.ProblemKind.TheVariants as kinds
use Rattle.problem_read.specs.declared.ties.TieTerm.{TieTerm}
use Rattle.problem_read.specs.declared.ties.TieLine.{TieLine}
use Rattle.problem_read.specs.Entries.{Tie}
use Rattle.problem_read.specs.Sums.{is_term, is_constant, term_of, constant_of, last_or, sum_of}
use Rattle.problem_read.specs.EntryLine.{tie_at}

-- the constraint of a line, with its terms among these
abbrev pub tie_in : List TieTerm → TieLine → Tie
tie_in terms line = record { node = line.node; terms = take line.count (drop line.start terms); constant = line.constant }

abbrev pub tie_line_of : ℕ → ℕ → ℕ → ℤ → TieLine
tie_line_of node count start constant = record { node = node; count = count; start = start; constant = constant }

abbrev pub ties_in : List TieLine → List TieTerm → List Tie
ties_in lines terms = map (tie_in terms) lines

-- the terms of each line are there
abbrev pub AreThere : List TieLine → ℕ → Type 0
AreThere lines count = All (λ (line : TieLine). line.start + line.count ≤ count) lines

-- this is the constraint at a place
abbrev pub IsTie : List Tie → ℕ → ℕ → List TieTerm → ℤ → Type 0
IsTie ties k node terms constant = slice_get ties k ≡ Some (record { node = node; terms = terms; constant = constant })

-- there are at most 2^20 constraints, and 16 terms in each
abbrev pub tie_fits : List Tie → Tie → Bool
tie_fits before tie = nat_lt (length before) (2 ^ 20) && nat_le (length tie.terms) 16

-- the constraint of a line, behind these
unfoldable pub tie_line : List Tie → List (List ℕ) → Result Tie ProblemKind
tie_line before words = do
  tie ← tie_at words
  few ← unless kinds.Limit (tie_fits before tie)
  Ok tie

pub record AddsTie (before : List Tie) (words : List (List ℕ)) (now : List Tie) : Type 0 where
  pub tie : Tie
  pub given : tie_line before words ≡ Ok tie
  pub added : now ≡ before ++ tie ∷ []

-- the words are a sum of this constant and of terms that are added
pub record HasSum (words : List (List ℕ)) (before now : List TieTerm) (constant : ℤ) : Type 0 where
  pub terms : List TieTerm
  pub sum : sum_of words ≡ Some (record { terms = terms; constant = constant })
  pub added : now ≡ before ++ terms

-- the terms and constants that one word gives, of which there is one at most
pub record AddsPart (word : List ℕ) (before : List TieTerm) (constant : ℤ) (now : List TieTerm) (constant_now : ℤ) : Type 0 where
  pub terms : List TieTerm
  pub constants : List ℤ
  pub terms_are : all_of term_of (filter is_term (word ∷ [])) ≡ Some terms
  pub constants_are : all_of constant_of (filter is_constant (word ∷ [])) ≡ Some constants
  pub added : now ≡ before ++ terms
  pub constant_is : constant_now ≡ last_or constant constants

pub record StartsWith (front all : List TieTerm) : Type 0 where
  pub more : List TieTerm
  pub all_is : all ≡ front ++ more
