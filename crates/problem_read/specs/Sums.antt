-- The words on the right side of a constraint.
use Rattle.std.specs.Prelude.{ℕ, ◌^◌, List, [], ◌∷◌, filter, count_by, Bool, false, ◌==◌, ◌&&◌, ◌||◌, not, nat_le, if◌then◌else◌, ℤ, pos, unsigned_abs, Some, None, Ok, Err}
use Rattle.std.specs.declared.option.Option.{Option}
use Rattle.std.specs.declared.result.Result.{Result}
use Rattle.std.specs.List.{before_first, after_first}
use Rattle.std.specs.Str.{bytes_eq}
use Rattle.fem_text.specs.Words.{all_of}
use Rattle.fem_fixed.specs.Numbers.{id_of}
use Rattle.fem_fixed.specs.Ticks.{number_of}
use Rattle.fem_fixed.specs.declared.ticks.NumberFault.{NumberFault}
use Rattle.problem_read.specs.declared.ties.TieTerm.{TieTerm}

abbrev pub is_star : ℕ → Bool
is_star byte = byte == 42

abbrev pub stars : List ℕ → ℕ
stars word = count_by is_star word

abbrev pub is_plus : List ℕ → Bool
is_plus word = bytes_eq word (43 ∷ [])

-- a word with one `*` has the shape of a term W*J
abbrev pub is_term : List ℕ → Bool
is_term word = stars word == 1

-- a word with no `*` that isn't `+` alone has the shape of a constant
abbrev pub is_constant : List ℕ → Bool
is_constant word = stars word == 0 && not (is_plus word)

-- one or more words, parted by the word `+`: terms, and last a term or a constant
abbrev pub is_sum : List (List ℕ) → Bool
is_sum [] = false
is_sum (last ∷ []) = is_term last || is_constant last
is_sum (term ∷ sign ∷ more) = is_term term && is_plus sign && is_sum more

-- a number of at most this many ticks in size
abbrev pub within : ℕ → Result ℤ NumberFault → Option ℤ
within limit (Ok ticks) = if nat_le (unsigned_abs ticks) limit then Some ticks else None
within limit (Err fault) = None

abbrev pub term_with : Option ℤ → Option ℕ → Option TieTerm
term_with (Some weight) (Some node) = Some (record { node = node; weight = weight })
term_with _ _ = None

-- the term of a word W*J: a weight of at most 2^20 ticks, and a node id
unfoldable pub term_of : List ℕ → Option TieTerm
term_of word = term_with (within (2 ^ 20) (number_of (before_first is_star word))) (id_of (after_first is_star word))

-- the constant of a word: a number of at most 2^31 ticks
unfoldable pub constant_of : List ℕ → Option ℤ
constant_of word = within (2 ^ 31) (number_of word)

-- the last one, or this where there is none
abbrev pub last_or : ℤ → List ℤ → ℤ
last_or other [] = other
last_or other (x ∷ xs) = last_or x xs

pub record Sum : Type 0 where
  pub terms : List TieTerm
  pub constant : ℤ

abbrev pub sum_with : Option (List TieTerm) → Option (List ℤ) → Option Sum
sum_with (Some terms) (Some constants) = Some (record { terms = terms; constant = last_or (pos 0) constants })
sum_with _ _ = None

-- the terms in order and the constant, which is 0 where none stands there
unfoldable pub sum_of : List (List ℕ) → Option Sum
sum_of words = sum_with (all_of term_of (filter is_term words)) (all_of constant_of (filter is_constant words))
