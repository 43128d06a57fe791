-- Whole numbers in a text.
use Rattle.std.specs.Prelude.{ℕ, ◌-◌, ◌^◌, ℤ, List, length, drop, Bool, ◌&&◌, nat_lt, nat_le, if◌then◌else◌, Some, None}
use Rattle.std.specs.Char.{is_ascii_digit}
use Rattle.std.specs.List.{list_all}
use Rattle.std.specs.declared.option.Option.{Option}
use Rattle.fem_fixed.specs.Numbers.{digits_value}
use Rattle.fem_fixed.specs.Ticks.{has_minus, with_sign}

-- one digit or more, and at most so many
abbrev pub is_whole : ℕ → List ℕ → Bool
is_whole most word = nat_lt 0 (length word) && nat_le (length word) most && list_all is_ascii_digit word

-- the value of at most so many digits, where it is at most this limit
unfoldable pub whole_of : ℕ → ℕ → List ℕ → Option ℕ
whole_of most limit word = if is_whole most word && nat_le (digits_value word) limit then Some (digits_value word) else None

-- how many entries a matrix has: at most twenty digits, of a value of at most 33,554,432
unfoldable pub count_of : List ℕ → Option ℕ
count_of word = whole_of 20 33554432 word

-- the greatest size of a whole number of 128 bits, below 0 or from 0 on
abbrev pub greatest : Bool → ℕ
greatest is_negative = if is_negative then 2 ^ 127 else 2 ^ 127 - 1

-- without a minus at the front
abbrev pub without_minus : List ℕ → List ℕ
without_minus word = if has_minus word then drop 1 word else word

abbrev pub signed : Bool → Option ℕ → Option ℤ
signed is_negative (Some size) = Some (with_sign is_negative size)
signed is_negative None = None

-- the value of an entry: a minus or none, and 1 to 39 digits, in the range of 128 bits
unfoldable pub value_of : List ℕ → Option ℤ
value_of word = signed (has_minus word) (whole_of 39 (greatest (has_minus word)) (without_minus word))
