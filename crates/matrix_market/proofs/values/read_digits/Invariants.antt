use Rattle.std.proofs.Common.{◌≡◌, ◌<◌, ◌≤◌, ◌^◌, length, take, true}
use Rattle.std.specs.Char.{is_ascii_digit}
use Rattle.std.specs.List.{list_all}
use Rattle.fem_fixed.specs.Numbers.{digits_value}
use Rattle.matrix_market.proofs.values.read_digits.Given as goal

abbrev pub invariant-loop-byte : goal.invariant-loop-byte
invariant-loop-byte l =
    (l.value ≡ digits_value (take l.byte-index l.word)) ×
    (list_all is_ascii_digit (take l.byte-index l.word) ≡ true) ×
    (l.value < 10 ^ l.byte-index) ×
    (length l.word ≤ 38)
