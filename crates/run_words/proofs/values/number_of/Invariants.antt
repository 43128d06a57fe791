use Rattle.std.proofs.Common.{◌≡◌, ◌<◌, ◌≤◌, ◌^◌, length, take, true}
use Rattle.std.specs.Char.{is_ascii_digit}
use Rattle.std.specs.List.{list_all}
use Rattle.fem_fixed.specs.Numbers.{digits_value}
use Rattle.run_words.proofs.values.number_of.Given as goal

abbrev pub invariant-loop-digit : goal.invariant-loop-digit
invariant-loop-digit l = (l.value ≡ digits_value (take l.digit-index l.digits))
    × (list_all is_ascii_digit (take l.digit-index l.digits) ≡ true)
    × (l.value < 10 ^ l.digit-index)
    × (length l.digits ≤ 20)
