-- What a word begins, as the reader takes the words.
use Rattle.std.specs.Prelude.{ℕ, List, Bool, ◌==◌, find, if◌then◌else◌, Some, None}
use Rattle.std.specs.declared.option.Option.{Option}
use Rattle.std.specs.List.{before_first, after_first, list_any}
use Rattle.std.specs.Option.{option_map}
use Rattle.std.specs.Str.{bytes_eq}
use Rattle.run_words.specs.declared.name.Name.{Name}
use Rattle.run_words.specs.declared.switch.Switch.{Switch}
use Rattle.run_words.specs.Names.{spelled, all_names}
use Rattle.run_words.specs.Switches.{spelled_alone, all_switches}
use Rattle.run_words.specs.Settings.{Setting, joined, alone}
use Rattle.run_words.specs.declared.opening.Opening as rust
use Rattle.run_words.specs.declared.opening.Opening.TheVariants as openings

-- the option that a word names
unfoldable pub find_name : List ℕ → Option Name
find_name word = find (λ name. bytes_eq (spelled name) word) all_names

-- the option that it is without a value
unfoldable pub find_switch : List ℕ → Option Switch
find_switch word = find (λ switch. bytes_eq (spelled_alone switch) word) all_switches

-- a setting that stands whole in one word, or an option whose value is the next word
pub data Begins : Type 0 where
  whole : Setting → Begins
  named : Name → Begins

abbrev pub is_equals_sign : ℕ → Bool
is_equals_sign byte = byte == 61

-- what a word with `=` begins
abbrev pub joined_in : List ℕ → Option Begins
joined_in word = option_map (λ name. whole (joined name (after_first is_equals_sign word))) (find_name (before_first is_equals_sign word))

-- an option alone, or else one with its value
abbrev pub begins_by : Option Switch → List ℕ → Option Begins
begins_by (Some switch) word = Some (whole (alone switch))
begins_by None word = if list_any is_equals_sign word then joined_in word else option_map named (find_name word)

-- what a word begins
unfoldable pub begins : List ℕ → Option Begins
begins word = begins_by (find_switch word) word

-- the same, as the reader has it
abbrev pub seen_opening : rust.Opening → Begins
seen_opening (openings.Alone switch) = whole (alone switch)
seen_opening (openings.Joined name value) = whole (joined name value.now)
seen_opening (openings.Apart name) = named name
