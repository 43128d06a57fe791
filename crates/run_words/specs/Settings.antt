-- Settings: the options of a line of words, each with its value.
use Rattle.std.specs.Prelude.{◌≤◌, ℕ, List, [], ◌∷◌, ◌++◌, length, codes, Bool, false, count_by, if◌then◌else◌, nat_lt, Some, None}
use Rattle.std.specs.declared.option.Option.{Option}
use Rattle.std.specs.List.{filter_map}
use Rattle.run_words.specs.declared.name.Name.{Name}
use Rattle.run_words.specs.declared.switch.Switch.{Switch}
use Rattle.run_words.specs.Names.{spelled, same_name}
use Rattle.run_words.specs.Switches.{spelled_alone, same_switch}

-- an option as it stands on the line
pub data Setting : Type 0 where
  -- `--name value`
  apart : Name → List ℕ → Setting
  -- `--name=value`
  joined : Name → List ℕ → Setting
  -- an option without a value
  alone : Switch → Setting

-- its words
abbrev pub words_of : Setting → List (List ℕ)
words_of (apart name value) = spelled name ∷ value ∷ []
words_of (joined name value) = (spelled name ++ codes "=" ++ value) ∷ []
words_of (alone switch) = spelled_alone switch ∷ []

-- what a setting gives to an option
abbrev pub gives_to : Name → Setting → Option (List ℕ)
gives_to name (apart other value) = if same_name name other then Some value else None
gives_to name (joined other value) = if same_name name other then Some value else None
gives_to name (alone switch) = None

-- this option alone
abbrev pub is_alone : Switch → Setting → Bool
is_alone switch (apart name value) = false
is_alone switch (joined name value) = false
is_alone switch (alone other) = same_switch switch other

-- the values that an option has, as they come
abbrev pub values_of : List Setting → Name → List (List ℕ)
values_of settings name = filter_map (gives_to name) settings

-- no option stands twice
pub record StandsOnce (settings : List Setting) : Type 0 where
  pub valued : (name : Name) → length (values_of settings name) ≤ 1
  pub switched : (switch : Switch) → count_by (is_alone switch) settings ≤ 1

abbrev pub first_of : List (List ℕ) → Option (List ℕ)
first_of [] = None
first_of (value ∷ values) = Some value

-- the value of each option that stands, and which of those without a value stand
pub record Given : Type 0 where
  pub value : Name → Option (List ℕ)
  pub stands : Switch → Bool

-- what settings give
abbrev pub given_by : List Setting → Given
given_by settings = record {
  value = λ name. first_of (values_of settings name);
  stands = λ switch. nat_lt 0 (count_by (is_alone switch) settings);
}
