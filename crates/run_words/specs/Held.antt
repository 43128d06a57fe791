-- What the reader holds of the settings that it took.
use Rattle.std.specs.Prelude.{◌≡◌, ◌+◌, ℕ, List, [], ◌∷◌, ◌++◌, true, false, count_by, slice_index_or, if◌then◌else◌, IsSome, Some, None}
use Rattle.std.specs.declared.option.Option.{Option}
use Rattle.std.specs.List.{flat_map}
use Rattle.std.specs.Option.{option_copied, option_to_list, option_and_then}
use Rattle.run_words.specs.declared.name.Name.{Name}
use Rattle.run_words.specs.declared.switch.Switch.{Switch}
use Rattle.run_words.specs.Names.{place_of, same_name}
use Rattle.run_words.specs.Switches.{switch_place, same_switch}
use Rattle.run_words.specs.declared.settings.Settings as rust
use Rattle.run_words.specs.Settings.{Setting, Given, apart, words_of, gives_to, is_alone, values_of, StandsOnce}
use Rattle.run_words.specs.Openings.{Begins, whole, named, begins}

abbrev pub seen_settings : rust.Settings → Given
seen_settings settings = record {
  value = λ name. option_copied (slice_index_or settings.values (place_of name) None);
  stands = λ switch. slice_index_or settings.switches (switch_place switch) false;
}

-- an option that didn't stand gets a value
pub record Sets (old : Given) (name : Name) (value : List ℕ) (new : Given) : Type 0 where
  pub free : old.value name ≡ None
  pub values_are : (other : Name) → new.value other ≡ (if same_name other name then Some value else old.value other)
  pub switches_stay : (switch : Switch) → new.stands switch ≡ old.stands switch

-- an option without a value that didn't stand comes to stand
pub record Turns (old : Given) (switch : Switch) (new : Given) : Type 0 where
  pub free : old.stands switch ≡ false
  pub values_stay : (name : Name) → new.value name ≡ old.value name
  pub switches_are : (other : Switch) → new.stands other ≡ (if same_switch other switch then true else old.stands other)

-- the first setting of words, and what is behind it
abbrev pub first_with : Begins → List (List ℕ) → Option (Setting × List (List ℕ))
first_with (whole setting) behind = Some (setting, behind)
first_with (named name) [] = None
first_with (named name) (value ∷ behind) = Some (apart name value, behind)

abbrev pub first_setting : List (List ℕ) → Option (Setting × List (List ℕ))
first_setting [] = None
first_setting (word ∷ behind) = option_and_then (λ begun. first_with begun behind) (begins word)

-- a setting is added
pub record Adds (old : Given) (setting : Setting) (new : Given) : Type 0 where
  pub values_are : (name : Name) → option_to_list (new.value name) ≡ option_to_list (old.value name) ++ option_to_list (gives_to name setting)
  pub switches_are : (switch : Switch) → (if new.stands switch then 1 else 0) ≡ count_by (is_alone switch) (setting ∷ []) + (if old.stands switch then 1 else 0)

-- the first setting of the words is taken
pub record Takes (old : Given) (words : List (List ℕ)) (new : Given) (left : List (List ℕ)) : Type 0 where
  pub setting : Setting
  pub first_is : first_setting words ≡ Some (setting, left)
  pub adds : Adds old setting new

-- the option of a setting stands already
pub data Repeats (held : Given) (setting : Setting) : Type 0 where
  valued : (name : Name) → IsSome (held.value name) → IsSome (gives_to name setting) → Repeats held setting
  switched : (switch : Switch) → held.stands switch ≡ true → is_alone switch setting ≡ true → Repeats held setting

-- the words have no first setting, or its option stands already
pub data CannotTake (held : Given) (words : List (List ℕ)) : Type 0 where
  no_setting : first_setting words ≡ None → CannotTake held words
  stands : (setting : Setting) (left : List (List ℕ)) → first_setting words ≡ Some (setting, left) → Repeats held setting → CannotTake held words

-- these are the values of the settings
pub record HoldsValues (settings : List Setting) (held : Given) : Type 0 where
  pub values_are : (name : Name) → option_to_list (held.value name) ≡ values_of settings name
  pub switches_are : (switch : Switch) → (if held.stands switch then 1 else 0) ≡ count_by (is_alone switch) settings

-- the words are settings, and these are their values
pub record Holds (words : List (List ℕ)) (held : Given) : Type 0 where
  pub settings : List Setting
  pub words_are : words ≡ flat_map words_of settings
  pub values_are : HoldsValues settings held

-- the same of the words in front of those that are left
pub record HoldsSoFar (words : List (List ℕ)) (held : Given) (left : List (List ℕ)) : Type 0 where
  pub settings : List Setting
  pub words_are : words ≡ flat_map words_of settings ++ left
  pub values_are : HoldsValues settings held

-- the words are no settings, or an option stands twice
abbrev pub CannotHold : List (List ℕ) → Type 0
CannotHold words = (settings : List Setting) → words ≡ flat_map words_of settings → StandsOnce settings → ⊥
