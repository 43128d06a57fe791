-- What words ask for, by their settings.
use Rattle.std.proofs.Common.{◌≡◌, ◌∙◌, ◌≤◌, ap, sym, subst, ℕ, List, [], ◌∷◌, ◌++◌, length, Bool, true, false, cond, refl, nat_lt, arith, append-nil}
use mathlib.Core.Path.{fun_ext}
use Rattle.std.specs.Prelude.{Some, None, count_by, IfSome, IfNone}
use Rattle.std.specs.declared.option.Option.{Option}
use Rattle.std.specs.List.{flat_map}
use Rattle.std.specs.Option.{option_map, option_to_list}
use Rattle.run_words.specs.declared.name.Name.{Name}
use Rattle.run_words.specs.declared.switch.Switch.{Switch}
use Rattle.run_words.specs.declared.options.Options as rust
use Rattle.run_words.specs.Settings.{Setting, words_of, values_of, is_alone, StandsOnce, first_of, Given, given_by}
use Rattle.run_words.specs.Held.{HoldsValues, Holds, CannotHold, first_setting}
use Rattle.run_words.specs.Choice.{Choice, seen, chosen}
use Rattle.run_words.specs.Words.{AskFor, AskForNothing}
use Rattle.run_words.specs.Reading.{reading}
use Rattle.run_words.proofs.Cuts.{cut_further, first_setting-words_of}
use Rattle.run_words.proofs.Rules.{reading_given, reading_tells}

first_is : (value : Option (List ℕ)) (values : List (List ℕ)) → option_to_list value ≡ values → value ≡ first_of values
first_is None values is = ap first_of is
first_is (Some value) values is = ap first_of is

stands_by : (wanted : Bool) (count : ℕ) → cond wanted 1 0 ≡ count → wanted ≡ nat_lt 0 count
stands_by true count is = ap (λ n. nat_lt 0 n) is
stands_by false count is = ap (λ n. nat_lt 0 n) is

abbrev given_of : (Name → Option (List ℕ)) → (Switch → Bool) → Given
given_of value stands = record { value = value; stands = stands }

pub given_is : (settings : List Setting) (held : Given) → HoldsValues settings held → held ≡ given_by settings
given_is settings held holds =
    ap (λ value. given_of value held.stands) (fun_ext (λ name. first_is (held.value name) (values_of settings name) (holds.values_are name)))
    ∙ ap (λ stands. given_of (given_by settings).value stands) (fun_ext (λ switch. stands_by (held.stands switch) (count_by (is_alone switch) settings) (holds.switches_are switch)))

one_at_most : (value : Option (List ℕ)) → length (option_to_list value) ≤ 1
one_at_most None = omega arith
one_at_most (Some value) = omega arith

once_at_most : (wanted : Bool) → cond {A = ℕ} wanted 1 0 ≤ 1
once_at_most true = omega arith
once_at_most false = omega arith

pub stands_once : (settings : List Setting) (held : Given) → HoldsValues settings held → StandsOnce settings
stands_once settings held holds = record {
  valued = λ name. subst (λ values. length values ≤ 1) (holds.values_are name) (one_at_most (held.value name));
  switched = λ switch. subst (λ count. count ≤ 1) (holds.switches_are switch) (once_at_most (held.stands switch));
}

no_settings : (settings : List Setting) → flat_map words_of settings ≡ [] → settings ≡ []
no_settings [] none = refl
no_settings (setting ∷ settings) none =
    let e = sym (first_setting-words_of setting (flat_map words_of settings)) ∙ ap first_setting none in cc

-- words have one list of settings at most
pub settings_are_one : (settings others : List Setting) → flat_map words_of settings ≡ flat_map words_of others → settings ≡ others
settings_are_one settings others is =
    let further = cut_further settings others [] (append-nil (flat_map words_of settings) ∙ is) in
    sym (further.1 ∙ ap (λ more. settings ++ more) (no_settings further.0 (sym further.2)) ∙ append-nil settings)

pub ask_for_read : (words : List (List ℕ)) (held : Given) (choice : Choice) → Holds words held → reading held ≡ Some choice → AskFor words choice
ask_for_read words held choice holds read =
    let is = reading_tells (given_by holds.settings) choice (sym (ap reading (given_is holds.settings held holds.values_are)) ∙ read) in
    record {
      settings = holds.settings;
      words_are = holds.words_are;
      once = stands_once holds.settings held holds.values_are;
      in_sets = is.in_sets;
      rules = is.rules;
      choice_is = is.choice_is;
    }

pub read_as_asked : (words : List (List ℕ)) (held : Given) (choice : Choice) → Holds words held → AskFor words choice → reading held ≡ Some choice
read_as_asked words held choice holds asked =
    let one = settings_are_one holds.settings asked.settings (sym holds.words_are ∙ asked.words_are) in
    ap reading (given_is holds.settings held holds.values_are ∙ ap given_by one) ∙ reading_given (given_by asked.settings) asked.in_sets asked.rules ∙ ap Some (sym asked.choice_is)

pub choice_is_one : (words : List (List ℕ)) (first second : Choice) → AskFor words first → AskFor words second → first ≡ second
choice_is_one words first second one other =
    one.choice_is ∙ ap (λ settings. chosen (given_by settings)) (settings_are_one one.settings other.settings (sym one.words_are ∙ other.words_are)) ∙ sym other.choice_is

pub asks : (words : List (List ℕ)) (held : Given) (result : Option rust.Options) → Holds words held → option_map seen result ≡ reading held → IfSome result (λ options. AskFor words (seen options))
asks words held None holds is = tt
asks words held (Some options) holds is = ask_for_read words held (seen options) holds (sym is)

pub asks_nothing : (words : List (List ℕ)) (held : Given) (result : Option rust.Options) → Holds words held → option_map seen result ≡ reading held → IfNone result (AskForNothing words)
asks_nothing words held None holds is = λ choice asked. let e = is ∙ read_as_asked words held choice holds asked in cc
asks_nothing words held (Some options) holds is = tt

pub cannot_ask : (words : List (List ℕ)) → CannotHold words → AskForNothing words
cannot_ask words cannot choice asked = cannot asked.settings asked.words_are asked.once
