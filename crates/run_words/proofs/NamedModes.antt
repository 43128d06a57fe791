-- Words that name the mode `ordered` or a batch.
use Rattle.std.proofs.Common.{◌≡◌, ◌∙◌, ap, sym, subst, ℕ, List, [], ◌∷◌, ◌++◌, Bool, true, false, cond, refl, inl, inr, append_assoc}
use Rattle.run_words.specs.declared.name.Name.TheVariants as names
use Rattle.run_words.specs.declared.mode.ModeName.{ModeName}
use Rattle.run_words.specs.declared.mode.ModeName.TheVariants as modes
use Rattle.run_words.specs.declared.options.SystemMode.TheVariants as systems
use Rattle.run_words.specs.Settings.{Setting, apart, joined, alone, words_of, values_of, first_of, given_by}
use Rattle.run_words.specs.Names.{spelled, same_name}
use Rattle.run_words.specs.Values.{system_mode_of, mode_of}
use Rattle.run_words.specs.Choice.{Choice, of_system, mode_from, mode_name_in, named_or}
use Rattle.std.specs.Prelude.{Some, None, codes, ◌⊎◌, is_some, unwrap_or}
use Rattle.std.specs.declared.option.Option.{Option}
use Rattle.std.specs.List.{flat_map, cons_option}
use Rattle.std.specs.Option.{option_map}
use Rattle.run_words.specs.declared.name.Name.{Name}
use Rattle.run_words.proofs.Places.{names_are_one}
use Rattle.run_words.proofs.Waits.{equal}
use Rattle.std.specs.Str.{bytes_eq}
use Rattle.run_words.specs.Words.{StandInARow, NameOrdered, NameBatch, AskFor}
use Rattle.run_words.specs.BatchWords.{BatchChoice, AskForBatch}

-- the option stands with this value among the words
abbrev OptionStands : Name → List ℕ → List (List ℕ) → Type 0
OptionStands wanted value words = StandInARow (spelled wanted ∷ value ∷ []) words ⊎ StandInARow ((spelled wanted ++ codes "=" ++ value) ∷ []) words

behind_front : (row front words : List (List ℕ)) → StandInARow row words → StandInARow row (front ++ words)
behind_front row front words stand = record {
  before = front ++ stand.before;
  behind = stand.behind;
  words_are = ap (λ list. front ++ list) stand.words_are ∙ sym (append_assoc front stand.before (row ++ stand.behind));
}

option_behind : (wanted : Name) (value : List ℕ) (front words : List (List ℕ)) → OptionStands wanted value words → OptionStands wanted value (front ++ words)
option_behind wanted value front words (inl two) = inl (behind_front (spelled wanted ∷ value ∷ []) front words two)
option_behind wanted value front words (inr one) = inr (behind_front ((spelled wanted ++ codes "=" ++ value) ∷ []) front words one)

spelled_alike : (wanted name : Name) → same_name wanted name ≡ true → spelled name ≡ spelled wanted
spelled_alike wanted name same = ap spelled (sym (names_are_one wanted name same))

value_is : (value other : List ℕ) → Some value ≡ Some other → value ≡ other
value_is value other is = cc

option_stands : (wanted : Name) (settings : List Setting) (value : List ℕ) → first_of (values_of settings wanted) ≡ Some value → OptionStands wanted value (flat_map words_of settings)
option_stands wanted [] value is = cc
option_stands wanted (alone switch ∷ settings) value is = option_behind wanted value (words_of (alone switch)) (flat_map words_of settings) (option_stands wanted settings value is)
option_stands wanted (apart name own ∷ settings) value is =
    (elim (same_name wanted name) as (λ b. same_name wanted name ≡ b → first_of (cons_option (cond b (Some own) None) (values_of settings wanted)) ≡ Some value →
    OptionStands wanted value (flat_map words_of (apart name own ∷ settings))) [
      | true ↦ λ same h. inl (record {
        before = [];
        behind = flat_map words_of settings;
        words_are = ap (λ w. w ∷ own ∷ flat_map words_of settings) (spelled_alike wanted name same) ∙ ap (λ v. spelled wanted ∷ v ∷ flat_map words_of settings) (value_is own value h);
      })
      | false ↦ λ same h. option_behind wanted value (words_of (apart name own)) (flat_map words_of settings) (option_stands wanted settings value h)
    ]) refl is
option_stands wanted (joined name own ∷ settings) value is =
    (elim (same_name wanted name) as (λ b. same_name wanted name ≡ b → first_of (cons_option (cond b (Some own) None) (values_of settings wanted)) ≡ Some value →
    OptionStands wanted value (flat_map words_of (joined name own ∷ settings))) [
      | true ↦ λ same h. inr (record {
        before = [];
        behind = flat_map words_of settings;
        words_are = ap (λ w. (w ++ codes "=" ++ own) ∷ flat_map words_of settings) (spelled_alike wanted name same)
            ∙ ap (λ v. (spelled wanted ++ codes "=" ++ v) ∷ flat_map words_of settings) (value_is own value h);
      })
      | false ↦ λ same h. option_behind wanted value (words_of (joined name own)) (flat_map words_of settings) (option_stands wanted settings value h)
    ]) refl is

-- the mode of a word that is these names or not
abbrev chosen_by : Bool → Bool → Bool → Bool → Bool → Bool → Bool → Bool → Bool → Option ModeName
chosen_by mesh product marks adapt a b c d e =
    cond mesh (Some modes.Mesh) (cond product (Some modes.Product) (cond marks (Some modes.Marks) (cond adapt (Some modes.Adapt)
    (option_map modes.System (cond a (Some systems.Serial) (cond b (Some systems.Ordered) (cond c (Some systems.Colored) (cond d (Some systems.Pattern) (cond e (Some systems.Colors) None)))))))))

only_ordered : (mesh product marks adapt a b c d e : Bool) → unwrap_or (chosen_by mesh product marks adapt a b c d e) (modes.System systems.Serial) ≡ modes.System systems.Ordered → b ≡ true
only_ordered true product marks adapt a b c d e is = cc
only_ordered false true marks adapt a b c d e is = cc
only_ordered false false true adapt a b c d e is = cc
only_ordered false false false true a b c d e is = cc
only_ordered false false false false true b c d e is = cc
only_ordered false false false false false true c d e is = refl
only_ordered false false false false false false true d e is = cc
only_ordered false false false false false false false true e is = cc
only_ordered false false false false false false false false true is = cc
only_ordered false false false false false false false false false is = cc

ordered_value : (word : List ℕ) → unwrap_or (mode_of word) (modes.System systems.Serial) ≡ modes.System systems.Ordered → word ≡ codes "ordered"
unfolding mode_of system_mode_of
ordered_value word is =
    equal word (codes "ordered")
    (only_ordered (bytes_eq word (codes "mesh")) (bytes_eq word (codes "product")) (bytes_eq word (codes "marks")) (bytes_eq word (codes "adapt")) (bytes_eq word (codes "serial"))
    (bytes_eq word (codes "ordered")) (bytes_eq word (codes "colored")) (bytes_eq word (codes "pattern")) (bytes_eq word (codes "colors")) is)

ordered_given : (value : Option (List ℕ)) → named_or (modes.System systems.Serial) mode_of value ≡ modes.System systems.Ordered → value ≡ Some (codes "ordered")
ordered_given None is = cc
ordered_given (Some word) is = ap Some (ordered_value word is)

-- the mode has this name alone
named_ordered : (name : ModeName) (vector mark : Option (List ℕ)) → mode_from name vector mark ≡ of_system systems.Ordered → name ≡ modes.System systems.Ordered
named_ordered (modes.System mode) vector mark is = ap modes.System (let e : mode ≡ systems.Ordered = cc in e)
named_ordered modes.Mesh vector mark is = cc
named_ordered modes.Product vector mark is = cc
named_ordered modes.Marks vector mark is = cc
named_ordered modes.Adapt vector mark is = cc

mode_named : (words : List (List ℕ)) → OptionStands names.Mode (codes "ordered") words → NameOrdered words
unfolding spelled
mode_named words stands = stands

pub ordered_named : (words : List (List ℕ)) (choice : Choice) → AskFor words choice → choice.mode ≡ of_system systems.Ordered → NameOrdered words
ordered_named words choice asked is =
    let given = given_by asked.settings in
    let name = named_ordered (mode_name_in given) (given.value names.Vector) (given.value names.Mark) (sym (ap (λ (c : Choice). c.mode) asked.choice_is) ∙ is) in
    subst NameOrdered (sym asked.words_are) (mode_named (flat_map words_of asked.settings)
    (option_stands names.Mode asked.settings (codes "ordered") (ordered_given (first_of (values_of asked.settings names.Mode)) name)))

-- the name of a batch stands behind its option
batch_stands : (value : List ℕ) (words : List (List ℕ)) → OptionStands names.Batch value words → NameBatch words
unfolding spelled
batch_stands value words (inl two) = inl (record { before = two.before; behind = value ∷ two.behind; words_are = two.words_are })
batch_stands value words (inr one) = inr (value, one)

stands_as : (value : Option (List ℕ)) → is_some value ≡ true → (word : List ℕ) × (value ≡ Some word)
stands_as None is = cc
stands_as (Some word) is = (word, refl)

pub batch_named : (words : List (List ℕ)) (choice : BatchChoice) → AskForBatch words choice → NameBatch words
batch_named words choice asked =
    let value = stands_as (first_of (values_of asked.settings names.Batch)) asked.rules.stands in
    subst NameBatch (sym asked.words_are) (batch_stands value.0 (flat_map words_of asked.settings) (option_stands names.Batch asked.settings value.0 value.1))
