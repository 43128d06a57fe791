-- Words ask for something or for nothing.
use Rattle.std.proofs.Common.{◌≡◌, ◌∙◌, ◌⊎◌, inl, inr, sym, ap, refl, ℕ, zero, suc, ◌≤◌, List, [], ◌∷◌, length, true, false, arith}
use Rattle.std.specs.Prelude.{Some, None, IsSome, if◌then◌else◌}
use Rattle.std.specs.declared.option.Option.{Option}
use Rattle.std.proofs.lemmas.Bool.{cases_Bool}
use Rattle.std.proofs.lemmas.List.{length-append}
use Rattle.run_words.specs.declared.name.Name.{Name}
use Rattle.run_words.specs.declared.switch.Switch.{Switch}
use Rattle.run_words.specs.Names.{same_name}
use Rattle.run_words.specs.Switches.{same_switch}
use Rattle.run_words.specs.Settings.{Setting, Given, apart, joined, alone, words_of}
use Rattle.run_words.specs.Held.{Sets, Turns, Adds, Repeats, valued, switched, no_setting, stands, first_setting, HoldsSoFar, Holds, CannotHold}
use Rattle.run_words.specs.Words.{AskForNothing, AskForSomethingOrNothing}
use Rattle.run_words.specs.Reading.{reading}
use Rattle.run_words.proofs.Places.{same_name-refl, same_switch-refl}
use Rattle.run_words.proofs.Taking.{adds_apart, adds_joined, adds_alone, gives_itself}
use Rattle.run_words.proofs.Cuts.{words_of_first, holds_more, holds_all, holds_fails}
use Rattle.run_words.proofs.Asked.{ask_for_read, read_as_asked, cannot_ask}

pub cases_Option : {X : Type 0} (o : Option X) → (o ≡ None) ⊎ ((x : X) × (o ≡ Some x))
cases_Option None = inl refl
cases_Option (Some x) = inr (x, refl)

-- what is held and one value more
abbrev with_value : Given → Name → List ℕ → Given
with_value held name value = record { value = λ other. if same_name other name then Some value else held.value other; stands = held.stands }

abbrev with_switch : Given → Switch → Given
with_switch held switch = record { value = held.value; stands = λ other. if same_switch other switch then true else held.stands other }

sets : (held : Given) (name : Name) (value : List ℕ) → held.value name ≡ None → Sets held name value (with_value held name value)
sets held name value free = record { free = free; values_are = λ other. refl; switches_stay = λ switch. refl }

turns : (held : Given) (switch : Switch) → held.stands switch ≡ false → Turns held switch (with_switch held switch)
turns held switch free = record { free = free; values_stay = λ name. refl; switches_are = λ other. refl }

stood : (o : Option (List ℕ)) (value : List ℕ) → o ≡ Some value → IsSome o
stood None value is = cc
stood (Some other) value is = refl

repeats_apart : (held : Given) (name : Name) (value : List ℕ) → IsSome (held.value name) → Repeats held (apart name value)
repeats_apart held name value there = valued name there (gives_itself (same_name name name) value (same_name-refl name))

repeats_joined : (held : Given) (name : Name) (value : List ℕ) → IsSome (held.value name) → Repeats held (joined name value)
repeats_joined held name value there = valued name there (gives_itself (same_name name name) value (same_name-refl name))

-- a setting is added to what is held, or its option stands already
added_or_not : (held : Given) (setting : Setting) → ((new : Given) × Adds held setting new) ⊎ Repeats held setting
added_or_not held (apart name value) = elim (cases_Option (held.value name)) [
  | inl free ↦ inl (with_value held name value, adds_apart held (with_value held name value) name value (sets held name value free))
  | inr there ↦ inr (repeats_apart held name value (stood (held.value name) there.0 there.1))
]
added_or_not held (joined name value) = elim (cases_Option (held.value name)) [
  | inl free ↦ inl (with_value held name value, adds_joined held (with_value held name value) name value (sets held name value free))
  | inr there ↦ inr (repeats_joined held name value (stood (held.value name) there.0 there.1))
]
added_or_not held (alone switch) = elim (cases_Bool (held.stands switch)) [
  | inl there ↦ inr (switched switch there (same_switch-refl switch))
  | inr free ↦ inl (with_switch held switch, adds_alone held (with_switch held switch) switch (turns held switch free))
]

some_words : (setting : Setting) → 1 ≤ length (words_of setting)
some_words (apart name value) = omega arith
some_words (joined name value) = omega arith
some_words (alone switch) = omega arith

-- fewer words are left behind a setting
shorter : (words : List (List ℕ)) (setting : Setting) (left : List (List ℕ)) (n : ℕ) → first_setting words ≡ Some (setting, left) → length words ≤ suc n → length left ≤ n
shorter words setting left n first few =
    let all = ap length (words_of_first words setting left first) in
    let sizes = length-append (words_of setting) left in
    let some = some_words setting in
    omega (arith, all, sizes, some, few)

-- the words are settings of which no option stands twice, or they are not
abbrev pub AreHeldOrNot : List (List ℕ) → Type 0
AreHeldOrNot words = ((held : Given) × Holds words held) ⊎ CannotHold words

held_from : (n : ℕ) (words left : List (List ℕ)) (held : Given) → length left ≤ n → HoldsSoFar words held left → AreHeldOrNot words
held_from n words [] held few so_far = inl (held, holds_all words held so_far)
held_from zero words (word ∷ behind) held few so_far = absurd (omega arith)
held_from (suc n) words (word ∷ behind) held few so_far = elim (cases_Option (first_setting (word ∷ behind))) [
  | inl none ↦ inr (holds_fails words held word behind so_far (no_setting none))
  | inr first ↦ elim (added_or_not held first.0.0) [
    | inl new ↦ held_from n words first.0.1 new.0 (shorter (word ∷ behind) first.0.0 first.0.1 n first.1 few)
        (holds_more words held new.0 (word ∷ behind) first.0.1 so_far (record { setting = first.0.0; first_is = first.1; adds = new.1 }))
    | inr repeats ↦ inr (holds_fails words held word behind so_far (stands first.0.0 first.0.1 first.1 repeats))
  ]
]

pub held_or_not : (words : List (List ℕ)) → AreHeldOrNot words
held_or_not words =
    let nothing : Given = record { value = λ name. None; stands = λ switch. false } in
    let so_far : HoldsSoFar words nothing words = record { settings = []; words_are = refl; values_are = record { values_are = λ name. refl; switches_are = λ switch. refl } } in
    held_from (length words) words words nothing (omega arith) so_far

asks_nothing : (words : List (List ℕ)) (held : Given) → Holds words held → reading held ≡ None → AskForNothing words
asks_nothing words held holds none choice asked = (let e = sym none ∙ read_as_asked words held choice holds asked in cc)

pub asked_or_not : (words : List (List ℕ)) → AskForSomethingOrNothing words
asked_or_not words = elim (held_or_not words) [
  | inl is ↦ elim (cases_Option (reading is.0)) [
    | inl none ↦ inr (asks_nothing words is.0 is.1 none)
    | inr some ↦ inl (some.0, ask_for_read words is.0 some.0 is.1 some.1)
  ]
  | inr cannot ↦ inr (cannot_ask words cannot)
]
