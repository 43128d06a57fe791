-- How words are cut into settings.
use Rattle.std.proofs.Common.{◌≡◌, ◌∙◌, ◌+◌, ◌++◌, ap, sym, subst, ℕ, List, [], ◌∷◌, length, Bool, true, false, cond, ◌||◌, refl, arith, suc, not, get_or, replicate, append_assoc, append-nil, Bor}
use Rattle.std.specs.Prelude.{Some, None, IsSome}
use Rattle.std.specs.declared.option.Option.{Option}
use Rattle.std.specs.List.{list_any, position_or_len, prefix_len, flat_map, cons_option}
use Rattle.std.specs.Option.{option_copied, option_to_list, option_and_then}
use Rattle.std.proofs.lemmas.List.{length-append}
use Rattle.std.proofs.lemmas.List.Elements.{filter_map-append}
use Rattle.std.proofs.lemmas.Grind.{flat_map-append}
use Rattle.std.proofs.lemmas.List.Sums.{sum_by-append, sum_by-cons}
use Rattle.std.proofs.Common.{zero}
use Rattle.run_words.specs.Names.{place_of}
use Rattle.run_words.specs.Switches.{switch_place}
use Rattle.run_words.specs.Settings.{Setting, Given, apart, joined, alone, words_of, gives_to, is_alone, values_of, StandsOnce}
use Rattle.run_words.specs.Openings.{Begins, whole, named, begins}
use Rattle.run_words.specs.Held.{Takes, CannotTake, no_setting, stands, valued, switched, Repeats, HoldsValues, Holds, HoldsSoFar, CannotHold, first_with, first_setting}
use Rattle.run_words.proofs.Begun.{begins_name, begins_joined, begins_alone, begins_tells, IsBegun}
use Rattle.run_words.proofs.Places.{held_in}

-- no element passes, where the first that does would stand at the end
pub none_passes : {X : Type 0} (p : X → Bool) (xs : List X) → position_or_len p xs ≡ length xs → list_any p xs ≡ false
none_passes p [] at_end = refl
none_passes p (x ∷ xs) at_end =
    (elim (p x) as (λ b. cond (not b) (1 + prefix_len (λ y. not (p y)) xs) 0 ≡ suc (length xs) → b || list_any p xs ≡ false)
    [ true ↦ λ h. absurd (omega (arith, h)) | false ↦ λ h. none_passes p xs (omega (arith, h)) ]) at_end

-- the first setting of words that begin with a setting
pub first_setting-words_of : (setting : Setting) (left : List (List ℕ)) → first_setting (words_of setting ++ left) ≡ Some (setting, left)
first_setting-words_of (apart name value) left = ap (option_and_then (λ begun. first_with begun (value ∷ left))) (begins_name name)
first_setting-words_of (joined name value) left = ap (option_and_then (λ begun. first_with begun left)) (begins_joined name value)
first_setting-words_of (alone switch) left = ap (option_and_then (λ begun. first_with begun left)) (begins_alone switch)

pub then_some : {X Y : Type 0} (f : X → Option Y) (o : Option X) (y : Y) → option_and_then f o ≡ Some y → (x : X) × (o ≡ Some x) × (f x ≡ Some y)
then_some f None y is = cc
then_some f (Some x) y is = (x, refl, is)

abbrev part_in : Setting → Option (Setting × List (List ℕ)) → Setting
part_in setting None = setting
part_in setting (Some pair) = pair.0

abbrev rest_in : List (List ℕ) → Option (Setting × List (List ℕ)) → List (List ℕ)
rest_in rest None = rest
rest_in rest (Some pair) = pair.1

first_with-words : (word : List ℕ) (behind : List (List ℕ)) (begun : Begins) (setting : Setting) (left : List (List ℕ)) → IsBegun begun word →
    first_with begun behind ≡ Some (setting, left) → word ∷ behind ≡ words_of setting ++ left
first_with-words word behind (whole part) setting left is first =
    let e = ap (part_in part) first in
    let f = ap (rest_in behind) first in
    ap (λ front. front ++ behind) is ∙ ap (λ s. words_of s ++ behind) e ∙ ap (λ list. words_of setting ++ list) f
first_with-words word [] (named name) setting left is first = cc
first_with-words word (value ∷ behind) (named name) setting left is first =
    let e = ap (part_in (apart name value)) first in
    let f = ap (rest_in behind) first in
    ap (λ w. w ∷ value ∷ behind) is ∙ ap (λ s. words_of s ++ behind) e ∙ ap (λ list. words_of setting ++ list) f

pub words_of_first : (words : List (List ℕ)) (setting : Setting) (left : List (List ℕ)) → first_setting words ≡ Some (setting, left) → words ≡ words_of setting ++ left
words_of_first [] setting left first = cc
words_of_first (word ∷ behind) setting left first =
    let found = then_some (λ begun. first_with begun behind) (begins word) (setting, left) first in
    first_with-words word behind found.0 setting left (begins_tells word found.0 found.1) found.2

some_is_none : {X : Type 0} (x : X) → Some x ≡ None → ⊥
some_is_none x is = cc

same_pair : (setting other : Setting) (left rest : List (List ℕ)) → ◌≡◌ {A = Option (Setting × List (List ℕ))} (Some (setting, left)) (Some (other, rest)) → (setting ≡ other) × (left ≡ rest)
same_pair setting other left rest is = (ap (part_in setting) is, ap (rest_in left) is)

-- settings are known by their words
pub cut_further : (settings all : List Setting) (left : List (List ℕ)) → flat_map words_of settings ++ left ≡ flat_map words_of all →
    (more : List Setting) × (all ≡ settings ++ more) × (left ≡ flat_map words_of more)
cut_further [] all left is = (all, refl, is)
cut_further (setting ∷ settings) [] left is =
    let rest = flat_map words_of settings ++ left in
    let first = sym (first_setting-words_of setting rest) ∙ ap first_setting (sym (append_assoc (words_of setting) (flat_map words_of settings) left) ∙ is) in
    absurd (some_is_none (setting, rest) first)
cut_further (setting ∷ settings) (other ∷ others) left is =
    let rest = flat_map words_of settings ++ left in
    let first = sym (first_setting-words_of setting rest) ∙ ap first_setting (sym (append_assoc (words_of setting) (flat_map words_of settings) left) ∙ is) ∙ first_setting-words_of other (flat_map words_of others) in
    let pair = same_pair setting other rest (flat_map words_of others) first in
    let further = cut_further settings others left pair.1 in
    (further.0, ap (λ s. s ∷ others) (sym pair.0) ∙ ap (λ list. setting ∷ list) further.1, further.2)

abbrev nothing : Option (Bor (List ℕ))
nothing = None

none_at : (count place : ℕ) → get_or (replicate count nothing) place nothing ≡ nothing
none_at zero place = refl
none_at (suc count) zero = refl
none_at (suc count) (suc place) = none_at count place

off_at : (count place : ℕ) → get_or (replicate count false) place false ≡ false
off_at zero place = refl
off_at (suc count) zero = refl
off_at (suc count) (suc place) = off_at count place

pub holds_none : (words : List (List ℕ)) → HoldsSoFar words (held_in (replicate 20 nothing) (replicate 2 false)) words
holds_none words = record {
  settings = [];
  words_are = refl;
  values_are = record { values_are = λ name. ap (λ o. option_to_list (option_copied o)) (none_at 20 (place_of name)); switches_are = λ switch. ap (λ b. cond {A = ℕ} b 1 0) (off_at 2 (switch_place switch)) };
}

single_value : (o : Option (List ℕ)) → option_to_list o ≡ cons_option o []
single_value None = refl
single_value (Some value) = refl

pub holds_more : (words : List (List ℕ)) (held new : Given) (left rest : List (List ℕ)) → HoldsSoFar words held left → Takes held left new rest → HoldsSoFar words new rest
holds_more words held new left rest so_far takes = record {
  settings = so_far.settings ++ takes.setting ∷ [];
  words_are = so_far.words_are ∙ ap (λ list. flat_map words_of so_far.settings ++ list) (words_of_first left takes.setting rest takes.first_is)
      ∙ sym (append_assoc (flat_map words_of so_far.settings) (words_of takes.setting) rest)
      ∙ ap (λ list. list ++ rest) (sym (flat_map-append words_of so_far.settings (takes.setting ∷ []) ∙ ap (λ list. flat_map words_of so_far.settings ++ list) (append-nil (words_of takes.setting))));
  values_are = record {
    values_are = λ name. takes.adds.values_are name ∙ ap (λ list. list ++ option_to_list (gives_to name takes.setting)) (so_far.values_are.values_are name)
        ∙ ap (λ list. values_of so_far.settings name ++ list) (single_value (gives_to name takes.setting))
        ∙ sym (filter_map-append (gives_to name) so_far.settings (takes.setting ∷ []));
    switches_are = λ switch.
        let all = sum_by-append (λ s. cond (is_alone switch s) 1 0) so_far.settings (takes.setting ∷ []) in
        let one = takes.adds.switches_are switch in
        let were = so_far.values_are.switches_are switch in
        omega arith;
  };
}

pub holds_all : (words : List (List ℕ)) (held : Given) → HoldsSoFar words held [] → Holds words held
holds_all words held so_far = record {
  settings = so_far.settings;
  words_are = so_far.words_are ∙ append-nil (flat_map words_of so_far.settings);
  values_are = so_far.values_are;
}

standing : (o : Option (List ℕ)) → IsSome o → length (option_to_list o) ≡ 1
standing None stood = cc
standing (Some value) stood = refl

giving : (o : Option (List ℕ)) (values : List (List ℕ)) → IsSome o → length (cons_option o values) ≡ 1 + length values
giving None values given = cc
giving (Some value) values given = omega arith

repeats_twice : (settings more : List Setting) (setting : Setting) (held : Given) → HoldsValues settings held → StandsOnce (settings ++ setting ∷ more) → Repeats held setting → ⊥
repeats_twice settings more setting held holds once (valued name stood given) =
    let all = ap length (filter_map-append (gives_to name) settings (setting ∷ more)) in
    let sizes = length-append (values_of settings name) (values_of (setting ∷ more) name) in
    let first = ap length (holds.values_are name) in
    let first_one = standing (held.value name) stood in
    let second = giving (gives_to name setting) (values_of more name) given in
    let few = once.valued name in
    omega arith
repeats_twice settings more setting held holds once (switched switch stood is) =
    let one : Setting → ℕ = λ s. cond (is_alone switch s) 1 0 in
    let all = sum_by-append one settings (setting ∷ more) in
    let later = sum_by-cons one setting more in
    let here = ap (λ (b : Bool). cond {A = ℕ} b 1 0) is in
    let earlier = ap (λ (b : Bool). cond {A = ℕ} b 1 0) stood in
    let held_is = holds.switches_are switch in
    let few = once.switched switch in
    omega arith

fails_at : (settings more : List Setting) (held : Given) (word : List ℕ) (behind : List (List ℕ)) → HoldsValues settings held → word ∷ behind ≡ flat_map words_of more →
    StandsOnce (settings ++ more) → CannotTake held (word ∷ behind) → ⊥
fails_at settings [] held word behind holds is once cannot = cc
fails_at settings (setting ∷ more) held word behind holds is once (no_setting none) =
    some_is_none (setting, flat_map words_of more) (sym (first_setting-words_of setting (flat_map words_of more)) ∙ ap first_setting (sym is) ∙ none)
fails_at settings (setting ∷ more) held word behind holds is once (stands other left first repeats) =
    let pair = same_pair other setting left (flat_map words_of more) (sym first ∙ ap first_setting is ∙ first_setting-words_of setting (flat_map words_of more)) in
    repeats_twice settings more setting held holds once (subst (Repeats held) pair.0 repeats)

pub holds_fails : (words : List (List ℕ)) (held : Given) (word : List ℕ) (behind : List (List ℕ)) → HoldsSoFar words held (word ∷ behind) → CannotTake held (word ∷ behind) → CannotHold words
holds_fails words held word behind so_far cannot all is once =
    let further = cut_further so_far.settings all (word ∷ behind) (sym so_far.words_are ∙ is) in
    fails_at so_far.settings further.0 held word behind so_far.values_are further.2 (subst StandsOnce further.1 once) cannot
