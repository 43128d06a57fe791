-- What taking a setting does.
use Rattle.std.proofs.Common.{◌≡◌, ◌∙◌, ◌+◌, ◌++◌, ap, sym, ℕ, List, [], ◌∷◌, length, Bool, true, false, cond, refl, arith, append-nil, get_or, take, drop, map, ◌≤◌, ◌-◌, suc}
use Rattle.std.proofs.Math.Seq.{take-length}
use Rattle.std.specs.Prelude.{Some, None, IsSome}
use Rattle.std.specs.declared.option.Option.{Option}
use Rattle.std.specs.Option.{option_to_list, option_and_then, option_map}
use Rattle.run_words.specs.declared.name.Name.{Name}
use Rattle.run_words.specs.Names.{same_name}
use Rattle.run_words.specs.declared.switch.Switch.{Switch}
use Rattle.run_words.specs.Switches.{same_switch}
use Rattle.run_words.specs.Settings.{Setting, Given, apart, joined, alone}
use Rattle.run_words.specs.Openings.{whole, named, begins, seen_opening}
use Rattle.run_words.specs.declared.opening.Opening as rust
use Rattle.run_words.specs.Held.{Sets, Turns, Adds, Takes, CannotTake, stands, valued, switched, first_with}
use Rattle.run_words.proofs.Places.{names_are_one, same_name-refl, switches_are_one, same_switch-refl}

-- the value of an option, with what a setting of another or the same one gives
pub value_added : (old new : Given) (name other : Name) (value : List ℕ) → Sets old name value new → (same : Bool) → same_name other name ≡ same →
    option_to_list (cond same (Some value) (old.value other)) ≡ option_to_list (old.value other) ++ option_to_list (cond same (Some value) None)
value_added old new name other value sets true is = rw (ap old.value (names_are_one other name is) ∙ sets.free) refl
value_added old new name other value sets false is = sym (append-nil (option_to_list (old.value other)))

pub adds_joined : (old new : Given) (name : Name) (value : List ℕ) → Sets old name value new → Adds old (joined name value) new
adds_joined old new name value sets = record {
  values_are = λ other. ap option_to_list (sets.values_are other) ∙ value_added old new name other value sets (same_name other name) refl;
  switches_are = λ switch. rw (sets.switches_stay switch) (omega arith);
}

pub adds_apart : (old new : Given) (name : Name) (value : List ℕ) → Sets old name value new → Adds old (apart name value) new
adds_apart old new name value sets = record {
  values_are = λ other. ap option_to_list (sets.values_are other) ∙ value_added old new name other value sets (same_name other name) refl;
  switches_are = λ switch. rw (sets.switches_stay switch) (omega arith);
}

-- whether an option stands, with one that is turned on
switch_added : (old new : Given) (switch other : Switch) → Turns old switch new → (same : Bool) → same_switch other switch ≡ same →
    cond {A = ℕ} (cond same true (old.stands other)) 1 0 ≡ cond same 1 0 + cond (old.stands other) 1 0
switch_added old new switch other turns true is = rw (ap old.stands (switches_are_one other switch is) ∙ turns.free) refl
switch_added old new switch other turns false is = omega arith

pub adds_alone : (old new : Given) (switch : Switch) → Turns old switch new → Adds old (alone switch) new
adds_alone old new switch turns = record {
  values_are = λ other. ap option_to_list (turns.values_stay other) ∙ sym (append-nil (option_to_list (old.value other)));
  switches_are = λ other.
      let e = ap (λ b. cond {A = ℕ} b 1 0) (turns.switches_are other) in
      let f = switch_added old new switch other turns (same_switch other switch) refl in
      omega (arith, e, f);
}

pub takes_whole : (old new : Given) (word : List ℕ) (behind : List (List ℕ)) (setting : Setting) → begins word ≡ Some (whole setting) → Adds old setting new → Takes old (word ∷ behind) new behind
takes_whole old new word behind setting begun adds = record {
  setting = setting;
  first_is = ap (option_and_then (λ b. first_with b behind)) begun;
  adds = adds;
}

pub takes_apart : (old new : Given) (word value : List ℕ) (behind : List (List ℕ)) (name : Name) → begins word ≡ Some (named name) → Sets old name value new → Takes old (word ∷ value ∷ behind) new behind
takes_apart old new word value behind name begun sets = record {
  setting = apart name value;
  first_is = ap (option_and_then (λ b. first_with b (value ∷ behind))) begun;
  adds = adds_apart old new name value sets;
}

pub gives_itself : (same : Bool) (value : List ℕ) → same ≡ true → IsSome (cond same (Some value) None)
gives_itself same value is = rw is refl

pub cannot_take_joined : (held : Given) (word value : List ℕ) (behind : List (List ℕ)) (name : Name) → begins word ≡ Some (whole (joined name value)) → IsSome (held.value name) → CannotTake held (word ∷ behind)
cannot_take_joined held word value behind name begun stood =
    stands (joined name value) behind (ap (option_and_then (λ b. first_with b behind)) begun) (valued name stood (gives_itself (same_name name name) value (same_name-refl name)))

pub cannot_take_apart : (held : Given) (word value : List ℕ) (behind : List (List ℕ)) (name : Name) → begins word ≡ Some (named name) → IsSome (held.value name) → CannotTake held (word ∷ value ∷ behind)
cannot_take_apart held word value behind name begun stood =
    stands (apart name value) behind (ap (option_and_then (λ b. first_with b (value ∷ behind))) begun) (valued name stood (gives_itself (same_name name name) value (same_name-refl name)))

pub cannot_take_alone : (held : Given) (word : List ℕ) (behind : List (List ℕ)) (switch : Switch) → begins word ≡ Some (whole (alone switch)) → held.stands switch ≡ true → CannotTake held (word ∷ behind)
cannot_take_alone held word behind switch begun stood =
    stands (alone switch) behind (ap (option_and_then (λ b. first_with b behind)) begun) (switched switch stood (same_switch-refl switch))

-- a list that isn't empty, by its first element
pub map-front : {A B : Type 0} (f : A → B) (list : List A) (x : A) → 1 ≤ length list → x ≡ get_or list 0 x → map f list ≡ f x ∷ map f (take (length list - 1) (drop 1 list))
map-front f [] x long is = absurd (omega (arith, long))
map-front f (y ∷ ys) x long is =
    let e : suc (length ys) - 1 ≡ length ys = omega arith in
    ap (λ z. f z ∷ map f ys) (sym is) ∙ ap (λ list. f x ∷ map f list) (sym (ap (λ n. take n ys) e ∙ take-length ys))

pub opened : (found : Option rust.Opening) (x : rust.Opening) (word : List ℕ) → option_map seen_opening found ≡ begins word → found ≡ Some x → begins word ≡ Some (seen_opening x)
opened found x word seen is = sym seen ∙ ap (option_map seen_opening) is
