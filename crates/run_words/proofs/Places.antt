-- Values by the places of their options.
use Rattle.std.proofs.Common.{◌≡◌, ◌<◌, ◌∙◌, ap, sym, ℕ, List, length, Bool, true, false, cond, refl, arith, nat_eq, get_or, Bor, lit<, eq-eqb}
use Rattle.std.proofs.Math.ListN.{set}
use Rattle.std.proofs.lemmas.List.{get_or-set_other}
use Rattle.std.proofs.lemmas.Grind.{common_steps}
use Rattle.std.proofs.lemmas.Bool.Decides.{nat_tests}
use borrow.Author.Tests.{eqb-true}
use Rattle.std.specs.Prelude.{Some, None, is_some, if◌then◌else◌}
use Rattle.std.specs.declared.option.Option.{Option}
use Rattle.std.specs.Option.{option_copied}
use Rattle.run_words.specs.declared.name.Name.{Name}
use Rattle.run_words.specs.declared.name.Name.TheVariants as names
use Rattle.run_words.specs.declared.switch.Switch.{Switch}
use Rattle.run_words.specs.declared.switch.Switch.TheVariants as switches
use Rattle.run_words.specs.Names.{place_of, same_name}
use Rattle.run_words.specs.Switches.{switch_place, same_switch}
use Rattle.run_words.specs.Settings.{Given}
use Rattle.run_words.specs.Held.{Sets, Turns}

pub get_or-set_by_test : {A : Type 0} (xs : List A) (i j : ℕ) (y d : A) → i < length xs → get_or (set xs i y) j d ≡ cond (nat_eq j i) y (get_or xs j d)
get_or-set_by_test {A = A} xs i j y d within = grind (arith, nat_tests, common_steps, get_or-set_other {A = A})

pub copied_none : {A : Type 0} (o : Option (Bor A)) → false ≡ is_some o → option_copied o ≡ None
copied_none None nothing = refl
copied_none (Some x) nothing = cc

pub copied_cond : {A : Type 0} (b : Bool) (x : Bor A) (o : Option (Bor A)) → option_copied (cond b (Some x) o) ≡ cond b (Some x.now) (option_copied o)
copied_cond true x o = refl
copied_cond false x o = refl

pub place_of_below : (name : Name) → place_of name < 20
place_of_below names.Mode = lit< tt
place_of_below names.Mesh = lit< tt
place_of_below names.Problem = lit< tt
place_of_below names.Workers = lit< tt
place_of_below names.Queue = lit< tt
place_of_below names.Chunk = lit< tt
place_of_below names.Scratch = lit< tt
place_of_below names.Digits = lit< tt
place_of_below names.Faces = lit< tt
place_of_below names.Matrix = lit< tt
place_of_below names.Rhs = lit< tt
place_of_below names.Generate = lit< tt
place_of_below names.Seed = lit< tt
place_of_below names.Format = lit< tt
place_of_below names.Subdomain = lit< tt
place_of_below names.Ghost = lit< tt
place_of_below names.Vector = lit< tt
place_of_below names.Mark = lit< tt
place_of_below names.Batch = lit< tt
place_of_below names.Degree = lit< tt

-- the option at a place
abbrev pub name_at : ℕ → Name
name_at place = if nat_eq place 0 then names.Mode else if nat_eq place 1 then names.Mesh else if nat_eq place 2 then names.Problem else if nat_eq place 3 then names.Workers else if nat_eq place 4 then names.Queue else if nat_eq place 5 then names.Chunk else if nat_eq place 6 then names.Scratch else if nat_eq place 7 then names.Digits else if nat_eq place 8 then names.Faces else if nat_eq place 9 then names.Matrix else if nat_eq place 10 then names.Rhs else if nat_eq place 11 then names.Generate else if nat_eq place 12 then names.Seed else if nat_eq place 13 then names.Format else if nat_eq place 14 then names.Subdomain else if nat_eq place 15 then names.Ghost else if nat_eq place 16 then names.Vector else if nat_eq place 17 then names.Mark else if nat_eq place 18 then names.Batch else names.Degree

pub name_at-place_of : (name : Name) → name_at (place_of name) ≡ name
name_at-place_of names.Mode = refl
name_at-place_of names.Mesh = refl
name_at-place_of names.Problem = refl
name_at-place_of names.Workers = refl
name_at-place_of names.Queue = refl
name_at-place_of names.Chunk = refl
name_at-place_of names.Scratch = refl
name_at-place_of names.Digits = refl
name_at-place_of names.Faces = refl
name_at-place_of names.Matrix = refl
name_at-place_of names.Rhs = refl
name_at-place_of names.Generate = refl
name_at-place_of names.Seed = refl
name_at-place_of names.Format = refl
name_at-place_of names.Subdomain = refl
name_at-place_of names.Ghost = refl
name_at-place_of names.Vector = refl
name_at-place_of names.Mark = refl
name_at-place_of names.Batch = refl
name_at-place_of names.Degree = refl

pub names_are_one : (name other : Name) → same_name name other ≡ true → name ≡ other
names_are_one name other same = sym (name_at-place_of name) ∙ ap name_at (eqb-true (place_of name) (place_of other) same) ∙ name_at-place_of other

pub same_name-refl : (name : Name) → same_name name name ≡ true
same_name-refl name = eq-eqb (place_of name) (place_of name) refl

switch_below : (switch : Switch) → switch_place switch < 2
switch_below switches.Summary = lit< tt
switch_below switches.GhostCells = lit< tt

abbrev switch_at : ℕ → Switch
switch_at place = if nat_eq place 0 then switches.Summary else switches.GhostCells

switch_at-place : (switch : Switch) → switch_at (switch_place switch) ≡ switch
switch_at-place switches.Summary = refl
switch_at-place switches.GhostCells = refl

pub switches_are_one : (switch other : Switch) → same_switch switch other ≡ true → switch ≡ other
switches_are_one switch other same = sym (switch_at-place switch) ∙ ap switch_at (eqb-true (switch_place switch) (switch_place other) same) ∙ switch_at-place other

pub same_switch-refl : (switch : Switch) → same_switch switch switch ≡ true
same_switch-refl switch = eq-eqb (switch_place switch) (switch_place switch) refl

-- what is held by lists of values and of options that stand
abbrev pub held_in : List (Option (Bor (List ℕ))) → List Bool → Given
held_in values switched = record {
  value = λ name. option_copied (get_or values (place_of name) None);
  stands = λ switch. get_or switched (switch_place switch) false;
}

pub sets_value : (values : List (Option (Bor (List ℕ)))) (stands : List Bool) (name : Name) (place : ℕ) (value : Bor (List ℕ)) →
    length values ≡ 20 → place ≡ place_of name → option_copied (get_or values (place_of name) None) ≡ None →
    Sets (held_in values stands) name value.now (held_in (set values place (Some value)) stands)
sets_value values stands name place value full there free =
    let within : place < length values = rw (full, there) (place_of_below name) in
    record {
      free = free;
      values_are = λ other.
          ap option_copied (get_or-set_by_test values place (place_of other) (Some value) None within)
          ∙ copied_cond (nat_eq (place_of other) place) value (get_or values (place_of other) None)
          ∙ ap (λ k. cond (nat_eq (place_of other) k) (Some value.now) (option_copied (get_or values (place_of other) None))) there;
      switches_stay = λ switch. refl;
    }

pub turns_switch : (values : List (Option (Bor (List ℕ)))) (stands : List Bool) (switch : Switch) (place : ℕ) → length stands ≡ 2 → place ≡ switch_place switch → get_or stands (switch_place switch) false ≡ false →
    Turns (held_in values stands) switch (held_in values (set stands place true))
turns_switch values stands switch place both there free =
    let within : place < length stands = rw (both, there) (switch_below switch) in
    record {
      free = free;
      values_stay = λ name. refl;
      switches_are = λ other.
          get_or-set_by_test stands place (switch_place other) true false within
          ∙ ap (λ k. cond (nat_eq (switch_place other) k) true (get_or stands (switch_place other) false)) there;
    }
