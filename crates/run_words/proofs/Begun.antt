-- What words begin, and how settings are spelled.
use Rattle.std.proofs.Common.{◌≡◌, ◌∙◌, ◌++◌, ap, sym, subst, ℕ, List, [], ◌∷◌, Bool, true, false, cond, refl, append_assoc}
use Rattle.std.specs.Prelude.{Some, None, codes, find}
use Rattle.std.specs.declared.option.Option.{Option}
use Rattle.std.specs.List.{list_any, before_first, after_first}
use Rattle.std.specs.Option.{option_map}
use Rattle.std.specs.Str.{bytes_eq}
use Rattle.std.proofs.lemmas.Slice.Eq.{bytes_eq-Decides}
use borrow.Author.Tests.{eqb-true}
use Rattle.fem_fixed.proofs.Splits.{put_together}
use Rattle.run_words.specs.declared.name.Name.{Name}
use Rattle.run_words.specs.declared.name.Name.TheVariants as names
use Rattle.run_words.specs.declared.switch.Switch.{Switch}
use Rattle.run_words.specs.declared.switch.Switch.TheVariants as switches
use Rattle.run_words.specs.Names.{spelled, all_names}
use Rattle.run_words.specs.Switches.{spelled_alone, all_switches}
use Rattle.run_words.specs.Settings.{joined, alone, words_of}
use Rattle.run_words.specs.Openings.{Begins, whole, named, begins, begins_by, find_name, find_switch, joined_in, is_equals_sign}

pub begins_name : (name : Name) → begins (spelled name) ≡ Some (named name)
unfolding begins spelled find_name find_switch spelled_alone
begins_name names.Mode = refl
begins_name names.Mesh = refl
begins_name names.Problem = refl
begins_name names.Workers = refl
begins_name names.Queue = refl
begins_name names.Chunk = refl
begins_name names.Scratch = refl
begins_name names.Digits = refl
begins_name names.Faces = refl
begins_name names.Matrix = refl
begins_name names.Rhs = refl
begins_name names.Generate = refl
begins_name names.Seed = refl
begins_name names.Format = refl
begins_name names.Subdomain = refl
begins_name names.Ghost = refl
begins_name names.Vector = refl
begins_name names.Mark = refl
begins_name names.Batch = refl
begins_name names.Degree = refl

pub begins_joined : (name : Name) (value : List ℕ) → begins (spelled name ++ codes "=" ++ value) ≡ Some (whole (joined name value))
unfolding begins spelled find_name find_switch spelled_alone
begins_joined names.Mode value = refl
begins_joined names.Mesh value = refl
begins_joined names.Problem value = refl
begins_joined names.Workers value = refl
begins_joined names.Queue value = refl
begins_joined names.Chunk value = refl
begins_joined names.Scratch value = refl
begins_joined names.Digits value = refl
begins_joined names.Faces value = refl
begins_joined names.Matrix value = refl
begins_joined names.Rhs value = refl
begins_joined names.Generate value = refl
begins_joined names.Seed value = refl
begins_joined names.Format value = refl
begins_joined names.Subdomain value = refl
begins_joined names.Ghost value = refl
begins_joined names.Vector value = refl
begins_joined names.Mark value = refl
begins_joined names.Batch value = refl
begins_joined names.Degree value = refl

pub begins_alone : (switch : Switch) → begins (spelled_alone switch) ≡ Some (whole (alone switch))
unfolding begins spelled_alone find_switch
begins_alone switches.Summary = refl
begins_alone switches.GhostCells = refl

found_passes : {X : Type 0} (p : X → Bool) (xs : List X) (x : X) → find p xs ≡ Some x → p x ≡ true
found_passes p [] x found = cc
found_passes p (y ∷ ys) x found =
    (elim (p y) as (λ b. p y ≡ b → cond b (Some y) (find p ys) ≡ Some x → p x ≡ true) [
      | true ↦ λ passes h. let e : y ≡ x = cc in subst (λ z. p z ≡ true) e passes
      | false ↦ λ passes h. found_passes p ys x h
    ]) refl found

pub find_name-spells : (word : List ℕ) (name : Name) → find_name word ≡ Some name → word ≡ spelled name
unfolding find_name
find_name-spells word name found = sym ((bytes_eq-Decides (spelled name) word).0 (found_passes (λ n. bytes_eq (spelled n) word) all_names name found))

-- the word is that of the whole setting, or it names the option
abbrev pub IsBegun : Begins → List ℕ → Type 0
IsBegun (whole setting) word = word ∷ [] ≡ words_of setting
IsBegun (named name) word = word ≡ spelled name

map_some : {X Y : Type 0} (f : X → Y) (o : Option X) (y : Y) → option_map f o ≡ Some y → (x : X) × (o ≡ Some x) × (f x ≡ y)
map_some f None y is = cc
map_some f (Some x) y is = (x, refl, (cc))

joined_is_begun : (word : List ℕ) (begun : Begins) → list_any is_equals_sign word ≡ true → joined_in word ≡ Some begun → IsBegun begun word
joined_is_begun word begun has is =
    let found = map_some (λ name. whole (joined name (after_first is_equals_sign word))) (find_name (before_first is_equals_sign word)) begun is in
    let cut = put_together is_equals_sign word has in
    let sign : cut.0 ≡ 61 = eqb-true cut.0 61 cut.1 in
    let word_is : word ≡ spelled found.0 ++ codes "=" ++ after_first is_equals_sign word =
    cut.2 ∙ ap (λ y. before_first is_equals_sign word ++ y ∷ after_first is_equals_sign word) sign
    ∙ ap (λ front. front ++ 61 ∷ after_first is_equals_sign word) (find_name-spells (before_first is_equals_sign word) found.0 found.1)
    ∙ sym (append_assoc (spelled found.0) (codes "=") (after_first is_equals_sign word)) in
    subst (λ b. IsBegun b word) found.2 (ap (λ w. w ∷ []) word_is)

named_is_begun : (word : List ℕ) (begun : Begins) → option_map named (find_name word) ≡ Some begun → IsBegun begun word
named_is_begun word begun is =
    let found = map_some named (find_name word) begun is in
    subst (λ b. IsBegun b word) found.2 (find_name-spells word found.0 found.1)

find_switch-spells : (word : List ℕ) (switch : Switch) → find_switch word ≡ Some switch → word ≡ spelled_alone switch
unfolding find_switch
find_switch-spells word switch found =
    sym ((bytes_eq-Decides (spelled_alone switch) word).0 (found_passes (λ s. bytes_eq (spelled_alone s) word) all_switches switch found))

begun_by : (word : List ℕ) (begun : Begins) (found : Option Switch) (signed : Bool) → find_switch word ≡ found → list_any is_equals_sign word ≡ signed →
    begins_by found word ≡ Some begun → IsBegun begun word
begun_by word begun (Some switch) signed is has found =
    let e : whole (alone switch) ≡ begun = cc in
    subst (λ b. IsBegun b word) e (ap (λ w. w ∷ []) (find_switch-spells word switch is))
begun_by word begun None true is has found = joined_is_begun word begun has (sym (ap (λ b. cond b (joined_in word) (option_map named (find_name word))) has) ∙ found)
begun_by word begun None false is has found = named_is_begun word begun (sym (ap (λ b. cond b (joined_in word) (option_map named (find_name word))) has) ∙ found)

pub begins_tells : (word : List ℕ) (begun : Begins) → begins word ≡ Some begun → IsBegun begun word
unfolding begins
begins_tells word begun found = begun_by word begun (find_switch word) (list_any is_equals_sign word) refl refl found
