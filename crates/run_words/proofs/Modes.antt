-- The mode that is read is the one that is meant.
use Rattle.std.proofs.Common.{◌≡◌, ◌∙◌, ap, sym, ℕ, List, Bool, true, false, cond, refl, not}
use Rattle.std.specs.Prelude.{Some, None, is_some, ◌&&◌, ◌||◌}
use Rattle.std.specs.declared.option.Option.{Option}
use Rattle.std.specs.Option.{option_and_then}
use Rattle.run_words.specs.declared.mode.ModeName.{ModeName}
use Rattle.run_words.specs.declared.mode.ModeName.TheVariants as modes
use Rattle.run_words.specs.declared.options.Format.{Format}
use Rattle.run_words.specs.declared.options.VectorTask.{VectorTask}
use Rattle.run_words.specs.declared.options.VectorTask.TheVariants as tasks
use Rattle.run_words.specs.Values.{is_name, is_number_within}
use Rattle.run_words.specs.Choice.{Mode, of_system, of_mesh, of_vector, mode_from, source_of, number_or}
use Rattle.run_words.specs.Words.{passes, is_standard, takes_vector, takes_mark, VectorRules}
use Rattle.run_words.specs.Reading.{number_within, read_or, read_vector, read_mode, is_apart, ◌>>=◌}
use Rattle.run_words.proofs.Cuts.{then_some}
use Rattle.run_words.proofs.Numbers.{injected, number_read, number_given, cond_then}

-- the vector isn't read where another text is
abbrev stand_apart : Option (List ℕ) → Option (List ℕ) → Option (List ℕ) → Bool
stand_apart vector mesh problem = is_standard vector && (is_standard mesh || is_standard problem)

apart_is : (word : List ℕ) (mesh problem generate seed : Option (List ℕ)) (format : Format) →
    is_apart word (source_of mesh problem generate seed format) ≡ (not (is_some generate) && not (stand_apart (Some word) mesh problem))
apart_is word None problem None seed format = refl
apart_is word (Some mesh) problem None seed format = refl
apart_is word mesh problem (Some cells) seed format = refl

both_are : (b c : Bool) → (not b && not c) ≡ true → (b ≡ false) × (c ≡ false)
both_are true c is = cc
both_are false true is = cc
both_are false false is = (refl, refl)

pub record ModeInSets (vector mark : Option (List ℕ)) : Type 0 where
  pub vector_in : passes is_name vector ≡ true
  pub mark_in : passes (is_number_within 1 1048576) mark ≡ true

-- what is read keeps the rules, and is what is meant
pub record ModeRead (name : ModeName) (vector mark mesh problem generate : Option (List ℕ)) (mode : Mode) : Type 0 where
  pub in_sets : ModeInSets vector mark
  pub rules : VectorRules name vector mark mesh problem generate
  pub mode_is : mode ≡ mode_from name vector mark

module _ (mesh problem generate seed : Option (List ℕ)) (format : Format) where
  -- a vector that is read
  record VectorIs (word : List ℕ) : Type 0 where
    pub name_in : is_name word ≡ true
    pub no_generator : is_some generate ≡ false
    pub one_input : stand_apart (Some word) mesh problem ≡ false

  vector_read : {X : Type 0} (word : List ℕ) (f : List ℕ → Option X) (x : X) → (read_vector word (source_of mesh problem generate seed format) >>= f) ≡ Some x →
      VectorIs word × (f word ≡ Some x)
  vector_read word f x read =
      let both = then_some f (read_vector word (source_of mesh problem generate seed format)) x read in
      let found = cond_then (is_name word) word (λ name. cond (is_apart name (source_of mesh problem generate seed format)) (Some name) None) both.0 both.1 in
      let apart = cond_then (is_apart word (source_of mesh problem generate seed format)) word Some both.0 (ap (option_and_then Some) found.1) in
      let are = both_are (is_some generate) (stand_apart (Some word) mesh problem) (sym (apart_is word mesh problem generate seed format) ∙ apart.0) in
      (record { name_in = found.0; no_generator = are.0; one_input = are.1 }, ap f (injected word both.0 apart.1) ∙ both.2)

  vector_given : (word : List ℕ) → VectorIs word → read_vector word (source_of mesh problem generate seed format) ≡ Some word
  vector_given word is = rw (is.name_in, apart_is word mesh problem generate seed format, is.no_generator, is.one_input) refl

  no_vector : (name : ModeName) → takes_vector name ≡ false → takes_mark name ≡ false → VectorRules name None None mesh problem generate
  no_vector name none no_mark = record { taken = sym none; no_marks = refl; no_generator = refl; one_input = refl }

  marking_read : (make : ℕ → VectorTask) (word : List ℕ) (mark : Option (List ℕ)) (mode : Mode) →
      (read_vector word (source_of mesh problem generate seed format) >>= (λ name. read_or 1 (number_within 1 1048576) mark >>= (λ n. Some (of_vector name (make n))))) ≡ Some mode →
      VectorIs word × (passes (is_number_within 1 1048576) mark ≡ true) × (mode ≡ of_vector word (make (number_or 1 mark)))
  marking_read make word mark mode read =
      let is = vector_read word (λ name. read_or 1 (number_within 1 1048576) mark >>= (λ n. Some (of_vector name (make n)))) mode read in
      let n = then_some (λ n. Some (of_vector word (make n))) (read_or 1 (number_within 1 1048576) mark) mode is.1 in
      let number = number_read 1 1048576 1 n.0 mark n.1 in
      (is.0, number.0, sym (injected (of_vector word (make n.0)) mode n.2) ∙ ap (λ k. of_vector word (make k)) number.1)

  and_not : (b : Bool) → (b && false) ≡ false
  and_not true = refl
  and_not false = refl

  pub mode_read : (name : ModeName) (vector mark : Option (List ℕ)) (mode : Mode) → read_mode name vector mark (source_of mesh problem generate seed format) ≡ Some mode →
      ModeRead name vector mark mesh problem generate mode
  unfolding read_mode
  mode_read (modes.System system) None None mode read = record {
    in_sets = record { vector_in = refl; mark_in = refl };
    rules = no_vector (modes.System system) refl refl;
    mode_is = sym (injected (of_system system) mode read);
  }
  mode_read modes.Mesh None None mode read = record {
    in_sets = record { vector_in = refl; mark_in = refl };
    rules = no_vector modes.Mesh refl refl;
    mode_is = sym (injected of_mesh mode read);
  }
  mode_read modes.Product (Some word) None mode read =
      let is = vector_read word (λ name. Some (of_vector name tasks.Product)) mode read in
      record {
        in_sets = record { vector_in = is.0.name_in; mark_in = refl };
        rules = record { taken = refl; no_marks = refl; no_generator = is.0.no_generator; one_input = is.0.one_input };
        mode_is = sym (injected (of_vector word tasks.Product) mode is.1);
      }
  mode_read modes.Marks (Some word) mark mode read =
      let is = marking_read tasks.Marks word mark mode read in
      record {
        in_sets = record { vector_in = is.0.name_in; mark_in = is.1 };
        rules = record { taken = refl; no_marks = and_not (is_some mark); no_generator = is.0.no_generator; one_input = is.0.one_input };
        mode_is = is.2;
      }
  mode_read modes.Adapt (Some word) mark mode read =
      let is = marking_read tasks.Adapt word mark mode read in
      record {
        in_sets = record { vector_in = is.0.name_in; mark_in = is.1 };
        rules = record { taken = refl; no_marks = and_not (is_some mark); no_generator = is.0.no_generator; one_input = is.0.one_input };
        mode_is = is.2;
      }
  mode_read _ _ _ mode read = cc

  vector_is : (name : ModeName) (word : List ℕ) (mark : Option (List ℕ)) → ModeInSets (Some word) mark → VectorRules name (Some word) mark mesh problem generate → VectorIs word
  vector_is name word mark in_sets rules = record { name_in = in_sets.vector_in; no_generator = rules.no_generator; one_input = rules.one_input }

  marking_given : (make : ℕ → VectorTask) (word : List ℕ) (mark : Option (List ℕ)) → VectorIs word → passes (is_number_within 1 1048576) mark ≡ true →
      (read_vector word (source_of mesh problem generate seed format) >>= (λ name. read_or 1 (number_within 1 1048576) mark >>= (λ n. Some (of_vector name (make n))))) ≡
      Some (of_vector word (make (number_or 1 mark)))
  marking_given make word mark is in_set =
      ap (λ o. o >>= (λ name. read_or 1 (number_within 1 1048576) mark >>= (λ n. Some (of_vector name (make n))))) (vector_given word is)
      ∙ ap (λ o. o >>= (λ n. Some (of_vector word (make n)))) (number_given 1 1048576 1 mark in_set)

  pub mode_given : (name : ModeName) (vector mark : Option (List ℕ)) → ModeInSets vector mark → VectorRules name vector mark mesh problem generate →
      read_mode name vector mark (source_of mesh problem generate seed format) ≡ Some (mode_from name vector mark)
  unfolding read_mode
  mode_given (modes.System system) None None in_sets rules = refl
  mode_given modes.Mesh None None in_sets rules = refl
  mode_given modes.Product (Some word) None in_sets rules = ap (λ o. o >>= (λ name. Some (of_vector name tasks.Product))) (vector_given word (vector_is modes.Product word None in_sets rules))
  mode_given modes.Marks (Some word) mark in_sets rules = marking_given tasks.Marks word mark (vector_is modes.Marks word mark in_sets rules) in_sets.mark_in
  mode_given modes.Adapt (Some word) mark in_sets rules = marking_given tasks.Adapt word mark (vector_is modes.Adapt word mark in_sets rules) in_sets.mark_in
  mode_given (modes.System system) (Some word) mark in_sets rules = let e = rules.taken in cc
  mode_given modes.Mesh (Some word) mark in_sets rules = let e = rules.taken in cc
  mode_given modes.Product None mark in_sets rules = let e = rules.taken in cc
  mode_given modes.Marks None mark in_sets rules = let e = rules.taken in cc
  mode_given modes.Adapt None mark in_sets rules = let e = rules.taken in cc
  mode_given (modes.System system) None (Some mark) in_sets rules = let e = rules.no_marks in cc
  mode_given modes.Mesh None (Some mark) in_sets rules = let e = rules.no_marks in cc
  mode_given modes.Product (Some word) (Some mark) in_sets rules = let e = rules.no_marks in cc
