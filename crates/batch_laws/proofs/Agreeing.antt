-- What a job comes to over the texts of its batch is what it comes to over the store.
use Rattle.std.proofs.Common.{◌≡◌, ◌∙◌, ap, sym, subst, refl, ℕ, zero, suc, List, [], ◌∷◌, ◌++◌, Bool, true, false, cond, ◌||◌, arith, All}
use Rattle.std.specs.Prelude.{Some, None, is_some, slice_index_or, Ok, Err}
use Rattle.std.specs.declared.option.Option.{Option}
use Rattle.std.specs.declared.result.Result.{Result}
use Rattle.std.specs.List.{list_any}
use Rattle.std.specs.Str.{bytes_eq}
use Rattle.std.proofs.lemmas.List.{map-append}
use Rattle.std.proofs.lemmas.Slice.Eq.{bytes_eq-Decides}
use Rattle.fem_fixed.specs.Mesh.{Mesh}
use Rattle.problem_read.specs.Entries.{ProblemParts}
use Rattle.fem_text.specs.Outside.{Held}
use Rattle.fem_text.specs.Memory.{Named, held_of}
use Rattle.run_words.specs.Choice.{Mode, of_system, of_mesh, of_vector, Choice, Source, texts, generated}
use Rattle.run_words.specs.Jobs.{is_job_mode}
use Rattle.run_texts.specs.Texts as text_specs
use Rattle.run_texts.specs.Read.{SourceRead}
use Rattle.run_outputs.specs.Targets.{Target}
use Rattle.run_targets.specs.Defines.{Made, Defines}
use Rattle.diagnostics.specs.declared.refusal.Refusal.{Refusal}
use Rattle.diagnostics.specs.Stages.{stops, goes}
use Rattle.batch_texts.specs.Shelf.{is_shelved}
use Rattle.batch_texts.specs.Names.{with_name, with_names, StandsIn, AreTextsOf, read_names}
use Rattle.batch_sources.specs.Reads.{source_names, source_reads, reads_from}
use Rattle.batch_sources.proofs.Places.{all_none, all_head, all_tail, named_there, names_grow, found_stands}

-- ---- names stand among names
among_more : (name : List ℕ) (names more : List (List ℕ)) → list_any (bytes_eq name) names ≡ true → list_any (bytes_eq name) (names ++ more) ≡ true
among_more name [] more h = cc
among_more name (x ∷ xs) more h = by_first (bytes_eq name x) (among_more name xs more) h
  where
    by_first : (b : Bool) → (list_any (bytes_eq name) xs ≡ true → list_any (bytes_eq name) (xs ++ more) ≡ true) → (b || list_any (bytes_eq name) xs) ≡ true → (b || list_any (bytes_eq name) (xs ++ more)) ≡ true
    by_first true behind is = refl
    by_first false behind is = behind is

among_last : (name : List ℕ) (names : List (List ℕ)) → list_any (bytes_eq name) (names ++ name ∷ []) ≡ true
among_last name [] = ap (λ b. b || false) ((bytes_eq-Decides name name).1 refl)
among_last name (x ∷ xs) = by_first (bytes_eq name x) (among_last name xs)
  where
    by_first : (b : Bool) → list_any (bytes_eq name) (xs ++ name ∷ []) ≡ true → (b || list_any (bytes_eq name) (xs ++ name ∷ [])) ≡ true
    by_first true behind = refl
    by_first false behind = behind

among_itself : (name : List ℕ) (names : List (List ℕ)) → list_any (bytes_eq name) (with_name names name) ≡ true
among_itself name names = by_there (list_any (bytes_eq name) names) refl
  where
    by_there : (b : Bool) → list_any (bytes_eq name) names ≡ b → list_any (bytes_eq name) (cond b names (names ++ name ∷ [])) ≡ true
    by_there true e = e
    by_there false e = among_last name names

all_among : (names base : List (List ℕ)) → All (λ name. list_any (bytes_eq name) (with_names base names) ≡ true) names
all_among [] base k d lt = absurd (omega (arith, lt))
all_among (name ∷ names) base zero d lt =
    let grown = names_grow names (with_name base name) in
    subst (λ list. list_any (bytes_eq name) list ≡ true) (sym grown.1) (among_more name (with_name base name) grown.0 (among_itself name base))
all_among (name ∷ names) base (suc k) d lt = all_among names (with_name base name) k d (omega (arith, lt))

-- ---- texts and store agree
module _ (held : Held) (shelf : Named) where
  abbrev pub Agrees : List ℕ → Type 0
  Agrees name = held_of shelf name ≡ held name

  there_agrees : All (StandsIn (Some held)) shelf → (name : List ℕ) → is_shelved shelf name ≡ true → Agrees name
  there_agrees all name there = by_found (held_of shelf name) refl there
    where
      by_found : (known : Option (List ℕ)) → held_of shelf name ≡ known → is_some known ≡ true → held_of shelf name ≡ held name
      by_found None e h = cc
      by_found (Some text) e h = e ∙ sym (found_stands held shelf name text all e)

  pub all_agree : (names : List (List ℕ)) → AreTextsOf (Some held) names shelf → All Agrees names
  all_agree names are k d lt =
      there_agrees are.stand (slice_index_or names k d)
      (sym (named_there (slice_index_or names k d) shelf) ∙ ap (list_any (bytes_eq (slice_index_or names k d))) are.names_are ∙ all_among names [] k d lt)

  all_append : (xs ys : List (List ℕ)) → All Agrees (xs ++ ys) → All Agrees xs × All Agrees ys
  all_append [] ys all = (all_none Agrees, all)
  all_append (x ∷ xs) ys all =
      let rest = all_append xs ys (all_tail Agrees x (xs ++ ys) all) in
      (all_first x xs (all_head Agrees x (xs ++ ys) all) rest.0, rest.1)
    where
      all_first : (x : List ℕ) (xs : List (List ℕ)) → Agrees x → All Agrees xs → All Agrees (x ∷ xs)
      all_first x xs h more zero d lt = h
      all_first x xs h more (suc k) d lt = more k d (omega (arith, lt))

  -- the names of the reads of a source
  names_read : (job : ℕ) (source : Source) → read_names (source_reads job source) ≡ source_names source
  names_read job (texts mesh format None) = refl
  names_read job (texts mesh format (Some problem)) = refl
  names_read job (generated n seed) = refl

  pub split_reads : (job : ℕ) (choice : Choice) (choices : List Choice) → All Agrees (read_names (reads_from job (choice ∷ choices))) → All Agrees (source_names choice.source) × All Agrees (read_names (reads_from (suc job) choices))
  split_reads job choice choices all =
      let both = all_append (read_names (source_reads job choice.source)) (read_names (reads_from (suc job) choices))
      (subst (All Agrees) (map-append (λ (read : ℕ × List ℕ). read.1) (source_reads job choice.source) (reads_from (suc job) choices)) all) in
      (subst (All Agrees) (names_read job choice.source) both.0, both.1)

  -- ---- a source is read alike
  same_source : (source : Source) (known : text_specs.Texts) → All Agrees (source_names source) → text_specs.AreTextsOf (Some (held_of shelf)) source known → text_specs.AreTextsOf (Some held) source known
  same_source (texts mesh format None) known all are = (are.0 ∙ all_head Agrees mesh [] all, are.1)
  same_source (texts mesh format (Some problem)) known all are = (are.0 ∙ all_head Agrees mesh (problem ∷ []) all, are.1 ∙ all_head Agrees problem [] (all_tail Agrees mesh (problem ∷ []) all))
  same_source (generated n seed) known all are = are

  same_read : (source : Source) (outcome : Result (Mesh × ProblemParts) Refusal) → All Agrees (source_names source) → SourceRead (Some (held_of shelf)) source outcome → SourceRead (Some held) source outcome
  same_read source outcome all (known, are, read) = (known, same_source source known all are, read)

  same_made : (mode : Mode) (choice : Choice) (read : Mesh × ProblemParts) (outcome : Result (List Target) Refusal) → is_job_mode mode ≡ true → Made (Some (held_of shelf)) mode choice read outcome → Made (Some held) mode choice read outcome
  same_made (of_system mode) choice read outcome job made = made
  same_made of_mesh choice read outcome job made = cc
  same_made (of_vector name task) choice read outcome job made = cc

  pub same_defines : (choice : Choice) (outcome : Result (List Target) Refusal) → is_job_mode choice.mode ≡ true → All Agrees (source_names choice.source) → Defines (Some (held_of shelf)) choice outcome → Defines (Some held) choice outcome
  same_defines choice outcome job all (stops refusal read e) = stops refusal (same_read choice.source (Err refusal) all read) e
  same_defines choice outcome job all (goes read is made) = goes read (same_read choice.source (Ok read) all is) (same_made choice.mode choice read outcome job made)
