-- What is read is what the words ask for.
use Rattle.std.proofs.Common.{◌≡◌, ◌∙◌, ◌*◌, ap, sym, subst, ℕ, List, Bool, true, false, cond, refl, not, ◌≤◌, arith, nat_le}
use Rattle.std.specs.Prelude.{Some, None, is_some, unwrap_or, ◌&&◌, ◌||◌, codes}
use Rattle.std.specs.Str.{bytes_eq}
use Rattle.std.proofs.lemmas.Slice.Eq.{bytes_eq-Decides}
use Rattle.run_words.specs.declared.mode.ModeName.{ModeName}
use Rattle.run_words.specs.declared.mode.ModeName.TheVariants as modes
use Rattle.run_words.specs.declared.options.SystemMode.TheVariants as systems
use Rattle.run_words.specs.declared.options.Format.{Format}
use Rattle.run_words.specs.declared.options.Format.TheVariants as formats
use Rattle.run_words.specs.declared.options.Faces.{Faces}
use Rattle.run_words.specs.declared.options.Faces.TheVariants as faces
use Rattle.std.specs.declared.option.Option.{Option}
use Rattle.std.specs.Option.{option_map}
use Rattle.std.proofs.lemmas.Option.{cond_some}
use Rattle.std.proofs.lemmas.Grind.{common_steps}
use Rattle.run_words.specs.declared.options.VectorTask.TheVariants as tasks
use Rattle.fem_fixed.specs.Numbers.{digits_value, is_id}
use Rattle.run_words.specs.declared.name.Name.TheVariants as names
use Rattle.run_words.specs.declared.options.Plan.{Plan}
use Rattle.run_words.specs.declared.options.Subdomain.{Subdomain}
use Rattle.run_words.specs.declared.switch.Switch.TheVariants as switches
use Rattle.run_words.specs.Settings.{Given}
use Rattle.run_words.specs.Values.{is_name, is_number, is_number_within, mode_of, format_of, faces_of, is_in_set}
use Rattle.run_words.specs.Choice.{Mode, of_system, of_mesh, of_vector, greatest_degree, degree_in, mode_name_in, Source, texts, generated, Destination, standard, named, Output, summary, both, destination_of, Choice, number_or, plan_of, source_of, output_of, subdomain_of, mode_in, format_in, chosen}
use Rattle.run_words.specs.Words.{passes, AreInSets, is_standard, are_same, has_sums, is_msh, SourceRules, OutputRules, SubdomainRule, KeepsRules}
use Rattle.run_words.specs.Reading.{number_within, name_of, read_or, read_plan, two_texts, read_source, read_mode, read_subdomain, read_destination, is_same_name, two_outputs, read_output, run_reading, reading, ◌>>=◌}
use Rattle.run_words.proofs.Cuts.{then_some}
use Rattle.run_words.proofs.NoOption.{not_none}
use Rattle.run_words.proofs.Numbers.{injected, number_read, number_given, named_read, named_given, value_within, cond_then}
use Rattle.run_words.proofs.Modes.{ModeInSets, mode_read, mode_given}

-- the numbers of a plan

pub record PlanInSets (given : Given) : Type 0 where
  pub workers : passes (is_number_within 1 64) (given.value names.Workers) ≡ true
  pub queue : passes (is_number_within 1 256) (given.value names.Queue) ≡ true
  pub chunk : passes (is_number_within 1 64) (given.value names.Chunk) ≡ true
  pub scratch : passes (is_number_within 1 64) (given.value names.Scratch) ≡ true

abbrev made : ℕ → ℕ → ℕ → ℕ → Plan
made workers queue chunk scratch = record { workers = workers; queue = queue; chunk = chunk; scratch = scratch }

plan_from : (given : Given) (plan : Plan) (w q c s : ℕ) → read_or 4 (number_within 1 64) (given.value names.Workers) ≡ Some w →
    read_or (2 * w) (number_within 1 256) (given.value names.Queue) ≡ Some q → read_or 8 (number_within 1 64) (given.value names.Chunk) ≡ Some c →
    read_or w (number_within 1 64) (given.value names.Scratch) ≡ Some s → made w q c s ≡ plan → PlanInSets given × (plan ≡ plan_of given)
plan_from given plan w q c s w_read q_read c_read s_read is =
    let workers = number_read 1 64 4 w (given.value names.Workers) w_read in
    let queue = number_read 1 256 (2 * w) q (given.value names.Queue) q_read in
    let chunk = number_read 1 64 8 c (given.value names.Chunk) c_read in
    let scratch = number_read 1 64 w s (given.value names.Scratch) s_read in (
      record { workers = workers.0; queue = queue.0; chunk = chunk.0; scratch = scratch.0 },
      sym is
          ∙ ap (λ n. made w n c s) queue.1
          ∙ ap (λ n. made w (number_or (2 * w) (given.value names.Queue)) n s) chunk.1
          ∙ ap (λ n. made w (number_or (2 * w) (given.value names.Queue)) (number_or 8 (given.value names.Chunk)) n) scratch.1
          ∙ ap (λ n. made n (number_or (2 * n) (given.value names.Queue)) (number_or 8 (given.value names.Chunk)) (number_or n (given.value names.Scratch))) workers.1,
    )

pub plan_read : (given : Given) (plan : Plan) → read_plan given ≡ Some plan → PlanInSets given × (plan ≡ plan_of given)
unfolding read_plan
plan_read given plan read =
    let behind_chunk : ℕ → ℕ → ℕ → Option Plan = λ w q c. read_or w (number_within 1 64) (given.value names.Scratch) >>= (λ s. Some (made w q c s)) in
    let behind_queue : ℕ → ℕ → Option Plan = λ w q. read_or 8 (number_within 1 64) (given.value names.Chunk) >>= (λ c. behind_chunk w q c) in
    let behind_workers : ℕ → Option Plan = λ w. read_or (2 * w) (number_within 1 256) (given.value names.Queue) >>= (λ q. behind_queue w q) in
    let w = then_some behind_workers (read_or 4 (number_within 1 64) (given.value names.Workers)) plan read in
    let q = then_some (behind_queue w.0) (read_or (2 * w.0) (number_within 1 256) (given.value names.Queue)) plan w.2 in
    let c = then_some (behind_chunk w.0 q.0) (read_or 8 (number_within 1 64) (given.value names.Chunk)) plan q.2 in
    let s = then_some (λ s. Some (made w.0 q.0 c.0 s)) (read_or w.0 (number_within 1 64) (given.value names.Scratch)) plan c.2 in
    plan_from given plan w.0 q.0 c.0 s.0 w.1 q.1 c.1 s.1 (injected (made w.0 q.0 c.0 s.0) plan s.2)

pub plan_given : (given : Given) → PlanInSets given → read_plan given ≡ Some (plan_of given)
unfolding read_plan
plan_given given in_sets =
    let workers = number_given 1 64 4 (given.value names.Workers) in_sets.workers in
    let queue = number_given 1 256 (2 * number_or 4 (given.value names.Workers)) (given.value names.Queue) in_sets.queue in
    let chunk = number_given 1 64 8 (given.value names.Chunk) in_sets.chunk in
    let scratch = number_given 1 64 (number_or 4 (given.value names.Workers)) (given.value names.Scratch) in_sets.scratch in
    rw (workers, queue, chunk, scratch) refl

-- what is assembled

pub and_false : (b : Bool) → (b && false) ≡ false
and_false true = refl
and_false false = refl

cond_else : {X : Type 0} (b : Bool) (x y : X) → cond b None (Some x) ≡ Some y → (b ≡ false) × (x ≡ y)
cond_else true x y is = cc
cond_else false x y is = (refl, (cc))

pub record SourceInSets (mesh problem generate seed : Option (List ℕ)) : Type 0 where
  pub mesh_in : passes is_name mesh ≡ true
  pub problem_in : passes is_name problem ≡ true
  pub generate_in : passes (is_number_within 1 512) generate ≡ true
  pub seed_in : passes (is_number_within 0 18446744073709551615) seed ≡ true

-- what is read keeps the rules, and is what is meant
pub record SourceRead (mesh problem generate seed : Option (List ℕ)) (format : Format) (source : Source) : Type 0 where
  pub in_sets : SourceInSets mesh problem generate seed
  pub rules : SourceRules mesh problem generate seed format
  pub source_is : source ≡ source_of mesh problem generate seed format

pub source_read : (mesh problem generate seed : Option (List ℕ)) (format : Format) (source : Source) → read_source mesh problem generate seed format ≡ Some source →
    SourceRead mesh problem generate seed format source
unfolding read_source
source_read (Some mesh) None None None format source read =
    let found = cond_then (is_name mesh) mesh (λ name. Some (texts name format None)) source read in
    record {
      in_sets = record { mesh_in = found.0; problem_in = refl; generate_in = refl; seed_in = refl };
      rules = record { one_source = refl; no_problem = refl; no_seed = refl; one_input = and_false (bytes_eq mesh (codes "-")); no_format = and_false (is_msh format) };
      source_is = sym (injected (texts mesh format None) source found.1);
    }
source_read (Some mesh) (Some problem) None None format source read =
    let first = cond_then (is_name mesh) mesh (λ name. name_of problem >>= (λ second. two_texts name format second)) source read in
    let second = cond_then (is_name problem) problem (λ name. two_texts mesh format name) source first.1 in
    let apart = cond_else (is_standard (Some mesh) && is_standard (Some problem)) (texts mesh format (Some problem)) source second.1 in
    record {
      in_sets = record { mesh_in = first.0; problem_in = second.0; generate_in = refl; seed_in = refl };
      rules = record { one_source = refl; no_problem = refl; no_seed = refl; one_input = apart.0; no_format = and_false (is_msh format) };
      source_is = sym apart.1;
    }
source_read None None (Some cells) seed formats.Ucd source read =
    let found = cond_then (is_number_within 1 512 cells) (digits_value cells) (λ n. read_or 0 (number_within 0 18446744073709551615) seed >>= (λ s. Some (generated n s))) source read in
    let more = then_some (λ s. Some (generated (digits_value cells) s)) (read_or 0 (number_within 0 18446744073709551615) seed) source found.1 in
    let number = number_read 0 18446744073709551615 0 more.0 seed more.1 in
    record {
      in_sets = record { mesh_in = refl; problem_in = refl; generate_in = found.0; seed_in = number.0 };
      rules = record { one_source = refl; no_problem = refl; no_seed = and_false (is_some seed); one_input = refl; no_format = refl };
      source_is = sym (injected (generated (digits_value cells) more.0) source more.2) ∙ ap (λ s. generated (digits_value cells) s) number.1;
    }
source_read _ _ _ _ _ source read = cc

pub source_given : (mesh problem generate seed : Option (List ℕ)) (format : Format) → SourceInSets mesh problem generate seed → SourceRules mesh problem generate seed format →
    read_source mesh problem generate seed format ≡ Some (source_of mesh problem generate seed format)
unfolding read_source
source_given (Some mesh) None None None format in_sets rules = rw in_sets.mesh_in refl
source_given (Some mesh) (Some problem) None None format in_sets rules = rw (in_sets.mesh_in, in_sets.problem_in, rules.one_input) refl
source_given None None (Some cells) seed formats.Ucd in_sets rules = rw (in_sets.generate_in, number_given 0 18446744073709551615 0 seed in_sets.seed_in) refl
source_given _ _ _ _ _ in_sets rules = cc

-- what is written

pub record OutputInSets (matrix rhs : Option (List ℕ)) : Type 0 where
  pub matrix_in : passes is_name matrix ≡ true
  pub rhs_in : passes is_name rhs ≡ true

pub record OutputRead (matrix rhs : Option (List ℕ)) (wanted sums : Bool) (output : Output) : Type 0 where
  pub in_sets : OutputInSets matrix rhs
  pub rules : OutputRules matrix rhs wanted sums
  pub output_is : output ≡ output_of matrix rhs wanted

abbrev pub destination_or_standard : Option (List ℕ) → Destination
destination_or_standard value = unwrap_or (option_map destination_of value) standard

destination_read : (word : List ℕ) (destination : Destination) → read_destination word ≡ Some destination → (is_name word ≡ true) × (destination ≡ destination_of word)
destination_read word destination read =
    (elim (is_name word) as (λ b. is_name word ≡ b → option_map destination_of (cond b (Some word) None) ≡ Some destination → (is_name word ≡ true) × (destination ≡ destination_of word))
    [ true ↦ λ is h. (is, (cc)) | false ↦ λ is h. cc ]) refl read

destination_given : (word : List ℕ) → is_name word ≡ true → read_destination word ≡ Some (destination_of word)
destination_given word is = rw is refl

pub matrix_read : (matrix : Option (List ℕ)) (destination : Destination) → read_or standard read_destination matrix ≡ Some destination →
    (passes is_name matrix ≡ true) × (destination ≡ destination_or_standard matrix)
matrix_read None destination read = (refl, (cc))
matrix_read (Some word) destination read = destination_read word destination read

pub matrix_given : (matrix : Option (List ℕ)) → passes is_name matrix ≡ true → read_or standard read_destination matrix ≡ Some (destination_or_standard matrix)
matrix_given None in_set = refl
matrix_given (Some word) in_set = destination_given word in_set

same_by : (name other : List ℕ) (here there same : Bool) → (same ≡ true → here ≡ there) → bytes_eq name other ≡ same →
    is_same_name (cond here standard (named name)) (cond there standard (named other)) ≡ (same && not here)
same_by name other true there same agree is = sym (and_false same)
same_by name other false true true agree is = let e = agree refl in cc
same_by name other false true false agree is = refl
same_by name other false false true agree is = is
same_by name other false false false agree is = is

same_ends : (name other : List ℕ) → bytes_eq name other ≡ true → bytes_eq name (codes "-") ≡ bytes_eq other (codes "-")
same_ends name other same = ap (λ word. bytes_eq word (codes "-")) ((bytes_eq-Decides name other).0 same)

same_outputs : (matrix : Option (List ℕ)) (rhs : List ℕ) → is_same_name (destination_or_standard matrix) (destination_of rhs) ≡ (are_same matrix (Some rhs) && not (is_standard matrix))
same_outputs None rhs = refl
same_outputs (Some name) rhs = same_by name rhs (bytes_eq name (codes "-")) (bytes_eq rhs (codes "-")) (bytes_eq name rhs) (same_ends name rhs) refl

are_same_none : (matrix : Option (List ℕ)) → are_same matrix None ≡ false
are_same_none None = refl
are_same_none (Some name) = refl

pub output_read : (matrix rhs : Option (List ℕ)) (wanted sums : Bool) (output : Output) → read_output matrix rhs wanted sums ≡ Some output → OutputRead matrix rhs wanted sums output
unfolding read_output
output_read None None true sums output read =
    let found = cond_some sums summary output read in
    record {
      in_sets = record { matrix_in = refl; rhs_in = refl };
      rules = record { two_names = refl; needs_sums = rw found.0 refl; alone = refl };
      output_is = sym found.1;
    }
output_read matrix None false sums output read =
    let found = then_some (λ first. Some (both first None)) (read_or standard read_destination matrix) output read in
    let first = matrix_read matrix found.0 found.1 in
    record {
      in_sets = record { matrix_in = first.0; rhs_in = refl };
      rules = record { two_names = ap (λ same. same && not (is_standard matrix)) (are_same_none matrix); needs_sums = refl; alone = refl };
      output_is = sym (injected (both found.0 None) output found.2) ∙ ap (λ first. both first None) first.1;
    }
output_read matrix (Some rhs) false true output read =
    let found = then_some (λ first. read_destination rhs >>= (λ second. two_outputs first second)) (read_or standard read_destination matrix) output read in
    let more = then_some (λ second. two_outputs found.0 second) (read_destination rhs) output found.2 in
    let first = matrix_read matrix found.0 found.1 in
    let second = destination_read rhs more.0 more.1 in
    let apart = cond_else (is_same_name found.0 more.0) (both found.0 (Some more.0)) output more.2 in
    record {
      in_sets = record { matrix_in = first.0; rhs_in = second.0 };
      rules = record {
        two_names = sym (same_outputs matrix rhs) ∙ ap (λ first. is_same_name first (destination_of rhs)) (sym first.1) ∙ ap (λ second. is_same_name found.0 second) (sym second.1) ∙ apart.0;
        needs_sums = refl;
        alone = refl;
      };
      output_is = sym apart.1 ∙ ap (λ first. both first (Some more.0)) first.1 ∙ ap (λ second. both (destination_or_standard matrix) (Some second)) second.1;
    }
output_read _ _ _ _ output read = cc

pub output_given : (matrix rhs : Option (List ℕ)) (wanted sums : Bool) → OutputInSets matrix rhs → OutputRules matrix rhs wanted sums →
    read_output matrix rhs wanted sums ≡ Some (output_of matrix rhs wanted)
unfolding read_output
output_given None None true true in_sets rules = refl
output_given matrix None false sums in_sets rules = ap (λ o. o >>= (λ first. Some (both first None))) (matrix_given matrix in_sets.matrix_in)
output_given matrix (Some rhs) false true in_sets rules =
    ap (λ o. o >>= (λ first. read_destination rhs >>= (λ second. two_outputs first second))) (matrix_given matrix in_sets.matrix_in)
    ∙ ap (λ o. o >>= (λ second. two_outputs (destination_or_standard matrix) second)) (destination_given rhs in_sets.rhs_in)
    ∙ ap (λ same. cond same None (Some (both (destination_or_standard matrix) (Some (destination_of rhs))))) (same_outputs matrix rhs ∙ rules.two_names)
output_given _ _ _ _ in_sets rules = cc

-- the run of one subdomain

pub record SubdomainInSets (subdomain parts : Option (List ℕ)) : Type 0 where
  pub subdomain_in : passes is_id subdomain ≡ true
  pub parts_in : passes (λ word. is_some (faces_of word)) parts ≡ true

pub record SubdomainRead (subdomain parts : Option (List ℕ)) (cells : Bool) (run : Option Subdomain) : Type 0 where
  pub in_sets : SubdomainInSets subdomain parts
  pub rule : SubdomainRule subdomain parts cells
  pub run_is : run ≡ subdomain_of subdomain parts cells

abbrev run_of : Bool → ℕ → Faces → Option Subdomain
run_of cells id sides = Some (record { id = id; ghost_parts = sides; ghost_cells = cells })

pub subdomain_read : (subdomain parts : Option (List ℕ)) (cells : Bool) (run : Option Subdomain) → read_subdomain subdomain parts cells ≡ Some run → SubdomainRead subdomain parts cells run
unfolding read_subdomain
subdomain_read None None false run read =
    record { in_sets = record { subdomain_in = refl; parts_in = refl }; rule = refl; run_is = sym (injected None run read) }
subdomain_read (Some word) parts cells run read =
    let found = cond_then (is_id word) (digits_value word) (λ id. read_or faces.None faces_of parts >>= (λ sides. Some (run_of cells id sides))) run read in
    let more = then_some (λ sides. Some (run_of cells (digits_value word) sides)) (read_or faces.None faces_of parts) run found.1 in
    let sides = named_read faces_of faces.None more.0 parts more.1 in
    record {
      in_sets = record { subdomain_in = found.0; parts_in = sides.0 };
      rule = and_false (is_some parts || cells);
      run_is = sym (injected (run_of cells (digits_value word) more.0) run more.2) ∙ ap (λ f. run_of cells (digits_value word) f) sides.1;
    }
subdomain_read _ _ _ run read = cc

pub subdomain_given : (subdomain parts : Option (List ℕ)) (cells : Bool) → SubdomainInSets subdomain parts → SubdomainRule subdomain parts cells →
    read_subdomain subdomain parts cells ≡ Some (subdomain_of subdomain parts cells)
unfolding read_subdomain
subdomain_given None None false in_sets rule = refl
subdomain_given (Some word) parts cells in_sets rule =
    ap (λ b. cond b (Some (digits_value word)) None >>= (λ id. read_or faces.None faces_of parts >>= (λ sides. Some (run_of cells id sides)))) in_sets.subdomain_in
    ∙ ap (λ o. o >>= (λ sides. Some (run_of cells (digits_value word) sides))) (named_given faces_of faces.None parts in_sets.parts_in)
subdomain_given _ _ _ in_sets rule = cc

-- the degree

within_parts : (is : Bool) (least greatest n : ℕ) → (is && nat_le least n && nat_le n greatest) ≡ true → (is ≡ true) × (least ≤ n) × (n ≤ greatest)
within_parts is least greatest n within = grind (arith, common_steps)

within_from : (is : Bool) (least greatest n : ℕ) → is ≡ true → least ≤ n → n ≤ greatest → (is && nat_le least n && nat_le n greatest) ≡ true
within_from is least greatest n yes_ low high = grind (arith, common_steps)

narrowed : (greatest other : ℕ) (value : Option (List ℕ)) → passes (is_number_within 1 greatest) value ≡ true → number_or 1 value ≤ other → passes (is_number_within 1 other) value ≡ true
narrowed greatest other None is low = refl
narrowed greatest other (Some word) is low =
    let parts = within_parts (is_number word) 1 greatest (digits_value word) is in
    within_from (is_number word) 1 other (digits_value word) parts.0 parts.1 low

one_or_two : (mode : Mode) → (1 ≤ greatest_degree mode) × (greatest_degree mode ≤ 2)
one_or_two (of_system mode) = (omega arith, omega arith)
one_or_two of_mesh = (omega arith, omega arith)
one_or_two (of_vector name tasks.Product) = (omega arith, omega arith)
one_or_two (of_vector name (tasks.Marks n)) = (omega arith, omega arith)
one_or_two (of_vector name (tasks.Adapt n)) = (omega arith, omega arith)

pub record DegreeRead (mode : Mode) (value : Option (List ℕ)) (degree : ℕ) : Type 0 where
  pub in_set : passes (is_number_within 1 2) value ≡ true
  pub rule : number_or 1 value ≤ greatest_degree mode
  pub degree_is : degree ≡ number_or 1 value

degree_read : (mode : Mode) (degree : ℕ) (value : Option (List ℕ)) → read_or 1 (number_within 1 (greatest_degree mode)) value ≡ Some degree → DegreeRead mode value degree
degree_read mode degree value read =
    let number = number_read 1 (greatest_degree mode) 1 degree value read in
    let bounds = one_or_two mode in
    let low = (value_within 1 1 (greatest_degree mode) value (omega arith) bounds.0 number.0).1 in
    record { in_set = narrowed (greatest_degree mode) 2 value number.0 (omega (arith, low, bounds.1)); rule = low; degree_is = number.1 }

degree_given : (mode : Mode) (value : Option (List ℕ)) → passes (is_number_within 1 2) value ≡ true → number_or 1 value ≤ greatest_degree mode →
    read_or 1 (number_within 1 (greatest_degree mode)) value ≡ Some (number_or 1 value)
degree_given mode value in_set rule = number_given 1 (greatest_degree mode) 1 value (narrowed 2 (greatest_degree mode) value in_set rule)

-- the whole

pub record IsChosen (given : Given) (choice : Choice) : Type 0 where
  pub in_sets : AreInSets given
  pub rules : KeepsRules given
  pub choice_is : choice ≡ chosen given

run_reading_given : (given : Given) → AreInSets given → KeepsRules given → run_reading given ≡ Some (chosen given)
unfolding run_reading is_in_set
run_reading_given given in_sets rules =
    let mode = named_given mode_of (modes.System systems.Serial) (given.value names.Mode) (in_sets names.Mode) in
    let format = named_given format_of formats.Ucd (given.value names.Format) (in_sets names.Format) in
    let source = source_given (given.value names.Mesh) (given.value names.Problem) (given.value names.Generate) (given.value names.Seed) (format_in given)
    (record { mesh_in = in_sets names.Mesh; problem_in = in_sets names.Problem; generate_in = in_sets names.Generate; seed_in = in_sets names.Seed }) rules.source in
    let task = mode_given (given.value names.Mesh) (given.value names.Problem) (given.value names.Generate) (given.value names.Seed) (format_in given) (mode_name_in given) (given.value names.Vector) (given.value names.Mark)
    (record { vector_in = in_sets names.Vector; mark_in = in_sets names.Mark }) rules.vector in
    let plan = plan_given given (record { workers = in_sets names.Workers; queue = in_sets names.Queue; chunk = in_sets names.Chunk; scratch = in_sets names.Scratch }) in
    let digits = number_given 0 64 0 (given.value names.Digits) (in_sets names.Digits) in
    let degree = degree_given (mode_in given) (given.value names.Degree) (in_sets names.Degree) rules.degree in
    let faces = named_given faces_of faces.None (given.value names.Faces) (in_sets names.Faces) in
    let subdomain = subdomain_given (given.value names.Subdomain) (given.value names.Ghost) (given.stands switches.GhostCells)
    (record { subdomain_in = in_sets names.Subdomain; parts_in = in_sets names.Ghost }) rules.subdomain in
    let output = output_given (given.value names.Matrix) (given.value names.Rhs) (given.stands switches.Summary) (has_sums (mode_name_in given))
    (record { matrix_in = in_sets names.Matrix; rhs_in = in_sets names.Rhs }) rules.output in
    rw (mode, format, source, task, plan, digits, degree, faces, subdomain, output) refl

pub reading_given : (given : Given) → AreInSets given → KeepsRules given → reading given ≡ Some (chosen given)
unfolding reading
reading_given given in_sets rules = ap (λ b. cond b None (run_reading given)) rules.no_batch ∙ run_reading_given given in_sets rules

abbrev put_together : Mode → Source → Plan → ℕ → ℕ → Faces → Option Subdomain → Output → Choice
put_together mode source plan digits degree faces subdomain output = record { mode = mode; source = source; plan = plan; digits = digits; degree = degree; faces = faces; subdomain = subdomain; output = output }

pub record PartsInSets (given : Given) : Type 0 where
  pub no_batch : is_some (given.value names.Batch) ≡ false
  pub mode_in : passes (λ word. is_some (mode_of word)) (given.value names.Mode) ≡ true
  pub format_in : passes (λ word. is_some (format_of word)) (given.value names.Format) ≡ true
  pub source_in : SourceInSets (given.value names.Mesh) (given.value names.Problem) (given.value names.Generate) (given.value names.Seed)
  pub plan_in : PlanInSets given
  pub digits_in : passes (is_number_within 0 64) (given.value names.Digits) ≡ true
  pub degree_within : passes (is_number_within 1 2) (given.value names.Degree) ≡ true
  pub faces_in : passes (λ word. is_some (faces_of word)) (given.value names.Faces) ≡ true
  pub subdomain_in : SubdomainInSets (given.value names.Subdomain) (given.value names.Ghost)
  pub output_in : OutputInSets (given.value names.Matrix) (given.value names.Rhs)
  pub vector_in : ModeInSets (given.value names.Vector) (given.value names.Mark)

absent : (test : List ℕ → Bool) (value : Option (List ℕ)) → is_some value ≡ false → passes test value ≡ true
absent test None none = refl
absent test (Some value) none = cc

in_all_sets : (given : Given) → PartsInSets given → AreInSets given
unfolding is_in_set
in_all_sets given parts names.Mode = parts.mode_in
in_all_sets given parts names.Mesh = parts.source_in.mesh_in
in_all_sets given parts names.Problem = parts.source_in.problem_in
in_all_sets given parts names.Workers = parts.plan_in.workers
in_all_sets given parts names.Queue = parts.plan_in.queue
in_all_sets given parts names.Chunk = parts.plan_in.chunk
in_all_sets given parts names.Scratch = parts.plan_in.scratch
in_all_sets given parts names.Digits = parts.digits_in
in_all_sets given parts names.Faces = parts.faces_in
in_all_sets given parts names.Degree = parts.degree_within
in_all_sets given parts names.Matrix = parts.output_in.matrix_in
in_all_sets given parts names.Rhs = parts.output_in.rhs_in
in_all_sets given parts names.Generate = parts.source_in.generate_in
in_all_sets given parts names.Seed = parts.source_in.seed_in
in_all_sets given parts names.Format = parts.format_in
in_all_sets given parts names.Subdomain = parts.subdomain_in.subdomain_in
in_all_sets given parts names.Ghost = parts.subdomain_in.parts_in
in_all_sets given parts names.Vector = parts.vector_in.vector_in
in_all_sets given parts names.Mark = parts.vector_in.mark_in
in_all_sets given parts names.Batch = absent is_name (given.value names.Batch) parts.no_batch

chosen_from : (given : Given) (choice : Choice) (m : ModeName) (t : Format) (s : Source) (v : Mode) (p : Plan) (d g : ℕ) (f : Faces) (u : Option Subdomain) (o : Output) →
    read_or (modes.System systems.Serial) mode_of (given.value names.Mode) ≡ Some m →
    read_or formats.Ucd format_of (given.value names.Format) ≡ Some t →
    read_source (given.value names.Mesh) (given.value names.Problem) (given.value names.Generate) (given.value names.Seed) t ≡ Some s →
    read_mode m (given.value names.Vector) (given.value names.Mark) s ≡ Some v →
    read_plan given ≡ Some p →
    read_or 0 (number_within 0 64) (given.value names.Digits) ≡ Some d →
    read_or 1 (number_within 1 (greatest_degree v)) (given.value names.Degree) ≡ Some g →
    read_or faces.None faces_of (given.value names.Faces) ≡ Some f →
    read_subdomain (given.value names.Subdomain) (given.value names.Ghost) (given.stands switches.GhostCells) ≡ Some u →
    read_output (given.value names.Matrix) (given.value names.Rhs) (given.stands switches.Summary) (has_sums m) ≡ Some o →
    put_together v s p d g f u o ≡ choice → is_some (given.value names.Batch) ≡ false → IsChosen given choice
chosen_from given choice m t s v p d g f u o m_read t_read s_read v_read p_read d_read g_read f_read u_read o_read is no_batch =
    let mode = named_read mode_of (modes.System systems.Serial) m (given.value names.Mode) m_read in
    let format = named_read format_of formats.Ucd t (given.value names.Format) t_read in
    let read_in : Format → Type 0 = λ f. SourceRead (given.value names.Mesh) (given.value names.Problem) (given.value names.Generate) (given.value names.Seed) f s in
    let source = subst read_in format.1 (source_read (given.value names.Mesh) (given.value names.Problem) (given.value names.Generate) (given.value names.Seed) t s s_read) in
    let name_is : m ≡ mode_name_in given = mode.1 in
    let read_from : ModeName → Source → Type 0 = λ n t. read_mode n (given.value names.Vector) (given.value names.Mark) t ≡ Some v in
    let task = mode_read (given.value names.Mesh) (given.value names.Problem) (given.value names.Generate) (given.value names.Seed) (format_in given) (mode_name_in given) (given.value names.Vector) (given.value names.Mark) v
    (subst (read_from (mode_name_in given)) source.source_is (subst (λ n. read_from n s) name_is v_read)) in
    let plan = plan_read given p p_read in
    let digits = number_read 0 64 0 d (given.value names.Digits) d_read in
    let degree = degree_read (mode_in given) g (given.value names.Degree) (subst (λ k. read_or 1 (number_within 1 (greatest_degree k)) (given.value names.Degree) ≡ Some g) task.mode_is g_read) in
    let sides = named_read faces_of faces.None f (given.value names.Faces) f_read in
    let run = subdomain_read (given.value names.Subdomain) (given.value names.Ghost) (given.stands switches.GhostCells) u u_read in
    let output = output_read (given.value names.Matrix) (given.value names.Rhs) (given.stands switches.Summary) (has_sums m) o o_read in
    record {
      in_sets = in_all_sets given (record { no_batch = no_batch; mode_in = mode.0; format_in = format.0; source_in = source.in_sets; plan_in = plan.0; digits_in = digits.0; degree_within = degree.in_set; faces_in = sides.0; subdomain_in = run.in_sets; output_in = output.in_sets; vector_in = task.in_sets });
      rules = record {
        no_batch = no_batch;
        source = source.rules;
        output = subst (λ m. OutputRules (given.value names.Matrix) (given.value names.Rhs) (given.stands switches.Summary) (has_sums m)) mode.1 output.rules;
        subdomain = run.rule;
        degree = degree.rule;
        vector = task.rules;
      };
      choice_is = sym is ∙ ap (λ m. put_together m s p d g f u o) task.mode_is ∙ ap (λ s. put_together (mode_in given) s p d g f u o) source.source_is
          ∙ ap (λ p. put_together (mode_in given) (chosen given).source p d g f u o) plan.1
          ∙ ap (λ d. put_together (mode_in given) (chosen given).source (plan_of given) d g f u o) digits.1
          ∙ ap (λ g. put_together (mode_in given) (chosen given).source (plan_of given) (chosen given).digits g f u o) degree.degree_is
          ∙ ap (λ f. put_together (mode_in given) (chosen given).source (plan_of given) (chosen given).digits (degree_in given) f u o) sides.1
          ∙ ap (λ u. put_together (mode_in given) (chosen given).source (plan_of given) (chosen given).digits (degree_in given) (chosen given).faces u o) run.run_is
          ∙ ap (λ o. put_together (mode_in given) (chosen given).source (plan_of given) (chosen given).digits (degree_in given) (chosen given).faces (chosen given).subdomain o) output.output_is;
    }

-- what is left to read, once the mode and its name, the source and the plan are known
abbrev behind_subdomain : Given → ModeName → Mode → Source → Plan → ℕ → ℕ → Faces → Option Subdomain → Option Choice
behind_subdomain given m v s p d g f u =
    read_output (given.value names.Matrix) (given.value names.Rhs) (given.stands switches.Summary) (has_sums m) >>= (λ o. Some (put_together v s p d g f u o))

abbrev behind_faces : Given → ModeName → Mode → Source → Plan → ℕ → ℕ → Faces → Option Choice
behind_faces given m v s p d g f = read_subdomain (given.value names.Subdomain) (given.value names.Ghost) (given.stands switches.GhostCells) >>= (λ u. behind_subdomain given m v s p d g f u)

abbrev behind_degree : Given → ModeName → Mode → Source → Plan → ℕ → ℕ → Option Choice
behind_degree given m v s p d g = read_or faces.None faces_of (given.value names.Faces) >>= (λ f. behind_faces given m v s p d g f)

abbrev behind_digits : Given → ModeName → Mode → Source → Plan → ℕ → Option Choice
behind_digits given m v s p d = read_or 1 (number_within 1 (greatest_degree v)) (given.value names.Degree) >>= (λ g. behind_degree given m v s p d g)

abbrev behind_plan : Given → ModeName → Mode → Source → Plan → Option Choice
behind_plan given m v s p = read_or 0 (number_within 0 64) (given.value names.Digits) >>= (λ d. behind_digits given m v s p d)

left_tells : (given : Given) (choice : Choice) (m : ModeName) (t : Format) (s : Source) (v : Mode) (p : Plan) →
    read_or (modes.System systems.Serial) mode_of (given.value names.Mode) ≡ Some m →
    read_or formats.Ucd format_of (given.value names.Format) ≡ Some t →
    read_source (given.value names.Mesh) (given.value names.Problem) (given.value names.Generate) (given.value names.Seed) t ≡ Some s →
    read_mode m (given.value names.Vector) (given.value names.Mark) s ≡ Some v →
    read_plan given ≡ Some p →
    behind_plan given m v s p ≡ Some choice → is_some (given.value names.Batch) ≡ false → IsChosen given choice
left_tells given choice m t s v p m_read t_read s_read v_read p_read read no_batch =
    let d = then_some (behind_digits given m v s p) (read_or 0 (number_within 0 64) (given.value names.Digits)) choice read in
    let g = then_some (behind_degree given m v s p d.0) (read_or 1 (number_within 1 (greatest_degree v)) (given.value names.Degree)) choice d.2 in
    let f = then_some (behind_faces given m v s p d.0 g.0) (read_or faces.None faces_of (given.value names.Faces)) choice g.2 in
    let u = then_some (behind_subdomain given m v s p d.0 g.0 f.0) (read_subdomain (given.value names.Subdomain) (given.value names.Ghost) (given.stands switches.GhostCells)) choice f.2 in
    let o = then_some (λ o. Some (put_together v s p d.0 g.0 f.0 u.0 o)) (read_output (given.value names.Matrix) (given.value names.Rhs) (given.stands switches.Summary) (has_sums m)) choice u.2 in
    chosen_from given choice m t s v p d.0 g.0 f.0 u.0 o.0 m_read t_read s_read v_read p_read d.1 g.1 f.1 u.1 o.1 (injected (put_together v s p d.0 g.0 f.0 u.0 o.0) choice o.2) no_batch

run_reading_tells : (given : Given) (choice : Choice) → run_reading given ≡ Some choice → is_some (given.value names.Batch) ≡ false → IsChosen given choice
unfolding run_reading
run_reading_tells given choice read no_batch =
    let behind_vector : ModeName → Source → Mode → Option Choice = λ m s v. read_plan given >>= (λ p. behind_plan given m v s p) in
    let behind_source : ModeName → Source → Option Choice = λ m s. read_mode m (given.value names.Vector) (given.value names.Mark) s >>= (λ v. behind_vector m s v) in
    let behind_format : ModeName → Format → Option Choice = λ m t.
    read_source (given.value names.Mesh) (given.value names.Problem) (given.value names.Generate) (given.value names.Seed) t >>= (λ s. behind_source m s) in
    let behind_mode : ModeName → Option Choice = λ m. read_or formats.Ucd format_of (given.value names.Format) >>= (λ t. behind_format m t) in
    let m = then_some behind_mode (read_or (modes.System systems.Serial) mode_of (given.value names.Mode)) choice read in
    let t = then_some (behind_format m.0) (read_or formats.Ucd format_of (given.value names.Format)) choice m.2 in
    let s = then_some (behind_source m.0) (read_source (given.value names.Mesh) (given.value names.Problem) (given.value names.Generate) (given.value names.Seed) t.0) choice t.2 in
    let v = then_some (behind_vector m.0 s.0) (read_mode m.0 (given.value names.Vector) (given.value names.Mark) s.0) choice s.2 in
    let p = then_some (behind_plan given m.0 v.0 s.0) (read_plan given) choice v.2 in
    left_tells given choice m.0 t.0 s.0 v.0 p.0 m.1 t.1 s.1 v.1 p.1 p.2 no_batch

pub reading_tells : (given : Given) (choice : Choice) → reading given ≡ Some choice → IsChosen given choice
unfolding reading
reading_tells given choice read =
    let is = not_none (is_some (given.value names.Batch)) (run_reading given) choice read in
    run_reading_tells given choice is.1 is.0
