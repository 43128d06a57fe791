-- The two texts of a source.
use Rattle.std.proofs.Common.{◌≡◌, ◌∙◌, sym, ap, refl, subst, ℕ, suc, ◌≤◌, lit≤, arith, List, [], true, false}
use Rattle.std.specs.Prelude.{Some, None, is_some, Ok, Err, IfErr}
use Rattle.std.specs.declared.option.Option.{Option}
use Rattle.std.specs.declared.result.Result.{Result}
use Rattle.fem_fixed.specs.Mesh.{Mesh}
use Rattle.fem_text.specs.declared.counts.Counts.{Counts}
use Rattle.fem_text.specs.Counts.{after_call, after_good}
use Rattle.fem_text.specs.Outside.{Held}
use Rattle.problem_read.specs.Entries.{ProblemParts}
use Rattle.run_words.specs.declared.options.Format.{Format}
use Rattle.run_words.specs.declared.options.Format.TheVariants as formats
use Rattle.run_words.specs.Choice.{texts, generated}
use Rattle.diagnostics.specs.declared.refusal.Refusal.{Refusal}
use Rattle.diagnostics.specs.declared.ending.Role.TheVariants as roles
use Rattle.diagnostics.specs.declared.ending.Ending.{Ending}
use Rattle.diagnostics.specs.declared.ending.Ending.TheVariants.{Refused, ReadFault, WriteFault, NoMemory}
use Rattle.diagnostics.specs.Stages.{Then, stops, goes}
use Rattle.diagnostics.specs.Stages as stages
use Rattle.grid_texts.specs.Grid as grid
use Rattle.run_texts.specs.Texts.{Texts, StandsUnder, ProblemStands, MeshOf, ProblemOf}
use Rattle.run_texts.specs.Read.{MeshUnder, ProblemUnder, EndsIn, EndsProblem, SourceRead, GoesOnTo, EndsReading, SourceReads, after_read, reads_before, name_count, is_read_fault}

-- what a text that isn't read may be
some_text : (holds : Option Held) (name : List ℕ) → (known : Option (List ℕ)) × StandsUnder holds name known
some_text None name = (Some [], refl)
some_text (Some held) name = (held name, refl)

some_problem : (holds : Option Held) (name : Option (List ℕ)) → (known : Option (List ℕ)) × ProblemStands holds name known
some_problem holds None = (Some [], refl)
some_problem holds (Some name) = some_text holds name

both_read : (holds : Option Held) (mesh : List ℕ) (format : Format) (name : Option (List ℕ)) (parts : Mesh) (outcome : Result (Mesh × ProblemParts) Refusal) →
    MeshUnder holds mesh format (Ok parts) →
    ((known : Option (List ℕ)) × ProblemStands holds name known × Then (ProblemOf known) (λ problem outcome. outcome ≡ Ok (parts, problem)) outcome) →
    SourceRead holds (texts mesh format name) outcome
both_read holds mesh format name parts outcome (known, stands, is) (other, other_stands, other_is) =
    (record { mesh = known; problem = other }, (stands, other_stands), goes parts is other_is)

pub both_ok : (holds : Option Held) (mesh : List ℕ) (format : Format) (name : Option (List ℕ)) (parts : Mesh) (problem : ProblemParts) →
    MeshUnder holds mesh format (Ok parts) → ProblemUnder holds name (Ok problem) → SourceRead holds (texts mesh format name) (Ok (parts, problem))
both_ok holds mesh format name parts problem m (known, stands, is) = both_read holds mesh format name parts (Ok (parts, problem)) m (known, stands, goes problem is refl)

-- the mesh ends the reading
pub mesh_ends_both : (holds : Option Held) (mesh : List ℕ) (format : Format) (name : Option (List ℕ)) (e : Ending) → EndsIn roles.Mesh (MeshUnder holds mesh format) e → EndsReading holds (texts mesh format name) e
mesh_ends_both holds mesh format name (Refused refusal) (known, stands, is) =
    let other = some_problem holds name in
    (record { mesh = known; problem = other.0 }, (stands, other.1), stops refusal is refl)
mesh_ends_both holds mesh format name (ReadFault role) h = subst (GoesOnTo holds (texts mesh format name)) (sym h) tt
mesh_ends_both holds mesh format name (WriteFault output) h = h
mesh_ends_both holds mesh format name NoMemory h = h

goes_to_problem : (holds : Option Held) (mesh : List ℕ) (format : Format) (name : Option (List ℕ)) (parts : Mesh) → MeshUnder holds mesh format (Ok parts) → (is_some name ≡ true) → GoesOnTo holds (texts mesh format name) roles.Problem
goes_to_problem holds mesh format None parts m is = cc
goes_to_problem holds mesh format (Some name) parts m is = (parts, m)

-- the problem ends the reading, behind the mesh
pub problem_ends_both : (holds : Option Held) (mesh : List ℕ) (format : Format) (name : Option (List ℕ)) (parts : Mesh) (e : Ending) → MeshUnder holds mesh format (Ok parts) → EndsProblem holds name e → EndsReading holds (texts mesh format name) e
problem_ends_both holds mesh format name parts (Refused refusal) m (known, stands, is) = both_read holds mesh format name parts (Err refusal) m (known, stands, stops refusal is refl)
problem_ends_both holds mesh format name parts (ReadFault role) m (is, named) = subst (GoesOnTo holds (texts mesh format name)) (sym is) (goes_to_problem holds mesh format name parts m named)
problem_ends_both holds mesh format name parts (WriteFault output) m h = h
problem_ends_both holds mesh format name parts NoMemory m h = h

one_of_them : (name : Option (List ℕ)) → 1 ≤ suc (name_count name)
one_of_them name = omega arith

-- the read of the mesh alone
pub mesh_reads : (X : Type 0) (step : Result Mesh Refusal → Type 0) (mesh : List ℕ) (format : Format) (name : Option (List ℕ)) (e : Ending) (before now : Counts) → EndsIn roles.Mesh step e →
    now ≡ after_call (is_read_fault {X = X} (Err e)) before → SourceReads {X = X} (texts mesh format name) (Err e) before now
mesh_reads X step mesh format name (Refused refusal) before now h is = (1, one_of_them name, is)
mesh_reads X step mesh format name (ReadFault role) before now h is = subst (λ r. now ≡ after_call true (after_good (reads_before (texts mesh format name) r) before)) (sym h) is
mesh_reads X step mesh format name (WriteFault output) before now h is = absurd h
mesh_reads X step mesh format name NoMemory before now h is = (1, one_of_them name, is)

-- the read of the problem behind that of the mesh, where both went well
pub both_reads : (name : Option (List ℕ)) (before middle now : Counts) → middle ≡ after_call false before → now ≡ after_read name false middle → now ≡ after_good (suc (name_count name)) before
both_reads None before middle now first is = is ∙ first
both_reads (Some name) before middle now first is = is ∙ ap (after_call false) first

-- where it failed
failed_behind : (name : Option (List ℕ)) (before middle now : Counts) → is_some name ≡ true → middle ≡ after_call false before → now ≡ after_read name true middle →
    now ≡ after_call true (after_good 1 before)
failed_behind None before middle now named first is = cc
failed_behind (Some name) before middle now named first is = is ∙ ap (after_call true) first

all_of_them : (n : ℕ) → n ≤ n
all_of_them n = omega arith

-- and where the problem ends the reading
pub problem_reads : (X : Type 0) (holds : Option Held) (mesh : List ℕ) (format : Format) (name : Option (List ℕ)) (e : Ending) (before middle now : Counts) → EndsProblem holds name e →
    middle ≡ after_call false before → now ≡ after_read name (is_read_fault {X = X} (Err e)) middle → SourceReads {X = X} (texts mesh format name) (Err e) before now
problem_reads X holds mesh format name (Refused refusal) before middle now h first is = (suc (name_count name), all_of_them (suc (name_count name)), both_reads name before middle now first is)
problem_reads X holds mesh format name (ReadFault role) before middle now (problem, named) first is =
    subst (λ r. now ≡ after_call true (after_good (reads_before (texts mesh format name) r) before)) (sym problem) (failed_behind name before middle now named first is)
problem_reads X holds mesh format name (WriteFault output) before middle now h first is = absurd h
problem_reads X holds mesh format name NoMemory before middle now h first is = (suc (name_count name), all_of_them (suc (name_count name)), both_reads name before middle now first is)

-- no read is made for a drawn grid
pub drawn_reads : {X : Type 0} (n seed : ℕ) (result : Result X Ending) (counts : Counts) → is_read_fault result ≡ false → SourceReads (generated n seed) result counts counts
drawn_reads n seed (Ok value) counts never = refl
drawn_reads n seed (Err (Refused refusal)) counts never = (0, lit≤ tt, refl)
drawn_reads n seed (Err (ReadFault role)) counts never = cc
drawn_reads n seed (Err (WriteFault output)) counts never = (0, lit≤ tt, refl)
drawn_reads n seed (Err NoMemory) counts never = (0, lit≤ tt, refl)

abbrev drawn_texts : ℕ → ℕ → Texts
drawn_texts n seed = record { mesh = Some (grid.mesh_text n seed); problem = Some (grid.problem_text n) }

pub drawn_ok : (n seed : ℕ) (mesh text : List ℕ) (parts : Mesh) (problem : ProblemParts) → mesh ≡ grid.mesh_text n seed → text ≡ grid.problem_text n →
    MeshOf formats.Ucd (Some mesh) (Ok parts) → ProblemOf (Some text) (Ok problem) → SourceRead None (generated n seed) (Ok (parts, problem))
drawn_ok n seed mesh text parts problem is other_is m p =
    (record { mesh = Some mesh; problem = Some text }, (ap Some is, ap Some other_is), goes parts m (goes problem p refl))

pub drawn_mesh_ends : (n seed : ℕ) (mesh : List ℕ) (e : Ending) → mesh ≡ grid.mesh_text n seed → stages.EndsIn (MeshOf formats.Ucd (Some mesh)) e → EndsReading None (generated n seed) e
drawn_mesh_ends n seed mesh (Refused refusal) is h = (record { mesh = Some mesh; problem = Some (grid.problem_text n) }, (ap Some is, refl), stops refusal h refl)
drawn_mesh_ends n seed mesh (ReadFault role) is h = h
drawn_mesh_ends n seed mesh (WriteFault output) is h = h
drawn_mesh_ends n seed mesh NoMemory is h = h

pub drawn_problem_ends : (n seed : ℕ) (mesh text : List ℕ) (parts : Mesh) (e : Ending) → mesh ≡ grid.mesh_text n seed → text ≡ grid.problem_text n →
    MeshOf formats.Ucd (Some mesh) (Ok parts) → stages.EndsIn (ProblemOf (Some text)) e → EndsReading None (generated n seed) e
drawn_problem_ends n seed mesh text parts (Refused refusal) is other_is m h =
    (record { mesh = Some mesh; problem = Some text }, (ap Some is, ap Some other_is), goes parts m (stops refusal h refl))
drawn_problem_ends n seed mesh text parts (ReadFault role) is other_is m h = h
drawn_problem_ends n seed mesh text parts (WriteFault output) is other_is m h = h
drawn_problem_ends n seed mesh text parts NoMemory is other_is m h = h

-- a drawn grid is the same over each store
drawn_end : (holds : Option Held) (n seed : ℕ) (e : Ending) → EndsReading None (generated n seed) e → EndsReading holds (generated n seed) e
drawn_end holds n seed (Refused refusal) h = h
drawn_end holds n seed (ReadFault role) h = h
drawn_end holds n seed (WriteFault output) h = h
drawn_end holds n seed NoMemory h = h

pub drawn_ends : {X : Type 0} (holds : Option Held) (n seed : ℕ) (result : Result X Ending) → IfErr result (EndsReading None (generated n seed)) → IfErr result (EndsReading holds (generated n seed))
drawn_ends holds n seed (Ok value) h = tt
drawn_ends holds n seed (Err e) h = drawn_end holds n seed e h
