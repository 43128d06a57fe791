-- Runs over an outside of which no last call failed.
use Rattle.std.proofs.Common.{◌≡◌, ◌≢◌, ◌∙◌, ap, sym, refl, ℕ, List, Bool, true, false}
use Rattle.std.specs.Prelude.{Ok, Err}
use Rattle.std.specs.declared.result.Result.{Result}
use Rattle.fem_text.specs.declared.counts.Counts.{Counts}
use Rattle.run_words.specs.Choice.{Mode, Destination, standard, named}
use Rattle.run_outputs.specs.Targets.{World, after_targets}
use Rattle.run_outputs.specs.Stops.{StandsInPart}
use Rattle.diagnostics.specs.declared.refusal.Refusal.{Refusal}
use Rattle.diagnostics.specs.declared.refusal.Refusal.TheVariants.{Words, MeshText, ProblemText, Mesh, Constraint, Local, Sum, Limit, Vector, Product, Absent}
use Rattle.diagnostics.specs.declared.ending.Ending.{Ending}
use Rattle.diagnostics.specs.declared.ending.Ending.TheVariants as endings
use Rattle.diagnostics.specs.Lines.{status_of}
use Rattle.assemble_core.specs.Run as run
use Rattle.assemble_core.specs.Run.{Outside, Leaves}
use Rattle.answer_laws.specs.Runs.{NoneFailedLast, FaultsStopRuns}

-- no status of a refusal is that of a fault of the outside
pub not_outside : (refusal : Refusal) → (◌≢◌ {A = ℕ} (status_of refusal) 10) × (◌≢◌ {A = ℕ} (status_of refusal) 11)
not_outside Words = (λ e. cc, λ e. cc)
not_outside (MeshText kind line) = (λ e. cc, λ e. cc)
not_outside (ProblemText kind line) = (λ e. cc, λ e. cc)
not_outside (Mesh kind place) = (λ e. cc, λ e. cc)
not_outside (Constraint kind place) = (λ e. cc, λ e. cc)
not_outside (Local cell fault) = (λ e. cc, λ e. cc)
not_outside (Sum cell row) = (λ e. cc, λ e. cc)
not_outside (Limit kind) = (λ e. cc, λ e. cc)
not_outside (Vector fault) = (λ e. cc, λ e. cc)
not_outside (Product cell) = (λ e. cc, λ e. cc)
not_outside (Absent role) = (λ e. cc, λ e. cc)

failed_last : (counts : Counts) (last : Bool) → counts.failed_last ≡ last → counts.failed_last ≡ false → last ≡ true → ⊥
failed_last counts last is well failed = (let e : true ≡ false = sym failed ∙ sym is ∙ well in cc)

in_part : (before now : World) (destination : Destination) (text : List ℕ) → StandsInPart before now destination text → now.store.failed_last ≡ false → now.out.failed_last ≡ false → ⊥
in_part before now standard text part store out = failed_last now.out true (ap (λ (c : Counts). c.failed_last) part.puts.1) out refl
in_part before now (named name) text part store out = failed_last now.store true (ap (λ (c : Counts). c.failed_last) part.write) store refl

not_stopped : (takes : Mode → Bool) (words : List (List ℕ)) (before now : Outside) → NoneFailedLast now → (end : Result Unit Ending) → Leaves takes words before.world now.world end →
    (◌≢◌ {A = ℕ} (run.status_of end) 10) × (◌≢◌ {A = ℕ} (run.status_of end) 11)
not_stopped takes words before now well (Ok unit) leaves = (λ e. cc, λ e. cc)
not_stopped takes words before now well (Err (endings.Refused refusal)) leaves = not_outside refusal
not_stopped takes words before now well (Err (endings.ReadFault role)) leaves =
    absurd (failed_last now.world.store true (ap (λ (c : Counts). c.failed_last) leaves.reads) well.0 refl)
not_stopped takes words before now well (Err (endings.WriteFault output)) leaves =
    absurd (in_part (after_targets (run.after_choice before.world leaves.choice) leaves.stops.whole) now.world leaves.stops.target.destination leaves.stops.target.text leaves.stops.stops.1 well.0 well.1)
not_stopped takes words before now well (Err endings.NoMemory) leaves = (λ e. cc, λ e. cc)

pub faults_stop_runs : FaultsStopRuns
faults_stop_runs takes words before now status well is =
    let apart = not_stopped takes words before now well is.end is.leaves in
    (λ e. apart.0 (sym is.status_is ∙ e), λ e. apart.1 (sym is.status_is ∙ e))
