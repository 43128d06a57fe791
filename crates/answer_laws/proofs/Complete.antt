-- Runs in which no count of faults rose.
use Rattle.std.proofs.Common.{◌≡◌, ◌≢◌, ◌∙◌, ◌⊎◌, ◌∷◌, [], inl, inr, sym, refl, ℕ, ◌<◌, ◌-◌, ◌^◌, List, Bool, arith}
use Rattle.std.specs.Prelude.{Ok, Err}
use Rattle.std.specs.declared.result.Result.{Result}
use Rattle.fem_text.specs.Counts.{one_more, pieces, Rose}
use Rattle.fem_text.proofs.Counted.{good_faults, fault_rose, one_fault}
use Rattle.run_words.specs.Choice.{Mode, Destination, standard, named}
use Rattle.run_texts.specs.Read.{reads_before}
use Rattle.run_targets.specs.Reads.{reads_in}
use Rattle.run_outputs.specs.Targets.{Target, World, after_text, after_target, after_targets}
use Rattle.run_outputs.specs.Stops.{StandsInPart}
use Rattle.diagnostics.specs.declared.ending.Ending.{Ending}
use Rattle.diagnostics.specs.declared.ending.Ending.TheVariants as endings
use Rattle.assemble_core.specs.Run as run
use Rattle.assemble_core.specs.Run.{Outside, Leaves, after_choice}
use Rattle.answer_laws.specs.Runs.{IsOfReads, IsOfOutside, NoCountRose, DefinedTextsAreWritten, DefinedRefusalsAreTold, RunsAreComplete, answer_status}
use Rattle.answer_laws.proofs.Clean.{not_outside}

-- a count below the end of its type that stays did not rise
stays : {P : Type 0} (before now : ℕ) → now ≡ one_more before → now ≡ before → before < 2 ^ 64 - 1 → P
stays before now rose same below = absurd (omega (arith, rose, same, below))

-- whole texts leave the counts of faults
text_leaves : (world : World) (destination : Destination) (text : List ℕ) →
    ((after_text world destination text).store.faults ≡ world.store.faults) × ((after_text world destination text).out.faults ≡ world.out.faults)
text_leaves world standard text = (refl, good_faults (pieces text) world.out)
text_leaves world (named name) text = (refl, refl)

texts_leave : (world : World) (targets : List Target) → ((after_targets world targets).store.faults ≡ world.store.faults) × ((after_targets world targets).out.faults ≡ world.out.faults)
texts_leave world [] = (refl, refl)
texts_leave world (target ∷ more) =
    let first = text_leaves world target.destination target.text in
    let rest = texts_leave (after_target world target) more in
    (rest.0 ∙ first.0, rest.1 ∙ first.1)

-- a text that stands in part raised a count
part_rose : {P : Type 0} (before now : World) (destination : Destination) (text : List ℕ) → StandsInPart before now destination text → now.store.faults ≡ before.store.faults →
    now.out.faults ≡ before.out.faults → before.store.faults < 2 ^ 64 - 1 → before.out.faults < 2 ^ 64 - 1 → P
part_rose before now standard text part store out store_may out_may = stays before.out.faults now.out.faults (fault_rose before.out now.out part.puts) out out_may
part_rose before now (named name) text part store out store_may out_may =
    stays before.store.faults now.store.faults (fault_rose before.store now.store (one_fault before.store now.store part.write)) store store_may

not_stopped : (takes : Mode → Bool) (words : List (List ℕ)) (before now : Outside) → NoCountRose before now → (end : Result Unit Ending) → Leaves takes words before.world now.world end →
    (◌≢◌ {A = ℕ} (run.status_of end) 10) × (◌≢◌ {A = ℕ} (run.status_of end) 11)
not_stopped takes words before now none (Ok unit) leaves = (λ e. cc, λ e. cc)
not_stopped takes words before now none (Err (endings.Refused refusal)) leaves = not_outside refusal
not_stopped takes words before now none (Err (endings.ReadFault role)) leaves =
    let rose : Rose before.world.store now.world.store = fault_rose before.world.store now.world.store (reads_before leaves.choice.source role, leaves.reads) in
    stays before.world.store.faults now.world.store.faults rose none.store none.store_may
not_stopped takes words before now none (Err (endings.WriteFault output)) leaves =
    let start : World = after_choice before.world leaves.choice in
    let whole : World = after_targets start leaves.stops.whole in
    let read = good_faults (reads_in leaves.choice) before.world.store in
    let wrote = texts_leave start leaves.stops.whole in
    let store : whole.store.faults ≡ before.world.store.faults = wrote.0 ∙ read in
    let out : whole.out.faults ≡ before.world.out.faults = wrote.1 in
    part_rose whole now.world leaves.stops.target.destination leaves.stops.target.text leaves.stops.stops.1 (none.store ∙ sym store) (none.out ∙ sym out)
    (omega (arith, store, none.store_may)) (omega (arith, out, none.out_may))
not_stopped takes words before now none (Err endings.NoMemory) leaves = (λ e. cc, λ e. cc)

-- what is left of a run's statuses
left_of_texts : {P : Type 0} (status : ℕ) → (status ≢ 10) × (status ≢ 11) → ((status ≡ 0) × P) ⊎ IsOfOutside status → (status ≡ 0) ⊎ (status ≡ 12)
left_of_texts status apart (inl well) = inl well.0
left_of_texts status apart (inr (inl e)) = absurd (apart.1 e)
left_of_texts status apart (inr (inr (inl e))) = absurd (apart.0 e)
left_of_texts status apart (inr (inr (inr e))) = inr e

left_of_refusals : {P : Type 0} (status told : ℕ) → (status ≢ 10) × (status ≢ 11) → ((status ≡ told) × P) ⊎ IsOfReads status → (status ≡ told) ⊎ (status ≡ 12)
left_of_refusals status told apart (inl well) = inl well.0
left_of_refusals status told apart (inr (inl e)) = absurd (apart.0 e)
left_of_refusals status told apart (inr (inr e)) = inr e

module _ (texts : DefinedTextsAreWritten) (refusals : DefinedRefusalsAreTold) where
  pub complete : RunsAreComplete
  complete takes words before now status (Ok targets) told answer none is =
      let apart = not_stopped takes words before now none is.end is.leaves in
      left_of_texts status ((λ e. apart.0 (sym is.status_is ∙ e)), (λ e. apart.1 (sym is.status_is ∙ e))) (texts takes words before now status targets told answer is)
  complete takes words before now status (Err refusal) told answer none is =
      let apart = not_stopped takes words before now none is.end is.leaves in
      left_of_refusals status (answer_status (Err refusal)) ((λ e. apart.0 (sym is.status_is ∙ e)), (λ e. apart.1 (sym is.status_is ∙ e)))
      (refusals takes words before now status refusal told answer is).1
