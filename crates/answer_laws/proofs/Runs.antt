-- What a run does with the one answer of its words.
use Rattle.std.proofs.Common.{◌≡◌, ◌≢◌, ◌∙◌, ◌⊎◌, inl, inr, ap, subst, ℕ, List, Bool, refl}
use Rattle.std.specs.Prelude.{Some, None, Ok, Err}
use Rattle.std.specs.declared.option.Option.{Option}
use Rattle.std.specs.declared.result.Result.{Result}
use Rattle.fem_text.specs.Outside.{Held}
use Rattle.fem_text.proofs.OneReading.{ok_same, err_same, ok_err}
use Rattle.run_words.specs.Choice.{Mode}
use Rattle.run_outputs.specs.Targets.{Target, after_targets}
use Rattle.diagnostics.specs.declared.refusal.Refusal.{Refusal}
use Rattle.diagnostics.specs.declared.refusal.Refusal.TheVariants.{Words, MeshText, ProblemText, Mesh, Constraint, Local, Sum, Limit, Vector, Product, Absent}
use Rattle.diagnostics.specs.declared.ending.Ending.{Ending}
use Rattle.diagnostics.specs.declared.ending.Ending.TheVariants as endings
use Rattle.diagnostics.specs.Lines.{status_of, refusal_line, TookLine}
use Rattle.diagnostics.specs.Stages.{HasOneOutcome}
use Rattle.assemble_core.specs.Answer.{Answers}
use Rattle.assemble_core.specs.Run as run
use Rattle.assemble_core.specs.Run.{Outside, Leaves, Tells, IsWritten, after_reads, after_choice}
use Rattle.answer_laws.specs.Laws.{HaveOneAnswer, HaveOneAnswerWithoutTexts}
use Rattle.answer_laws.specs.Runs.{AreTold, IsTheAnswer, Wrote, RefusedWith, IsOfReads, IsOfOutside, DefinedTextsAreWritten, DefinedRefusalsAreTold, ZeroTellsTheTexts, OthersTellTheRefusal}

-- no refusal has status 0
not_zero : {P : Type 0} (refusal : Refusal) → ◌≡◌ {A = ℕ} 0 (status_of refusal) → P
not_zero Words e = cc
not_zero (MeshText kind line) e = cc
not_zero (ProblemText kind line) e = cc
not_zero (Mesh kind place) e = cc
not_zero (Constraint kind place) e = cc
not_zero (Local cell fault) e = cc
not_zero (Sum cell row) e = cc
not_zero (Limit kind) e = cc
not_zero (Vector fault) e = cc
not_zero (Product cell) e = cc
not_zero (Absent role) e = cc

wrote : (takes : Mode → Bool) (words : List (List ℕ)) (before now : Outside) → (w : IsWritten takes words before.world now.world) → Tells before now (Ok tt) → (targets : List Target) →
    w.targets ≡ targets → Wrote takes words before now targets
wrote takes words before now w told targets same = record {
  choice = w.choice;
  asked = w.asked;
  written = w.written ∙ ap (after_targets (after_choice before.world w.choice)) same;
  told = told.0;
  tells = told.1;
}

-- Words whose texts are told have one answer.
module _ (over_texts : HaveOneAnswer) (without_texts : HaveOneAnswerWithoutTexts) where
  one : (takes : Mode → Bool) (words : List (List ℕ)) (holds : Option Held) → AreTold takes words holds → HasOneOutcome (Answers takes words holds)
  one takes words (Some held) told a b h k = over_texts takes words held a b h k
  one takes words None told a b h k = without_texts takes words None told a b h k

  -- they define texts, or a refusal, and never both
  never_both : {P : Type 0} (takes : Mode → Bool) (words : List (List ℕ)) (holds : Option Held) → AreTold takes words holds → (targets : List Target) (refusal : Refusal) →
      Answers takes words holds (Ok targets) → Answers takes words holds (Err refusal) → P
  never_both takes words holds told targets refusal h k = ok_err targets refusal (one takes words holds told (Ok targets) (Err refusal) h k)

  one_list : (takes : Mode → Bool) (words : List (List ℕ)) (holds : Option Held) → AreTold takes words holds → (a b : List Target) → Answers takes words holds (Ok a) →
      Answers takes words holds (Ok b) → a ≡ b
  one_list takes words holds told a b h k = ok_same {K = Refusal} a b (one takes words holds told (Ok a) (Ok b) h k)

  one_refusal : (takes : Mode → Bool) (words : List (List ℕ)) (holds : Option Held) → AreTold takes words holds → (a b : Refusal) → Answers takes words holds (Err a) →
      Answers takes words holds (Err b) → a ≡ b
  one_refusal takes words holds told a b h k = err_same {A = List Target} a b (one takes words holds told (Err a) (Err b) h k)

  only : (takes : Mode → Bool) (words : List (List ℕ)) (holds : Option Held) → AreTold takes words holds → (answer : Result (List Target) Refusal) → Answers takes words holds answer →
      IsTheAnswer takes words holds answer
  only takes words holds told answer h = record { answers = h; only = λ other k. one takes words holds told other answer k h }

  end_of_texts : (takes : Mode → Bool) (words : List (List ℕ)) (before now : Outside) (status : ℕ) (targets : List Target) → AreTold takes words before.world.holds →
      Answers takes words before.world.holds (Ok targets) → (end : Result Unit Ending) → status ≡ run.status_of end → Leaves takes words before.world now.world end → Tells before now end →
      ((status ≡ 0) × Wrote takes words before now targets) ⊎ IsOfOutside status
  end_of_texts takes words before now status targets told h (Ok unit) e leaves tells =
      inl (e, wrote takes words before now leaves tells targets (one_list takes words before.world.holds told leaves.targets targets leaves.answer h))
  end_of_texts takes words before now status targets told h (Err (endings.Refused refusal)) e leaves tells = never_both takes words before.world.holds told targets refusal h leaves.0
  end_of_texts takes words before now status targets told h (Err (endings.ReadFault role)) e leaves tells = inr (inr (inl e))
  end_of_texts takes words before now status targets told h (Err (endings.WriteFault output)) e leaves tells = inr (inl e)
  end_of_texts takes words before now status targets told h (Err endings.NoMemory) e leaves tells = inr (inr (inr e))

  pub texts_written : DefinedTextsAreWritten
  texts_written takes words before now status targets told h is = end_of_texts takes words before now status targets told h is.end is.status_is is.leaves is.tells

  end_of_refusal : (takes : Mode → Bool) (words : List (List ℕ)) (before now : Outside) (status : ℕ) (refusal : Refusal) → AreTold takes words before.world.holds →
      Answers takes words before.world.holds (Err refusal) → (end : Result Unit Ending) → status ≡ run.status_of end → Leaves takes words before.world now.world end → Tells before now end →
      (now.world ≡ after_reads before.world now.world.store) × (((status ≡ status_of refusal) × RefusedWith takes words before now refusal) ⊎ IsOfReads status)
  end_of_refusal takes words before now status refusal told h (Ok unit) e leaves tells = never_both takes words before.world.holds told leaves.targets refusal leaves.answer h
  end_of_refusal takes words before now status refusal told h (Err (endings.Refused other)) e leaves tells =
      let same : other ≡ refusal = one_refusal takes words before.world.holds told other refusal leaves.0 h in
      let P : Refusal → Type 0 = λ r. TookLine before.told now.told before.tells now.tells (refusal_line r) in
      (leaves.1.same, inl (e ∙ ap status_of same, record { untouched = leaves.1; line = subst P same tells }))
  end_of_refusal takes words before now status refusal told h (Err (endings.ReadFault role)) e leaves tells = (leaves.same, inr (inl e))
  end_of_refusal takes words before now status refusal told h (Err (endings.WriteFault output)) e leaves tells =
      never_both takes words before.world.holds told leaves.targets refusal leaves.answer h
  end_of_refusal takes words before now status refusal told h (Err endings.NoMemory) e (inl untouched) tells = (untouched.2.same, inr (inr e))
  end_of_refusal takes words before now status refusal told h (Err endings.NoMemory) e (inr stopped) tells =
      never_both takes words before.world.holds told stopped.targets refusal stopped.answer h

  pub refusal_told : DefinedRefusalsAreTold
  refusal_told takes words before now status refusal told h is = end_of_refusal takes words before now status refusal told h is.end is.status_is is.leaves is.tells

  zero_end : (takes : Mode → Bool) (words : List (List ℕ)) (before now : Outside) → AreTold takes words before.world.holds → (end : Result Unit Ending) → ◌≡◌ {A = ℕ} 0 (run.status_of end) →
      Leaves takes words before.world now.world end → Tells before now end →
      (targets : List Target) × IsTheAnswer takes words before.world.holds (Ok targets) × Wrote takes words before now targets
  zero_end takes words before now told (Ok unit) e leaves tells =
      (leaves.targets, only takes words before.world.holds told (Ok leaves.targets) leaves.answer, wrote takes words before now leaves tells leaves.targets refl)
  zero_end takes words before now told (Err (endings.Refused refusal)) e leaves tells = not_zero refusal e
  zero_end takes words before now told (Err (endings.ReadFault role)) e leaves tells = cc
  zero_end takes words before now told (Err (endings.WriteFault output)) e leaves tells = cc
  zero_end takes words before now told (Err endings.NoMemory) e leaves tells = cc

  pub zero_tells : ZeroTellsTheTexts
  zero_tells takes words before now told is = zero_end takes words before now told is.end is.status_is is.leaves is.tells

  other_end : (takes : Mode → Bool) (words : List (List ℕ)) (before now : Outside) (status : ℕ) → AreTold takes words before.world.holds → status ≢ 0 → ¬ IsOfOutside status →
      (end : Result Unit Ending) → status ≡ run.status_of end → Leaves takes words before.world now.world end → Tells before now end →
      (refusal : Refusal) × IsTheAnswer takes words before.world.holds (Err refusal) × (status ≡ status_of refusal) × RefusedWith takes words before now refusal
  other_end takes words before now status told some inside (Ok unit) e leaves tells = absurd (some e)
  other_end takes words before now status told some inside (Err (endings.Refused refusal)) e leaves tells =
      (refusal, only takes words before.world.holds told (Err refusal) leaves.0, e, record { untouched = leaves.1; line = tells })
  other_end takes words before now status told some inside (Err (endings.ReadFault role)) e leaves tells = absurd (inside (inr (inl e)))
  other_end takes words before now status told some inside (Err (endings.WriteFault output)) e leaves tells = absurd (inside (inl e))
  other_end takes words before now status told some inside (Err endings.NoMemory) e leaves tells = absurd (inside (inr (inr e)))

  pub others_tell : OthersTellTheRefusal
  others_tell takes words before now status told is some inside = other_end takes words before now status told some inside is.end is.status_is is.leaves is.tells
