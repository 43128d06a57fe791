-- No answer is that memory ran out.
use Rattle.std.proofs.Common.{◌≡◌, sym, ap, refl, ℕ, Bool, true, false, List, [], ◌∷◌, Ok, Err}
use Rattle.std.specs.Prelude.{Some, None, not, is_some}
use Rattle.std.specs.declared.option.Option.{Option}
use Rattle.std.specs.declared.result.Result.{Result}
use Rattle.fem_text.specs.Words.{◌>>=◌, or_fault, unless}
use Rattle.affine_constraints.specs.declared.fault.CloseFault.{CloseFault}
use Rattle.affine_constraints.specs.declared.fault.CloseFault.TheVariants as close
use Rattle.affine_constraints.specs.Lines.{Lines, lines_in}
use Rattle.affine_constraints.specs.Laws.{IsAnswer}
use Rattle.problem_read.specs.declared.ties.TieTerm.{TieTerm}
use Rattle.problem_read.specs.Entries.{Tie}
use Rattle.constrained_mesh.specs.declared.fault.ConstraintFault.{ConstraintFault}
use Rattle.constrained_mesh.specs.declared.fault.ConstraintFault.TheVariants.{UnknownNode, Twice, NoMemory}
use Rattle.constrained_mesh.specs.Faults.{fault_of}
use Rattle.constrained_mesh.specs.MeshLines.{Table}
use Rattle.constrained_mesh.specs.Nodes.{dof_of_id}
use Rattle.constrained_mesh.specs.Ties.{DofOf, dof_named, term_named, terms_named, with_tie, with_ties}
use Rattle.constrained_mesh.specs.Constrained.{Answer, answer_of, ClosesOrFails}
use Rattle.constrained_mesh.specs.Laws.{NeverForMemory}

-- the outcome is not that memory ran out
IsKnown : {X : Type 0} → Result X ConstraintFault → Type 0
IsKnown outcome = outcome ≡ Err NoMemory → ⊥

both_known : {A B : Type 0} (r : Result A ConstraintFault) (next : A → Result B ConstraintFault) → IsKnown r → ((value : A) → IsKnown (next value)) → IsKnown (r >>= next)
unfolding IsKnown
both_known (Ok value) next first more e = more value e
both_known (Err fault) next first more e = first (ap Err (let s : fault ≡ NoMemory = cc in s))

found_known : {A : Type 0} (value : A) → IsKnown (Ok value)
unfolding IsKnown
found_known value e = cc

id_known : (id : ℕ) (found : Option ℕ) → IsKnown (or_fault (UnknownNode id) found)
unfolding IsKnown
id_known id None e = cc
id_known id (Some dof) e = cc

dof_known : (dof_of : DofOf) (id : ℕ) → IsKnown (dof_named dof_of id)
unfolding dof_named
dof_known dof_of id = id_known id (dof_of id)

term_known : (dof_of : DofOf) (term : TieTerm) → IsKnown (term_named dof_of term)
unfolding term_named
term_known dof_of term = both_known (dof_named dof_of term.node) _ (dof_known dof_of term.node) (λ dof. found_known _)

terms_known : (dof_of : DofOf) (terms : List TieTerm) → IsKnown (terms_named dof_of terms)
unfolding terms_named
terms_known dof_of [] = found_known _
terms_known dof_of (term ∷ terms) = both_known (term_named dof_of term) _ (term_known dof_of term) (λ first. both_known (terms_named dof_of terms) _ (terms_known dof_of terms) (λ rest. found_known _))

free_known : (dof : ℕ) (b : Bool) → IsKnown (unless (Twice dof) b)
unfolding IsKnown
free_known dof true e = cc
free_known dof false e = cc

tie_known : (dof_of : DofOf) (table : Table) (tie : Tie) → IsKnown (with_tie dof_of table tie)
unfolding with_tie
tie_known dof_of table tie =
    both_known (dof_named dof_of tie.node) _ (dof_known dof_of tie.node) (λ dof. both_known (terms_named dof_of tie.terms) _ (terms_known dof_of tie.terms)
    (λ terms. both_known (unless (Twice dof) (not (is_some (lines_in table dof)))) _ (free_known dof (not (is_some (lines_in table dof)))) (λ free. found_known _)))

ties_known : (dof_of : DofOf) (table : Table) (ties : List Tie) → IsKnown (with_ties dof_of table ties)
unfolding with_ties
ties_known dof_of table [] = found_known _
ties_known dof_of table (tie ∷ ties) = both_known (with_tie dof_of table tie) _ (tie_known dof_of table tie) (λ next. ties_known dof_of next ties)

same_fault : (a b : ConstraintFault) → (let r : Answer = Err a in r) ≡ Err b → a ≡ b
same_fault a b e = cc

no_memory : (fault : CloseFault) → fault_of fault ≡ NoMemory → fault ≡ close.NoMemory
no_memory (close.Cycle dof) e = cc
no_memory (close.Weight dof) e = cc
no_memory (close.Terms dof) e = cc
no_memory close.NoMemory e = refl

closing_known : (lines : Lines) (closing : Result Lines CloseFault) → IsAnswer lines closing → (let r : Answer = Err NoMemory in r) ≡ answer_of closing → ⊥
closing_known lines (Ok closed) w e = cc
closing_known lines (Err fault) w e = w.1 (no_memory fault (sym (same_fault NoMemory (fault_of fault) e)))

outcome_known : (outcome : Result Table ConstraintFault) → IsKnown outcome → ClosesOrFails outcome (Err NoMemory) → ⊥
unfolding IsKnown
outcome_known (Ok table) known w = closing_known (lines_in table) w.closing w.is_answer w.answer_is
outcome_known (Err fault) known w = known (ap Err (sym (same_fault NoMemory fault w)))

pub never : NeverForMemory
never nodes problem w = outcome_known (with_ties (dof_of_id nodes) w.lines problem.ties) (ties_known (dof_of_id nodes) w.lines problem.ties) w.outcome
