-- A set of lines has one answer.
use Rattle.std.proofs.Common.{◌≡◌, ◌≢◌, ◌∙◌, sym, ap, ap₂, refl, subst, ℕ, zero, suc, ◌+◌, ◌<◌, ◌≤◌, List, length, set, replicate, Bool, true, false, arith, inl, inr, ◌==◌}
use Rattle.std.specs.Prelude.{Some, None, Ok, Err, IsSome, is_some, option_map, MatchOption}
use Rattle.std.specs.declared.option.Option.{Option}
use Rattle.std.specs.declared.result.Result.{Result}
use Rattle.std.proofs.lemmas.Bool.{cases_Bool, cases_lt, eqb-true, eqb-false, both_ways}
use Rattle.std.proofs.lemmas.List.{length-set, length-replicate, get_or-set_other, get_or_past}
use mathlib.Core.Path.{fun_ext}
use Rattle.affine_constraints.specs.declared.fault.CloseFault.{CloseFault}
use Rattle.affine_constraints.specs.declared.fault.CloseFault.TheVariants.{Cycle, Weight, Terms, NoMemory}
use Rattle.affine_constraints.specs.Lines.{AffineLine, Lines, lines_in, Names, Reaches, HaveNoCycle}
use Rattle.affine_constraints.specs.Lines.Reaches.{once}
use Rattle.affine_constraints.specs.Closing.{AreClosed, AreClosedInRange, AreOutside, IsOutside, IsClosedLine, HaveFault, is_in_range, fault_of}
use Rattle.affine_constraints.specs.Forming.{formed, AreFormed}
use Rattle.affine_constraints.specs.Reach.{seen_at, unseen}
use Rattle.affine_constraints.specs.Laws.{IsAnswer, AreClosable}
use Rattle.affine_constraints.proofs.Naming.{names, names_some, reach_then, term_in}
use Rattle.affine_constraints.proofs.ReachLaws.{unseen_set, unseen_none, seen_none}
use Rattle.affine_constraints.proofs.FormLaws.{LeavesOnly, each_formed, formed_is}
use Rattle.affine_constraints.proofs.ClosedLaws.{by_option, each_place, each_term, formed_same, closed_after, free_after, formed_from_closed, leaves_itself, formed_rising}

-- a dof with a line has a place in the table
pub has_place : (table : List (Option AffineLine)) (dof : ℕ) → IsSome (lines_in table dof) → dof < length table
has_place table dof some = elim (cases_lt dof (length table)) [
  | inl below ↦ below
  | inr past ↦ absurd (let e : false ≡ true = sym (ap is_some (get_or_past table dof None past)) ∙ some in cc)
]

-- the marked dofs all reach this one, and this one reaches what it names
marked_reach : (lines : Lines) (seen : List Bool) (dof named : ℕ) → ((other : ℕ) → seen_at seen other ≡ true → Reaches lines other dof) → Names lines dof named →
    (other : ℕ) → seen_at (set seen dof true) other ≡ true → Reaches lines other named
marked_reach lines seen dof named all name other marked = elim (cases_Bool (other == dof)) [
  | inl e ↦ subst (λ (d : ℕ). Reaches lines d named) (sym (eqb-true other dof e)) (once dof named name)
  | inr e ↦ reach_then lines other dof named (all other (sym (get_or-set_other seen dof other true false (eqb-false other dof e)) ∙ marked)) name
]

-- a dof that isn't reached by itself is not marked yet, and so one mark fewer is left
fewer_left : (lines : Lines) (seen : List Bool) (dof n : ℕ) → HaveNoCycle lines → ((other : ℕ) → seen_at seen other ≡ true → Reaches lines other dof) → dof < length seen → unseen seen ≤ n →
    unseen (set seen dof true) + 1 ≤ n
fewer_left lines seen dof n none all below left = elim (cases_Bool (seen_at seen dof)) [
  | inl marked ↦ absurd (none dof (all dof marked))
  | inr free ↦ (let e = unseen_set seen dof below free in omega arith)
]

-- induction along the lines, where no dof names itself
along_from : (table : List (Option AffineLine)) (P : ℕ → Type 0) → HaveNoCycle (lines_in table) → ((dof : ℕ) → ((named : ℕ) → Names (lines_in table) dof named → P named) → P dof) →
    (n : ℕ) (seen : List Bool) (dof : ℕ) → length seen ≡ length table → unseen seen ≤ n → ((other : ℕ) → seen_at seen other ≡ true → Reaches (lines_in table) other dof) → P dof
along_from table P none step zero seen dof size left all = step dof (λ named name.
    (let below : dof < length seen = (let place = has_place table dof (names_some (lines_in table) dof named name) in omega arith) in
    let fewer = fewer_left (lines_in table) seen dof 0 none all below left in absurd (omega arith)))
along_from table P none step (suc n) seen dof size left all = step dof (λ named name.
    (let below : dof < length seen = (let place = has_place table dof (names_some (lines_in table) dof named name) in omega arith) in
    let fewer = fewer_left (lines_in table) seen dof (suc n) none all below left in
    along_from table P none step n (set seen dof true) named (length-set seen dof true ∙ size) (omega arith) (marked_reach (lines_in table) seen dof named all name)))

pub along : (table : List (Option AffineLine)) (P : ℕ → Type 0) → HaveNoCycle (lines_in table) → ((dof : ℕ) → ((named : ℕ) → Names (lines_in table) dof named → P named) → P dof) → (dof : ℕ) → P dof
along table P none step dof =
    along_from table P none step (length table) (replicate (length table) false) dof (length-replicate (length table) false) (let e = unseen_none (length table) in omega arith)
    (λ other marked. absurd (both_ways (seen_at (replicate (length table) false) other) (seen_none (length table) other) marked))

-- two closings of the same lines are the same
pub one_closing : (table : List (Option AffineLine)) (a b : Lines) → HaveNoCycle (lines_in table) → AreFormed (lines_in table) a → AreFormed (lines_in table) b → (dof : ℕ) → a dof ≡ b dof
one_closing table a b none are_a are_b = along table (λ dof. a dof ≡ b dof) none (λ dof before. elim (by_option (lines_in table dof)) [
  | inl free ↦ are_a dof ∙ ap (option_map (formed a)) free ∙ sym (are_b dof ∙ ap (option_map (formed b)) free)
  | inr some ↦ are_a dof ∙ ap (option_map (formed a)) some.1
      ∙ ap (λ (l : AffineLine). Some l) (formed_same a b some.0 (each_place (λ t. a t.dof ≡ b t.dof) some.0.terms (λ p h. before (term_in some.0.terms p).dof (names (lines_in table) dof p some.0 some.1 h))))
      ∙ sym (are_b dof ∙ ap (option_map (formed b)) some.1)
])

-- after as many rounds as there are dofs nothing changes any more
still_from : (table : List (Option AffineLine)) (n : ℕ) (seen : List Bool) (dof a b : ℕ) → HaveNoCycle (lines_in table) → length seen ≡ length table → unseen seen ≤ n →
    ((other : ℕ) → seen_at seen other ≡ true → Reaches (lines_in table) other dof) → n < a → n < b → closed_after (lines_in table) a dof ≡ closed_after (lines_in table) b dof
unfolding closed_after
still_from table zero seen dof a b none size left all ha hb = elim (by_option (lines_in table dof)) [
  | inl free ↦ free_after (lines_in table) a dof free ∙ sym (free_after (lines_in table) b dof free)
  | inr some ↦ absurd (let place = has_place table dof (ap is_some some.1) in let fewer = fewer_left (lines_in table) seen dof 0 none all (omega arith) left in omega arith)
]
still_from table (suc n) seen dof zero b none size left all ha hb = absurd (omega arith)
still_from table (suc n) seen dof (suc a) zero none size left all ha hb = absurd (omega arith)
still_from table (suc n) seen dof (suc a) (suc b) none size left all ha hb = elim (by_option (lines_in table dof)) [
  | inl free ↦ ap (option_map (formed (closed_after (lines_in table) a))) free ∙ sym (ap (option_map (formed (closed_after (lines_in table) b))) free)
  | inr some ↦ (let place = has_place table dof (ap is_some some.1) in
      let fewer = fewer_left (lines_in table) seen dof (suc n) none all (omega arith) left in
      let same : formed (closed_after (lines_in table) a) some.0 ≡ formed (closed_after (lines_in table) b) some.0 =
      formed_same (closed_after (lines_in table) a) (closed_after (lines_in table) b) some.0 (each_place (λ t. closed_after (lines_in table) a t.dof ≡ closed_after (lines_in table) b t.dof) some.0.terms (λ p h.
      still_from table n (set seen dof true) (term_in some.0.terms p).dof a b none (length-set seen dof true ∙ size) (omega arith)
      (marked_reach (lines_in table) seen dof (term_in some.0.terms p).dof all (names (lines_in table) dof p some.0 some.1 h)) (omega arith) (omega arith))) in
      ap (option_map (formed (closed_after (lines_in table) a))) some.1 ∙ ap (λ (l : AffineLine). Some l) same ∙ sym (ap (option_map (formed (closed_after (lines_in table) b))) some.1))
]

all_formed : (table : List (Option AffineLine)) → HaveNoCycle (lines_in table) → AreFormed (lines_in table) (closed_after (lines_in table) (suc (length table)))
unfolding closed_after
all_formed table none dof =
    still_from table (length table) (replicate (length table) false) dof (suc (length table)) (suc (suc (length table))) none (length-replicate (length table) false) (let e = unseen_none (length table) in omega arith)
    (λ other marked. absurd (both_ways (seen_at (replicate (length table) false) other) (seen_none (length table) other) marked)) (omega arith) (omega arith)

all_leave : (table : List (Option AffineLine)) (closed : Lines) → HaveNoCycle (lines_in table) → AreFormed (lines_in table) closed → (dof : ℕ) → LeavesOnly (λ d. closed d ≡ None) dof (closed dof)
all_leave table closed none are = along table (λ dof. LeavesOnly (λ d. closed d ≡ None) dof (closed dof)) none (λ dof before. elim (by_option (lines_in table dof)) [
  | inl free ↦ leaves_itself (lines_in table) closed dof are free
  | inr some ↦ subst (λ (o : Option AffineLine). LeavesOnly (λ d. closed d ≡ None) dof o) (sym (are dof ∙ ap (option_map (formed closed)) some.1))
      (each_formed (λ d. closed d ≡ None) closed some.0 (each_place (λ t. LeavesOnly (λ d. closed d ≡ None) t.dof (closed t.dof)) some.0.terms (λ p h.
      before (term_in some.0.terms p).dof (names (lines_in table) dof p some.0 some.1 h))))
])

closing_by : (table : List (Option AffineLine)) (closed : Lines) → HaveNoCycle (lines_in table) → AreFormed (lines_in table) closed → (dof : ℕ) (o : Option AffineLine) → lines_in table dof ≡ o →
    MatchOption o (closed dof ≡ None) (λ line. (result : AffineLine) × (closed dof ≡ Some result) × IsClosedLine closed line result)
closing_by table closed none are dof None is = are dof ∙ ap (option_map (formed closed)) is
closing_by table closed none are dof (Some line) is = (
  formed closed line,
  are dof ∙ ap (option_map (formed closed)) is,
  formed_is closed line (formed_rising (lines_in table) closed are) (each_term (λ t. LeavesOnly (λ d. closed d ≡ None) t.dof (closed t.dof)) line.terms (λ t. all_leave table closed none are t.dof)),
)

pub can_be_closed : (table : List (Option AffineLine)) → HaveNoCycle (lines_in table) → AreClosable (lines_in table)
can_be_closed table none =
    let are = all_formed table none in
    record {
      closed = closed_after (lines_in table) (suc (length table));
      are_closed = λ dof. closing_by table (closed_after (lines_in table) (suc (length table))) none are dof (lines_in table dof) refl;
      only = λ other is. fun_ext (λ dof. one_closing table other (closed_after (lines_in table) (suc (length table))) none (formed_from_closed (lines_in table) other is) are dof);
    }

-- ---- one answer

same_closed : (table : List (Option AffineLine)) (a b : Lines) → HaveNoCycle (lines_in table) → AreClosed (lines_in table) a → AreClosed (lines_in table) b → a ≡ b
same_closed table a b none is_a is_b = fun_ext (λ dof. one_closing table a b none (formed_from_closed (lines_in table) a is_a) (formed_from_closed (lines_in table) b is_b) dof)

least_same : (m n : ℕ) → m ≤ n → n ≤ m → m ≡ n
least_same m n a b = omega arith

outside_same : (table : List (Option AffineLine)) (f g : CloseFault) → AreOutside (lines_in table) f → AreOutside (lines_in table) g → f ≡ g
outside_same table f g a b =
    let same : a.closed ≡ b.closed = same_closed table a.closed b.closed a.no_cycle a.are_closed b.are_closed in
    let there : IsOutside (lines_in table) b.closed a.dof = subst (λ (c : Lines). IsOutside (lines_in table) c a.dof) same a.outside in
    let here : IsOutside (lines_in table) a.closed b.dof = subst (λ (c : Lines). IsOutside (lines_in table) c b.dof) (sym same) b.outside in
    let dof : a.dof ≡ b.dof = least_same a.dof b.dof (a.least b.dof here) (b.least a.dof there) in
    a.is_fault ∙ ap₂ (λ (c : Lines) (d : ℕ). fault_of (c d) d) same dof ∙ sym b.is_fault

closed_or_outside : (table : List (Option AffineLine)) (closed : Lines) (f : CloseFault) → AreClosedInRange (lines_in table) closed → AreOutside (lines_in table) f → ⊥
closed_or_outside table closed f a b =
    let same : b.closed ≡ closed = same_closed table b.closed closed a.no_cycle b.are_closed a.are_closed in
    both_ways (is_in_range (b.closed b.dof)) b.outside.outside (ap (λ (c : Lines). is_in_range (c b.dof)) same ∙ a.in_range b.dof)

closed_or_fault : (table : List (Option AffineLine)) (closed : Lines) (f : CloseFault) → AreClosedInRange (lines_in table) closed → HaveFault (lines_in table) f → f ≢ NoMemory → ⊥
closed_or_fault table closed (Cycle dof) a b c = a.no_cycle dof b.cycle
closed_or_fault table closed (Weight dof) a b c = closed_or_outside table closed (Weight dof) a b
closed_or_fault table closed (Terms dof) a b c = closed_or_outside table closed (Terms dof) a b
closed_or_fault table closed NoMemory a b c = c refl

one_fault : (table : List (Option AffineLine)) (f g : CloseFault) → HaveFault (lines_in table) f → HaveFault (lines_in table) g → f ≢ NoMemory → g ≢ NoMemory → f ≡ g
one_fault table (Cycle d) (Cycle e) a b f g = ap (λ x. Cycle x) (least_same d e (a.least e b.cycle) (b.least d a.cycle))
one_fault table (Cycle d) (Weight e) a b f g = absurd (b.no_cycle d a.cycle)
one_fault table (Cycle d) (Terms e) a b f g = absurd (b.no_cycle d a.cycle)
one_fault table (Cycle d) NoMemory a b f g = absurd (g refl)
one_fault table (Weight d) (Cycle e) a b f g = absurd (a.no_cycle e b.cycle)
one_fault table (Weight d) (Weight e) a b f g = outside_same table (Weight d) (Weight e) a b
one_fault table (Weight d) (Terms e) a b f g = outside_same table (Weight d) (Terms e) a b
one_fault table (Weight d) NoMemory a b f g = absurd (g refl)
one_fault table (Terms d) (Cycle e) a b f g = absurd (a.no_cycle e b.cycle)
one_fault table (Terms d) (Weight e) a b f g = outside_same table (Terms d) (Weight e) a b
one_fault table (Terms d) (Terms e) a b f g = outside_same table (Terms d) (Terms e) a b
one_fault table (Terms d) NoMemory a b f g = absurd (g refl)
one_fault table NoMemory g a b f h = absurd (f refl)

pub one_answer : (table : List (Option AffineLine)) (a b : Result Lines CloseFault) → IsAnswer (lines_in table) a → IsAnswer (lines_in table) b → a ≡ b
one_answer table (Ok a) (Ok b) is_a is_b = ap (λ (c : Lines). Ok c) (same_closed table a b is_a.no_cycle is_a.are_closed is_b.are_closed)
one_answer table (Ok a) (Err g) is_a is_b = absurd (closed_or_fault table a g is_a is_b.0 is_b.1)
one_answer table (Err f) (Ok b) is_a is_b = absurd (closed_or_fault table b f is_b is_a.0 is_a.1)
one_answer table (Err f) (Err g) is_a is_b = ap (λ (c : CloseFault). Err c) (one_fault table f g is_a.0 is_b.0 is_a.1 is_b.1)
