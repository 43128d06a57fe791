-- The lines of constraints, one after another.
use Rattle.std.proofs.Common.{◌≡◌, ◌∙◌, sym, ap, refl, subst, ℕ, zero, suc, ◌+◌, ◌<◌, Bool, true, false, List, [], ◌∷◌, ◌++◌, length, take, drop, slice_index_or, slice_set, add-one, Ok, Err, arith}
use Rattle.std.specs.Prelude.{All, Some, None, IsSome, is_some, not, slice_get, ℤ}
use Rattle.std.specs.declared.option.Option.{Option}
use Rattle.std.specs.declared.result.Result.{Result}
use Rattle.std.specs.List.{AllByRecursion}
use Rattle.std.proofs.Math.Seq.{drop-cons}
use Rattle.std.proofs.lemmas.List.{take_more, take-append-drop}
use Rattle.std.proofs.lemmas.List.Elements.{recursion_from_All, All-from_recursion}
use Rattle.std.proofs.lemmas.Option.{get_or_from_slice_get}
use Rattle.fem_text.specs.Words.{◌>>=◌, or_fault, unless}
use Rattle.affine_constraints.specs.declared.term.Term.{Term}
use Rattle.affine_constraints.specs.Lines.{AffineLine, lines_in, IsTerm}
use Rattle.problem_read.specs.declared.ties.TieTerm.{TieTerm}
use Rattle.problem_read.specs.Entries.{Tie}
use Rattle.problem_read.specs.Limits.{IsLight}
use Rattle.constrained_mesh.specs.declared.fault.ConstraintFault.{ConstraintFault}
use Rattle.constrained_mesh.specs.declared.fault.ConstraintFault.TheVariants.{UnknownNode, Twice}
use Rattle.constrained_mesh.specs.MeshLines.{Table}
use Rattle.constrained_mesh.specs.Nodes.{AreDofsWithin}
use Rattle.constrained_mesh.specs.Ties.{DofOf, dof_named, term_named, terms_named, with_tie, with_ties}

-- the terms of two lists
joined : (p : Result Term ConstraintFault) (q r : Result (List Term) ConstraintFault) →
    (p >>= (λ first. (q >>= (λ a. r >>= (λ b. Ok (a ++ b)))) >>= (λ rest. Ok (first ∷ rest)))) ≡ ((p >>= (λ first. q >>= (λ rest. Ok (first ∷ rest)))) >>= (λ a. r >>= (λ b. Ok (a ++ b))))
joined (Err fault) q r = refl
joined (Ok first) (Err fault) r = refl
joined (Ok first) (Ok a) (Err fault) = refl
joined (Ok first) (Ok a) (Ok b) = refl

alone : (r : Result (List Term) ConstraintFault) → r ≡ (r >>= (λ b. Ok b))
alone (Ok b) = refl
alone (Err fault) = refl

terms-append : (dof_of : DofOf) (xs ys : List TieTerm) → terms_named dof_of (xs ++ ys) ≡ (terms_named dof_of xs >>= (λ a. terms_named dof_of ys >>= (λ b. Ok (a ++ b))))
unfolding terms_named
terms-append dof_of [] ys = alone (terms_named dof_of ys)
terms-append dof_of (x ∷ xs) ys =
    ap (λ r. term_named dof_of x >>= (λ first. r >>= (λ rest. Ok (first ∷ rest)))) (terms-append dof_of xs ys) ∙ joined (term_named dof_of x) (terms_named dof_of xs) (terms_named dof_of ys)

terms_one : (dof_of : DofOf) (x : TieTerm) (t : Term) → term_named dof_of x ≡ Ok t → terms_named dof_of (x ∷ []) ≡ Ok (t ∷ [])
unfolding terms_named
terms_one dof_of x t e = rw e refl

terms_stop : (dof_of : DofOf) (x : TieTerm) (xs : List TieTerm) (fault : ConstraintFault) → term_named dof_of x ≡ Err fault → terms_named dof_of (x ∷ xs) ≡ Err fault
unfolding terms_named
terms_stop dof_of x xs fault e = rw e refl

pub no_terms : (dof_of : DofOf) → terms_named dof_of [] ≡ Ok []
unfolding terms_named
no_terms dof_of = refl

pub term_more : (dof_of : DofOf) (xs : List TieTerm) (k : ℕ) (x : TieTerm) (ts : List Term) (t : Term) → k < length xs → slice_index_or xs k x ≡ x → terms_named dof_of (take k xs) ≡ Ok ts → term_named dof_of x ≡ Ok t →
    terms_named dof_of (take (k + 1) xs) ≡ Ok (ts ++ t ∷ [])
term_more dof_of xs k x ts t h at first e =
    ap (terms_named dof_of) (take_more xs k x h ∙ ap (λ y. take k xs ++ y ∷ []) at) ∙ terms-append dof_of (take k xs) (x ∷ [])
    ∙ ap (λ r. r >>= (λ a. terms_named dof_of (x ∷ []) >>= (λ b. Ok (a ++ b)))) first ∙ ap (λ r. r >>= (λ b. Ok (ts ++ b))) (terms_one dof_of x t e)

pub term_fault : (dof_of : DofOf) (xs : List TieTerm) (k : ℕ) (x : TieTerm) (ts : List Term) (fault : ConstraintFault) → k < length xs → slice_index_or xs k x ≡ x → terms_named dof_of (take k xs) ≡ Ok ts → term_named dof_of x ≡ Err fault →
    terms_named dof_of xs ≡ Err fault
term_fault dof_of xs k x ts fault h at first e =
    let parts : xs ≡ take k xs ++ x ∷ drop (k + 1) xs =
    sym (ap (λ ys. take k xs ++ ys) (ap (λ y. y ∷ drop (k + 1) xs) (sym at) ∙ rw add-one (sym (drop-cons xs k x h))) ∙ take-append-drop k xs) in
    ap (terms_named dof_of) parts ∙ terms-append dof_of (take k xs) (x ∷ drop (k + 1) xs)
    ∙ ap (λ r. r >>= (λ a. terms_named dof_of (x ∷ drop (k + 1) xs) >>= (λ b. Ok (a ++ b)))) first ∙ ap (λ r. r >>= (λ b. Ok (ts ++ b))) (terms_stop dof_of x (drop (k + 1) xs) fault e)

-- a term within the limits of a line
term_within : (dof_of : DofOf) (size : ℕ) → AreDofsWithin dof_of size → (x : TieTerm) (t : Term) → term_named dof_of x ≡ Ok t → IsLight x → IsTerm size t
unfolding term_named dof_named
term_within dof_of size w x t e light = by (dof_of x.node) refl e
  where
    by : (d : Option ℕ) → dof_of x.node ≡ d → (or_fault (UnknownNode x.node) d >>= (λ dof. let r : Result Term ConstraintFault = Ok (record { dof = dof; weight = x.weight }) in r)) ≡ Ok t → IsTerm size t
    by None at e = absurd cc
    by (Some dof) at e =
        let is : record { dof = dof; weight = x.weight } ≡ t = cc in
        subst (IsTerm size) is (record { dof = w x.node dof at; weight = light })

abbrev pub AreWithin : ℕ → List TieTerm → List Term → Type 0
AreWithin size xs ts = AllByRecursion (IsTerm size) ts × (length ts ≡ length xs)

same_list : (a b : List Term) → (let r : Result (List Term) ConstraintFault = Ok a in r) ≡ Ok b → a ≡ b
same_list a b e = cc

within_more : (dof_of : DofOf) (size : ℕ) → AreDofsWithin dof_of size → (x : TieTerm) (xs : List TieTerm) (ts : List Term) (p : Result Term ConstraintFault) (q : Result (List Term) ConstraintFault) → term_named dof_of x ≡ p →
    ((rest : List Term) → q ≡ Ok rest → AreWithin size xs rest) → IsLight x → (p >>= (λ first. q >>= (λ rest. Ok (first ∷ rest)))) ≡ Ok ts → AreWithin size (x ∷ xs) ts
within_more dof_of size w x xs ts (Err fault) q at more light e = absurd cc
within_more dof_of size w x xs ts (Ok first) (Err fault) at more light e = absurd cc
within_more dof_of size w x xs ts (Ok first) (Ok rest) at more light e =
    let m = more rest refl in
    let P : List Term → Type 0 = AreWithin size (x ∷ xs) in
    subst P (same_list (first ∷ rest) ts e) ((term_within dof_of size w x first at light, m.0), ap suc m.1)

within_by : (dof_of : DofOf) (size : ℕ) → AreDofsWithin dof_of size → (xs : List TieTerm) (ts : List Term) → terms_named dof_of xs ≡ Ok ts → AllByRecursion IsLight xs → AreWithin size xs ts
unfolding terms_named
within_by dof_of size w [] ts e light = (let P : List Term → Type 0 = AreWithin size [] in subst P (same_list [] ts e) (tt, refl))
within_by dof_of size w (x ∷ xs) ts e light =
    within_more dof_of size w x xs ts (term_named dof_of x) (terms_named dof_of xs) refl (λ rest there. within_by dof_of size w xs rest there light.1) light.0 e

pub terms_within : (dof_of : DofOf) (size : ℕ) → AreDofsWithin dof_of size → (xs : List TieTerm) (ts : List Term) → terms_named dof_of xs ≡ Ok ts → All IsLight xs → All (IsTerm size) ts × (length ts ≡ length xs)
terms_within dof_of size w xs ts e light =
    let r = within_by dof_of size w xs ts e (recursion_from_All IsLight xs light) in (All-from_recursion (IsTerm size) ts r.0, r.1)

pub dof_within : (dof_of : DofOf) (size : ℕ) → AreDofsWithin dof_of size → (id dof : ℕ) → dof_named dof_of id ≡ Ok dof → dof < size
unfolding dof_named
dof_within dof_of size w id dof e = by (dof_of id) refl e
  where
    by : (d : Option ℕ) → dof_of id ≡ d → or_fault (UnknownNode id) d ≡ Ok dof → dof < size
    by None at e = absurd cc
    by (Some other) at e = let is : other ≡ dof = cc in let b = w id other at in omega arith

abbrev pub tie_of : ℕ → List TieTerm → ℤ → Tie
tie_of node terms constant = record { node = node; terms = terms; constant = constant }

abbrev pub line_of : List Term → ℤ → AffineLine
line_of terms constant = record { terms = terms; constant = constant }

pub tie_added : (dof_of : DofOf) (table : Table) (node : ℕ) (terms : List TieTerm) (constant : ℤ) (dof : ℕ) (ts : List Term) → dof_named dof_of node ≡ Ok dof → terms_named dof_of terms ≡ Ok ts → lines_in table dof ≡ None →
    with_tie dof_of table (tie_of node terms constant) ≡ Ok (slice_set table dof (Some (line_of ts constant)))
unfolding with_tie
tie_added dof_of table node terms constant dof ts left right free = rw (left, right, free) refl

pub tie_unknown : (dof_of : DofOf) (table : Table) (node : ℕ) (terms : List TieTerm) (constant : ℤ) (fault : ConstraintFault) → dof_named dof_of node ≡ Err fault → with_tie dof_of table (tie_of node terms constant) ≡ Err fault
unfolding with_tie
tie_unknown dof_of table node terms constant fault left = rw left refl

pub tie_term_unknown : (dof_of : DofOf) (table : Table) (node : ℕ) (terms : List TieTerm) (constant : ℤ) (dof : ℕ) (fault : ConstraintFault) → dof_named dof_of node ≡ Ok dof → terms_named dof_of terms ≡ Err fault →
    with_tie dof_of table (tie_of node terms constant) ≡ Err fault
unfolding with_tie
tie_term_unknown dof_of table node terms constant dof fault left right = rw (left, right) refl

pub tie_twice : (dof_of : DofOf) (table : Table) (node : ℕ) (terms : List TieTerm) (constant : ℤ) (dof : ℕ) (ts : List Term) → dof_named dof_of node ≡ Ok dof → terms_named dof_of terms ≡ Ok ts → IsSome (lines_in table dof) →
    with_tie dof_of table (tie_of node terms constant) ≡ Err (Twice dof)
unfolding with_tie
tie_twice dof_of table node terms constant dof ts left right taken = rw (left, right) (refused (is_some (lines_in table dof)) taken)
  where
    refused : (b : Bool) → b ≡ true → (unless (Twice dof) (not b) >>= (λ free. let r : Result Table ConstraintFault = Ok (slice_set table dof (Some (line_of ts constant))) in r)) ≡ Err (Twice dof)
    refused true e = refl
    refused false e = absurd cc

-- the lines of two lists of constraints
ties_joined : (dof_of : DofOf) (xs ys : List Tie) → ((next : Table) → with_ties dof_of next (xs ++ ys) ≡ (with_ties dof_of next xs >>= (λ last. with_ties dof_of last ys))) → (r : Result Table ConstraintFault) →
    (r >>= (λ next. with_ties dof_of next (xs ++ ys))) ≡ ((r >>= (λ next. with_ties dof_of next xs)) >>= (λ last. with_ties dof_of last ys))
ties_joined dof_of xs ys more (Ok next) = more next
ties_joined dof_of xs ys more (Err fault) = refl

ties-append : (dof_of : DofOf) (table : Table) (xs ys : List Tie) → with_ties dof_of table (xs ++ ys) ≡ (with_ties dof_of table xs >>= (λ last. with_ties dof_of last ys))
unfolding with_ties
ties-append dof_of table [] ys = refl
ties-append dof_of table (x ∷ xs) ys = ties_joined dof_of xs ys (λ next. ties-append dof_of next xs ys) (with_tie dof_of table x)

ties_one : (dof_of : DofOf) (table new : Table) (x : Tie) → with_tie dof_of table x ≡ Ok new → with_ties dof_of table (x ∷ []) ≡ Ok new
unfolding with_ties
ties_one dof_of table new x e = rw e refl

ties_stop : (dof_of : DofOf) (table : Table) (x : Tie) (xs : List Tie) (fault : ConstraintFault) → with_tie dof_of table x ≡ Err fault → with_ties dof_of table (x ∷ xs) ≡ Err fault
unfolding with_ties
ties_stop dof_of table x xs fault e = rw e refl

pub no_ties : (dof_of : DofOf) (table : Table) → with_ties dof_of table [] ≡ Ok table
unfolding with_ties
no_ties dof_of table = refl

there : (ties : List Tie) (k : ℕ) (x : Tie) → slice_get ties k ≡ Some x → k < length ties
there [] k x e = absurd cc
there (y ∷ ties) zero x e = omega arith
there (y ∷ ties) (suc k) x e = let h = there ties k x e in omega arith

pub tie_more : (dof_of : DofOf) (first table new : Table) (ties : List Tie) (k : ℕ) (x : Tie) → slice_get ties k ≡ Some x → with_ties dof_of first (take k ties) ≡ Ok table → with_tie dof_of table x ≡ Ok new →
    with_ties dof_of first (take (k + 1) ties) ≡ Ok new
tie_more dof_of first table new ties k x at so_far e =
    ap (with_ties dof_of first) (take_more ties k x (there ties k x at) ∙ ap (λ y. take k ties ++ y ∷ []) (get_or_from_slice_get ties k x x at)) ∙ ties-append dof_of first (take k ties) (x ∷ [])
    ∙ ap (λ r. r >>= (λ next. with_ties dof_of next (x ∷ []))) so_far ∙ ties_one dof_of table new x e

pub tie_fault : (dof_of : DofOf) (first table : Table) (ties : List Tie) (k : ℕ) (x : Tie) (fault : ConstraintFault) → slice_get ties k ≡ Some x → with_ties dof_of first (take k ties) ≡ Ok table → with_tie dof_of table x ≡ Err fault →
    with_ties dof_of first ties ≡ Err fault
tie_fault dof_of first table ties k x fault at so_far e =
    let parts : ties ≡ take k ties ++ x ∷ drop (k + 1) ties =
    sym (ap (λ ys. take k ties ++ ys) (ap (λ y. y ∷ drop (k + 1) ties) (sym (get_or_from_slice_get ties k x x at)) ∙ rw add-one (sym (drop-cons ties k x (there ties k x at)))) ∙ take-append-drop k ties) in
    ap (with_ties dof_of first) parts ∙ ties-append dof_of first (take k ties) (x ∷ drop (k + 1) ties)
    ∙ ap (λ r. r >>= (λ next. with_ties dof_of next (x ∷ drop (k + 1) ties))) so_far ∙ ties_stop dof_of table x (drop (k + 1) ties) fault e
