use Rattle.std.proofs.Common.{◌≡◌, ◌∙◌, ℕ, List, sym, ap, length, arith, subst}
use Rattle.conflict_coloring.specs.Conflict.{rows_of}
use Rattle.conflict_coloring.specs.Cut.{piece, AreEnds}
use Rattle.conflict_coloring.proofs.Cuts.{length-cut, rows_cut}
use Rattle.conflict_coloring.proofs.conflicts.Conflicts.rows.Goals as goal

pub list_at-requires-clause-within : goal.list_at-requires-clause-within
list_at-requires-clause-within c =
    let n : length c.deref.result.now ≡ length c.args.self.now = ap length c.deref.ensures.value ∙ sym (length-cut c.self.inside.ends.items c.self.inside.rows.items) ∙ ap length c.self.view_is in
    omega arith

pub list_at-requires-clause-ends : goal.list_at-requires-clause-ends
list_at-requires-clause-ends c =
    let P : List ℕ → Type 0 = λ xs. AreEnds xs (length c.deref-2.result.now) in
    let Q : List ℕ → Type 0 = λ xs. AreEnds c.self.inside.ends.items (length xs) in
    subst P (sym c.deref.ensures.value) (subst Q (sym c.deref-2.ensures.value) c.self.invariant.ends_are)

pub returns : goal.returns
returns c =
    let n : length c.self.inside.ends.items ≡ length c.args.self.now = sym (length-cut c.self.inside.ends.items c.self.inside.rows.items) ∙ ap length c.self.view_is in
    c.list_at.ensures ∙ ap (λ xs. piece xs c.deref-2.result.now c.args.cell) c.deref.ensures.value ∙ ap (λ xs. piece c.self.inside.ends.items xs c.args.cell) c.deref-2.ensures.value
    ∙ sym (rows_cut c.self.inside.ends.items c.self.inside.rows.items c.args.cell (omega arith))
    ∙ ap (λ cs. rows_of cs c.args.cell) c.self.view_is
