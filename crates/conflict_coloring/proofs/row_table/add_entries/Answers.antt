use Rattle.std.proofs.Common.{◌∙◌, ◌++◌, ◌∷◌, [], ℕ, List, ap, sym, map, take, slice_index, append_assoc}
use Rattle.std.proofs.lemmas.List.{map-append, take_more}
use Rattle.conflict_coloring.proofs.row_table.add_entries.Goals as goal

pub loop-row-preserved : goal.loop-row-preserved
loop-row-preserved c =
    let f : ℕ → ℕ = λ r. c.args.cell in
    let more : List ℕ = c.args.more.now in
    let i : ℕ = c.loop-row._row-index in
    c.in_ok-push.ensures.items ∙ ap (λ xs. xs ++ c.args.cell ∷ []) c.loop-row.invariant ∙ append_assoc c.args.owners.now.items (map f (take i more)) (c.args.cell ∷ [])
    ∙ ap (λ xs. c.args.owners.now.items ++ xs) (sym (ap (map f) (take_more more i 0 c.loop-row-test.true) ∙ map-append f (take i more) (slice_index more i ∷ [])))
