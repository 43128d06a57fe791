use Rattle.std.proofs.Common.{◌∙◌, ap, sym, ℕ, List, ◌++◌, ◌∷◌, [], map, arith}
use Rattle.std.specs.List.{range_with_len}
use Rattle.std.proofs.lemmas.List.FromFn.{map-range_with_len_more}
use Rattle.cell_blocks.specs.Blocks.{cell_subdomain}
use Rattle.mesh_loop.specs.Parts.{shown}
use Rattle.mesh_loop.proofs.visited.subdomains_by_cell.Goals as goal

pub loop-cell-preserved : goal.loop-cell-preserved
loop-cell-preserved c =
    let f : ℕ → ℕ = cell_subdomain (shown c.args.source.now).given in
    c.in_ok-push.ensures.items
    ∙ ap (λ (xs : List ℕ). xs ++ c.subdomain_of-subdomain.result ∷ []) c.loop-cell.invariant
    ∙ ap (λ (x : ℕ). map f (range_with_len 0 c.loop-cell.cell) ++ x ∷ []) c.subdomain_of-subdomain.ensures
    ∙ sym (map-range_with_len_more f 0 c.loop-cell.cell c.loop-cell.cell (omega arith))
