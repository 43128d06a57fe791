use Rattle.std.proofs.Common.{◌≡◌, ◌-◌, ◌*◌, ◌++◌, ◌∷◌, [], ◌∙◌, min, ap₂, sym, List, ℕ, arith}
use Rattle.sparsity.specs.Coupled.{row_of}
use Rattle.sparsity.proofs.Piecing.{row_more, piece_done}
use Rattle.sparsity.proofs.pieces.one_piece.Goals as goal

pub loop-i-preserved : goal.loop-i-preserved
loop-i-preserved c =
    c.in_ok-push.ensures.ok
    ∙ ap₂ (λ (rows : List (List ℕ)) (row : List ℕ). rows ++ row ∷ []) c.loop-i.invariant (c.deref.ensures.value ∙ c.in_ok-gather_row.ensures)
    ∙ sym (row_more (row_of c.args.size c.args.lists.now) c.ends_of_piece-first.result.0 c.loop-i.i c.loop-i.auto.i)

pub returns : goal.returns
returns c =
    let n : c.loop-i.i - c.ends_of_piece-first.result.0 ≡ min 1024 (c.args.size - c.args.p * 1024) =
    omega (arith, c.loop-i-test.false, c.loop-i.auto.i-end, c.ends_of_piece-first.ensures.first, c.ends_of_piece-first.ensures.length) in
    c.loop-i.invariant
    ∙ piece_done c.args.size c.args.lists.now c.args.p c.ends_of_piece-first.result.0 (c.loop-i.i - c.ends_of_piece-first.result.0) c.ends_of_piece-first.ensures.first n
