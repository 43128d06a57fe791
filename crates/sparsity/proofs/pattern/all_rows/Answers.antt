use Rattle.std.proofs.Common.{◌≡◌, ◌∙◌, ap, subst, List, ℕ}
use Rattle.std.specs.Prelude.{IfOk}
use Rattle.std.specs.List.{flat_map}
use Rattle.sparsity.proofs.Piecing.{joined_rows}
use Rattle.sparsity.proofs.pattern.all_rows.Goals as goal

pub returns : goal.returns
returns g c =
    let all = ap (flat_map (λ (piece : List (List ℕ)). piece)) c.deref.ensures.value ∙ joined_rows c.args.size c.args.lists.now c.in_ok-pieces.pieces.items c.in_ok-pieces.ensures in
    let Joined : List (List ℕ) → Type 0 = λ xs. IfOk c.joined.result (λ rows. rows ≡ xs) in
    subst Joined all c.joined.ensures
