use Rattle.sparsity.specs.Coupled.{CoupledDofs, pairs_of}
use Rattle.sparsity.proofs.Listing.{not_above, pattern_keeps}
use Rattle.sparsity.proofs.pattern.Pattern.build.Goals as goal

pub invariant_of-result : goal.invariant_of-result
invariant_of-result g c =
    let couplings : CoupledDofs = record { size = c.size-size.result; lists = c.lists-lists.result.now } in
    pattern_keeps couplings c.in_ok-rows.rows c.in_ok-rows.ensures c.size-size.type_inv
    (not_above c.in_ok-is_above_limit.field-0 (pairs_of couplings) c.in_ok-is_above_limit.ensures c.if-branch.false)
