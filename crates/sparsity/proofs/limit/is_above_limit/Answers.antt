use Rattle.std.proofs.Common.{◌≡◌, ◌<◌, ◌≤◌, ◌+◌, ◌∙◌, ap, arith, subst, sym, ℕ}
use Rattle.std.specs.Prelude.{sum}
use Rattle.sparsity.specs.Coupled.{squares_of, pairs_of}
use Rattle.sparsity.proofs.Counting.{pairs_bound}
use Rattle.sparsity.proofs.Piecing.{counts_add}
use Rattle.sparsity.proofs.limit.is_above_limit.Goals as goal

pub returns-then-not-may_pass : goal.returns-then-not-may_pass
returns-then-not-may_pass g c =
    let few : c.args.size + squares_of c.args.lists.now ≤ 33554432 = c.if-not-may_pass.ensures in
    (λ h. absurd (cc), λ h. absurd (omega (arith, h, few, pairs_bound c.args.size c.args.lists.now)))

pub returns : goal.returns
returns g c =
    let all : sum c.deref.result.now ≡ pairs_of (record { size = c.args.size; lists = c.args.lists.now }) =
    ap sum c.deref.ensures.value ∙ counts_add c.args.size c.args.lists.now c.in_ok-counts.counts.items c.in_ok-counts.ensures in
    let Above : ℕ → Type 0 = λ n. 33554432 < n in
    (λ h. subst Above all (c.is_sum_above.ensures.0 h), λ h. c.is_sum_above.ensures.1 (subst Above (sym all) h))
