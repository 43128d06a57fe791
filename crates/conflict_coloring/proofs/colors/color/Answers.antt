use Rattle.std.proofs.Common.{◌≡◌, ◌∙◌, ℕ, List, ap, sym, subst}
use Rattle.std.specs.List.Sorted.{IsPermutation, IsNonDecreasing}
use Rattle.std.proofs.lemmas.List.Sorted.{IsNonDecreasingBy-from_sort}
use Rattle.conflict_coloring.specs.Coloring.{IsColoring}
use Rattle.conflict_coloring.specs.Ranks.{entries_of, ranked_by}
use Rattle.conflict_coloring.proofs.Ranking.{ranked_conflict, length_ranked}
use Rattle.conflict_coloring.proofs.Alike.{coloring_alike}
use Rattle.conflict_coloring.proofs.colors.color.Goals as goal

pub ranked-requires-clause-rising : goal.ranked-requires-clause-rising
ranked-requires-clause-rising c =
    subst IsNonDecreasing (sym c.deref-2.ensures.value) (IsNonDecreasingBy-from_sort (λ (x : ℕ). x) c.sort_unstable.new.self.items c.sort_unstable.ensures.sorted)

pub returns : goal.returns
returns c =
    let cells : List (List ℕ) = c.args.conflicts.now in
    let numbers : List ℕ = c.sort_unstable.new.self.items in
    let perm : IsPermutation (entries_of cells) numbers = subst (λ (xs : List ℕ). IsPermutation xs numbers) c.in_ok-rows.ensures c.sort_unstable.ensures.permutation in
    let made : c.in_ok-ranked.ranked ≡ ranked_by numbers cells = c.in_ok-ranked.ensures ∙ ap (λ (xs : List ℕ). ranked_by xs cells) c.deref-2.ensures.value in
    let is : IsColoring (ranked_by numbers cells) c.in_ok-colors.colors = subst (λ (m : List (List ℕ)). IsColoring m c.in_ok-colors.colors) made c.in_ok-colors.ensures in
    coloring_alike cells (ranked_by numbers cells) c.in_ok-colors.colors (λ a b. ranked_conflict cells numbers a b perm) (length_ranked cells numbers) is
