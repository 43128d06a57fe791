use Rattle.std.proofs.Common.{◌≡◌, ◌∙◌, ℕ, ◌+◌, ◌++◌, ◌∷◌, [], List, sym, length, arith, subst}
use Rattle.std.proofs.Math.ListN.{length-append}
use Rattle.std.proofs.lemmas.Grind.{common_steps}
use Rattle.conflict_coloring.specs.Near.{AreNear}
use Rattle.conflict_coloring.proofs.Nears.{near_start, near_more}
use Rattle.conflict_coloring.proofs.near.near_in_zones.Goals as goal

pub loop-cell-init : goal.loop-cell-init
loop-cell-init c =
    let P : List ℕ → Type 0 = λ xs. AreNear c.args.conflicts.now c.args.zones.now 0 xs [] in
    let Q : List ℕ → Type 0 = λ xs. AreNear c.args.conflicts.now c.args.zones.now 0 c.new-ends.result.items xs in
    subst Q (sym c.new-cells.ensures.items) (subst P (sym c.new-ends.ensures.items) (near_start c.args.conflicts.now c.args.zones.now))

pub loop-cell-preserved : goal.loop-cell-preserved
loop-cell-preserved c =
    let cells : List (List ℕ) = c.args.conflicts.now in
    let zones : List ℕ = c.args.zones.now in
    let n : ℕ = c.loop-cell.cell in
    let near : List ℕ = c.deref.result.now in
    let b : c.extend_from_slice.new.self.items ≡ c.loop-cell.cells.items ++ near = c.in_ok-extend_from_slice.ensures.items in
    let l = length-append c.loop-cell.cells.items near in
    let m : c.len.result ≡ length c.loop-cell.cells.items + length near = grind (arith, common_steps) in
    let P : List ℕ → Type 0 = λ xs. AreNear cells zones (n + 1) xs c.extend_from_slice.new.self.items in
    let Q : List ℕ → Type 0 = λ xs. AreNear cells zones (n + 1) (c.loop-cell.ends.items ++ c.len.result ∷ []) xs in
    subst P (sym c.in_ok-push.ensures.items)
    (subst Q (sym b) (near_more cells zones c.loop-cell.ends.items c.loop-cell.cells.items near n c.len.result c.loop-cell.invariant (c.deref.ensures.value ∙ c.in_ok-near.ensures) m))
