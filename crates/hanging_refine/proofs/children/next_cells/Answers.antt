use Rattle.std.proofs.Common.{◌≡◌, ◌∙◌, sym, ap, subst, ℕ, List, take}
use Rattle.corner_names.specs.Table.{IsMore, AreOneEach}
use Rattle.corner_names.proofs.Keys.{more_same}
use Rattle.hanging_refine.proofs.children.next_cells.Goals as goal

pub returns-in-Err-clause-same : goal.returns-in-Err-clause-same
returns-in-Err-clause-same c = c.truncate.ensures.kept ∙ ap (λ n. take n c.divided_cells.new.table) c.len-known.ensures ∙ c.divided_cells.ensures.more.before

pub returns-in-Err-clause-more : goal.returns-in-Err-clause-more
returns-in-Err-clause-more c =
    let P : List (ℕ × ℕ) → Type 0 = λ ps. IsMore c.args.table.now ps in subst P (sym (returns-in-Err-clause-same c)) (more_same c.args.table.now)
