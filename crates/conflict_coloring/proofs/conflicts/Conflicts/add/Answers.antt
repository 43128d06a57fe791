use Rattle.std.proofs.Common.{◌≡◌, ◌∙◌, ◌+◌, ◌++◌, ◌∷◌, [], ◌≤◌, ℕ, List, sym, ap, subst, length, arith}
use Rattle.std.proofs.Math.ListN.{length-append}
use Rattle.std.proofs.lemmas.Grind.{common_steps}
use Rattle.conflict_coloring.specs.Cut.{cut, AreEnds}
use Rattle.conflict_coloring.proofs.Cuts.{cut_more, ends_more, length-cut}
use Rattle.conflict_coloring.proofs.conflicts.Conflicts.add.Goals as goal

pub returns-in-Ok-clause-added : goal.returns-in-Ok-clause-added
returns-in-Ok-clause-added c =
    let ends : List ℕ = c.self.inside.ends.items in
    let rows : List ℕ = c.self.inside.rows.items in
    let a : c.push.new.self.items ≡ ends ++ c.len-end.result ∷ [] = c.in-Ok.ensures.items ∙ ap (λ xs. xs ++ c.len-end.result ∷ []) c.in_ok-reserve.ensures.items in
    let b : c.extend_from_slice.new.self.items ≡ rows ++ c.args.rows.now = c.in_ok-extend_from_slice.ensures.items in
    let n = length-append rows c.args.rows.now in
    let m : c.len-end.result ≡ length rows + length c.args.rows.now = grind (arith, common_steps) in
    ap (λ xs. cut xs c.extend_from_slice.new.self.items) a ∙ ap (cut (ends ++ c.len-end.result ∷ [])) b
    ∙ cut_more ends rows c.args.rows.now c.len-end.result c.self.invariant.ends_are m
    ∙ ap (λ cs. cs ++ c.args.rows.now ∷ []) c.self.view_is

pub invariant_of-self-in-Ok : goal.invariant_of-self-in-Ok
invariant_of-self-in-Ok c =
    let ends : List ℕ = c.self.inside.ends.items in
    let rows : List ℕ = c.self.inside.rows.items in
    let a : c.push.new.self.items ≡ ends ++ c.len-end.result ∷ [] = c.in-Ok.ensures.items ∙ ap (λ xs. xs ++ c.len-end.result ∷ []) c.in_ok-reserve.ensures.items in
    let b : c.extend_from_slice.new.self.items ≡ rows ++ c.args.rows.now = c.in_ok-extend_from_slice.ensures.items in
    let n = length-append rows c.args.rows.now in
    let m : c.len-end.result ≡ length c.extend_from_slice.new.self.items = grind (arith, common_steps) in
    let le : length rows ≤ c.len-end.result = (let l = ap length b in omega arith) in
    let count : length ends ≡ length c.args.self.now = sym (length-cut ends rows) ∙ ap length c.self.view_is in
    let more = length-append ends (c.len-end.result ∷ []) in
    let grown = ends_more ends (length rows) c.len-end.result c.self.invariant.ends_are le in
    record {
      ends_are = subst (λ (xs : List ℕ). AreEnds xs (length c.extend_from_slice.new.self.items)) (sym a) (subst (λ (e : ℕ). AreEnds (ends ++ c.len-end.result ∷ []) e) m grown);
      few = (let l = ap length a in omega arith);
    }
