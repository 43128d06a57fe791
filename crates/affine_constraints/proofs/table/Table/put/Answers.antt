use Rattle.std.proofs.Common.{◌≡◌, ◌∙◌, ◌<◌, ◌+◌, ◌++◌, List, ap, refl, length, set, FitsSigned, w64, to_z, of_z, arith, Some}
use Rattle.std.specs.declared.option.Option.{Option}
use Rattle.std.proofs.lemmas.Grind.{common_steps}
use Rattle.std.proofs.lemmas.Int.{to_z-of_z}
use Rattle.std.proofs.Math.ListN.{length-append}
use Rattle.affine_constraints.specs.declared.term.Term.{Term}
use Rattle.affine_constraints.specs.declared.table.Place.{Place}
use Rattle.affine_constraints.specs.Lines.{AffineLine}
use Rattle.affine_constraints.proofs.Tables.{length_table, table_put}
use Rattle.affine_constraints.proofs.table.Table.put.Goals as goal

pub returns-clause-put : goal.returns-clause-put
returns-clause-put c =
    let places : List (Option Place) = c.self.inside.places.items in
    let xs : List Term = c.self.inside.terms.items in
    let ys : List Term = c.args.terms.now in
    let p : Place = record { start = c.len-start.result; end = c.len-end.result; constant = to_z w64 (of_z w64 c.args.constant) } in
    let grown : c.extend_from_slice.new.self.items ≡ xs ++ ys = c.in_ok-extend_from_slice.ensures.items in
    let n = length-append xs ys in
    let first : c.len-start.result ≡ length xs = grind (arith, common_steps) in
    let last : c.len-end.result ≡ length xs + length ys = grind (arith, common_steps) in
    let fits : FitsSigned w64 c.args.constant = c.ranges.constant in
    let same : p.constant ≡ c.args.constant = simp to_z-of_z in
    let count = length_table places xs in
    let whole = ap length c.self.view_is in
    let below : c.args.dof < length places = (let r = c.requires in omega arith) in
    table_put places (set places c.args.dof (Some p)) xs ys c.extend_from_slice.new.self.items c.args.dof p c.args.constant c.self.invariant below first last same refl grown
    ∙ ap (λ (t : List (Option AffineLine)). set t c.args.dof (Some (record { terms = ys; constant = c.args.constant }))) c.self.view_is
