use Rattle.std.proofs.Common.{◌≡◌, ◌∙◌, sym, ap, length, arith}
use Rattle.std.specs.Prelude.{is_some}
use Rattle.affine_constraints.specs.Lines.{lines_in}
use Rattle.affine_constraints.specs.Table.{place_in}
use Rattle.affine_constraints.proofs.Tables.{length_table, has_line}
use Rattle.affine_constraints.proofs.table.Table.has.Goals as goal

pub has_place-requires : goal.has_place-requires
has_place-requires c =
    let n : length c.deref.result.now ≡ length c.args.self.now =
    ap length c.deref.ensures.value ∙ sym (length_table c.self.inside.places.items c.self.inside.terms.items) ∙ ap length c.self.view_is in
    omega arith

pub returns : goal.returns
returns c =
    c.has_place.ensures ∙ ap (λ ps. is_some (place_in ps c.args.dof)) c.deref.ensures.value ∙ has_line c.self.inside.places.items c.self.inside.terms.items c.args.dof
    ∙ ap (λ t. is_some (lines_in t c.args.dof)) c.self.view_is
