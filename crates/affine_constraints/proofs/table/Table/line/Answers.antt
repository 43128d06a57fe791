use Rattle.std.proofs.Common.{◌≡◌, ◌∙◌, List, sym, ap, subst, length, arith, None, Some}
use Rattle.std.specs.Prelude.{option_map, IfSome}
use Rattle.std.specs.declared.option.Option.{Option}
use Rattle.affine_constraints.specs.declared.term.Term.{Term}
use Rattle.affine_constraints.specs.declared.table.Place.{Place}
use Rattle.affine_constraints.specs.Lines.{AffineLine, lines_in}
use Rattle.affine_constraints.specs.Table.{line_at, place_in, IsPlace}
use Rattle.affine_constraints.proofs.Tables.{line_of_place, length_table}
use Rattle.affine_constraints.proofs.table.Table.line.Goals as goal

pub place_at-requires : goal.place_at-requires
place_at-requires c =
    let n : length c.deref.result.now ≡ length c.args.self.now =
    ap length c.deref.ensures.value ∙ sym (length_table c.self.inside.places.items c.self.inside.terms.items) ∙ ap length c.self.view_is in
    omega arith

pub returns-in-None : goal.returns-in-None
returns-in-None c =
    let at : None ≡ place_in c.self.inside.places.items c.args.dof = c.in-None.ensures ∙ ap (λ ps. place_in ps c.args.dof) c.deref.ensures.value in
    ap (option_map (line_at c.self.inside.terms.items)) at ∙ sym (line_of_place c.self.inside.places.items c.self.inside.terms.items c.args.dof) ∙ ap (λ t. lines_in t c.args.dof) c.self.view_is

pub piece-requires : goal.piece-requires
piece-requires c =
    let at : Some c.in-Some.place ≡ place_in c.self.inside.places.items c.args.dof = c.in-Some.ensures ∙ ap (λ ps. place_in ps c.args.dof) c.deref.ensures.value in
    let is : IsPlace (length c.self.inside.terms.items) c.in-Some.place = subst (λ (o : Option Place). IfSome o (IsPlace (length c.self.inside.terms.items))) (sym at) (c.self.invariant c.args.dof) in
    subst (λ (ts : List Term). IsPlace (length ts) c.in-Some.place) (sym c.deref-in-Some.ensures.value) is

pub returns-in-Some : goal.returns-in-Some
returns-in-Some c =
    let at : Some c.in-Some.place ≡ place_in c.self.inside.places.items c.args.dof = c.in-Some.ensures ∙ ap (λ ps. place_in ps c.args.dof) c.deref.ensures.value in
    ap (λ (l : AffineLine). Some l) (c.piece.ensures ∙ ap (λ ts. line_at ts c.in-Some.place) c.deref-in-Some.ensures.value)
    ∙ ap (option_map (line_at c.self.inside.terms.items)) at ∙ sym (line_of_place c.self.inside.places.items c.self.inside.terms.items c.args.dof) ∙ ap (λ t. lines_in t c.args.dof) c.self.view_is
