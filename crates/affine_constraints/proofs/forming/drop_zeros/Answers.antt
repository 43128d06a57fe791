use Rattle.std.proofs.Common.{rules}
use Rattle.std.proofs.lemmas.List.Elements.{filter_from_retain}
use Rattle.affine_constraints.specs.Forming.{is_kept}
use Rattle.affine_constraints.proofs.forming.drop_zeros.Goals as goal

pub returns : goal.returns
returns c = filter_from_retain _ is_kept (λ p x b q h. search rules) _ _ _ c.retain.ensures.filtered
