-- What serves a loop that marks cells.
use Rattle.std.proofs.lemmas.List.Folds.{list_any_more, list_any-append}

pub ruleset marking = (list_any_more, list_any-append)
