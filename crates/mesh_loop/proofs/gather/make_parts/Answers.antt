use Rattle.mesh_loop.specs.Parts.{shown}
use Rattle.mesh_loop.proofs.Gathering.{pattern_is}
use Rattle.mesh_loop.proofs.gather.make_parts.Goals as goal

pub returns-clause-parts : goal.returns-clause-parts
returns-clause-parts g c = record {
  matched = c.requires;
  visits = c.in_ok-visits.ensures.visits;
  rows = c.in_ok-gathered.ensures.rows;
  pattern = pattern_is (shown c.args.source.now) c.in_ok-gathered.gathered.couplings c.in_ok-pattern.pattern c.in_ok-gathered.ensures.couplings c.in_ok-pattern.ensures.rows;
  cells = λ cell within. record { fit = c.in_ok-visits.ensures.fit cell within; below = c.in_ok-gathered.ensures.below cell within };
}
