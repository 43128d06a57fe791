use Rattle.mesh_visits.specs.Runs.{subdomain_in}
use Rattle.mesh_visits.proofs.Choosing.{unnamed_run}
use Rattle.cell_blocks.specs.Blocks.{subdomains_of}
use Rattle.mesh_loop.specs.Parts.{shown}
use Rattle.mesh_loop.proofs.visited.subdomains_to_read.Goals as goal

pub returns-in-None : goal.returns-in-None
returns-in-None c =
    λ cell. unnamed_run (subdomain_in c.new.result.items) (subdomain_in (subdomains_of (shown c.args.source.now).given)) (shown c.args.source.now).flags (shown c.args.source.now).given.forest cell c.in-None.is
