use Rattle.std.proofs.Common.{map, ap, refl}
use Rattle.run_words.specs.Choice.{of_system, of_mesh, of_vector, seen_mode, seen}
use Rattle.run_texts.specs.Read.{is_read_fault}
use Rattle.run_outputs.specs.Targets.{seen_target}
use Rattle.run_targets.proofs.Vectors.{made_in, ends_in, ends_in_vector, none_read, vector_read}
use Rattle.run_targets.proofs.make.make_plain.Goals as goal

pub returns-in-System-clause-ok : goal.returns-in-System-clause-ok
returns-in-System-clause-ok g c =
    made_in (g.S.Store.holds c.args.store.now) (seen c.args.options.now) c.args.read (of_system c.in-System.mode) (λ targets. map seen_target targets.items) c.plain_system.result (ap seen_mode c.in-System.is) c.plain_system.ensures.ok

pub returns-in-System-clause-ends : goal.returns-in-System-clause-ends
returns-in-System-clause-ends g c =
    ends_in (g.S.Store.holds c.args.store.now) (seen c.args.options.now) c.args.read (of_system c.in-System.mode) c.plain_system.result (ap seen_mode c.in-System.is) c.plain_system.ensures.ends

pub returns-in-System-clause-calls : goal.returns-in-System-clause-calls
returns-in-System-clause-calls g c =
    none_read (of_system c.in-System.mode) (seen c.args.options.now).mode (is_read_fault c.plain_system.result) (g.S.Store.counts c.args.store.now) (ap seen_mode c.in-System.is) refl

pub returns-in-Mesh-clause-ok : goal.returns-in-Mesh-clause-ok
returns-in-Mesh-clause-ok g c =
    made_in (g.S.Store.holds c.args.store.now) (seen c.args.options.now) c.args.read of_mesh (λ targets. map seen_target targets.items) c.mesh_targets.result (ap seen_mode c.in-Mesh.is) c.mesh_targets.ensures.ok

pub returns-in-Mesh-clause-ends : goal.returns-in-Mesh-clause-ends
returns-in-Mesh-clause-ends g c =
    ends_in (g.S.Store.holds c.args.store.now) (seen c.args.options.now) c.args.read of_mesh c.mesh_targets.result (ap seen_mode c.in-Mesh.is) c.mesh_targets.ensures.ends

pub returns-in-Mesh-clause-calls : goal.returns-in-Mesh-clause-calls
returns-in-Mesh-clause-calls g c =
    none_read of_mesh (seen c.args.options.now).mode (is_read_fault c.mesh_targets.result) (g.S.Store.counts c.args.store.now) (ap seen_mode c.in-Mesh.is) refl

pub returns-clause-ok : goal.returns-clause-ok
returns-clause-ok g c =
    made_in (g.S.Store.holds c.args.store.now) (seen c.args.options.now) c.args.read (of_vector c.in-Vector.name.now c.in-Vector.task) (λ targets. map seen_target targets.items) c.vector_targets.result (ap seen_mode c.in-Vector.is) c.vector_targets.ensures.ok

pub returns-clause-ends : goal.returns-clause-ends
returns-clause-ends g c =
    ends_in_vector (g.S.Store.holds c.args.store.now) (seen c.args.options.now) c.args.read c.in-Vector.name.now c.in-Vector.task c.vector_targets.result (ap seen_mode c.in-Vector.is) c.vector_targets.ensures.ends

pub returns-clause-calls : goal.returns-clause-calls
returns-clause-calls g c =
    vector_read c.in-Vector.name.now c.in-Vector.task (seen c.args.options.now).mode (is_read_fault c.vector_targets.result) (g.S.Store.counts c.args.store.now) (g.S.Store.counts c.vector_targets.new.store) (ap seen_mode c.in-Vector.is)
    c.vector_targets.ensures.calls
