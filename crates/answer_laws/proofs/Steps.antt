-- Steps of work that have one outcome.
pub use Rattle.system_laws.proofs.Outcomes.{Agree, one_after, HasAnOutcome, some_after, some_behind, some_stopped, one_said}
