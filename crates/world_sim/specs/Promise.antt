-- What a run promises of the report of a world is in `world_run_laws`.
pub use Rattle.world_run_laws.specs.Promise.{IsReportOfWorld, WorldRunGives}
