-- How the run of a schedule begins.
pub use Rattle.cx_world_start.specs.head.Beginning.{IsSchedule, with_handlers}
