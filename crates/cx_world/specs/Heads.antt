-- How the run of a schedule begins.
pub use Rattle.cx_world.specs.actors.Heads.{IsSchedule, with_handlers}
