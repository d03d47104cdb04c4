use Rattle.cx_laws_run.proofs.cover.Whole.{any-covered, any-moments, any-paced, schedule-covered, schedule-moments, schedule-paced}
use Rattle.cx_laws_run.proofs.coverage_laws.cover_laws.Goals as goal

pub returns : goal.returns
returns c = record {
  events = any-covered;
  schedules = schedule-covered;
  paced = any-paced;
  paced_schedules = schedule-paced;
  moments = any-moments;
  moments_schedules = schedule-moments;
}
