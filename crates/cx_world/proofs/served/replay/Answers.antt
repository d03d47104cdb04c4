use Rattle.cx_desk.specs.Held.{handlers_of}
use Rattle.cx_world.proofs.replayed.Lawful.{is_replay}
use Rattle.cx_world.proofs.served.replay.Goals as goal

pub returns-clause-replayed : goal.returns-clause-replayed
returns-clause-replayed g c =
    is_replay (handlers_of c.args.desk.now) c.requires.0 c.args.script.now c.in_ok-report.report.journal c.in_ok-report.report.broken
    c.standing_laws.ensures.events c.standing_laws.ensures.granted c.standing_laws.ensures.schedules c.standing_laws.ensures.expiring c.session_laws.ensures.own
    c.session_laws.ensures.schedules c.front_laws.ensures.schedules c.whole_laws.ensures.schedules c.truth_laws.ensures.answered_schedules c.journal_laws.ensures.schedules
    c.login_laws.ensures.schedules c.origin_laws.ensures.schedules c.cover_laws.ensures.schedules c.cover_laws.ensures.paced_schedules c.cover_laws.ensures.moments_schedules
    c.requires.2 c.in_ok-report.ensures.journal c.in_ok-report.ensures.found
