use Rattle.cx_session.proofs.Telling.{answers_as_told, changes_as_told}
use Rattle.cx_session.proofs.laws.told_laws.Goals as goal

pub returns-clause-answers : goal.returns-clause-answers
returns-clause-answers g c =
    answers_as_told g.O.Owner.entity_of g.O.Owner.gid_of g.O.Owner.caps_of g.O.Owner.reading_of

pub returns-clause-changes : goal.returns-clause-changes
returns-clause-changes g c =
    changes_as_told g.O.Owner.entity_of g.O.Owner.gid_of g.O.Owner.caps_of g.O.Owner.reading_of
