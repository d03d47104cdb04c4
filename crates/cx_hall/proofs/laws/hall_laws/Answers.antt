-- The laws, each by its lemma.
use Rattle.cx_hall.proofs.Lawful.{saw_one_history, numbers_passes, answered_as_told}
use Rattle.cx_hall.proofs.laws.hall_laws.Goals as goal

pub returns-clause-one : goal.returns-clause-one
returns-clause-one g c = saw_one_history g.O.Owner.entity_of g.O.Owner.gid_of

pub returns-clause-number : goal.returns-clause-number
returns-clause-number g c = numbers_passes g.O.Owner.entity_of g.O.Owner.gid_of

pub returns-clause-told : goal.returns-clause-told
returns-clause-told g c =
    answered_as_told g.O.Owner.entity_of g.O.Owner.gid_of g.O.Owner.caps_of g.O.Owner.reading_of c.told_laws.ensures.answers c.told_laws.ensures.changes
