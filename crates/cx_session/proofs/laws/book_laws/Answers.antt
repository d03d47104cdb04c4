use Rattle.cx_session.proofs.Lawful.{gives_numbers_once, never_falls, takes_the_next, keeps_owner}
use Rattle.cx_session.proofs.Wanting.{never_wants}
use Rattle.cx_session.proofs.laws.book_laws.Goals as goal

pub returns-clause-numbers : goal.returns-clause-numbers
returns-clause-numbers g c = gives_numbers_once g.O.Owner.entity_of g.O.Owner.gid_of

pub returns-clause-last : goal.returns-clause-last
returns-clause-last g c = never_falls g.O.Owner.entity_of g.O.Owner.gid_of

pub returns-clause-next : goal.returns-clause-next
returns-clause-next g c = takes_the_next g.O.Owner.entity_of g.O.Owner.gid_of

pub returns-clause-owner : goal.returns-clause-owner
returns-clause-owner g c = keeps_owner g.O.Owner.entity_of g.O.Owner.gid_of

pub returns-clause-memory : goal.returns-clause-memory
returns-clause-memory g c = never_wants g.O.Owner.entity_of g.O.Owner.gid_of
