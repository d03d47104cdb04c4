use Rattle.cx_hall.proofs.Moves.{begins}
use Rattle.cx_hall.proofs.hall.UnnamedHall.new.Goals as goal

pub of_words-requires : goal.of_words-requires
of_words-requires g c = begins g.O.Owner.entity_of g.O.Owner.gid_of
