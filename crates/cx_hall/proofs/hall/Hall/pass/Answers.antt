use Rattle.std.proofs.Common.{[], arith}
use Rattle.cx_hall.specs.Rule.{keeper_of}
use Rattle.cx_hall.proofs.Moves.{enters}
use Rattle.cx_hall.proofs.hall.Hall.pass.Goals as goal

pub load_new_seat-requires : goal.load_new_seat-requires
load_new_seat-requires g c =
    (omega (arith, c.args.self.now.counter.word.0), enters g.O.Owner.entity_of g.O.Owner.gid_of _ (keeper_of [], []))
