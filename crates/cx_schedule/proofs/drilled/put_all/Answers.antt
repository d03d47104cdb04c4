use Rattle.std.specs.Prelude.{◌∷◌, codes, map}
use Rattle.std.specs.List.{flat_map}
use Rattle.cx_schedule.specs.Drills.{client_line, clients_to, round_lines}
use Rattle.cx_schedule.proofs.DrillTexts.{lines_then}
use Rattle.cx_schedule.proofs.drilled.put_all.Goals as goal

pub returns : goal.returns
returns c =
    lines_then c.put_behind.result (map client_line (clients_to c.args.n)) (codes "entity osd.0" ∷ flat_map (round_lines c.args.seed) (clients_to c.args.n)) c.args.into.now c.put_clients.new.into c.put_behind.new.into c.in_ok-put_clients.ensures c.put_behind.ensures
