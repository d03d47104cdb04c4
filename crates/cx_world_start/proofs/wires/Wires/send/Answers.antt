use Rattle.std.proofs.Common.{◌≡◌, List, length, take, map-id, sym, ap, ◌∙◌, rules}
use Rattle.std.proofs.lemmas.Iterator.Adapters.{YieldsList-from_vec}
use Rattle.std.proofs.lemmas.Iterator.Consumers.{YieldsList-so_far, YieldsList-turn}
use Rattle.cx_run.specs.Wires.{Wire, wire_of}
use Rattle.cx_run.specs.Worlds.{sends_all, sends_piece}
use Rattle.cx_world_start.proofs.links.Sending.{on_err, sends_behind}
use Rattle.cx_steps.specs.declared.effects.Piece.{Piece}
use Rattle.cx_world_start.proofs.wires.Wires.send.Goals as goal

pub loop-piece-preserved : goal.loop-piece-preserved
loop-piece-preserved c =
    let piece : Piece = c.in-Some.piece in
    c.in_ok-send_piece.ensures.ok
    ∙ ap (λ (wires : List Wire). sends_piece c.args.who.now wires piece (wire_of piece.link wires)) c.loop-piece.invariant
    ∙ sym (sends_behind c.args.who.now c.args.self.now c.loop-piece.yielded piece)

pub returns-in_err-send_piece-clause-err : goal.returns-in_err-send_piece-clause-err
returns-in_err-send_piece-clause-err c =
    let sent : List Piece = c.loop-piece.yielded in
    let all = YieldsList-from_vec {s = c.into_iter-piece-iterator.result} c.args.pieces (search rules) (search rules) in
    let turn = YieldsList-turn all sent c.loop-piece.piece-iterator c.loop-piece.yielded_by c.next.result c.next.new.self c.in-Some.piece c.in-Some.is c.next.ensures.steps in
    let first : sent ≡ take (length sent) c.args.pieces = sym (map-id sent) ∙ YieldsList-so_far all sent c.loop-piece.piece-iterator c.loop-piece.yielded_by in
    on_err c.from_residual.result (record {
      count = length sent;
      within = turn.0;
      sent = c.in_err-send_piece.ensures.err ∙ c.loop-piece.invariant ∙ ap (λ (ps : List Piece). sends_all c.args.who.now c.args.self.now ps) first;
    })
