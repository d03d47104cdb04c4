-- The answer is the one of the server whose state is rotated, which stands unless memory was wanting.
use Rattle.std.proofs.Common.{◌≡◌, false, IfOk, subst, rules}
use Rattle.cx_keyserver.specs.Issuing.{IsIssued, IsOpenable, asking, issued, wants_memory}
use Rattle.cx_keyserver.specs.Servers.{Server}
use Rattle.cx_keyserver.proofs.Behind.{rotated_is}
use Rattle.cx_keyserver.proofs.server.KeyServer.issue.Goals as goal

pub returns-then-not-wants_memory-clause-issued : goal.returns-then-not-wants_memory-clause-issued
returns-then-not-wants_memory-clause-issued c =
    let asked = asking c.args.name.now c.args.service c.args.gid c.args.auth_session.now c.args.now c.args.draw.now.bytes in
    let rotated = rotated_is c.args.now c.args.draw.now.bytes c.args.self.now c.self.inside.ring c.self.inside.state c.rotate.new.state c.self.view_is c.rotate.ensures.state in
    subst (λ (s : Server). IsIssued (issued s asked) c.issued-answer.result) rotated c.issued-answer.ensures.issued

pub returns-then-not-wants_memory-clause-opens : goal.returns-then-not-wants_memory-clause-opens
returns-then-not-wants_memory-clause-opens c =
    let asked = asking c.args.name.now c.args.service c.args.gid c.args.auth_session.now c.args.now c.args.draw.now.bytes in
    let rotated = rotated_is c.args.now c.args.draw.now.bytes c.args.self.now c.self.inside.ring c.self.inside.state c.rotate.new.state c.self.view_is c.rotate.ensures.state in
    subst (λ (s : Server). IfOk c.issued-answer.result (IsOpenable s asked)) rotated c.issued-answer.ensures.opens

pub returns-else-not-wants_memory-clause-issued : goal.returns-else-not-wants_memory-clause-issued
returns-else-not-wants_memory-clause-issued c =
    let asked = asking c.args.name.now c.args.service c.args.gid c.args.auth_session.now c.args.now c.args.draw.now.bytes in
    let rotated = rotated_is c.args.now c.args.draw.now.bytes c.args.self.now c.self.inside.ring c.self.inside.state c.rotate.new.state c.self.view_is c.rotate.ensures.state in
    subst (λ (s : Server). IsIssued (issued s asked) c.issued-answer.result) rotated c.issued-answer.ensures.issued

pub returns-else-not-wants_memory-clause-opens : goal.returns-else-not-wants_memory-clause-opens
returns-else-not-wants_memory-clause-opens c =
    let asked = asking c.args.name.now c.args.service c.args.gid c.args.auth_session.now c.args.now c.args.draw.now.bytes in
    let rotated = rotated_is c.args.now c.args.draw.now.bytes c.args.self.now c.self.inside.ring c.self.inside.state c.rotate.new.state c.self.view_is c.rotate.ensures.state in
    subst (λ (s : Server). IfOk c.issued-answer.result (IsOpenable s asked)) rotated c.issued-answer.ensures.opens

pub returns-then-not-wants_memory-clause-stands : goal.returns-then-not-wants_memory-clause-stands
returns-then-not-wants_memory-clause-stands c =
    let stays : wants_memory c.issued-answer.result ≡ false = search rules in
    rw stays (rotated_is c.args.now c.args.draw.now.bytes c.args.self.now c.self.inside.ring c.self.inside.state c.rotate.new.state c.self.view_is c.rotate.ensures.state)
