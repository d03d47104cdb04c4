-- What comes of the request behind the rotation.
use Rattle.std.proofs.Common.{ap, ◌∙◌}
use Rattle.cx_keyserver.specs.Servers.{Server}
use Rattle.cx_mon_grants.specs.Occasions.{occasion_of}
use Rattle.cx_mon_grants.proofs.Replied.{answers_respond}
use Rattle.cx_mon_grants.proofs.answers.answer_rotated.Goals as goal

pub returns-clause-responds : goal.returns-clause-responds
returns-clause-responds c =
    answers_respond (occasion_of c.args.at.now) c.args.server.now c.rotated.new.server c.answers_by.new.server c.args.bearer.now c.new-drawn.result c.rotated.new.seals
    c.args.request c.answers_by.result c.new-drawn.ensures c.in_ok-rotated.ensures.server c.in_ok-rotated.ensures.drawn c.answers_by.ensures.responds

pub returns-clause-ring : goal.returns-clause-ring
returns-clause-ring c = ap (λ (s : Server). s.ring) c.answers_by.ensures.server ∙ ap (λ (s : Server). s.ring) c.in_ok-rotated.ensures.server
