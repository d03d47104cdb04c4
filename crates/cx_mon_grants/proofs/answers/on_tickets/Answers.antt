-- The tickets can be told, and what comes of them is what the rules have come of them.
use Rattle.std.proofs.Common.{refl, sym, ◌∙◌}
use Rattle.cx_mon_grants.specs.Occasions.{occasion_of}
use Rattle.cx_mon_grants.proofs.Ordered.{can_be_told}
use Rattle.cx_mon_grants.proofs.Replied.{tickets_reply, tickets_respond}
use Rattle.cx_mon_grants.proofs.answers.on_tickets.Goals as goal

pub issued_for-requires-clause-rotated : goal.issued_for-requires-clause-rotated
issued_for-requires-clause-rotated c = rw c.in_ok-draw.ensures c.requires.rotated

pub returns-in-Err-clause-responds : goal.returns-in-Err-clause-responds
returns-in-Err-clause-responds c =
    let issued = rw (c.in_ok-draw.ensures, c.new.ensures) at c.in_ok-tickets.ensures.issued in
    tickets_respond (occasion_of c.args.at.now) c.args.server.now c.issued_for.new.server c.args.bearer.now c.args.drawn c.args.keys c.in-Some.own _ c.in_ok-tickets.tickets
    c.refuses-in-Err.result (sym c.key_of.ensures ∙ c.in-Some.is) (c.all.ensures ∙ c.in_ok-services.ensures) issued c.issued_for.ensures.server
    (rw (c.in-Err.is, c.refuses-in-Err.ensures) refl)

pub tells_tickets-requires : goal.tells_tickets-requires
tells_tickets-requires c =
    let issued = rw (c.in_ok-draw.ensures, c.new.ensures) at c.in_ok-tickets.ensures.issued in
    let whole = rw c.in-Ok.is at c.in_ok-tickets.ensures.whole in
    can_be_told c.args.server.now (occasion_of c.args.at.now) c.args.bearer.now c.args.keys _ c.in-Ok.tickets
    (c.all.ensures ∙ c.in_ok-services.ensures) (sym c.in-Ok.is ∙ issued) whole

pub returns-clause-responds : goal.returns-clause-responds
returns-clause-responds c =
    let issued = rw (c.in_ok-draw.ensures, c.new.ensures) at c.in_ok-tickets.ensures.issued in
    let made = rw (c.issued_for.ensures.server, c.new.ensures) at c.in_ok-made-in-Ok.ensures.made in
    tickets_reply (occasion_of c.args.at.now) c.args.server.now c.issued_for.new.server c.args.bearer.now c.args.drawn c.args.keys c.in-Some.own _ _ c.in-Ok.tickets
    c.in_ok-made-in-Ok.made (sym c.key_of.ensures ∙ c.in-Some.is) (c.all.ensures ∙ c.in_ok-services.ensures)
    issued c.in-Ok.is c.issued_for.ensures.server made
