-- The turns that read no session are made for each.
use Rattle.std.specs.Option.{option_copied}
use Rattle.cx_client_session.proofs.operations_turns.by_stage.Goals as goal

pub returns-in-AwaitsBanner : goal.returns-in-AwaitsBanner
returns-in-AwaitsBanner c = rw c.in-AwaitsBanner.is (c.banner_turn.ensures (option_copied c.args.session))

pub returns-in-AwaitsHello : goal.returns-in-AwaitsHello
returns-in-AwaitsHello c = rw c.in-AwaitsHello.is (c.hello_turn.ensures (option_copied c.args.session))

pub returns-in-AwaitsChallenge : goal.returns-in-AwaitsChallenge
returns-in-AwaitsChallenge c = rw c.in-AwaitsChallenge.is (c.challenge_turn.ensures (option_copied c.args.session))

pub returns-in-AwaitsDone : goal.returns-in-AwaitsDone
returns-in-AwaitsDone c = rw c.in-AwaitsDone.is (c.done_turn.ensures (option_copied c.args.session))

pub returns-in-AwaitsIdent : goal.returns-in-AwaitsIdent
returns-in-AwaitsIdent c = rw c.in-AwaitsIdent.is (c.ident_turn.ensures (option_copied c.args.session))

pub returns-in-Open : goal.returns-in-Open
returns-in-Open c = rw c.in-Open.is (c.open_turn.ensures (option_copied c.args.session))
