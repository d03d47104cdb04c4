use Rattle.cx_verifying.proofs.Stages.{link_fed}
use Rattle.cx_verifying.proofs.links.LinkFeeds.feed.Goals as goal

pub returns-clause-fed : goal.returns-clause-fed
returns-clause-fed c =
    let fed = rw c.deref_mut.ensures.value at c.feed.ensures c.self.inside.number in
    rw (← c.self.view_is) (link_fed c.self.inside.number c.self.inside.stage.value c.feed.new.self c.args.bytes.now c.feed.result fed)
