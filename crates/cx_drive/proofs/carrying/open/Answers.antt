use Rattle.std.proofs.Common.{◌≡◌, [], ◌∷◌, ◌++◌, refl, sym, ap, ◌∙◌, append-nil, append_assoc, arith}
use Rattle.cx_drive.proofs.Loops.{opens_on}
use Rattle.cx_drive.proofs.carrying.open.Goals as goal

pub loop-peer-init : goal.loop-peer-init
loop-peer-init g c = (([], refl, record { opens = []; tried = refl; acts = g.S.Site.stays c.args.site.now; behind = sym (append-nil c.args.dues.now.items) }), omega arith)

pub loop-peer-preserved : goal.loop-peer-preserved
loop-peer-preserved g c =
    let before = c.loop-peer.invariant.0 in
    let popped : c.loop-peer.asked.items ≡ c.in-Some.peer ∷ c.pop_front.new.self.items = c.in-Some.ensures.items in (
      (
        before.0 ++ c.in-Some.peer ∷ [],
        append_assoc before.0 (c.in-Some.peer ∷ []) c.pop_front.new.self.items ∙ ap (λ k. before.0 ++ k) (sym popped) ∙ before.1,
        opens_on g.S.Site.follows g.S.Site.goes_on c.args.peers.now before.0 c.in-Some.peer c.open_link-number.result
            c.args.site.now c.loop-peer.site c.open_link-number.new.site c.args.dues.now.items c.loop-peer.dues.items c.open_link-number.new.dues.items
            before.2 c.open_link-number.ensures.acts c.open_link-number.ensures.dues,
      ),
      omega (arith, c.in-Some.ensures.cases, c.open_link-number.ensures.len, c.open_link-number.ensures.capacity),
    )
