use Rattle.std.proofs.Common.{◌≡◌, ◌∙◌, ◌++◌, List, ℕ, Ok, ap, map, subst}
use Rattle.cx_frame.specs.declared.frame.Frame.{Frame}
use Rattle.cx_rules.specs.Secured.{secure_frame}
use Rattle.cx_rules.specs.cx_secure.specs.Commits.{IsAheadOf}
use Rattle.cx_rules.specs.cx_secure.specs.Plains.{secure_text}
use Rattle.cx_rules.specs.cx_secure.specs.Sealings.{connection_key}
use Rattle.cx_rules.specs.cx_secure.specs.declared.sealing.SealedAhead.{SealedAhead}
use Rattle.cx_rules.specs.cx_stream.specs.Held.{Held}
use Rattle.cx_link.proofs.SealedFrames.{seals_ahead}
use Rattle.cx_link.specs.Sending.{sealed_entry}
use Rattle.cx_link.specs.Wires.{SecureWire}
use Rattle.cx_link.proofs.links.SecureLink.seal_ahead.Goals as goal

pub returns-in_ok-log_sealed-in-Ok : goal.returns-in_ok-log_sealed-in-Ok
returns-in_ok-log_sealed-in-Ok c =
    let held : Held = c.self.inside.stream.value in
    let f : Frame = c.args.frame.now in
    let a : SealedAhead = c.in-Ok.ahead in
    let text : List ℕ = secure_text (connection_key held.sealing) held.sealing.out.fixed held.sealing.out.counter f in
    let same = c.as_ref-stream.ensures in
    let is : IsAheadOf held.sealing f a = subst (λ (h : Held). IsAheadOf h.sealing f a) same c.in-Ok.ensures.ahead in
    let free = rw same at c.in-Ok.ensures.free in
    let put = rw same at c.in-Ok.ensures.ok in
    let told = rw same at c.in_ok-contents-in-Ok.ensures in
    let P : SecureWire → Type 0 = λ w.
    (secure_frame w.keys f ≡ Ok (record { bytes = c.put_ahead.new.into; seals = c.log_sealed.new.seals; keys = record w.keys { out = record w.keys.out { counter = a.next } } }))
    × (a.from ≡ w.keys.out.counter) in
    subst P c.self.view_is (
      seals_ahead held f a c.self.inside.key c.put_ahead.new.into c.in_ok-contents-in-Ok.contents c.log_sealed.new.seals c.self.invariant free is
          (put ∙ ap (λ b. b ++ text) c.new-bytes.ensures) told
          (c.in_ok-log_sealed-in-Ok.ensures ∙ ap (λ b. b ++ map (sealed_entry c.self.inside.key) c.in_ok-contents-in-Ok.contents) c.new-seals.ensures),
      is.from,
    )
