use Rattle.std.proofs.Common.{◌∙◌, ◌++◌, List, ℕ, ap, length}
use Rattle.cx_rules.specs.cx_secure.specs.Plains.{plains, secure_text}
use Rattle.cx_rules.specs.cx_secure.specs.Sealings.{connection_key}
use Rattle.cx_rules.specs.cx_secure.specs.declared.sealing.Sealing.{Sealing}
use Rattle.cx_link.proofs.SealedFrames.{same_ahead, sends_frame}
use Rattle.cx_link.proofs.secure.seal_behind.Goals as goal

pub returns-in_ok-log_sealed-in-Ok : goal.returns-in_ok-log_sealed-in-Ok
returns-in_ok-log_sealed-in-Ok c =
    let key : List ℕ = c.args.key in
    let sealing : Sealing = c.args.stream.value.sealing in
    let n : ℕ = length (plains c.args.frame.now) in
    let text : List ℕ = secure_text (connection_key sealing) sealing.out.fixed sealing.out.counter c.args.frame.now in
    let held = c.deref_mut.ensures.value in
    let free = rw held at c.in-Ok.ensures.free in
    let put = rw held at c.in-Ok.ensures.ok in
    let after = rw held at c.in-Ok.ensures.after in
    let contents = rw c.deref.ensures at c.in_ok-contents-in-Ok.ensures in (
      sends_frame c.args.stream.value c.put.new.self c.args.frame.now key c.put.new.into c.in_ok-contents-in-Ok.contents c.args.before c.log_sealed.new.seals c.requires.live
          free (put ∙ ap (λ b. b ++ text) c.new-bytes.ensures) after contents
          c.in_ok-log_sealed-in-Ok.ensures,
      same_ahead c.args.stream.value c.put.new.self n after,
    )
