-- The payloads that say how a connection fares (msgr2 protocol, "Frame format" and "Session").
use Rattle.std.specs.Prelude.{ℕ, ◌≡◌, ◌+◌, Ok, [], refl}
use Rattle.std.proofs.Common.{ap, subst, arith}
use Rattle.cx_enc.specs.Forms.{Spot, Form, Took, IsLawful}
use Rattle.cx_enc.specs.Layouts.{Layout, seen_as, u64_field, reading_field}
use Rattle.cx_control.specs.declared.upkeep.Wait.{Wait}
use Rattle.cx_control.specs.declared.upkeep.Keepalive2.{Keepalive2}
use Rattle.cx_control.specs.declared.upkeep.Keepalive2Ack.{Keepalive2Ack}
use Rattle.cx_control.specs.declared.upkeep.Ack.{Ack}

-- no bytes
abbrev pub nothing_form : Form (Unit {0})
nothing_form = record { at = λ s. Ok (tt, s); text = λ _. []; Fits = λ _. Unit {0} }

stands : (s : Spot) (x : Unit {0} × Spot) → nothing_form.at s ≡ Ok x → s ≡ x.1
stands s x e = cc

pub nothing-lawful : IsLawful nothing_form
nothing-lawful = record {
  takes = λ s x fits e. (subst (λ (next : Spot). Took s [] next) (stands s x e) (record { whole = refl; place = omega arith; bytes = fits }), tt);
  again = λ x place more fits. let e : place ≡ place + 0 = omega arith in ap (λ (p : ℕ). nothing_form.at (record { place = p; left = more })) e;
}

abbrev pub nothing : Layout (Unit {0})
nothing = record { form = nothing_form; lawful = nothing-lawful }

-- WAIT: nothing
abbrev pub wait_layout : Layout Wait
wait_layout = seen_as nothing (λ _. record {}) (λ _. tt) (λ _ _. refl) (λ _ _. refl)

-- KEEPALIVE2 and KEEPALIVE2_ACK: the time at which the first was sent
abbrev pub keepalive2_layout : Layout Keepalive2
keepalive2_layout = seen_as reading_field (λ time. record { time = time }) (λ k. k.time) (λ _ _. refl) (λ _ _. refl)

abbrev pub keepalive2_ack_layout : Layout Keepalive2Ack
keepalive2_ack_layout = seen_as reading_field (λ time. record { time = time }) (λ k. k.time) (λ _ _. refl) (λ _ _. refl)

-- ACK: the seq of the last message that was taken
abbrev pub ack_layout : Layout Ack
ack_layout = seen_as u64_field (λ seq. record { seq = seq }) (λ a. a.seq) (λ _ _. refl) (λ _ _. refl)
