-- The payload of HELLO (msgr2 protocol, "Hello").
use Rattle.std.specs.Prelude.{ℕ, ◌≡◌, Some, refl}
use Rattle.std.proofs.Common.{arith}
use Rattle.cx_base.specs.declared.kinds.EntityType.{EntityType}
use Rattle.cx_enc.specs.Values.{kind_of, number_of}
use Rattle.cx_enc.specs.Layouts.{Layout, ◌⊗◌, seen_as, checked_as, u8_field, addr_field}
use Rattle.cx_control.specs.declared.hello.Hello.{Hello}

pub kind_back : (n : ℕ) (x : EntityType) → kind_of n ≡ Some x → number_of x ≡ n
unfolding kind_of
kind_back n x e = grind arith

-- the number of an entity type, one byte
abbrev pub kind_byte : Layout EntityType
kind_byte = checked_as u8_field kind_of number_of (λ a x _ e. kind_back a x e)

-- HELLO: the type of the sender, and an address of the peer
abbrev pub hello_layout : Layout Hello
hello_layout = seen_as (kind_byte ⊗ addr_field)
    (λ (kind, addr). record { kind = kind; addr = addr })
    (λ h. (h.kind, h.addr))
    (λ _ _. refl) (λ _ _. refl)
