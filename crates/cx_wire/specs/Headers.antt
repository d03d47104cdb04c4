-- The header of a message (msgr2 protocol, "Message frame"), 41 bytes.
use Rattle.std.specs.Prelude.{ℕ}
use Rattle.cx_enc.specs.Layouts.{Layout, ◌⊗◌, u8_field, u16_field, u32_field, u64_field}
use Rattle.cx_wire.specs.declared.headers.Header.{Header}

-- what is read and not kept: priority, version, data_pre_padding_len, data_off, ack_seq, flags, compat_version, reserved
abbrev pub Rest : Type 0
Rest = ℕ × (ℕ × (ℕ × (ℕ × (ℕ × (ℕ × (ℕ × ℕ))))))

abbrev pub rest_layout : Layout Rest
rest_layout = u16_field ⊗ u16_field ⊗ u32_field ⊗ u16_field ⊗ u64_field ⊗ u8_field ⊗ u16_field ⊗ u16_field

-- what is written of it: priority 127, both versions 1, and else 0
abbrev pub written_rest : Rest
written_rest = (127, (1, (0, (0, (0, (0, (1, 0)))))))

-- seq, tid, type, and the rest
abbrev pub Fields : Type 0
Fields = ℕ × (ℕ × (ℕ × Rest))

abbrev pub header_layout : Layout Fields
header_layout = u64_field ⊗ u64_field ⊗ u16_field ⊗ rest_layout

abbrev pub kept_header : Fields → Header
kept_header (seq, (tid, (kind, _))) = record { seq = seq; tid = tid; type_ = kind }

abbrev pub written_header : Header → Fields
written_header h = (h.seq, (h.tid, (h.type_, written_rest)))
