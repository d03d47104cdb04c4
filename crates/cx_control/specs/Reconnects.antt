-- The payloads by which a session goes on over a new connection (msgr2 protocol, "Session").
use Rattle.std.specs.Prelude.{refl}
use Rattle.cx_enc.specs.Layouts.{Layout, ◌⊗◌, ◌⊳◌, seen_as, constant, u32_field, u64_field, flag_field, addr_field}
use Rattle.cx_control.specs.declared.reconnects.SessionReconnect.{SessionReconnect}
use Rattle.cx_control.specs.declared.reconnects.SessionReset.{SessionReset}
use Rattle.cx_control.specs.declared.reconnects.SessionRetry.{SessionRetry}
use Rattle.cx_control.specs.declared.reconnects.SessionRetryGlobal.{SessionRetryGlobal}
use Rattle.cx_control.specs.declared.reconnects.SessionReconnectOk.{SessionReconnectOk}

-- SESSION_RECONNECT: the one address of the client, the cookies of both, and the client's numbers
abbrev pub session_reconnect_layout : Layout SessionReconnect
session_reconnect_layout = seen_as (constant 1 u32_field ⊳ addr_field ⊗ u64_field ⊗ u64_field ⊗ u64_field ⊗ u64_field ⊗ u64_field)
    (λ (addr, (client_cookie, (server_cookie, (global_seq, (connect_seq, msg_seq))))). record {
      addr = addr;
      client_cookie = client_cookie;
      server_cookie = server_cookie;
      global_seq = global_seq;
      connect_seq = connect_seq;
      msg_seq = msg_seq;
    })
    (λ r. (r.addr, (r.client_cookie, (r.server_cookie, (r.global_seq, (r.connect_seq, r.msg_seq))))))
    (λ _ _. refl) (λ _ _. refl)

-- SESSION_RESET: whether all of the session is forgotten
abbrev pub session_reset_layout : Layout SessionReset
session_reset_layout = seen_as flag_field (λ full. record { full = full }) (λ r. r.full) (λ _ _. refl) (λ _ _. refl)

-- SESSION_RETRY: the number of connects that the server has kept
abbrev pub session_retry_layout : Layout SessionRetry
session_retry_layout = seen_as u64_field (λ kept. record { connect_seq = kept }) (λ r. r.connect_seq) (λ _ _. refl) (λ _ _. refl)

-- SESSION_RETRY_GLOBAL: the client's number of connections that the server has kept
abbrev pub session_retry_global_layout : Layout SessionRetryGlobal
session_retry_global_layout = seen_as u64_field (λ kept. record { global_seq = kept }) (λ r. r.global_seq) (λ _ _. refl) (λ _ _. refl)

-- SESSION_RECONNECT_OK: the seq of the last message that the server took
abbrev pub session_reconnect_ok_layout : Layout SessionReconnectOk
session_reconnect_ok_layout = seen_as u64_field (λ seq. record { seq = seq }) (λ r. r.seq) (λ _ _. refl) (λ _ _. refl)
