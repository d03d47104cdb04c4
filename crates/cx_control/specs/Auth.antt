-- The payloads of the frames of authentication (msgr2 protocol, "Authentication").
use Rattle.std.specs.Prelude.{refl}
use Rattle.cx_enc.specs.Layouts.{Layout, ◌⊗◌, seen_as, u32_field, u64_field, bytes_field, blob_field, count_field, list_by}
use Rattle.cx_control.specs.declared.auth.AuthRequest.{AuthRequest}
use Rattle.cx_control.specs.declared.auth.AuthReplyMore.{AuthReplyMore}
use Rattle.cx_control.specs.declared.auth.AuthRequestMore.{AuthRequestMore}
use Rattle.cx_control.specs.declared.auth.AuthDone.{AuthDone}
use Rattle.cx_control.specs.declared.auth.AuthSignature.{AuthSignature}

-- AUTH_REQUEST: the method, at most sixteen modes, and the payload of the method
abbrev pub auth_request_layout : Layout AuthRequest
auth_request_layout = seen_as (u32_field ⊗ list_by (count_field 0 16) u32_field ⊗ blob_field)
    (λ (method, (modes, payload)). record { method = method; modes = modes; payload = payload })
    (λ a. (a.method, (a.modes, a.payload)))
    (λ _ _. refl) (λ _ _. refl)

-- AUTH_REPLY_MORE and AUTH_REQUEST_MORE: the payload of the method
abbrev pub auth_reply_more_layout : Layout AuthReplyMore
auth_reply_more_layout = seen_as blob_field (λ payload. record { payload = payload }) (λ a. a.payload) (λ _ _. refl) (λ _ _. refl)

abbrev pub auth_request_more_layout : Layout AuthRequestMore
auth_request_more_layout = seen_as blob_field (λ payload. record { payload = payload }) (λ a. a.payload) (λ _ _. refl) (λ _ _. refl)

-- AUTH_DONE: the global id, the mode that was chosen, and the payload of the method
abbrev pub auth_done_layout : Layout AuthDone
auth_done_layout = seen_as (u64_field ⊗ u32_field ⊗ blob_field)
    (λ (gid, (mode, payload)). record { gid = gid; mode = mode; payload = payload })
    (λ a. (a.gid, (a.mode, a.payload)))
    (λ _ _. refl) (λ _ _. refl)

-- AUTH_SIGNATURE: 32 bytes
abbrev pub auth_signature_layout : Layout AuthSignature
auth_signature_layout = seen_as (bytes_field 32) (λ signature. record { signature = signature }) (λ a. a.signature) (λ _ _. refl) (λ _ _. refl)
