-- The payloads by which a session begins (msgr2 protocol, "Session").
use Rattle.std.specs.Prelude.{refl}
use Rattle.cx_enc.specs.Layouts.{Layout, ◌⊗◌, ◌⊳◌, seen_as, constant, u32_field, u64_field, addr_field}
use Rattle.cx_control.specs.declared.idents.ClientIdent.{ClientIdent}
use Rattle.cx_control.specs.declared.idents.ServerIdent.{ServerIdent}
use Rattle.cx_control.specs.declared.idents.IdentMissingFeatures.{IdentMissingFeatures}

-- CLIENT_IDENT: the one address of the client and that of its target, the client's global id and number of connections, the
-- features that it has and that it asks for, flags, and its cookie
abbrev pub client_ident_layout : Layout ClientIdent
client_ident_layout = seen_as (constant 1 u32_field ⊳ addr_field ⊗ addr_field ⊗ u64_field ⊗ u64_field ⊗ u64_field ⊗ u64_field ⊗ u64_field ⊗ u64_field)
    (λ (addr, (target, (gid, (global_seq, (supported, (required, (flags, cookie))))))). record {
      addr = addr;
      target = target;
      gid = gid;
      global_seq = global_seq;
      supported = supported;
      required = required;
      flags = flags;
      cookie = cookie;
    })
    (λ i. (i.addr, (i.target, (i.gid, (i.global_seq, (i.supported, (i.required, (i.flags, i.cookie))))))))
    (λ _ _. refl) (λ _ _. refl)

-- SERVER_IDENT: the same of the server, without a target
abbrev pub server_ident_layout : Layout ServerIdent
server_ident_layout = seen_as (constant 1 u32_field ⊳ addr_field ⊗ u64_field ⊗ u64_field ⊗ u64_field ⊗ u64_field ⊗ u64_field ⊗ u64_field)
    (λ (addr, (gid, (global_seq, (supported, (required, (flags, cookie)))))). record {
      addr = addr;
      gid = gid;
      global_seq = global_seq;
      supported = supported;
      required = required;
      flags = flags;
      cookie = cookie;
    })
    (λ i. (i.addr, (i.gid, (i.global_seq, (i.supported, (i.required, (i.flags, i.cookie)))))))
    (λ _ _. refl) (λ _ _. refl)

-- IDENT_MISSING_FEATURES: the features that the peer lacks
abbrev pub ident_missing_features_layout : Layout IdentMissingFeatures
ident_missing_features_layout = seen_as u64_field (λ features. record { features = features }) (λ i. i.features) (λ _ _. refl) (λ _ _. refl)
