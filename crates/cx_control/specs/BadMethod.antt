-- The payload of AUTH_BAD_METHOD (msgr2 protocol, "Authentication").
use Rattle.std.specs.Prelude.{ℕ, ◌-◌, ◌%◌, List, [], ◌∷◌}
use Rattle.cx_enc.specs.Layouts.{Layout, ◌⊗◌, u32_field, count_field, list_by}
use Rattle.cx_control.specs.declared.bad_method.AuthBadMethod.{AuthBadMethod}

-- the number that is written for a code, 2^32 minus the code; and the code of such a number
abbrev pub negated : ℕ → ℕ
negated n = (4294967296 - n) % 4294967296

-- AUTH_BAD_METHOD: the method that was refused, why, and the methods and modes that are taken, at most sixteen of each
abbrev pub bad_method_layout : Layout (ℕ × (ℕ × (List ℕ × List ℕ)))
bad_method_layout = u32_field ⊗ u32_field ⊗ list_by (count_field 0 16) u32_field ⊗ list_by (count_field 0 16) u32_field

-- the part that is kept of it
abbrev pub kept_method : ℕ × (ℕ × (List ℕ × List ℕ)) → AuthBadMethod
kept_method (method, (result, _)) = record { method = method; result = negated result }

-- what is written: method 2 and mode 2 are the ones that are taken
abbrev pub written_method : AuthBadMethod → ℕ × (ℕ × (List ℕ × List ℕ))
written_method a = (a.method, (negated a.result, (2 ∷ [], 2 ∷ [])))
