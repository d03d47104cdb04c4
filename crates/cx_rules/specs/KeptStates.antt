-- When the kept state has changed.
use Rattle.std.specs.Prelude.{◌==◌, ◌&&◌, Bool, true, false, List, [], ◌∷◌, Option, Some, None, if◌then◌else◌}
use Rattle.std.specs.Str.{bytes_eq}
use Rattle.cx_rotate.specs.declared.generations.Generation.{Generation}
use Rattle.cx_rotate.specs.declared.states.KeptState.{KeptState}

abbrev pub same_generation : Generation → Generation → Bool
same_generation g h = (g.id == h.id) && (bytes_eq g.key h.key && (g.expires == h.expires))

abbrev pub same_generations : List Generation → List Generation → Bool
same_generations [] [] = true
same_generations (g ∷ gs) (h ∷ hs) = same_generation g h && same_generations gs hs
same_generations _ _ = false

-- whether two states are one
abbrev pub same_state : KeptState → KeptState → Bool
same_state s t =
    (s.next_gid == t.next_gid) && ((s.life == t.life) && ((s.auth_life == t.auth_life)
    && (same_generations s.mds t.mds && (same_generations s.osd t.osd && (same_generations s.mgr t.mgr && same_generations s.auth t.auth)))))

-- the state that a step saves: what there is, where it differs from what was saved last
abbrev pub changed : KeptState → KeptState → Option KeptState
changed saved state = if same_state state saved then None else Some state

-- the state that was saved last, behind that step
abbrev pub saved_behind : KeptState → Option KeptState → KeptState
saved_behind saved None = saved
saved_behind saved (Some state) = state
