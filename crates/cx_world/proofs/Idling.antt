-- Which lines do nothing, found one by one.
use Rattle.std.proofs.Common.{◌≡◌, ℕ, ◌+◌, ◌<◌, ◌≤◌, List, [], ◌∷◌, ◌++◌, length, get_or, take, drop, Option, None, sym, ap, ◌∙◌}
use Rattle.std.proofs.lemmas.List.{append_assoc, drop_all, drop_more, take_more}
use Rattle.std.specs.Prelude.{◌==◌, not}
use Rattle.cx_desk.specs.Handlers.{Handlers}
use Rattle.cx_lines.specs.declared.lines.Numbered.{Numbered}
use Rattle.cx_words.specs.declared.choices.LeftState.{LeftState}
use Rattle.cx_world_start.specs.cx_run.specs.Opening.{Setup, opening_world}
use Rattle.cx_world_start.specs.cx_run.specs.Runs.{setup_of}
use Rattle.cx_world_start.specs.cx_run.specs.Schedules.{after_line, after_lines}
use Rattle.cx_world_start.specs.cx_run.specs.Wires.{Wire}
use Rattle.cx_world_start.specs.cx_run.specs.Worlds.{World}
use Rattle.cx_world.specs.Beginning.{began}
use Rattle.cx_world.specs.Carried.{Began, Carries, MakesAlone}
use Rattle.cx_world.specs.Heads.{with_handlers}
use Rattle.cx_world.specs.Idle.{FindsIdle, NotesIdle, idle_among, idle_at, idle_before, idle_for, idle_lines, is_there, last_failsave, unsaved, why_undropped}
use Rattle.cx_world.specs.declared.idle.IdleLine.{IdleLine}
use Rattle.cx_world.specs.declared.idle.IdleReason.{IdleReason}
use Rattle.cx_world.specs.declared.world.World.{World as Held}
use Rattle.cx_world.proofs.Dropping.{undropped_is}
use Rattle.cx_world.proofs.Started.{after_more}

-- what is found at a line: before it is carried out, and by how many entries it came to
pub noted_at : {handlers : Handlers} (held new : Held) (last : Option ℕ) (line : Numbered) (old before found : List IdleLine)
    → before ≡ old ++ idle_before held.wires held.left last line
    → MakesAlone handlers held new (λ w. after_line w line)
    → found ≡ before ++ idle_for line.number (why_undropped line.line (not (length new.told.journal == length held.told.journal)))
    → NotesIdle handlers held last line old found
noted_at {handlers} held new last line old before found first acts second =
    λ (b : Began handlers) (w : World) (k : Carries b None held w).
    let wires : idle_before held.wires held.left last line ≡ idle_before w.wires w.left last line =
    ap (λ (wires : List Wire). idle_before wires held.left last line) k.wires ∙ ap (λ (left : Option LeftState). idle_before w.wires left last line) k.left in
    let drops : why_undropped line.line (not (length new.told.journal == length held.told.journal)) ≡ why_undropped line.line (is_there w line.line) =
    undropped_is b held new w line.number line.line k (acts b w k) in
    second
    ∙ ap (λ (lines : List IdleLine). lines ++ idle_for line.number (why_undropped line.line (not (length new.told.journal == length held.told.journal))))
    (first ∙ ap (λ (lines : List IdleLine). old ++ lines) wires)
    ∙ ap (λ (why : Option IdleReason). (old ++ idle_before w.wires w.left last line) ++ idle_for line.number why) drops
    ∙ append_assoc old (idle_before w.wires w.left last line) (idle_for line.number (why_undropped line.line (is_there w line.line)))

-- these of so many lines do nothing, and the others are still to be looked at: no save came behind the line `last` by which one was to fail
abbrev pub FindsSoFar : Handlers → Held → List Numbered → ℕ → Option ℕ → List IdleLine → Type 0
FindsSoFar handlers held lines i last found =
    (b : Began handlers) (w : World) → Carries b None held w → found ++ idle_among (after_lines w (take i lines)) last (drop i lines) ≡ idle_among w None lines

-- one line more
pub found_more : {handlers : Handlers} (old mid : Held) (lines : List Numbered) (i : ℕ) (line : Numbered) (last next : Option ℕ) (found more : List IdleLine)
    → i < length lines → line ≡ get_or lines i line
    → MakesAlone handlers old mid (λ w. after_lines w (take i lines)) → FindsSoFar handlers old lines i last found
    → NotesIdle handlers mid last line found more → next ≡ last_failsave last line
    → FindsSoFar handlers old lines (i + 1) next more
found_more {handlers} old mid lines i line last next found more h e acts finds notes is =
    let longer : take (i + 1) lines ≡ take i lines ++ line ∷ [] = take_more lines i line h ∙ ap (λ (y : Numbered). take i lines ++ y ∷ []) (sym e) in
    let rest : drop i lines ≡ line ∷ drop (i + 1) lines = drop_more lines i line h ∙ ap (λ (y : Numbered). y ∷ drop (i + 1) lines) (sym e) in
    λ (b : Began handlers) (w : World) (k : Carries b None old w).
    let here : World = after_lines w (take i lines) in
    let behind : after_lines w (take (i + 1) lines) ≡ after_line here line = ap (after_lines w) longer ∙ after_more w (take i lines) line in
    let others : List IdleLine = idle_among (after_line here line) (last_failsave last line) (drop (i + 1) lines) in
    ap (λ (x : World). more ++ idle_among x next (drop (i + 1) lines)) behind
    ∙ ap (λ (n : Option ℕ). more ++ idle_among (after_line here line) n (drop (i + 1) lines)) is
    ∙ ap (λ (lines : List IdleLine). lines ++ others) (notes b here (acts b w k))
    ∙ append_assoc found (idle_at here last line) others
    ∙ ap (λ (ls : List Numbered). found ++ idle_among here last ls) (sym rest)
    ∙ finds b w k

-- of all, with what is told at the end
pub found_all : {handlers : Handlers} (old mid : Held) (lines : List Numbered) (i : ℕ) (last : Option ℕ) (found more : List IdleLine) → length lines ≤ i
    → MakesAlone handlers old mid (λ w. after_lines w (take i lines)) → FindsSoFar handlers old lines i last found → more ≡ found ++ unsaved mid.left last
    → FindsIdle handlers old lines more
found_all {handlers} old mid lines i last found more h acts finds is =
    λ (b : Began handlers) (w : World) (k : Carries b None old w).
    let here : World = after_lines w (take i lines) in
    is
    ∙ ap (λ (left : Option LeftState). found ++ unsaved left last) (acts b w k).left
    ∙ ap (λ (ls : List Numbered). found ++ idle_among here last ls) (sym (drop_all i lines h))
    ∙ finds b w k

-- of those of a schedule
pub found_of : (handlers : Handlers) (setup : Setup) (script : List Numbered) (first : Held) (found : List IdleLine) → with_handlers handlers setup ≡ setup_of handlers script
    → Carries (began (with_handlers handlers setup)) None first (opening_world (with_handlers handlers setup))
    → FindsIdle handlers first script found → found ≡ idle_lines handlers script
found_of handlers setup script first found is begins finds =
    finds (began (with_handlers handlers setup)) (opening_world (with_handlers handlers setup)) begins ∙ ap (λ (s : Setup). idle_among (opening_world s) None script) is
