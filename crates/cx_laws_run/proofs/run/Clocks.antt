-- The readings of a run are those that its clocks are told, each of which has a spelling.
use Rattle.std.proofs.Common.{◌≡◌, ◌<◌, ℕ, Bool, true, false, List, [], ◌∷◌, Option, Some, None, refl, sym, subst, arith, ltb-true}
use Rattle.std.specs.Prelude.{map, suc, if◌then◌else◌}
use Rattle.std.specs.List.{AllByRecursion, list_all}
use Rattle.cx_base.specs.declared.nodes.NodeName.{NodeName}
use Rattle.cx_desk.specs.Handlers.{Handlers}
use Rattle.cx_enc.specs.FieldLaws.{both_true}
use Rattle.cx_schedule.specs.cx_lines.specs.Lines.{is_in_range, is_numbered_in_range}
use Rattle.cx_schedule.specs.cx_lines.specs.declared.commands.LineCommand.{LineCommand}
use Rattle.cx_schedule.specs.cx_lines.specs.declared.commands.LineCommand.TheVariants as command
use Rattle.cx_schedule.specs.cx_lines.specs.declared.lines.Line.{Line}
use Rattle.cx_schedule.specs.cx_lines.specs.declared.lines.Line.TheVariants as line
use Rattle.cx_schedule.specs.cx_lines.specs.declared.lines.Numbered.{Numbered}
use Rattle.cx_schedule.specs.cx_lines.specs.declared.node_steps.NodeStep.TheVariants as step
use Rattle.cx_laws_links.specs.cx_laws_tickets.specs.cx_rules.specs.Inputs.{Input, Submit}
use Rattle.cx_laws_links.specs.cx_laws_tickets.specs.cx_run.specs.Happenings.{Happening}
use Rattle.cx_laws_links.specs.cx_laws_tickets.specs.cx_run.specs.Opening.{Declared, opening_world, post_for}
use Rattle.cx_laws_links.specs.cx_laws_tickets.specs.cx_run.specs.Runs.{setup_of, trace}
use Rattle.cx_laws_links.specs.cx_laws_tickets.specs.cx_run.specs.Wires.{same_node}
use Rattle.cx_laws_links.specs.cx_laws_tickets.specs.cx_run.specs.Worlds.{Post, World, happening, post_of, with_post}
use Rattle.cx_laws_links.specs.cx_laws_tickets.specs.cx_laws_keys.proofs.keys.Lists.{all-append, found_all}
use Rattle.cx_laws_links.specs.cx_laws_tickets.specs.cx_run.specs.Deliveries.{given, gives}
use Rattle.cx_laws_links.specs.cx_laws_tickets.specs.cx_run.proofs.Walking.{ReadsOnlyAt, kept-after_told}
use Rattle.cx_laws_links.specs.cx_laws_tickets.specs.cx_run.specs.Sending.{ComesWith, SendsOnly, SendsOnlyAt}
use Rattle.cx_base.specs.declared.operations.Operation.{Operation}

-- a reading below 4,000,000,000 s
abbrev IsLow : ℕ → Type 0
IsLow reading = reading < 4000000000000000000

-- each clock tells such a reading, and each event had one
record Low (w : World) : Type 0 where
  posts : AllByRecursion (λ (post : Post). IsLow post.reading) w.posts
  past : AllByRecursion (λ (h : Happening). IsLow h.reading) w.past

-- any operation is sent
abbrev AnySent : Operation → Type 0
AnySent operation = Unit {0}

-- the same clocks and the same past
like : (w v : World) → v.posts ≡ w.posts → v.past ≡ w.past → Low w → Low v
like w v posts past k = record {
  posts = subst (λ (ps : List Post). AllByRecursion (λ (post : Post). IsLow post.reading) ps) (sym posts) k.posts;
  past = subst (λ (hs : List Happening). AllByRecursion (λ (h : Happening). IsLow h.reading) hs) (sym past) k.past;
}

with-low : (posts : List Post) (post : Post) → IsLow post.reading → AllByRecursion (λ (p : Post). IsLow p.reading) posts
    → AllByRecursion (λ (p : Post). IsLow p.reading) (with_post posts post)
with-low [] post low h = tt
with-low (p ∷ posts) post low h = (by_test (same_node p.node post.node), with-low posts post low h.1)
  where
    by_test : (t : Bool) → IsLow (if t then post else p).reading
    by_test true = low
    by_test false = h.0

-- one event more
given-keeps : (w : World) (input : Input) (found : Option Post) → ((post : Post) → found ≡ Some post → IsLow post.reading) → Low w → Low (given w input found).world
given-keeps w input None low k = k
given-keeps w input (Some post) low k = record {
  posts = with-low w.posts (record post { rolled = suc post.rolled }) (low post refl) k.posts;
  past = all-append (λ (h : Happening). IsLow h.reading) w.past (happening w input post ∷ []) k.past (low post refl, tt);
}

kept-gives : (w : World) (who : NodeName) (input : Input) → ComesWith AnySent input → Low w → Low (gives w who input).world
kept-gives w who input comes k =
    given-keeps w input (post_of who w.posts) (λ post is. found_all (λ (p : Post). IsLow p.reading) (λ (p : Post). same_node p.node who) w.posts post k.posts is) k

all-read : (reading : ℕ) (posts : List Post) → IsLow reading → AllByRecursion (λ (p : Post). IsLow p.reading) (map (λ (post : Post). record post { reading = reading }) posts)
all-read reading [] low = tt
all-read reading (p ∷ posts) low = (low, all-read reading posts low)

one-reads : (who : NodeName) (reading : ℕ) (posts : List Post) → IsLow reading → AllByRecursion (λ (p : Post). IsLow p.reading) posts
    → AllByRecursion (λ (p : Post). IsLow p.reading) (map (λ (post : Post). if same_node post.node who then record post { reading = reading } else post) posts)
one-reads who reading [] low h = tt
one-reads who reading (p ∷ posts) low h = (by_test (same_node p.node who), one-reads who reading posts low h.1)
  where
    by_test : (t : Bool) → IsLow (if t then record p { reading = reading } else p).reading
    by_test true = low
    by_test false = h.0

-- ---- lines

line-sends : (l : Line) → SendsOnlyAt AnySent l
line-sends (line.Submit c) = by_command c
  where
    by_command : (c : LineCommand) → SendsOnly AnySent c
    by_command (command.Send client daemon operation) = tt
    by_command _ = tt
line-sends (line.Do c) = by_command c
  where
    by_command : (c : LineCommand) → SendsOnly AnySent c
    by_command (command.Send client daemon operation) = tt
    by_command _ = tt
line-sends _ = tt

line-reads : (l : Line) → is_in_range l ≡ true → ReadsOnlyAt IsLow l
line-reads (line.Node (step.Clock reading)) within = ltb-true reading 4000000000000000000 within
line-reads (line.Node (step.ClockOf who reading)) within = ltb-true reading 4000000000000000000 within
line-reads _ within = tt

lines-send : (lines : List Numbered) → AllByRecursion (λ (l : Numbered). SendsOnlyAt AnySent l.line) lines
lines-send [] = tt
lines-send (l ∷ lines) = (line-sends l.line, lines-send lines)

lines-read : (lines : List Numbered) → list_all is_numbered_in_range lines ≡ true → AllByRecursion (λ (l : Numbered). ReadsOnlyAt IsLow l.line) lines
lines-read [] within = tt
lines-read (l ∷ lines) within =
    let both = both_true (is_in_range l.line) (list_all is_numbered_in_range lines) within in (line-reads l.line both.0, lines-read lines both.1)

-- all clocks begin at 0
posts-low : (es : List Declared) → AllByRecursion (λ (p : Post). IsLow p.reading) (map post_for es)
posts-low [] = tt
posts-low (e ∷ es) = (omega arith, posts-low es)

pub trace-low : (handlers : Handlers) (script : List Numbered) → list_all is_numbered_in_range script ≡ true
    → AllByRecursion (λ (h : Happening). h.reading < 4000000000000000000) (trace handlers script)
trace-low handlers script within =
    (kept-after_told AnySent IsLow Low (λ w v nodes posts past. like w v posts past) kept-gives
    (λ w reading low k. record { posts = all-read reading w.posts low; past = k.past })
    (λ w who reading low k. record { posts = one-reads who reading w.posts low k.posts; past = k.past })
    (opening_world (setup_of handlers script)) script (lines-send script) (lines-read script within)
    (record { posts = (omega arith, posts-low (setup_of handlers script).entities); past = tt })).past
