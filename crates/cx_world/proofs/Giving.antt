-- A world behind an event of one node.
use Rattle.std.proofs.Common.{◌≡◌, ℕ, ◌+◌, ◌≤◌, Bool, true, false, List, [], ◌∷◌, ◌++◌, length, map, Option, Some, None, refl, sym, subst, ap, ◌∙◌, arith, append-nil, append_assoc, length-append}
use Rattle.std.specs.Prelude.{◌==◌, ◌||◌, not}
use Rattle.std.proofs.lemmas.Bool.Decides.{nat_tests}
use Rattle.std.proofs.lemmas.List.{map-append}
use Rattle.cx_desk.specs.Handlers.{Handlers}
use Rattle.cx_journal.specs.declared.entries.Entry.{Entry}
use Rattle.cx_base.specs.declared.nodes.NodeName.{NodeName}
use Rattle.cx_world.proofs.actors.Keyed.{key_found, same_node_is}
use Rattle.cx_world.specs.actors.Held.{IsGiven, is_posted}
use Rattle.cx_world.specs.declared.made.Made.{Made}
use Rattle.cx_world.specs.declared.nodes.Nodes.{Nodes as HeldNodes}
use Rattle.cx_premises.specs.Ledgers.{StandsFor}
use Rattle.cx_world_start.specs.cx_rules.specs.Inputs.{Input}
use Rattle.cx_world_start.specs.cx_run.specs.Deliveries.{Given, given, gives}
use Rattle.cx_world_start.specs.cx_run.specs.Happenings.{Entered, Happening, Nodes, Stepped, entered_by, journal_from, logged_by, nodes_behind, seals_from, steps}
use Rattle.cx_world_start.specs.cx_run.specs.Wires.{same_node}
use Rattle.cx_world_start.specs.cx_run.specs.Worlds.{Post, World, happened, happening, post_of}
use Rattle.cx_steps.specs.Nothing.{nothing}
use Rattle.cx_steps.specs.declared.effects.Effects.{Effects}
use Rattle.cx_steps.specs.declared.seals.Logged.{Logged}
use Rattle.cx_steps.specs.declared.seals.SealEntry.{SealEntry}
use Rattle.cx_world.specs.Carried.{Began, Carries, HasStirred, IsGivenTo, IsNoted, without_told}
use Rattle.cx_world.specs.Logs.{logged_at}
use Rattle.cx_world.specs.declared.world.World.{World as Held}

-- ---- one event more

nodes_more : (start : Nodes) (hs : List Happening) (h : Happening) → nodes_behind start (hs ++ h ∷ []) ≡ (steps (nodes_behind start hs) h).nodes
nodes_more start [] h = refl
nodes_more start (x ∷ hs) h = nodes_more (steps start x).nodes hs h

pub journal_more : (start : Nodes) (hs : List Happening) (h : Happening) → journal_from start (hs ++ h ∷ []) ≡ journal_from start hs ++ entered_by h (steps (nodes_behind start hs) h).out
journal_more start [] h = append-nil (entered_by h (steps start h).out)
journal_more start (x ∷ hs) h =
    ap (λ (es : List Entered). entered_by x (steps start x).out ++ es) (journal_more (steps start x).nodes hs h)
    ∙ sym (append_assoc (entered_by x (steps start x).out) (journal_from (steps start x).nodes hs) (entered_by h (steps (nodes_behind (steps start x).nodes hs) h).out))

seals_more : (start : Nodes) (hs : List Happening) (h : Happening) → seals_from start (hs ++ h ∷ []) ≡ seals_from start hs ++ logged_by h (steps (nodes_behind start hs) h).out
seals_more start [] h = append-nil (logged_by h (steps start h).out)
seals_more start (x ∷ hs) h =
    ap (λ (es : List Logged). logged_by x (steps start x).out ++ es) (seals_more (steps start x).nodes hs h)
    ∙ sym (append_assoc (logged_by x (steps start x).out) (seals_from (steps start x).nodes hs) (logged_by h (steps (nodes_behind (steps start x).nodes hs) h).out))

entries_of : (h : Happening) (entries : List Entry) → map (λ (e : Entered). e.entry) (map (λ (e : Entry). let x : Entered = record { line = h.line; reading = h.reading; entry = e } in x) entries) ≡ entries
entries_of h [] = refl
entries_of h (e ∷ entries) = ap (λ (rest : List Entry). e ∷ rest) (entries_of h entries)

-- ---- what is told of it

stirs_more : (seen : Option ℕ) (old new : Bool) (past : List Happening) (h : Happening) → new ≡ true → HasStirred old seen past → HasStirred new seen (past ++ h ∷ [])
stirs_more None old new past h e k = tt
stirs_more (Some n) old new past h e k =
    let l : length (past ++ h ∷ []) ≡ length past + 1 = length-append past (h ∷ []) in
    let m : n ≤ length past = k.0 in
    (omega arith, rw (e, l) (grind (arith, nat_tests)))

stirs_same : (seen : Option ℕ) (old new : Bool) (past : List Happening) → new ≡ old → HasStirred old seen past → HasStirred new seen past
stirs_same None old new past e k = tt
stirs_same (Some n) old new past e k = (k.0, e ∙ k.1)

-- what an event came to, once it was told
abbrev pub told : Made → Made
told made = record made { out = without_told made.out }

module _ {handlers : Handlers} (b : Began handlers) (seen : Option ℕ) (old new : Held) (nodes : HeldNodes) (who : NodeName) (made : Made)
    (noted : (let there : Held = record old { nodes = nodes } in IsNoted who made there new)) (w : World) (k : Carries b seen old w) (input : Input) where
  nothing_came : IsGiven handlers nodes made None (given w input None) → IsGivenTo b seen new (told made) (given w input None)
  nothing_came g =
      let out : made.out ≡ nothing = g.out in
      let quiet : made.happened ≡ false = g.happened in
      let entries : made.out.entries ≡ [] = ap (λ (o : Effects). o.entries) out in
      let seals : made.out.seals ≡ [] = ap (λ (o : Effects). o.seals) out in
      let logged : SealEntry → Logged = λ e. logged_at who old.line e in
      let P : List Logged → Type 0 = StandsFor new.told.ledger b.leaked in
      let log : List Logged = b.log ++ seals_from b.nodes w.past in
      record {
        world = record {
          nodes = rw noted.nodes g.nodes;
          led = k.led;
          wires = noted.wires ∙ k.wires;
          left = noted.left ∙ k.left;
          line = noted.line ∙ k.line;
          told = record {
            journal = noted.journal ∙ ap (λ (es : List Entry). old.told.journal ++ es) entries ∙ append-nil old.told.journal ∙ k.told.journal;
            ledger = subst P (ap (λ (es : List SealEntry). log ++ map logged es) seals ∙ append-nil log) (noted.ledger b.leaked log k.told.ledger);
          };
          stirred = stirs_same seen old.stirred new.stirred w.past (noted.stirred ∙ ap (λ (x : Bool). x || old.stirred) quiet) k.stirred;
        };
        out = ap without_told g.out;
        failed = g.failed;
      }

  something_came : (post : Post) → post_of who w.posts ≡ Some post → IsGiven handlers nodes made (Some post) (given w input (Some post)) → IsGivenTo b seen new (told made) (given w input (Some post))
  something_came post found g =
      let h : Happening = happening w input post in
      let named : post.node ≡ who = same_node_is post.node who (key_found (λ (s : Post). s.node) same_node w.posts who post found) in
      let happens : made.happened ≡ true = g.happened in
      let out : made.out ≡ (steps w.nodes h).out = g.out in
      let start : steps w.nodes h ≡ steps (nodes_behind b.nodes w.past) h = ap (λ (n : Nodes). steps n h) k.led in
      let line : old.line ≡ w.line = k.line in
      let entries : made.out.entries ≡ map (λ (e : Entered). e.entry) (entered_by h (steps (nodes_behind b.nodes w.past) h).out) =
      ap (λ (o : Effects). o.entries) (out ∙ ap (λ (s : Stepped). s.out) start) ∙ sym (entries_of h (steps (nodes_behind b.nodes w.past) h).out.entries) in
      let logged : SealEntry → Logged = λ e. logged_at who old.line e in
      let logs : map logged made.out.seals ≡ logged_by h (steps (nodes_behind b.nodes w.past) h).out =
      ap (λ (n : NodeName). map (λ (e : SealEntry). logged_at n old.line e) made.out.seals) (sym named)
      ∙ ap (λ (l : ℕ). map (λ (e : SealEntry). logged_at post.node l e) made.out.seals) line
      ∙ ap (λ (o : Effects). map (λ (e : SealEntry). logged_at post.node w.line e) o.seals) (out ∙ ap (λ (s : Stepped). s.out) start) in
      let P : List Logged → Type 0 = StandsFor new.told.ledger b.leaked in
      let log : List Logged = b.log ++ seals_from b.nodes w.past in
      record {
        world = record {
          nodes = rw noted.nodes g.nodes;
          led = ap (λ (s : Stepped). s.nodes) start ∙ sym (nodes_more b.nodes w.past h);
          wires = noted.wires ∙ k.wires;
          left = noted.left ∙ k.left;
          line = noted.line ∙ k.line;
          told = record {
            journal = noted.journal ∙ ap (λ (es : List Entry). es ++ made.out.entries) k.told.journal
                ∙ append_assoc b.journal (map (λ (e : Entered). e.entry) (journal_from b.nodes w.past)) made.out.entries
                ∙ ap (λ (es : List Entry). b.journal ++ es) (ap (λ (es : List Entry). map (λ (e : Entered). e.entry) (journal_from b.nodes w.past) ++ es) entries
                ∙ sym (map-append (λ (e : Entered). e.entry) (journal_from b.nodes w.past) (entered_by h (steps (nodes_behind b.nodes w.past) h).out))
                ∙ ap (λ (es : List Entered). map (λ (e : Entered). e.entry) es) (sym (journal_more b.nodes w.past h)));
            ledger = subst P (ap (λ (es : List Logged). log ++ es) logs ∙ append_assoc b.log (seals_from b.nodes w.past) (logged_by h (steps (nodes_behind b.nodes w.past) h).out)
                ∙ ap (λ (es : List Logged). b.log ++ es) (sym (seals_more b.nodes w.past h))) (noted.ledger b.leaked log k.told.ledger);
          };
          stirred = stirs_more seen old.stirred new.stirred w.past h (noted.stirred ∙ ap (λ (x : Bool). x || old.stirred) happens) k.stirred;
        };
        out = ap without_told g.out;
        failed = g.failed;
      }

  pub given_to : IsGiven handlers nodes made (post_of who w.posts) (gives w who input) → IsGivenTo b seen new (told made) (gives w who input)
  given_to g = by (post_of who w.posts) refl g
    where
      by : (post : Option Post) → post_of who w.posts ≡ post → IsGiven handlers nodes made post (given w input post) → IsGivenTo b seen new (told made) (given w input post)
      by None e g = nothing_came g
      by (Some post) e g = something_came post e g
