-- What is kept while the monitor runs, where a save fails, and how the monitor that starts behind it begins.
use Rattle.std.proofs.Common.{ℕ, ◌≡◌, ◌∙◌, Bool, true, false, List, [], ◌∷◌, ◌++◌, length, Option, Some, None, inl, inr, refl, sym, ap, subst}
use Rattle.std.specs.Prelude.{◌⊎◌, if◌then◌else◌}
use Rattle.std.proofs.lemmas.List.{append-nil}
use Rattle.cx_base.specs.declared.addresses.Addr.{Addr}
use Rattle.cx_command_line.specs.declared.commands.MonitorCommand.{MonitorCommand}
use Rattle.cx_drive.specs.Agendas.{opening_agenda}
use Rattle.cx_drive.specs.Courses.{Came, Ending, IsCourse, IsEnding, Taken, Through, Took, Undrawn, Unlinked, Unsaved, Wanting, WantingIn, acts_from, agenda_after, ending_acts, entries_from, node_after}
use Rattle.cx_drive.specs.Held.{lost_monitor, no_peers, regard_monitor}
use Rattle.cx_drive.specs.Steps.{Opening, Sending, address_of, carried_acts, handed_acts, is_gone, lost_acts, open_act, open_acts, regard_act, regard_acts, saved_acts, send_act, send_acts, shut_acts, told_acts, went_effects, went_node, with_send}
use Rattle.cx_drive.specs.declared.ends.Ended.{Ended}
use Rattle.cx_drive.specs.declared.ends.Ended.TheVariants as ended
use Rattle.cx_drive.specs.declared.flow.Order.{Order}
use Rattle.cx_drive.specs.declared.peers.Peers.{Peers}
use Rattle.cx_drive.specs.declared.stops.Stop.TheVariants as stop
use Rattle.cx_enc.proofs.Wholes.{nothing_left, read_again}
use Rattle.cx_enc.specs.Whole.{Spells}
use Rattle.cx_journal.specs.declared.entries.Entry.{Entry}
use Rattle.cx_keep.specs.Formats.{Stored, lives_in, lives_of as lives_stored, state_of, state_text, stored_layout}
use Rattle.cx_keep.specs.Slots.{Kept, with_slot}
use Rattle.cx_keep.specs.declared.keeper.Slot.TheVariants.{State}
use Rattle.cx_keyserver.specs.Servers.{Server}
use Rattle.cx_outside.specs.linking.Acts.{LinkAct, Listened}
use Rattle.cx_outside.specs.declared.regard.Regard.{Regard}
use Rattle.cx_loading.specs.Loading.{HasState, IsStateOf}
use Rattle.cx_loading.specs.declared.ends.NodeEnd.{NodeEnd}
use Rattle.cx_loading.specs.declared.ends.NodeEnd.TheVariants as end
use Rattle.cx_rotate.specs.declared.states.KeptState.{KeptState}
use Rattle.cx_rules.specs.Inputs.{Input}
use Rattle.cx_rules.specs.Monitor.{MonitorNode}
use Rattle.cx_rules.specs.MonitorRule.{is_idle, monitor_rule, opening_monitor}
use Rattle.cx_rules.specs.Rows.{Outcome}
use Rattle.cx_outside.specs.site.Acts.{Act, Linked, Read, Rolled, Saved}
use Rattle.cx_outside.specs.site.Telling.{IsSpelled, Keeps, Walk}
use Rattle.cx_steps.specs.declared.effects.Effects.{Effects}
use Rattle.cx_drive_commands.specs.nodes.Monitors.{HasServer, MonitorEnds, MonitorLoad, MonitorRan, lives_of}
use Rattle.cx_drive_commands.specs.nodes.Outside.{Outside, Tells}
use Rattle.cx_drive_commands.specs.nodes.Runs.{Listens, end_by}
use Rattle.cx_drive_commands.specs.nodes.Stops.{AreAlike, BeginsWith, HoldsLives, IsStopped, KeepsUp, kept_behind, last_saved}

-- ---- all saves before the last went well

abbrev WentWell : Act → Type 0
WentWell (Saved state true) = Unit {0}
WentWell (Saved state false) = ⊥
WentWell (Linked act) = Unit {0}
WentWell (Read reading) = Unit {0}
WentWell (Rolled draw) = Unit {0}

abbrev AllWell : List Act → Type 0
AllWell [] = Unit {0}
AllWell (act ∷ acts) = WentWell act × AllWell acts

both_well : (xs ys : List Act) → AllWell xs → AllWell ys → AllWell (xs ++ ys)
both_well [] ys p q = q
both_well (x ∷ xs) ys p q = (p.0, both_well xs ys p.1 q)

front_well : (xs ys : List Act) → AllWell (xs ++ ys) → AllWell xs
front_well [] ys p = tt
front_well (x ∷ xs) ys p = (p.0, front_well xs ys p.1)

send_well : (skipped : Bool) (s : Sending) → AllWell (send_act skipped s)
send_well true s = tt
send_well false s = (tt, tt)

sends_well : (gone : List ℕ) (ss : List Sending) → AllWell (send_acts gone ss)
sends_well gone [] = tt
sends_well gone (s ∷ ss) =
    both_well (send_act (is_gone gone s.piece.link) s) (send_acts (with_send (is_gone gone s.piece.link) gone s) ss)
    (send_well (is_gone gone s.piece.link) s) (sends_well (with_send (is_gone gone s.piece.link) gone s) ss)

open_well : (at : Option Addr) (o : Opening) → AllWell (open_act at o)
open_well None o = tt
open_well (Some at) o = (tt, tt)

opens_well : (peers : Peers) (os : List Opening) → AllWell (open_acts peers os)
opens_well peers [] = tt
opens_well peers (o ∷ os) = both_well (open_act (address_of peers o.peer) o) (open_acts peers os) (open_well (address_of peers o.peer) o) (opens_well peers os)

shuts_well : (links : List ℕ) → AllWell (shut_acts links)
shuts_well [] = tt
shuts_well (link ∷ links) = (tt, shuts_well links)

lost_well : (link : Option ℕ) → AllWell (lost_acts link)
lost_well None = tt
lost_well (Some link) = (tt, tt)

save_well : (save : Option KeptState) → AllWell (saved_acts save)
save_well None = tt
save_well (Some state) = (tt, tt)

handed_well : (peers : Peers) (out : Effects) (ss : List Sending) (os : List Opening) → AllWell (handed_acts peers out ss os)
handed_well peers out ss os =
    both_well (send_acts [] ss) (open_acts peers os ++ (shut_acts out.shuts ++ lost_acts out.lost)) (sends_well [] ss)
    (both_well (open_acts peers os) (shut_acts out.shuts ++ lost_acts out.lost) (opens_well peers os)
    (both_well (shut_acts out.shuts) (lost_acts out.lost) (shuts_well out.shuts) (lost_well out.lost)))

regard_well : (link : ℕ) (regard : Option Regard) → AllWell (regard_act link regard)
regard_well link None = tt
regard_well link (Some regard) = (tt, tt)

regards_well : (regards : ℕ → Option Regard) (links : List ℕ) → AllWell (regard_acts regards links)
regards_well regards [] = tt
regards_well regards (link ∷ links) =
    both_well (regard_act link (regards link)) (regard_acts regards links) (regard_well link (regards link)) (regards_well regards links)

carried_well : (peers : Peers) (out : Effects) (ss : List Sending) (os : List Opening) → AllWell (carried_acts peers out ss os)
carried_well peers out ss os = both_well (saved_acts out.save) (handed_acts peers out ss os) (save_well out.save) (handed_well peers out ss os)

module _ {S : Type 0} (rule : S → Input → ℕ → List ℕ → Outcome S) (lost : S → Input → S) (regards : S → ℕ → Option Regard) (peers : Peers) where
  acts_well : (s : S) (ts : List Taken) → AllWell (acts_from rule lost regards peers s ts)
  acts_well s [] = tt
  acts_well s (Came event bytes ∷ ts) = (tt, acts_well s ts)
  acts_well s (Took input went ∷ ts) =
      let out : Effects = went_effects rule lost s input went in
      let next : S = went_node rule lost s input went in
      let told : List Act = told_acts (regards next) input out in (
        tt,
        (
          tt,
          both_well (carried_acts peers out went.sends went.opens ++ told) (acts_from rule lost regards peers next ts)
              (both_well (carried_acts peers out went.sends went.opens) told (carried_well peers out went.sends went.opens)
              (regards_well (regards next) _))
              (acts_well next ts),
        ),
      )

-- ---- what is kept

module _ {X : Type 0} (leads : X → Act → X → Type 0) where
  first_of : (a c : X) (x : Act) (xs : List Act) → Walk leads a (x ∷ xs) c → (b : X) × leads a x b × Walk leads b xs c
  first_of a c x [] p = (c, p, refl)
  first_of a c x (y ∷ ys) p = p

  apart : (a c : X) (xs ys : List Act) → Walk leads a (xs ++ ys) c → (b : X) × Walk leads a xs b × Walk leads b ys c
  apart a c [] ys p = (a, refl, p)
  apart a c (x ∷ []) ys p = first_of a c x ys p
  apart a c (x ∷ y ∷ xs) ys (between, leads, p) =
      let more = apart between c (y ∷ xs) ys p in
      (more.0, (between, leads, more.1), more.2)

module _ (lives : ℕ × ℕ) where
  -- what is kept behind acts of which each save went well spells what was saved last
  abbrev StandsKept : Kept → KeptState → List Act → Option Kept → Type 0
  StandsKept kept state acts now = (now ≡ Some (kept_behind kept acts)) × IsStateOf lives (kept_behind kept acts).state (last_saved state acts)

  one_on : (kept : Kept) (state : KeptState) (act : Act) (acts : List Act) (between now : Option Kept) → WentWell act → IsStateOf lives kept.state state
      → ((next : Kept) (saved : KeptState) → between ≡ Some next → IsStateOf lives next.state saved → StandsKept next saved acts now)
      → Keeps (Some kept) act between → StandsKept kept state (act ∷ acts) now
  one_on kept state (Saved next true) acts between now well stands more told = more (with_slot State (state_text next) kept) next told.1 (told.0 lives)
  one_on kept state (Saved next false) acts between now well stands more told = absurd well
  one_on kept state (Linked act) acts between now well stands more told = more kept state told stands
  one_on kept state (Read reading) acts between now well stands more told = more kept state told stands
  one_on kept state (Rolled draw) acts between now well stands more told = more kept state told stands

  pub kept_on : (kept : Kept) (state : KeptState) (acts : List Act) (now : Option Kept) → AllWell acts → IsStateOf lives kept.state state
      → Walk Keeps (Some kept) acts now → StandsKept kept state acts now
  kept_on kept state [] now well stands told = (told, stands)
  kept_on kept state (act ∷ acts) now well stands told =
      let first = first_of Keeps (Some kept) now act acts told in
      one_on kept state act acts first.0 now well.0 stands
      (λ next saved is stood. kept_on next saved acts now well.1 stood (subst (λ (b : Option Kept). Walk Keeps b acts now) is first.2)) first.1

  -- and so it is at each moment
  pub keeps_up : (kept : Kept) (state : KeptState) (acts : List Act) (now : Option Kept) → AllWell acts → IsStateOf lives kept.state state
      → Walk Keeps (Some kept) acts now → KeepsUp lives kept state acts
  keeps_up kept state acts now well stands told = λ front rest is.
      let parts = apart Keeps (Some kept) now front rest (subst (λ (xs : List Act). Walk Keeps (Some kept) xs now) is told) in
      (kept_on kept state front parts.0 (front_well front rest (subst AllWell is well)) stands parts.1).1

  -- what was loaded, of a keeper that tells what it keeps
  of_kept : (kept : Kept) (state : KeptState) → HasState lives (Some kept) state → IsStateOf lives kept.state state
  of_kept kept state (loaded, is, stands) = subst (λ (l : Option (List ℕ)). IsStateOf lives l state) is stands

  pub loaded_state : (kept : Kept) (at : Option Kept) (state : KeptState) → at ≡ Some kept → HasState lives at state → IsStateOf lives kept.state state
  loaded_state kept at state is has = of_kept kept state (subst (λ (k : Option Kept). HasState lives k state) is has)

-- ---- the save that failed

-- a roll, a reading and a save that failed, behind which the old bytes are kept or the new ones
failed : (kept : Kept) (now : Option Kept) (draw : Option (List ℕ)) (reading : ℕ) (state : KeptState)
    → Walk Keeps (Some kept) (Rolled draw ∷ Read reading ∷ Saved state false ∷ []) now
    → IsSpelled state × ((now ≡ Some kept) ⊎ (now ≡ Some (with_slot State (state_text state) kept)))
failed kept now draw reading state (first, is, (second, same, told)) =
    subst (λ (k : Option Kept). Keeps k (Saved state false) now) (same ∙ is) told

ended_so : (short : Bool) (how : Ended) → end.Keeper ≡ (if short then end.OutOfMemory else end_by how) → how ≡ ended.Stopped stop.Keeper
ended_so true how e = absurd cc
ended_so false ended.Done e = absurd cc
ended_so false ended.Links e = absurd cc
ended_so false (ended.Stopped stop.Dice) e = absurd cc
ended_so false (ended.Stopped stop.Keeper) e = refl
ended_so false (ended.Stopped stop.Memory) e = absurd cc

module _ {L : Type 0} (follows : L → L → List LinkAct → Type 0) (command : MonitorCommand) (a b : Outside L) (kept : Kept) (is_kept : a.kept ≡ Some kept) where
  -- of the run of a monitor: what it did, as the keeper tells it from what was kept
  told_kept : (acts : List Act) → Tells follows a b (Linked (Listened command.listen true) ∷ acts) → Walk Keeps (Some kept) acts b.kept
  told_kept acts told =
      let first = first_of Keeps a.kept b.kept (Linked (Listened command.listen true)) acts told.0.0 in
      subst (λ (k : Option Kept). Walk Keeps k acts b.kept) (first.1 ∙ is_kept) first.2

  -- the run of a monitor keeps what it saved
  pub run_keeps : (server : Server) (trace : List Taken) (ending : Ending) → HasServer command a.kept server
      → Tells follows a b (Linked (Listened command.listen true) ∷ (acts_from monitor_rule lost_monitor regard_monitor no_peers (opening_monitor server command.listen) trace ++ ending_acts ending))
      → KeepsUp (lives_of command) kept server.state (acts_from monitor_rule lost_monitor regard_monitor no_peers (opening_monitor server command.listen) trace)
  run_keeps server trace ending has told =
      let node : MonitorNode = opening_monitor server command.listen in
      let acts : List Act = acts_from monitor_rule lost_monitor regard_monitor no_peers node trace in
      let parts = apart Keeps (Some kept) b.kept acts (ending_acts ending) (told_kept (acts ++ ending_acts ending) told) in
      keeps_up (lives_of command) kept server.state acts parts.0 (acts_well monitor_rule lost_monitor regard_monitor no_peers node trace)
      (loaded_state (lives_of command) kept a.kept server.state is_kept has.state) parts.1

module _ {L : Type 0} (follows : L → L → List LinkAct → Type 0) (command : MonitorCommand) (bytes : List ℕ) (a b : Outside L) (kept : Kept) (is_kept : a.kept ≡ Some kept) where
  -- a run that ended since a save failed
  by_ending : (orders : List Order) (server : Server) (load : MonitorLoad command bytes a.kept orders server) (trace : List Taken)
      → IsCourse monitor_rule lost_monitor is_idle no_peers (opening_monitor server command.listen) (opening_agenda orders command.events) trace
      → (ending : Ending) (how : Ended) (entries : List Entry) → how ≡ ended.Stopped stop.Keeper
      → IsEnding monitor_rule lost_monitor (node_after monitor_rule lost_monitor no_peers (opening_monitor server command.listen) trace)
      (agenda_after monitor_rule lost_monitor is_idle no_peers (opening_monitor server command.listen) (opening_agenda orders command.events) trace) ending how
      → entries ≡ entries_from monitor_rule lost_monitor no_peers (opening_monitor server command.listen) trace
      → Tells follows a b (Linked (Listened command.listen true) ∷ (acts_from monitor_rule lost_monitor regard_monitor no_peers (opening_monitor server command.listen) trace ++ ending_acts ending))
      → IsStopped follows command bytes a b kept entries
  by_ending orders server load trace course Through how entries is (other, over) entered told = absurd (differ how other is)
    where
      differ : (how : Ended) → how ≡ ended.Done → how ≡ ended.Stopped stop.Keeper → ⊥
      differ how p q = cc
  by_ending orders server load trace course Unlinked how entries is (other, awaits) entered told = absurd (differ how other is)
    where
      differ : (how : Ended) → how ≡ ended.Links → how ≡ ended.Stopped stop.Keeper → ⊥
      differ how p q = cc
  by_ending orders server load trace course (Undrawn input) how entries is (other, turn) entered told = absurd (differ how other is)
    where
      differ : (how : Ended) → how ≡ ended.Stopped stop.Dice → how ≡ ended.Stopped stop.Keeper → ⊥
      differ how p q = cc
  by_ending orders server load trace course Wanting how entries is other entered told = absurd (differ how other is)
    where
      differ : (how : Ended) → how ≡ ended.Stopped stop.Memory → how ≡ ended.Stopped stop.Keeper → ⊥
      differ how p q = cc
  by_ending orders server load trace course (WantingIn input reading draw short) how entries is (other, turn) entered told = absurd (differ how other is)
    where
      differ : (how : Ended) → how ≡ ended.Stopped stop.Memory → how ≡ ended.Stopped stop.Keeper → ⊥
      differ how p q = cc
  by_ending orders server load trace course (Unsaved input reading draw state) how entries is (same, turn, due) entered told =
      let node : MonitorNode = opening_monitor server command.listen in
      let acts : List Act = acts_from monitor_rule lost_monitor regard_monitor no_peers node trace in
      let tail : List Act = Rolled (Some draw) ∷ Read reading ∷ Saved state false ∷ [] in
      let parts = apart Keeps (Some kept) b.kept acts tail (told_kept follows command a b kept is_kept (acts ++ tail) told) in
      let stands = kept_on (lives_of command) kept server.state acts parts.0 (acts_well monitor_rule lost_monitor regard_monitor no_peers node trace)
      (loaded_state (lives_of command) kept a.kept server.state is_kept load.is_server.state) parts.1 in
      let last = failed (kept_behind kept acts) b.kept (Some draw) reading state (subst (λ (k : Option Kept). Walk Keeps k tail b.kept) stands.0 parts.2) in
      record {
        orders = orders;
        server = server;
        load = load;
        trace = trace;
        course = course;
        input = input;
        reading = reading;
        draw = draw;
        state = state;
        turn = turn;
        spelled = last.0;
        due = due;
        acts = told;
        entered = entered;
        keeps = run_keeps follows command a b kept is_kept server trace (Unsaved input reading draw state) load.is_server told;
        left = last.1;
      }

  by_listens : (orders : List Order) (server : Server) (entries : List Entry) → MonitorLoad command bytes a.kept orders server
      → Listens follows monitor_rule lost_monitor is_idle regard_monitor no_peers command.listen a b (opening_monitor server command.listen) orders command.events end.Keeper entries
      → IsStopped follows command bytes a b kept entries
  by_listens orders server entries load (inr deaf) = absurd (differ deaf.ended)
    where
      differ : end.Keeper ≡ end.Links → ⊥
      differ e = cc
  by_listens orders server entries load (inl runs) =
      by_ending orders server load runs.run.trace runs.run.course runs.run.ending runs.driven.ended entries (ended_so runs.driven.short runs.driven.ended runs.ended)
      runs.run.ends runs.run.more runs.run.acts

  pub stopped_by : (ending : NodeEnd) (entries : List Entry) → ending ≡ end.Keeper → MonitorEnds follows command bytes a b ending entries → IsStopped follows command bytes a b kept entries
  stopped_by ending entries is ends = by_ran (subst (λ (e : NodeEnd). MonitorEnds follows command bytes a b e entries) is ends)
    where
      by_ran : MonitorRan follows command bytes a b end.Keeper entries → IsStopped follows command bytes a b kept entries
      by_ran ran = by_listens ran.orders ran.server entries ran.load ran.listens

-- ---- the monitor that starts behind it

-- all of the bytes spell one state
same_stored : (bytes : List ℕ) (x y : Stored) → Spells stored_layout.form bytes x → Spells stored_layout.form bytes y → x ≡ y
same_stored bytes x y p q = (nothing_left stored_layout.form stored_layout.lawful bytes y x _ q (read_again stored_layout.form stored_layout.lawful bytes x p)).0

same_state : (lives : ℕ × ℕ) (bytes : Option (List ℕ)) (s t : KeptState) → IsStateOf lives bytes s → IsStateOf lives bytes t → s ≡ t
same_state lives None s t p q = p ∙ sym q
same_state lives (Some bytes) s t (x, spells, is) (y, others, other) = sym is ∙ ap (state_of lives) (same_stored bytes x y spells others) ∙ other

two_lives : (handed others : ℕ × ℕ) (lives : List ℕ) → length lives ≡ 2 → lives_stored handed lives ≡ lives_stored others lives
two_lives handed others [] is = absurd cc
two_lives handed others (l ∷ []) is = absurd cc
two_lives handed others (l ∷ a ∷ []) is = refl
two_lives handed others (l ∷ a ∷ b ∷ lives) is = absurd cc

abbrev state_with : Stored → ℕ × ℕ → KeptState
state_with x lives = record { next_gid = x.next_gid; life = lives.0; auth_life = lives.1; mds = x.mds; osd = x.osd; mgr = x.mgr; auth = x.auth }

-- a state of format 2 is the same, whatever lives are handed in
own_lives : (handed others : ℕ × ℕ) (bytes : Option (List ℕ)) (s : KeptState) → HoldsLives bytes → IsStateOf handed bytes s → IsStateOf others bytes s
own_lives handed others None s holds stands = absurd holds
own_lives handed others (Some bytes) s (stored, spells, two) (x, others_spell, is) =
    let same : stored ≡ x = same_stored bytes stored x spells others_spell in
    let count : length x.lives ≡ lives_in x.format = others_spell.0.1.0.1.0 in
    let second : x.format ≡ 2 = ap (λ (y : Stored). y.format) (sym same) ∙ two in
    (x, others_spell, ap (state_with x) (two_lives others handed x.lives (count ∙ ap lives_in second)) ∙ is)

as_before : (first second : MonitorCommand) (left : Kept) (s : KeptState) → AreAlike first second left → IsStateOf (lives_of first) left.state s → IsStateOf (lives_of second) left.state s
as_before first second left s (inl same) stands = subst (λ (lives : ℕ × ℕ). IsStateOf lives left.state s) same stands
as_before first second left s (inr holds) stands = own_lives (lives_of first) (lives_of second) left.state s holds stands

kept_is : (left other : Kept) (now : Option Kept) → now ≡ Some left → now ≡ Some other → left ≡ other
kept_is left other now p q = cc

module _ {L : Type 0} (follows : L → L → List LinkAct → Type 0) (first second : MonitorCommand) (bytes : List ℕ) (a b : Outside L) (kept left : Kept) (entries : List Entry) where
  pub begins_with : (stopped : IsStopped follows first bytes a b kept entries) → b.kept ≡ Some left → AreAlike first second left → (server : Server) → HasServer second (Some left) server
      → BeginsWith server (last_saved stopped.server.state (acts_from monitor_rule lost_monitor regard_monitor no_peers (opening_monitor stopped.server first.listen) stopped.trace)) stopped.state
  begins_with stopped is alike server has = by_left stopped.left
    where
      acts : List Act
      acts = acts_from monitor_rule lost_monitor regard_monitor no_peers (opening_monitor stopped.server first.listen) stopped.trace

      before : Kept
      before = kept_behind kept acts

      begun : IsStateOf (lives_of second) left.state server.state
      begun = loaded_state (lives_of second) left (Some left) server.state refl has.state

      by_left : ((b.kept ≡ Some before) ⊎ (b.kept ≡ Some (with_slot State (state_text stopped.state) before)))
          → BeginsWith server (last_saved stopped.server.state acts) stopped.state
      by_left (inl old) =
          let same : before ≡ left = kept_is before left b.kept old is in
          let stood : IsStateOf (lives_of first) left.state (last_saved stopped.server.state acts) =
          subst (λ (k : Kept). IsStateOf (lives_of first) k.state (last_saved stopped.server.state acts)) same (stopped.keeps acts [] (sym (append-nil acts))) in
          inl (same_state (lives_of second) left.state server.state (last_saved stopped.server.state acts) begun (as_before first second left _ alike stood))
      by_left (inr new) =
          let same : with_slot State (state_text stopped.state) before ≡ left = kept_is (with_slot State (state_text stopped.state) before) left b.kept new is in
          inr (same_state (lives_of second) left.state server.state stopped.state begun
          (subst (λ (k : Kept). IsStateOf (lives_of second) k.state stopped.state) same (stopped.spelled (lives_of second))))
