-- What words spell that are a command's.
use Rattle.std.proofs.Common.{ℕ, ◌≡◌, ◌≤◌, ◌⊎◌, Bool, true, false, List, [], ◌∷◌, Option, Some, None, string_bytes, inl, inr, refl, sym, ◌∙◌, subst, arith}
use Rattle.std.specs.Prelude.{◌&&◌, nat_le, if◌then◌else◌, codes, option_and_then, option_map}
use Rattle.std.specs.Str.{bytes_eq}
use Rattle.std.proofs.lemmas.Bool.Decides.{nat_tests}
use Rattle.cx_base.specs.Names.{Name}
use Rattle.cx_base.specs.declared.addresses.Addr.{Addr}
use Rattle.cx_command_line.specs.Commands as told
use Rattle.cx_command_line.specs.Commands.{Asked, AskedClient, AskedDaemon, Replay, Keyring, Audit, Drill, Key, Monitor, Daemon, Client, IsMisread, alone, client, daemon, drill, events, lifetime, lives, spelled}
use Rattle.cx_command_line.specs.Words.{Word, address, both, bounded, within}
use Rattle.cx_command_line.specs.declared.commands.DrillCommand.{DrillCommand}
use Rattle.cx_command_line.specs.declared.commands.MonitorCommand.{MonitorCommand}
use Rattle.cx_drive_commands.specs.nodes.Monitors.{IsMonitorCommand}
use Rattle.cx_top.specs.Commands.{command_word}
use Rattle.cx_top.specs.Statuses.{IsServed}
use Rattle.cx_top.specs.declared.commands.Subcommand.{Subcommand}
use Rattle.cx_top.specs.declared.program_end.ProgramEnd.{ProgramEnd}
use Rattle.cx_top.specs.declared.status.Status.TheVariants.{OutOfMemory, Usage, WriteFault}
use Rattle.cx_help.specs.declared.scripts.NodeKind.{NodeKind}
use Rattle.cx_keyring.specs.cx_words.specs.Words.{number_of}
use Rattle.cx_command_line.specs.declared.reading.Misread.{Misread}
use Rattle.cx_command_line.specs.declared.reading.Misread.TheVariants as misread
use Rattle.cx_desk.specs.Handlers.{Handlers}
use Rattle.cx_journal.specs.declared.entries.Entry.{Entry}
use Rattle.cx_loading.specs.declared.ends.NodeEnd.{NodeEnd}
use Rattle.cx_commands.proofs.WrongWords.{unused}
use Rattle.cx_commands.proofs.NodeEnds.{node_is_none}
use Rattle.cx_commands.proofs.Spelled.{asked_text, spelled_text, text_spelled}
use Rattle.cx_commands.specs.Drills.{DrillAnswers, DrillEnds, IsDrillCommand}
use Rattle.cx_commands.specs.Keys.{IsKeyEnd, KeyAnswers, Rolled}
use Rattle.cx_commands.specs.Lent.{Lent, Streams}
use Rattle.cx_commands.specs.Misread.{IsMisreadTold, IsUnbegun, UsageAnswers, misread_status}
use Rattle.cx_commands.specs.Nodes.{IsUnreadStatus, NodeAnswers}
use Rattle.cx_commands.specs.Texts.{TextAnswers, TextEnds}
use Rattle.cx_commands.specs.declared.ends.CommandEnd.{CommandEnd}
use Rattle.cx_commands.specs.declared.ends.CommandStatus.{CommandStatus}
use Rattle.cx_commands.specs.declared.ends.CommandStatus.TheVariants.{Text}

-- ---- the monitor's lives are within bounds

within_is : (least most n m : ℕ) → within least most n ≡ Some m → (least ≤ m) × (m ≤ most)
within_is least most n m is = by_test (nat_le least n) (nat_le n most) refl refl is
  where
    by_test : (t u : Bool) → nat_le least n ≡ t → nat_le n most ≡ u → (if t && u then Some n else None) ≡ Some m → (least ≤ m) × (m ≤ most)
    by_test true true e f is = let same : n ≡ m = cc in (grind (arith, nat_tests, e, same), grind (arith, nat_tests, f, same))
    by_test true false e f is = absurd (let no : None ≡ Some m = is in cc)
    by_test false u e f is = absurd (let no : None ≡ Some m = is in cc)

bounded_is : (least most : ℕ) (word : Word) (m : ℕ) → bounded least most word ≡ Some m → (least ≤ m) × (m ≤ most)
bounded_is least most word m is = by_number (number_of word) is
  where
    by_number : (o : Option ℕ) → option_and_then (within least most) o ≡ Some m → (least ≤ m) × (m ≤ most)
    by_number None is = absurd (let no : None ≡ Some m = is in cc)
    by_number (Some n) is = within_is least most n m is

abbrev AreLives : ℕ × ℕ → Type 0
AreLives p = (1 ≤ p.0) × (p.0 ≤ 31536000) × (1 ≤ p.1) × (p.1 ≤ 31536000)

lives_are : (values : List Word) (p : ℕ × ℕ) → lives values ≡ Some p → AreLives p
lives_are [] p is = let same : (3600, 43200) ≡ p = cc in subst AreLives same (omega (arith), omega (arith), omega (arith), omega (arith))
lives_are (life ∷ []) p is = absurd (let no : None ≡ Some p = is in cc)
lives_are (life ∷ auth_life ∷ []) p is = by_both (lifetime life) (lifetime auth_life) refl refl is
  where
    by_both : (o q : Option ℕ) → lifetime life ≡ o → lifetime auth_life ≡ q → both o q ≡ Some p → AreLives p
    by_both (Some x) (Some y) e f is =
        let same : (x, y) ≡ p = cc in
        let first : (1 ≤ x) × (x ≤ 31536000) = bounded_is 1 31536000 life x e in
        let second : (1 ≤ y) × (y ≤ 31536000) = bounded_is 1 31536000 auth_life y f in
        subst AreLives same (first.0, first.1, second.0, second.1)
    by_both (Some x) None e f is = absurd (let no : None ≡ Some p = is in cc)
    by_both None q e f is = absurd (let no : None ≡ Some p = is in cc)
lives_are (life ∷ auth_life ∷ more ∷ rest) p is = absurd (let no : None ≡ Some p = is in cc)

monitor_is : (values : List Word) (c : MonitorCommand) → told.monitor values ≡ Some c → IsMonitorCommand c
monitor_is [] c is = absurd (let no : None ≡ Some c = is in cc)
monitor_is (count ∷ []) c is = absurd (let no : None ≡ Some c = is in cc)
monitor_is (count ∷ listen ∷ rest) c is = by_parts (both (events count) (address listen)) (lives rest) refl is
  where
    by_parts : (o : Option (ℕ × Addr)) (q : Option (ℕ × ℕ)) → lives rest ≡ q
        → option_map (λ (p : (ℕ × Addr) × (ℕ × ℕ)). record { events = p.0.0; listen = p.0.1; life = p.1.0; auth_life = p.1.1 }) (both o q) ≡ Some c → IsMonitorCommand c
    by_parts (Some x) (Some p) e is =
        let same : record { events = x.0; listen = x.1; life = p.0; auth_life = p.1 } ≡ c = cc in
        let are : AreLives p = lives_are rest p e in
        subst IsMonitorCommand same (record { life = are.0; life_most = are.1; auth_life = are.2; auth_life_most = are.3 })
    by_parts (Some x) None e is = absurd (let no : None ≡ Some c = is in cc)
    by_parts None q e is = absurd (let no : None ≡ Some c = is in cc)

alone_not : (asked : Asked) (values : List Word) (c : MonitorCommand) → alone asked values ≡ Some (Monitor c) → asked ≡ Monitor c
alone_not asked [] c is = cc
alone_not asked (word ∷ words) c is = absurd (let no : None ≡ Some (Monitor c) = is in cc)

drill_not : (o : Option DrillCommand) (c : MonitorCommand) → option_map (λ d. Drill d) o ≡ Some (Monitor c) → ⊥
drill_not (Some d) c is = let no : Drill d ≡ Monitor c = cc in cc
drill_not None c is = let no : None ≡ Some (Monitor c) = is in cc

daemon_not : (o : Option AskedDaemon) (c : MonitorCommand) → option_map (λ d. Daemon d) o ≡ Some (Monitor c) → ⊥
daemon_not (Some d) c is = let no : Daemon d ≡ Monitor c = cc in cc
daemon_not None c is = let no : None ≡ Some (Monitor c) = is in cc

client_not : (o : Option AskedClient) (c : MonitorCommand) → option_map (λ d. Client d) o ≡ Some (Monitor c) → ⊥
client_not (Some d) c is = let no : Client d ≡ Monitor c = cc in cc
client_not None c is = let no : None ≡ Some (Monitor c) = is in cc

monitor_told : (o : Option MonitorCommand) (c : MonitorCommand) → option_map (λ d. Monitor d) o ≡ Some (Monitor c) → o ≡ Some c
monitor_told (Some d) c is = cc
monitor_told None c is = absurd (let no : None ≡ Some (Monitor c) = is in cc)

pub spelled_monitor : (words : List Word) (c : MonitorCommand) → spelled words ≡ Some (Monitor c) → IsMonitorCommand c
spelled_monitor [] c is = absurd (let no : None ≡ Some (Monitor c) = is in cc)
spelled_monitor (command ∷ values) c is =
    by_tests (bytes_eq command (codes "replay")) (bytes_eq command (codes "keyring")) (bytes_eq command (codes "audit")) (bytes_eq command (codes "drill")) (bytes_eq command (codes "key")) (bytes_eq command (codes "mon"))
    (bytes_eq command (codes "daemon")) (bytes_eq command (codes "client")) is
  where
    by_tests : (r k a d y m n l : Bool)
        → (if r then alone Replay values else if k then alone Keyring values else if a then alone Audit values else if d then option_map (λ c. Drill c) (drill values)
        else if y then alone Key values
        else if m then option_map (λ c. Monitor c) (told.monitor values) else if n then option_map (λ c. Daemon c) (daemon values)
        else if l then option_map (λ c. Client c) (client values) else None) ≡ Some (Monitor c) → IsMonitorCommand c
    by_tests true k a d y m n l is = absurd (let no : Replay ≡ Monitor c = alone_not Replay values c is in cc)
    by_tests false true a d y m n l is = absurd (let no : Keyring ≡ Monitor c = alone_not Keyring values c is in cc)
    by_tests false false true d y m n l is = absurd (let no : Audit ≡ Monitor c = alone_not Audit values c is in cc)
    by_tests false false false true y m n l is = absurd (drill_not (drill values) c is)
    by_tests false false false false true m n l is = absurd (let no : Key ≡ Monitor c = alone_not Key values c is in cc)
    by_tests false false false false false true n l is = monitor_is values c (monitor_told (told.monitor values) c is)
    by_tests false false false false false false true l is = absurd (daemon_not (daemon values) c is)
    by_tests false false false false false false false true is = absurd (client_not (client values) c is)
    by_tests false false false false false false false false is = absurd (let no : None ≡ Some (Monitor c) = is in cc)

-- ---- a drill has 1 to 1,000 clients

drill_is : (values : List Word) (c : DrillCommand) → drill values ≡ Some c → IsDrillCommand c
drill_is [] c is = absurd (let no : None ≡ Some c = is in cc)
drill_is (clients ∷ []) c is = absurd (let no : None ≡ Some c = is in cc)
drill_is (clients ∷ seed ∷ []) c is = by_parts (bounded 1 1000 clients) (number_of seed) refl is
  where
    by_parts : (o q : Option ℕ) → bounded 1 1000 clients ≡ o → option_map (λ (p : ℕ × ℕ). record { clients = p.0; seed = p.1 }) (both o q) ≡ Some c → IsDrillCommand c
    by_parts (Some n) (Some s) e is =
        let same : record { clients = n; seed = s } ≡ c = cc in
        let within : (1 ≤ n) × (n ≤ 1000) = bounded_is 1 1000 clients n e in
        subst IsDrillCommand same (record { some = within.0; few = within.1 })
    by_parts (Some n) None e is = absurd (let no : None ≡ Some c = is in cc)
    by_parts None q e is = absurd (let no : None ≡ Some c = is in cc)
drill_is (clients ∷ seed ∷ more ∷ rest) c is = absurd (let no : None ≡ Some c = is in cc)

alone_no_drill : (asked : Asked) (values : List Word) (c : DrillCommand) → alone asked values ≡ Some (Drill c) → asked ≡ Drill c
alone_no_drill asked [] c is = cc
alone_no_drill asked (word ∷ words) c is = absurd (let no : None ≡ Some (Drill c) = is in cc)

drill_told : (o : Option DrillCommand) (c : DrillCommand) → option_map (λ d. Drill d) o ≡ Some (Drill c) → o ≡ Some c
drill_told (Some d) c is = cc
drill_told None c is = absurd (let no : None ≡ Some (Drill c) = is in cc)

monitor_no_drill : (o : Option MonitorCommand) (c : DrillCommand) → option_map (λ d. Monitor d) o ≡ Some (Drill c) → ⊥
monitor_no_drill (Some d) c is = let no : Monitor d ≡ Drill c = cc in cc
monitor_no_drill None c is = let no : None ≡ Some (Drill c) = is in cc

daemon_no_drill : (o : Option AskedDaemon) (c : DrillCommand) → option_map (λ d. Daemon d) o ≡ Some (Drill c) → ⊥
daemon_no_drill (Some d) c is = let no : Daemon d ≡ Drill c = cc in cc
daemon_no_drill None c is = let no : None ≡ Some (Drill c) = is in cc

client_no_drill : (o : Option AskedClient) (c : DrillCommand) → option_map (λ d. Client d) o ≡ Some (Drill c) → ⊥
client_no_drill (Some d) c is = let no : Client d ≡ Drill c = cc in cc
client_no_drill None c is = let no : None ≡ Some (Drill c) = is in cc

pub spelled_drill : (words : List Word) (c : DrillCommand) → spelled words ≡ Some (Drill c) → IsDrillCommand c
spelled_drill [] c is = absurd (let no : None ≡ Some (Drill c) = is in cc)
spelled_drill (command ∷ values) c is =
    by_tests (bytes_eq command (codes "replay")) (bytes_eq command (codes "keyring")) (bytes_eq command (codes "audit")) (bytes_eq command (codes "drill")) (bytes_eq command (codes "key")) (bytes_eq command (codes "mon"))
    (bytes_eq command (codes "daemon")) (bytes_eq command (codes "client")) is
  where
    by_tests : (r k a d y m n l : Bool)
        → (if r then alone Replay values else if k then alone Keyring values else if a then alone Audit values else if d then option_map (λ c. Drill c) (drill values)
        else if y then alone Key values
        else if m then option_map (λ c. Monitor c) (told.monitor values) else if n then option_map (λ c. Daemon c) (daemon values)
        else if l then option_map (λ c. Client c) (client values) else None) ≡ Some (Drill c) → IsDrillCommand c
    by_tests true k a d y m n l is = absurd (let no : Replay ≡ Drill c = alone_no_drill Replay values c is in cc)
    by_tests false true a d y m n l is = absurd (let no : Keyring ≡ Drill c = alone_no_drill Keyring values c is in cc)
    by_tests false false true d y m n l is = absurd (let no : Audit ≡ Drill c = alone_no_drill Audit values c is in cc)
    by_tests false false false true y m n l is = drill_is values c (drill_told (drill values) c is)
    by_tests false false false false true m n l is = absurd (let no : Key ≡ Drill c = alone_no_drill Key values c is in cc)
    by_tests false false false false false true n l is = absurd (monitor_no_drill (told.monitor values) c is)
    by_tests false false false false false false true l is = absurd (daemon_no_drill (daemon values) c is)
    by_tests false false false false false false false true is = absurd (client_no_drill (client values) c is)
    by_tests false false false false false false false false is = absurd (let no : None ≡ Some (Drill c) = is in cc)

-- ---- words that aren't read, as those of each command

-- memory was wanting
unbegun : {I O K L C D : Type 0} (a : Streams I O) (v : Lent K L C D) (result : CommandEnd) → result.status ≡ Text OutOfMemory → string_bytes result.told ≡ [] → IsUnbegun a a v v result
unbegun a v result status told = record { status = status; told = told; unread = refl; unwritten = refl; stood = refl }

module _ {I O K L C D : Type 0} (words : List Word) (a : Streams I O) (v : Lent K L C D) where
  pub misread_text : (handlers : Handlers) (command : Subcommand) (why : Misread) (result : CommandEnd) → words ≡ command_word command ∷ [] → IsMisread words why
      → result.status ≡ Text (misread_status why) → IsMisreadTold words why (string_bytes result.told) → TextAnswers handlers command a a v v result
  misread_text handlers command misread.OutOfMemory result is err status told = inl (unbegun a v result status told)
  misread_text handlers command misread.Usage result is err status told =
      absurd (let no : None ≡ Some (asked_text command) = sym err ∙ spelled_text command words is in cc)

  pub misread_drill : (handlers : Handlers) (command : DrillCommand) (why : Misread) (result : CommandEnd) → spelled words ≡ Some (Drill command) → IsMisread words why
      → result.status ≡ Text (misread_status why) → IsMisreadTold words why (string_bytes result.told) → DrillAnswers handlers command a a v v result
  misread_drill handlers command misread.OutOfMemory result is err status told = inl (unbegun a v result status told)
  misread_drill handlers command misread.Usage result is err status told = absurd (let no : None ≡ Some (Drill command) = sym err ∙ is in cc)

  pub misread_node : (kind : NodeKind) (name : Option Name) (Ran : List ℕ → NodeEnd → List Entry → Type 0) (asked : Asked) (why : Misread) (result : CommandEnd) → spelled words ≡ Some asked → IsMisread words why
      → result.status ≡ Text (misread_status why) → IsMisreadTold words why (string_bytes result.told) → NodeAnswers kind name Ran a a v v result
  misread_node kind name Ran asked misread.OutOfMemory result is err status told = inr (record {
    why = subst (λ (s : CommandStatus). IsUnreadStatus a.left a.left a.faults a.faults s) (sym status) tt;
    untaken = refl;
    stood = refl;
    says = told;
  })
  misread_node kind name Ran asked misread.Usage result is err status told = absurd (let no : None ≡ Some asked = sym err ∙ is in cc)

  pub misread_key : (dice : Rolled) (why : Misread) (result : CommandEnd) → spelled words ≡ Some Key → IsMisread words why
      → result.status ≡ Text (misread_status why) → IsMisreadTold words why (string_bytes result.told) → KeyAnswers dice a a v v result
  misread_key dice misread.OutOfMemory result is err status told = record {
    ends = subst (λ (s : CommandStatus). IsKeyEnd dice a.taken a.taken a.misses a.misses a.out a.out s) (sym status) refl;
    told = told;
    unread = refl;
    keeper = refl;
    links = refl;
    clock = refl;
  }
  misread_key dice misread.Usage result is err status told = absurd (let no : None ≡ Some Key = sym err ∙ is in cc)

-- ---- words that are read: the status isn't that of wrong ones

module _ {I O K L C D : Type 0} (words : List Word) (a b : Streams I O) (v w : Lent K L C D) (result : CommandEnd) where
  pub text_usage : (handlers : Handlers) (command : Subcommand) (ended : ProgramEnd) → spelled words ≡ Some (asked_text command) → result.status ≡ Text ended.status
      → ((c : Subcommand) → words ≡ command_word c ∷ [] → TextEnds handlers c a b ended) → UsageAnswers a b v w words result
  text_usage handlers command ended is status ends =
      unused words a b v w result (asked_text command) is (λ usage. (ends command (text_spelled command words is)).usage (let same : Text ended.status ≡ Text Usage = sym status ∙ usage in cc))

  -- nor is a key's
  pub key_usage : (dice : Rolled) → spelled words ≡ Some Key → IsKeyEnd dice a.taken b.taken a.misses b.misses a.out b.out result.status → UsageAnswers a b v w words result
  key_usage dice is ends =
      unused words a b v w result Key is (λ usage. subst (λ (s : CommandStatus). IsKeyEnd dice a.taken b.taken a.misses b.misses a.out b.out s) usage ends)

  pub node_usage : (kind : NodeKind) (name : Option Name) (Ran : List ℕ → NodeEnd → List Entry → Type 0) (asked : Asked) → spelled words ≡ Some asked → NodeAnswers kind name Ran a b v w result → UsageAnswers a b v w words result
  node_usage kind name Ran asked is answers = unused words a b v w result asked is (node_is_none kind name Ran a b v w result answers)

  -- nor is a drill's
  pub drill_usage : (handlers : Handlers) (command : DrillCommand) (ended : ProgramEnd) → spelled words ≡ Some (Drill command) → result.status ≡ Text ended.status
      → DrillEnds handlers command a.taken b.taken a.misses b.misses a.out b.out ended → b.input ≡ a.input → w ≡ v → UsageAnswers a b v w words result
  drill_usage handlers command ended is status ends unread stood =
      unused words a b v w result (Drill command) is (λ usage. by_end (let same : Text ended.status ≡ Text Usage = sym status ∙ usage in cc) ends.ends)
    where
      by_end : ended.status ≡ Usage → IsServed ended.status ⊎ (ended.status ≡ WriteFault) → ⊥
      by_end usage (inl served) = subst IsServed usage served
      by_end usage (inr write) = let no : Usage ≡ WriteFault = sym usage ∙ write in cc

-- ---- the drill that ran is the one that was asked for

pub drill_ended : {I O K L C D : Type 0} (handlers : Handlers) (a b : Streams I O) (v w : Lent K L C D) (result : CommandEnd) (ran command : DrillCommand) (ended : ProgramEnd) → Drill ran ≡ Drill command
    → result.status ≡ Text ended.status → result.told ≡ ended.told → DrillEnds handlers ran a.taken b.taken a.misses b.misses a.out b.out ended → b.input ≡ a.input → w ≡ v
    → DrillAnswers handlers command a b v w result
drill_ended handlers a b v w result ran command ended is status told ends unread stood =
    let same : ran ≡ command = cc in inr (record {
      ended = ended;
      status = status;
      told = told;
      ends = subst (λ (c : DrillCommand). DrillEnds handlers c a.taken b.taken a.misses b.misses a.out b.out ended) same ends;
      unread = unread;
      stood = stood;
    })
