-- Rows and turns on a link of which a part is forgotten: of each a machine keeps the same as on the whole link.
use Rattle.std.proofs.Common.{◌≡◌, ℕ, ◌==◌, ◌≤◌, Bool, true, false, List, [], ◌∷◌, ◌++◌, length, drop, Option, Some, None, Result, Ok, Err, refl, sym, ap, subst, ◌∙◌, arith, length-drop}
use Rattle.std.specs.Prelude.{IfSome, if◌then◌else◌}
use Rattle.std.specs.List.{AllByRecursion}
use Rattle.std.proofs.lemmas.List.{drop-append-le, drop-drop}
use Rattle.cx_login.specs.cx_control.specs.Upkeep.{keepalive2_layout, keepalive2_ack_layout}
use Rattle.cx_login.specs.cx_control.specs.declared.upkeep.Keepalive2.{Keepalive2}
use Rattle.cx_login.specs.cx_control.specs.declared.upkeep.Keepalive2Ack.{Keepalive2Ack}
use Rattle.cx_stream.specs.cx_frame.specs.Banners.{banner_at}
use Rattle.cx_stream.specs.cx_frame.specs.declared.banner.Banner.{Banner}
use Rattle.cx_stream.specs.cx_frame.specs.declared.frame.Frame.{Frame}
use Rattle.cx_stream.specs.cx_frame.specs.declared.refusals.BannerRefusal.{BannerRefusal}
use Rattle.cx_stream.specs.cx_frame.specs.declared.refusals.FrameRefusal.{FrameRefusal}
use Rattle.cx_login.specs.cx_journal.specs.declared.entries.Entry.{Entry}
use Rattle.cx_login.specs.cx_journal.specs.declared.faults.BytesFault.{BytesFault}
use Rattle.cx_login.specs.cx_journal.specs.declared.outcomes.Reason.{Reason}
use Rattle.cx_login.specs.cx_journal.specs.declared.outcomes.Reason.TheVariants.{Bytes}
use Rattle.cx_stream.specs.cx_secure.specs.declared.refusals.SecureRefusal.{SecureRefusal}
use Rattle.cx_login.specs.cx_steps.specs.declared.seals.SealEntry.{SealEntry}
use Rattle.cx_stream.specs.PlainStreams.{plain_frame_at}
use Rattle.cx_stream.specs.SecureStreams.{secure_frame_at}
use Rattle.cx_rules.specs.Abridged.{IsWithin, abridged_node, cut, unsigned}
use Rattle.cx_rules.specs.Fronts.{ahead_of, banner_next, banner_read, keys_behind, opened_parts, plain_next, plain_read, sealed_ahead, secure_next, secure_read, taking}
use Rattle.cx_rules.specs.Links.{Link}
use Rattle.cx_rules.specs.Messages.{on_upkeep_or}
use Rattle.cx_rules.specs.Payloads.{control, payload}
use Rattle.cx_rules.specs.Rows.{Arrival, Node, Row, Turned, Waits, Refuses, Handles, at, carried_out, goes_on, plain_sent, refused_entry, refuses, refuses_bytes, secure_sent, turned_by, turns, with_opened}
use Rattle.cx_rules.specs.Secured.{Keys, SealedFrame, Secured, secure_frame}
use Rattle.cx_rules.specs.Upkeep.{on_keepalive, on_keepalive_ack}
use Rattle.cx_rules.proofs.Abridging.{Agree, Alike, Forgets, carried-alike, idles-agree}
use Rattle.cx_rules.proofs.Fitting.{Fits, banner-fits, plain-fits, secure-fits}

-- ---- links

-- two links with one number, on which the same stands next
pub record SameAhead {Stage : Type 0} (l k : Link Stage) : Type 0 where
  pub number : l.number ≡ k.number
  pub ahead : ahead_of l ≡ ahead_of k

module _ {Stage : Type 0} where
  cut-same : (l k : Link Stage) (stage : Stage) → SameAhead l k → cut l stage ≡ cut k stage
  cut-same l k stage e =
      let made : ℕ → List ℕ → Link Stage = λ n bytes. record { number = n; received = bytes; taken = 0; sent = []; stage = stage } in
      ap (λ n. made n (ahead_of l)) e.number ∙ ap (λ bytes. made k.number bytes) e.ahead

  -- a link that is cut, behind bytes that come
  pub cut-fed : (l : Link Stage) (stage : Stage) (bytes : List ℕ) → IsWithin l
      → (let k : Link Stage = cut l stage in cut (record k { received = k.received ++ bytes }) stage) ≡ cut (record l { received = l.received ++ bytes }) stage
  cut-fed l stage bytes w =
      let made : List ℕ → Link Stage = λ more. record { number = l.number; received = more; taken = 0; sent = []; stage = stage } in
      ap made (sym (drop-append-le l.taken l.received bytes w))

  taken-same : (l k : Link Stage) (n : ℕ) → SameAhead l k → SameAhead (taking l n) (taking k n)
  taken-same l k n e = record {
    number = e.number;
    ahead = sym (drop-drop n l.taken l.received) ∙ ap (drop n) e.ahead ∙ drop-drop n k.taken k.received;
  }

  pub taken-within : (l : Link Stage) (n : ℕ) → n ≤ length (ahead_of l) → IsWithin l → IsWithin (taking l n)
  taken-within l n le w = omega (arith, length-drop l.taken l.received)

-- ---- rows in which a secured link goes on

-- a link in this stage is cut, and is then in that one
abbrev pub CutsTo : {Stage : Type 0} → (Link Stage → Link Stage) → Stage → Stage → Type 0
CutsTo {Stage} abridged from to = (l : Link Stage) → abridged (record l { stage = from }) ≡ cut l to

-- the link of a row took no more than came
abbrev pub RowWithin : {Own Stage : Type 0} → Row Own Stage → Type 0
RowWithin row = IfSome row.link IsWithin

pub plain_sent-within : {Own Stage : Type 0} (a : Arrival Own Stage) (stage : Stage) (seals : List SealEntry) (r : Result (List ℕ) BytesFault) → IsWithin a.link
    → RowWithin (plain_sent a stage seals r)
plain_sent-within a stage seals (Ok bytes) w = w
plain_sent-within a stage seals (Err why) w = tt

module _ {Own Stage : Type 0} (abridged : Link Stage → Link Stage) where
  pub goes-alike : (a : Arrival Own Stage) (l : Link Stage) (t s u : Stage) (bytes : List ℕ) (seals : List SealEntry) → SameAhead l a.link → IsWithin a.link
      → CutsTo abridged t u → CutsTo abridged s u → Alike abridged (goes_on (at a l) t bytes seals) (goes_on a s bytes seals)
  goes-alike a l t s u bytes seals e w first second =
      let with : Link Stage → Row Own Stage = λ link. record (goes_on a s bytes seals) { link = Some link } in
      record { kept = ap with (first l ∙ cut-same l a.link u e ∙ sym (second a.link)); within = w }

  pub refuses-alike : (a : Arrival Own Stage) (l : Link Stage) (why : Reason) (seals : List SealEntry) → l.number ≡ a.link.number
      → Alike abridged (refuses (at a l) why seals) (refuses a why seals)
  refuses-alike a l why seals e =
      let with : ℕ → Row Own Stage = λ n. record (refuses a why seals) { entries = refused_entry a.me n why ∷ [] } in
      record { kept = ap with e; within = tt }

  pub secure-alike : (a : Arrival Own Stage) (l : Link Stage) (t s : Secured) (stage : Secured → Stage) (seals : List SealEntry) (r : Result SealedFrame BytesFault)
      → SameAhead l a.link → IsWithin a.link → ((x : Secured) → CutsTo abridged (stage x) (stage (unsigned x)))
      → Alike abridged (secure_sent (at a l) t stage seals r) (secure_sent a s stage seals r)
  secure-alike a l t s stage seals (Ok sealed) e w cuts =
      let behind : Secured → Secured = λ x. record x { keys = sealed.keys } in
      goes-alike a l (stage (behind t)) (stage (behind s)) (stage (unsigned (behind s))) sealed.bytes (seals ++ sealed.seals) e w (cuts (behind t)) (cuts (behind s))
  secure-alike a l t s stage seals (Err why) e w cuts = refuses-alike a l (Bytes why) seals e.number

  pub opened-alike : (opened : List SealEntry) (r s : Row Own Stage) → Alike abridged r s → Alike abridged (with_opened opened r) (with_opened opened s)
  opened-alike opened r s alike =
      let behind : Row Own Stage → Row Own Stage = λ row. with_opened opened row in record { kept = ap behind alike.kept; within = alike.within }

  -- ---- KEEPALIVE2

  keepalive-alike : (a : Arrival Own Stage) (l : Link Stage) (s : Secured) (open_under : Secured → Stage) (keepalive : Result Keepalive2 BytesFault)
      → SameAhead l a.link → IsWithin a.link → ((x : Secured) → CutsTo abridged (open_under x) (open_under (unsigned x)))
      → Alike abridged (on_keepalive (at a l) (unsigned s) open_under keepalive) (on_keepalive a s open_under keepalive)
  keepalive-alike a l s open_under (Err why) e w cuts = refuses-alike a l (Bytes why) [] e.number
  keepalive-alike a l s open_under (Ok keepalive) e w cuts =
      secure-alike a l (unsigned s) s open_under [] (secure_frame s.keys (control 19 keepalive2_ack_layout.form (record { time = keepalive.time }))) e w cuts

  keepalive_ack-alike : (a : Arrival Own Stage) (l : Link Stage) (s : Secured) (open_under : Secured → Stage) (ack : Result Keepalive2Ack BytesFault)
      → SameAhead l a.link → IsWithin a.link → ((x : Secured) → CutsTo abridged (open_under x) (open_under (unsigned x)))
      → Alike abridged (on_keepalive_ack (at a l) (unsigned s) open_under ack) (on_keepalive_ack a s open_under ack)
  keepalive_ack-alike a l s open_under (Err why) e w cuts = refuses-alike a l (Bytes why) [] e.number
  keepalive_ack-alike a l s open_under (Ok ack) e w cuts =
      goes-alike a l (open_under (unsigned s)) (open_under s) (open_under (unsigned s)) [] [] e w (cuts (unsigned s)) (cuts s)

  -- what is entered makes no difference to what is kept
  pub entered-alike : (entries : List Entry) (r s : Row Own Stage) → Alike abridged r s → Alike abridged (record r { entries = entries }) (record s { entries = entries })
  entered-alike entries r s alike =
      let with : Row Own Stage → Row Own Stage = λ row. record row { entries = entries } in record { kept = ap with alike.kept; within = alike.within }

  -- a frame on an open link, where the row of all others is alike too
  pub upkeep-alike : (cut_other other : Frame → Row Own Stage) (a : Arrival Own Stage) (l : Link Stage) (s : Secured) (open_under : Secured → Stage) (f : Frame)
      → SameAhead l a.link → IsWithin a.link → ((x : Secured) → CutsTo abridged (open_under x) (open_under (unsigned x)))
      → Alike abridged (cut_other f) (other f)
      → Alike abridged (on_upkeep_or cut_other (at a l) (unsigned s) open_under f) (on_upkeep_or other a s open_under f)
  upkeep-alike cut_other other a l s open_under f e w cuts h = by_tests (f.tag == 18) (f.tag == 19)
    where
      by_tests : (ask ack : Bool) → Alike abridged
          (if ask then on_keepalive (at a l) (unsigned s) open_under (payload keepalive2_layout.form f)
          else if ack then on_keepalive_ack (at a l) (unsigned s) open_under (payload keepalive2_ack_layout.form f) else cut_other f)
          (if ask then on_keepalive a s open_under (payload keepalive2_layout.form f)
          else if ack then on_keepalive_ack a s open_under (payload keepalive2_ack_layout.form f) else other f)
      by_tests true ack = keepalive-alike a l s open_under (payload keepalive2_layout.form f) e w cuts
      by_tests false true = keepalive_ack-alike a l s open_under (payload keepalive2_ack_layout.form f) e w cuts
      by_tests false false = h

-- ---- turns

-- two turns of which a machine keeps the same
abbrev pub SameTurn : {Own Stage : Type 0} → (Link Stage → Link Stage) → Turned Own Stage → Turned Own Stage → Type 0
SameTurn abridged Waits Waits = Unit {0}
SameTurn abridged (Refuses why opened) (Refuses cause found) = (why ≡ cause) × (opened ≡ found)
SameTurn abridged (Handles r) (Handles s) = Alike abridged r s
SameTurn abridged _ _ = ⊥

-- a turn whose row, if there is one, is within
abbrev pub TurnWithin : {Own Stage : Type 0} → Turned Own Stage → Type 0
TurnWithin Waits = Unit {0}
TurnWithin (Refuses why opened) = Unit {0}
TurnWithin (Handles row) = RowWithin row

module _ {Own Stage : Type 0} where
  pub same-turn : (abridged : Link Stage → Link Stage) (t : Turned Own Stage) → TurnWithin t → SameTurn abridged t t
  same-turn abridged Waits h = tt
  same-turn abridged (Refuses why opened) h = (refl, refl)
  same-turn abridged (Handles row) h = record { kept = refl; within = h }

  -- what comes on a link of which nothing is forgotten
  pub banner-turn : (a : Arrival Own Stage) (row : Arrival Own Stage → Row Own Stage) → IsWithin a.link → ((l : Link Stage) → IsWithin l → RowWithin (row (at a l)))
      → TurnWithin (turned_by (λ link _. row (at a link)) (banner_next a.link))
  banner-turn a row w each = by_cases (banner_at (ahead_of a.link)) (banner-fits (ahead_of a.link))
    where
      by_cases : (r : Result (Option (Banner × ℕ)) BannerRefusal) → Fits (length (ahead_of a.link)) r → TurnWithin (turned_by (λ link _. row (at a link)) (banner_read a.link r))
      by_cases (Ok None) le = tt
      by_cases (Ok (Some (b, n))) le = each (taking a.link n) (taken-within a.link n le w)
      by_cases (Err why) le = tt

  pub plain-turn : (a : Arrival Own Stage) (row : Arrival Own Stage → Frame → Row Own Stage) → IsWithin a.link
      → ((l : Link Stage) (f : Frame) → IsWithin l → RowWithin (row (at a l) f)) → TurnWithin (turned_by (λ (link, f) _. row (at a link) f) (plain_next a.link))
  plain-turn a row w each = by_cases (plain_frame_at (ahead_of a.link)) (plain-fits (ahead_of a.link))
    where
      by_cases : (r : Result (Option (Frame × ℕ)) FrameRefusal) → Fits (length (ahead_of a.link)) r → TurnWithin (turned_by (λ (link, f) _. row (at a link) f) (plain_read a.link r))
      by_cases (Ok None) le = tt
      by_cases (Ok (Some (f, n))) le = each (taking a.link n) f (taken-within a.link n le w)
      by_cases (Err why) le = tt

  -- what comes on a link that was cut
  pub secure-turn : (abridged : Link Stage → Link Stage) (a : Arrival Own Stage) (stage : Stage) (keys : Keys) (cut_row row : Arrival Own Stage → Keys → Frame → Row Own Stage)
      → IsWithin a.link → ((l k : Link Stage) (behind : Keys) (f : Frame) → SameAhead l k → IsWithin k → Alike abridged (cut_row (at a l) behind f) (row (at a k) behind f))
      → SameTurn abridged
      (turned_by (λ (link, f, behind) opened. with_opened opened (cut_row (at a link) behind f)) (secure_next keys (cut a.link stage)))
      (turned_by (λ (link, f, behind) opened. with_opened opened (row (at a link) behind f)) (secure_next keys a.link))
  secure-turn abridged a stage keys cut_row row w each =
      by_cases (opened_parts (sealed_ahead keys a.link)) (secure_frame_at (sealed_ahead keys a.link)) (secure-fits (sealed_ahead keys a.link))
    where
      by_cases : (opened : List SealEntry) (r : Result (Option (Frame × ℕ)) SecureRefusal) → Fits (length (ahead_of a.link)) r
          → SameTurn abridged
          (turned_by (λ (link, f, behind) opened. with_opened opened (cut_row (at a link) behind f)) (secure_read keys (cut a.link stage) opened r))
          (turned_by (λ (link, f, behind) opened. with_opened opened (row (at a link) behind f)) (secure_read keys a.link opened r))
      by_cases opened (Ok None) le = tt
      by_cases opened (Ok (Some (f, n))) le =
          let l : Link Stage = taking (cut a.link stage) n in
          let k : Link Stage = taking a.link n in
          let behind : Keys = keys_behind keys f in
          opened-alike abridged opened (cut_row (at a l) behind f) (row (at a k) behind f)
          (each l k behind f (taken-same (cut a.link stage) a.link n (record { number = refl; ahead = refl })) (taken-within a.link n le w))
      by_cases opened (Err why) le = (refl, refl)

  -- the turn is carried out alike
  pub turns-agree : (abridged : Link Stage → Link Stage) → Forgets abridged → (node : Node Own Stage) (a : Arrival Own Stage) (l : Link Stage) (t u : Turned Own Stage)
      → l.number ≡ a.link.number → AllByRecursion IsWithin node.links → SameTurn abridged t u → Agree abridged (turns (abridged_node abridged node) (at a l) t) (turns node a u)
  turns-agree abridged f node a l Waits Waits e h same = idles-agree abridged f node h
  turns-agree abridged f node a l (Refuses why opened) (Refuses cause found) e h same =
      let after : ℕ → BytesFault → List SealEntry → Type 0 = λ n c o.
      Agree abridged (carried_out (abridged_node abridged node) l.number false (refuses_bytes (at a l) why opened)) (carried_out node n false (refuses_bytes a c o))
      in
      let here : after l.number why opened = carried-alike abridged f node l.number false (refuses_bytes (at a l) why opened) (refuses_bytes a why opened) h (refuses-alike abridged a l (Bytes why) opened e) in
      let numbered : after a.link.number why opened = subst (λ n. after n why opened) e here in
      let caused : after a.link.number cause opened = subst (λ c. after a.link.number c opened) same.0 numbered in
      subst (λ o. after a.link.number cause o) same.1 caused
  turns-agree abridged f node a l (Handles r) (Handles s) e h same =
      let after : ℕ → Type 0 = λ n. Agree abridged (carried_out (abridged_node abridged node) l.number true r) (carried_out node n true s) in
      subst after e (carried-alike abridged f node l.number true r s h same)
  turns-agree abridged f node a l Waits (Refuses why opened) e h same = absurd same
  turns-agree abridged f node a l Waits (Handles s) e h same = absurd same
  turns-agree abridged f node a l (Refuses why opened) Waits e h same = absurd same
  turns-agree abridged f node a l (Refuses why opened) (Handles s) e h same = absurd same
  turns-agree abridged f node a l (Handles r) Waits e h same = absurd same
  turns-agree abridged f node a l (Handles r) (Refuses why opened) e h same = absurd same
