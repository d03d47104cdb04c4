-- A turn of an open link to the monitor of one that logs in keeps all that is known; and generations that it takes were replied behind the reading of their asking.
use Rattle.std.proofs.Common.{◌≡◌, ℕ, List, ◌++◌, Option, Some, Ok, sym, ap, ◌∙◌, subst}
use Rattle.std.specs.Prelude.{Contains}
use Rattle.std.specs.List.{AllByRecursion}
use Rattle.cx_base.specs.Names.{Name}
use Rattle.cx_base.specs.declared.nodes.NodeName.{NodeName}
use Rattle.cx_frame.specs.declared.frame.Frame.{Frame}
use Rattle.cx_journal.specs.declared.entries.Entry.{Entry}
use Rattle.cx_laws_tickets.specs.cx_laws_keys.proofs.keys.Known.{Inv}
use Rattle.cx_laws_tickets.specs.cx_laws_keys.proofs.keys.Premises.{AreGranted, behind}
use Rattle.cx_laws_tickets.specs.cx_laws_keys.proofs.keys.Uses.{Grows, Means, Use, Uses, WholeRun}
use Rattle.cx_rotate.specs.declared.generations.Generation.{Generation}
use Rattle.cx_laws_keys.specs.cx_rules.specs.Connector.{MonClientArrival, MonClientRow, Open, Stage}
use Rattle.cx_laws_keys.specs.cx_rules.specs.Fronts.{keys_behind, opened_parts, sealed_ahead, taking}
use Rattle.cx_laws_keys.specs.cx_rules.specs.Links.{Link}
use Rattle.cx_laws_keys.specs.cx_rules.specs.Requests.{Requests, on_open, taken}
use Rattle.cx_laws_keys.specs.cx_rules.specs.Rows.{at, with_opened}
use Rattle.cx_laws_keys.specs.cx_rules.specs.Secured.{Secured, under}
use Rattle.cx_laws_keys.specs.cx_rules.specs.declared.requests.Taken.TheVariants as reply
use Rattle.cx_steps.specs.Premises.{IsExcepted}
use Rattle.cx_steps.specs.declared.seals.Logged.{Logged}
use Rattle.cx_steps.specs.declared.seals.SealEntry.{SealEntry}
use Rattle.cx_laws_keys.specs.cx_stream.specs.SecureStreams.{secure_frame_at}
use Rattle.cx_laws_tickets.proofs.fetch.AskedKnown.{AreTold, MonClientTold, Events, IsMonClient, IsAwaited, MoreEvents, Told}
use Rattle.cx_laws_tickets.proofs.fetch.AskedWords.{Asked, asked_frame, last_number}
use Rattle.cx_laws_tickets.proofs.fetch.MonClientMoves.{MonClientMoves, mon_client-moves, mon_client-taken, mon_client-takes, words_of}
use Rattle.cx_laws_tickets.proofs.fetch.MonClientOpen.{awaited-behind, counted-behind}
use Rattle.cx_laws_tickets.proofs.fetch.MonClientReply.{WereReplied, views-replied}
use Rattle.cx_laws_tickets.proofs.fetch.MonClientSays.{IsSaidAt, KeepsOpen, KeepsRequests, open-says}
use Rattle.cx_laws_tickets.proofs.fetch.MonitorMoves.{IsAnyLogin}
use Rattle.cx_laws_tickets.proofs.fetch.RowWords.{opened-quiet, opened-says}
use Rattle.cx_laws_tickets.proofs.fetch.Words.{said_under}

-- behind a row the link has what it had of its requests, with the word that was said
pub open-told : (F : Events) (vs : Uses) (told next : Told) (later : List Logged) (name : Name) (link : ℕ) (key : List ℕ) (r q : Requests) (word : Option Asked) (u : Secured)
    → KeepsRequests r word q → IsMonClient F vs next later name link u → u.keys.key ≡ key → said_under key next.asked ≡ said_under key told.asked ++ words_of word
    → last_number 0 (said_under key told.asked) ≡ r.count → AllByRecursion (IsAwaited (said_under key told.asked)) r.waiting → MonClientTold F vs next later name link (Open u q)
open-told F vs told next later name link key r q word u keeps mon_client same said counted awaited =
    let here : said_under u.keys.key next.asked ≡ said_under key told.asked ++ words_of word = ap (λ (k : List ℕ). said_under k next.asked) same ∙ said in (
      mon_client,
      ap (λ (l : List Asked). last_number 0 l) here ∙ counted-behind (said_under key told.asked) r q word keeps counted,
      subst (λ (l : List Asked). AllByRecursion (IsAwaited l) q.waiting) (sym here) (awaited-behind (said_under key told.asked) r q word keeps awaited),
    )

module _ (run : WholeRun) (whole : List Logged) (us vs : Uses) (log : List Logged) (J : List Entry) (n : NodeName) (line : ℕ)
    (one : (k : List ℕ) (u v : Use) → Means vs k u → Means vs k v → u ≡ v) (f : Grows us vs) (i : Inv run whole us log J) (E F : Events) (more : MoreEvents E F) (told : Told)
    (t : AreTold run E us told log) (name : Name) (link : ℕ) (s : Secured) (r : Requests) (open_so : MonClientTold E us told log name link (Open s r))
    (held : IsExcepted run.leaked whole n s.keys.key → ⊥) (l : Link Stage) (g : Frame) (m : ℕ) (granted : AreGranted run.leaked whole n line log (opened_parts (sealed_ahead s.keys l)))
    (read : secure_frame_at (sealed_ahead s.keys l) ≡ Ok (Some (g, m))) where
  pub open-moves : (a : MonClientArrival) → F.was_asked name a.reading
      → (let row : MonClientRow = with_opened (opened_parts (sealed_ahead s.keys l)) (on_open Open (at a (taking l m)) (under s (keys_behind s.keys g)) r g) in
      MonClientMoves (KeepsOpen Open l.number r) run F vs told (behind n line row.seals log) name link s.keys.key row)
  open-moves a now =
      let k : Secured = under s (keys_behind s.keys g) in
      let b : MonClientArrival = at a (taking l m) in
      let opened : List SealEntry = opened_parts (sealed_ahead s.keys l) in
      let row : MonClientRow = with_opened opened (on_open Open b k r g) in
      let word = mon_client-takes run whole us vs log J n line one f i E F more told t name link s open_so.0 held l g m granted read in
      let mon_client = mon_client-taken run whole us vs log J n line one f i E F more told t name link s open_so.0 g word.behind in
      mon_client-moves run whole us vs log J n line one f i E F more told t name link k mon_client (KeepsOpen Open l.number r) a.reading r.count now open_so.1 row
      (opened-says asked_frame (IsAnyLogin vs) (KeepsOpen Open l.number r) (IsSaidAt a.reading r.count) opened k (on_open Open b k r g) (opened-quiet (sealed_ahead s.keys l))
      (open-says Open (IsAnyLogin vs) b k r g))

  -- of one that didn't leak
  pub open-replied : (Contains run.leaked name → ⊥) → (secret : List ℕ) (reading : ℕ) (generations : List Generation) (opened : List SealEntry)
      → taken secret r g ≡ reply.Views reading generations opened → WereReplied E name secret reading generations
  open-replied free secret reading generations opened takes =
      let word = mon_client-takes run whole us vs log J n line one f i E F more told t name link s open_so.0 held l g m granted read in
      views-replied run E us told log t i.one s.keys.key name open_so.0.challenge open_so.0.is free word.word g word.frame word.said_so r open_so.2 secret reading generations opened takes
