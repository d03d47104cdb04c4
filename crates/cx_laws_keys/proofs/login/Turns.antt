-- A turn of a link of any node: what stands next on it, and the row that handles it.
use Rattle.std.proofs.Common.{ℕ, List, Option, Some, None, Result, Ok, Err, refl, ◌++◌}
use Rattle.cx_rules.specs.cx_frame.specs.Banners.{banner_at}
use Rattle.cx_rules.specs.cx_frame.specs.declared.banner.Banner.{Banner}
use Rattle.cx_rules.specs.cx_frame.specs.declared.frame.Frame.{Frame}
use Rattle.cx_rules.specs.cx_frame.specs.declared.refusals.BannerRefusal.{BannerRefusal}
use Rattle.cx_rules.specs.cx_frame.specs.declared.refusals.FrameRefusal.{FrameRefusal}
use Rattle.cx_laws_keys.specs.cx_journal.specs.declared.entries.Entry.{Entry}
use Rattle.cx_base.specs.declared.nodes.NodeName.{NodeName}
use Rattle.cx_rules.specs.Fronts.{ahead_of, banner_next, banner_read, opened_parts, plain_next, plain_read, sealed_ahead, secure_next, secure_read}
use Rattle.cx_rules.specs.Links.{Link}
use Rattle.cx_rules.specs.Rows.{Arrival, Row, turned_by, with_opened}
use Rattle.cx_rules.specs.Secured.{Keys}
use Rattle.cx_rules.specs.cx_secure.specs.declared.refusals.SecureRefusal.{SecureRefusal}
use Rattle.cx_rules.specs.cx_steps.specs.declared.seals.Logged.{Logged}
use Rattle.cx_rules.specs.cx_steps.specs.declared.seals.SealEntry.{SealEntry}
use Rattle.cx_rules.specs.cx_stream.specs.PlainStreams.{plain_frame_at}
use Rattle.cx_rules.specs.cx_stream.specs.SecureStreams.{secure_frame_at}
use Rattle.cx_laws_keys.proofs.keys.Known.{Inv}
use Rattle.cx_laws_keys.proofs.keys.Premises.{AreGranted}
use Rattle.cx_laws_keys.proofs.keys.Uses.{Uses, WholeRun}
use Rattle.cx_laws_keys.proofs.login.Facts.{IsSameWay}
use Rattle.cx_laws_keys.proofs.login.Rows.{AfterRow, Allowed, Saying, Simple, TurnOk, after-simple, opened-allowed, simple-with_opened}

module _ {Own Stage : Type 0} (say : Saying Own Stage) (run : WholeRun) (whole : List Logged) (n : NodeName) (line : ℕ) (us : Uses) (log : List Logged) (J : List Entry) where
  pub turn-banner : (a : Arrival Own Stage) (row : Link Stage → Row Own Stage) (link : Link Stage) → Inv run whole us log J → ((l : Link Stage) → Simple say us J n (row l))
      → TurnOk say run whole n line us log J a (turned_by (λ l _. row l) (banner_next link))
  turn-banner a row link i each = by_read (banner_at (ahead_of link))
    where
      by_read : (r : Result (Option (Banner × ℕ)) BannerRefusal) → TurnOk say run whole n line us log J a (turned_by (λ l _. row l) (banner_read link r))
      by_read (Ok None) = tt
      by_read (Ok (Some (b, m))) = λ g. after-simple say run whole n line us log J (row _) i (each _)
      by_read (Err e) = tt

  pub turn-plain : (a : Arrival Own Stage) (row : Link Stage → Frame → Row Own Stage) (link : Link Stage)
      → ((l : Link Stage) (f : Frame) → AreGranted run.leaked whole n line log (row l f).seals → AfterRow say run whole n line us log J (row l f))
      → TurnOk say run whole n line us log J a (turned_by (λ (l, f) _. row l f) (plain_next link))
  turn-plain a row link each = by_read (plain_frame_at (ahead_of link))
    where
      by_read : (r : Result (Option (Frame × ℕ)) FrameRefusal) → TurnOk say run whole n line us log J a (turned_by (λ (l, f) _. row l f) (plain_read link r))
      by_read (Ok None) = tt
      by_read (Ok (Some (f, m))) = each _ f
      by_read (Err e) = tt

  pub turn-secure : (a : Arrival Own Stage) (keys : Keys) (row : Link Stage → Keys → Frame → Row Own Stage) (link : Link Stage) → Inv run whole us log J
      → ((l : Link Stage) (k : Keys) (f : Frame) → IsSameWay k keys → Simple say us J n (row l k f))
      → TurnOk say run whole n line us log J a (turned_by (λ (l, f, k) opened. with_opened opened (row l k f)) (secure_next keys link))
  turn-secure a keys row link i each =
      by_read (opened_parts (sealed_ahead keys link)) (opened-allowed us J n (sealed_ahead keys link)) (secure_frame_at (sealed_ahead keys link))
    where
      by_read : (opened : List SealEntry) → Allowed us J n opened → (r : Result (Option (Frame × ℕ)) SecureRefusal)
          → TurnOk say run whole n line us log J a (turned_by (λ (l, f, k) opened. with_opened opened (row l k f)) (secure_read keys link opened r))
      by_read opened al (Ok None) = tt
      by_read opened al (Ok (Some (f, m))) = λ g.
          after-simple say run whole n line us log J (with_opened opened (row _ _ f)) i (simple-with_opened say us J n opened (row _ _ f) al (each _ _ f (record { key = refl; out = refl; into = refl })))
      by_read opened al (Err e) = al

  -- the same of rows that draw, seal or issue
  pub turn-open : (a : Arrival Own Stage) (keys : Keys) (row : Link Stage → Keys → Frame → Row Own Stage) (link : Link Stage)
      → ((l : Link Stage) (k : Keys) (f : Frame) (opened : List SealEntry) → IsSameWay k keys → Allowed us J n opened → AreGranted run.leaked whole n line log (opened ++ (row l k f).seals)
      → AfterRow say run whole n line us log J (with_opened opened (row l k f)))
      → TurnOk say run whole n line us log J a (turned_by (λ (l, f, k) opened. with_opened opened (row l k f)) (secure_next keys link))
  turn-open a keys row link each =
      by_read (opened_parts (sealed_ahead keys link)) (opened-allowed us J n (sealed_ahead keys link)) (secure_frame_at (sealed_ahead keys link))
    where
      by_read : (opened : List SealEntry) → Allowed us J n opened → (r : Result (Option (Frame × ℕ)) SecureRefusal)
          → TurnOk say run whole n line us log J a (turned_by (λ (l, f, k) opened. with_opened opened (row l k f)) (secure_read keys link opened r))
      by_read opened al (Ok None) = tt
      by_read opened al (Ok (Some (f, m))) = λ g. each _ _ f opened (record { key = refl; out = refl; into = refl }) al g
      by_read opened al (Err e) = al
