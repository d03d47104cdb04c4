-- What is so of a turn of a client's link to a daemon, from what is so of its rows.
use Rattle.std.proofs.Common.{ℕ, List, [], Option, Some, None, Result, Ok, Err, ap, ◌∙◌}
use Rattle.cx_base.specs.declared.operations.Operation.{Operation}
use Rattle.cx_frame.specs.Banners.{banner_at}
use Rattle.cx_frame.specs.declared.banner.Banner.{Banner}
use Rattle.cx_frame.specs.declared.frame.Frame.{Frame}
use Rattle.cx_frame.specs.declared.refusals.BannerRefusal.{BannerRefusal}
use Rattle.cx_frame.specs.declared.refusals.FrameRefusal.{FrameRefusal}
use Rattle.cx_laws_keys.specs.cx_rules.specs.Fronts.{ahead_of, banner_next, banner_read, plain_next, plain_read, taking}
use Rattle.cx_laws_keys.specs.cx_rules.specs.Links.{Link}
use Rattle.cx_laws_keys.specs.cx_rules.specs.Rows.{Turned, Waits, Refuses, Handles, turned_by}
use Rattle.cx_laws_tickets.specs.cx_run.specs.cx_rules_session.specs.Presenter.{Caller, CallRow, CallStage}
use Rattle.cx_steps.specs.declared.seals.SealEntry.{SealEntry}
use Rattle.cx_laws_keys.specs.cx_stream.specs.PlainStreams.{plain_frame_at}
use Rattle.cx_laws_links.proofs.links.CallWords.{AreQuiet, KeyedStage}

-- what is so of a turn: where it refuses, only what opened is told; and its row
abbrev pub TurnIs : (CallRow → Type 0) → Turned Caller CallStage → Type 0
TurnIs P Waits = Unit {0}
TurnIs P (Refuses why opened) = AreQuiet opened
TurnIs P (Handles row) = P row

pub banner-turned : (P : CallRow → Type 0) (link : Link CallStage) (row : Link CallStage → List SealEntry → CallRow) → ((n : ℕ) → P (row (taking link n) [])) → TurnIs P (turned_by row (banner_next link))
banner-turned P link row each = by_read (banner_at (ahead_of link))
  where
    by_read : (r : Result (Option (Banner × ℕ)) BannerRefusal) → TurnIs P (turned_by row (banner_read link r))
    by_read (Ok None) = tt
    by_read (Ok (Some (b, n))) = each n
    by_read (Err e) = tt

pub plain-turned : (P : CallRow → Type 0) (link : Link CallStage) (row : Link CallStage × Frame → List SealEntry → CallRow) → ((f : Frame) (n : ℕ) → P (row (taking link n, f) []))
    → TurnIs P (turned_by row (plain_next link))
plain-turned P link row each = by_read (plain_frame_at (ahead_of link))
  where
    by_read : (r : Result (Option (Frame × ℕ)) FrameRefusal) → TurnIs P (turned_by row (plain_read link r))
    by_read (Ok None) = tt
    by_read (Ok (Some (f, n))) = each f n
    by_read (Err e) = tt
