-- What handles a turn of a link, behind what was read there; and links in their places.
use Rattle.std.proofs.Common.{◌≡◌, ◌==◌, ℕ, Bool, true, false, cond, List, [], ◌∷◌, ◌++◌, filter, Option, Some, None, Result, Ok, Err, refl}
use Rattle.std.specs.Prelude.{IfSome, nat_lt, not}
use Rattle.std.specs.List.{AllByRecursion}
use Rattle.cx_frame.specs.Banners.{banner_at}
use Rattle.cx_frame.specs.declared.banner.Banner.{Banner}
use Rattle.cx_frame.specs.declared.frame.Frame.{Frame}
use Rattle.cx_frame.specs.declared.refusals.BannerRefusal.{BannerRefusal}
use Rattle.cx_frame.specs.declared.refusals.FrameRefusal.{FrameRefusal}
use Rattle.cx_laws_tickets.specs.cx_rules_session.specs.cx_rules.specs.Fronts.{ahead_of, banner_next, banner_read, keys_behind, opened_parts, plain_next, plain_read, sealed_ahead, secure_next, secure_read, taking}
use Rattle.cx_laws_tickets.specs.cx_rules_session.specs.cx_rules.specs.Links.{Link, put_link, without_link}
use Rattle.cx_laws_tickets.specs.cx_rules_session.specs.cx_rules.specs.Rows.{Row, links_behind, turned_by}
use Rattle.cx_laws_tickets.specs.cx_rules_session.specs.cx_rules.specs.Secured.{Keys}
use Rattle.cx_laws_tickets.specs.cx_rules_session.specs.cx_rules.specs.cx_steps.specs.declared.seals.SealEntry.{SealEntry}
use Rattle.cx_secure.specs.declared.refusals.SecureRefusal.{SecureRefusal}
use Rattle.cx_laws_keys.specs.cx_stream.specs.PlainStreams.{plain_frame_at}
use Rattle.cx_laws_keys.specs.cx_stream.specs.SecureStreams.{secure_frame_at}
use Rattle.cx_laws_tickets.specs.cx_run.proofs.Taking.{EachRow}
use Rattle.cx_laws_tickets.specs.cx_laws_keys.proofs.keys.Lists.{all-append}

-- ---- what handles a turn

module _ {Own Stage : Type 0} (P : Row Own Stage → Type 0) where
  pub banner-each : (link : Link Stage) (row : Link Stage → List SealEntry → Row Own Stage)
      → ((b : Banner) (n : ℕ) → banner_at (ahead_of link) ≡ Ok (Some (b, n)) → P (row (taking link n) [])) → EachRow P (turned_by row (banner_next link))
  banner-each link row each = by_read (banner_at (ahead_of link)) refl
    where
      by_read : (r : Result (Option (Banner × ℕ)) BannerRefusal) → banner_at (ahead_of link) ≡ r → EachRow P (turned_by row (banner_read link r))
      by_read (Ok None) is = tt
      by_read (Ok (Some (b, n))) is = each b n is
      by_read (Err e) is = tt

  pub plain-each : (link : Link Stage) (row : Link Stage × Frame → List SealEntry → Row Own Stage)
      → ((f : Frame) (n : ℕ) → plain_frame_at (ahead_of link) ≡ Ok (Some (f, n)) → P (row (taking link n, f) [])) → EachRow P (turned_by row (plain_next link))
  plain-each link row each = by_read (plain_frame_at (ahead_of link)) refl
    where
      by_read : (r : Result (Option (Frame × ℕ)) FrameRefusal) → plain_frame_at (ahead_of link) ≡ r → EachRow P (turned_by row (plain_read link r))
      by_read (Ok None) is = tt
      by_read (Ok (Some (f, n))) is = each f n is
      by_read (Err e) is = tt

  pub secure-each : (keys : Keys) (link : Link Stage) (row : Link Stage × Frame × Keys → List SealEntry → Row Own Stage)
      → ((f : Frame) (n : ℕ) (opened : List SealEntry) → P (row (taking link n, f, keys_behind keys f) opened)) → EachRow P (turned_by row (secure_next keys link))
  secure-each keys link row each = by_read (opened_parts (sealed_ahead keys link)) (secure_frame_at (sealed_ahead keys link))
    where
      by_read : (opened : List SealEntry) (r : Result (Option (Frame × ℕ)) SecureRefusal) → EachRow P (turned_by row (secure_read keys link opened r))
      by_read opened (Ok None) = tt
      by_read opened (Ok (Some (f, n))) = each f n opened
      by_read opened (Err e) = tt

-- ---- links in their places

pub filtered : {X : Type 0} (P : X → Type 0) (test : X → Bool) (xs : List X) → AllByRecursion P xs → AllByRecursion P (filter test xs)
filtered P test [] h = tt
filtered {X} P test (x ∷ xs) h = by_test (test x) (filtered P test xs h.1)
  where
    by_test : (t : Bool) → AllByRecursion P (filter test xs) → AllByRecursion P (cond t (x ∷ filter test xs) (filter test xs))
    by_test true rest = (h.0, rest)
    by_test false rest = rest

module _ {Stage : Type 0} (P : Link Stage → Type 0) where
  pub placed : (link : Link Stage) (links : List (Link Stage)) → P link → AllByRecursion P links → AllByRecursion P (put_link link links)
  placed link links here h =
      all-append P (filter (λ (l : Link Stage). nat_lt l.number link.number) links) _
      (filtered P (λ (l : Link Stage). nat_lt l.number link.number) links h)
      (here, filtered P (λ (l : Link Stage). nat_lt link.number l.number) links h)

  pub left_out : (number : ℕ) (links : List (Link Stage)) → AllByRecursion P links → AllByRecursion P (without_link number links)
  left_out number links h = filtered P (λ (l : Link Stage). not (l.number == number)) links h

  pub behind-row : (links : List (Link Stage)) (number : ℕ) (bytes : List ℕ) (left : Option (Link Stage)) → IfSome left (λ l. P (record l { sent = l.sent ++ bytes }))
      → AllByRecursion P links → AllByRecursion P (links_behind links number bytes left)
  behind-row links number bytes None here h = left_out number links h
  behind-row links number bytes (Some link) here h = placed (record link { sent = link.sent ++ bytes }) links here h
