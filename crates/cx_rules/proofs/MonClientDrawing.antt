-- What a turn draws is logged: at a connector.
use Rattle.std.proofs.Common.{◌≡◌, inr, List, [], ◌∷◌, ◌++◌, Option, Some, None}
use Rattle.cx_keyserver.specs.cx_dice.specs.Draws.{challenge_of, cookie_of}
use Rattle.cx_login.specs.cx_steps.specs.Onto.{SomeOf}
use Rattle.cx_login.specs.cx_steps.specs.declared.seals.DrawMark.TheVariants as draw
use Rattle.cx_login.specs.cx_steps.specs.declared.seals.SealEntry.{SealEntry}
use Rattle.cx_login.specs.cx_steps.specs.declared.seals.SealEntry.TheVariants.{Drawn}
use Rattle.cx_rules.specs.Connector.{MonClientArrival, MonClientRow, Stage, AwaitsBanner, AwaitsHello, AwaitsChallenge, AwaitsDone, AwaitsSignature, AwaitsIdent, Open, turned_at}
use Rattle.cx_rules.specs.Judged.{MonClientLogsLink, MonClientLogsStage, MonClientLogsTurn}
use Rattle.cx_rules.specs.Links.{Link}
use Rattle.cx_rules.specs.Holdings.{MonClient}
use Rattle.cx_rules.specs.Rows.{Turned, Waits, Refuses, Handles}
use Rattle.cx_rules.proofs.MonClientWalk.{MonClientWays, mon_client-walk}
use Rattle.cx_rules.proofs.RowWalk.{EachRow}

abbrev Logs : MonClientArrival → MonClientRow → Type 0
Logs a row = MonClientLogsLink a row.seals row.link

some-right : {X : Type 0} (P : X → Type 0) (xs ys : List X) → SomeOf P ys → SomeOf P (xs ++ ys)
some-right P [] ys h = h
some-right P (x ∷ xs) ys h = inr (some-right P xs ys h)

stage-behind : (a : MonClientArrival) (opened seals : List SealEntry) (stage : Stage) → MonClientLogsStage a seals stage → MonClientLogsStage a (opened ++ seals) stage
stage-behind a opened seals (AwaitsBanner asked) h = tt
stage-behind a opened seals (AwaitsHello asked) h = tt
stage-behind a opened seals (AwaitsChallenge asked) h = tt
stage-behind a opened seals AwaitsDone h = some-right (λ logged. logged ≡ Drawn (draw.Challenge (challenge_of a.draw))) opened seals h
stage-behind a opened seals (AwaitsSignature s login) h = tt
stage-behind a opened seals (AwaitsIdent s session) h = some-right (λ logged. logged ≡ Drawn (draw.Cookie (cookie_of a.draw))) opened seals h
stage-behind a opened seals (Open s requests) h = tt

link-behind : (a : MonClientArrival) (opened seals : List SealEntry) (link : Option (Link Stage)) → MonClientLogsLink a seals link → MonClientLogsLink a (opened ++ seals) link
link-behind a opened seals (Some link) h = stage-behind a opened seals link.stage h
link-behind a opened seals None h = tt

-- the same of an arrival on another link, at one that holds something else
link-moved : (a : MonClientArrival) (own : MonClient) (link : Link Stage) (seals : List SealEntry) (found : Option (Link Stage))
    → MonClientLogsLink (record a { own = own; link = link }) seals found → MonClientLogsLink a seals found
link-moved a own link seals None h = tt
link-moved a own link seals (Some l) h = by_stage l.stage h
  where
    by_stage : (stage : Stage) → MonClientLogsStage (record a { own = own; link = link }) seals stage → MonClientLogsStage a seals stage
    by_stage (AwaitsBanner asked) g = tt
    by_stage (AwaitsHello asked) g = tt
    by_stage (AwaitsChallenge asked) g = tt
    by_stage AwaitsDone g = g
    by_stage (AwaitsSignature s login) g = tt
    by_stage (AwaitsIdent s session) g = g
    by_stage (Open s requests) g = tt

mon_client-ways : MonClientWays Logs
mon_client-ways = record {
  refused = λ a why seals fine. tt;
  gone_on = λ a stage bytes seals logs. logs;
  held = λ a holdings row h. link-moved a (record a.own { holdings = holdings }) a.link row.seals row.link h;
  behind = λ a opened row h. link-behind a opened row.seals row.link h;
}

pub mon_client-logs : (a : MonClientArrival) (stage : Stage) → MonClientLogsTurn a (turned_at a stage)
mon_client-logs a stage =
    by_turn (turned_at a stage) (mon_client-walk Logs mon_client-ways (λ b link row h. link-moved b b.own link row.seals row.link h) (λ b s r f reading generations opened is. tt) a stage)
  where
    by_turn : (t : Turned MonClient Stage) → EachRow (Logs a) t → MonClientLogsTurn a t
    by_turn Waits h = tt
    by_turn (Refuses why opened) h = tt
    by_turn (Handles row) h = h
