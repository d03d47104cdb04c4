-- An occasion and an entrant of the rules, as the code holds them.
use Rattle.std.specs.Prelude.{List}
use Rattle.cx_base.specs.declared.kinds.EntityType.{EntityType}
use Rattle.cx_keyserver.specs.Issuing.{Asked, asking}
use Rattle.cx_rules.specs.Verdicts.{Entrant, Occasion, entrant}
use Rattle.cx_steps.specs.declared.seals.SealEntry.{SealEntry}
use Rattle.cx_mon_grants.specs.declared.occasions.Entrant.{Entrant as EntrantRef}
use Rattle.cx_mon_grants.specs.declared.occasions.Occasion.{Occasion as OccasionRef}

-- an occasion, without where it lies
abbrev pub occasion_of : OccasionRef → Occasion
occasion_of o = record { saved = o.saved.now; reading = o.reading; draw = o.draw.now.bytes }

-- an entrant, without where it lies
abbrev pub entrant_of : EntrantRef → List SealEntry → Entrant
entrant_of e seals = entrant e.name.now e.gid e.asked seals

-- the ticket that it asks for a service
abbrev pub asking_by : EntrantRef → EntityType → Asked
asking_by e service = asking e.name.now service e.gid e.session e.at.reading e.at.draw.now.bytes
