-- Deliveries in a row, counted.
use Rattle.std.specs.Prelude.{ℕ, zero, suc, None}
use Rattle.cx_words.specs.declared.choices.Side.{Side}
use Rattle.cx_words.specs.declared.choices.Side.TheVariants.{Connector, Acceptor}
use Rattle.cx_world_start.specs.cx_run.specs.Deliveries.{delivers, drains_side}
use Rattle.cx_world_start.specs.cx_run.specs.Worlds.{World}

-- so many pieces from a side arrived
abbrev pub delivers_many : ℕ → ℕ → Side → World → World
delivers_many zero number side w = w
delivers_many (suc count) number side w = delivers (delivers_many count number side w) number side None

-- both sides of a link are drained
abbrev pub drains_both : ℕ → World → World
drains_both number w = drains_side (drains_side w number Connector) number Acceptor

-- so many links were drained, from the first one on
abbrev pub drains_links : ℕ → World → World
drains_links zero w = w
drains_links (suc count) w = drains_both (suc count) (drains_links count w)
