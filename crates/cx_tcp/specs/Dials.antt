-- How long a dial waits behind dials that failed.
use Rattle.std.specs.Prelude.{ℕ, ◌-◌, ◌*◌, ◌/◌, ◌==◌, if◌then◌else◌}

-- in milliseconds, before a part is taken away: 100 behind the first failure, doubled with each further one, at most 5,000
abbrev pub whole_time : ℕ → ℕ
whole_time failures =
    if failures == 0 then 100
    else if failures == 1 then 100
    else if failures == 2 then 200
    else if failures == 3 then 400
    else if failures == 4 then 800
    else if failures == 5 then 1600
    else if failures == 6 then 3200
    else 5000

-- a fifth of it goes with the byte: none at 0, all at 255
abbrev pub waiting_time : ℕ → ℕ → ℕ
waiting_time failures roll = whole_time failures - whole_time failures / 5 * roll / 255
