-- What a node may hold of the system's, and what others may do with its files.
use Rattle.std.specs.Prelude.{ℕ, ◌-◌, ◌/◌, ◌%◌, Bool, ◌||◌, ◌==◌, min}

-- how many links may stand where a process may open so many files: 32 are left for what else it holds, and there are 2,048 places
abbrev pub places_within : ℕ → ℕ
places_within files = min (files - 32) 2048

-- whether the rights of a file or a folder let its group or others write it
abbrev pub others_write : ℕ → Bool
others_write mode = (mode / 0o20 % 2 == 1) || (mode / 2 % 2 == 1)
