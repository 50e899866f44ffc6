-- How many records a script's call lends.
use Rattle.std.specs.Prelude.{ℕ, cond, ltb}

-- Of an array of 64 records the first so many, or all.
abbrev pub lent_count : ℕ → ℕ
lent_count count = cond (ltb count 64) count 64
