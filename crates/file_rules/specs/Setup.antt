-- The setup that announces a file, and the job that it belongs to (document 02, ticket 5).
use Rattle.file_rules.specs.declared.Announcement.{Announcement}
use Rattle.std.specs.Prelude.{ℕ, Bool, false, cond, List, [], ◌++◌, eqb, length, take, drop, None, Option, Some}
use Rattle.little_endian_rules.specs.LittleEndian.{from_bytes, to_bytes}

-- "Setup becomes 8 bytes, size then job number", four bytes each.
abbrev pub setup_length : ℕ
setup_length = 8

unfoldable pub setup_bytes : ℕ → ℕ → List ℕ
setup_bytes size number = to_bytes 4 size ++ to_bytes 4 number

-- A payload that says this.
abbrev pub announced : ℕ → ℕ → Option Announcement
announced size number = Some (record { size = size; number = number })

-- What a payload says, unless it has another length than a setup's.
unfoldable pub setup_read : List ℕ → Option Announcement
setup_read p = cond (eqb (length p) setup_length) (announced (from_bytes (take 4 p)) (from_bytes (drop 4 p))) None

-- The payload that announces a file of this size for a job. Without a job there is none to announce.
unfoldable pub setup_payload : ℕ → Option ℕ → List ℕ
setup_payload size None = []
setup_payload size (Some n) = setup_bytes size n

-- Whether there is a job, and it has this number.
abbrev pub is_job : Option ℕ → ℕ → Bool
is_job None number = false
is_job (Some n) number = eqb n number
