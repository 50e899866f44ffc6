-- What a scan of bytes from a place on finds (document 01, "The two serial links"), by the definition of a scan.
use Rattle.std.specs.Prelude.{ℕ, ◌+◌, List, length, drop}
use Rattle.serial_rules.specs.Stuffing.{scan}
use Rattle.serial_rules.specs.declared.Stop.{Stop}
use Rattle.serial_scan.specs.declared.Scanned.{Scanned}

abbrev pub found : Stop → ℕ → ℕ → Scanned
found how n c = record { stop = how; end = n; count = c }

-- How it stops, the place where, and how many bytes the body has.
abbrev pub scan_from : List ℕ → ℕ → Scanned
scan_from b from = let s = scan (drop from b) in found s.stop (from + s.consumed) (length s.body)
