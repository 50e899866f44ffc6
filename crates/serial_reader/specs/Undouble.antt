-- Places in a frame and in the output, for the code that undoubles a body step by step. An encoded byte is one byte, or ESC with the byte
-- after it.
use Rattle.std.specs.Prelude.{ℕ, ◌+◌, ◌≤◌, ◌<◌, List, ◌≡◌, length, get_or, drop}
use Rattle.std.proofs.lemmas.List.Edits.{sets}
use Rattle.serial_rules.specs.Stuffing.{esc, scan}
use Rattle.serial_rules.specs.declared.Stop.TheVariants.{Ended}

-- The place `at` stands n encoded bytes after `from`: a scan from there finds the same end, and the body less n bytes.
pub record Skipped (b : List ℕ) (from n at : ℕ) : Type 0 where
  pub body : (scan (drop at b)).body ≡ drop n (scan (drop from b)).body
  pub stop : (scan (drop at b)).stop ≡ (scan (drop from b)).stop
  pub end : at + (scan (drop at b)).consumed ≡ from + (scan (drop from b)).consumed

-- From `at` on a body stands to its tail, and the output has room for it from `to` on.
pub record Fits (b out : List ℕ) (at to : ℕ) : Type 0 where
  pub ended : (scan (drop at b)).stop ≡ Ended
  pub room : to + length (scan (drop at b)).body ≤ length out

-- The output once that body is stored there.
abbrev pub body_stored : List ℕ → ℕ → List ℕ → ℕ → List ℕ
body_stored b at out to = sets out to (scan (drop at b)).body

-- What is left to store fits, and makes the output whole.
pub record Storing (b whole out : List ℕ) (at to : ℕ) : Type 0 where
  pub fits : Fits b out at to
  pub same : body_stored b at out to ≡ whole

-- Storing has come to an ESC, and a byte stands after it.
pub record AtEscape (b whole out : List ℕ) (at to : ℕ) : Type 0 where
  pub escape : get_or b at 0 ≡ esc
  pub next : at + 1 < length b
  pub left : Storing b whole out at to
