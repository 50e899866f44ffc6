-- How many bytes are listed: 65,536 and no more. Carried by the test of the length, on each side of which the definition computes.
use Prim.Native.Nat.{ℕ, ◌≤◌, ◌<◌}
use mathlib.Core.List.{List, ◌++◌}
use mathlib.Core.Path.{◌≡◌}
use borrow.Author.Tests.{le-leb, lt-leb}
use lib.ListN.{length}
use Rattle.listing_rules.specs.Lines.{text}
use Rattle.listing_rules.specs.Listing.{header, lines, listing}

module _ (s : List ℕ) where
  pub listed_past : 65536 < length s → listing s ≡ text "input too long\n"
  unfolding listing
  listed_past h = rw lt-leb

  pub listed-within : length s ≤ 65536 → listing s ≡ header ++ lines (length s) 0 s
  unfolding listing
  listed-within h = rw le-leb
