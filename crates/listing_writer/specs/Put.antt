-- What it is to put a text at the place that a text in the making has come to.
use Rattle.std.specs.Prelude.{ℕ, ◌+◌, ◌≤◌, List, ◌≡◌, length}
use Rattle.std.proofs.lemmas.List.Edits.{sets}
use Rattle.listing_rules.specs.Listing.{longest}
use Rattle.listing_writer.specs.declared.put.Text.{Text}

-- No place is beyond those of the longest listing.
pub record HasRoom (s : List ℕ) (t : Text) : Type 0 where
  pub room : t.at + length s ≤ longest

-- It stands at the place, as far as the lent output goes, and the next place is behind it.
pub record Puts (s : List ℕ) (t u : Text) : Type 0 where
  pub at : u.at ≡ t.at + length s
  pub out : u.out.now ≡ sets t.out.now t.at s
  -- It is the same output.
  pub same : u.out.ghost_name ≡ t.out.ghost_name
