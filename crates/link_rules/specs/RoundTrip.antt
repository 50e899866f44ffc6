-- Demand 2's round trips, one statement each over every link: "reading what was written returns every carried field, writing what was read
-- returns the bytes".
use Rattle.std.specs.Prelude.{ℕ, List, ◌≡◌}
use Rattle.message_rules.specs.Answer.{given, within, written}
use Rattle.message_rules.specs.declared.Message.{Message}
use Rattle.link_rules.specs.Link.{link_read, link_write, link_carried}
use Rattle.link_rules.specs.declared.Link.{Link}

-- Whatever the output: if writing gives bytes, reading them gives every field that the link and the kind carry, 0 in the others, and the
-- payload.
abbrev pub WrittenReads : Type 0
WrittenReads =
    (l : Link) (m : Message) (p out b : List ℕ)
    → within out (link_write l m p) ≡ written b → link_read l b ≡ given (link_carried l m) p

-- If reading gives a message and a payload, writing them gives the bytes.
abbrev pub ReadWrites : Type 0
ReadWrites = (l : Link) (b : List ℕ) (m : Message) (p : List ℕ) → link_read l b ≡ given m p → link_write l m p ≡ written b
