-- The checks of a message, in their order (document 01, "Refusal numbers"): 5, 6, 7 when it is read, 9, 5, 6, 7 when it is written. The 8
-- comes last, with the lent output.
use Rattle.std.specs.Prelude.{ℕ, ◌-◌, Bool, true, not, ◌&&◌, ◌||◌, cond, leb, None, Option, Some}
use Rattle.message_rules.specs.Answer.{Check, passed, require}
use Rattle.message_rules.specs.Kinds.{inside, id_range, payload_range, error_range, error_length, is_ack, is_nack, is_event}
use Rattle.message_rules.specs.declared.Carries.{Carries}
use Rattle.message_rules.specs.declared.Kind.{Kind}
use Rattle.message_rules.specs.declared.Message.{Message}

-- "Messages": the ID is of the kind's range.
unfoldable pub id_legal : Kind → ℕ → Bool
id_legal k id = inside (id_range k) id

-- "Messages": the kind can carry a payload of n bytes.
unfoldable pub payload_legal : Kind → ℕ → Bool
payload_legal k n = inside (payload_range k) n

-- "Not told" is no number: a nack may have it, an ack not, and the other kinds don't look.
unfoldable pub error_legal : Kind → Option ℕ → Bool
error_legal k (Some e) = inside (error_range k) e
error_legal k None = not (is_ack k)

-- 5 the ID is not of the kind's range, 6 wrong length for the kind, 7 ack error not 0, nack error not 1..10.
unfoldable pub field_checks : Message → Bool → Check
field_checks m fits =
    require (id_legal m.kind m.id) 5
    (require fits 6
    (require (error_legal m.kind m.error) 7
    passed))

-- 9: an event where the link has none, a "not told" nack where the link carries the error byte.
unfoldable pub error_told : Kind → Option ℕ → Bool
error_told k (Some e) = true
error_told k None = not (is_nack k)

unfoldable pub writable : Carries → Message → Bool
writable l m = cond (is_event m.kind) l.events (not l.errors || error_told m.kind m.error)

-- Writing with a payload of n bytes: 9, 5, 6, 7.
unfoldable pub write_checks : Carries → Message → ℕ → Check
write_checks l m n = require (writable l m) 9 (field_checks m (payload_legal m.kind n))

-- Data of n bytes is of the right length: what tells the error, and then a payload that the kind can have.
unfoldable pub data_fits : Kind → ℕ → Bool
data_fits k n = leb (error_length k) n && payload_legal k (n - error_length k)

-- Reading data of n bytes: 5, 6, 7.
unfoldable pub data_checks : Message → ℕ → Check
data_checks m n = field_checks m (data_fits m.kind n)
