-- CSP data (document 01, "CAN and CSP"): the type 1..6, the ID, then the data as on a serial link.
use Rattle.message_rules.specs.declared.Kind.{Kind}
use Rattle.std.specs.Prelude.{ℕ, true, false, List, ◌∷◌, ◌++◌, leb, length, get_or, drop, None, Option, Some}
use Rattle.message_rules.specs.Answer.{Answer, refused, passed, require, after, written}
use Rattle.message_rules.specs.Data.{data_read, error_bytes}
use Rattle.message_rules.specs.Checks.{write_checks}
use Rattle.message_rules.specs.Kinds.{type_number, type_kind}
use Rattle.message_rules.specs.declared.Carries.{Carries}
use Rattle.message_rules.specs.declared.Message.{Message}

-- 2: no type of this link. CSP carries no addresses: they read as 0.
unfoldable pub csp_typed : Option Kind → ℕ → List ℕ → Answer Message (List ℕ)
csp_typed None id d = refused 2
csp_typed (Some k) id d = data_read k id 0 0 d

-- "Refusal numbers", CSP: 1 (under two bytes), 2, 5, 6, 7. The 8 comes with the lent output.
unfoldable pub csp_read : List ℕ → Answer Message (List ℕ)
csp_read b = after (require (leb 2 (length b)) 1 passed) (csp_typed (type_kind (get_or b 0 0)) (get_or b 1 0) (drop 2 b))

-- 9: events aren't written on CSP, nor a nack that is "not told".
abbrev pub csp_carries : Carries
csp_carries = record { events = false; errors = true }

-- What stands in front of the payload: type, ID, and what tells the error.
unfoldable pub csp_head : Message → List ℕ
csp_head m = type_number m.kind ∷ m.id ∷ error_bytes m

-- "Refusal numbers", writing: 9, 5, 6, 7. The 8 comes with the lent output.
unfoldable pub csp_write : Message → List ℕ → Answer Unit (List ℕ)
csp_write m p = after (write_checks csp_carries m (length p)) (written (csp_head m ++ p))
