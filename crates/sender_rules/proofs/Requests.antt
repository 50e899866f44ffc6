-- What a sender sends: carried by two tests, whether it runs and whether the file has its size. And which answers fit that.
use Prim.Native.Nat.{ℕ}
use mathlib.Core.Bool.{true, false, not, ◌&&◌, ◌||◌}
use mathlib.Core.List.{List, []}
use mathlib.Core.Path.{◌≡◌}
use lib.Dec.{eqb}
use lib.ListN.{length}
use Rattle.message_rules.specs.Answer.{refused, given, require, after, about}
use Rattle.message_rules.specs.declared.Message.{Message}
use Rattle.link_rules.specs.Link.{link_write, carries_addresses}
use Rattle.round_rules.specs.Requester.{sent, nothing, is_running}
use Rattle.sender_rules.specs.Hearing.{fits}
use Rattle.sender_rules.specs.Sender.{same_file, request, request_message, request_payload}
use Rattle.sender_rules.specs.declared.Sender.{Sender}

module _ (s : Sender) (file : List ℕ) where
  pub ended_asks_lem : is_running s.state ≡ false → request s file ≡ given nothing []
  unfolding request
  ended_asks_lem e = rw e

  pub changed-asks : is_running s.state ≡ true → eqb (length file) s.size ≡ false → request s file ≡ refused 11
  unfolding request same_file require after
  changed-asks e q = rw (e, q)

  pub running-asks : is_running s.state ≡ true → eqb (length file) s.size ≡ true
      → request s file ≡ about sent (link_write s.link (request_message s) (request_payload s.stage s.job file s.frame))
  unfolding request same_file require after
  running-asks e q = rw (e, q)

-- An answer fits by the fields of the request.
pub by-request : (s : Sender) (m request : Message) → request ≡ request_message s
    → fits s m ≡ eqb m.id request.id && (not (carries_addresses s.link) || (eqb m.destination request.source && eqb m.source request.destination))
unfolding fits request_message
by-request s m request e = rw e
