-- The sender in an upload, field by field: what depends on the frame that it is at, and what is free.
use Rattle.std.specs.Prelude.{Option, ℕ}
use Prim.Native.Nat.{ℕ}
use Rattle.link_rules.specs.declared.Link.{Link}
use Rattle.sender_rules.specs.declared.Sender.{Sender}
use Rattle.sender_rules.specs.declared.Stage.{Stage}
use Rattle.round_rules.specs.declared.State.{State}

-- A sender from s to t of a file of n bytes, with a job or without.
abbrev pub sender_at : Link → ℕ → ℕ → ℕ → Option ℕ → ℕ → Stage → ℕ → ℕ → State → Sender
sender_at l s t n job frame stage since rounds state =
    record {
      link = l;
      source = s;
      destination = t;
      size = n;
      job = job;
      frame = frame;
      stage = stage;
      since = since;
      rounds = rounds;
      state = state;
    }
