-- The sender as the side that asks: each of its calls is lent a file, the one that the calls share or some other.
use Rattle.std.specs.Prelude.{ℕ, List}
use Rattle.round_rules.specs.Requester.{lent, Requester}
use Rattle.sender_rules.specs.Hearing.{hear}
use Rattle.sender_rules.specs.Sender.{start, request}
use Rattle.sender_rules.specs.declared.Sender.{Sender}

abbrev pub sending : List ℕ → Requester Sender
sending file =
    record {
      start = λ s. start s.link s.source s.destination s.size s.job;
      ask = λ s l. request s (lent l file);
      hear = λ s l b. hear s (lent l file) b;
      outcome = λ s. s.state;
    }
