-- Worlds that demand 3 begins with: "as the accepted setup (a telecommand 20, carried out) left unit and store" (document 01, "The sender and its
-- rounds"), or with "a sender started with a job number" (document 02, ticket 5). So its claim is not empty.
use Rattle.std.specs.Prelude.{ℕ, List, [], ◌≡◌, Some}
use Rattle.link_rules.specs.declared.Link.{Link}
use Rattle.link_rules.specs.declared.Link.TheVariants.{Rs485}
use Rattle.device_rules.specs.Receive.{Reply, answers, silent, addressing}
use Rattle.device_rules.specs.declared.Addressing.{Addressing}
use Rattle.device_rules.specs.declared.Addressing.TheVariants.{Own, Broadcast}
use Rattle.device_rules.specs.Device.{new_device}
use Rattle.device_rules.specs.declared.Device.{Device}
use Rattle.round_rules.specs.Schedule.{output}
use Rattle.round_rules.specs.World.{World}
use Rattle.sender_rules.specs.Sender.{new_sender}
use Rattle.sender_rules.specs.declared.Sender.{Sender}
use Rattle.upload_rules.specs.Demand.{AcceptedSetup, StartedJob}
use Rattle.marked_rules.specs.Cases.{file, empty_store, opened, all_delivered}

-- The world of P11 and P12 on a link, after a setup that was addressed so, lent this output, and replied to so.
pub record StartAfter (l : Link) (a : Addressing) (out : List ℕ) (replies : Device → Reply) : Type 0 where
  pub start : AcceptedSetup file (opened l)
  pub setup_addressed : addressing start.unit.link start.unit.own start.message ≡ a
  pub lent : start.output ≡ out
  pub replied : start.reply ≡ replies (opened l).device

-- For the unit, on every link, it is answered.
abbrev pub EveryLinkStarts : Type 0
EveryLinkStarts = (l : Link) → StartAfter l Own output answers

-- As a broadcast it "gets no answer" (document 02, ticket 2), needs no output, and leaves the same unit.
abbrev pub BroadcastStarts : Type 0
BroadcastStarts = StartAfter Rs485 Broadcast [] silent

-- A unit on a link, and a sender newly started with a job for the file of P11 and P12.
unfoldable pub started_with : Link → Device → List ℕ → ℕ → World Sender
started_with l unit store number = record { device = unit; store = store; requester = new_sender l 255 31 300 (Some number); request = []; answer = [] }

-- With a job demand 3 begins on every link at a new unit,
abbrev pub EveryLinkStartsJob : Type 0
EveryLinkStartsJob = (l : Link) → StartedJob file (started_with l (new_device l 31) empty_store 7)

-- and at one that has finished another job: that of P11.
abbrev pub EveryLinkStartsNextJob : Type 0
EveryLinkStartsNextJob = (l : Link) → StartedJob file (started_with l (all_delivered l).device (all_delivered l).store 8)
