-- Demand 3 begins with an accepted setup: there is one on every link, and on RS485 one that nobody answered. Carried by `Marked`, where the setup is
-- written, read and carried out.
use Rattle.std.specs.Prelude.{Some}
use Prim.Native.Nat.{ℕ}
use mathlib.Core.List.{List, []}
use mathlib.Core.Path.{◌≡◌, refl, sym, ◌∙◌}
use native.Mathlib.Omega.{arith}
use lib.ListN.{length}
use Rattle.file_rules.specs.Setup.{setup_bytes}
use Rattle.file_rules.proofs.Setup.{written_read}
use Rattle.message_rules.specs.Kinds.{carried_on}
use Rattle.message_rules.specs.declared.Kind.TheVariants.{Telecommand}
use Rattle.link_rules.specs.Link.{link_carried}
use Rattle.link_rules.specs.declared.Link.{Link}
use Rattle.link_rules.specs.declared.Link.TheVariants.{Rs485}
use Rattle.device_rules.specs.Device.{no_transfer, new_device}
use Rattle.device_rules.specs.Receive.{Reply, answers, silent, receive}
use Rattle.device_rules.specs.declared.Addressing.{Addressing}
use Rattle.device_rules.specs.declared.Addressing.TheVariants.{Own, Broadcast, Other}
use Rattle.device_rules.specs.declared.Device.{Device}
use Rattle.round_rules.specs.Schedule.{output}
use Rattle.round_rules.specs.World.{bytes_or}
use Rattle.marked_rules.specs.Cases.{plain, setup_on, opened}
use Rattle.marked_rules.specs.Starts.{StartAfter, EveryLinkStarts, BroadcastStarts, started_with, EveryLinkStartsJob, EveryLinkStartsNextJob}
use Rattle.marked_rules.proofs.Marked.{setup-accepted, broadcast_accepted, job-finished, job-starts}
use Rattle.marked_rules.proofs.Setups.{Accepted}

accepted : (l : Link) (destination : ℕ) (a : Addressing) (out : List ℕ) (reply : Device → Reply) → (a ≡ Other → ⊥) → Accepted l destination a out reply → StartAfter l a out reply
unfolding new_device link_carried carried_on
accepted l destination a out reply for_unit h =
    record {
      start = record {
        unit = new_device l 31;
        bytes = setup_on l destination;
        output = out;
        message = link_carried l (plain Telecommand 20 255 destination);
        payload = setup_bytes 300 7;
        reads = h.0;
        command = refl;
        setup = refl;
        number = 7;
        announces = written_read 300 7 (omega arith) (omega arith);
        for_unit = λ e. for_unit (sym h.1 ∙ e);
        no_fault = h.2;
        reply = reply (opened l).device;
        answer = bytes_or [] (receive (new_device l 31) (length (opened l).store) (setup_on l destination));
        unrefused = h.3;
        leaves = h.4;
        source = 255;
        destination = 31;
        started = h.5;
        addressed = λ e. refl;
      };
      setup_addressed = h.1;
      lent = refl;
      replied = refl;
    }

own-not-other : Own ≡ Other → ⊥
own-not-other e = let z : ◌≡◌ {A = ℕ} 0 1 = cc in omega arith

broadcast_not_other : Broadcast ≡ Other → ⊥
broadcast_not_other e = let z : ◌≡◌ {A = ℕ} 0 1 = cc in omega arith

pub every_link-starts : EveryLinkStarts
every_link-starts l = accepted l 31 Own output answers own-not-other (setup-accepted l)

pub broadcast_starts : BroadcastStarts
broadcast_starts = accepted Rs485 0 Broadcast [] silent broadcast_not_other broadcast_accepted

pub every_link-starts-job : EveryLinkStartsJob
unfolding started_with new_device no_transfer
every_link-starts-job l =
    record {
      not_open = refl;
      still = refl;
      none_open = refl;
      fits = omega arith;
      number = 7;
      small = omega arith;
      unfinished = λ e. let z : ◌≡◌ {A = ℕ} 0 1 = cc in omega arith;
      source = 255;
      destination = 31;
      started = job-starts l 7;
      addressed = λ e. refl;
    }

pub every_link-starts-next-job : EveryLinkStartsNextJob
unfolding started_with
every_link-starts-next-job l =
    let left = job-finished l in
    record {
      not_open = left.2;
      still = left.3;
      none_open = left.4;
      fits = omega (arith, left.6);
      number = 8;
      small = omega arith;
      unfinished = λ e. let seven : Some 7 ≡ Some 8 = sym left.5 ∙ e in let z : ◌≡◌ {A = ℕ} 7 8 = cc in omega arith;
      source = 255;
      destination = 31;
      started = rw left.0 (job-starts l 8);
      addressed = λ e. sym left.1;
    }
