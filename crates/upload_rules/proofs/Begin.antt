-- The two beginnings of demand 3 stand at the head of the table: an accepted setup and a sender at A, or a sender that has the setup to send. Carried by
-- taking the unit's and the sender's own definitions apart: which tests passed, and what was made then.
use Rattle.std.specs.Prelude.{None, Option, Some, ℕ}
use Prim.Native.Nat.{ℕ, zero-le}
use mathlib.Core.Bool.{true, false}
use mathlib.Core.List.{List, []}
use mathlib.Core.Path.{◌≡◌, refl, sym, ◌∙◌}
use native.Mathlib.Omega.{arith}
use borrow.Author.Tests.{ltb-true, le-ltb, ne_eqb}
use lib.Dec.{ltb}
use lib.ListN.{length}
use Rattle.message_rules.proofs.Answers.{after-given}
use Rattle.message_rules.specs.Answer.{given}
use Rattle.message_rules.proofs.Checks.{require-passed, both_true}
use Rattle.file_rules.specs.File.{size_legal}
use Rattle.file_rules.specs.Setup.{is_job, announced}
use Rattle.link_rules.specs.declared.Link.{Link}
use Rattle.link_rules.specs.declared.Link.TheVariants.{Uart, Rs485, Can, Csp}
use Rattle.device_rules.specs.Faults.{setup_fault, command_fault}
use Rattle.device_rules.specs.declared.Device.{Device}
use Rattle.device_rules.specs.Commands.{new_transfer, setup_done, transfer_done, command_done}
use Rattle.device_rules.specs.Device.{empty_buffer, with_transfer}
use Rattle.sender_rules.specs.Hearing.{stage_steps}
use Rattle.sender_rules.specs.Sender.{first_stage, new_sender, addresses_legal, start}
use Rattle.sender_rules.specs.declared.Sender.{Sender}
use Rattle.upload_rules.specs.Demand.{AcceptedSetup, StartedJob, Start, after_setup, with_job}
use Rattle.upload_rules.specs.SetUp.{set_up_first}
use Rattle.upload_rules.specs.Stored.{waiting}
use Rattle.round_rules.specs.World.{World}
use Rattle.round_rules.proofs.Counting.{tally-begins}
use Rattle.upload_rules.proofs.Exchange.{Addressed}
use Rattle.sender_rules.proofs.Sizes.{count-legal}
use Rattle.sender_rules.proofs.Steps.{JobAt}
use Rattle.upload_rules.proofs.Files.{store-first}
use Rattle.device_rules.proofs.Receive.{carried_out}
use Rattle.device_rules.proofs.Faults.{setup-passed, setup-unit}
use Rattle.device_rules.proofs.Order.{setup_unnamed, setup-fits}
use Rattle.round_rules.proofs.Steady.{runs}
use Rattle.upload_rules.proofs.Table.{Announces, Upload, Situation, closed, free, is_set_up, is_pending, Stands, Told, mark_of, Holding, unit_in, RunsOrEnded}

-- A started sender: its checks passed.
pub addresses : (l : Link) (s t own : ℕ) → addresses_legal l s t ≡ true → (l ≡ Rs485 → t ≡ own) → Addressed l s t own
unfolding addresses_legal
addresses Uart s t own h e = tt
addresses Rs485 s t own h e =
    let both = both_true (ltb 0 s) (ltb 0 t) h in
    let same = e refl in
    (ltb-true 0 s both.0, omega (arith, same, ltb-true 0 t both.1), same)
addresses Can s t own h e = tt
addresses Csp s t own h e = tt

-- A job that is not the last finished one.
other-job : (job : Option ℕ) (number : ℕ) → (job ≡ Some number → ⊥) → is_job job number ≡ false
other-job None number other = refl
other-job (Some n) number other = ne_eqb n number (λ e. other (rw e))

module _ (file : List ℕ) (w : World Sender) where
  -- What both beginnings give: the unit before the setup, which takes it, and the sender.
  pub record Grounds : Type 0 where
    pub unit : Device
    pub number : ℕ
    pub taken : setup_fault unit (length w.store) (announced (length file) number) ≡ None
    pub job : Option ℕ
    pub announces : Announces job number
    pub source : ℕ
    pub destination : ℕ
    pub addressed : Addressed unit.link source destination unit.own
    pub legal : size_legal (length file) ≡ true

  abbrev pub upload : Grounds → Upload
  upload g =
      record {
        file = file;
        start = w.store;
        unit = g.unit;
        number = g.number;
        taken = g.taken;
        job = g.job;
        announces = g.announces;
        source = g.source;
        destination = g.destination;
        addressed = g.addressed;
        legal = g.legal;
        room = (setup-passed g.unit (length w.store) (length file) g.number g.taken).1;
      }

  -- What no calls tell.
  abbrev pub told_first : Told
  told_first = record { set_up = set_up_first w.requester.job; marks = λ j. waiting }

  pub record Begun : Type 0 where
    pub grounds : Grounds
    pub first : RunsOrEnded (upload grounds) w [] told_first

  -- A sender that was started on a unit's link, to its address.
  module _ (unit : Device) (job : Option ℕ) (source destination : ℕ) (started : start unit.link source destination (length file) job ≡ given w.requester tt) where
    -- Its checks passed, and it is new.
    size_checked : size_legal (length file) ≡ true
    unfolding start
    size_checked = (require-passed (size_legal (length file)) 11 _ (after-given _ _ w.requester tt tt started).0).0

    addresses_checked : addresses_legal unit.link source destination ≡ true
    unfolding start
    addresses_checked =
        let size = require-passed (size_legal (length file)) 11 _ (after-given _ _ w.requester tt tt started).0 in
        (require-passed (addresses_legal unit.link source destination) 7 _ size.1).0

    is-new : w.requester ≡ new_sender unit.link source destination (length file) job
    unfolding start
    is-new = sym (after-given _ _ w.requester tt tt started).1

    module _ (addressed : unit.link ≡ Rs485 → destination ≡ unit.own) (number : ℕ) (announces : Announces job number)
        (taken : setup_fault unit (length w.store) (announced (length file) number) ≡ None) where
      abbrev grounds : Grounds
      grounds =
          record {
            unit = unit;
            number = number;
            taken = taken;
            job = job;
            announces = announces;
            source = source;
            destination = destination;
            addressed = addresses unit.link source destination unit.own addresses_checked addressed;
            legal = size_checked;
          }

      -- It stands at its first stage, in a situation that has this stage with nothing stored.
      stands_first : (b : Situation) → w.device ≡ unit_in (upload grounds) b 0 empty_buffer 0 → Holding (upload grounds) b 0 [] → is_pending b ≡ false → set_up_first job ≡ is_set_up b
          → Stands (first_stage job) b 0 0 → JobAt (first_stage job) job → stage_steps job (first_stage job) ≡ 0 → Begun
      unfolding new_sender mark_of
      stands_first b device holding still set_up stands has-job none =
          record {
            grounds = grounds;
            first = runs (record {
              row = record {
                stage = first_stage job;
                frame = 0;
                stored = 0;
                situation = b;
                unit = record {
                  buffer = empty_buffer;
                  buffered = 0;
                  device = device;
                  holding = holding;
                  stores = sym (store-first file w.store);
                  set_up = rw is-new set_up;
                  marked = λ j. rw (le-ltb j 0 zero-le, still);
                };
                stands = stands;
                job = has-job;
              };
              since = 0;
              sends = is-new;
              place = tt;
              below = omega (arith, (count-legal (length file) size_checked).0);
              tally = rw none tally-begins;
            });
          }

  -- The accepted setup opened the unit, and the sender is at A.
  module _ (st : AcceptedSetup file w) where
    setup-taken : setup_fault st.unit (length w.store) (announced (length file) st.number) ≡ None
    unfolding command_fault
    setup-taken = rw (st.setup, st.announces) at st.no_fault

    setup_done_lem : w.device ≡ with_transfer st.unit (new_transfer (length file) st.number)
    unfolding command_done transfer_done setup_done
    setup_done_lem =
        let done = carried_out st.unit (length w.store) st.bytes st.message st.payload st.reads st.output st.reply st.answer st.command st.no_fault st.for_unit st.unrefused in
        sym st.leaves ∙ (rw (st.setup, st.announces) at done)

    after_setup_lem : Begun
    after_setup_lem =
        let some = (count-legal (length file) (size_checked st.unit None st.source st.destination st.started)).0 in
        let opened = setup_done_lem ∙ setup-unit st.unit (length file) st.number some in
        stands_first st.unit None st.source st.destination st.started st.addressed st.number tt setup-taken free opened (omega arith) refl refl refl tt refl

  -- The job's setup will be taken, and the sender has it to send.
  module _ (st : StartedJob file w) where
    abbrev job : Option ℕ
    job = Some st.number

    job-taken : setup_fault w.device (length w.store) (announced (length file) st.number) ≡ None
    job-taken =
        let legal = size_checked w.device job st.source st.destination st.started in
        let new = setup_unnamed (length file) st.number w.device (length w.store) (rw st.none_open) in
        setup-fits (length file) st.number w.device (length w.store) new st.still st.not_open (other-job w.device.finished st.number st.unfinished) legal st.fits

    with_job_lem : Begun
    with_job_lem = stands_first w.device job st.source st.destination st.started st.addressed st.number (refl, st.small) job-taken closed refl refl refl refl (refl, refl) tt refl

  pub begun : Start file w → Begun
  begun (after_setup st) = after_setup_lem st
  begun (with_job st) = with_job_lem st
