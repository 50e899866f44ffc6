-- An upload call by call: each call keeps the invariant, and no call of a round is refused.
use Prim.Native.Nat.{ℕ, ◌≤◌, ◌<◌}
use mathlib.Core.Bool.{Bool, true, false, ◌||◌}
use mathlib.Core.List.{List, [], ◌∷◌, ◌++◌}
use mathlib.Core.Path.{◌≡◌, refl, ap, ◌∙◌}
use native.Mathlib.Omega.{arith}
use borrow.Author.Tests.{eq-eqb, le-leb}
use lib.ListN.{length, length-replicate}
use Rattle.message_rules.specs.Answer.{Answer, given, require, after, within}
use Rattle.link_rules.specs.Link.{link_read, most_bytes}
use Rattle.link_rules.specs.declared.Link.{Link}
use Rattle.link_rules.specs.declared.Link.TheVariants.{Uart, Rs485, Can, Csp}
use Rattle.device_rules.specs.declared.Device.{Device}
use Rattle.device_rules.specs.Answers.{after_receive}
use Rattle.device_rules.specs.Receive.{answers, receive}
use Rattle.sender_rules.specs.Hearing.{meaning, round_over, hear}
use Rattle.sender_rules.specs.Sender.{same_file, request}
use Rattle.round_rules.specs.Requester.{sent, shared, lent, kept}
use Rattle.sender_rules.specs.declared.Meaning.{Meaning}
use Rattle.sender_rules.specs.declared.Meaning.TheVariants.{Stay, Forward, Differs, Flagged}
use Rattle.sender_rules.specs.declared.Sender.{Sender}
use Rattle.round_rules.specs.declared.State.TheVariants.{Running}
use Rattle.round_rules.specs.Legal.{Place, begun, asked, arrived, repeated, between}
use Rattle.round_rules.specs.Schedule.{output}
use Rattle.sender_rules.specs.Sending.{sending}
use Rattle.upload_rules.specs.SetUp.{is_setup}
use Rattle.upload_rules.specs.Stored.{mark_taken, is_take}
use Rattle.round_rules.specs.World.{World, works, asks, arrives, hears, bytes_or, requester_or, runs_on, does, is_refused, call_check, answer_check, is_failed}
use Rattle.upload_rules.proofs.Arriving.{arrived_situation, arrived_stands, arrived_quiet, Arrival, arrival, read-takes, arrived_mark, read-sets, arrived-sets}
use Rattle.upload_rules.proofs.Asking.{unrefused, asks-bytes, asks-request}
use Rattle.sender_rules.proofs.Sizes.{count-legal}
use Rattle.upload_rules.proofs.Files.{beginning-length}
use Rattle.upload_rules.proofs.Hearing.{handed, stays, goes}
use Rattle.sender_rules.proofs.Requests.{ended_asks_lem}
use Rattle.sender_rules.proofs.Stages.{nothing-heard, ended_hears_lem}
use Rattle.round_rules.proofs.Steady.{Shape, Steady, Free}
use Rattle.upload_rules.proofs.Table.{Upload, Situation, closed, free, loaded, pending, Quiet, Leads, Told, frames, Row, unit_in, sender, Asked, Answered, RunningState, Ended, gave_up, done, RunsOrEnded}
use Rattle.upload_rules.proofs.Working.{worked_count, worked_situation, worked_stands, worked_quiet, told_worked, work-unit, work_free}

-- What the calls tell after an arrival.
abbrev pub told_arrived : World Sender → List ℕ → Told → Told
told_arrived w b told =
    let read = link_read w.device.link b in
    record { set_up = told.set_up || is_setup read; marks = λ j. mark_taken (is_take j read) (told.marks j) }

-- No link needs more room than the output of a schedule.
most_bytes_lem : (l : Link) → most_bytes l ≤ 522
most_bytes_lem Uart = omega arith
most_bytes_lem Rs485 = omega arith
most_bytes_lem Can = omega arith
most_bytes_lem Csp = omega arith

fits-output : {A : Type 0} (l : Link) (x : Answer A (List ℕ)) (a : A) (b : List ℕ) → x ≡ given a b → length b ≤ most_bytes l → is_failed (answer_check (within output x)) ≡ false
unfolding within after require is_failed answer_check
fits-output l x a b e h = rw (e, le-leb (length b) (length output) (omega (arith, h, most_bytes_lem l, length-replicate {A = ℕ} 522 0)))

-- The unit's link is the same in every situation.
same-link : (u : Upload) (b : Situation) (i : ℕ) (buffer : List ℕ) (buffered : ℕ) → (unit_in u b i buffer buffered).link ≡ u.unit.link
same-link u closed i buffer buffered = refl
same-link u free i buffer buffered = refl
same-link u loaded i buffer buffered = refl
same-link u pending i buffer buffered = refl

module _ (u : Upload) where
  module _ (w : World Sender) (past : List Bool) (told : Told) where
    -- The work step, in a round and after the end.
    row-works : (h : Row u w.device w.store told) → let v = does (sending u.file) w (works shared) in Row u v.device v.store (told_worked told)
    unfolding does lent kept
    row-works h =
        record {
          stage = h.stage;
          frame = h.frame;
          stored = worked_count h.situation h.stored;
          situation = worked_situation h.situation;
          unit = work-unit u h.stored h.situation w.device w.store told h.unit;
          stands = worked_stands h.stage h.situation h.frame h.stored h.stands;
          job = h.job;
        }

    -- A round may be begun anew at every place of it.
    keeps_anew : (p : Place) → RunningState u w past told p → RunningState u w past told between
    keeps_anew p h = record { row = h.row; since = h.since; sends = h.sends; place = tt; below = h.below; tally = h.tally }

    keeps_work : RunningState u w past told between → RunningState u (does (sending u.file) w (works shared)) past (told_worked told) (begun true)
    unfolding does row-works
    keeps_work h = record { row = row-works h.row; since = h.since; sends = h.sends; place = worked_quiet h.row.stage h.row.situation; below = h.below; tally = h.tally }

    ended_works_lem : Ended u w.device w.store w.requester past told → let v = does (sending u.file) w (works shared) in Ended u v.device v.store w.requester past (told_worked told)
    unfolding does lent kept row-works
    ended_works_lem (gave_up h) = gave_up (record { row = row-works h.row; since = h.since; sends = h.sends; none_good = h.none_good })
    ended_works_lem (done h) = done (record { frame = h.frame; since = h.since; unit = work-unit u (frames u) free w.device w.store told h.unit; sends = h.sends; last = h.last })

    -- The sender's request.
    keeps_ask : (d : Bool) (out : List ℕ) → is_refused (sending u.file) w (asks shared out) ≡ false → RunningState u w past told (begun d)
        → RunningState u (does (sending u.file) w (asks shared out)) past told (asked d)
    unfolding does
    keeps_ask d out e h =
        record {
          row = h.row;
          since = h.since;
          sends = h.sends;
          place = (h.place, asks-request u w h.row.stage h.row.frame h.since (length past) out h.sends e);
          below = h.below;
          tally = h.tally;
        }

    -- What the table says of its arrival at the unit,
    module _ (p : Place) (d : Bool) (h : RunningState u w past told p) (quiet : Quiet d h.row.stage h.row.situation) (request : Asked u w h.row.stage h.row.frame) where
      -- The store is as long as at the start.
      long : length w.store ≡ length u.start
      long = rw h.row.unit.stores (beginning-length u.file u.start h.row.stored u.room)

      abbrev arriving : let r = h.row in
          let before = unit_in u r.situation r.stored r.unit.buffer r.unit.buffered in
          Arrival u w.request r.frame h.since (length past) h.below d r.stage before r.stored (arrived_situation r.stage r.situation)
      arriving =
          let r = h.row in
          let held = r.unit in
          arrival u w.request r.frame h.since (length past) h.below d r.stage r.situation r.stored held.buffer held.buffered request.reads r.job r.stands quiet held.holding

      abbrev arrived_unit : Device
      arrived_unit = unit_in u (arrived_situation h.row.stage h.row.situation) h.row.stored arriving.buffer arriving.buffered

      gives : receive w.device (length w.store) w.request ≡ given (answers arrived_unit) arriving.serves.bytes
      gives = rw (long, h.row.unit.device) arriving.serves.gives

      arrives_free : is_refused (sending u.file) w (arrives w.request shared output) ≡ false
      unfolding is_refused call_check lent
      arrives_free = fits-output u.unit.link (receive w.device (length w.store) w.request) (answers arrived_unit) arriving.serves.bytes gives arriving.serves.underway.most

      keeps_arrive : (out : List ℕ) → is_refused (sending u.file) w (arrives w.request shared out) ≡ false
          → RunningState u (does (sending u.file) w (arrives w.request shared out)) past (told_arrived w w.request told) (arrived d)
      unfolding is_refused call_check does lent after_receive bytes_or
      keeps_arrive out e =
          let r = h.row in
          let got = unrefused out (receive w.device (length w.store) w.request) (answers arrived_unit) arriving.serves.bytes gives e in
          let link : w.device.link ≡ u.unit.link = ap (λ (x : Device). x.link) r.unit.device ∙ same-link u r.situation r.stored r.unit.buffer r.unit.buffered in
          let small : r.frame < 65536 = omega (arith, h.below, (count-legal (length u.file) u.legal).1) in
          record {
            row = record {
              stage = r.stage;
              frame = r.frame;
              stored = r.stored;
              situation = arrived_situation r.stage r.situation;
              unit = record {
                buffer = arriving.buffer;
                buffered = arriving.buffered;
                device = rw got;
                holding = arriving.holding;
                stores = r.unit.stores;
                set_up = rw (link, request.reads, read-sets u r.stage r.frame, r.unit.set_up) (arrived-sets r.stage r.situation r.frame r.stored r.stands);
                marked = λ j. rw (link, request.reads, read-takes u r.stage r.frame j small, r.unit.marked j) (arrived_mark r.stage r.situation r.frame r.stored j r.stands);
              };
              stands = arrived_stands r.stage r.situation r.frame r.stored r.stands;
              job = r.job;
            };
            since = h.since;
            sends = h.sends;
            place = (
              arrived_quiet d r.stage r.situation quiet,
              request,
              record {
                answer = arriving.serves.answer;
                payload = arriving.serves.payload;
                underway = rw got arriving.serves.underway;
                meant = arriving.meant;
                means = rw (h.sends, got) arriving.serves.means;
                leads = arriving.leads;
              },
            );
            below = h.below;
            tally = h.tally;
          }

    -- and twice is as once.
    again : (d : Bool) → RunningState u w past told (arrived d) → RunningState u w past told (repeated d)
    again d h = record { row = h.row; since = h.since; sends = h.sends; place = h.place; below = h.below; tally = h.tally }

    -- The sender's answer call, with bytes that mean x to it.
    hears_as : (p : Place) (h : RunningState u w past told p) (b : List ℕ) (x : Meaning) → meaning w.requester u.file (link_read u.unit.link b) ≡ x
        → does (sending u.file) w (hears shared b) ≡ handed u w past told (round_over (sender u h.row.frame h.row.stage h.since (length past) Running) x)
    unfolding does lent hear same_file after requester_or require
    hears_as p h b x e =
        rw (h.sends, eq-eqb (length u.file) (length u.file) refl)
        (ap (λ (m : Meaning). handed u w past told (round_over (sender u h.row.frame h.row.stage h.since (length past) Running) m)) (rw h.sends at e))

    -- A round in which nothing comes back, and one in which an answer does.
    keeps_lost : (p : Place) → RunningState u w past told p → RunsOrEnded u (does (sending u.file) w (hears shared [])) (past ++ (false ∷ [])) told
    keeps_lost p h = rw (hears_as p h [] Stay (nothing-heard u.unit.link w.requester u.file)) (stays u w past told p h)

    keeps_delivered : (p : Place) (d : Bool) (h : RunningState u w past told p) → Answered u w d h.row.stage h.row.situation
        → RunsOrEnded u (does (sending u.file) w (hears shared w.answer)) (past ++ (d ∷ [])) told
    keeps_delivered p d h a = rw (hears_as p h w.answer a.meant a.means) (by a.meant a.leads)
      where
        by : (x : Meaning) → Leads x d h.row.stage h.row.situation → RunsOrEnded u (handed u w past told (round_over (sender u h.row.frame h.row.stage h.since (length past) Running) x)) (past ++ (d ∷ [])) told
        by Stay e = rw e (stays u w past told p h)
        by Forward g = goes u w past told p d h g
        by Differs e = elim e [ ]
        by Flagged e = elim e [ ]

    goes_on_lem : (p : Place) → RunningState u w past told p → runs_on (sending u.file) w ≡ true
    goes_on_lem p h = rw h.sends

    is-over : Ended u w.device w.store w.requester past told → runs_on (sending u.file) w ≡ false
    is-over (gave_up h) = rw h.sends
    is-over (done h) = rw h.sends

    -- No call is refused.
    works_free_lem : (p : Place) → RunningState u w past told p → is_refused (sending u.file) w (works shared) ≡ false
    unfolding is_refused call_check lent
    works_free_lem p h = work_free u h.row.stored h.row.situation w.device w.store told h.row.unit

    ended_works_free : Ended u w.device w.store w.requester past told → is_refused (sending u.file) w (works shared) ≡ false
    unfolding is_refused call_check lent
    ended_works_free (gave_up h) = work_free u h.row.stored h.row.situation w.device w.store told h.row.unit
    ended_works_free (done h) = work_free u (frames u) free w.device w.store told h.unit

    asks_free_lem : (p : Place) → RunningState u w past told p → is_refused (sending u.file) w (asks shared output) ≡ false
    unfolding is_refused call_check lent
    asks_free_lem p h =
        let b = asks-bytes u w.requester h.row.stage h.row.frame h.since (length past) h.sends in
        fits-output u.unit.link (request w.requester u.file) sent b.0 b.1 b.2.most

    hears_free_lem : (p : Place) (b : List ℕ) → RunningState u w past told p → is_refused (sending u.file) w (hears shared b) ≡ false
    unfolding is_refused call_check lent hear same_file after is_failed answer_check require
    hears_free_lem p b h = rw (h.sends, eq-eqb (length u.file) (length u.file) refl)

  abbrev pub shape : Shape Sender
  shape = record { Note = Told; note_work = told_worked; note_arrival = told_arrived; Running = RunningState u; Ended = Ended u }

  pub steady : Steady (sending u.file) shape
  steady =
      record {
        goes_on = goes_on_lem;
        is_over = is-over;
        anew = keeps_anew;
        works_one = λ w past n e. keeps_work w past n;
        asks_one = keeps_ask;
        arrives_once = λ w past n d out e h. keeps_arrive w past n (asked d) d h h.place.0 h.place.1 out e;
        arrives_again = λ w past n d out e h. again _ past _ d (keeps_arrive w past n (arrived d) d h h.place.0 h.place.1 out e);
        hears_nothing = λ w past n p e. keeps_lost w past n p;
        hears_once = λ w past n d e h. keeps_delivered w past n (arrived d) d h h.place.2;
        hears_second = λ w past n d e h. keeps_delivered w past n (repeated d) d h h.place.2;
        works_on = λ w past n e. ended_works_lem w past n;
        asks_no_more = λ s l. ended_asks_lem s (lent l u.file);
        hears_no_more = λ s l. ended_hears_lem s (lent l u.file);
      }

  pub steady_free : Free (sending u.file) shape
  steady_free =
      record {
        works_free = works_free_lem;
        asks_free = asks_free_lem;
        once_free = λ w past n d h. arrives_free w past n (asked d) d h h.place.0 h.place.1;
        again_free = λ w past n d h. arrives_free w past n (arrived d) d h h.place.0 h.place.1;
        hears_free = hears_free_lem;
        works_on_free = ended_works_free;
      }
