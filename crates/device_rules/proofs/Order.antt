-- The order of the unit's tests and what each looks at, for any unit: each law computes the table of Faults from what it supposes.
use Rattle.file_rules.specs.declared.Announcement.{Announcement}
use Rattle.std.specs.Prelude.{None, Some, Option}
use Prim.Native.Nat.{ℕ, ◌+◌, ◌*◌, ◌-◌, ◌%◌, ◌≤◌, ◌<◌}
use mathlib.Core.Bool.{Bool, true, false, cond, ◌&&◌, and-false, or-true}
use mathlib.Core.List.{List, [], ◌∷◌}
use mathlib.Core.Path.{◌≡◌, refl, subst}
use native.Mathlib.Omega.{arith}
use borrow.Author.Tests.{eq-eqb, ne_eqb, lt-ltb, le-ltb, eqb-true, eqb-false}
use lib.Dec.{ltb, eqb}
use lib.ListN.{length}
use Rattle.little_endian_rules.specs.LittleEndian.{from_bytes}
use Rattle.file_rules.specs.File.{size_legal}
use Rattle.file_rules.specs.Setup.{setup_read, is_job, announced}
use Rattle.device_rules.specs.Device.{is_idle, is_open, buffered_frame, empty_buffer, no_transfer, with_transfer}
use Rattle.device_rules.specs.Commands.{new_transfer, setup_done, transfer_done, command_done}
use Rattle.device_rules.specs.Faults.{fault, is_repeat, setup_fault, is_last_stored, is_out_of_sequence, take_fault, frame_fault, cancel_fault, command_fault}
use Rattle.device_rules.specs.declared.Device.{Device}
use Rattle.device_rules.specs.declared.Transfer.{Transfer}
use Rattle.device_rules.specs.declared.Phase.TheVariants as PhaseOf
use Rattle.device_rules.specs.declared.Fault.{Fault}
use Rattle.device_rules.specs.declared.Fault.TheVariants.{Repeat, Nack}

-- An index other than 0 stands in every nack 3 of take frame, and nowhere else.
abbrev IndexFits : Bool → Option Fault → Type 0
IndexFits take None = Unit
IndexFits take (Some Repeat) = Unit
IndexFits take (Some (Nack e i)) = ltb 0 i ≡ (take && eqb e 3)

row : (take : Bool) (e i : ℕ) (b : Bool) (rest : Option Fault) → IndexFits take (Some (Nack e i)) → IndexFits take rest → IndexFits take (fault e i b rest)
unfolding fault
row take e i true rest here after = here
row take e i false rest here after = after

one_of : (take b : Bool) (f g : Option Fault) → IndexFits take f → IndexFits take g → IndexFits take (cond b f g)
one_of take true f g one other = one
one_of take false f g one other = other

-- Setup: "2 length", whatever the unit is: four bytes, as before document 02, too.
pub setup_length_lem : (d : Device) (store : ℕ) (p : List ℕ) → (length p ≡ 8 → ⊥) → command_fault d store 20 p ≡ Some (Nack 2 0)
unfolding command_fault setup_fault setup_read
setup_length_lem d store p other = simp (ne_eqb (length p) 8 other)

-- What a setup of eight bytes says: "size then job number", and each byte counts.
module _ (a b c e f g h i : ℕ) where
  abbrev payload : List ℕ
  payload = a ∷ b ∷ c ∷ e ∷ f ∷ g ∷ h ∷ i ∷ []

  abbrev size-said : ℕ
  size-said = a + 256 * b + 65536 * c + 16777216 * e

  abbrev number-said : ℕ
  number-said = f + 256 * g + 65536 * h + 16777216 * i

  pub setup-says : setup_read payload ≡ announced size-said number-said
  unfolding setup_read from_bytes
  setup-says =
      let size : from_bytes (a ∷ b ∷ c ∷ e ∷ []) ≡ size-said = omega arith in
      let number : from_bytes (f ∷ g ∷ h ∷ i ∷ []) ≡ number-said = omega arith in
      rw (size, number)

module _ (size number : ℕ) where
  -- It is judged by them,
  pub setup_judged : (d : Device) (store : ℕ) (p : List ℕ) → setup_read p ≡ announced size number → command_fault d store 20 p ≡ setup_fault d store (announced size number)
  unfolding command_fault
  setup_judged d store p says = rw says

  -- and carried out it opens a transfer of that size for that job, with an empty buffer.
  pub setup_opens : (d : Device) (p : List ℕ) → setup_read p ≡ announced size number
      → let t = (command_done d 20 p).transfer in
      (t.phase ≡ PhaseOf.Open) × (t.size ≡ size) × (t.job ≡ Some number) × (t.buffer ≡ empty_buffer) × (t.buffered ≡ 0)
  unfolding command_done transfer_done setup_done new_transfer
  setup_opens d p says = rw says (refl, refl, refl, refl, refl)

  module _ (d : Device) (store : ℕ) where
    abbrev t : Transfer
    t = d.transfer

    abbrev judged : Option Fault
    judged = setup_fault d store (announced size number)

    -- "Ack for the repeat" of the open job's number and size, whether or not a frame is pending, whatever the phase and the store are;
    pub setup_repeats : t.job ≡ Some number → t.size ≡ size → judged ≡ Some Repeat
    unfolding setup_fault is_repeat
    setup_repeats same whole = simp (same, whole, eq-eqb number number refl, eq-eqb size size refl)

    -- with another size, or where another job or none is open, it is no repeat.
    pub setup_resized : (size ≡ t.size → ⊥) → is_repeat t size number ≡ false
    unfolding is_repeat
    setup_resized other = simp (ne_eqb size t.size other, and-false (is_job t.job number))

    pub setup_unnamed : is_job t.job number ≡ false → is_repeat t size number ≡ false
    unfolding is_repeat
    setup_unnamed other = rw other

    module _ (new : is_repeat t size number ≡ false) where
      -- "6 pending", whatever the phase, the last finished job and the size are;
      pub setup-pending : t.pending ≡ true → judged ≡ Some (Nack 6 0)
      unfolding setup_fault fault
      setup-pending pending = simp (new, pending)

      module _ (still : t.pending ≡ false) where
        -- "7 open", whatever the size is;
        pub setup_open : t.phase ≡ PhaseOf.Open → judged ≡ Some (Nack 7 0)
        unfolding setup_fault fault
        setup_open begun = simp (new, still, begun)

        module _ (ended : is_open t.phase ≡ false) where
          -- "7 finished job again", whatever the size is;
          pub setup-finished : d.finished ≡ Some number → judged ≡ Some (Nack 7 0)
          unfolding setup_fault fault
          setup-finished same = simp (new, still, ended, same, eq-eqb number number refl)

          module _ (another : is_job d.finished number ≡ false) where
            -- "3 size 0, above the store or above 16,776,960": the whole number is that, however large the store is,
            pub setup_illegal : size_legal size ≡ false → judged ≡ Some (Nack 3 0)
            unfolding setup_fault fault
            setup_illegal other = simp (new, still, ended, another, other)

            -- or it is above the store;
            pub setup_above : store < size → judged ≡ Some (Nack 3 0)
            unfolding setup_fault fault
            setup_above above = simp (new, still, ended, another, lt-ltb store size above, or-true)

            -- else it is taken, by an idle unit and by a finished one.
            pub setup-fits : size_legal size ≡ true → size ≤ store → judged ≡ None
            unfolding setup_fault fault
            setup-fits legal fits = simp (new, still, ended, another, legal, le-ltb store size fits)

-- "Cancel forgets the open job only": none is open then, and the last finished one stays, whatever the unit is.
pub cancel_forgets : (d : Device) (p : List ℕ) → ((command_done d 23 p).transfer.job ≡ None) × ((command_done d 23 p).finished ≡ d.finished)
unfolding command_done transfer_done no_transfer
cancel_forgets d p = (refl, refl)

-- Take frame: "2 length", whatever the unit is.
pub take-length : (d : Device) (store : ℕ) (p : List ℕ) → (length p ≡ 2 → ⊥) → command_fault d store 21 p ≡ Some (Nack 2 0)
unfolding command_fault take_fault fault
take-length d store p other = simp (ne_eqb (length p) 2 other)

module _ (d : Device) (store : ℕ) (p : List ℕ) (two : length p ≡ 2) where
  -- "7 idle", whatever the number is, and whether or not a frame is pending.
  pub take_idle : d.transfer.phase ≡ PhaseOf.Idle → command_fault d store 21 p ≡ Some (Nack 7 0)
  unfolding command_fault take_fault fault
  take_idle idle = simp (eq-eqb (length p) 2 two, idle)

  -- "6 pending", open or finished, whatever the number is.
  pub take_waits : is_idle d.transfer.phase ≡ false → d.transfer.pending ≡ true → command_fault d store 21 p ≡ Some (Nack 6 0)
  unfolding command_fault take_fault fault
  take_waits begun waits = simp (eq-eqb (length p) 2 two, begun, waits)

-- With nothing pending.
module _ (d : Device) (store : ℕ) (still : d.transfer.pending ≡ false) (p : List ℕ) (two : length p ≡ 2) where
  abbrev number : ℕ
  number = from_bytes p

  abbrev own : ℕ
  own = d.transfer.number

  -- "2, the transfer is finished", whatever the number and the buffer are.
  pub take-finished : d.transfer.phase ≡ PhaseOf.Finished → command_fault d store 21 p ≡ Some (Nack 3 2)
  unfolding command_fault take_fault fault
  take-finished h = simp (eq-eqb (length p) 2 two, h, still)

  module _ (begun : d.transfer.phase ≡ PhaseOf.Open) where
    -- "3, the number is [..] not the next", whatever the buffer is: one stored before the last, or one still to come;
    pub take-other : (number ≡ own → ⊥) → (number ≡ (own + 1) % 65536 → ⊥) → command_fault d store 21 p ≡ Some (Nack 3 3)
    unfolding command_fault take_fault is_last_stored is_out_of_sequence fault
    take-other last next = simp (eq-eqb (length p) 2 two, begun, still, ne_eqb number own last, ne_eqb number ((own + 1) % 65536) next, or-true (eqb number 0xFFFF))

    -- "0xFFFF", also where it is the unit's own, since nothing is stored yet, and also where it would be the next;
    pub take_last : number ≡ 0xFFFF → command_fault d store 21 p ≡ Some (Nack 3 3)
    unfolding command_fault take_fault is_last_stored is_out_of_sequence fault
    take_last h = simp (eq-eqb (length p) 2 two, begun, still, h, and-false (eqb 0xFFFF own))

    -- "1, the number is the one last stored", whatever the buffer is.
    pub take-repeated : number ≡ own → (own ≡ 0xFFFF → ⊥) → command_fault d store 21 p ≡ Some (Nack 3 1)
    unfolding command_fault take_fault is_last_stored fault
    take-repeated same some = simp (eq-eqb (length p) 2 two, begun, still, same, eq-eqb own own refl, ne_eqb own 0xFFFF some)

    -- The next number: the buffer's tests are left.
    module _ (next : number ≡ (own + 1) % 65536) (some : number < 0xFFFF) where
      abbrev buffered : ℕ
      buffered = length (buffered_frame d.transfer)

      abbrev remains : ℕ
      remains = d.transfer.size - d.transfer.stored

      pub take_next : command_fault d store 21 p ≡ fault 7 0 (eqb buffered 0) (fault 3 4 (ltb remains buffered) None)
      unfolding command_fault take_fault is_last_stored is_out_of_sequence fault
      take_next = simp (eq-eqb (length p) 2 two, begun, still, ne_eqb number own (omega arith), ne_eqb number 0xFFFF (omega arith), eq-eqb number ((own + 1) % 65536) next)

      -- "7 buffer empty",
      pub take_empty : buffered ≡ 0 → command_fault d store 21 p ≡ Some (Nack 7 0)
      unfolding fault
      take_empty none = rw (take_next, none)

      -- "4, the buffered frame is longer than what remains".
      pub take_above : remains < buffered → command_fault d store 21 p ≡ Some (Nack 3 4)
      unfolding fault
      take_above h = rw (take_next, ne_eqb buffered 0 (omega arith), lt-ltb remains buffered h)

-- "In this transfer": after a setup every number but the first is 3, whatever the transfer before it had stored.
pub take_anew : (d : Device) (store : ℕ) (q p : List ℕ) (size number : ℕ) → setup_read q ≡ announced size number → length p ≡ 2 → (from_bytes p ≡ 0 → ⊥)
    → command_fault (command_done d 20 q) store 21 p ≡ Some (Nack 3 3)
unfolding command_done transfer_done setup_done new_transfer
take_anew d store q p size number says two other = rw says (by (eqb (from_bytes p) 0xFFFF) refl)
  where
    opened : Device
    opened = with_transfer d (new_transfer size number)

    by : (b : Bool) → eqb (from_bytes p) 0xFFFF ≡ b → command_fault opened store 21 p ≡ Some (Nack 3 3)
    by true e = take_last opened store refl p two refl (eqb-true (from_bytes p) 0xFFFF e)
    by false e = take-other opened store refl p two refl (eqb-false (from_bytes p) 0xFFFF e) other

setup-index : (d : Device) (store : ℕ) (x : Option Announcement) → IndexFits false (setup_fault d store x)
unfolding setup_fault
setup-index d store None = refl
setup-index d store (Some s) = one_of false (is_repeat d.transfer s.size s.number) (Some Repeat) _ tt (row false _ _ _ _ refl (row false _ _ _ _ refl (row false _ _ _ _ refl (row false _ _ _ _ refl tt))))

-- "All other nacks keep index 0": row by row of the table.
pub index-told : (d : Device) (store id : ℕ) (p : List ℕ) (e i : ℕ) → command_fault d store id p ≡ Some (Nack e i) → ltb 0 i ≡ (eqb id 21 && eqb e 3)
unfolding command_fault take_fault frame_fault cancel_fault
index-told d store id p e i h = subst (IndexFits (eqb id 21)) h (by (eqb id 21) refl)
  where
    by : (b : Bool) → eqb id 21 ≡ b → IndexFits (eqb id 21) (command_fault d store id p)
    by true is = rw (eqb-true id 21 is) (row true _ _ _ _ refl (row true _ _ _ _ refl (row true _ _ _ _ refl (row true _ _ _ _ refl (row true _ _ _ _ refl (row true _ _ _ _ refl (row true _ _ _ _ refl (row true _ _ _ _ refl tt))))))))
    by false other =
        rw other
        (one_of false (eqb id 20) _ _ (setup-index d store (setup_read p))
        (one_of false (eqb id 22) _ _ (row false _ _ _ _ refl (row false _ _ _ _ refl (row false _ _ _ _ refl tt)))
        (one_of false (eqb id 23) _ _ (row false _ _ _ _ refl tt)
        refl)))

-- "Any other ID: error 1."
pub other-id : (d : Device) (store id : ℕ) (p : List ℕ) → (id ≡ 20 → ⊥) → (id ≡ 21 → ⊥) → (id ≡ 22 → ⊥) → (id ≡ 23 → ⊥) → command_fault d store id p ≡ Some (Nack 1 0)
unfolding command_fault
other-id d store id p setup take frame cancel = rw (ne_eqb id 20 setup, ne_eqb id 21 take, ne_eqb id 22 frame, ne_eqb id 23 cancel)
