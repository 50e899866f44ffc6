-- What is said of a frame, by the way in which the scan stopped.
use Prim.Native.Nat.{ℕ, ◌+◌, ◌-◌}
use mathlib.Core.List.{List}
use mathlib.Core.Path.{◌≡◌}
use native.Mathlib.Nat.{add-sub_cancel_left}
use lib.ListN.{take}
use Rattle.message_rules.specs.Answer.{refused, counted}
use Rattle.serial_rules.specs.Stuffing.{frame_scan}
use Rattle.serial_rules.specs.declared.Stop.TheVariants.{Ended, Broken, Cut}
use Rattle.serial_rules.specs.declared.Stop.{Stop}
use Rattle.serial_rules.specs.Frames.{frame_read}
use Rattle.serial_rules.specs.declared.SerialLink.TheVariants.{Uart}
use Rattle.listing_rules.specs.Listing.{frame_length, said}

module _ (stop : Stop) (f : List ℕ) (scanned : stop ≡ (frame_scan f).stop) where
  pub said_broken : stop ≡ Broken → refused 3 ≡ counted (said (frame_scan f).stop f)
  unfolding said counted
  said_broken e = rw (← scanned, e)

  pub said_cut : stop ≡ Cut → refused 1 ≡ counted (said (frame_scan f).stop f)
  unfolding said counted
  said_cut e = rw (← scanned, e)

  pub said-ended : stop ≡ Ended → (start end : ℕ) → end ≡ start + frame_length f → counted (frame_read Uart (take (end - start) f)) ≡ counted (said (frame_scan f).stop f)
  unfolding said
  said-ended e start end at = rw (← scanned, e, at, add-sub_cancel_left)
